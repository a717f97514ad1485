use Rattle.std.proofs.Common.{◌≡◌, drop}
use Rattle.serde_json.specs.View.{view}
use Rattle.topo_script.specs.Reads.{all_there}
use Rattle.topo_script.proofs.form.check_due.Given as goal

abbrev pub invariant-loop-known : goal.invariant-loop-known
invariant-loop-known l = all_there l.path (drop l.known-index l.keys) (view l.value) ≡ all_there l.path l.keys (view l.value)
