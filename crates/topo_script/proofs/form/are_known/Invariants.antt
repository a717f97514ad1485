use Rattle.std.proofs.Common.{◌≡◌}
use Rattle.serde_json.specs.View.{members_view}
use Rattle.topo_script.specs.Reads.{all_known}
use Rattle.topo_script.proofs.form.are_known.Given as goal

abbrev pub invariant-loop-name : goal.invariant-loop-name
invariant-loop-name l = all_known l.keys (members_view l.name-iterator) ≡ all_known l.keys (members_view l.initial.name-iterator)
