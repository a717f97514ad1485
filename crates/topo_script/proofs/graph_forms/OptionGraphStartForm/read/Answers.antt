use Rattle.std.proofs.Common.{◌≡◌, Err, rules}
use Rattle.topo_script.specs.Graphs.{some_answer}
use Rattle.topo_script.proofs.Steps.{stops_at, went}
use Rattle.topo_script.proofs.graph_forms.OptionGraphStartForm.read.Goals as goal

pub returns-in_err-start : goal.returns-in_err-start
unfolding some_answer
returns-in_err-start c = let same : c.from_residual.result ≡ Err c.in_err-start.field-0.0 = search rules in
    stops_at _ _ _ c.from_residual.result same c.in_err-start.ensures

pub returns : goal.returns
unfolding some_answer
returns c = went _ _ _ c.in_ok-start.ensures
