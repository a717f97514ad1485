use Rattle.std.proofs.Common.{◌≡◌, Err, sym, rules, ◌∙◌}
use Rattle.topo_script.specs.Graphs.{threads_form}
use Rattle.topo_script.proofs.Steps.{gives_past, stops_at, told, went}
use Rattle.topo_script.proofs.graph_forms.read_threads.Goals as goal

pub returns-in_err-threads : goal.returns-in_err-threads
unfolding threads_form
returns-in_err-threads c = let same : c.from_residual.result ≡ Err c.in_err-threads.field-0.0 = search rules in
    stops_at _ _ _ c.from_residual.result same c.in_err-threads.ensures

pub returns-in_err-check_threads : goal.returns-in_err-check_threads
unfolding threads_form
returns-in_err-check_threads c = let same : c.from_residual-in_err-check_threads.result ≡ Err c.in_err-check_threads.field-0.0 = search rules in
    gives_past _ _ _ c.from_residual-in_err-check_threads.result c.in_ok-threads.ensures
    (stops_at _ _ _ c.from_residual-in_err-check_threads.result same (told _ _ c.in_err-check_threads.ensures))

pub returns : goal.returns
unfolding threads_form
returns c = went _ _ _ c.in_ok-threads.ensures ∙ went _ _ _ (sym c.in_ok-check_threads.ensures)
