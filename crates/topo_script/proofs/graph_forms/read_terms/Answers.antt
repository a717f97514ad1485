use Rattle.std.proofs.Common.{◌≡◌, Err, rules, ◌∙◌}
use Rattle.topo_script.proofs.Steps.{gives_past, stops_at, went}
use Rattle.topo_script.proofs.graph_forms.read_terms.Goals as goal

pub returns-in_err-progress : goal.returns-in_err-progress
returns-in_err-progress c = let same : c.from_residual.result ≡ Err c.in_err-progress.field-0.0 = search rules in
    stops_at _ _ _ c.from_residual.result same c.in_err-progress.ensures

pub returns-in_err-seconds : goal.returns-in_err-seconds
returns-in_err-seconds c = let same : c.from_residual-in_err-seconds.result ≡ Err c.in_err-seconds.field-0.0 = search rules in
    gives_past _ _ _ c.from_residual-in_err-seconds.result c.in_ok-progress.ensures
    (stops_at _ _ _ c.from_residual-in_err-seconds.result same c.in_err-seconds.ensures)

pub returns-in_err-seed : goal.returns-in_err-seed
returns-in_err-seed c = let same : c.from_residual-in_err-seed.result ≡ Err c.in_err-seed.field-0.0 = search rules in
    gives_past _ _ _ c.from_residual-in_err-seed.result c.in_ok-progress.ensures
    (gives_past _ _ _ c.from_residual-in_err-seed.result c.in_ok-seconds.ensures
    (stops_at _ _ _ c.from_residual-in_err-seed.result same c.in_err-seed.ensures))

pub returns : goal.returns
returns c = went _ _ _ c.in_ok-progress.ensures ∙ went _ _ _ c.in_ok-seconds.ensures ∙ went _ _ _ c.in_ok-seed.ensures
