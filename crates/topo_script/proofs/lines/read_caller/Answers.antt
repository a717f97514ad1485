use Rattle.std.proofs.Common.{◌≡◌, ◌<◌, Err, ◌∙◌, rules, arith}
use Rattle.topo_script.proofs.Lookups.{is_number_below}
use Rattle.serde_json.specs.View.{view}
use Rattle.topo_script.proofs.lines.read_caller.Goals as goal

pub returns-in_err-caller : goal.returns-in_err-caller
returns-in_err-caller c =
    let same : c.from_residual.result ≡ Err c.in_err-caller.field-0.0 = search rules in
    same ∙ c.in_err-caller.ensures

pub overflow_cast-result : goal.overflow_cast-result
overflow_cast-result c =
    let h : c.in_ok-caller.caller < 16 = is_number_below 16 c.args.path (view c.args.value.now) c.in_ok-caller.caller c.in_ok-caller.ensures in
    omega arith
