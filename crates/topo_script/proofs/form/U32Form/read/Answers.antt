use Rattle.std.proofs.Common.{◌≡◌, ◌+◌, ◌<◌, ◌^◌, ℕ, Ok, Err, sym, rules, arith, subst}
use Rattle.topo_script.proofs.Lookups.{is_number_below}
use Rattle.topo_script.proofs.Steps.{told}
use Rattle.topo_script.specs.Reads.{Gives, number_form, number_below}
use Rattle.serde_json.specs.View.{view}
use Rattle.topo_script.proofs.form.U32Form.read.Goals as goal

pub returns-in_err-number : goal.returns-in_err-number
returns-in_err-number c =
    let same : c.from_residual.result ≡ Err c.in_err-number.field-0.0 = search rules in
    let bound : c.from.result + 1 ≡ 2 ^ 32 = omega (arith, c.from.ensures) in
    subst (λ q. Gives q (number_form c.args.path (view c.args.value.now))) (sym same)
    (told _ _ (subst (λ (b : ℕ). Err c.in_err-number.field-0.0 ≡ number_below b c.args.path (view c.args.value.now)) bound c.in_err-number.ensures))

pub overflow_cast-result : goal.overflow_cast-result
overflow_cast-result c =
    let bound : c.from.result + 1 ≡ 2 ^ 32 = omega (arith, c.from.ensures) in
    let h : c.in_ok-number.number < 2 ^ 32 = is_number_below (2 ^ 32) c.args.path (view c.args.value.now) c.in_ok-number.number
    (subst (λ (b : ℕ). Ok c.in_ok-number.number ≡ number_below b c.args.path (view c.args.value.now)) bound c.in_ok-number.ensures) in
    omega arith
