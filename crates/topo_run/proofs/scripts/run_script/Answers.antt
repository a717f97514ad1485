use Rattle.std.proofs.Common.{◌≡◌, IfErr, List, ap, refl, rules, subst, ◌∙◌}
use Rattle.topo_core.specs.declared.calls.Command.{Command}
use Rattle.topo_core.specs.declared.rows.Rows.{Rows}
use Rattle.topo_core.specs.History.{IsRun}
use Rattle.topo_io.proofs.Interface.{err_so, sound_so}
use Rattle.topo_io.specs.Settings.{IsSound, priced, start_of}
use Rattle.topo_rows.specs.Shown.{Shown}
use Rattle.topo_run.proofs.Passing.{own_run}
use Rattle.topo_run.proofs.Telling.{run_fails}
use Rattle.topo_run.specs.Working.{IsOfRun}
use Rattle.topo_run.proofs.scripts.run_script.Goals as goal

pub returns-in_err-outcome-clause-fault : goal.returns-in_err-outcome-clause-fault
returns-in_err-outcome-clause-fault g c =
    let script = c.args.script.now in
    let limits = c.in_ok-start.field-0.start.limits in
    let begun : _ ≡ script.start = search rules in
    let sound : IsSound script.limits script.prices script.start limits =
    sound_so script.limits _ script.prices _ script.start limits c.as_slice-prices.ensures begun c.in_ok-start.ensures.sound in
    let told : IfErr c.from_residual-in_err-outcome.result (IsOfRun c.as_slice.result.now) = search rules in
    err_so c.from_residual-in_err-outcome.result _ _ (λ fault is. run_fails script fault (record { limits = limits; sound = sound })
    (subst (λ (lists : List (List Command)). IsOfRun lists fault) c.as_slice.ensures is)) told

pub returns-clause-report : goal.returns-clause-report
returns-clause-report g c =
    let script = c.args.script.now in
    let set : Shown = c.in_ok-start.field-0.start in
    let outcome = c.in_ok-outcome.outcome in
    let begun : _ ≡ script.start = search rules in
    let start : set.rows ≡ start_of script.start = c.in_ok-start.ensures.rows ∙ ap start_of begun in
    let run = own_run c.requires c.as_slice.ensures c.in_ok-outcome.ensures.run in
    record {
      limits = set.limits;
      sound = sound_so script.limits _ script.prices _ script.start set.limits c.as_slice-prices.ensures begun c.in_ok-start.ensures.sound;
      same_limits = refl;
      same_prices = c.from_vec.ensures ∙ c.in-Ok-Ok.ensures.items ∙ c.as_slice-prices.ensures;
      same_start = c.in-Ok-Ok.ensures'.rows ∙ start;
      run = subst (λ (p : Rows). IsRun (priced script.prices) set.limits p script.workers outcome.history outcome.picture) start run;
    }
