use Rattle.std.proofs.Common.{option_copied, rules, subst, sym}
use Rattle.topo_core.specs.declared.limits.Limits.{Limits}
use Rattle.topo_io.proofs.settings.validate.Goals as goal
use Rattle.topo_io.specs.Limiting.{AreLimits}

pub returns-in_err-limits-clause-fault : goal.returns-in_err-limits-clause-fault
returns-in_err-limits-clause-fault c =
    let why = c.in_err-limits.ensures.fault (option_copied c.args.start) in
    search rules

pub returns-in-Err : goal.returns-in-Err
returns-in-Err c = record {
  prices = tt;
  sound = tt;
  rows = tt;
  fault = (
    c.in_ok-limits.ensures.good,
    record {
      limits = c.in_ok-limits.limits;
      same_numbers = c.in_ok-limits.ensures.limits;
      rows = c.in-Some.rows.now;
      named = search rules;
      first = c.in-Err.ensures.refused;
    },
  );
}

pub returns-in-Ok-seed-clause-sound : goal.returns-in-Ok-seed-clause-sound
returns-in-Ok-seed-clause-sound c = record {
  same_numbers = subst (λ (limits : Limits). AreLimits c.args.numbers limits) (sym c.in-Ok-seed.ensures.limits) c.in_ok-limits.ensures.limits;
  good_prices = c.in_ok-limits.ensures.good;
  lawful = search rules;
}
