use Rattle.std.proofs.Common.{◌≡◌, Some, refl, rules}
use Rattle.fezdrok_c.proofs.Losing.{open_gives, open_loses}
use Rattle.fezdrok_c.proofs.typed.perform_in.Goals as goal

pub returns-in-Some-clause-given : goal.returns-in-Some-clause-given
returns-in-Some-clause-given g c =
    let old : c.args.session.now ≡ Some c.in-Some.session = search rules in
    open_gives c.args.caller c.args.asked c.args.session.now _ c.in-Some.session c.perform.new.session c.perform.result old refl c.perform.ensures.given

pub returns-in-Some-clause-lost : goal.returns-in-Some-clause-lost
returns-in-Some-clause-lost g c =
    let old : c.args.session.now ≡ Some c.in-Some.session = search rules in
    open_loses c.args.caller c.args.asked c.args.session.now _ c.in-Some.session c.perform.new.session c.perform.result old refl c.perform.ensures.lost
