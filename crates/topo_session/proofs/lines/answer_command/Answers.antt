use Rattle.std.proofs.Common.{◌≡◌, Some, refl, rules, string_bytes}
use Rattle.topo_io.proofs.Interface.{ok_so}
use Rattle.topo_session.proofs.Responding.{command_lost, command_told}
use Rattle.topo_session.proofs.lines.answer_command.Goals as goal

pub returns-in-Some-clause-answered : goal.returns-in-Some-clause-answered
returns-in-Some-clause-answered g c =
    let old : c.args.session.now ≡ Some c.in-Some.open = search rules in
    ok_so c.carry.result _ _
    (λ text is. command_told c.args.command c.args.session.now _ c.in-Some.open c.carry.new.session (string_bytes text) old refl is)
    c.carry.ensures.carried

pub returns-in-Some-clause-lost : goal.returns-in-Some-clause-lost
returns-in-Some-clause-lost g c =
    let old : c.args.session.now ≡ Some c.in-Some.open = search rules in
    command_lost c.args.command c.args.session.now _ c.in-Some.open c.carry.new.session old refl c.carry.result c.carry.ensures.lost
