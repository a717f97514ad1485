use Rattle.std.proofs.Common.{◌≡◌, rules}
use Rattle.topo_core.specs.declared.calls.Call.TheVariants.{Delete, Grow, Insert}
use Rattle.topo_core.specs.History.{call_of}
use Rattle.topo_session.proofs.Entering.{lost_so}
use Rattle.topo_session.proofs.lines.carry.Goals as goal

pub returns-in_ok-reply-in-Plain-Grow-clause-lost : goal.returns-in_ok-reply-in-Plain-Grow-clause-lost
returns-in_ok-reply-in-Plain-Grow-clause-lost g c =
    let is : call_of c.args.command ≡ Grow c.in-Plain-Grow.u c.in-Plain-Grow.position c.in-Plain-Grow.kind = search rules in
    lost_so c.args.caller c.args.command (Grow c.in-Plain-Grow.u c.in-Plain-Grow.position c.in-Plain-Grow.kind) c.in_ok-reply-in-Plain-Grow.reply c.args.session.now c.grow.new.self c.text_of.result is
    c.in_ok-reply-in-Plain-Grow.ensures.entered

pub returns-in_ok-reply-in-Plain-Insert-clause-lost : goal.returns-in_ok-reply-in-Plain-Insert-clause-lost
returns-in_ok-reply-in-Plain-Insert-clause-lost g c =
    let is : call_of c.args.command ≡ Insert c.in-Plain-Insert.u c.in-Plain-Insert.v c.in-Plain-Insert.kind = search rules in
    lost_so c.args.caller c.args.command (Insert c.in-Plain-Insert.u c.in-Plain-Insert.v c.in-Plain-Insert.kind) c.in_ok-reply-in-Plain-Insert.reply c.args.session.now c.insert.new.self c.text_of-in-Plain-Insert.result is
    c.in_ok-reply-in-Plain-Insert.ensures.entered

pub returns-in_ok-reply-in-Plain-Delete-clause-lost : goal.returns-in_ok-reply-in-Plain-Delete-clause-lost
returns-in_ok-reply-in-Plain-Delete-clause-lost g c =
    let is : call_of c.args.command ≡ Delete c.in-Plain-Delete.edge = search rules in
    lost_so c.args.caller c.args.command (Delete c.in-Plain-Delete.edge) c.in_ok-reply-in-Plain-Delete.reply c.args.session.now c.delete.new.self c.text_of-in-Plain-Delete.result is
    c.in_ok-reply-in-Plain-Delete.ensures.entered

pub returns-in_ok-reply-in-Planned-clause-lost : goal.returns-in_ok-reply-in-Planned-clause-lost
returns-in_ok-reply-in-Planned-clause-lost g c =
    let is : call_of c.args.command ≡ Insert c.in-Planned.u c.in-Planned.v c.in-Planned.kind = search rules in
    lost_so c.args.caller c.args.command (Insert c.in-Planned.u c.in-Planned.v c.in-Planned.kind) c.in_ok-reply-in-Planned.reply c.args.session.now c.insert-in-Planned.new.self c.text_of-in-Planned.result is
    c.in_ok-reply-in-Planned.ensures.entered
