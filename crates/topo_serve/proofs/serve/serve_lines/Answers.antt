use Rattle.std.proofs.Common.{◌≡◌, rules, subst, true, false}
use Rattle.topo_serve.specs.Turns.{IsTurn, LinesFailBy, streams}
use Rattle.topo_serve.proofs.SessionLaws.{served_none, turn_fails, turn_last, turn_on}
use Rattle.topo_serve.proofs.serve.serve_lines.Goals as goal

pub loop-init : goal.loop-init
loop-init g c = served_none (streams (g.I.Read.remaining c.args.reader.now) c.args.ahead.now (g.O.Write.contents c.args.writer.now)) c.args.session.now

pub returns-in_err-serve_line-clause-fault : goal.returns-in_err-serve_line-clause-fault
returns-in_err-serve_line-clause-fault g c =
    let old = streams (g.I.Read.remaining c.args.reader.now) c.args.ahead.now (g.O.Write.contents c.args.writer.now) in
    let mid = streams (g.I.Read.remaining c.loop.reader) c.loop.ahead (g.O.Write.contents c.loop.writer) in
    let new = streams (g.I.Read.remaining c.serve_line.new.reader) c.serve_line.new.ahead (g.O.Write.contents c.serve_line.new.writer) in
    let fault = c.in_err-serve_line.field-0.0 in
    let told : LinesFailBy fault old new c.args.session.now =
    turn_fails old mid new c.args.session.now c.loop.session c.loop.invariant fault c.in_err-serve_line.ensures.fault in
    search (rules, told)

pub returns-then-not-branch-clause-done : goal.returns-then-not-branch-clause-done
returns-then-not-branch-clause-done g c =
    let old = streams (g.I.Read.remaining c.args.reader.now) c.args.ahead.now (g.O.Write.contents c.args.writer.now) in
    let mid = streams (g.I.Read.remaining c.loop.reader) c.loop.ahead (g.O.Write.contents c.loop.writer) in
    let new = streams (g.I.Read.remaining c.serve_line.new.reader) c.serve_line.new.ahead (g.O.Write.contents c.serve_line.new.writer) in
    let to = c.serve_line.new.session in
    let last : c.in_ok-serve_line.field-0 ≡ false = search rules in
    turn_last old mid new c.args.session.now c.loop.session c.loop.invariant to
    (subst (IsTurn mid new c.loop.session to) last c.in_ok-serve_line.ensures.turn)

pub loop-preserved : goal.loop-preserved
loop-preserved g c =
    let old = streams (g.I.Read.remaining c.args.reader.now) c.args.ahead.now (g.O.Write.contents c.args.writer.now) in
    let mid = streams (g.I.Read.remaining c.loop.reader) c.loop.ahead (g.O.Write.contents c.loop.writer) in
    let new = streams (g.I.Read.remaining c.serve_line.new.reader) c.serve_line.new.ahead (g.O.Write.contents c.serve_line.new.writer) in
    let to = c.serve_line.new.session in
    let more : c.in_ok-serve_line.field-0 ≡ true = search rules in
    turn_on old mid new c.args.session.now c.loop.session c.loop.invariant to
    (subst (IsTurn mid new c.loop.session to) more c.in_ok-serve_line.ensures.turn)
