use Rattle.std.proofs.Common.{◌≡◌, false, rules, subst, true}
use Rattle.topo_io.proofs.Interface.{err_so, ok_so}
use Rattle.topo_serve.specs.Sessions.{ServeFailsBy}
use Rattle.topo_serve.specs.Turns.{Begins, streams}
use Rattle.topo_serve.proofs.OpeningLaws.{first_fails, served, served_one, then_fails}
use Rattle.topo_serve.proofs.serve.serve_session.Goals as goal

pub returns-in_err-serve_first-clause-fault : goal.returns-in_err-serve_first-clause-fault
returns-in_err-serve_first-clause-fault g c =
    let old = streams (g.I.Read.remaining c.args.reader.now) c.args.ahead.now (g.O.Write.contents c.args.writer.now) in
    let mid = streams (g.I.Read.remaining c.serve_first.new.reader) c.serve_first.new.ahead (g.O.Write.contents c.serve_first.new.writer) in
    let fault = c.in_err-serve_first.field-0.0 in
    let told : ServeFailsBy fault old.left mid.left old.held mid.held = first_fails fault old mid c.in_err-serve_first.ensures.fault in
    search (rules, told)

pub returns-then-branch-clause-done : goal.returns-then-branch-clause-done
returns-then-branch-clause-done g c =
    let old = streams (g.I.Read.remaining c.args.reader.now) c.args.ahead.now (g.O.Write.contents c.args.writer.now) in
    let mid = streams (g.I.Read.remaining c.serve_first.new.reader) c.serve_first.new.ahead (g.O.Write.contents c.serve_first.new.writer) in
    let new = streams (g.I.Read.remaining c.serve_lines.new.reader) c.serve_lines.new.ahead (g.O.Write.contents c.serve_lines.new.writer) in
    let more : c.in_ok-serve_first.field-0 ≡ true = search rules in
    let begun : Begins old mid c.serve_first.new.session true = subst (Begins old mid c.serve_first.new.session) more c.in_ok-serve_first.ensures.begun in
    ok_so c.serve_lines.result _ _ (λ _ all. served old mid new c.serve_first.new.session begun all) c.serve_lines.ensures.done

pub returns-then-branch-clause-fault : goal.returns-then-branch-clause-fault
returns-then-branch-clause-fault g c =
    let old = streams (g.I.Read.remaining c.args.reader.now) c.args.ahead.now (g.O.Write.contents c.args.writer.now) in
    let mid = streams (g.I.Read.remaining c.serve_first.new.reader) c.serve_first.new.ahead (g.O.Write.contents c.serve_first.new.writer) in
    let new = streams (g.I.Read.remaining c.serve_lines.new.reader) c.serve_lines.new.ahead (g.O.Write.contents c.serve_lines.new.writer) in
    let more : c.in_ok-serve_first.field-0 ≡ true = search rules in
    let begun : Begins old mid c.serve_first.new.session true = subst (Begins old mid c.serve_first.new.session) more c.in_ok-serve_first.ensures.begun in
    err_so c.serve_lines.result _ _ (λ fault some. then_fails old mid new c.serve_first.new.session fault begun some) c.serve_lines.ensures.fault

pub returns-clause-done : goal.returns-clause-done
returns-clause-done g c =
    let old = streams (g.I.Read.remaining c.args.reader.now) c.args.ahead.now (g.O.Write.contents c.args.writer.now) in
    let mid = streams (g.I.Read.remaining c.serve_first.new.reader) c.serve_first.new.ahead (g.O.Write.contents c.serve_first.new.writer) in
    let over : c.in_ok-serve_first.field-0 ≡ false = search rules in
    served_one old mid c.serve_first.new.session (subst (Begins old mid c.serve_first.new.session) over c.in_ok-serve_first.ensures.begun)
