use Rattle.std.proofs.Common.{◌≡◌, Ok, Some, refl, rules}
use Rattle.topo_io.proofs.Interface.{err_so, ok_so}
use Rattle.topo_session.proofs.Responding.{open_answers, open_leaves}
use Rattle.topo_session.proofs.lines.respond.Goals as goal

pub returns-in-Some-clause-answer : goal.returns-in-Some-clause-answer
returns-in-Some-clause-answer g c =
    let asked : c.args.asked ≡ Ok (record { caller = c.in-Ok.field-0.caller; request = c.in-Ok.field-0.request }) = search rules in
    let old : c.args.session.now ≡ Some c.in-Some.open = search rules in
    ok_so c.answer.result _ _
    (λ text is. open_answers c.args.asked c.in-Ok.field-0.caller c.in-Ok.field-0.request c.args.session.now _ c.in-Some.open c.answer.new.self _ asked old refl is)
    c.answer.ensures.answer

pub returns-in-Some-clause-left : goal.returns-in-Some-clause-left
returns-in-Some-clause-left g c =
    let asked : c.args.asked ≡ Ok (record { caller = c.in-Ok.field-0.caller; request = c.in-Ok.field-0.request }) = search rules in
    let old : c.args.session.now ≡ Some c.in-Some.open = search rules in
    err_so c.answer.result _ _
    (λ fault is. open_leaves fault c.args.asked c.in-Ok.field-0.caller c.in-Ok.field-0.request c.args.session.now _ c.in-Some.open c.answer.new.self asked old refl is)
    c.answer.ensures.left
