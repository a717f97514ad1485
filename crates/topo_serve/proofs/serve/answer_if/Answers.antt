use Rattle.std.proofs.Common.{◌≡◌, refl, [], rules, arith}
use Rattle.std.proofs.KnownBytes.{Keeps-refl}
use Rattle.std.proofs.lemmas.List.{nil_from_length}
use Rattle.topo_io.proofs.Interface.{err_so, ok_so}
use Rattle.topo_serve.proofs.SessionLaws.{line_fails, not_empty, of_fed, of_none, of_some}
use Rattle.topo_serve.proofs.serve.answer_if.Goals as goal

pub returns-then-has_feed-clause-told : goal.returns-then-has_feed-clause-told
returns-then-has_feed-clause-told g c = ok_so c.answer_one.result _ _ (λ _ is. of_fed _ _ _ _ c.if-has_feed.true is) c.answer_one.ensures.answered

pub returns-then-has_feed-clause-fault : goal.returns-then-has_feed-clause-fault
returns-then-has_feed-clause-fault g c =
    err_so c.answer_one.result _ _ (λ fault is. line_fails fault _ _ _ _ _ (λ some s. of_fed _ _ some ⊥ c.if-has_feed.true s) is) c.answer_one.ensures.fault

pub returns-then-is_empty-clause-told : goal.returns-then-is_empty-clause-told
returns-then-is_empty-clause-told g c =
    let none : c.args.line.now ≡ [] = search (rules, arith, nil_from_length) in
    of_none _ _ _ _ c.if-has_feed.false none (refl, Keeps-refl (g.O.Write.contents c.args.writer.now))

pub returns-clause-told : goal.returns-clause-told
returns-clause-told g c =
    let some : c.args.line.now ≡ [] → ⊥ = λ none. not_empty c.args.line.now c.is_empty.result c.is_empty.ensures c.if-is_empty.false none in
    ok_so c.answer_one-2.result _ _ (λ _ is. of_some _ _ _ _ some is) c.answer_one-2.ensures.answered

pub returns-clause-fault : goal.returns-clause-fault
returns-clause-fault g c =
    let not_none : c.args.line.now ≡ [] → ⊥ = λ none. not_empty c.args.line.now c.is_empty.result c.is_empty.ensures c.if-is_empty.false none in
    err_so c.answer_one-2.result _ _ (λ fault is. line_fails fault _ _ _ _ _ (λ some s. of_some _ _ some ⊥ not_none s) is) c.answer_one-2.ensures.fault
