use Rattle.std.proofs.Common.{◌≡◌, ◌≤◌, ◌<◌, ◌+◌, ℕ, length, All, ap, sym, ◌∙◌, subst, arith, rules, List}
use Rattle.std.specs.Prelude.{vec_len}
use Rattle.topo_core.specs.declared.calls.Entry.{Entry}
use Rattle.topo_core.specs.declared.limits.TheConstants.{MAX_PASSES}
use Rattle.topo_service.specs.Passes.{PassState}
use Rattle.topo_service.specs.Receipts.{AreFirst, AreReceiptsOf, HasNumber, receipt_count}
use Rattle.topo_service.proofs.Matching.{first_agree}
use Rattle.topo_service.proofs.Numbers.{all_parts, apart, enough}
use Rattle.topo_service.proofs.Wholeness.{whole}
use Rattle.topo_service.proofs.service.ServiceOver.close.Goals as goal

pub audit-requires : goal.audit-requires
audit-requires g c =
    let given = c.into_parts-given.result.0 in
    let sum : c.into_parts-given.result.1.parts + given ≡ MAX_PASSES = search rules in
    let s = c.gather-all.ensures in
    let there : (n : ℕ) → n < given → HasNumber n c.args.passes.items = rw (← c.as_slice.ensures.value) c.in_default.ensures.all_there in
    let len : vec_len c.args.passes ≡ length c.args.passes.items = search rules in
    (all_parts c.into_parts-given.result.1.parts given _ sum c.self.invariant.1 s.parts s.apart
    (rw len (enough given c.args.passes.items there))).0

pub returns-clause-all_there : goal.returns-clause-all_there
returns-clause-all_there g c = rw (← c.self.view_is, ← c.into_parts-given.ensures.number, ← c.as_slice.ensures.value) c.in_default.ensures.all_there

pub returns-clause-receipts : goal.returns-clause-receipts
returns-clause-receipts g c =
    let given = c.into_parts-given.result.0 in
    let history = c.into_inner-state.result.history in
    let passes : List PassState = c.args.passes.items in
    let rest = c.into_parts-given.result.1 in
    let sum : rest.parts + given ≡ MAX_PASSES = search rules in
    let none : rest.amount ≡ 0 = search rules in
    let s = c.gather-all.ensures in
    let there : (n : ℕ) → n < given → HasNumber n passes = rw (← c.as_slice.ensures.value) c.in_default.ensures.all_there in
    let len : vec_len c.args.passes ≡ length passes = search rules in
    let few : vec_len c.args.passes ≤ given =
    (all_parts rest.parts given _ sum c.self.invariant.1 s.parts s.apart (rw len (enough given passes there))).1 in
    let firsts : All (λ (p : PassState). AreFirst history p.number p.receipts) passes =
    rw (← c.as_slice.ensures.value, ← c.history.ensures) c.in_default.ensures.agree in
    let count : length history ≡ receipt_count passes =
    omega (arith, ap (λ b. length b.history) c.audit.ensures.same, c.audit.ensures.counted, s.amount, none) in
    let same = ap (λ b. b.history) (c.into_book-2.ensures.same ∙ c.audit.ensures.same) in
    subst (λ (h : List Entry). AreReceiptsOf h passes) (sym same) (record {
      agree = λ k d lt. first_agree _ _ _ (firsts k d lt);
      counted = count;
      whole = whole history passes (apart given passes there (rw (← len) few)) firsts count;
      seen = s.seen;
    })

pub returns-in-Some-clause-fault : goal.returns-in-Some-clause-fault
returns-in-Some-clause-fault g c =
    let same = ap (λ b. b.history) c.into_book.ensures.same in
    rw (← c.self.view_is, ← c.into_parts-given.ensures.number, same, ← c.as_slice.ensures.value, ← c.history.ensures) c.in-Some.ensures.fault
