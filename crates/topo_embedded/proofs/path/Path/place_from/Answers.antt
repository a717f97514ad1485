use Rattle.std.proofs.Common.{◌≤◌, arith, inl, inr, length, sym, ◌∙◌}
use Rattle.std.proofs.lemmas.Bool.{cases_lt}
use Rattle.std.proofs.lemmas.List.Sums.{position_or_len_is}
use Rattle.topo_embedded.specs.Halves.{on_segment}
use Rattle.topo_embedded.proofs.path.Path.place_from.Goals as goal

pub is_at-requires : goal.is_at-requires
is_at-requires c = omega (arith, c.loop-place-test.true, c.len-place-end.ensures.len)

pub returns-then-is_at : goal.returns-then-is_at
returns-then-is_at c = λ before. grind (arith, position_or_len_is, cases_lt)

pub returns : goal.returns
returns c = λ before.
    let all : length c.args.self.now ≤ c.loop-place.place = omega (arith, c.loop-place-test.false, c.len-place-end.ensures.len) in
    c.len.ensures.len
    ∙ sym (position_or_len_is (on_segment c.args.half) c.args.self.now (length c.args.self.now) 0 (omega arith)
    (λ k less. elim (cases_lt k c.args.from) [
      | inl lt ↦ before k lt
      | inr ge ↦ c.loop-place.invariant k ge (omega (arith, all, less))
    ]) (λ inside. absurd (omega (arith, inside))))
