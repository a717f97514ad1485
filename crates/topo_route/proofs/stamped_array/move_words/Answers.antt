use Rattle.std.proofs.Common.{◌≡◌, ◌∙◌, ◌++◌, ◌<◌, List, ℕ, ap, arith, drop, get_or, length, map, set, sym, take}
use Rattle.std.proofs.lemmas.Grind.{common_steps, get_or_default_zero}
use Rattle.std.proofs.lemmas.List.Edits.{map_over_more}
use Rattle.topo_route.specs.StampedArrays.{moved_word}
use Rattle.topo_route.proofs.stamped_array.move_words.Goals as goal

-- what is not moved yet is as it was
not_yet : (f : ℕ → ℕ) (xs : List ℕ) (i : ℕ) → i < length xs → get_or (map f (take i xs) ++ drop i xs) i 0 ≡ get_or xs i 0
not_yet f xs i inside = grind (arith, common_steps)

pub moved-requires-clause-above : goal.moved-requires-clause-above
moved-requires-clause-above c =
    let at = not_yet (moved_word c.args.base c.args.span c.args.wider) c.args.words.now c.loop-place.place c.loop-place-test.true in
    let same = ap (λ xs. get_or xs c.loop-place.place 0) c.loop-place.invariant in
    let high = c.requires.above c.loop-place.place c.loop-place-test.true in omega (arith, at, same, high)

pub loop-place-preserved : goal.loop-place-preserved
loop-place-preserved c =
    let word = get_or c.loop-place.words c.loop-place.place 0 in
    let inside : c.loop-place.place < length c.loop-place.words = omega (arith, c.loop-place-test.true, c.loop-place.auto.words) in
    ap (set c.loop-place.words c.loop-place.place) c.moved.ensures
    ∙ map_over_more (moved_word c.args.base c.args.span c.args.wider) c.args.words.now c.loop-place.words c.loop-place.place word
    c.loop-place-test.true c.loop-place.invariant (sym (get_or_default_zero c.loop-place.words c.loop-place.place word inside))
