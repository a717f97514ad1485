use Rattle.std.proofs.Common.{◌≡◌, ◌∙◌, ◌++◌, ◌-◌, List, ℕ, ap, arith, drop, length, map, subst, sym, take}
use Rattle.std.proofs.lemmas.Grind.{common_steps}
use Rattle.std.proofs.lemmas.List.{length-map}
use Rattle.topo_route.specs.StampedArrays.{SaysTheSame, blank_word, moved_word}
use Rattle.topo_route.proofs.spreading.Blank.{widened}
use Rattle.topo_route.proofs.stamped_array.widen.Goals as goal

written_back : (n : ℕ) (xs ys : List ℕ) → length ys ≡ n → take n (ys ++ drop (length ys) xs) ≡ ys
written_back n xs ys long = grind (arith, common_steps)

pub returns-clause-same : goal.returns-clause-same
returns-clause-same c len are =
    let words = c.args.words.now.items in
    let base = c.args.base.now in
    let span = c.args.span.now in
    let wider = c.min-wider.result in
    let moved = map (moved_word base span wider) words in
    let is : c.move_words.new.words ≡ moved =
    c.move_words.ensures ∙ ap (map (moved_word base span wider)) c.as_mut_slice.ensures.value in
    let long : length c.move_words.new.words ≡ c.args.words.now.len =
    ap (λ (xs : List ℕ). length xs) is ∙ length-map words (moved_word base span wider) ∙ sym c.args.words.now.ok.0 in
    let same = written_back c.args.words.now.len words c.move_words.new.words long ∙ is in
    subst (λ (xs : List ℕ). SaysTheSame base span words (blank_word - wider) wider xs len) (sym same)
    (widened base span wider (omega (arith, c.min-wider.ensures, c.if-number-span.false)) (omega (arith, c.min-wider.ensures)) len words are)
