use Rattle.std.proofs.Common.{◌≡◌, ◌+◌, ◌++◌, ◌∙◌, ℕ, List, Some, [], zero, suc, ◌∷◌, ap, arith, drop, refl, sym}
use Rattle.std.specs.Prelude.{slice_get}
use Rattle.std.proofs.lemmas.Option.{slice_get_within}
use Rattle.topo_kept_rows.proofs.rows.Rotating.{second_begins}
use Rattle.topo_kept_rows.proofs.rotation.Rotation.leave.Goals as goal

-- what stands in the first part stands there in both
stands : (head tail : List ℕ) (k x : ℕ) → slice_get head k ≡ Some x → slice_get (head ++ tail) k ≡ Some x
stands [] tail k x is = absurd (let inside = slice_get_within [] k x is in omega (arith, inside))
stands (y ∷ head) tail zero x is = is
stands (y ∷ head) tail (suc k) x is = stands head tail k x is

pub returns-then-begins_with_next : goal.returns-then-begins_with_next
returns-then-begins_with_next c =
    let head = c.self.inside.head.items in
    let tail = c.self.inside.tail.items in
    let there = λ (k x : ℕ) (is : slice_get c.as_slice.result.now k ≡ Some x).
    ap (λ xs. slice_get xs k) (sym c.self.view_is) ∙ stands head tail k x (ap (λ xs. slice_get xs k) (sym c.as_slice.ensures.value) ∙ is) in
    c.drop_first.ensures.rest ∙ ap (drop 1) c.self.view_is
    ∙ second_begins c.args.e c.args.self.now c.requires (there 0 c.args.e (c.if-begins_with_next.ensures.head refl))
    (there 1 (c.args.e + 1) (c.if-begins_with_next.ensures.next refl))
