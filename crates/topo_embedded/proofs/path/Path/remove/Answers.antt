use Rattle.std.proofs.Common.{arith, ◌≡◌, ◌≢◌, ◌==◌, ◌∙◌, ◌∷◌, [], List, ap, not, sym, ℕ}
use Rattle.std.specs.Prelude.{filter, slice_index_or}
use Rattle.std.proofs.lemmas.Bool.{ne_eqb}
use Rattle.topo_embedded.specs.Along.{halves_along}
use Rattle.topo_embedded.proofs.halves.LeftHalves.{spared_kept}
use Rattle.topo_embedded.proofs.path.Path.remove.Goals.{in-More, in-One}
use Rattle.topo_embedded.proofs.path.Path.remove.Goals as goal

-- the first stays, and what goes is among the others
first_stays : (half first : ℕ) (others halves : List ℕ) → slice_index_or halves 0 0 ≢ half → first ∷ others ≡ halves
    → first ∷ filter (λ h. not (h == half)) others ≡ filter (λ h. not (h == half)) halves
first_stays half first others halves stays same = grind (arith, spared_kept, ne_eqb)

pub returns : goal.returns
returns c =
    let left : halves_along c.match-self.self-inside.line ≡ filter (λ h. not (h == c.args.half)) c.args.self.now = elim c.match-self.branch [
      | in-One w ↦ ap (λ inside. halves_along inside.line) w.self-inside-is ∙ ap halves_along w.in-One.is
          ∙ first_stays c.args.half w.in-One.field-0 [] c.args.self.now c.requires (ap halves_along (sym w.in-One.is) ∙ c.self.view_is)
      | in-More w ↦ ap (λ inside. halves_along inside.line) w.self-inside-is
          ∙ ap (λ (hs : List ℕ). w.in-More.field-0 ∷ hs)
          (w.leave.ensures ∙ ap (λ others. filter (λ h. not (h == c.args.half)) others.items) w.deref_mut.ensures.value)
          ∙ first_stays c.args.half w.in-More.field-0 w.in-More.others.value.items c.args.self.now c.requires (ap halves_along (sym w.in-More.is)
          ∙ c.self.view_is)
    ] in
    c.settle.ensures ∙ left
