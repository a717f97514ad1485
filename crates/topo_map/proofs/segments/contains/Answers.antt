use Rattle.std.proofs.Common.{◌≡◌, Bool, true, false, refl, sym, ◌∙◌, is_some}
use Rattle.slab.specs.Slab.{get}
use Rattle.topo_map.proofs.Parts.{live_parts}
use Rattle.topo_map.proofs.segments.contains.Goals as goal

same_test : (a b : Bool) → (a ≡ true → b ≡ true) → (b ≡ true → a ≡ true) → a ≡ b
same_test true b p q = sym (p refl)
same_test false true p q = q refl
same_test false false p q = refl

pub returns : goal.returns
returns c =
    same_test c.contains.result (is_some (get c.segments.inside.rest c.key.result)) c.contains.ensures.0 c.contains.ensures.1
    ∙ sym (live_parts c.segments.inside.walks.items c.segments.inside.rest c.key.result c.args.half c.segments.invariant c.segments.view_is c.key.ensures)
