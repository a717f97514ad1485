use Rattle.std.proofs.Common.{arith, ◌≡◌, ◌≤◌, ℕ, true, is_some, length, subst, sym}
use Rattle.topo_core.specs.declared.limits.Limits.{Limits}
use Rattle.topo_core.specs.declared.rows.Rows.{Rows}
use Rattle.topo_core.specs.Changes.{HasOneFace, IsCut, without}
use Rattle.topo_core.specs.Picture.{edge_at, edge_row}
use Rattle.topo_rows.specs.Shown.{IsPicture, Shown}
use Rattle.topo_picture.proofs.DeletedPicture.{deletion_of_picture, faces_of_picture}
use Rattle.topo_picture.proofs.picture.Picture.delete_known.Goals as goal

-- what the caller sees of the picture, s, is what it is inside
module _ (limits : Limits) (rows : Rows) (s : Shown) (e : ℕ) (was : IsPicture limits rows) (seen : record { limits = limits; rows = rows } ≡ s)
    (there : is_some (edge_row s.rows e) ≡ true) (whole : (i : ℕ) → IsCut s.rows e i → ⊥) where
  there_inside : is_some (edge_row rows e) ≡ true
  there_inside = subst (λ (s : Shown). is_some (edge_row s.rows e) ≡ true) (sym seen) there

  faces_inside : (i : ℕ) → i ≤ length (edge_at rows e).crossings → HasOneFace rows e i → ⊥
  faces_inside = faces_of_picture limits rows e was there_inside (subst (λ (s : Shown). (i : ℕ) → IsCut s.rows e i → ⊥) (sym seen) whole)

  lawful_after : (new : Rows) → new ≡ without rows e → IsPicture limits new
  lawful_after new same = deletion_of_picture limits rows e was there_inside new same faces_inside

pub delete-requires-clause-there : goal.delete-requires-clause-there
delete-requires-clause-there c = grind (arith, there_inside)

pub invariant_of-self : goal.invariant_of-self
invariant_of-self c =
    lawful_after c.self.inside.limits c.self.inside.embedded.rows c.args.self.now c.args.edge c.self.invariant c.self.view_is c.requires.there c.requires.whole
    c.delete.new.self.rows c.delete.ensures

pub returns-clause-lawful : goal.returns-clause-lawful
returns-clause-lawful c =
    lawful_after c.self.inside.limits c.self.inside.embedded.rows c.args.self.now c.args.edge c.self.invariant c.self.view_is c.requires.there c.requires.whole
    c.delete.new.self.rows c.delete.ensures
