use Rattle.std.proofs.Common.{arith, ◌≡◌, ℕ, None, OnErr, OnOk, Result, subst, sym}
use Rattle.topo_core.specs.declared.rows.Rows.{Rows}
use Rattle.topo_core.specs.declared.limits.Limits.{Limits}
use Rattle.topo_core.specs.declared.routes.Route.{Route}
use Rattle.topo_core.specs.Routes.{IsSimpleRoute}
use Rattle.topo_core.specs.Changes.{shown}
use Rattle.topo_core.specs.Insertions.{IsInsertable}
use Rattle.topo_core.specs.Steps.{HasRoomFor, insert_refusal}
use Rattle.topo_rows.specs.Shown.{IsPicture, Shown}
use Rattle.topo_picture.proofs.Failures.{rows_left}
use Rattle.topo_picture.proofs.Inserting.{after_insertion, insertable}
use Rattle.topo_picture.proofs.picture.Picture.apply_route.Goals as goal

-- what the caller sees of the picture, s, is what it is inside
module _ (limits : Limits) (rows : Rows) (s : Shown) (u v kind : ℕ) (r : Route) (was : IsPicture limits rows)
    (seen : record { limits = limits; rows = rows } ≡ s)
    (may : insert_refusal s.limits s.rows u v kind ≡ None) (simple : IsSimpleRoute s.rows u v r) where
  may_inside : insert_refusal limits rows u v kind ≡ None
  may_inside = subst (λ (s : Shown). insert_refusal s.limits s.rows u v kind ≡ None) (sym seen) may

  simple_inside : IsSimpleRoute rows u v r
  simple_inside = subst (λ (s : Shown). IsSimpleRoute s.rows u v r) (sym seen) simple

  insertable_inside : IsInsertable rows u v kind r
  insertable_inside = insertable limits rows u v kind r was may_inside simple_inside

  picture_after : {A E : Type 0} (result : Result A E) (new : Rows) → HasRoomFor limits rows r → OnOk result (new ≡ shown rows u v kind r)
      → OnErr result (new ≡ rows) → IsPicture limits new
  picture_after result new room ok err = after_insertion limits rows u v kind r was may_inside simple_inside result new room ok err

pub insert-requires-clause-insertable : goal.insert-requires-clause-insertable
insert-requires-clause-insertable c =
    insertable_inside c.self.inside.limits c.self.inside.embedded.rows c.args.self.now c.args.u c.args.v c.args.kind c.args.route.now c.self.invariant
    c.self.view_is c.requires.admitted c.requires.simple

pub insert-requires-clause-simple : goal.insert-requires-clause-simple
insert-requires-clause-simple c = grind (arith, simple_inside)

pub invariant_of-self : goal.invariant_of-self
invariant_of-self c =
    picture_after c.self.inside.limits c.self.inside.embedded.rows c.args.self.now c.args.u c.args.v c.args.kind c.args.route.now c.self.invariant
    c.self.view_is c.requires.admitted c.requires.simple
    c.insert.result c.insert.new.self.rows (subst (λ rows. HasRoomFor c.self.inside.limits rows c.args.route.now) c.rows.ensures c.in_ok-made.ensures.room)
    c.insert.ensures.ok (rows_left c.insert.result c.insert.new.self c.self.inside.embedded c.insert.ensures.err)

pub returns-clause-lawful : goal.returns-clause-lawful
returns-clause-lawful c =
    picture_after c.self.inside.limits c.self.inside.embedded.rows c.args.self.now c.args.u c.args.v c.args.kind c.args.route.now c.self.invariant
    c.self.view_is c.requires.admitted c.requires.simple
    c.insert.result c.insert.new.self.rows (subst (λ rows. HasRoomFor c.self.inside.limits rows c.args.route.now) c.rows.ensures c.in_ok-made.ensures.room)
    c.insert.ensures.ok (rows_left c.insert.result c.insert.new.self c.self.inside.embedded c.insert.ensures.err)
