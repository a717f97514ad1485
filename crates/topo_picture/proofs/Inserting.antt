-- What an insertion makes of a picture.
use Rattle.std.proofs.Common.{◌≡◌, ◌≢◌, ℕ, ◌<◌, Bool, true, false, cond, not, length, refl, sym, subst, arith, Result, Ok, Err, OnOk, OnErr}
use Rattle.std.specs.Prelude.{◌&&◌, Some, None}
use Rattle.std.proofs.lemmas.Bool.{eq-eqb, false≢true, ltb-true}
use Rattle.topo_core.specs.declared.rows.Rows.{Rows}
use Rattle.topo_core.specs.declared.routes.Route.{Route}
use Rattle.topo_core.specs.declared.limits.Limits.{Limits}
use Rattle.topo_core.specs.declared.calls.Refusal.TheVariants.{NoVertex, SameEnds, BadKind, Full}
use Rattle.topo_core.specs.Routes.{IsSimpleRoute}
use Rattle.topo_core.specs.Steps.{HasRoomFor, insert_refusal}
use Rattle.topo_core.specs.Changes.{shown}
use Rattle.topo_core.specs.Insertions.{IsInsertable}
use Rattle.topo_core.proofs.Interface.{shown_vertices, simple_is_insertable}
use Rattle.topo_rows.specs.Shown.{IsPicture}
use Rattle.topo_kept_rows.proofs.Interface.{insertion_keeps_lawful}
use Rattle.topo_core.specs.declared.rows.TheConstants.{KINDS}

-- what holds where an insertion is not refused before a route is looked for
pub record IsAdmitted (limits : Limits) (rows : Rows) (u v kind : ℕ) : Type 0 where
  pub u_there : u < length rows.rotations
  pub v_there : v < length rows.rotations
  pub apart : u ≢ v
  pub known : kind < KINDS
  pub edge_left : rows.next_edge < limits.edges

-- tests that none refuses
none_refuses : (a b c d e : Bool)
    → cond (not (a && b)) (Some NoVertex) (cond c (Some SameEnds) (cond (not d) (Some BadKind) (cond (not e) (Some Full) None))) ≡ None
    → (a ≡ true) × (b ≡ true) × (c ≡ false) × (d ≡ true) × (e ≡ true)
none_refuses false b c d e h = cc
none_refuses true false c d e h = cc
none_refuses true true true d e h = cc
none_refuses true true false false e h = cc
none_refuses true true false true false h = cc
none_refuses true true false true true h = (refl, refl, refl, refl, refl)

pub admitted : (limits : Limits) (rows : Rows) (u v kind : ℕ) → insert_refusal limits rows u v kind ≡ None → IsAdmitted limits rows u v kind
admitted limits rows u v kind h = grind (arith, none_refuses, ltb-true, false≢true, eq-eqb)

module _ (limits : Limits) (rows : Rows) (u v kind : ℕ) (r : Route) (was : IsPicture limits rows) (may : insert_refusal limits rows u v kind ≡ None)
    (simple : IsSimpleRoute rows u v r) where
  -- a route that meets no face twice can be shown
  pub insertable : IsInsertable rows u v kind r
  insertable = let a = admitted limits rows u v kind may in
      simple_is_insertable rows u v r was.lawful.embedding.well_formed a.u_there a.v_there a.apart a.known simple

  -- what an insertion along it makes of a picture is a picture, if there is room
  pub shown_is_picture : HasRoomFor limits rows r → IsPicture limits (shown rows u v kind r)
  shown_is_picture room = let a = admitted limits rows u v kind may in record {
    lawful = insertion_keeps_lawful was.lawful insertable simple (omega (arith, limits.crossings_in_range));
    vertices = let same = shown_vertices rows u v kind r in omega (arith, was.vertices);
    edges = omega (arith, a.edge_left);
    crossings = room;
  }

  -- after an insertion along it, with or without memory for it
  pub after_insertion : {A E : Type 0} (result : Result A E) (new : Rows) → HasRoomFor limits rows r → OnOk result (new ≡ shown rows u v kind r)
      → OnErr result (new ≡ rows) → IsPicture limits new
  after_insertion (Ok done) new room ok err = subst (IsPicture limits) (sym ok) (shown_is_picture room)
  after_insertion (Err refused) new room ok err = subst (IsPicture limits) (sym err) was
