-- What a growth that is not refused makes of a picture is a picture.
use Rattle.std.proofs.Common.{◌≡◌, ℕ, ◌<◌, Bool, true, false, cond, not, ◌&&◌, length, Some, None, refl}
use Rattle.std.proofs.Common.{sym, arith, length-append, length-set, subst, Result, Ok, Err, OnOk, OnErr}
use Rattle.std.proofs.lemmas.Bool.{ltb-true}
use Rattle.topo_core.specs.declared.rows.Rows.{Rows}
use Rattle.topo_core.specs.declared.limits.Limits.{Limits}
use Rattle.topo_core.specs.declared.calls.Refusal.TheVariants.{NoVertex, NoPosition, BadKind, Full}
use Rattle.topo_core.specs.Picture.{rotation}
use Rattle.topo_core.specs.Pictures.{seed}
use Rattle.topo_core.specs.Changes.{grown}
use Rattle.topo_core.specs.Steps.{grow_refusal}
use Rattle.topo_rows.specs.Shown.{IsPicture}
use Rattle.topo_core.proofs.Interface.{growth_keeps_lawful, seed_is_embedding}
use Rattle.topo_core.specs.declared.rows.TheConstants.{KINDS}

pub seed_is_picture : (limits : Limits) → IsPicture limits seed
seed_is_picture limits = grind (arith, seed_is_embedding)

-- what holds where a growth is not refused
pub record IsGrowable (limits : Limits) (rows : Rows) (u p kind : ℕ) : Type 0 where
  pub vertex : u < length rows.rotations
  pub position : p < length (rotation rows u)
  pub known : kind < KINDS
  pub vertex_left : length rows.rotations < limits.vertices
  pub edge_left : rows.next_edge < limits.edges

-- four tests that all pass
passes : (a b c d e : Bool)
    → cond (not a) (Some NoVertex) (cond (not b) (Some NoPosition) (cond (not c) (Some BadKind) (cond (not (d && e)) (Some Full) None))) ≡ None
    → (a ≡ true) × (b ≡ true) × (c ≡ true) × (d ≡ true) × (e ≡ true)
passes false b c d e h = cc
passes true false c d e h = cc
passes true true false d e h = cc
passes true true true false e h = cc
passes true true true true false h = cc
passes true true true true true h = (refl, refl, refl, refl, refl)

pub growable : (limits : Limits) (rows : Rows) (u p kind : ℕ) → grow_refusal limits rows u p kind ≡ None → IsGrowable limits rows u p kind
growable limits rows u p kind h = grind (arith, passes, ltb-true)

pub grown_is_picture : (limits : Limits) (rows : Rows) (u p kind : ℕ) → IsPicture limits rows → grow_refusal limits rows u p kind ≡ None
    → IsPicture limits (grown rows u p kind)
grown_is_picture limits rows u p kind was accepted =
    let may = growable limits rows u p kind accepted in record {
      lawful = growth_keeps_lawful rows was.lawful u p kind may.vertex may.position may.known;
      vertices = simp (length-append, length-set) (omega (arith, may.vertex_left));
      edges = omega (arith, may.edge_left);
      crossings = was.crossings;
    }

-- after a growth that is not refused, with or without memory for it
pub after_growth : {A E : Type 0} (r : Result A E) (limits : Limits) (rows : Rows) {new : Rows} (u p kind : ℕ) → OnOk r (new ≡ grown rows u p kind)
    → OnErr r (new ≡ rows)
    → IsPicture limits rows → None ≡ grow_refusal limits rows u p kind → IsPicture limits new
after_growth (Ok done) limits rows u p kind ok err was accepted =
    subst (IsPicture limits) (sym ok) (grown_is_picture limits rows u p kind was (sym accepted))
after_growth (Err refused) limits rows u p kind ok err was accepted = subst (IsPicture limits) (sym err) was
