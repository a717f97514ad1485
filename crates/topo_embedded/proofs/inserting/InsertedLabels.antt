-- The labels of the halves along edges, while crossed halves are split and the new edge is drawn.
use Rattle.std.proofs.Common.{◌≡◌, ◌<◌, ap, arith, inl, inr, length, List, [], ◌∷◌, ◌++◌, refl, suc, sym, zero, ℕ, ◌∙◌, ◌⊎◌}
use Rattle.std.specs.Prelude.{flat_map, map, None, slice_get, slice_index_or, Some}
use Rattle.std.proofs.lemmas.Bool.{cases_eq, cond-false, cond-true, eq-eqb, ne_eqb}
use Rattle.std.proofs.lemmas.List.{get_or_append_left, get_or_at, length-map}
use Rattle.topo_core.specs.declared.darts.Way.{Way}
use Rattle.topo_core.specs.declared.darts.Way.TheVariants.{Forward, Back}
use Rattle.topo_core.specs.declared.rows.EdgeRow.{EdgeRow}
use Rattle.topo_core.specs.declared.rows.Rows.{Rows}
use Rattle.topo_core.specs.declared.routes.Route.{Route}
use Rattle.topo_core.specs.Changes.{crossed_row, shown}
use Rattle.topo_core.specs.Rotations.{twin}
use Rattle.topo_perm.proofs.Interface.{Subdivision, twin-twin}
use Rattle.topo_map.specs.Rotation.{AddsLabel, Grows, Rotation, edge_of, is_live}
use Rattle.topo_rows.proofs.Interface.{got_within}
use Rattle.topo_embedded.specs.Crossing.{HasLabel, HaveLabel, HaveLabels}
use Rattle.topo_embedded.specs.Halves.{by_way}
use Rattle.topo_embedded.specs.Inserting.{piece, put_halves}
use Rattle.topo_embedded.proofs.inserting.Inserted.{got_map}
use Rattle.topo_embedded.proofs.inserting.InsertedShows.{AreLabelledPaths}
use Rattle.topo_embedded.proofs.inserting.Pieces.{put_none}

-- ---- One edit more

module _ (r r' : Rotation) (x label : ℕ) (grows : Grows r r' x) (adds : AddsLabel (is_live r) (edge_of r) (edge_of r') x label) where
  pub label_kept : (id h : ℕ) → HasLabel r id h → HasLabel r' id h
  label_kept id h l = grind arith

  pub labels_kept : (id : ℕ) (path : List ℕ) → HaveLabel r id path → HaveLabel r' id path
  labels_kept id [] a = tt
  labels_kept id (h ∷ path) a = (label_kept id h a.0, labels_kept id path a.1)

  pub label_new : HasLabel r' label x
  label_new = record { alive = grows.live.here; alive_back = grows.live.here_twin; here = adds.here; behind = adds.here_twin }

  label_turned : HasLabel r' label (twin x)
  label_turned = record {
    alive = grows.live.here_twin;
    alive_back = ap (is_live r') (twin-twin x) ∙ grows.live.here;
    here = adds.here_twin;
    behind = ap (edge_of r') (twin-twin x) ∙ adds.here;
  }

  -- a path keeps its label, where the new segment has that of the half that was split
  module _ (j : Subdivision) (is : j.beyond ≡ x) (split : label ≡ edge_of r j.near) where
    labels_append : (id : ℕ) (xs ys : List ℕ) → HaveLabel r' id xs → HaveLabel r' id ys → HaveLabel r' id (xs ++ ys)
    labels_append id [] ys a b = b
    labels_append id (h ∷ xs) ys a b = (a.0, labels_append id xs ys a.1 b)

    piece_labels : (id h : ℕ) → HasLabel r id h → HaveLabel r' id (piece j h)
    piece_labels id h l = grind (arith, cases_eq, cond-true, eq-eqb, label_kept, label_new, twin-twin, cond-false, ne_eqb, label_turned)

    path_labels : (id : ℕ) (path : List ℕ) → HaveLabel r id path → HaveLabel r' id (flat_map (piece j) path)
    path_labels id [] a = tt
    path_labels id (h ∷ path) a = labels_append id (piece j h) (flat_map (piece j) path) (piece_labels id h a.0) (path_labels id path a.1)

    pub split_labels : (edges : List EdgeRow) (js : List Subdivision) (paths : List (List ℕ)) → HaveLabels r edges (map (put_halves js) paths)
        → HaveLabels r' edges (map (put_halves (j ∷ js)) paths)
    split_labels edges js paths a k row got = grind (arith, got_map, put_none, path_labels)

-- ---- In the end

labelled_path : (r : Rotation) (id : ℕ) (path : List ℕ) → HaveLabel r id path → (i : ℕ) (w : Way) → i < length path
    → edge_of r (by_way (slice_index_or path i 0) w) ≡ id
labelled_path r id [] a i w less = absurd (omega arith)
labelled_path r id (h ∷ path) a zero Forward less = a.0.here
labelled_path r id (h ∷ path) a zero Back less = a.0.behind
labelled_path r id (h ∷ path) a (suc i) w less = labelled_path r id path a.1 i w (omega arith)

-- a row of the rows with the new edge is that of an old one, or the last
got_shown : (rows : Rows) (route : Route) (edges : List EdgeRow) (y row : EdgeRow) (k : ℕ)
    → slice_get (map (crossed_row rows route) edges ++ y ∷ []) k ≡ Some row
    → ((old : EdgeRow) × (slice_get edges k ≡ Some old) × (row.id ≡ old.id)) ⊎ ((k ≡ length edges) × (row ≡ y))
got_shown rows route [] y row zero h = inr (refl, cc)
got_shown rows route [] y row (suc k) h = absurd (none h) where
  none : None ≡ Some row → ⊥
  none h = cc
got_shown rows route (x ∷ edges) y row zero h = (let same : crossed_row rows route x ≡ row = cc in inl (x, refl, sym (ap (λ (e : EdgeRow). e.id) same)))
got_shown rows route (x ∷ edges) y row (suc k) h = grind (arith, got_shown rows route edges y row k h)

-- the crossed paths of all edges have their labels, and so has the new line
pub record AreAllLabelled (r : Rotation) (rows : Rows) (paths : List (List ℕ)) (js : List Subdivision) (line : List ℕ) : Type 0 where
  pub as_many : length paths ≡ length rows.edges
  pub old : HaveLabels r rows.edges (map (put_halves js) paths)
  pub new : HaveLabel r rows.next_edge line

pub shown_labels : {rows : Rows} {paths : List (List ℕ)} {js : List Subdivision} {line : List ℕ} {r : Rotation} (u v kind : ℕ) (route : Route)
    → AreAllLabelled r rows paths js line
    → AreLabelledPaths (edge_of r) (shown rows u v kind route).edges (map (put_halves js) paths ++ line ∷ [])
shown_labels u v kind route labels =
    grind (arith, got_shown, got_within, length-map, get_or_append_left, labelled_path, get_or_at)
