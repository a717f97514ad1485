-- What a deletion makes of a picture within its limits.
use Rattle.std.proofs.Common.{◌≡◌, ℕ, zero, suc, ◌<◌, ◌≤◌, true, length, Some, None, is_some, refl, sym, subst, arith, ◌+◌, ap, ◌∙◌}
use Rattle.topo_core.specs.declared.limits.Limits.{Limits}
use Rattle.topo_core.specs.declared.rows.Rows.{Rows}
use Rattle.topo_core.specs.Changes.{HasOneFace, IsCut, IsLocalCut, shown, without}
use Rattle.topo_core.specs.Picture.{edge_at, edge_row, system}
use Rattle.topo_core.specs.Systems.{Connected}
use Rattle.topo_core.proofs.Interface.{insertion_undone, shown_new_row, some_of}
use Rattle.topo_rows.specs.Shown.{IsPicture, Shown}
use Rattle.topo_picture.specs.Undoing.{IsShownOn}
use Rattle.topo_kept_rows.proofs.Interface.{cut_by_faces, cut_is_by_faces, no_cut, vertices_without, whole_without}

module _ (limits : Limits) (rows : Rows) (e : ℕ) (is : IsPicture limits rows) (there : is_some (edge_row rows e) ≡ true) where
  small : rows.next_crossing ≤ 4294967296
  small = omega (arith, is.crossings, limits.crossings_in_range)

  -- with no cut by faces the picture without the edge is a picture
  pub deletion_of_picture : (new : Rows) → new ≡ without rows e → ((i : ℕ) → i ≤ length (edge_at rows e).crossings → HasOneFace rows e i → ⊥)
      → IsPicture limits new
  deletion_of_picture new same none = subst (IsPicture limits) (sym same) (record {
    lawful = whole_without rows is.lawful.embedding.well_formed e (some_of (edge_row rows e) there).0
        (some_of (edge_row rows e) there).1 is.lawful.embedding.connected is.lawful.genus_zero small none;
    vertices = subst (λ (k : ℕ). k ≤ limits.vertices) (sym (vertices_without rows e)) is.vertices;
    edges = is.edges;
    crossings = is.crossings;
  })

  pub whole_of_picture : ((i : ℕ) → i ≤ length (edge_at rows e).crossings → HasOneFace rows e i → ⊥) → (i : ℕ) → IsCut rows e i → ⊥
  whole_of_picture none = no_cut rows is.lawful.embedding.well_formed e (some_of (edge_row rows e) there).0
      (some_of (edge_row rows e) there).1 is.lawful.embedding.connected is.lawful.genus_zero none

  pub cut_of_picture : (i : ℕ) → IsLocalCut rows e i → IsCut rows e i
  cut_of_picture = cut_by_faces rows is.lawful.embedding.well_formed e (some_of (edge_row rows e) there).0
      (some_of (edge_row rows e) there).1 is.lawful.embedding.connected is.lawful.genus_zero

  pub local_of_picture : (i : ℕ) → IsCut rows e i → IsLocalCut rows e i
  local_of_picture = cut_is_by_faces rows is.lawful.embedding.well_formed e (some_of (edge_row rows e) there).0
      (some_of (edge_row rows e) there).1 is.lawful.embedding.connected is.lawful.genus_zero

  -- where nothing is a cut, no segment has one face on both sides
  pub faces_of_picture : ((i : ℕ) → IsCut rows e i → ⊥) → (i : ℕ) → i ≤ length (edge_at rows e).crossings → HasOneFace rows e i → ⊥
  faces_of_picture none i on_path one_face = below (i + 1) i (omega arith) on_path one_face where
    below : (n i : ℕ) → i < n → i ≤ length (edge_at rows e).crossings → HasOneFace rows e i → ⊥
    below zero i before on_path one_face = omega arith
    below (suc n) i before on_path one_face =
        none i (cut_of_picture i
        (record { there = there; on_path = on_path; one_face = one_face; two_faces_before = λ j least. below n j (omega arith) (omega arith) }))

-- ---- What is seen

-- what holds of the rows inside holds of the rows that are seen
pub in_view : (limits : Limits) (rows : Rows) (s : Shown) → record { limits = limits; rows = rows } ≡ s → (P : Rows → Type 0) → P rows → P s.rows
in_view limits rows s seen P h = subst (λ (s : Shown). P s.rows) seen h

-- ---- The edge that was shown last

-- without it the rows are those before, but for the ids that were given
pub undone_rows : (p rows new : Rows) (e : ℕ) → IsShownOn p rows e → new ≡ without rows e
    → new ≡ record p { next_edge = rows.next_edge; next_crossing = rows.next_crossing }
undone_rows p rows new e s w =
    let given : without rows e ≡ record p { next_edge = p.next_edge + 1; next_crossing = p.next_crossing + length s.route.crossed } =
    ap (λ (r : Rows). without r e) s.rows_are ∙ ap (without (shown p s.u s.v s.kind s.route)) s.newest
    ∙ insertion_undone p s.u s.v s.kind s.route s.lawful.embedding.well_formed s.insertable in
    w ∙ given ∙ ap (λ (r : Rows). (let q : Rows = record p { next_edge = r.next_edge; next_crossing = r.next_crossing } in q)) (sym s.rows_are)

pub shown_there : (p rows : Rows) (e : ℕ) → IsShownOn p rows e → edge_row rows e ≡ None → ⊥
shown_there p rows e s w =
    let found = shown_new_row p s.u s.v s.kind s.route s.lawful.embedding.well_formed.paths in
    let none : edge_row (shown p s.u s.v s.kind s.route) p.next_edge ≡ None = ap (λ (r : Rows). edge_row r p.next_edge) (sym s.rows_are)
    ∙ ap (edge_row rows) (sym s.newest) ∙ w in
    some_none (sym found ∙ none) where
      some_none : {X : Type 0} {x : X} → Some x ≡ None → ⊥
      some_none h = cc

pub shown_no_cut : (p rows : Rows) (e i : ℕ) → IsShownOn p rows e → IsCut rows e i → ⊥
shown_no_cut p rows e i s cut =
    cut.falls_apart (subst (λ (r : Rows). Connected (system r)) (sym (undone_rows p rows (without rows e) e s refl)) s.lawful.embedding.connected)
