-- Darts that are alone round their points: a vertex with one edge.
use Rattle.std.proofs.Common.{◌≡◌, ◌<◌, ◌||◌, ap, arith, Bool, cond, false, inl, inr, length, List, refl, subst, sym, true, ℕ, [], ◌∙◌, ◌∷◌}
use Rattle.std.specs.Prelude.{map, slice_index_or, Some, ◌==◌, ◌⊎◌}
use Rattle.std.proofs.lemmas.List.Sums.{sum_by-cons}
use Rattle.std.proofs.lemmas.Bool.{cases_Bool, eq-eqb, eqb-true, false≢true, or_left, or_right}
use Rattle.topo_core.specs.declared.darts.Dart.{Dart}
use Rattle.topo_core.specs.declared.rows.EdgeRow.{EdgeRow}
use Rattle.topo_core.specs.declared.rows.Rows.{Rows}
use Rattle.topo_core.specs.Darts.{same_dart}
use Rattle.topo_core.specs.Items.{occurrences}
use Rattle.topo_core.specs.Lawful.{IsWellFormed}
use Rattle.topo_core.specs.Picture.{around_vertex, edge_row, end_dart, rotation, system}
use Rattle.topo_core.specs.Systems.{follower, has_dart, turn}
use Rattle.topo_core.proofs.Interface.{IsDistinct, distinct_system, distinct_tail, end_dart_edge, good_rotation, has_item, head_not_later, in_counted, in_map, next_around, next_of_first, one}
use Rattle.topo_core.proofs.Interface.{or_right_false, or_second, path_facts, point_distinct, row_id, row_in, same_dart_self, same_dart_true, turn_at_point, vertex_in, vertex_point}

-- ---- Darts that follow themselves

-- the first of a list of distinct darts is not followed by itself, where another dart follows the last
first_moves : (first b : Dart) (bs : List Dart) → IsDistinct (b ∷ bs) → has_dart (b ∷ bs) first ≡ false → slice_index_or bs 0 first ≡ b → ⊥
first_moves first b [] distinct outside e = false≢true (sym outside ∙ or_left (same_dart first b) false (ap (same_dart first) (sym e) ∙ same_dart_self first))
first_moves first b (a ∷ more) distinct outside e =
    false≢true (sym (head_not_later b (a ∷ more) distinct) ∙ or_left (same_dart b a) (has_dart more b) (ap (same_dart b) e ∙ same_dart_self b))

-- nor is any other
each_moves : (first d : Dart) (cs : List Dart) → IsDistinct cs → has_dart cs first ≡ false → has_dart cs d ≡ true → follower first cs d ≡ d → ⊥
each_moves first d [] distinct outside there e = false≢true there
each_moves first d (b ∷ bs) distinct outside there e = elim (cases_Bool (same_dart d b)) [
  | inl is ↦ first_moves first b bs distinct outside
      (sym (ap (λ (t : Bool). cond t (slice_index_or bs 0 first) (follower first bs d)) is) ∙ e ∙ same_dart_true d b is)
  | inr apart ↦ each_moves first d bs (distinct_tail b bs distinct) (or_right_false (same_dart first b) (has_dart bs first) outside)
      (or_second (same_dart d b) (has_dart bs d) apart there)
      (sym (ap (λ (t : Bool). cond t (slice_index_or bs 0 first) (follower first bs d)) apart) ∙ e)
]

-- a dart that comes next after itself is alone in its list
pub alone_list : (ds : List Dart) (d : Dart) → IsDistinct ds → has_dart ds d ≡ true → next_around ds d ≡ d → ds ≡ d ∷ []
alone_list [] d distinct there e = absurd (false≢true there)
alone_list (c ∷ cs) d distinct there e = elim (cases_Bool (same_dart d c)) [
  | inl is ↦ by_rest cs distinct (sym (ap (λ (t : Bool). cond t (slice_index_or cs 0 c) (follower c cs d)) is) ∙ e ∙ same_dart_true d c is)
      (same_dart_true d c is)
  | inr apart ↦ absurd (each_moves c d cs (distinct_tail c cs distinct) (head_not_later c cs distinct) (or_second (same_dart d c) (has_dart cs d) apart there)
      (sym (ap (λ (t : Bool). cond t (slice_index_or cs 0 c) (follower c cs d)) apart) ∙ e))
] where
  by_rest : (cs : List Dart) → IsDistinct (c ∷ cs) → slice_index_or cs 0 c ≡ c → d ≡ c → c ∷ cs ≡ d ∷ []
  by_rest [] distinct e is = ap (λ y. y ∷ []) (sym is)
  by_rest (b ∷ bs) distinct e is =
      absurd (false≢true (sym (head_not_later c (b ∷ bs) distinct) ∙ or_left (same_dart c b) (has_dart bs c) (ap (same_dart c) e ∙ same_dart_self c)))

-- ---- Vertices with one edge

one_image : (g : ℕ → Dart) → ((e : ℕ) → (g e).edge ≡ e) → (e : ℕ) (es : List ℕ) → map g es ≡ g e ∷ [] → es ≡ e ∷ []
one_image g edges e [] h = cc
one_image g edges e (f ∷ []) h = let same : g f ≡ g e = cc in ap (λ y. y ∷ []) (sym (edges f) ∙ ap (λ d. d.edge) same ∙ edges e)
one_image g edges e (f ∷ k ∷ es) h = cc

-- an edge whose dart turns to itself is the vertex's only one
pub only_edge : (rows : Rows) → IsWellFormed rows → (v e : ℕ) → v < length rows.rotations → has_dart (around_vertex rows v) (end_dart rows v e) ≡ true
    → turn (system rows) (end_dart rows v e) ≡ end_dart rows v e → rotation rows v ≡ e ∷ []
only_edge rows good v e inside there turns =
    let distinct = distinct_system rows good.paths good.crossings good.rotations in
    let point = vertex_point rows v (vertex_in rows v inside) in
    let next : next_around (around_vertex rows v) (end_dart rows v e) ≡ end_dart rows v e =
    sym (turn_at_point (system rows) distinct (around_vertex rows v) (end_dart rows v e) point there) ∙ turns in
    one_image (end_dart rows v) (end_dart_edge rows v) e (rotation rows v)
    (alone_list (around_vertex rows v) (end_dart rows v e) (point_distinct (system rows) (around_vertex rows v) distinct point) there next)

-- and the dart of a vertex's only edge turns to itself
pub only_turn : (rows : Rows) → IsWellFormed rows → (v e : ℕ) → v < length rows.rotations → rotation rows v ≡ e ∷ []
    → turn (system rows) (end_dart rows v e) ≡ end_dart rows v e
only_turn rows good v e inside alone =
    let list : around_vertex rows v ≡ end_dart rows v e ∷ [] = ap (map (end_dart rows v)) alone in
    let there : has_dart (around_vertex rows v) (end_dart rows v e) ≡ true = ap (λ ds. has_dart ds (end_dart rows v e)) list
    ∙ or_left (same_dart (end_dart rows v e) (end_dart rows v e)) false (same_dart_self (end_dart rows v e)) in
    turn_at_point (system rows) (distinct_system rows good.paths good.crossings good.rotations) (around_vertex rows v) (end_dart rows v e)
    (vertex_point rows v (vertex_in rows v inside)) there
    ∙ ap (λ ds. next_around ds (end_dart rows v e)) list
    ∙ next_of_first (end_dart rows v e) []

-- the dart of an edge at its end stands there
pub end_there : (rows : Rows) → IsWellFormed rows → (e : ℕ) (row : EdgeRow) → edge_row rows e ≡ Some row → (v : ℕ) → (row.a ≡ v) ⊎ (row.b ≡ v)
    → (v < length rows.rotations) × (has_dart (around_vertex rows v) (end_dart rows v e) ≡ true)
end_there rows good e row there v end =
    let known = row_in rows e row there in
    let facts = path_facts rows good.paths row known in
    let inside : v < length rows.rotations =
    elim end [ inl at ↦ subst (λ n. n < length rows.rotations) at facts.a_in | inr at ↦ subst (λ n. n < length rows.rotations) at facts.b_in ] in
    let test : (row.a == v || row.b == v) ≡ true =
    elim end [ inl at ↦ or_left (row.a == v) (row.b == v) (eq-eqb row.a v at) | inr at ↦ or_right (row.a == v) (row.b == v) (eq-eqb row.b v at) ] in
    let counted = (good_rotation rows good.rotations v (vertex_in rows v inside)).counted row known in
    let once : occurrences e (rotation rows v) ≡ 1 = ap (λ n. occurrences n (rotation rows v)) (sym (row_id rows e row there)) ∙ counted ∙ ap one test in
    (inside, has_item (end_dart rows v e) (around_vertex rows v) (in_map (end_dart rows v) e (rotation rows v) (in_counted e (rotation rows v) (omega arith))))

-- a vertex's only edge ends at it
pub only_ends : (rows : Rows) → IsWellFormed rows → (e v : ℕ) (row : EdgeRow) → edge_row rows e ≡ Some row → v < length rows.rotations
    → rotation rows v ≡ e ∷ [] → (row.a ≡ v) ⊎ (row.b ≡ v)
only_ends rows good e v row there inside alone =
    let counted = (good_rotation rows good.rotations v (vertex_in rows v inside)).counted row (row_in rows e row there) in
    let id : row.id ≡ e = row_id rows e row there in
    let step = sum_by-cons (λ y. one (y == row.id)) e [] in
    let here : one (e == row.id) ≡ 1 = ap one (eq-eqb e row.id (sym id)) in
    let single : occurrences row.id (e ∷ []) ≡ 1 = omega arith in
    let lone : occurrences row.id (rotation rows v) ≡ 1 = ap (occurrences row.id) alone ∙ single in
    by_tests (row.a == v) (row.b == v) refl refl (omega arith) where
      by_tests : (s t : Bool) → (row.a == v) ≡ s → (row.b == v) ≡ t → one (row.a == v || row.b == v) ≡ 1 → (row.a ≡ v) ⊎ (row.b ≡ v)
      by_tests true t p q h = inl (eqb-true row.a v p)
      by_tests false true p q h = inr (eqb-true row.b v q)
      by_tests false false p q h = let none : one (row.a == v || row.b == v) ≡ 0 = ap (λ (t : Bool). one (t || row.b == v)) p ∙ ap one q in absurd (omega arith)
