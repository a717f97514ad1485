-- Slopes and kinds fit the rows through growths, insertions and deletions.
use Rattle.std.proofs.Common.{◌≡◌, ◌⊎◌, ℕ, zero, suc, ◌+◌, ◌≤◌, ◌++◌, cond, List, [], ◌∷◌}
use Rattle.std.proofs.Common.{None, Option, Some, inl, inr, length, refl, sym, ap, subst, ◌∙◌, arith}
use Rattle.std.specs.Prelude.{is_some, map, slice_get, slice_index_or}
use Rattle.std.specs.Option.{option_map, option_or}
use Rattle.std.proofs.lemmas.Bool.{cases_Bool, eqb-true}
use Rattle.std.proofs.lemmas.List.{length-append}
use Rattle.std.proofs.lemmas.Option.{slice_get_within}
use Rattle.std.proofs.lemmas.List.Folds.{find-append}
use Rattle.std.specs.Prelude.{◌==◌}
use Rattle.topo_core.specs.declared.darts.Dart.{Dart}
use Rattle.topo_core.specs.declared.rows.EdgeRow.{EdgeRow}
use Rattle.topo_core.specs.declared.rows.Rows.{Rows}
use Rattle.topo_core.specs.declared.routes.Route.{Route}
use Rattle.topo_core.specs.Changes.{grown, shown, without}
use Rattle.topo_core.specs.Lawful.{IsWellFormed}
use Rattle.topo_core.specs.Picture.{corner, edge_row}
use Rattle.topo_table.specs.Places.{present, values_in}
use Rattle.topo_embedded.specs.Bounds.{AreConsistentOn, BoundsState, FitsRows, GoesOn, floor_of, slope_by, slope_of_row}
use Rattle.topo_embedded.specs.KnownKinds.{AreKindsOf, IsNoted}
use Rattle.topo_embedded.specs.Halves.{RowsWithPaths, ShowsRows, half_in}
use Rattle.topo_embedded.specs.Parts.{Agree, AreForSearches, with_paths}
use Rattle.topo_embedded.specs.Paths.{AreForEdges}
use Rattle.topo_embedded.specs.declared.parts.Parts.{Parts}
use Rattle.topo_core.specs.Changes.{crossed_row}
use Rattle.topo_core.proofs.Interface.{known_edge_below, newcomer_row, shown_edge_row, without_known}
use Rattle.topo_embedded.proofs.guided.Going.{consistent_same, none_consistent}
use Rattle.topo_embedded.proofs.growing.Grown.{kept_shows}
use Rattle.topo_embedded.proofs.halves.KeptPaths.{kept_same}

-- the row of an edge is that of an edge with this id and kind before, or of the edge that is new
abbrev pub ComesFrom : Rows → ℕ → ℕ → EdgeRow → Type 0
ComesFrom rows kind e row = ((old : EdgeRow) × (edge_row rows e ≡ Some old) × (row.kind ≡ old.kind)) ⊎ ((e ≡ rows.next_edge) × (row.kind ≡ kind))

-- an old row or a new one
by_row : (rows : Rows) (e : ℕ) (row : EdgeRow) (change : EdgeRow → EdgeRow) (new : EdgeRow) →
    ((old : EdgeRow) → (change old).kind ≡ old.kind) → (o : Option EdgeRow)
    → edge_row rows e ≡ o → option_or (option_map change o) (cond {A = Option EdgeRow} (rows.next_edge == e) (Some new) None) ≡ Some row
    → ComesFrom rows new.kind e row
by_row rows e row change new keeps (Some old) at is = let same : change old ≡ row = cc in inl (old, at, ap (λ (r : EdgeRow). r.kind) (sym same) ∙ keeps old)
by_row rows e row change new keeps None at is = elim (cases_Bool (rows.next_edge == e)) [
  | inl here ↦
      let same : Some new ≡ Some row = ap (λ b. cond {A = Option EdgeRow} b (Some new) None) (sym here) ∙ is in
      let alike : new ≡ row = cc in inr (sym (eqb-true rows.next_edge e here), ap (λ (r : EdgeRow). r.kind) (sym alike))
  | inr other ↦
      let none : None ≡ Some row = ap (λ b. cond {A = Option EdgeRow} b (Some new) None) (sym other) ∙ is in cc
]

pub shown_from : (rows : Rows) (u v kind : ℕ) (r : Route) (e : ℕ) (row : EdgeRow) → edge_row (shown rows u v kind r) e ≡ Some row → ComesFrom rows kind e row
shown_from rows u v kind r e row at = by_row rows e row (crossed_row rows r) (newcomer_row rows u v kind r) (λ old. refl) (edge_row rows e) refl
    (sym (shown_edge_row rows u v kind r e) ∙ at)

same_map : (o : Option EdgeRow) → option_map (λ row. row) o ≡ o
same_map None = refl
same_map (Some row) = refl

pub grown_from : (rows : Rows) (u p kind e : ℕ) (row : EdgeRow) → edge_row (grown rows u p kind) e ≡ Some row → ComesFrom rows kind e row
grown_from rows u p kind e row at =
    let new : EdgeRow = record { id = rows.next_edge; a = u; b = length rows.rotations; kind = kind; crossings = [] } in
    let found : edge_row (grown rows u p kind) e ≡ option_or (edge_row rows e) (cond {A = Option EdgeRow} (rows.next_edge == e) (Some new) None) =
    find-append (λ row. row.id == e) rows.edges (new ∷ []) in
    by_row rows e row (λ old. old) new (λ old. refl) (edge_row rows e) refl
    (ap (λ o. option_or o (cond {A = Option EdgeRow} (rows.next_edge == e) (Some new) None)) (same_map (edge_row rows e)) ∙ sym found ∙ at)

pub without_from : (rows : Rows) (gone kind e : ℕ) (row : EdgeRow) → edge_row (without rows gone) e ≡ Some row → ComesFrom rows kind e row
without_from rows gone kind e row at = let (apart, (old, was, same)) = without_known rows gone e row at in inl (old, was, ap (λ (r : EdgeRow). r.kind) same)

-- an edge that comes later has no slope
fits_on : (rows rows' : Rows) (kind : ℕ) (b b' : BoundsState) (slope : ℕ → ℕ) →
    ((e : ℕ) (row : EdgeRow) → edge_row rows' e ≡ Some row → ComesFrom rows kind e row)
    → rows.next_edge ≤ rows'.next_edge → b'.floors ≡ b.floors → FitsRows rows b slope → FitsRows rows' b' slope
fits_on rows rows' kind b b' slope from more floors was = record {
  fits = λ e row at.
      let floor : floor_of b' row.kind ≡ floor_of b row.kind = ap (λ (f : List ℕ). slice_index_or f row.kind 0) floors in
      elim (from e row at) [
        | inl old ↦
            let low = was.fits e old.0 old.1 in
            let same : floor_of b row.kind ≡ floor_of b old.0.kind = ap (floor_of b) old.2 in
            omega (arith, floor, low, same)
        | inr new ↦
            let none = was.later e (omega (arith, new.0)) in omega (arith, none)
      ];
  later = λ e past. was.later e (omega (arith, more, past));
}

-- ---- Kinds

-- an entry of a list with one more is of the list, or the last
by_end : (kinds : List ℕ) (last e k : ℕ) → slice_get (kinds ++ last ∷ []) e ≡ Some k → (slice_get kinds e ≡ Some k) ⊎ ((e ≡ length kinds) × (k ≡ last))
by_end [] last zero k at = let same : Some last ≡ Some k = at in let alike : last ≡ k = cc in inr (refl, sym alike)
by_end [] last (suc e) k at = cc
by_end (x ∷ xs) last zero k at = inl at
by_end (x ∷ xs) last (suc e) k at = elim (by_end xs last e k at) [
  | inl old ↦ inl old
  | inr end ↦ inr (ap suc end.0, end.1)
]

-- what is known goes on where an edge comes that may be noted
pub kinds_on : (rows rows' : Rows) → IsWellFormed rows → (kind : ℕ) (kinds kinds' : List ℕ)
    → ((e : ℕ) (row : EdgeRow) → edge_row rows' e ≡ Some row → ComesFrom rows kind e row) → rows'.next_edge ≡ rows.next_edge + 1
    → IsNoted kinds kinds' rows.next_edge kind → AreKindsOf rows kinds → AreKindsOf rows' kinds'
kinds_on rows rows' formed kind kinds kinds' from more (inl same) was = subst (AreKindsOf rows') (sym same) (record {
  known = λ e k row at found. elim (from e row found) [
    | inl old ↦ old.2 ∙ was.known e k old.0 at old.1
    | inr new ↦ (let few = was.few in let below = slice_get_within kinds e k at in absurd (omega (arith, few, below, new.0)))
  ];
  few = (let few = was.few in omega (arith, few, more));
})
kinds_on rows rows' formed kind kinds kinds' from more (inr noted) was = subst (AreKindsOf rows') (sym noted.1) (record {
  known = λ e k row at found. by_entry e k row (by_end kinds kind e k at) (from e row found);
  few = (let few = was.few in let long : length (kinds ++ kind ∷ []) ≡ length kinds + 1 = length-append kinds
      (kind ∷ []) in omega (arith, few, more, long, noted.0));
}) where
  by_entry : (e k : ℕ) (row : EdgeRow) → (slice_get kinds e ≡ Some k) ⊎ ((e ≡ length kinds) × (k ≡ kind)) → ComesFrom rows kind e row → row.kind ≡ k
  by_entry e k row (inl old) (inl was_row) = was_row.2 ∙ was.known e k was_row.0 old was_row.1
  by_entry e k row (inl old) (inr new) = let below = slice_get_within kinds e k old in absurd (omega (arith, below, new.0, noted.0))
  by_entry e k row (inr end) (inl was_row) =
      let below = known_edge_below rows formed.paths e (ap is_some was_row.1) in absurd (omega (arith, below, end.0, noted.0))
  by_entry e k row (inr end) (inr new) = new.1 ∙ sym end.1

-- the same kinds of rows whose edges were there
pub kinds_kept : (rows rows' : Rows) (kinds : List ℕ) → ((kind e : ℕ) (row : EdgeRow) → edge_row rows' e ≡ Some row → ComesFrom rows kind e row)
    → rows'.next_edge ≡ rows.next_edge → AreKindsOf rows kinds → AreKindsOf rows' kinds
kinds_kept rows rows' kinds from same was = record {
  known = λ e k row at found. elim (from 0 e row found) [
    | inl old ↦ old.2 ∙ was.known e k old.0 at old.1
    | inr new ↦ (let few = was.few in let below = slice_get_within kinds e k at in absurd (omega (arith, few, below, new.0)))
  ];
  few = (let few = was.few in omega (arith, few, same));
}

-- ---- The parts of a picture

-- where the rows, the slots with their labels, the potentials and the kinds are the same
pub searches_same : (p p' : Parts) → p'.rows ≡ p.rows → p'.segments.slots ≡ p.segments.slots → p'.segments.labels ≡ p.segments.labels → p'.bounds ≡ p.bounds
    → p'.kinds ≡ p.kinds → AreForSearches p → AreForSearches p'
searches_same p p' rows slots labels bounds kinds was = record {
  slope = was.slope;
  consistent = subst (λ b. AreConsistentOn b was.slope p'.segments) (sym bounds)
      (consistent_same p.segments p'.segments p.bounds was.slope slots labels was.consistent);
  fits = subst (λ b. FitsRows p'.rows b was.slope) (sym bounds) (subst (λ (r : Rows). FitsRows r p.bounds was.slope) (sym rows) was.fits);
  kinds = subst (AreKindsOf p'.rows) (sym kinds) (subst (λ (r : Rows). AreKindsOf r p.kinds) (sym rows) was.kinds);
}

-- where an edge comes: the potentials go with the segments
pub searches_on : (p p' : Parts) (kind : ℕ) → IsWellFormed p.rows → GoesOn p.segments p'.segments p.bounds p'.bounds
    → ((e : ℕ) (row : EdgeRow) → edge_row p'.rows e ≡ Some row → ComesFrom p.rows kind e row) → p'.rows.next_edge ≡ p.rows.next_edge + 1
    → IsNoted p.kinds p'.kinds p.rows.next_edge kind → AreForSearches p → AreForSearches p'
searches_on p p' kind formed goes from more noted was = record {
  slope = was.slope;
  consistent = goes.consistent was.slope was.consistent;
  fits = fits_on p.rows p'.rows kind p.bounds p'.bounds was.slope from (omega (arith, more)) goes.floors was.fits;
  kinds = kinds_on p.rows p'.rows formed kind p.kinds p'.kinds from more noted was.kinds;
}

-- where an edge goes
pub searches_without : (p p' : Parts) (gone : ℕ) → p'.rows ≡ without p.rows gone → p'.bounds.potentials ≡ [] → p'.bounds.floors ≡ p.bounds.floors
    → p'.kinds ≡ p.kinds → AreForSearches p → AreForSearches p'
searches_without p p' gone rows none floors kinds was =
    let from : (kind e : ℕ) (row : EdgeRow) → edge_row p'.rows e ≡ Some row → ComesFrom p.rows kind e row =
    λ kind e row at. without_from p.rows gone kind e row (ap (λ (r : Rows). edge_row r e) (sym rows) ∙ at) in
    let same : p'.rows.next_edge ≡ p.rows.next_edge = ap (λ (r : Rows). r.next_edge) rows in
    record {
      slope = was.slope;
      consistent = none_consistent p'.bounds was.slope p'.segments none;
      fits = fits_on p.rows p'.rows 0 p.bounds p'.bounds was.slope (from 0) (omega (arith, same)) floors was.fits;
      kinds = subst (AreKindsOf p'.rows) (sym kinds) (kinds_kept p.rows p'.rows p.kinds from same was.kinds);
    }

-- nothing guides a search
pub searches_none : (p : Parts) → p.bounds.potentials ≡ [] → AreKindsOf p.rows p.kinds → AreForSearches p
searches_none p none kinds = record {
  slope = λ _. 0;
  consistent = none_consistent p.bounds (λ _. 0) p.segments none;
  fits = record { fits = λ e row at. omega arith; later = λ e past. refl };
  kinds = kinds;
}

-- slopes that are the floors of the rows' kinds
pub fits_by : (rows : Rows) (b : BoundsState) → IsWellFormed rows → FitsRows rows b (slope_by rows b)
fits_by rows b formed = record {
  fits = λ e row at. (let same : slope_by rows b e ≡ floor_of b row.kind = ap (slope_of_row b) at in omega (arith, same));
  later = λ e past. by_row_there e past (edge_row rows e) refl;
} where
  by_row_there : (e : ℕ) → rows.next_edge ≤ e → (o : Option EdgeRow) → edge_row rows e ≡ o → slope_of_row b o ≡ 0
  by_row_there e past None at = refl
  by_row_there e past (Some row) at = let below = known_edge_below rows formed.paths e (ap is_some at) in absurd (omega (arith, below, past))

-- what else is kept of the parts, where rows, paths and slots are the same
pub parts_same : (p p' : Parts) → p'.rows ≡ p.rows → p'.paths.slots ≡ p.paths.slots → p'.segments.slots ≡ p.segments.slots → IsWellFormed p.rows → Agree p
    → AreForEdges p.rows p.paths
    → IsWellFormed p'.rows × Agree p' × AreForEdges p'.rows p'.paths
parts_same p p' rows paths slots formed agree kept =
    let values : values_in p'.paths ≡ values_in p.paths = ap (λ s. map (λ e. e.1) (present s)) paths in (
      subst IsWellFormed (sym rows) formed,
      subst (λ (r : Rows). ShowsRows (record { rows = r; paths = values_in p'.paths }) p'.segments) (sym rows)
          (subst (λ ps. ShowsRows (record { rows = p.rows; paths = ps }) p'.segments) (sym values)
          (kept_shows (with_paths p) p.segments p'.segments slots agree)),
      subst (λ (r : Rows). AreForEdges r p'.paths) (sym rows) (kept_same p.rows p.paths p'.paths paths kept),
    )

-- a corner's name is the half of its dart
pub corner_names : (q : RowsWithPaths) (o : Option ℕ) (name u position : ℕ) → o ≡ option_map (half_in q) (corner q.rows u position) → o ≡ Some name
    → (d : Dart) → corner q.rows u position ≡ Some d → name ≡ half_in q d
corner_names q o name u position is found d at = by_option (corner q.rows u position) refl where
  by_option : (c : Option Dart) → corner q.rows u position ≡ c → name ≡ half_in q d
  by_option c e = cc
