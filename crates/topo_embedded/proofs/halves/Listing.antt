-- The halves of rows, listed edge by edge.
use Rattle.std.proofs.Common.{◌≡◌, ◌+◌, ◌*◌, ◌≤◌, List, [], ◌∷◌, ◌++◌, length, sym, ap, subst, ◌∙◌, arith, ℕ, inl, inr}
use Rattle.std.specs.Prelude.{flat_map, slice_get, slice_index, slice_index_or, Some}
use Rattle.std.proofs.lemmas.Bool.{cases_lt}
use Rattle.std.proofs.lemmas.List.{get_or_append_left, get_or_at, length-append}
use Rattle.topo_core.specs.declared.rows.EdgeRow.{EdgeRow}
use Rattle.topo_core.specs.Picture.{darts_of, segment_count}
use Rattle.topo_rows.specs.Flats.{begins_from}
use Rattle.topo_rows.proofs.Interface.{back_get, begins_at, got_within}
use Rattle.topo_embedded.specs.Making.{ArePathsOf, IsPathOf}

pub paths_none : (edges : List EdgeRow) (begins halves : List ℕ) (paths : List (List ℕ)) → paths ≡ [] → ArePathsOf edges begins halves 0 paths
paths_none edges begins halves paths none = record { as_many = ap length none; each = λ i row less got. absurd (omega (arith, less)) }

pub paths_more : {edges : List EdgeRow} {begins halves : List ℕ} {paths more : List (List ℕ)} (k : ℕ) (row : EdgeRow) (path : List ℕ)
    → ArePathsOf edges begins halves k paths → slice_get edges k ≡ Some row
    → IsPathOf halves (slice_index begins k) (segment_count row) path → more ≡ paths ++ path ∷ [] → ArePathsOf edges begins halves (k + 1) more
paths_more {begins} {halves} {paths} k row path p at is_path is = record {
  as_many = ap length is ∙ length-append paths (path ∷ []) ∙ omega (arith, p.as_many);
  each = λ i other li got. subst (IsPathOf halves (slice_index begins i) (segment_count other)) (sym (ap (λ xs. slice_index_or xs i []) is))
      (elim (cases_lt i k) [
        | inl less ↦ subst (IsPathOf halves (slice_index begins i) (segment_count other))
            (sym (get_or_append_left paths (path ∷ []) [] i (omega (arith, p.as_many)))) (p.each i other less got)
        | inr last ↦ grind (arith, get_or_at)
      ]);
}

-- the halves along an edge are among all
pub path_fits : (edges : List EdgeRow) (begins : List ℕ) (k : ℕ) (row : EdgeRow) → begins ≡ begins_from 0 edges → slice_get edges k ≡ Some row
    → slice_index begins k + 2 * segment_count row ≤ length (flat_map darts_of edges)
path_fits edges begins k row begin at =
    let b = begins_at 0 edges k row at in
    let here : slice_index begins k ≡ 0 + b.before = ap (λ xs. slice_index xs k) begin ∙ b.here in
    let last : ℕ = 2 * length row.crossings + 1 in
    let got = b.listed last (omega arith) ∙ back_get row.id 0 (segment_count row) (length row.crossings) (omega arith) in
    let within = got_within (flat_map darts_of edges) (b.before + last) _ got in omega arith
