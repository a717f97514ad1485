-- Numbers noted at the places of pairs, where 0 stands for none, and pairs that stand more often than they should.
use Rattle.std.specs.Prelude.{◌≡◌, ◌<◌, ◌+◌, ◌*◌, ◌==◌, ◌||◌, ℕ, false, cond, List, [], ◌∷◌, length, slice_index}
use Rattle.topo_core.specs.declared.rows.CrossRow.{CrossRow}
use Rattle.topo_core.specs.Items.{IsIn, occurrences}
use Rattle.topo_rows.specs.Flats.{note_place}
use Rattle.topo_rows.specs.Pairs.{pair, crossing_pairs}

-- how often k stands among the pairs at whose places a number is noted
abbrev pub noted : ℕ → List ℕ → List ℕ → ℕ
noted k [] pairs = 0
noted k (n ∷ ns) [] = 0
noted k (n ∷ ns) (p ∷ ps) = cond {A = ℕ} (n == 0) 0 (cond {A = ℕ} (p == k) 1 0) + noted k ns ps

-- what is noted of the crossings has grown by these pairs
abbrev pub Fills : List CrossRow → List ℕ → List ℕ → List ℕ → Type 0
Fills crossings before after pairs = (k : ℕ) → noted k after (crossing_pairs crossings) ≡ noted k before (crossing_pairs crossings) + occurrences k pairs

-- the dart ahead of crossing x on edge e is noted at this place, where the crossing's row wants that edge
pub record IsNotePlace (crossings : List CrossRow) (e x place : ℕ) : Type 0 where
  pub row : CrossRow
  pub there : IsIn row crossings
  pub named : row.id ≡ x
  pub placed : place ≡ note_place crossings e x
  pub within : place < 2 * length crossings
  pub paired : slice_index (crossing_pairs crossings) place ≡ pair e x

-- crossing x is of two other edges than e
pub record IsOfOthers (crossings : List CrossRow) (e x : ℕ) : Type 0 where
  pub row : CrossRow
  pub there : IsIn row crossings
  pub named : row.id ≡ x
  pub none : (row.crossed == e || row.newcomer == e) ≡ false

-- an edge stands with a crossing more often than it should, in what is noted and in these pairs together
pub record IsOverfull (crossings : List CrossRow) (before pairs : List ℕ) : Type 0 where
  pub edge : ℕ
  pub row : CrossRow
  pub there : IsIn row crossings
  pub more : cond {A = ℕ} (row.crossed == edge || row.newcomer == edge) 1 0
      < noted (pair edge row.id) before (crossing_pairs crossings) + occurrences (pair edge row.id) pairs
