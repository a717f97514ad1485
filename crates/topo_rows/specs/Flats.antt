-- The flat lists of rows: numbers of darts by edges, by crossings and round points, and what is written where.
use Rattle.std.specs.Prelude.{◌≡◌, ℕ, ◌+◌, ◌-◌, ◌*◌, ◌==◌, cond, List, [], ◌∷◌, ◌++◌, map, length, Some, slice_get, slice_index, slice_index_or, slice_set}
use Rattle.std.specs.List.{position_or_len}
use Rattle.topo_core.specs.declared.darts.Sign.{Sign}
use Rattle.topo_core.specs.declared.darts.Sign.TheVariants.{LeftToRight, RightToLeft}
use Rattle.topo_core.specs.declared.rows.Rows.{Rows}
use Rattle.topo_core.specs.declared.rows.EdgeRow.{EdgeRow}
use Rattle.topo_core.specs.declared.rows.CrossRow.{CrossRow}
use Rattle.topo_core.specs.Picture.{segment_count, index_of, ahead, around_vertex, around_crossing, turn_images}

-- for each edge the number of its first dart, where n darts come before, and last the number of all
abbrev pub begins_from : ℕ → List EdgeRow → List ℕ
begins_from n [] = n ∷ []
begins_from n (row ∷ rest) = n ∷ begins_from (n + 2 * segment_count row) rest

-- the list with these numbers written at their places, one after another
abbrev pub written : List ℕ → List (ℕ × ℕ) → List ℕ
written xs [] = xs
written xs (w ∷ ws) = written (slice_set xs w.0 w.1) ws

-- for each entry of a round: what follows it, where `first` follows the last
abbrev pub links_to : ℕ → List ℕ → List (ℕ × ℕ)
links_to first [] = []
links_to first (x ∷ xs) = (x, slice_index_or xs 0 first) ∷ links_to first xs

-- for each entry of a round the next one
abbrev pub links : List ℕ → List (ℕ × ℕ)
links round = links_to (slice_index_or round 0 0) round

-- the place of a crossing in the list of the crossings
abbrev pub crossing_place : List CrossRow → ℕ → ℕ
crossing_place crossings x = position_or_len (λ c. c.id == x) crossings

-- where the dart ahead of crossing x on edge e is noted: at 2p for the crossed edge of crossing p, and at 2p + 1 for the newcomer
abbrev pub note_place : List CrossRow → ℕ → ℕ → ℕ
note_place crossings e x = let p = crossing_place crossings x in 2 * p + cond {A = ℕ} (e == slice_index (map (λ c. c.crossed) crossings) p) 0 1

-- what is noted of a path whose edge has number n for its first dart: the number of the dart ahead of each crossing
abbrev pub path_notes : List CrossRow → ℕ → ℕ → List ℕ → List (ℕ × ℕ)
path_notes crossings e n [] = []
path_notes crossings e n (x ∷ xs) = (note_place crossings e x, n + 2) ∷ path_notes crossings e (n + 2) xs

-- what is noted of the paths of edges, where n darts come before
abbrev pub notes_from : List CrossRow → ℕ → List EdgeRow → List (ℕ × ℕ)
notes_from crossings n [] = []
notes_from crossings n (row ∷ rest) = path_notes crossings row.id n row.crossings ++ notes_from crossings (n + 2 * segment_count row) rest

-- the numbers of the darts round each point, clockwise
abbrev pub vertex_round : Rows → ℕ → List ℕ
vertex_round rows v = map (index_of rows) (around_vertex rows v)

abbrev pub crossing_round : Rows → CrossRow → List ℕ
crossing_round rows x = map (index_of rows) (around_crossing rows x)

-- the round of a crossing, from the numbers of the two darts ahead of it: each dart behind has the number before
abbrev pub round_ahead : Sign → ℕ → ℕ → List ℕ
round_ahead LeftToRight crossed newcomer = crossed ∷ newcomer ∷ (crossed - 1) ∷ (newcomer - 1) ∷ []
round_ahead RightToLeft crossed newcomer = crossed ∷ (newcomer - 1) ∷ (crossed - 1) ∷ newcomer ∷ []

-- for each crossing the numbers of the darts ahead of it: at 2p on the crossed edge of crossing p, and at 2p + 1 on the newcomer
pub record AreAhead (rows : Rows) (numbers : List ℕ) : Type 0 where
  pub as_many : length numbers ≡ 2 * length rows.crossings
  pub crossed : (p : ℕ) (x : CrossRow) → slice_get rows.crossings p ≡ Some x → slice_index numbers (2 * p) ≡ index_of rows (ahead rows x.crossed x.id)
  pub newcomer : (p : ℕ) (x : CrossRow) → slice_get rows.crossings p ≡ Some x → slice_index numbers (2 * p + 1) ≡ index_of rows (ahead rows x.newcomer x.id)

-- the numbers are what is noted of the paths, written over some list
pub record AreNoted (rows : Rows) (numbers : List ℕ) : Type 0 where
  pub before : List ℕ
  pub as_many : length before ≡ 2 * length rows.crossings
  pub noted : numbers ≡ written before (notes_from rows.crossings 0 rows.edges)

-- the lists hold what they should of how the darts of the rows turn: where the darts of each edge begin, and the images of the turn
pub record AreTurnsOf (rows : Rows) (begins turns : List ℕ) : Type 0 where
  pub edge_begins : begins ≡ begins_from 0 rows.edges
  pub images : turns ≡ turn_images rows
