-- The five edits of an embedding on a path of three points, and edits that are none. Each record is proved as the contract of a
-- function without a body.
use Rattle.std.specs.Prelude.{ℕ, [], ◌∷◌}
use Rattle.topo_core.specs.Cycles.{map_of}
use Rattle.topo_core.specs.Edits.{IsChord, IsHang, IsIsolated, IsSmooth, IsSplit, IsUnchord}

-- Segments 0 and 1 are a path: the darts 1 and 2 turn to each other at its middle, 0 and 3 are its ends. Segment 2 is isolated.
abbrev pub path : ℕ → ℕ
path = map_of (0 ∷ 2 ∷ 1 ∷ 3 ∷ 4 ∷ 5 ∷ [])

-- segment 2 hangs from the corner of dart 1
abbrev pub hung : ℕ → ℕ
hung = map_of (0 ∷ 2 ∷ 4 ∷ 3 ∷ 1 ∷ 5 ∷ [])

-- it leads from one end of the path to the other
abbrev pub ring : ℕ → ℕ
ring = map_of (4 ∷ 2 ∷ 1 ∷ 5 ∷ 0 ∷ 3 ∷ [])

-- it is the far part of segment 0: the new point has the darts 1 and 4, and dart 5 has taken the place of dart 1
abbrev pub parted : ℕ → ℕ
parted = map_of (0 ∷ 4 ∷ 5 ∷ 3 ∷ 1 ∷ 2 ∷ [])

pub record EditEvidence : Type 0 where
  pub isolated : IsIsolated path 4
  pub hang : IsHang path hung 6 1 4
  pub chord : IsChord path ring 6 0 3 4
  pub unchord : IsUnchord ring path 6 4
  pub split : IsSplit path parted 6 0 4
  pub smooth : IsSmooth parted path 6 4
  -- a segment that is not isolated, another corner, and the turn of before
  pub not_isolated : IsIsolated path 0 → ⊥
  pub other_corner : IsHang path hung 6 2 4 → ⊥
  pub hangs_at_itself : IsHang path path 6 1 4 → ⊥
  pub other_end : IsChord path ring 6 0 2 4 → ⊥
  pub one_end : IsChord path hung 6 1 3 4 → ⊥
  pub still_there : IsUnchord ring ring 6 4 → ⊥
  pub one_end_gone : IsUnchord ring (map_of (0 ∷ 2 ∷ 1 ∷ 5 ∷ 4 ∷ 3 ∷ [])) 6 4 → ⊥
  pub not_parted : IsSplit path path 6 0 4 → ⊥
  pub other_side : IsSplit path parted 6 1 4 → ⊥
  pub not_smoothed : IsSmooth parted parted 6 4 → ⊥
