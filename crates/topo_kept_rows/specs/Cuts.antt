-- The first segment of an edge that is a cut, and walks along the faces while the edge is opened.
use Rattle.std.specs.Prelude.{◌≡◌, ◌≤◌, ℕ, false, length, MatchOption, Option, true}
use Rattle.topo_core.specs.declared.darts.Dart.{Dart}
use Rattle.topo_core.specs.declared.rows.Rows.{Rows}
use Rattle.topo_core.specs.Changes.{HasOneFace, IsLocalCut}
use Rattle.topo_core.specs.Openings.{is_opened, opened_turn}
use Rattle.topo_core.specs.Picture.{darts, edge_at, index_of}
use Rattle.topo_core.specs.Rotations.{face_next}
use Rattle.topo_core.specs.Systems.{has_dart}

-- the dart of a name is left when the first `out` segments of e are out
pub record IsLeft (rows : Rows) (name : Dart → ℕ) (e out : ℕ) (d : Dart) (n : ℕ) : Type 0 where
  pub there : has_dart (darts rows) d ≡ true
  pub stays : is_opened e out d ≡ false
  pub named : n ≡ name d

-- it is the next along the face on the left of another
pub record IsNextLeft (rows : Rows) (name : Dart → ℕ) (e out : ℕ) (d next : Dart) (n : ℕ) : Type 0 where
  pub left : IsLeft rows name e out next n
  pub follows : index_of rows next ≡ face_next (opened_turn rows e out) (index_of rows d)

-- the first segment of e that is a cut by faces, or that there is none
abbrev pub IsFirstCut : Rows → ℕ → Option ℕ → Type 0
IsFirstCut rows e found = MatchOption found ((i : ℕ) → i ≤ length (edge_at rows e).crossings → HasOneFace rows e i → ⊥) (λ i. IsLocalCut rows e i)
