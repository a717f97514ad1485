-- Runs of edits of a slab, and the same edits of another slab whose live darts stand for those of the first.
use Rattle.std.specs.Prelude.{◌≡◌, ◌≢◌, ℕ, ◌<◌, Bool, List, [], ◌∷◌}
use Rattle.topo_core.specs.Cycles.{IsPermutation}
use Rattle.topo_core.specs.Rotations.{twin}
use Rattle.topo_core.specs.Edits.{IsHang, IsChord, IsUnchord, IsSplit, IsSmooth}
use Rattle.topo_perm.specs.Joins.{AddsSegment}
use Rattle.topo_perm.specs.RenumberedEdits.{IsAlive, extended}

-- which darts are live, and how all turn
pub record Turning : Type 0 where
  pub live : ℕ → Bool
  pub turn : ℕ → ℕ

-- an edit: its corners or the dart that is split, and then a dart of the segment that comes or goes
pub data Edit : Type 0 where
  Hang : ℕ → ℕ → Edit
  Chord : ℕ → ℕ → ℕ → Edit
  Unchord : ℕ → Edit
  Split : ℕ → ℕ → Edit
  Smooth : ℕ → Edit

-- ---- Runs

-- the segment of x becomes live
pub record Comes (n : ℕ) (s : Turning) (x : ℕ) (t : Turning) : Type 0 where
  pub within : x < n
  pub adds : AddsSegment s.live t.live n x
  pub permutation : IsPermutation t.turn n

-- the segment of x was live
pub record Goes (n : ℕ) (s : Turning) (x : ℕ) (t : Turning) : Type 0 where
  pub there : IsAlive s.live n x
  pub takes : AddsSegment t.live s.live n x
  pub permutation : IsPermutation t.turn n

-- the edit leads from s to t
abbrev pub IsStep : ℕ → Turning → Edit → Turning → Type 0
IsStep n s (Hang c x) t = Comes n s x t × IsAlive s.live n c × IsHang s.turn t.turn n c x
IsStep n s (Chord c d x) t = Comes n s x t × (IsAlive s.live n c × IsAlive s.live n d) × IsChord s.turn t.turn n c d x
IsStep n s (Unchord x) t = Goes n s x t × IsUnchord s.turn t.turn n x
IsStep n s (Split c x) t = Comes n s x t × IsAlive s.live n c × IsSplit s.turn t.turn n c x
IsStep n s (Smooth x) t = Goes n s x t × (s.turn x ≢ twin x) × IsSmooth s.turn t.turn n x

-- the edits lead from s to t, the first of the list last
abbrev pub IsRun : ℕ → Turning → List Edit → Turning → Type 0
IsRun n s [] t = s ≡ t
IsRun n s (e ∷ es) t = (u : Turning) × IsRun n s es u × IsStep n u e t

-- ---- The same run of another slab

-- the dart of the segment that comes or goes
abbrev pub segment_of : Edit → ℕ
segment_of (Hang c x) = x
segment_of (Chord c d x) = x
segment_of (Unchord x) = x
segment_of (Split c x) = x
segment_of (Smooth x) = x

-- the edit under the numbers h, where a segment that comes gets the number y
abbrev pub under : (ℕ → ℕ) → Edit → ℕ → Edit
under h (Hang c x) y = Hang (h c) y
under h (Chord c d x) y = Chord (h c) (h d) y
under h (Unchord x) y = Unchord (h x)
under h (Split c x) y = Split (h c) y
under h (Smooth x) y = Smooth (h x)

-- the numbers after the edit
abbrev pub stepped : (ℕ → ℕ) → Edit → ℕ → ℕ → ℕ
stepped h (Hang c x) y = extended h x y
stepped h (Chord c d x) y = extended h x y
stepped h (Unchord x) y = h
stepped h (Split c x) y = extended h x y
stepped h (Smooth x) y = h

-- and the way back
abbrev pub stepped_back : (ℕ → ℕ) → Edit → ℕ → ℕ → ℕ
stepped_back back (Hang c x) y = extended back y x
stepped_back back (Chord c d x) y = extended back y x
stepped_back back (Unchord x) y = back
stepped_back back (Split c x) y = extended back y x
stepped_back back (Smooth x) y = back

-- the numbers after a run, where the segments that come have those of the other run
abbrev pub numbers_after : (ℕ → ℕ) → List Edit → List Edit → ℕ → ℕ
numbers_after h [] ds = h
numbers_after h (e ∷ es) [] = h
numbers_after h (e ∷ es) (d ∷ ds) = stepped (numbers_after h es ds) e (segment_of d)

abbrev pub backs_after : (ℕ → ℕ) → List Edit → List Edit → ℕ → ℕ
backs_after back [] ds = back
backs_after back (e ∷ es) [] = back
backs_after back (e ∷ es) (d ∷ ds) = stepped_back (backs_after back es ds) e (segment_of d)

-- edit by edit the second run is the first under the numbers
abbrev pub AreAlike : (ℕ → ℕ) → List Edit → List Edit → Type 0
AreAlike h [] [] = Unit {0}
AreAlike h [] (d ∷ ds) = ⊥
AreAlike h (e ∷ es) [] = ⊥
AreAlike h (e ∷ es) (d ∷ ds) = AreAlike h es ds × (d ≡ under (numbers_after h es ds) e (segment_of d))
