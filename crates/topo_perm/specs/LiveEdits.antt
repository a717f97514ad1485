-- What each edit does to a slab: the segments that are not live stay isolated, and the live ones count one more or one less.
use Rattle.std.specs.Prelude.{◌≡◌, ℕ, ◌+◌, ◌<◌, Bool, true}
use Rattle.topo_core.specs.Rotations.{face_next}
use Rattle.topo_perm.specs.Edits.{IsAllowedHang, IsAllowedChord, IsAllowedUnchord, IsAllowedSplit, IsAllowedSmooth}
use Rattle.topo_perm.specs.Joins.{AddsSegment}
use Rattle.topo_perm.specs.Live.{IsSlab, live_cycle_count, live_segments, free_segments}

-- slabs before and after, the second with the segment of x more
pub record GrowsSlab (live live' : ℕ → Bool) (f g : ℕ → ℕ) (n x : ℕ) : Type 0 where
  pub before : IsSlab live f n
  pub after : IsSlab live' g n
  pub within : x < n
  pub adds : AddsSegment live live' n x

-- the second with the segment of x less
pub record ShrinksSlab (live live' : ℕ → Bool) (f g : ℕ → ℕ) (n x : ℕ) : Type 0 where
  pub before : IsSlab live f n
  pub after : IsSlab live' g n
  pub within : x < n
  pub takes : AddsSegment live' live n x

-- how many cycles of live darts there are after an edit, and how many there were
abbrev pub AreMore : (ℕ → Bool) → (ℕ → Bool) → (ℕ → ℕ) → (ℕ → ℕ) → ℕ → ℕ → Type 0
AreMore live live' f g n k = live_cycle_count live' g n ≡ live_cycle_count live f n + k

-- ---- Segments

abbrev pub SegmentsGrow : Type 0
SegmentsGrow = (live live' : ℕ → Bool) (f g : ℕ → ℕ) (n x : ℕ) → GrowsSlab live live' f g n x → live_segments live' n ≡ live_segments live n + 1

abbrev pub FreeSegmentsFall : Type 0
FreeSegmentsFall = (live live' : ℕ → Bool) (f g : ℕ → ℕ) (n x : ℕ) → GrowsSlab live live' f g n x → free_segments live n ≡ free_segments live' n + 1

-- ---- Points and faces

abbrev pub HangLivePoints : Type 0
HangLivePoints = (live live' : ℕ → Bool) (f g : ℕ → ℕ) (n c x : ℕ) → GrowsSlab live live' f g n x → IsAllowedHang f g n c x → AreMore live live' f g n 1

abbrev pub HangLiveFaces : Type 0
HangLiveFaces = (live live' : ℕ → Bool) (f g : ℕ → ℕ) (n c x : ℕ) → GrowsSlab live live' f g n x → IsAllowedHang f g n c x
    → AreMore live live' (face_next f) (face_next g) n 0

abbrev pub ChordLivePoints : Type 0
ChordLivePoints = (live live' : ℕ → Bool) (f g : ℕ → ℕ) (n c d x : ℕ) → GrowsSlab live live' f g n x → IsAllowedChord f g n c d x → AreMore live live' f g n 0

abbrev pub ChordLiveFaces : Type 0
ChordLiveFaces = (live live' : ℕ → Bool) (f g : ℕ → ℕ) (n c d x : ℕ) → GrowsSlab live live' f g n x → IsAllowedChord f g n c d x
    → AreMore live live' (face_next f) (face_next g) n 1

abbrev pub SplitLivePoints : Type 0
SplitLivePoints = (live live' : ℕ → Bool) (f g : ℕ → ℕ) (n h x : ℕ) → GrowsSlab live live' f g n x → IsAllowedSplit f g n h x → AreMore live live' f g n 1

abbrev pub SplitLiveFaces : Type 0
SplitLiveFaces = (live live' : ℕ → Bool) (f g : ℕ → ℕ) (n h x : ℕ) → GrowsSlab live live' f g n x → IsAllowedSplit f g n h x
    → AreMore live live' (face_next f) (face_next g) n 0

abbrev pub UnchordLivePoints : Type 0
UnchordLivePoints = (live live' : ℕ → Bool) (f g : ℕ → ℕ) (n h : ℕ) → ShrinksSlab live live' f g n h → IsAllowedUnchord f g n h → AreMore live' live g f n 0

abbrev pub UnchordLiveFaces : Type 0
UnchordLiveFaces = (live live' : ℕ → Bool) (f g : ℕ → ℕ) (n h : ℕ) → ShrinksSlab live live' f g n h → IsAllowedUnchord f g n h
    → AreMore live' live (face_next g) (face_next f) n 1

abbrev pub SmoothLivePoints : Type 0
SmoothLivePoints = (live live' : ℕ → Bool) (f g : ℕ → ℕ) (n x : ℕ) → ShrinksSlab live live' f g n x → IsAllowedSmooth f g n x → AreMore live' live g f n 1

abbrev pub SmoothLiveFaces : Type 0
SmoothLiveFaces = (live live' : ℕ → Bool) (f g : ℕ → ℕ) (n x : ℕ) → ShrinksSlab live live' f g n x → IsAllowedSmooth f g n x
    → AreMore live' live (face_next g) (face_next f) n 0

-- ---- The slab stays one

abbrev pub HangKeepsSlab : Type 0
HangKeepsSlab = (live live' : ℕ → Bool) (f g : ℕ → ℕ) (n c x : ℕ) → IsSlab live f n → AddsSegment live live' n x → live c ≡ true → IsAllowedHang f g n c x
    → IsSlab live' g n

abbrev pub ChordKeepsSlab : Type 0
ChordKeepsSlab = (live live' : ℕ → Bool) (f g : ℕ → ℕ) (n c d x : ℕ) → IsSlab live f n → AddsSegment live live' n x → live c ≡ true → live d ≡ true
    → IsAllowedChord f g n c d x → IsSlab live' g n

abbrev pub SplitKeepsSlab : Type 0
SplitKeepsSlab = (live live' : ℕ → Bool) (f g : ℕ → ℕ) (n h x : ℕ) → IsSlab live f n → AddsSegment live live' n x → live h ≡ true → IsAllowedSplit f g n h x
    → IsSlab live' g n

abbrev pub UnchordKeepsSlab : Type 0
UnchordKeepsSlab = (live live' : ℕ → Bool) (f g : ℕ → ℕ) (n h : ℕ) → IsSlab live f n → AddsSegment live' live n h → IsAllowedUnchord f g n h → IsSlab live' g n

abbrev pub SmoothKeepsSlab : Type 0
SmoothKeepsSlab = (live live' : ℕ → Bool) (f g : ℕ → ℕ) (n x : ℕ) → IsSlab live f n → AddsSegment live' live n x → IsAllowedSmooth f g n x → IsSlab live' g n
