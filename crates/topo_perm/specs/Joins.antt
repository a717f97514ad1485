-- What each edit of a rotation system does to what is joined: the darts that are live stay joined, where the others are of segments that stand for nothing.
use Rattle.std.specs.Prelude.{◌≡◌, ◌≢◌, ℕ, ◌<◌, Bool, true, false}
use Rattle.topo_core.specs.Rotations.{twin, Joined}
use Rattle.topo_perm.specs.Edits.{IsAllowedHang, IsAllowedChord, IsAllowedUnchord, IsAllowedSplit, IsAllowedSmooth}

-- any two live darts are joined
abbrev pub IsConnectedAmong : (ℕ → Bool) → (ℕ → ℕ) → ℕ → Type 0
IsConnectedAmong live f n = (a b : ℕ) → a < n → b < n → live a ≡ true → live b ≡ true → Joined f twin a b

-- the two darts of the segment of x were not live and are, all else is as it was
pub record AddsSegment (live live' : ℕ → Bool) (n x : ℕ) : Type 0 where
  pub new : live x ≡ false
  pub new_twin : live (twin x) ≡ false
  pub here : live' x ≡ true
  pub here_twin : live' (twin x) ≡ true
  pub others : (a : ℕ) → a < n → a ≢ x → a ≢ twin x → live' a ≡ live a

abbrev pub HangConnects : Type 0
HangConnects = (f g : ℕ → ℕ) (live live' : ℕ → Bool) (n c x : ℕ) → IsAllowedHang f g n c x → AddsSegment live live' n x → live c ≡ true
    → IsConnectedAmong live f n → IsConnectedAmong live' g n

abbrev pub ChordConnects : Type 0
ChordConnects = (f g : ℕ → ℕ) (live live' : ℕ → Bool) (n c d x : ℕ) → IsAllowedChord f g n c d x → AddsSegment live live' n x → live c ≡ true
    → IsConnectedAmong live f n → IsConnectedAmong live' g n

abbrev pub SplitConnects : Type 0
SplitConnects = (f g : ℕ → ℕ) (live live' : ℕ → Bool) (n h x : ℕ) → IsAllowedSplit f g n h x → AddsSegment live live' n x → live h ≡ true
    → IsConnectedAmong live f n → IsConnectedAmong live' g n

-- the segment of h was live, and is not any more
abbrev pub UnchordConnects : Type 0
UnchordConnects = (f g : ℕ → ℕ) (live live' : ℕ → Bool) (n h : ℕ) → IsAllowedUnchord f g n h → AddsSegment live' live n h → IsConnectedAmong live f n
    → IsConnectedAmong live' g n

abbrev pub SmoothConnects : Type 0
SmoothConnects = (f g : ℕ → ℕ) (live live' : ℕ → Bool) (n x : ℕ) → IsAllowedSmooth f g n x → AddsSegment live' live n x → IsConnectedAmong live f n
    → IsConnectedAmong live' g n
