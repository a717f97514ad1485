-- The five edits of an embedding: f is the turn before and g the turn after, on the darts below n.
-- A dart that turns to itself and whose twin does too is an isolated segment: room for a new one.
use Rattle.std.specs.Prelude.{◌≡◌, ◌≢◌, ℕ, ◌<◌}
use Rattle.topo_core.specs.Cycles.{IsBypass}
use Rattle.topo_core.specs.Rotations.{twin}

-- x stands before c in g, and f is g without x
pub record IsBefore (f g : ℕ → ℕ) (n x c : ℕ) : Type 0 where
  pub turns : g x ≡ c
  pub without : IsBypass g f n x

-- a segment of two points of its own
pub record IsIsolated (f : ℕ → ℕ) (x : ℕ) : Type 0 where
  pub this : f x ≡ x
  pub other : f (twin x) ≡ twin x

-- hang: the new segment of x starts in the corner of c, and the twin of x is a point by itself
pub record IsHang (f g : ℕ → ℕ) (n c x : ℕ) : Type 0 where
  pub room : IsIsolated f x
  pub start : IsBefore f g n x c

-- chord: the new segment of x leads from the corner of c to the corner of d; h is the turn with its start alone
pub record IsChord (f g : ℕ → ℕ) (n c d x : ℕ) : Type 0 where
  pub room : IsIsolated f x
  pub half : ℕ → ℕ
  pub start : IsBefore f half n x c
  pub end : IsBefore half g n (twin x) d

-- unchord: the segment of h is taken out, first h and then its twin
pub record IsUnchord (f g : ℕ → ℕ) (n h : ℕ) : Type 0 where
  pub half : ℕ → ℕ
  pub first : IsBypass f half n h
  pub second : IsBypass half g n (twin h)

-- split: a new point on the segment of h, with the new segment of x beyond it; the twin of x takes the place of the twin of h
pub record IsSplit (f g : ℕ → ℕ) (n h x : ℕ) : Type 0 where
  pub isolated : IsIsolated f x
  pub point_there : g x ≡ twin h
  pub point_back : g (twin h) ≡ x
  pub leads_on : f (twin h) ≢ twin h → g (twin x) ≡ f (twin h)
  pub leads_itself : f (twin h) ≡ twin h → g (twin x) ≡ twin x
  pub led_to : (a : ℕ) → a < n → a ≢ twin h → f a ≡ twin h → g a ≡ twin x
  pub elsewhere : (a : ℕ) → a < n → a ≢ x → a ≢ twin x → a ≢ twin h → f a ≢ twin h → g a ≡ f a

-- smooth: the point of x, of two darts, goes with the segment of x. So the dart after x turns the split back
abbrev pub IsSmooth : (ℕ → ℕ) → (ℕ → ℕ) → ℕ → ℕ → Type 0
IsSmooth f g n x = IsSplit g f n (twin (f x)) x
