-- Two slabs whose live darts stand for one another. The same edit of both leaves them so.
use Rattle.std.specs.Prelude.{◌≡◌, ℕ, ◌<◌, ◌==◌, Bool, true, cond}
use Rattle.topo_core.specs.Rotations.{twin}
use Rattle.topo_perm.specs.Joins.{AddsSegment}
use Rattle.topo_perm.specs.Live.{IsSlab}

-- a is a live dart
pub record IsAlive (live : ℕ → Bool) (n a : ℕ) : Type 0 where
  pub within : a < n
  pub alive : live a ≡ true

-- h sends live darts to live darts, twins to twins, and `back` leads home
pub record IsInto (h back : ℕ → ℕ) (live : ℕ → Bool) (n : ℕ) (live' : ℕ → Bool) (m : ℕ) : Type 0 where
  pub there : (a : ℕ) → IsAlive live n a → IsAlive live' m (h a)
  pub returns : (a : ℕ) → IsAlive live n a → back (h a) ≡ a
  pub twins : (a : ℕ) → IsAlive live n a → h (twin a) ≡ twin (h a)

-- the live darts of the slab f have the live numbers of the slab g, and turn there as in f
pub record RenumbersSlab (h back : ℕ → ℕ) (live : ℕ → Bool) (f : ℕ → ℕ) (n : ℕ) (live' : ℕ → Bool) (g : ℕ → ℕ) (m : ℕ) : Type 0 where
  pub before : IsSlab live f n
  pub after : IsSlab live' g m
  pub into : IsInto h back live n live' m
  pub from : IsInto back h live' m live n
  pub turns : (a : ℕ) → IsAlive live n a → g (h a) ≡ h (f a)

-- the numbers with y for x, and the twin of y for the twin of x
abbrev pub extended : (ℕ → ℕ) → ℕ → ℕ → ℕ → ℕ
extended h x y a = cond (a == x) y (cond (a == twin x) (twin y) (h a))

-- the segment of x becomes live in the one slab, and that of y in the other
pub record AddsBoth (live new : ℕ → Bool) (n x : ℕ) (live' new' : ℕ → Bool) (m y : ℕ) : Type 0 where
  pub within : x < n
  pub within_other : y < m
  pub adds : AddsSegment live new n x
  pub adds_other : AddsSegment live' new' m y
