-- Counts among the live darts of a slab, in which each segment that stands for nothing is isolated.
use Rattle.std.specs.Prelude.{◌≡◌, ℕ, ◌+◌, ◌*◌, ◌/◌, ◌%◌, ◌<◌, ◌≤◌, Bool, true, false, ◌&&◌, not}
use Rattle.topo_core.specs.Cycles.{IsPermutation, is_first, is_met, count_below, cycle_count}
use Rattle.topo_core.specs.Rotations.{twin, face_next, Joined, IsClassCount}
use Rattle.topo_perm.specs.Joins.{IsConnectedAmong}
use Rattle.topo_perm.specs.Cuts.{HasGenusZero}

-- how many classes of r have a live first member
abbrev pub live_class_count : (ℕ → Bool) → (ℕ → ℕ → Bool) → ℕ → ℕ
live_class_count live r n = count_below (λ a. live a && is_first r a) n

-- how many cycles of f are of live darts
abbrev pub live_cycle_count : (ℕ → Bool) → (ℕ → ℕ) → ℕ → ℕ
live_cycle_count live f n = live_class_count live (is_met f n) n

-- how many of the segments are live, and how many stand for nothing
abbrev pub live_segments : (ℕ → Bool) → ℕ → ℕ
live_segments live n = count_below (λ i. live (2 * i)) (n / 2)

abbrev pub free_segments : (ℕ → Bool) → ℕ → ℕ
free_segments live n = count_below (λ i. not (live (2 * i))) (n / 2)

-- f turns the darts of n / 2 segments, and those that are not live are isolated
pub record IsSlab (live : ℕ → Bool) (f : ℕ → ℕ) (n : ℕ) : Type 0 where
  pub permutation : IsPermutation f n
  pub even : n % 2 ≡ 0
  pub twins : (a : ℕ) → a < n → live (twin a) ≡ live a
  pub free : (a : ℕ) → a < n → live a ≡ false → f a ≡ a

abbrev pub LivePoints : Type 0
LivePoints = (live : ℕ → Bool) (f : ℕ → ℕ) (n : ℕ) → IsSlab live f n → cycle_count f n ≡ live_cycle_count live f n + 2 * free_segments live n

abbrev pub LiveFaces : Type 0
LiveFaces = (live : ℕ → Bool) (f : ℕ → ℕ) (n : ℕ) → IsSlab live f n → cycle_count (face_next f) n ≡ live_cycle_count live (face_next f) n + free_segments live n

abbrev pub LiveSegments : Type 0
LiveSegments = (live : ℕ → Bool) (n : ℕ) → n / 2 ≡ live_segments live n + free_segments live n

-- where the live darts hang together, they are one component, and each free segment is one
abbrev pub LiveComponents : Type 0
LiveComponents = (live : ℕ → Bool) (f : ℕ → ℕ) (n a : ℕ) → IsSlab live f n → IsConnectedAmong live f n → a < n → live a ≡ true
    → IsClassCount (Joined f twin) n (1 + free_segments live n)

-- points - segments + faces = 2 among the live darts is genus zero of the whole slab
abbrev pub LiveGenusZero : Type 0
LiveGenusZero = (live : ℕ → Bool) (f : ℕ → ℕ) (n a : ℕ) → IsSlab live f n → IsConnectedAmong live f n → a < n → live a ≡ true →
    live_cycle_count live f n + live_cycle_count live (face_next f) n ≡ live_segments live n + 2 → HasGenusZero f n

-- and it is never more
abbrev pub LiveBound : Type 0
LiveBound = (live : ℕ → Bool) (f : ℕ → ℕ) (n a : ℕ) → IsSlab live f n → IsConnectedAmong live f n → a < n → live a ≡ true →
    live_cycle_count live f n + live_cycle_count live (face_next f) n ≤ live_segments live n + 2
