-- How the segments of a list of turns are built. No public clause cites this module.
use Rattle.std.specs.Prelude.{◌≡◌, ℕ, ◌*◌, ◌%◌, ◌<◌, Bool, true, List, length}
use Rattle.slab.specs.Slab.{Slab}
use Rattle.topo_core.specs.Cycles.{map_of}
use Rattle.topo_core.specs.Rotations.{twin}
use Rattle.topo_perm.specs.Live.{live_segments}
use Rattle.topo_map.specs.Rotation.{half_limit}
use Rattle.topo_map.specs.Segments.{face_in, holds, next_in, before_in, IsKept}
use Rattle.topo_map.specs.declared.segments.Segment.{Segment}

-- the live halves, each once, with twins side by side
pub record IsListed (live : ℕ → Bool) (halves : List ℕ) : Type 0 where
  pub even : length halves % 2 ≡ 0
  pub counted : 2 * live_segments live half_limit ≡ length halves
  pub alive : (a : ℕ) → a < length halves → live (map_of halves a) ≡ true
  pub twins : (a : ℕ) → a < length halves → twin (map_of halves a) ≡ map_of halves (twin a)
  pub place : ℕ → ℕ
  pub returns : (a : ℕ) → a < length halves → place (map_of halves a) ≡ a
  pub place_within : (y : ℕ) → live y ≡ true → place y < length halves
  pub place_returns : (y : ℕ) → live y ≡ true → map_of halves (place y) ≡ y

-- these are the halves, each a point by itself
pub record AreAlone (s : Slab Segment) (halves : List ℕ) : Type 0 where
  pub kept : IsKept s
  pub listed : IsListed (holds s) halves

-- no half has a face's label yet, which 0 stands for
abbrev pub AreBlank : Slab Segment → Type 0
AreBlank s = (a : ℕ) → holds s a ≡ true → face_in s a ≡ 0

-- the halves before k have their turns
pub record AreJoinedBelow (s : Slab Segment) (halves turns : List ℕ) (k : ℕ) : Type 0 where
  pub listed : IsListed (holds s) halves
  pub within : (a : ℕ) → holds s a ≡ true → a < half_limit
  pub next : (a : ℕ) → a < k → next_in s (map_of halves a) ≡ map_of halves (map_of turns a)
  pub before : (a : ℕ) → a < k → before_in s (map_of halves (map_of turns a)) ≡ map_of halves a

-- all have them
pub record IsJoined (s : Slab Segment) (halves turns : List ℕ) : Type 0 where
  pub kept : IsKept s
  pub listed : IsListed (holds s) halves
  pub next : (a : ℕ) → a < length turns → next_in s (map_of halves a) ≡ map_of halves (map_of turns a)
