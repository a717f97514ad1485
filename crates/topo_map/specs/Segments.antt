-- How segments lie in a slab. No public clause cites this module.
use Rattle.std.specs.Prelude.{◌≡◌, ℕ, ◌+◌, ◌-◌, ◌*◌, ◌<◌, ◌≤◌, ◌==◌, nat_le, min, Bool, true, cond, List, [], ◌∷◌, map, Option, None, option_map}
use Rattle.slab.specs.Slab.{Slab, slab_len}
use Rattle.topo_perm.specs.Joins.{AddsSegment}
use Rattle.topo_map.specs.Rotation.{Slot, Rotation, turn_in, edge_in, live_in, half_limit}
use Rattle.topo_map.specs.declared.segments.Rest.{Rest}
use Rattle.topo_map.specs.declared.segments.Segment.{Segment}
use Rattle.topo_map.specs.declared.segments.Walk.{Walk}

-- a segment by its two parts
abbrev pub whole : Walk → Rest → Segment
whole walk rest = record { walk = walk; rest = rest }

-- by key the segments of which these are the parts
abbrev pub joined_slots : List (Option Rest) → List Walk → List (Option Segment)
joined_slots [] walks = []
joined_slots (slot ∷ slots) [] = None ∷ joined_slots slots []
joined_slots (slot ∷ slots) (walk ∷ walks) = option_map (whole walk) slot ∷ joined_slots slots walks

-- what a contract sees of them
abbrev pub joined : List Walk → Slab Rest → Slab Segment
joined walks rest = record { slots = joined_slots rest.slots walks; vacant_key = rest.vacant_key; capacity = rest.capacity }

-- the halves after and before the two of a segment, and the labels of the faces on their left
abbrev pub nexts : Segment → Slot
nexts s = record { forward = s.walk.forward.next; back = s.walk.back.next; edge = s.walk.edge }

abbrev pub befores : Segment → Slot
befores s = record { forward = s.rest.forward; back = s.rest.back; edge = s.walk.edge }

abbrev pub sides : Segment → Slot
sides s = record { forward = s.walk.forward.face; back = s.walk.back.face; edge = s.walk.edge }

abbrev pub shown : (Segment → Slot) → Slab Segment → List (Option Slot)
shown pick s = map (option_map pick) s.slots

abbrev pub next_in : Slab Segment → ℕ → ℕ
next_in s = turn_in (shown nexts s)

abbrev pub before_in : Slab Segment → ℕ → ℕ
before_in s = turn_in (shown befores s)

abbrev pub holds : Slab Segment → ℕ → Bool
holds s = live_in (shown nexts s)

abbrev pub label_in : Slab Segment → ℕ → ℕ
label_in s = edge_in (shown nexts s)

-- the label of the face on the left of a half
abbrev pub face_in : Slab Segment → ℕ → ℕ
face_in s = turn_in (shown sides s)

-- above all halves that there is place for
abbrev pub limit_of : Slab Segment → ℕ
limit_of s = 2 * min s.capacity 2147483647

-- how many segments fit with no memory, as long as their halves stay below the limit
abbrev pub room_of : Slab Segment → ℕ
room_of s = cond (nat_le s.capacity 2147483647) (s.capacity - slab_len s) 0

-- what a contract sees
abbrev pub view_of : Slab Segment → Rotation
view_of s = record { slots = shown nexts s; labels = shown sides s; limit = limit_of s; room = room_of s }

-- a segment by itself
abbrev pub isolated_segment : ℕ → ℕ → ℕ → ℕ → Segment
isolated_segment key edge left right = record {
  walk = record { forward = record { next = 2 * key; face = left }; back = record { next = 2 * key + 1; face = right }; edge = edge };
  rest = record { forward = 2 * key; back = 2 * key + 1 };
}

-- ---- Maps

-- f, but i is sent to v
abbrev pub written : (ℕ → ℕ) → ℕ → ℕ → ℕ → ℕ
written f i v a = cond (a == i) v (f a)

-- f with x put before c
abbrev pub put : (ℕ → ℕ) → ℕ → ℕ → ℕ → ℕ
put f x c a = cond (a == x) c (cond (f a == c) x (f a))

-- f with i by itself
abbrev pub without : (ℕ → ℕ) → ℕ → ℕ → ℕ
without f i a = cond (a == i) i (cond (f a == i) (f i) (f a))

-- each undoes the other
pub record AreInverse (f b : ℕ → ℕ) : Type 0 where
  pub back : (a : ℕ) → b (f a) ≡ a
  pub onward : (a : ℕ) → f (b a) ≡ a

-- ---- States of the slab

-- both directions of the turn agree, and all keys are small enough
pub record IsKept (s : Slab Segment) : Type 0 where
  pub inverse : AreInverse (next_in s) (before_in s)
  pub within : (a : ℕ) → holds s a ≡ true → a < half_limit

-- the same segments, turning by f, and back by b
pub record Rewires (old new : Slab Segment) (f b : ℕ → ℕ) : Type 0 where
  pub next : next_in new ≡ f
  pub before : before_in new ≡ b
  pub faces : face_in new ≡ face_in old
  pub live : holds new ≡ holds old
  pub edges : label_in new ≡ label_in old
  pub len : slab_len new ≡ slab_len old
  pub capacity : new.capacity ≡ old.capacity

-- the same segments with the same turn, and l the labels of their faces
pub record Repaints (old new : Slab Segment) (l : ℕ → ℕ) : Type 0 where
  pub faces : face_in new ≡ l
  pub next : next_in new ≡ next_in old
  pub before : before_in new ≡ before_in old
  pub live : holds new ≡ holds old
  pub edges : label_in new ≡ label_in old
  pub len : slab_len new ≡ slab_len old
  pub capacity : new.capacity ≡ old.capacity

-- the same segments, turning by f, with both directions agreeing
pub record IsTurned (old new : Slab Segment) (f : ℕ → ℕ) : Type 0 where
  pub next : next_in new ≡ f
  pub live : holds new ≡ holds old
  pub edges : label_in new ≡ label_in old
  pub len : slab_len new ≡ slab_len old
  pub capacity : new.capacity ≡ old.capacity
  pub kept : IsKept new

-- the segment of x is new, each half a point by itself
pub record IsInserted (old new : Slab Segment) (x : ℕ) : Type 0 where
  pub next : next_in new ≡ next_in old
  pub within : x < half_limit
  pub live : AddsSegment (holds old) (holds new) half_limit x
  pub room : room_of new + 1 ≡ room_of old
  pub limit : limit_of new ≡ limit_of old
  pub below : x < limit_of new
  pub kept : IsKept new

-- the segment of x, by itself, is gone
pub record IsRemoved (old new : Slab Segment) (x : ℕ) : Type 0 where
  pub next : next_in new ≡ next_in old
  pub live : AddsSegment (holds new) (holds old) half_limit x
  pub room : room_of old ≤ room_of new
  pub freed : 0 < room_of old → room_of new ≡ room_of old + 1
  pub limit : limit_of new ≡ limit_of old
  pub kept : IsKept new
