-- What a contract sees of an embedding: which halves are live, how they turn, the labels of their faces, and the room for more segments.
-- A half is a number: 2 * key and 2 * key + 1 are the two of the segment at a key.
use Rattle.std.specs.Prelude.{◌≡◌, ◌≢◌, ◌⊎◌, ℕ, ◌+◌, ◌*◌, ◌/◌, ◌%◌, ◌<◌, ◌≤◌, ◌==◌, Bool, true, cond, List, length, Option, Some, None, is_some, slice_index_or}
use Rattle.topo_core.specs.Cycles.{SameCycle, after, map_of, cycles_of}
use Rattle.topo_core.specs.Rotations.{twin, face_next, faces_of, IsConnected}
use Rattle.topo_perm.specs.FaceLabels.{LabelsFaces}
use Rattle.topo_perm.specs.Joins.{IsConnectedAmong, AddsSegment}
use Rattle.topo_perm.specs.Renumbering.{RenumbersTurn}
use Rattle.topo_perm.specs.Live.{IsSlab, live_cycle_count, live_segments}
use Rattle.topo_perm.specs.Runs.{Turning}

-- a segment: the halves that follow its two, clockwise at their points, and the label of its edge
pub record Slot : Type 0 where
  pub forward : ℕ
  pub back : ℕ
  pub edge : ℕ

-- at each key a segment or nothing, likewise the labels of the faces on the left of its two halves, what lies above all halves that there is place for,
-- and how many segments can be added with no memory taken
pub record Rotation : Type 0 where
  pub slots : List (Option Slot)
  pub labels : List (Option Slot)
  pub limit : ℕ
  pub room : ℕ

-- the half that follows a; at a slot with no segment a itself
abbrev pub turned : ℕ → Option Slot → ℕ
turned a None = a
turned a (Some t) = cond (a % 2 == 0) t.forward t.back

unfoldable pub turn_in : List (Option Slot) → ℕ → ℕ
turn_in slots a = turned a (slice_index_or slots (a / 2) None)

abbrev pub labelled : Option Slot → ℕ
labelled None = 0
labelled (Some t) = t.edge

unfoldable pub edge_in : List (Option Slot) → ℕ → ℕ
edge_in slots a = labelled (slice_index_or slots (a / 2) None)

unfoldable pub live_in : List (Option Slot) → ℕ → Bool
live_in slots a = is_some (slice_index_or slots (a / 2) None)

-- the next half clockwise
abbrev pub turn : Rotation → ℕ → ℕ
turn r = turn_in r.slots

-- whether a number is a half of a segment
abbrev pub is_live : Rotation → ℕ → Bool
is_live r = live_in r.slots

-- which halves are live, and how all turn
abbrev pub turning_of : Rotation → Turning
turning_of r = record { live = is_live r; turn = turn r }

-- the label of the edge that a half is on
abbrev pub edge_of : Rotation → ℕ → ℕ
edge_of r = edge_in r.slots

-- the label of the face on the left of a half
abbrev pub face_of : Rotation → ℕ → ℕ
face_of r = turn_in r.labels

-- above all halves. It is a name and no numeral, since counts run up to it
unfoldable pub half_limit : ℕ
half_limit = 4294967294

-- ---- What is counted

abbrev pub points : Rotation → ℕ
points r = live_cycle_count (is_live r) (turn r) half_limit

abbrev pub segments : Rotation → ℕ
segments r = live_segments (is_live r) half_limit

abbrev pub faces : Rotation → ℕ
faces r = live_cycle_count (is_live r) (face_next (turn r)) half_limit

-- ---- What always holds

-- a turn of halves, in which what is not live is isolated
pub record IsWhole (live : ℕ → Bool) (f : ℕ → ℕ) : Type 0 where
  pub slab : IsSlab live f half_limit
  pub within : (a : ℕ) → live a ≡ true → a < half_limit

abbrev pub IsEmbedding : Rotation → Type 0
IsEmbedding r = IsWhole (is_live r) (turn r)

-- two live halves have one label exactly where they lie in one face
abbrev pub TellsFaces : Rotation → Type 0
TellsFaces r = LabelsFaces (is_live r) (turn r) (face_of r)

-- any two live halves are joined
abbrev pub HangsTogether : Rotation → Type 0
HangsTogether r = IsConnectedAmong (is_live r) (turn r) half_limit

-- ---- What an edit adds or takes

-- the segment of x is new and takes one place of the room
pub record Grows (old new : Rotation) (x : ℕ) : Type 0 where
  pub within : x < half_limit
  pub live : AddsSegment (is_live old) (is_live new) half_limit x
  pub stays : (a : ℕ) → is_live old a ≡ true → is_live new a ≡ true
  pub segments_more : segments new ≡ segments old + 1
  pub room_less : new.room + 1 ≡ old.room
  pub same_limit : new.limit ≡ old.limit
  pub below : x < new.limit
  pub embedding : IsEmbedding new

-- the segment of x is gone and leaves its place to another
pub record Shrinks (old new : Rotation) (x : ℕ) : Type 0 where
  pub live : AddsSegment (is_live new) (is_live old) half_limit x
  pub stays : (a : ℕ) → a ≢ x → a ≢ twin x → is_live old a ≡ true → is_live new a ≡ true
  pub segments_fewer : segments new + 1 ≡ segments old
  pub room_kept : old.room ≤ new.room
  pub room_more : 0 < old.room → new.room ≡ old.room + 1
  pub same_limit : new.limit ≡ old.limit
  pub embedding : IsEmbedding new

-- the two halves of x have these labels of faces, and what was live keeps its own
pub record AddsFaces (live : ℕ → Bool) (old new : ℕ → ℕ) (x left right : ℕ) : Type 0 where
  pub here : new x ≡ left
  pub here_twin : new (twin x) ≡ right
  pub others : (a : ℕ) → live a ≡ true → new a ≡ old a

-- the two halves of x have this label of an edge, and what was live keeps its own
abbrev pub AddsLabel : (ℕ → Bool) → (ℕ → ℕ) → (ℕ → ℕ) → ℕ → ℕ → Type 0
AddsLabel live old new x label = AddsFaces live old new x label label

-- A half of a face that the segment of x does not lie at keeps its label. The halves of the faces beside it come from the faces of c and d.
pub record PartsLabels (live : ℕ → Bool) (old new : ℕ → ℕ) (c d x : ℕ) : Type 0 where
  pub apart : (a : ℕ) → live a ≡ true → new a ≢ new x → new a ≢ new (twin x) → new a ≡ old a
  pub beside : (a : ℕ) → live a ≡ true → (new a ≡ new x) ⊎ (new a ≡ new (twin x)) → (old a ≡ old c) ⊎ (old a ≡ old d)

-- what is live has the label that it had
abbrev pub KeepsLabels : (ℕ → Bool) → (ℕ → ℕ) → (ℕ → ℕ) → Type 0
KeepsLabels live old new = (a : ℕ) → live a ≡ true → new a ≡ old a

-- so many points and faces more, and what hangs together still does
pub record CountsMore (old new : Rotation) (more_points more_faces : ℕ) : Type 0 where
  pub points_more : points new ≡ points old + more_points
  pub faces_more : faces new ≡ faces old + more_faces
  pub connected : HangsTogether old → HangsTogether new

-- and so many fewer
pub record CountsFewer (old new : Rotation) (fewer_points fewer_faces : ℕ) : Type 0 where
  pub points_fewer : points new + fewer_points ≡ points old
  pub faces_fewer : faces new + fewer_faces ≡ faces old
  pub connected : HangsTogether old → HangsTogether new

-- ---- Where an edit counts as it does

-- both corners lie in one face, which the new segment parts
abbrev pub IsOneFace : Rotation → ℕ → ℕ → Type 0
IsOneFace r c d = SameCycle (face_next (turn r)) c d

-- different faces lie on the two sides of the segment of h, and it is not a loop alone at its point
pub record PartsFaces (r : Rotation) (h : ℕ) : Type 0 where
  pub two_faces : ¬ IsOneFace r h (twin h)
  pub not_alone : turn r h ≡ twin h → turn r (twin h) ≢ h

-- k steps, and no fewer, lead round the point of a
pub record IsDegree (r : Rotation) (a k : ℕ) : Type 0 where
  pub some : 0 < k
  pub back : after (turn r) k a ≡ a
  pub least : (j : ℕ) → 0 < j → j < k → after (turn r) j a ≢ a

-- ---- Built from a list of turns

-- the two halves of each segment, side by side in the list, have its label
abbrev pub AreLabelled : List ℕ → List ℕ → (ℕ → ℕ) → Type 0
AreLabelled labels halves label = (a : ℕ) → a < length halves → label (map_of halves a) ≡ map_of labels (a / 2)

-- the halves stand for the places of the turns, in order, and turn as these say; there are no others
pub record IsMadeFrom (turns halves : List ℕ) (r : Rotation) : Type 0 where
  pub same_length : length halves ≡ length turns
  pub place_of : ℕ → ℕ
  pub renumbers : RenumbersTurn (map_of halves) place_of (map_of turns) (turn r) (length turns) (is_live r) half_limit
  pub points_all : points r ≡ cycles_of turns
  pub segments_all : 2 * segments r ≡ length turns
  pub faces_all : faces r ≡ faces_of turns
  pub embedding : IsEmbedding r
  pub connected : IsConnected turns → HangsTogether r
