-- What the definitions say of the named pictures: each record is proved as the contract of a function without a body.
use Rattle.std.specs.Prelude.{◌≡◌, ◌≤◌, ℕ, List, [], ◌∷◌, ◌++◌, map, length, sum_by, slice_index, slice_index_or, Some, None, false, true}
use Rattle.topo_core.specs.declared.darts.Dart.{Dart}
use Rattle.topo_core.specs.declared.darts.Sign.TheVariants.{LeftToRight, RightToLeft}
use Rattle.topo_core.specs.declared.darts.Way.TheVariants.{Forward, Back}
use Rattle.topo_core.specs.declared.routes.Route.{Route}
use Rattle.topo_core.specs.declared.rows.Rows.{Rows}
use Rattle.topo_core.specs.declared.limits.Limits.{Limits}
use Rattle.topo_core.specs.declared.calls.Call.{Call}
use Rattle.topo_core.specs.declared.calls.Call.TheVariants.{Grow, Insert}
use Rattle.topo_core.specs.declared.calls.Command.{Command}
use Rattle.topo_core.specs.declared.calls.Command.TheVariants.{Plain, Planned}
use Rattle.topo_core.specs.declared.calls.Entry.{Entry}
use Rattle.topo_core.specs.declared.calls.Refusal.TheVariants.{NoVertex, SameEnds, NoPosition, BadKind, Full}
use Rattle.topo_core.specs.declared.calls.Reply.{Reply}
use Rattle.topo_core.specs.declared.calls.Reply.TheVariants.{Grown, Inserted as Put, Refused}
use Rattle.topo_core.specs.Systems.{Connected, face_step}
use Rattle.topo_core.specs.Picture.{system, segment_count, face_count, around_vertex, edge_row, index_of}
use Rattle.topo_core.specs.Pictures.{seed, bipyramid, joined_apexes, hexagon, crossed_hexagon, barrier, passed_barrier, cross, crossing, forward, back}
use Rattle.topo_core.specs.Lawful.{Lawful, HasGenusZero, has_good_rotations}
use Rattle.topo_core.specs.Routes.{Pricing, IsCertificate, IsFirst, HasNoRoute}
use Rattle.topo_core.specs.Changes.{shown, grown, without, IsCut, IsLocalCut}
use Rattle.topo_core.specs.Insertions.{lifted}
use Rattle.topo_core.specs.Deletions.{crossings_between, rightward, RunsOver}
use Rattle.topo_core.specs.History.{Agrees, IsRun, IsVersion, Replays, versions}
use Rattle.topo_core.specs.Steps.{Step, grow_refusal, insert_refusal}

-- ---- Words of the evidence

-- a lawful picture with these numbers
pub record IsLawfulWith (rows : Rows) (vertices crossings edges segments faces : ℕ) : Type 0 where
  pub lawful : Lawful rows
  pub vertex_count : length rows.rotations ≡ vertices
  pub crossing_count : length rows.crossings ≡ crossings
  pub edge_count : length rows.edges ≡ edges
  pub total_segments : sum_by segment_count rows.edges ≡ segments
  pub total_faces : face_count rows ≡ faces

-- the list from its second item on, and then the first
abbrev pub turned : List Dart → List Dart
turned [] = []
turned (d ∷ ds) = ds ++ d ∷ []

-- each list is a face: the next dart along the face is the next in the list, and the first after the last
abbrev pub HasFaces : Rows → List (List Dart) → Type 0
HasFaces rows faces = map (map (face_step (system rows))) faces ≡ map turned faces

-- the same price for all edges of a kind: the number at its place, and 1 past the end. Where the number is 0, the edges have no price
abbrev pub by_kind : List ℕ → Pricing
by_kind prices facts n = (n ≡ slice_index_or prices facts.kind 1) × (1 ≤ n)

-- no edge has a price
abbrev pub no_price : Pricing
no_price facts n = ⊥

-- the height of each dart, as a list in canonical order has it
abbrev pub by_place : Rows → List ℕ → Dart → ℕ
by_place rows heights d = slice_index heights (index_of rows d)

abbrev pub route : ℕ → List Dart → ℕ → Route
route start crossed end = record { start = start; crossed = crossed; end = end }

-- both forms of a cut say that deleting e is refused first at segment i
pub record IsCutAt (rows : Rows) (e i : ℕ) : Type 0 where
  pub by_connection : IsCut rows e i
  pub by_faces : IsLocalCut rows e i

-- both forms of a cut say that e may be deleted
pub record IsNoCut (rows : Rows) (e : ℕ) : Type 0 where
  pub by_connection : (i : ℕ) → IsCut rows e i → ⊥
  pub by_faces : (i : ℕ) → IsLocalCut rows e i → ⊥

-- ---- The seed

pub record SeedEvidence : Type 0 where
  pub lawful : IsLawfulWith seed 2 0 1 1 1
  pub faces : HasFaces seed ((forward 0 0 ∷ back 0 0 ∷ []) ∷ [])
  -- an edge beside the seed's, and one more: position 0 of a list is its last place
  pub beside : (shown seed 0 1 0 (route 0 [] 0)).rotations ≡ (0 ∷ 1 ∷ []) ∷ (0 ∷ 1 ∷ []) ∷ []
  pub beside_lawful : IsLawfulWith (shown seed 0 1 0 (route 0 [] 0)) 2 0 2 2 2
  pub once_more : (shown (shown seed 0 1 0 (route 0 [] 0)) 0 1 0 (route 0 [] 1)).rotations ≡ (0 ∷ 1 ∷ 2 ∷ []) ∷ (0 ∷ 2 ∷ 1 ∷ []) ∷ []
  -- a growth, and an edge beside it
  pub grown_rotations : (grown seed 1 0 0).rotations ≡ (0 ∷ []) ∷ (0 ∷ 1 ∷ []) ∷ (1 ∷ []) ∷ []
  pub grown_lawful : IsLawfulWith (grown seed 1 0 0) 3 0 2 2 1
  pub beside_grown : (shown (grown seed 1 0 0) 1 2 0 (route 0 [] 0)).rotations ≡ (0 ∷ []) ∷ (0 ∷ 1 ∷ 2 ∷ []) ∷ (1 ∷ 2 ∷ []) ∷ []
  pub first_beside_grown : IsFirst (by_kind []) (grown seed 1 0 0) 1 2 (route 0 [] 0) 0
  -- its one edge may not be deleted
  pub cut : IsCutAt seed 0 0

-- the order of refusals on the seed
pub record RefusalEvidence (wide narrow : Limits) : Type 0 where
  pub same_ends : insert_refusal wide seed 0 0 0 ≡ Some SameEnds
  pub no_vertex : insert_refusal wide seed 65536 65536 0 ≡ Some NoVertex
  pub bad_kind : insert_refusal wide seed 0 1 64 ≡ Some BadKind
  pub accepted : insert_refusal wide seed 0 1 0 ≡ None
  pub no_position : grow_refusal wide seed 1 1 64 ≡ Some NoPosition
  pub full : grow_refusal narrow seed 0 0 0 ≡ Some Full
  pub still_room : insert_refusal narrow seed 0 1 0 ≡ None

-- ---- The bipyramid

pub record BipyramidEvidence : Type 0 where
  pub lawful : IsLawfulWith bipyramid 5 0 9 9 6
  pub faces : HasFaces bipyramid
      ((forward 0 0 ∷ back 7 0 ∷ forward 6 0 ∷ []) ∷ (back 0 0 ∷ back 3 0 ∷ forward 4 0 ∷ []) ∷ (forward 1 0 ∷ back 8 0 ∷ forward 7 0 ∷ [])
      ∷ (back 1 0 ∷ back 4 0 ∷ forward 5 0 ∷ []) ∷ (forward 2 0 ∷ back 6 0 ∷ forward 8 0 ∷ []) ∷ (back 2 0 ∷ back 5 0 ∷ forward 3 0 ∷ []) ∷ [])
  pub corners_at_3 : around_vertex bipyramid 3 ≡ forward 3 0 ∷ forward 4 0 ∷ forward 5 0 ∷ []
  pub corners_at_4 : around_vertex bipyramid 4 ≡ forward 6 0 ∷ forward 8 0 ∷ forward 7 0 ∷ []
  -- the cheapest edge of the triangle is crossed
  pub first_by_price : IsFirst (by_kind (1 ∷ 5 ∷ 2 ∷ 9 ∷ [])) bipyramid 3 4 (route 2 (back 1 0 ∷ []) 2) 2
  -- no route costs less than the height of the corner where it starts: 2 at the third corner of 3
  pub certificate : IsCertificate (by_kind (1 ∷ 5 ∷ 2 ∷ 9 ∷ [])) bipyramid 4
      (by_place bipyramid (0 ∷ 3 ∷ 0 ∷ 2 ∷ 0 ∷ 3 ∷ 3 ∷ 3 ∷ 3 ∷ 2 ∷ 2 ∷ 3 ∷ 0 ∷ 0 ∷ 0 ∷ 0 ∷ 0 ∷ 0 ∷ []))
  -- where all three cost the same, the first start position decides
  pub first_of_ties : IsFirst (by_kind (4 ∷ 4 ∷ 4 ∷ 4 ∷ [])) bipyramid 3 4 (route 0 (back 2 0 ∷ []) 1) 4
  -- where the cheapest has no price, the next is crossed; where none of the three has one, there is no route
  pub first_of_allowed : IsFirst (by_kind (1 ∷ 5 ∷ 0 ∷ 9 ∷ [])) bipyramid 3 4 (route 1 (back 0 0 ∷ []) 0) 5
  pub none_allowed : HasNoRoute (by_kind (1 ∷ 0 ∷ 0 ∷ 0 ∷ [])) bipyramid 3 4
  -- where no edge has a price, there is no route between the apexes
  pub no_route : HasNoRoute no_price bipyramid 3 4
  pub joined : shown bipyramid 3 4 0 (route 2 (back 1 0 ∷ []) 2) ≡ joined_apexes RightToLeft
  pub ties_joined : (shown bipyramid 3 4 0 (route 0 (back 2 0 ∷ []) 1)).rotations
      ≡ (0 ∷ 3 ∷ 2 ∷ 6 ∷ []) ∷ (0 ∷ 7 ∷ 1 ∷ 4 ∷ []) ∷ (1 ∷ 8 ∷ 2 ∷ 5 ∷ []) ∷ (3 ∷ 4 ∷ 5 ∷ 9 ∷ []) ∷ (6 ∷ 9 ∷ 8 ∷ 7 ∷ []) ∷ []

pub record JoinedApexesEvidence : Type 0 where
  pub lawful : IsLawfulWith (joined_apexes RightToLeft) 5 1 10 12 8
  pub faces : HasFaces (joined_apexes RightToLeft)
      ((forward 1 0 ∷ forward 9 1 ∷ forward 7 0 ∷ []) ∷ (back 1 0 ∷ back 4 0 ∷ forward 9 0 ∷ []) ∷ (forward 1 1 ∷ back 8 0 ∷ back 9 1 ∷ [])
      ∷ (back 1 1 ∷ back 9 0 ∷ forward 5 0 ∷ []) ∷ (forward 0 0 ∷ back 7 0 ∷ forward 6 0 ∷ []) ∷ (back 0 0 ∷ back 3 0 ∷ forward 4 0 ∷ [])
      ∷ (forward 2 0 ∷ back 6 0 ∷ forward 8 0 ∷ []) ∷ (back 2 0 ∷ back 5 0 ∷ forward 3 0 ∷ []) ∷ [])
  -- with the other sign the four faces at the crossing become two, and the genus is 1
  pub wrong_sign_faces : HasFaces (joined_apexes LeftToRight)
      ((forward 1 0 ∷ back 9 0 ∷ forward 5 0 ∷ back 1 1 ∷ forward 9 1 ∷ forward 7 0 ∷ [])
      ∷ (back 1 0 ∷ back 4 0 ∷ forward 9 0 ∷ forward 1 1 ∷ back 8 0 ∷ back 9 1 ∷ []) ∷ [])
  pub wrong_sign_count : face_count (joined_apexes LeftToRight) ≡ 6
  pub wrong_sign : HasGenusZero (joined_apexes LeftToRight) → ⊥
  -- the new edge out again: the rows of before, with the counters kept
  pub deleted : without (joined_apexes RightToLeft) 9 ≡ record bipyramid { next_edge = 10; next_crossing = 1 }
  pub may_be_deleted : IsNoCut (joined_apexes RightToLeft) 9
  pub gone : edge_row (without (joined_apexes RightToLeft) 9) 9 ≡ None
  -- and the crossed edge out
  pub crossed_deleted : (without (joined_apexes RightToLeft) 1).rotations
      ≡ (0 ∷ 3 ∷ 2 ∷ 6 ∷ []) ∷ (0 ∷ 7 ∷ 4 ∷ []) ∷ (2 ∷ 5 ∷ 8 ∷ []) ∷ (3 ∷ 4 ∷ 9 ∷ 5 ∷ []) ∷ (6 ∷ 8 ∷ 9 ∷ 7 ∷ []) ∷ []

-- ---- The hexagon

-- a path of six vertices, grown from the seed
abbrev pub path_of_six : Rows
path_of_six = grown (grown (grown (grown seed 1 0 0) 2 0 0) 3 0 0) 4 0 0

pub record HexagonEvidence : Type 0 where
  -- built from the seed: a path is grown, closed to a ring, and two chords are put in
  pub built : shown (shown (shown path_of_six 5 0 0 (route 0 [] 0)) 0 3 0 (route 0 [] 1)) 1 4 0 (route 0 [] 0) ≡ hexagon
  pub lawful : IsLawfulWith hexagon 6 0 8 8 4
  pub faces : HasFaces hexagon
      ((forward 0 0 ∷ forward 1 0 ∷ forward 2 0 ∷ back 6 0 ∷ []) ∷ (forward 3 0 ∷ forward 4 0 ∷ forward 5 0 ∷ forward 6 0 ∷ [])
      ∷ (back 1 0 ∷ forward 7 0 ∷ back 3 0 ∷ back 2 0 ∷ []) ∷ (back 0 0 ∷ back 5 0 ∷ back 4 0 ∷ back 7 0 ∷ []) ∷ [])
  -- two darts lead from the face at 2 to a face at 5 for the same price: the first in canonical order is crossed
  pub first : IsFirst (by_kind []) hexagon 2 5 (route 0 (back 3 0 ∷ []) 1) 1
  pub crossed : shown hexagon 2 5 0 (route 0 (back 3 0 ∷ []) 1) ≡ crossed_hexagon
  pub crossed_lawful : IsLawfulWith crossed_hexagon 6 1 9 11 6

-- ---- The barrier

pub record BarrierEvidence : Type 0 where
  pub lawful : IsLawfulWith barrier 6 1 6 8 3
  pub faces : HasFaces barrier
      ((forward 0 0 ∷ back 3 0 ∷ back 1 0 ∷ forward 4 0 ∷ back 4 0 ∷ []) ∷ (forward 0 1 ∷ forward 5 0 ∷ back 5 0 ∷ forward 2 0 ∷ forward 3 0 ∷ [])
      ∷ (back 0 0 ∷ forward 1 0 ∷ back 2 0 ∷ back 0 1 ∷ forward 3 1 ∷ back 3 1 ∷ []) ∷ [])
  -- edge 0 is crossed twice, out of the triangle and into it
  pub first : IsFirst (by_kind (1 ∷ 9 ∷ [])) barrier 4 5 (route 0 (forward 0 0 ∷ back 0 1 ∷ []) 0) 2
  pub passed : shown barrier 4 5 0 (route 0 (forward 0 0 ∷ back 0 1 ∷ []) 0) ≡ passed_barrier
  pub passed_lawful : IsLawfulWith passed_barrier 6 3 7 13 6
  pub deleted : without passed_barrier 6 ≡ record barrier { next_edge = 7; next_crossing = 3 }
  pub may_be_deleted : IsNoCut passed_barrier 6
  -- before edge 6 is deleted a crossing of it lies on each segment of edge 0, first out of the triangle and then into it
  pub on_first : crossings_between passed_barrier 6 0 0 ≡ 1 ∷ []
  pub on_second : crossings_between passed_barrier 6 0 1 ≡ 2 ∷ []
  pub first_runs : RunsOver passed_barrier 0 (lifted barrier passed_barrier (forward 0 0)) (1 ∷ []) (lifted barrier passed_barrier (back 0 0))
  pub second_lifted : lifted barrier passed_barrier (forward 0 1) ≡ forward 0 2
  -- edge 6 leaves edge 0 on its right and comes back from there; on the right of edge 6, where it leaves, edge 0 goes back
  pub out_on_right : rightward (crossing 1 0 6 LeftToRight) 6 ≡ Forward
  pub in_from_right : rightward (crossing 2 0 6 RightToLeft) 6 ≡ Back
  pub back_on_right : rightward (crossing 1 0 6 LeftToRight) 0 ≡ Back
  -- and before edge 0 is deleted both crossings lie on edge 6
  pub on_newcomer : crossings_between passed_barrier 0 6 0 ≡ 1 ∷ 2 ∷ []
  -- edge 3 ends at a vertex of its own, so its second segment cuts
  pub cut : IsCutAt barrier 3 1

-- ---- Two edges joined by one crossing, and rows that are no pictures

pub record CrossEvidence : Type 0 where
  pub lawful : IsLawfulWith cross 4 1 2 4 1
  pub cut_first : IsCutAt cross 0 0
  pub cut_second : IsCutAt cross 1 0

abbrev pub rows_of : List (List ℕ) → Rows
rows_of rotations = record { rotations = rotations; edges = []; crossings = []; next_edge = 0; next_crossing = 0 }

pub record UnlawfulEvidence : Type 0 where
  -- no vertex and no edge: connected, but not of genus zero
  pub nothing_connected : Connected (system (rows_of []))
  pub nothing_genus : HasGenusZero (rows_of []) → ⊥
  -- two vertices without an edge: good lists, but not connected
  pub bare_lists : has_good_rotations (rows_of ([] ∷ [] ∷ [])) ≡ true
  pub bare_apart : Connected (system (rows_of ([] ∷ [] ∷ []))) → ⊥
  -- a list that lacks an end
  pub lacking : has_good_rotations (record seed { rotations = (0 ∷ []) ∷ [] ∷ [] }) ≡ false

-- ---- A history of two callers on the seed: one grows a vertex and joins it again, the other is refused

abbrev pub entry : ℕ → Call → Reply → Entry
entry caller call reply = record { caller = caller; call = call; reply = reply }

abbrev pub growth : Entry
growth = entry 0 (Grow 1 0 0) (Grown 2 1)

abbrev pub refusal : Entry
refusal = entry 1 (Insert 0 0 0) (Refused SameEnds)

abbrev pub insertion : Entry
insertion = entry 0 (Insert 1 2 0) (Put (record { id = 2; route = route 0 [] 0; price = 0 }))

abbrev pub two_callers : List Entry
two_callers = growth ∷ refusal ∷ insertion ∷ []

-- where they lead
abbrev pub after_two : Rows
after_two = shown (grown seed 1 0 0) 1 2 0 (route 0 [] 0)

-- the lists of commands that they made
abbrev pub two_lists : List (List Command)
two_lists = (Plain (Grow 1 0 0) ∷ Planned 1 2 0 ∷ []) ∷ (Plain (Insert 0 0 0) ∷ []) ∷ []

pub record HistoryEvidence (wide : Limits) : Type 0 where
  pub step : Step (by_kind []) wide seed (Grow 1 0 0) (Grown 2 1) (grown seed 1 0 0)
  pub replayed : Replays (by_kind []) wide seed two_callers after_two
  -- the accepted entries are the versions, and lead to the same picture
  pub accepted : versions two_callers ≡ growth ∷ insertion ∷ []
  pub version : IsVersion (by_kind []) wide seed (growth ∷ insertion ∷ []) after_two
  -- a receipt of the second call of caller 0 agrees; of caller 1, one with another refusal does not
  pub agrees : Agrees two_callers 0 1 (Insert 1 2 0) insertion.reply
  pub differs : Agrees two_callers 1 0 (Insert 0 0 0) (Refused NoVertex) → ⊥
  -- caller 1 made one call
  pub no_more : Agrees two_callers 1 1 (Insert 0 0 0) (Refused SameEnds) → ⊥
  pub run : IsRun (by_kind []) wide seed two_lists two_callers after_two

-- ---- The eight calls that make the crossed hexagon from the seed

abbrev pub put : ℕ → Route → ℕ → Reply
put id route price = Put (record { id = id; route = route; price = price })

abbrev pub hexagon_calls : List Entry
hexagon_calls = entry 0 (Grow 1 0 0) (Grown 2 1) ∷ entry 0 (Grow 2 0 0) (Grown 3 2) ∷ entry 0 (Grow 3 0 0) (Grown 4 3) ∷ entry 0 (Grow 4 0 0) (Grown 5 4)
    ∷ entry 0 (Insert 5 0 0) (put 5 (route 0 [] 0) 0) ∷ entry 0 (Insert 0 3 0) (put 6 (route 0 [] 1) 0) ∷ entry 0 (Insert 1 4 0) (put 7 (route 0 [] 0) 0)
    ∷ entry 0 (Insert 2 5 0) (put 8 (route 0 (back 3 0 ∷ []) 1) 1) ∷ []

pub record HexagonCallsEvidence (wide : Limits) : Type 0 where
  pub replayed : Replays (by_kind []) wide seed hexagon_calls crossed_hexagon
