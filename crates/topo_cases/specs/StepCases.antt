-- Steps for the replies that the other evidence lacks, and steps, replays, versions and runs that are none. Each record is
-- proved as the contract of a function without a body.
use Rattle.std.specs.Prelude.{List, [], ◌∷◌}
use Rattle.topo_core.specs.declared.calls.Call.TheVariants.{Delete, Grow, Insert}
use Rattle.topo_core.specs.declared.calls.Command.{Command}
use Rattle.topo_core.specs.declared.calls.Command.TheVariants.{Plain, Planned}
use Rattle.topo_core.specs.declared.calls.Refusal.TheVariants.{BadKind, Cut, Full, Memory, NoEdge, NoRoute, SameEnds}
use Rattle.topo_core.specs.declared.calls.Reply.TheVariants.{Deleted, Grown, Refused}
use Rattle.topo_core.specs.declared.darts.Sign.TheVariants.{RightToLeft}
use Rattle.topo_core.specs.declared.limits.Limits.{Limits}
use Rattle.topo_core.specs.declared.rows.Rows.{Rows}
use Rattle.topo_core.specs.Changes.{grown, shown, without}
use Rattle.topo_cases.specs.Evidence.{after_two, by_kind, entry, growth, insertion, put, route, two_callers, two_lists}
use Rattle.topo_cases.specs.FalseCases.{cheapest, uneven}
use Rattle.topo_core.specs.History.{IsLegal, IsRun, IsVersion, Replays}
use Rattle.topo_core.specs.Pictures.{back, barrier, bipyramid, joined_apexes, seed}
use Rattle.topo_core.specs.Steps.{HasRoomFor, Step}

-- ---- Steps

-- the bipyramid with the ids of an edge between the apexes, and of its one crossing, given out
abbrev pub joined_before : Rows
joined_before = record bipyramid { next_edge = 10; next_crossing = 1 }

-- under the greatest limits, under limits that leave no room for a vertex or an edge, and under limits of one crossing
pub record StepEvidence (wide narrow single : Limits) : Type 0 where
  pub deleted : Step uneven wide (joined_apexes RightToLeft) (Delete 9) (Deleted 9) joined_before
  pub cut : Step uneven wide barrier (Delete 3) (Refused (Cut 1)) barrier
  pub no_edge : Step uneven wide seed (Delete 1) (Refused NoEdge) seed
  pub no_route : Step (by_kind (1 ∷ 0 ∷ 0 ∷ 0 ∷ [])) wide bipyramid (Insert 3 4 0) (Refused NoRoute) bipyramid
  pub no_vertex_left : Step uneven narrow seed (Grow 0 0 0) (Refused Full) seed
  pub no_edge_left : Step uneven narrow seed (Insert 0 1 0) (Refused Full) seed
  -- the one crossing is there for the first route, and once it has been given out there is none
  pub room : HasRoomFor single bipyramid cheapest
  pub no_room : HasRoomFor single joined_before cheapest → ⊥
  pub inserted : Step uneven single bipyramid (Insert 3 4 0) (put 9 cheapest 2) (joined_apexes RightToLeft)
  pub no_crossing_left : Step uneven single joined_before (Insert 3 4 0) (Refused Full) joined_before

-- ---- What is no step

pub record NoStepEvidence (wide : Limits) : Type 0 where
  -- another number, another picture, and a refusal without a cause
  pub other_vertex : Step uneven wide seed (Grow 1 0 0) (Grown 3 1) (grown seed 1 0 0) → ⊥
  pub other_edge : Step uneven wide seed (Grow 1 0 0) (Grown 2 2) (grown seed 1 0 0) → ⊥
  pub other_picture : Step uneven wide seed (Grow 1 0 0) (Grown 2 1) (grown seed 0 0 0) → ⊥
  pub no_cause : Step uneven wide seed (Grow 1 0 0) (Refused Full) seed → ⊥
  -- a refused call that changes the picture, and a cause that is not the first
  pub changed : Step uneven wide seed (Insert 0 0 0) (Refused SameEnds) (grown seed 1 0 0) → ⊥
  pub later_cause : Step uneven wide seed (Insert 0 0 64) (Refused BadKind) seed → ⊥
  -- an insertion along a dearer route, and one that leaves the picture as it was
  pub dearer : Step uneven wide bipyramid (Insert 3 4 0) (put 9 (route 1 (back 0 0 ∷ []) 0) 5) (shown bipyramid 3 4 0 (route 1 (back 0 0 ∷ []) 0)) → ⊥
  pub not_shown : Step uneven wide bipyramid (Insert 3 4 0) (put 9 cheapest 2) bipyramid → ⊥
  pub no_route : Step uneven wide bipyramid (Insert 3 4 0) (Refused NoRoute) bipyramid → ⊥
  -- a deletion that parts the picture, one that is refused at another segment, and one that is refused without a cause
  pub parted : Step uneven wide barrier (Delete 3) (Deleted 3) (without barrier 3) → ⊥
  pub other_segment : Step uneven wide barrier (Delete 3) (Refused (Cut 0)) barrier → ⊥
  pub kept : Step uneven wide (joined_apexes RightToLeft) (Delete 9) (Refused (Cut 0)) (joined_apexes RightToLeft) → ⊥
  pub not_taken_out : Step uneven wide (joined_apexes RightToLeft) (Delete 9) (Deleted 9) (joined_apexes RightToLeft) → ⊥
  -- the reply of another call, and out of memory
  pub other_reply : Step uneven wide seed (Delete 0) (Grown 2 1) seed → ⊥
  pub out_of_memory : Step uneven wide seed (Grow 1 0 0) (Refused Memory) seed → ⊥

-- ---- What is no replay, no version and no run

-- the lists of the two callers exchanged, the first alone, and the first with one command more
abbrev pub exchanged_lists : List (List Command)
exchanged_lists = (Plain (Insert 0 0 0) ∷ []) ∷ (Plain (Grow 1 0 0) ∷ Planned 1 2 0 ∷ []) ∷ []

abbrev pub first_list : List (List Command)
first_list = (Plain (Grow 1 0 0) ∷ Planned 1 2 0 ∷ []) ∷ []

abbrev pub longer_lists : List (List Command)
longer_lists = (Plain (Grow 1 0 0) ∷ Planned 1 2 0 ∷ Plain (Delete 0) ∷ []) ∷ (Plain (Insert 0 0 0) ∷ []) ∷ []

pub record NoHistoryEvidence (wide : Limits) : Type 0 where
  -- entries that lead elsewhere, one that was answered otherwise, and two in another order
  pub elsewhere : Replays (by_kind []) wide seed two_callers seed → ⊥
  pub unanswered : IsLegal (by_kind []) wide seed (entry 0 (Grow 1 0 0) (Grown 3 1) ∷ []) → ⊥
  pub out_of_order : IsLegal (by_kind []) wide seed (insertion ∷ growth ∷ []) → ⊥
  pub nothing_done : Replays (by_kind []) wide seed [] (grown seed 1 0 0) → ⊥
  -- a version has no refused entry, leads to its picture, and begins at the start
  pub with_refusal : IsVersion (by_kind []) wide seed two_callers after_two → ⊥
  pub other_version : IsVersion (by_kind []) wide seed (growth ∷ insertion ∷ []) (grown seed 1 0 0) → ⊥
  pub without_beginning : IsVersion (by_kind []) wide seed (insertion ∷ []) after_two → ⊥
  -- runs of other lists, of fewer lists, of longer lists, and with another picture
  pub exchanged : IsRun (by_kind []) wide seed exchanged_lists two_callers after_two → ⊥
  pub unlisted : IsRun (by_kind []) wide seed first_list two_callers after_two → ⊥
  pub unfinished : IsRun (by_kind []) wide seed longer_lists two_callers after_two → ⊥
  pub other_end : IsRun (by_kind []) wide seed two_lists two_callers seed → ⊥
