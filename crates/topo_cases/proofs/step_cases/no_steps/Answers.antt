use Rattle.std.specs.Prelude.{None, Option, Some, length}
use Rattle.std.proofs.Common.{◌≡◌, ◌<◌, ◌+◌, ℕ, zero, suc, [], ◌∷◌, ap, refl, subst, lit≤, arith, inl, inr}
use Rattle.topo_core.specs.declared.calls.Refusal.{Refusal}
use Rattle.topo_core.specs.declared.calls.Refusal.TheVariants.{NoVertex, SameEnds, NoPosition, NoEdge, BadKind, Cut, Full, Memory, NoRoute}
use Rattle.topo_core.specs.declared.calls.Call.TheVariants.{Delete, Insert}
use Rattle.topo_core.specs.declared.darts.Sign.TheVariants.{RightToLeft}
use Rattle.topo_core.specs.declared.limits.Limits.{Limits}
use Rattle.topo_core.specs.declared.routes.Route.{Route}
use Rattle.topo_core.specs.declared.rows.Rows.{Rows}
use Rattle.topo_core.specs.Changes.{IsCut, opened, without}
use Rattle.topo_cases.specs.Evidence.{IsNoCut, route}
use Rattle.topo_cases.specs.FalseCases.{cheapest, uneven}
use Rattle.topo_core.specs.FaultTexts.{refusal_number}
use Rattle.topo_core.specs.Picture.{edge_row, rotation, system}
use Rattle.topo_core.specs.Pictures.{back, barrier, bipyramid, forward, joined_apexes, seed}
use Rattle.topo_core.specs.Routes.{IsFirst}
use Rattle.topo_core.specs.Steps.{IsRefused, grow_refusal, insert_refusal}
use Rattle.topo_core.specs.Systems.{Connected}
use Rattle.topo_core.proofs.Interface.{same_some}
use Rattle.topo_cases.proofs.Computed.{Passes, Planned, connected_by_tests, cut_by_tests, first_by_tests, no_cut_by_tests}
use Rattle.topo_core.proofs.Interface.{one_first}
use Rattle.topo_cases.proofs.step_cases.no_steps.Goals as goal

abbrev by_price : Planned
by_price = record {
  prices = 1 ∷ 5 ∷ 2 ∷ 9 ∷ [];
  heights = 0 ∷ 3 ∷ 0 ∷ 2 ∷ 0 ∷ 3 ∷ 3 ∷ 3 ∷ 3 ∷ 2 ∷ 2 ∷ 3 ∷ 0 ∷ 0 ∷ 0 ∷ 0 ∷ 0 ∷ 0 ∷ [];
  crossed = back 1 0 ∷ [];
  start = 2;
  end = 2;
  from = forward 5 0;
  to = forward 7 0;
}

passes : Passes bipyramid 3 4 by_price
passes = record {
  starts = refl;
  ends = refl;
  closed = refl;
  twins = refl;
  corners = refl;
  even = refl;
  gentle = refl;
  target = refl;
  walk = refl;
  priced = refl;
  least_height = refl;
  first_start = refl;
  first_darts = refl;
  arrival_held = refl;
  first_end = refl;
}

first : IsFirst uneven bipyramid 3 4 cheapest 2
first = first_by_tests bipyramid 3 4 by_price passes

whole_before : (j : ℕ) → j < 1 → Connected (opened barrier 3 (j + 1))
whole_before zero below = connected_by_tests (opened barrier 3 1) 10 refl refl
whole_before (suc j) below = absurd (omega arith)

cut : IsCut barrier 3 1
cut = (cut_by_tests barrier 3 1 refl (lit≤ tt) refl refl refl refl whole_before).by_connection

no_cut : IsNoCut (joined_apexes RightToLeft) 9
no_cut = no_cut_by_tests (joined_apexes RightToLeft) 9 refl (connected_by_tests (system (without (joined_apexes RightToLeft) 9)) 8 refl refl)

grows : (wide : Limits) → wide.vertices ≡ 65536 → wide.edges ≡ 65536 → grow_refusal wide seed 1 0 0 ≡ None
grows wide vertices edges = rw (vertices, edges) refl

admits : (wide : Limits) → wide.edges ≡ 65536 → insert_refusal wide bipyramid 3 4 0 ≡ None
admits wide edges = rw edges refl

not_refused : {X : Type 0} (o : Option X) (why : X) → o ≡ None → o ≡ Some why → ⊥
not_refused o why none some = cc

-- with one vertex as both ends nothing is looked at later
ends_come_first : (wide : Limits) → IsRefused uneven wide seed (Insert 0 0 64) BadKind → ⊥
ends_come_first wide (inl early) = let h = ap refusal_number (same_some (insert_refusal wide seed 0 0 64) SameEnds BadKind refl early) in omega arith
ends_come_first wide (inr (inl late)) = not_refused (insert_refusal wide seed 0 0 64) SameEnds late.0 refl
ends_come_first wide (inr (inr late)) = not_refused (insert_refusal wide seed 0 0 64) SameEnds late.0 refl

-- there is a route
route_there : (wide : Limits) → insert_refusal wide bipyramid 3 4 0 ≡ None → IsRefused uneven wide bipyramid (Insert 3 4 0) NoRoute → ⊥
route_there wide admit (inl early) = not_refused (insert_refusal wide bipyramid 3 4 0) NoRoute admit early
route_there wide admit (inr (inl late)) = late.2 cheapest 2 first.is_least.priced
route_there wide admit (inr (inr late)) = let h = ap refusal_number late.1 in omega arith

abbrev segment_of : Refusal → ℕ
segment_of (Cut i) = i
segment_of NoVertex = 0
segment_of SameEnds = 0
segment_of NoPosition = 0
segment_of NoEdge = 0
segment_of BadKind = 0
segment_of Full = 0
segment_of Memory = 0
segment_of NoRoute = 0

-- the cut is at segment 1, and not before
cut_later : (wide : Limits) → IsRefused uneven wide barrier (Delete 3) (Cut 0) → ⊥
cut_later wide (inl gone) = not_refused (edge_row barrier 3) _ gone.0 refl
cut_later wide (inr other) = let same : 0 ≡ other.0 = ap segment_of other.2 in
    other.3.apart_after (subst (λ i. Connected (opened barrier 3 (i + 1))) same (whole_before 0 (lit≤ tt)))

never_cut : (wide : Limits) → IsRefused uneven wide (joined_apexes RightToLeft) (Delete 9) (Cut 0) → ⊥
never_cut wide (inl gone) = let h = ap refusal_number gone.1 in omega arith
never_cut wide (inr other) = no_cut.by_connection other.0 other.3

pub returns : goal.returns
returns c =
    let wide = c.args.wide in
    let grow = grows wide c.requires.vertices c.requires.edges in
    let admit = admits wide c.requires.edges in record {
      other_vertex = λ step. let h = step.1 in omega arith;
      other_edge = λ step. let h = step.2 in omega arith;
      other_picture = λ step. let h = ap (λ (rows : Rows). length (rotation rows 0)) step.3 in omega arith;
      no_cause = λ step. not_refused (grow_refusal wide seed 1 0 0) Full grow step.0;
      changed = λ step. let h = ap (λ (rows : Rows). rows.next_edge) step.1 in omega arith;
      later_cause = λ step. ends_come_first wide step.0;
      dearer = λ step. let h =
          ap (λ (r : Route). r.start) (one_first uneven bipyramid 3 4 cheapest (route 1 (back 0 0 ∷ []) 0) 2 5 first step.1) in omega arith;
      not_shown = λ step. let h = ap (λ (rows : Rows). rows.next_edge) step.4 in omega arith;
      no_route = λ step. route_there wide admit step.0;
      parted = λ step. step.1 1 cut;
      other_segment = λ step. cut_later wide step.0;
      kept = λ step. never_cut wide step.0;
      not_taken_out = λ step. let h = ap (λ (rows : Rows). length rows.edges) step.3 in omega arith;
      other_reply = λ step. step;
      out_of_memory = λ step. not_refused (grow_refusal wide seed 1 0 0) _ grow step.0;
    }
