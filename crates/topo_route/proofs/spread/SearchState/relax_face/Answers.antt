use Rattle.std.proofs.Common.{◌≡◌, ◌+◌, ◌∙◌, ℕ, ap, arith, refl, sym}
use Rattle.std.specs.Prelude.{slice_index}
use Rattle.topo_core.specs.Cycles.{after}
use Rattle.topo_route.specs.PricedFaces.{heights_over}
use Rattle.topo_route.specs.Names.{next_name}
use Rattle.topo_route.specs.Settling.{IsCrossed, reach_of}
use Rattle.topo_route.specs.Searches.{priced_faces}
use Rattle.topo_route.proofs.spreading.Shown.{are_faces}
use Rattle.topo_route.proofs.spreading.FaceHeights.{one_height}
use Rattle.topo_route.proofs.spreading.FaceWalks.{face_after, face_home, face_whole}
use Rattle.topo_route.proofs.spreading.Relaxing.{at_height, both_steps, crossed_on, no_step, put_down_relaxes, same_hand}
use Rattle.topo_route.proofs.names.Rounds.{after-one}
use Rattle.topo_route.proofs.spread.SearchState.relax_face.Goals as goal

pub loop-steps-init : goal.loop-steps-init
loop-steps-init g c =
    let seen = priced_faces g.W.FaceGraph g.F.PriceFn c.args.priced.now in
    let laws = are_faces g.W.FaceGraph g.F.PriceFn g.met.W.FaceGraph.lawful g.met.W.FaceGraph.has_names g.met.W.FaceGraph.has_faces c.args.priced.now in
    record {
      relaxes = no_step seen laws c.args.ends.now.v c.args.ends.now.other.now c.args.self.now.heights c.args.self.now.names.items
          c.args.self.now.waiting c.args.least.now c.args.dart c.requires.known.costs c.requires.known.sums;
      place = refl;
      name = c.requires.in_hand.reached.0;
      same = sym c.requires.in_hand.height;
      crossed = λ j less. absurd (omega arith);
    }

pub relax_twin-requires-clause-in_hand : goal.relax_twin-requires-clause-in_hand
relax_twin-requires-clause-in_hand g c =
    let seen = priced_faces g.W.FaceGraph g.F.PriceFn c.args.priced.now in
    let laws = are_faces g.W.FaceGraph g.F.PriceFn g.met.W.FaceGraph.lawful g.met.W.FaceGraph.has_names g.met.W.FaceGraph.has_faces c.args.priced.now in
    let was = c.loop-steps.invariant in
    let at : slice_index (heights_over seen c.loop-steps.self.heights) c.loop-steps.at ≡ c.args.height =
    at_height seen laws c.args.ends.now.v c.args.ends.now.other.now c.loop-steps.self.heights c.loop-steps._steps c.args.dart
    c.loop-steps.at c.args.height c.requires.in_hand.reached.0 was.name was.place was.same in
    record { reached = (was.name, λ e. c.requires.in_hand.reached.1 (sym c.requires.in_hand.height ∙ sym at ∙ e)); height = sym at }

pub loop-steps-preserved : goal.loop-steps-preserved
loop-steps-preserved g c =
    let seen = priced_faces g.W.FaceGraph g.F.PriceFn c.args.priced.now in
    let laws = are_faces g.W.FaceGraph g.F.PriceFn g.met.W.FaceGraph.lawful g.met.W.FaceGraph.has_names g.met.W.FaceGraph.has_faces c.args.priced.now in
    let v = c.args.ends.now.v in
    let others = c.args.ends.now.other.now in
    let dart = c.args.dart in
    let there = c.requires.in_hand.reached.0 in
    let i = c.loop-steps._steps in
    let at = c.loop-steps.at in
    let was = c.loop-steps.invariant in
    let step = c.in_ok-relax_twin.ensures in
    let hs = c.loop-steps.self.heights in
    let hs' = c.relax_twin.new.self.heights in
    let ns' = c.relax_twin.new.self.names.items in
    let ws' = c.relax_twin.new.self.waiting in
    let l' = c.relax_twin.new.least in
    let inside : seen.face at ≡ seen.face dart = ap seen.face was.place ∙ face_after seen.named laws.lawful laws.names seen.face seen.faces laws.labels i dart there in
    let on = same_hand seen laws v others dart at there was.name inside step.relaxes in
    let place : c.step-next.result.0 ≡ after (next_name seen.named) (i + 1) dart = c.step-next.ensures.next ∙ ap (next_name seen.named) was.place
    ∙ sym (after-one (next_name seen.named) i dart) in
    let crossed = crossed_on seen laws v others i there was.place
    (record { lower = step.relaxes.lower; less = step.relaxes.less; same = step.same ∙ sym was.same }) was.crossed step.crossed in
    record {
      relaxes = both_steps seen laws v others was.relaxes on;
      place = place;
      name = c.step-next.ensures.name;
      same = one_height seen.named seen.face hs' laws.names dart at there was.name (sym inside) ∙ step.same;
      crossed = crossed;
    }

pub returns-then-at-dart : goal.returns-then-at-dart
returns-then-at-dart g c =
    let seen = priced_faces g.W.FaceGraph g.F.PriceFn c.args.priced.now in
    let laws = are_faces g.W.FaceGraph g.F.PriceFn g.met.W.FaceGraph.lawful g.met.W.FaceGraph.has_names g.met.W.FaceGraph.has_faces c.args.priced.now in
    let v = c.args.ends.now.v in
    let others = c.args.ends.now.other.now in
    let dart = c.args.dart in
    let there = c.requires.in_hand.reached.0 in
    let i = c.loop-steps._steps in
    let at = c.loop-steps.at in
    let was = c.loop-steps.invariant in
    let step = c.in_ok-relax_twin.ensures in
    let hs = c.loop-steps.self.heights in
    let hs' = c.relax_twin.new.self.heights in
    let ns' = c.relax_twin.new.self.names.items in
    let ws' = c.relax_twin.new.self.waiting in
    let l' = c.relax_twin.new.least in
    let inside : seen.face at ≡ seen.face dart = ap seen.face was.place ∙ face_after seen.named laws.lawful laws.names seen.face seen.faces laws.labels i dart there in
    let on = same_hand seen laws v others dart at there was.name inside step.relaxes in
    let place : c.step-next.result.0 ≡ after (next_name seen.named) (i + 1) dart = c.step-next.ensures.next ∙ ap (next_name seen.named) was.place
    ∙ sym (after-one (next_name seen.named) i dart) in
    let crossed = crossed_on seen laws v others i there was.place
    (record { lower = step.relaxes.lower; less = step.relaxes.less; same = step.same ∙ sym was.same }) was.crossed step.crossed in
    let home : after (next_name seen.named) (i + 1) dart ≡ dart = sym place ∙ c.if-at-dart.true in
    let P = λ (k : ℕ). IsCrossed seen.price seen.named (reach_of l') (heights_over seen hs') k in
    both_steps seen laws v others was.relaxes
    (both_steps seen laws v others on
    (put_down_relaxes seen laws v others hs' ns' ws' l' dart there step.relaxes.costs step.relaxes.sums
    (face_home seen.named laws.lawful laws.names seen.face seen.faces laws.labels P dart there (i + 1) crossed (omega arith) home)))

pub returns : goal.returns
returns g c =
    let seen = priced_faces g.W.FaceGraph g.F.PriceFn c.args.priced.now in
    let laws = are_faces g.W.FaceGraph g.F.PriceFn g.met.W.FaceGraph.lawful g.met.W.FaceGraph.has_names g.met.W.FaceGraph.has_faces c.args.priced.now in
    let v = c.args.ends.now.v in
    let others = c.args.ends.now.other.now in
    let dart = c.args.dart in
    let was = c.loop-steps.invariant in
    let hs = c.loop-steps.self.heights in
    let P = λ (k : ℕ). IsCrossed seen.price seen.named (reach_of c.loop-steps.least) (heights_over seen hs) k in
    both_steps seen laws v others was.relaxes
    (put_down_relaxes seen laws v others hs c.loop-steps.self.names.items c.loop-steps.self.waiting c.loop-steps.least dart
    c.requires.in_hand.reached.0 was.relaxes.costs was.relaxes.sums
    (face_whole seen.named laws.lawful laws.names seen.face seen.faces laws.labels P dart c.requires.in_hand.reached.0 c.loop-steps._steps was.crossed (omega arith)))
