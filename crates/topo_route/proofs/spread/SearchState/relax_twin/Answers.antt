use Rattle.std.proofs.Common.{◌≡◌, ◌+◌, ◌≤◌, ◌∙◌, ◌==◌, ◌||◌, List, ℕ, ap, arith, length, subst, sym}
use Rattle.std.proofs.Math.ListN.{set}
use Rattle.std.specs.Prelude.{min, slice_index}
use Rattle.topo_route.specs.PricedFaces.{heights_over}
use Rattle.topo_route.specs.FaceHeights.{with_name}
use Rattle.topo_route.specs.Settling.{IsCrossed, Relaxes, is_waiting, item_of, number_at, reach_of}
use Rattle.topo_route.specs.Searches.{priced_faces}
use Rattle.topo_route.proofs.spreading.Shown.{are_faces}
use Rattle.topo_route.proofs.spreading.Crossings.{crossed_already, crossed_low, is_crossed, twin_same}
use Rattle.topo_route.proofs.names.Names.{name_some}
use Rattle.topo_route.proofs.spreading.Relaxing.{no_step, twin_relaxes}
use Rattle.topo_route.proofs.spreading.Settled.{of_face}
use Rattle.topo_route.proofs.spread.SearchState.relax_twin.Goals as goal

pub returns-in_ok-push-in-Some : goal.returns-in_ok-push-in-Some
returns-in_ok-push-in-Some g c =
    let seen = priced_faces g.W.FaceGraph g.F.PriceFn c.args.priced.now in
    let laws = are_faces g.W.FaceGraph g.F.PriceFn g.met.W.FaceGraph.lawful g.met.W.FaceGraph.has_names g.met.W.FaceGraph.has_faces c.args.priced.now in
    let v = c.args.ends.now.v in
    let others = c.args.ends.now.other.now in
    let heights = c.args.self.now.heights in
    let names = c.args.self.now.names.items in
    let waiting = c.args.self.now.waiting in
    let dart = c.args.crossing.dart in
    let twin = c.across-twin.result in
    let there = c.across-twin.ensures.name in
    let label : c.args.crossing.beyond ≡ seen.face twin = c.requires.beyond.beyond ∙ ap seen.face (sym c.across-twin.ensures.twin) in
    let x : ℕ = slice_index (heights_over seen heights) dart + c.in-Some.price in
    let at : slice_index (heights_over seen heights) twin ≡ slice_index heights c.args.crossing.beyond =
    of_face seen laws v heights names c.requires.known.costs twin there ∙ ap (slice_index heights) (sym label) in
    let hs : c.lower.new.self.heights ≡ set heights (seen.face twin) x =
    c.in_ok-lower-in-Some.ensures.heights ∙ ap (λ (h : ℕ). set heights c.args.crossing.beyond (h + c.in-Some.price)) c.requires.in_hand.height
    ∙ ap (λ (f : ℕ). set heights f x) label in
    let ns : c.lower.new.self.names.items ≡ with_name heights (seen.face twin) twin names = c.in_ok-lower-in-Some.ensures.names ∙ ap
    (λ (f : ℕ). with_name heights f twin names) label in
    let item : c.item_of.result ≡ item_of twin x = c.item_of.ensures ∙ ap (λ (h : ℕ). item_of twin (h + c.in-Some.price)) c.requires.in_hand.height in
    let longer : length c.push.new.self ≡ length waiting + 1 = c.in_ok-push-in-Some.ensures.len
    ∙ ap (λ (ws : List ℕ). length ws + 1) c.in_ok-lower-in-Some.ensures.waiting in
    let number : number_at others c.args.crossing.beyond ≡ number_at others (seen.face twin) = ap (number_at others) label in
    record {
      relaxes = subst (λ (xs : List ℕ). Relaxes seen v others heights names waiting c.args.least.now dart xs c.lower.new.self.names.items
          c.push.new.self c.lower.new.least dart) (sym hs)
          (subst (λ (xs : List ℕ). Relaxes seen v others heights names waiting c.args.least.now dart (set heights (seen.face twin) x)
          xs c.push.new.self c.lower.new.least dart) (sym ns)
          (twin_relaxes seen laws v others c.requires.known.sums c.requires.known.costs c.requires.in_hand.reached
          c.in-Some.ensures.promise c.in-Some.ensures.price
          (record { is = c.across-twin.ensures.twin; there = there; short = c.across-twin.type_inv }) (omega arith)
          (omega (arith, c.in_ok-lower-in-Some.ensures.least))
          (λ i. c.in_ok-push-in-Some.ensures.waits i ∙ ap (λ (j : ℕ). j == i || is_waiting c.lower.new.self.waiting i) item
          ∙ ap (λ (ws : List ℕ). item_of twin x == i || is_waiting ws i) c.in_ok-lower-in-Some.ensures.waiting)
          longer));
      crossed = subst (λ (xs : List ℕ). IsCrossed seen.price seen.named (reach_of c.lower.new.least) (heights_over seen xs) dart) (sym hs)
          (is_crossed seen laws v (reach_of c.args.least.now)
          heights names waiting dart twin c.in-Some.price c.requires.known.costs c.requires.in_hand.reached c.in-Some.ensures.promise c.in-Some.ensures.price
          c.across-twin.ensures.twin there (omega arith) (reach_of c.lower.new.least));
      same = subst (λ (xs : List ℕ). slice_index (heights_over seen xs) dart ≡ c.args.crossing.height) (sym hs)
          (twin_same seen laws v (reach_of c.args.least.now)
          heights names waiting dart twin c.in-Some.price c.requires.known.costs c.requires.in_hand.reached c.in-Some.ensures.promise c.in-Some.ensures.price
          c.across-twin.ensures.twin there (omega arith) ∙ sym c.requires.in_hand.height);
    }

pub returns-else-is_lowered_by : goal.returns-else-is_lowered_by
returns-else-is_lowered_by g c =
    let seen = priced_faces g.W.FaceGraph g.F.PriceFn c.args.priced.now in
    let laws = are_faces g.W.FaceGraph g.F.PriceFn g.met.W.FaceGraph.lawful g.met.W.FaceGraph.has_names g.met.W.FaceGraph.has_faces c.args.priced.now in
    let heights = c.args.self.now.heights in
    let twin = c.across-twin.result in
    let at : slice_index (heights_over seen heights) twin ≡ slice_index heights c.args.crossing.beyond =
    of_face seen laws c.args.ends.now.v heights c.args.self.now.names.items c.requires.known.costs twin c.across-twin.ensures.name
    ∙ ap (slice_index heights) (sym (c.requires.beyond.beyond ∙ ap seen.face (sym c.across-twin.ensures.twin))) in
    let low : min (slice_index heights c.args.crossing.beyond) (reach_of c.args.least.now) ≤ c.args.crossing.height + c.in-Some.price = grind arith in
    record {
      relaxes = no_step seen laws c.args.ends.now.v c.args.ends.now.other.now heights c.args.self.now.names.items
          c.args.self.now.waiting c.args.least.now c.args.crossing.dart c.requires.known.costs c.requires.known.sums;
      crossed = crossed_low seen.named (reach_of c.args.least.now) (heights_over seen heights) c.args.crossing.dart c.in-Some.ensures.promise
          c.in-Some.ensures.price c.across-twin.ensures.twin (omega (arith, low));
      same = sym c.requires.in_hand.height;
    }

pub returns-in-None : goal.returns-in-None
returns-in-None g c =
    let seen = priced_faces g.W.FaceGraph g.F.PriceFn c.args.priced.now in
    let laws = are_faces g.W.FaceGraph g.F.PriceFn g.met.W.FaceGraph.lawful g.met.W.FaceGraph.has_names g.met.W.FaceGraph.has_faces c.args.priced.now in
    let heights = c.args.self.now.heights in
    record {
      relaxes = no_step seen laws c.args.ends.now.v c.args.ends.now.other.now heights c.args.self.now.names.items
          c.args.self.now.waiting c.args.least.now c.args.crossing.dart c.requires.known.costs c.requires.known.sums;
      crossed = λ n asked. absurd (c.in-None.ensures.price n asked);
      same = sym c.requires.in_hand.height;
    }

pub returns-then-not-is_lowered_by : goal.returns-then-not-is_lowered_by
returns-then-not-is_lowered_by g c =
    let seen = priced_faces g.W.FaceGraph g.F.PriceFn c.args.priced.now in
    let laws = are_faces g.W.FaceGraph g.F.PriceFn g.met.W.FaceGraph.lawful g.met.W.FaceGraph.has_names g.met.W.FaceGraph.has_faces c.args.priced.now in
    let heights = c.args.self.now.heights in
    let twin = c.across-twin.result in
    let at : slice_index (heights_over seen heights) twin ≡ slice_index heights c.args.crossing.beyond =
    of_face seen laws c.args.ends.now.v heights c.args.self.now.names.items c.requires.known.costs twin c.across-twin.ensures.name
    ∙ ap (slice_index heights) (sym (c.requires.beyond.beyond ∙ ap seen.face (sym c.across-twin.ensures.twin))) in
    let low : min (slice_index heights c.args.crossing.beyond) (reach_of c.args.least.now) ≤ c.args.crossing.height + 1 = grind arith in
    record {
      relaxes = no_step seen laws c.args.ends.now.v c.args.ends.now.other.now heights c.args.self.now.names.items
          c.args.self.now.waiting c.args.least.now c.args.crossing.dart c.requires.known.costs c.requires.known.sums;
      crossed = crossed_already seen.price seen.named (reach_of c.args.least.now) (heights_over seen heights) c.args.crossing.dart twin
          (c.requires.right.promise (name_some seen.named c.args.crossing.dart c.requires.in_hand.reached.0)) c.across-twin.ensures.twin (omega (arith, low));
      same = sym c.requires.in_hand.height;
    }
