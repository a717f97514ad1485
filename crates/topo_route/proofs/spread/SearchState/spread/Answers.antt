use Rattle.std.proofs.Common.{◌<◌, ◌^◌, ℕ, arith}
use Rattle.std.specs.Prelude.{min}
use Rattle.topo_route.specs.PricedFaces.{heights_over}
use Rattle.topo_route.specs.Settling.{reach_of, top_of}
use Rattle.topo_route.specs.Searches.{priced_faces}
use Rattle.topo_route.proofs.spreading.Shown.{are_faces}
use Rattle.topo_route.proofs.spreading.FaceHeights.{even_top}
use Rattle.topo_route.proofs.names.Names.{name_below}
use Rattle.topo_route.proofs.spreading.Relaxing.{taken_relaxes}
use Rattle.topo_route.proofs.spreading.Settled.{all_settled, taken_reached, waits_named}
use Rattle.topo_route.proofs.spread.SearchState.spread.Goals as goal

pub next_pending-requires : goal.next_pending-requires
next_pending-requires g c =
    let seen = priced_faces g.W.FaceGraph g.F.PriceFn c.args.priced.now in
    let now = c.loop-dart.self in
    record {
      one_each = c.loop-dart.invariant.spreads.costs.labelled.one_each;
      names = waits_named seen c.args.ends.now.v now.heights now.names.items now.waiting
          (top_of c.args.level (min c.args.most c.loop-dart.least) (heights_over seen c.args.ends.now.other.now)) (reach_of c.loop-dart.least) seen.named.size
          c.loop-dart.invariant.spreads;
    }

pub relax_face-requires-clause-in_hand : goal.relax_face-requires-clause-in_hand
relax_face-requires-clause-in_hand g c =
    let seen = priced_faces g.W.FaceGraph g.F.PriceFn c.args.priced.now in
    let laws = are_faces g.W.FaceGraph g.F.PriceFn g.met.W.FaceGraph.lawful g.met.W.FaceGraph.has_names g.met.W.FaceGraph.has_faces c.args.priced.now in
    let now = c.loop-dart.self in
    let short : c.in-Some.dart < 2 ^ 32 =
    omega (arith, c.size-darts.ensures, c.size-darts.type_inv, name_below seen.named laws.names c.in-Some.dart c.in-Some.ensures.taken.name) in
    record {
      reached = taken_reached seen c.args.ends.now.v now.heights now.names.items now.waiting (top_of c.args.level (min c.args.most c.loop-dart.least)
          (heights_over seen c.args.ends.now.other.now)) (reach_of c.loop-dart.least) seen.named.size c.in-Some.dart short
          c.loop-dart.invariant.spreads c.in-Some.ensures.taken.pending;
      height = c.in-Some.ensures.taken.height;
    }

pub loop-dart-preserved : goal.loop-dart-preserved
loop-dart-preserved g c =
    let seen = priced_faces g.W.FaceGraph g.F.PriceFn c.args.priced.now in
    let laws = are_faces g.W.FaceGraph g.F.PriceFn g.met.W.FaceGraph.lawful g.met.W.FaceGraph.has_names g.met.W.FaceGraph.has_faces c.args.priced.now in
    let small : seen.named.size < 2 ^ 32 = omega (arith, c.size-darts.ensures, c.size-darts.type_inv) in
    let relaxes = c.in_ok-relax_face.ensures in
    let short : c.in-Some.dart < 2 ^ 32 =
    omega (arith, c.size-darts.ensures, c.size-darts.type_inv, name_below seen.named laws.names c.in-Some.dart c.in-Some.ensures.taken.name) in
    let top = λ (least : ℕ). top_of c.args.level (min c.args.most least) (heights_over seen c.args.ends.now.other.now) in
    record {
      spreads = taken_relaxes seen laws c.args.ends.now.v c.args.ends.now.other.now (top c.loop-dart.least) (top c.relax_face.new.least) small
          (even_top laws.names seen.face c.args.ends.now.other.now c.args.level (min c.args.most c.loop-dart.least)) c.loop-dart.invariant.spreads c.in-Some.ensures.taken.name
          (λ k s l less. c.in-Some.ensures.taken.others k s l (omega (arith, c.min.ensures))) c.in-Some.ensures.left relaxes
          (λ k. omega (arith, relaxes.less));
      sums = relaxes.sums;
      less = omega (arith, relaxes.less, c.loop-dart.invariant.less);
      lower = λ k. omega (arith, relaxes.lower k, c.loop-dart.invariant.lower k);
    }

pub returns : goal.returns
returns g c =
    let seen = priced_faces g.W.FaceGraph g.F.PriceFn c.args.priced.now in
    let laws = are_faces g.W.FaceGraph g.F.PriceFn g.met.W.FaceGraph.lawful g.met.W.FaceGraph.has_names g.met.W.FaceGraph.has_faces c.args.priced.now in
    let now = c.loop-dart.self in
    let small : seen.named.size < 2 ^ 32 = omega (arith, c.size-darts.ensures, c.size-darts.type_inv) in
    let top = top_of c.args.level (min c.args.most c.loop-dart.least) (heights_over seen c.args.ends.now.other.now) in
    record {
      costs = c.loop-dart.invariant.spreads.costs;
      settled = all_settled seen c.args.ends.now.v now.heights now.names.items now.waiting laws.names small top (reach_of c.loop-dart.least)
          (even_top laws.names seen.face c.args.ends.now.other.now c.args.level (min c.args.most c.loop-dart.least))
          c.loop-dart.invariant.spreads (λ k s l less. c.in_default.ensures.taken k s l (omega (arith, c.min.ensures)));
      sums = c.loop-dart.invariant.sums;
      less = c.loop-dart.invariant.less;
      lower = c.loop-dart.invariant.lower;
    }
