use Rattle.std.proofs.Common.{◌<◌, ◌^◌, ℕ, arith}
use Rattle.topo_route.specs.Guided.{top_of_bound}
use Rattle.topo_route.specs.Potentials.{bound_by}
use Rattle.topo_route.specs.Settling.{reach_of}
use Rattle.topo_route.specs.Searches.{priced_faces}
use Rattle.topo_route.proofs.spreading.Shown.{are_faces}
use Rattle.topo_route.proofs.meeting.Bounds.{label_bound}
use Rattle.topo_route.proofs.names.Names.{name_below}
use Rattle.topo_route.proofs.spreading.Relaxing.{taken_relaxes}
use Rattle.topo_route.proofs.spreading.Settled.{all_settled, narrowed, taken_reached, waits_named}
use Rattle.topo_route.proofs.spread.SearchState.spread_toward.Goals as goal

pub next_toward-requires : goal.next_toward-requires
next_toward-requires g c =
    let seen = priced_faces g.W.FaceGraph g.F.PriceFn c.args.priced.now in
    let graph = c.args.priced.now.graph.now in
    let now = c.loop-dart.self in
    let bound_of = λ (f : ℕ). bound_by c.args.guide.now (g.W.FaceGraph.potentials graph f) in
    let bound = λ (j : ℕ). bound_of (seen.face j) in
    record {
      one_each = c.loop-dart.invariant.spreads.costs.labelled.one_each;
      names = waits_named seen c.args.v now.heights now.names.items now.waiting
          (top_of_bound bound c.loop-dart.least) (reach_of c.loop-dart.least) seen.named.size
          c.loop-dart.invariant.spreads;
    }

pub loop-dart-init : goal.loop-dart-init
loop-dart-init g c =
    let seen = priced_faces g.W.FaceGraph g.F.PriceFn c.args.priced.now in
    let graph = c.args.priced.now.graph.now in
    let bound = λ (j : ℕ). bound_by c.args.guide.now (g.W.FaceGraph.potentials graph (seen.face j)) in
    let now = c.args.self.now in
    record {
      spreads = narrowed seen c.args.v now.heights now.names.items now.waiting (λ k. reach_of c.args.least.now)
          (top_of_bound bound c.args.least.now) (reach_of c.args.least.now) (reach_of c.args.least.now) seen.named.size c.requires.spreads
          (λ k. omega arith) (omega arith);
      sums = c.requires.sums;
      less = omega arith;
      lower = λ k. omega arith;
    }

pub relax_face-requires-clause-in_hand : goal.relax_face-requires-clause-in_hand
relax_face-requires-clause-in_hand g c =
    let seen = priced_faces g.W.FaceGraph g.F.PriceFn c.args.priced.now in
    let laws = are_faces g.W.FaceGraph g.F.PriceFn g.met.W.FaceGraph.lawful g.met.W.FaceGraph.has_names g.met.W.FaceGraph.has_faces c.args.priced.now in
    let graph = c.args.priced.now.graph.now in
    let now = c.loop-dart.self in
    let bound_of = λ (f : ℕ). bound_by c.args.guide.now (g.W.FaceGraph.potentials graph f) in
    let bound = λ (j : ℕ). bound_of (seen.face j) in
    let short : c.in-Some.dart < 2 ^ 32 =
    omega (arith, c.size-darts.ensures, c.size-darts.type_inv, name_below seen.named laws.names c.in-Some.dart c.in-Some.ensures.taken.name) in
    record {
      reached = taken_reached seen c.args.v now.heights now.names.items now.waiting (top_of_bound bound c.loop-dart.least)
          (reach_of c.loop-dart.least) seen.named.size c.in-Some.dart short
          c.loop-dart.invariant.spreads c.in-Some.ensures.taken.pending;
      height = c.in-Some.ensures.taken.height;
    }

pub loop-dart-preserved : goal.loop-dart-preserved
loop-dart-preserved g c =
    let seen = priced_faces g.W.FaceGraph g.F.PriceFn c.args.priced.now in
    let laws = are_faces g.W.FaceGraph g.F.PriceFn g.met.W.FaceGraph.lawful g.met.W.FaceGraph.has_names g.met.W.FaceGraph.has_faces c.args.priced.now in
    let graph = c.args.priced.now.graph.now in
    let bound_of = λ (f : ℕ). bound_by c.args.guide.now (g.W.FaceGraph.potentials graph f) in
    let bound = λ (j : ℕ). bound_of (seen.face j) in
    let small : seen.named.size < 2 ^ 32 = omega (arith, c.size-darts.ensures, c.size-darts.type_inv) in
    let relaxes = c.in_ok-relax_face.ensures in
    let short : c.in-Some.dart < 2 ^ 32 =
    omega (arith, c.size-darts.ensures, c.size-darts.type_inv, name_below seen.named laws.names c.in-Some.dart c.in-Some.ensures.taken.name) in
    let top = top_of_bound bound in
    record {
      spreads = taken_relaxes seen laws c.args.v c.args.other.now (top c.loop-dart.least) (top c.relax_face.new.least) small
          (λ j k lj lk e. label_bound seen.face bound_of c.loop-dart.least j k e) c.loop-dart.invariant.spreads c.in-Some.ensures.taken.name
          (λ k s l less. c.in-Some.ensures.taken.others k s l less) c.in-Some.ensures.left relaxes
          (λ k. omega (arith, relaxes.less));
      sums = relaxes.sums;
      less = omega (arith, relaxes.less, c.loop-dart.invariant.less);
      lower = λ k. omega (arith, relaxes.lower k, c.loop-dart.invariant.lower k);
    }

pub returns : goal.returns
returns g c =
    let seen = priced_faces g.W.FaceGraph g.F.PriceFn c.args.priced.now in
    let laws = are_faces g.W.FaceGraph g.F.PriceFn g.met.W.FaceGraph.lawful g.met.W.FaceGraph.has_names g.met.W.FaceGraph.has_faces c.args.priced.now in
    let graph = c.args.priced.now.graph.now in
    let now = c.loop-dart.self in
    let bound_of = λ (f : ℕ). bound_by c.args.guide.now (g.W.FaceGraph.potentials graph f) in
    let bound = λ (j : ℕ). bound_of (seen.face j) in
    let small : seen.named.size < 2 ^ 32 = omega (arith, c.size-darts.ensures, c.size-darts.type_inv) in
    let top = top_of_bound bound c.loop-dart.least in
    record {
      costs = c.loop-dart.invariant.spreads.costs;
      settled = all_settled seen c.args.v now.heights now.names.items now.waiting laws.names small top (reach_of c.loop-dart.least)
          (λ j k lj lk e. label_bound seen.face bound_of c.loop-dart.least j k e)
          c.loop-dart.invariant.spreads (λ k s l less. c.in_default.ensures.taken k s l less);
      sums = c.loop-dart.invariant.sums;
      less = c.loop-dart.invariant.less;
      lower = c.loop-dart.invariant.lower;
    }
