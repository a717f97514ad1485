use Rattle.std.proofs.Common.{◌<◌, ◌^◌, arith, refl}
use Rattle.topo_route.specs.Settling.{reach_of}
use Rattle.topo_route.specs.Searches.{priced_faces}
use Rattle.topo_route.proofs.spreading.Shown.{are_faces}
use Rattle.topo_route.proofs.names.Names.{name_below}
use Rattle.topo_route.proofs.spreading.Relaxing.{taken_relaxes}
use Rattle.topo_route.proofs.spreading.Settled.{emptied, taken_reached, waits_named}
use Rattle.topo_route.proofs.spread.SearchState.spread_next.Goals as goal

pub next_pending-requires : goal.next_pending-requires
next_pending-requires g c =
    let seen = priced_faces g.W.FaceGraph g.F.PriceFn c.args.priced.now in
    let now = c.args.self.now in
    record {
      one_each = c.requires.spreads.costs.labelled.one_each;
      names = waits_named seen c.args.v now.heights now.names.items now.waiting (λ k. reach_of c.args.least.now)
          (reach_of c.args.least.now) seen.named.size c.requires.spreads;
    }

pub relax_face-requires-clause-in_hand : goal.relax_face-requires-clause-in_hand
relax_face-requires-clause-in_hand g c =
    let seen = priced_faces g.W.FaceGraph g.F.PriceFn c.args.priced.now in
    let laws = are_faces g.W.FaceGraph g.F.PriceFn g.met.W.FaceGraph.lawful g.met.W.FaceGraph.has_names g.met.W.FaceGraph.has_faces c.args.priced.now in
    let now = c.args.self.now in
    let short : c.in-Some.dart < 2 ^ 32 =
    omega (arith, c.size-darts.ensures, c.size-darts.type_inv, name_below seen.named laws.names c.in-Some.dart c.in-Some.ensures.taken.name) in
    record {
      reached = taken_reached seen c.args.v now.heights now.names.items now.waiting (λ k. reach_of c.args.least.now)
          (reach_of c.args.least.now) seen.named.size c.in-Some.dart short c.requires.spreads c.in-Some.ensures.taken.pending;
      height = c.in-Some.ensures.taken.height;
    }

pub returns-in_ok-relax_face-in-Some-clause-goes_on : goal.returns-in_ok-relax_face-in-Some-clause-goes_on
returns-in_ok-relax_face-in-Some-clause-goes_on g c =
    let seen = priced_faces g.W.FaceGraph g.F.PriceFn c.args.priced.now in
    let laws = are_faces g.W.FaceGraph g.F.PriceFn g.met.W.FaceGraph.lawful g.met.W.FaceGraph.has_names g.met.W.FaceGraph.has_faces c.args.priced.now in
    let small : seen.named.size < 2 ^ 32 = omega (arith, c.size-darts.ensures, c.size-darts.type_inv) in
    let short : c.in-Some.dart < 2 ^ 32 =
    omega (arith, c.size-darts.ensures, c.size-darts.type_inv, name_below seen.named laws.names c.in-Some.dart c.in-Some.ensures.taken.name) in
    let relaxes = c.in_ok-relax_face-in-Some.ensures in
    record {
      spreads = taken_relaxes seen laws c.args.v c.args.other.now (λ k. reach_of c.args.least.now)
          (λ k. reach_of c.relax_face.new.least) small (λ j k lj lk e. refl) c.requires.spreads c.in-Some.ensures.taken.name
          (λ k s l less. c.in-Some.ensures.taken.others k s l (omega (arith, c.saturating_add-reach.ensures))) c.in-Some.ensures.left relaxes
          (λ k. omega (arith, relaxes.less));
      sums = relaxes.sums;
      less = relaxes.less;
      lower = relaxes.lower;
    }

pub returns-in-None-clause-goes_on : goal.returns-in-None-clause-goes_on
returns-in-None-clause-goes_on g c =
    let seen = priced_faces g.W.FaceGraph g.F.PriceFn c.args.priced.now in
    let laws = are_faces g.W.FaceGraph g.F.PriceFn g.met.W.FaceGraph.lawful g.met.W.FaceGraph.has_names g.met.W.FaceGraph.has_faces c.args.priced.now in
    let now = c.args.self.now in
    let small : seen.named.size < 2 ^ 32 = omega (arith, c.size-darts.ensures, c.size-darts.type_inv) in
    record {
      spreads = emptied seen c.args.v now.heights now.names.items now.waiting laws.names small (λ k. reach_of c.args.least.now) (reach_of c.args.least.now)
          (λ j k lj lk e. refl) c.requires.spreads
          c.next_pending.new.waiting (λ k s l less. c.in-None.ensures.taken k s l (omega (arith, c.saturating_add-reach.ensures))) c.in-None.ensures.left;
      sums = c.requires.sums;
      less = omega arith;
      lower = λ k. omega arith;
    }
