use Rattle.std.proofs.Common.{◌∙◌, subst, sym}
use Rattle.topo_route.specs.PricedFaces.{heights_over}
use Rattle.topo_route.specs.Searches.{priced_faces}
use Rattle.topo_route.proofs.spreading.Shown.{are_faces}
use Rattle.topo_route.specs.Descents.{IsDescent}
use Rattle.topo_route.proofs.meeting.Descending.{has_end, is_first, start_below}
use Rattle.topo_route.proofs.names.Names.{height_named}
use Rattle.topo_route.proofs.search.route_by_heights.Goals as goal

pub descend-requires : goal.descend-requires
descend-requires g c =
    let seen = priced_faces g.W.FaceGraph g.F.PriceFn c.args.priced.now in
    let laws = are_faces g.W.FaceGraph g.F.PriceFn g.met.W.FaceGraph.lawful g.met.W.FaceGraph.has_names g.met.W.FaceGraph.has_faces c.args.priced.now in
    let known = c.requires.known in
    let start = c.in-Some.ensures in
    record {
      has = c.requires.has;
      name = start.name;
      known = record {
        top = known.top;
        known = known.known;
        below = start_below seen.price seen.named laws.lawful laws.names c.args.v known.top (heights_over seen c.args.heights.now) known.known c.args.u c.in-Some.start c.in-Some.from start
            (known.start c.in-Some.start c.in-Some.from start);
      };
    }

pub unreachable-requires : goal.unreachable-requires
unreachable-requires g c =
    let seen = priced_faces g.W.FaceGraph g.F.PriceFn c.args.priced.now in
    let laws = are_faces g.W.FaceGraph g.F.PriceFn g.met.W.FaceGraph.lawful g.met.W.FaceGraph.has_names g.met.W.FaceGraph.has_faces c.args.priced.now in
    let heights = heights_over seen c.args.heights.now in
    let known = c.requires.known in
    let start = c.in-Some.ensures in
    has_end seen.price seen.named laws.lawful laws.names c.args.v known.top heights known.known (c.requires.has.right.promise c.requires.some)
    c.in-Some.from c.in_ok-crossed-in-Some.last c.in_ok-crossed-in-Some.crossed.items start.name
    (start_below seen.price seen.named laws.lawful laws.names c.args.v known.top heights known.known c.args.u c.in-Some.start c.in-Some.from start
    (known.start c.in-Some.start c.in-Some.from start))
    c.in_ok-crossed-in-Some.ensures c.in-None-end_corner.ensures

pub returns-in-Some-end_corner : goal.returns-in-Some-end_corner
returns-in-Some-end_corner g c =
    let seen = priced_faces g.W.FaceGraph g.F.PriceFn c.args.priced.now in
    let laws = are_faces g.W.FaceGraph g.F.PriceFn g.met.W.FaceGraph.lawful g.met.W.FaceGraph.has_names g.met.W.FaceGraph.has_faces c.args.priced.now in
    let heights = heights_over seen c.args.heights.now in
    let known = c.requires.known in
    let start = c.in-Some.ensures in
    let descent = c.in_ok-crossed-in-Some.ensures in
    let here = height_named seen.named laws.names heights c.in-Some.from start.name in
    is_first seen.price seen.named laws.lawful laws.names c.args.v known.top heights known.known (c.requires.has.right.promise c.requires.some)
    c.args.u _ c.in-Some.from c.in_ok-crossed-in-Some.last
    start (c.height_at-price.ensures ∙ sym here) (known.start c.in-Some.start c.in-Some.from start)
    (subst (λ xs. IsDescent seen.price seen.named heights c.in-Some.from xs c.in_ok-crossed-in-Some.last) (sym c.from_vec.ensures) descent)
    c.in-Some-end_corner.ensures

pub returns-in-None : goal.returns-in-None
returns-in-None g c = c.requires.known.none c.in-None.ensures
