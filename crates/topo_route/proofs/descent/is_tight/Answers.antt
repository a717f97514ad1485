use Rattle.std.proofs.Common.{◌≡◌, ap, arith, get_or}
use Rattle.std.proofs.lemmas.Bool.{false≢true, eqb-true, eq-eqb}
use Rattle.topo_core.proofs.Interface.{single_price}
use Rattle.topo_route.specs.PricedFaces.{heights_over}
use Rattle.topo_route.specs.Searches.{priced_faces}
use Rattle.topo_route.proofs.spreading.Shown.{are_faces}
use Rattle.topo_route.specs.Names.{dart_named, twin_name}
use Rattle.topo_route.proofs.meeting.Descending.{tight_drop, tight_is}
use Rattle.topo_route.proofs.names.Names.{height_named, name_some}
use Rattle.topo_route.proofs.descent.is_tight.Goals as goal

pub returns-in-Some : goal.returns-in-Some
returns-in-Some g c =
    let seen = priced_faces g.W.FaceGraph g.F.PriceFn c.args.priced.now in
    let laws = are_faces g.W.FaceGraph g.F.PriceFn g.met.W.FaceGraph.lawful g.met.W.FaceGraph.has_names g.met.W.FaceGraph.has_faces c.args.priced.now in
    let heights = heights_over seen c.args.heights.now in
    let other : get_or heights c.across-twin.result 0 ≡ get_or heights (twin_name seen.named c.args.dart) 0 =
    ap (λ k. get_or heights k 0) c.across-twin.ensures.twin in (
      λ w. let same = eqb-true _ _ w in tight_is seen.price seen.named laws.names heights c.args.dart c.in-Some.price c.requires.name c.in-Some.ensures.price (omega arith),
      λ tight. eq-eqb _ _ (let drop = tight_drop seen.price seen.named laws.names heights c.args.dart c.in-Some.price c.requires.name
          (λ q asked. single_price seen.price seen.named.rows c.in-Some.ensures.promise (dart_named seen.named c.args.dart) q c.in-Some.price asked c.in-Some.ensures.price)
          tight in omega arith),
    )

pub returns-then-height-other : goal.returns-then-height-other
returns-then-height-other g c =
    let seen = priced_faces g.W.FaceGraph g.F.PriceFn c.args.priced.now in
    let heights = heights_over seen c.args.heights.now in
    let promise = c.requires.has.right.promise (name_some seen.named c.args.dart c.requires.name) in
    grind (arith, false≢true, height_named)

pub returns-in-None : goal.returns-in-None
returns-in-None g c = (λ w. absurd (false≢true w), λ tight. absurd (c.in-None.ensures.price tight.cost tight.asked))
