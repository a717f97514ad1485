use Rattle.std.proofs.Common.{◌≡◌, ◌<◌, ◌∙◌, ◌++◌, ◌∷◌, [], List, ℕ, ap, arith, length, sym, take}
use Rattle.std.proofs.lemmas.List.{take_all, take_more}
use Rattle.topo_core.specs.Picture.{darts}
use Rattle.topo_route.specs.FaceHeights.{dart_heights}
use Rattle.topo_route.specs.Names.{Named}
use Rattle.topo_route.proofs.names.Canonical.{number_is}
use Rattle.topo_route.proofs.spreading.FaceHeights.{one_for_each}
use Rattle.topo_route.proofs.search.numbers_of.Goals as goal

pub height_at-requires-clause-name : goal.height_at-requires-clause-name
height_at-requires-clause-name g c =
    let dual = c.args.dual.now in
    number_is (g.D.FaceGraph.named dual) (g.D.Dual.shows dual) (g.met.D.Dual.numbered dual)
    (g.met.D.FaceGraph.lawful dual) c.loop-dart.dart (omega (arith, c.dart_count-darts.ensures))

pub loop-dart-preserved : goal.loop-dart-preserved
loop-dart-preserved g c =
    let dual = c.args.dual.now in
    let named = g.D.FaceGraph.named dual in
    let face = g.D.FaceGraph.face_of dual in
    let numbers = dart_heights named face c.args.heights.now in
    let i = c.loop-dart.dart in
    let size : named.size ≡ length (darts (g.D.Dual.shows dual)) = ap (λ (n : Named). n.size) (g.met.D.Dual.numbered dual) in
    let within : i < length numbers = omega (arith, one_for_each named face c.args.heights.now, c.dart_count-darts.ensures) in
    c.in_ok-push.ensures.items ∙ ap (λ (xs : List ℕ). xs ++ c.height_at.result ∷ []) c.loop-dart.invariant
    ∙ ap (λ (h : ℕ). take i numbers ++ h ∷ []) c.height_at.ensures ∙ sym (take_more numbers i 0 within)

pub returns : goal.returns
returns g c =
    let dual = c.args.dual.now in
    let named = g.D.FaceGraph.named dual in
    let face = g.D.FaceGraph.face_of dual in
    let numbers = dart_heights named face c.args.heights.now in
    let size : named.size ≡ length (darts (g.D.Dual.shows dual)) = ap (λ (n : Named). n.size) (g.met.D.Dual.numbered dual) in
    c.loop-dart.invariant ∙ take_all c.loop-dart.dart numbers (omega (arith, one_for_each named face c.args.heights.now, c.dart_count-darts.ensures))
