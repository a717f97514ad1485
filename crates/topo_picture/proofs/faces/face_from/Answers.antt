use Rattle.std.proofs.Common.{◌≡◌, ap, refl, rules, subst, sym, true, ◌∙◌, ◌∷◌, [], List, ◌≢◌}
use Rattle.topo_core.specs.declared.darts.Dart.{Dart}
use Rattle.topo_core.specs.Cycles.{after}
use Rattle.topo_core.specs.Picture.{system}
use Rattle.topo_core.specs.Systems.{face_step}
use Rattle.topo_embedded.specs.Halves.{half_in}
use Rattle.std.proofs.Common.{length}
use Rattle.topo_picture.specs.Faces.{IsFaceFrom}
use Rattle.topo_picture.proofs.FaceWalks.{IsWalked, begins, closes, goes_on}
use Rattle.topo_picture.proofs.faces.face_from.Goals as goal

pub loop-init : goal.loop-init
loop-init c =
    let p = c.args.embedded.now in
    let next = c.face_next-half.ensures c.args.dart.now c.requires.there (sym c.half_of-first.ensures) in
    subst (λ (ds : List Dart). IsWalked p.rows (half_in p) c.args.dart.now ds c.face_next-half.result) (sym c.in_ok-found.ensures)
    (begins p.rows c.requires.lawful (half_in p) c.args.dart.now c.requires.there c.face_next-half.result (sym next))

pub returns-then-eq : goal.returns-then-eq
returns-then-eq c =
    let p = c.args.embedded.now in
    let again : c.loop.half ≡ half_in p c.args.dart.now = search (rules, c.half_of-first.ensures) in
    let whole : IsFaceFrom (system p.rows) c.args.dart.now c.loop.found.items =
    closes p.rows c.requires.lawful (half_in p) c.args.dart.now c.size.ensures.named.apart c.requires.there c.loop.found.items c.loop.half c.loop.invariant again in
    search (rules, whole)

pub loop-preserved : goal.loop-preserved
loop-preserved c =
    let p = c.args.embedded.now in
    let was = c.loop.invariant in
    let d : Dart = after (face_step (system p.rows)) (length c.loop.found.items) c.args.dart.now in
    let other : c.loop.half ≢ half_in p c.args.dart.now = search (rules, c.half_of-first.ensures) in
    let is : c.dart_of-next.result ≡ d = c.dart_of-next.ensures d was.there was.at in
    let next = c.face_next-half-in-loop.ensures d was.there was.at in
    let on = goes_on p.rows c.requires.lawful (half_in p) c.args.dart.now c.loop.found.items c.loop.half was other c.dart_of-next.result is
    c.face_next-half-in-loop.result next in
    search (rules, on)
