use Rattle.std.proofs.Common.{◌≡◌, ◌<◌, Some, ap, arith, refl, rules, subst, sym, true, ◌∙◌, ℕ, Option}
use Rattle.topo_core.specs.declared.rows.EdgeRow.{EdgeRow}
use Rattle.topo_core.specs.declared.rows.Rows.{Rows}
use Rattle.topo_core.specs.Picture.{IsDart, darts, edge_row, segment_count, system}
use Rattle.topo_core.specs.Systems.{has_dart}
use Rattle.topo_core.proofs.Interface.{is_dart_of_rows, listed_test}
use Rattle.topo_picture.specs.Faces.{IsFaceFrom}
use Rattle.topo_picture.proofs.DeletedPicture.{in_view}
use Rattle.topo_picture.proofs.picture.Picture.face.Goals as goal

pub face_from-requires-clause-there : goal.face_from-requires-clause-there
face_from-requires-clause-there c =
    let rows = c.self.inside.embedded.rows in
    let row : EdgeRow = c.in-Some.edge.now in
    let there : edge_row rows c.args.dart.edge ≡ Some row = search (rules, c.find_edge.ensures, c.number.ensures, c.in-Some.ensures) in
    let inside : c.args.dart.seg < segment_count row = omega (arith, c.if-dart-len.false) in
    listed_test rows c.self.invariant.lawful.embedding.well_formed.paths c.args.dart ∙ is_dart_of_rows rows c.args.dart (row, there, inside)

pub returns : goal.returns
returns c =
    let rows = c.self.inside.embedded.rows in
    let row : EdgeRow = c.in-Some.edge.now in
    let there : edge_row rows c.args.dart.edge ≡ Some row = search (rules, c.find_edge.ensures, c.number.ensures, c.in-Some.ensures) in
    let inside : c.args.dart.seg < segment_count row = omega (arith, c.if-dart-len.false) in
    in_view c.self.inside.limits rows c.args.self.now c.self.view_is (λ p. IsDart p c.args.dart × IsFaceFrom (system p) c.args.dart c.in_ok-found.found)
    ((row, there, inside), c.in_ok-found.ensures)
