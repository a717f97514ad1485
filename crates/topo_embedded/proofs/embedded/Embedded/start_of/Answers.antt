use Rattle.std.proofs.Common.{◌≡◌, ◌+◌, ◌≤◌, ◌∙◌, ap, length, subst, sym, true, ℕ}
use Rattle.std.specs.Prelude.{is_some, slice_index_or}
use Rattle.std.proofs.lemmas.Bool.{false≢true}
use Rattle.topo_core.specs.declared.darts.Dart.{Dart}
use Rattle.topo_core.specs.declared.darts.Point.TheVariants.{Vertex}
use Rattle.topo_core.specs.Picture.{darts, edge_row, points_of, start, start_place}
use Rattle.topo_core.specs.Systems.{has_dart}
use Rattle.topo_core.proofs.Interface.{edge_of_dart}
use Rattle.topo_embedded.specs.Halves.{RowsWithPaths}
use Rattle.topo_embedded.specs.Parts.{with_paths}
use Rattle.topo_embedded.proofs.halves.FoundHalves.{start_inside, start_told}
use Rattle.topo_embedded.proofs.halves.Reading.{edge_found, edge_there}
use Rattle.topo_embedded.proofs.embedded.Embedded.start_of.Goals as goal

pub unreachable-requires : goal.unreachable-requires
unreachable-requires c =
    let p : RowsWithPaths = with_paths c.self.inside.parts in
    let there : has_dart (darts p.rows) c.requires.dart ≡ true = ap (λ (q : RowsWithPaths). has_dart (darts q.rows) c.requires.dart) c.self.view_is
    ∙ c.requires.there in
    let is : c.dart_of-dart.result ≡ c.requires.dart = c.dart_of-dart.ensures c.requires.dart c.requires.there c.requires.is in
    false≢true (ap is_some c.in-None.ensures
    ∙ ap (λ (e : ℕ). is_some (edge_row p.rows e)) (c.number.ensures ∙ ap (λ (d : Dart). d.edge) is)
    ∙ edge_of_dart p.rows c.self.invariant.0 c.requires.dart there)

pub point_on-requires : goal.point_on-requires
point_on-requires c =
    let p : RowsWithPaths = with_paths c.self.inside.parts in
    let there : has_dart (darts p.rows) c.requires.dart ≡ true = ap (λ (q : RowsWithPaths). has_dart (darts q.rows) c.requires.dart) c.self.view_is
    ∙ c.requires.there in
    let is : c.dart_of-dart.result ≡ c.requires.dart = c.dart_of-dart.ensures c.requires.dart c.requires.there c.requires.is in
    let found = sym c.in-Some.ensures in
    let e = edge_there p.rows c.number.result (ap is_some found) in
    let row = edge_found p.rows c.number.result _ e.row c.in-Some.edge.now e.read found in
    let inside = start_inside p.rows c.number.result _ e.row c.in-Some.edge.now e.read row
    c.requires.dart (c.number.ensures ∙ ap (λ (d : Dart). d.edge) is) c.self.invariant.0 there in
    subst (λ (n : ℕ). n ≤ length c.in-Some.edge.now.crossings + 1)
    (sym (c.place_of_start.ensures ∙ ap (λ (d : Dart). start_place d.seg d.way) is)) inside

pub returns : goal.returns
returns c =
    let p : RowsWithPaths = with_paths c.self.inside.parts in
    let found = sym c.in-Some.ensures in
    let e = edge_there p.rows c.number.result (ap is_some found) in
    let read = c.in-Some.edge.now in
    let row = edge_found p.rows c.number.result _ e.row read e.read found in
    λ d h is.
    let same : c.dart_of-dart.result ≡ d = c.dart_of-dart.ensures d h is in
    let place = ap (λ (n : ℕ). slice_index_or (points_of read) n (Vertex 0)) c.place_of_start.ensures in
    start_told p.rows c.number.result _ e.row read e.read row d
    (c.number.ensures ∙ ap (λ (x : Dart). x.edge) same) c.point_on.result
    (c.point_on.ensures ∙ place ∙ ap (λ (x : Dart). slice_index_or (points_of read) (start_place x.seg x.way) (Vertex 0)) same)
    ∙ ap (λ (q : RowsWithPaths). start q.rows d) c.self.view_is
