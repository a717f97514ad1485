use Rattle.std.proofs.Common.{◌≡◌, List, ap, is_some, refl, sym, true, ℕ, ◌∙◌}
use Rattle.std.specs.Prelude.{slice_index_or}
use Rattle.topo_core.specs.Picture.{darts, edge_row}
use Rattle.topo_core.specs.Systems.{has_dart}
use Rattle.topo_core.proofs.Interface.{edge_of_dart}
use Rattle.topo_embedded.specs.Halves.{RowsWithPaths, by_way, half_in, path_of}
use Rattle.topo_embedded.specs.Parts.{with_paths}
use Rattle.topo_embedded.proofs.halves.KeptPaths.{has_path, path_known}
use Rattle.topo_embedded.proofs.halves.Numbers.{on_list}
use Rattle.topo_embedded.proofs.halves.Reading.{edge_there, path_read}
use Rattle.topo_embedded.proofs.embedded.Embedded.half_of.Goals as goal

pub unreachable-requires : goal.unreachable-requires
unreachable-requires c =
    let there : has_dart (darts c.self.inside.parts.rows) c.args.dart ≡ true =
    ap (λ (q : RowsWithPaths). has_dart (darts q.rows) c.args.dart) c.self.view_is ∙ c.requires in
    has_path c.self.inside.parts.rows c.self.inside.parts.paths c.number.result c.self.invariant.2.ids
    (ap (λ (e : ℕ). is_some (edge_row c.self.inside.parts.rows e)) c.number.ensures
    ∙ edge_of_dart c.self.inside.parts.rows c.self.invariant.0 c.args.dart there) (sym c.in-None.ensures)

pub at-requires : goal.at-requires
at-requires c =
    let p : RowsWithPaths = with_paths c.self.inside.parts in
    let there : has_dart (darts p.rows) c.args.dart ≡ true = ap (λ (q : RowsWithPaths). has_dart (darts q.rows) c.args.dart) c.self.view_is ∙ c.requires in
    let e = edge_there p.rows c.args.dart.edge (edge_of_dart p.rows c.self.invariant.0 c.args.dart there) in
    let path = path_read p c.self.inside.parts.segments c.self.invariant.1 c.args.dart.edge e c.in-Some.path.now
    (path_known p.rows c.self.inside.parts.paths c.number.result c.in-Some.path.now c.self.invariant.2.ids (sym c.in-Some.ensures)
    ∙ ap (path_of p) c.number.ensures) in
    on_list p c.self.invariant.0 c.self.inside.parts.segments c.self.invariant.1 c.args.dart there _ refl c.in-Some.path.now path

pub returns : goal.returns
returns c =
    let p : RowsWithPaths = with_paths c.self.inside.parts in
    c.led.ensures
    ∙ ap (λ (h : ℕ). by_way h c.args.dart.way) (c.at.ensures ∙ ap (λ (hs : List ℕ). slice_index_or hs c.args.dart.seg 0)
    (path_known p.rows c.self.inside.parts.paths c.number.result c.in-Some.path.now c.self.invariant.2.ids (sym c.in-Some.ensures)
    ∙ ap (path_of p) c.number.ensures))
    ∙ ap (λ (q : RowsWithPaths). half_in q c.args.dart) c.self.view_is
