use Rattle.std.proofs.Common.{◌≡◌, ℕ, ap, arith, subst, sym, true, ◌∙◌}
use Rattle.std.specs.Prelude.{is_some}
use Rattle.topo_core.specs.declared.darts.Dart.{Dart}
use Rattle.topo_core.specs.declared.darts.Way.{Way}
use Rattle.topo_core.specs.Picture.{darts, edge_row}
use Rattle.topo_core.specs.Systems.{has_dart}
use Rattle.topo_core.proofs.Interface.{edge_of_dart}
use Rattle.topo_map.proofs.Interface.{limit-is}
use Rattle.topo_embedded.specs.Halves.{RowsWithPaths, IsHalf, half_in, path_of}
use Rattle.topo_embedded.specs.Parts.{with_paths}
use Rattle.topo_embedded.proofs.halves.Apart.{darts_limited, label_is}
use Rattle.topo_embedded.proofs.halves.Numbers.{half_alive}
use Rattle.topo_embedded.proofs.halves.Reading.{dart_read, edge_there, half_on_list, list_few, path_read}
use Rattle.topo_embedded.proofs.embedded.Embedded.dart_of.Goals as goal

pub edge-label-requires : goal.edge-label-requires
edge-label-requires c = grind (arith, half_alive)

pub path-requires : goal.path-requires
path-requires c =
    let p : RowsWithPaths = with_paths c.self.inside.parts in
    let half = subst (λ (q : RowsWithPaths). IsHalf q c.args.half) (sym c.self.view_is) c.requires in
    sym (ap (λ (q : RowsWithPaths). is_some (edge_row q.rows c.edge-label.result)) c.self.view_is)
    ∙ ap (λ e. is_some (edge_row p.rows e)) (label_is p c.self.invariant.0 c.self.inside.parts.segments c.self.invariant.1 half.dart half.there c.args.half
    half.is c.edge-label.result c.edge-label.ensures)
    ∙ edge_of_dart p.rows c.self.invariant.0 half.dart half.there

pub place_on_path-seg-requires-clause-there : goal.place_on_path-seg-requires-clause-there
place_on_path-seg-requires-clause-there c =
    let p : RowsWithPaths = with_paths c.self.inside.parts in
    let half = subst (λ (q : RowsWithPaths). IsHalf q c.args.half) (sym c.self.view_is) c.requires in
    let e = edge_there p.rows c.edge-label.result (ap (λ e. is_some (edge_row p.rows e)) (label_is p c.self.invariant.0 c.self.inside.parts.segments
    c.self.invariant.1 half.dart half.there c.args.half half.is c.edge-label.result c.edge-label.ensures)
    ∙ edge_of_dart p.rows c.self.invariant.0 half.dart half.there) in
    let path = path_read p c.self.inside.parts.segments c.self.invariant.1 c.edge-label.result e c.path.result.now
    (c.path.ensures ∙ ap (λ (q : RowsWithPaths). path_of q c.edge-label.result) (sym c.self.view_is)) in
    half_on_list p c.self.invariant.0 c.self.inside.parts.segments c.self.invariant.1 c.edge-label.result _ e.row e.read c.path.result.now path
    half.dart half.there c.args.half half.is (label_is p c.self.invariant.0 c.self.inside.parts.segments c.self.invariant.1 half.dart half.there c.args.half
    half.is c.edge-label.result c.edge-label.ensures)

pub place_on_path-seg-requires-clause-few : goal.place_on_path-seg-requires-clause-few
place_on_path-seg-requires-clause-few c =
    let p : RowsWithPaths = with_paths c.self.inside.parts in
    let half = subst (λ (q : RowsWithPaths). IsHalf q c.args.half) (sym c.self.view_is) c.requires in
    let e = edge_there p.rows c.edge-label.result (ap (λ e. is_some (edge_row p.rows e)) (label_is p c.self.invariant.0 c.self.inside.parts.segments
    c.self.invariant.1 half.dart half.there c.args.half half.is c.edge-label.result c.edge-label.ensures)
    ∙ edge_of_dart p.rows c.self.invariant.0 half.dart half.there) in
    let path = path_read p c.self.inside.parts.segments c.self.invariant.1 c.edge-label.result e c.path.result.now
    (c.path.ensures ∙ ap (λ (q : RowsWithPaths). path_of q c.edge-label.result) (sym c.self.view_is)) in
    let few = list_few p c.self.invariant.0 c.self.inside.parts.segments c.self.invariant.1 c.edge-label.result _ e.row e.read c.path.result.now path in
    let all = darts_limited p c.self.invariant.0 c.self.inside.parts.segments c.self.invariant.1 in
    let limit = limit-is in omega arith

pub returns : goal.returns
returns c =
    let p : RowsWithPaths = with_paths c.self.inside.parts in
    let half = subst (λ (q : RowsWithPaths). IsHalf q c.args.half) (sym c.self.view_is) c.requires in
    let half = subst (λ (q : RowsWithPaths). IsHalf q c.args.half) (sym c.self.view_is) c.requires in
    let e = edge_there p.rows c.edge-label.result (ap (λ e. is_some (edge_row p.rows e)) (label_is p c.self.invariant.0 c.self.inside.parts.segments
    c.self.invariant.1 half.dart half.there c.args.half half.is c.edge-label.result c.edge-label.ensures)
    ∙ edge_of_dart p.rows c.self.invariant.0 half.dart half.there) in
    let path = path_read p c.self.inside.parts.segments c.self.invariant.1 c.edge-label.result e c.path.result.now
    (c.path.ensures ∙ ap (λ (q : RowsWithPaths). path_of q c.edge-label.result) (sym c.self.view_is)) in
    let seg : ℕ = c.place_on_path-seg.result.0 in
    let way : Way = c.place_on_path-seg.result.1 in
    subst (λ (q : RowsWithPaths). (d : Dart) → has_dart (darts q.rows) d ≡ true → half_in q d ≡ c.args.half
    → record { edge = c.new-edge.result; seg = seg; way = way } ≡ d) c.self.view_is
    (λ d h is.
    ap (λ (e : ℕ). record { edge = e; seg = seg; way = way }) c.new-edge.ensures
    ∙ dart_read p c.self.invariant.0 c.self.inside.parts.segments c.self.invariant.1 c.edge-label.result _ e.row e.read c.path.result.now path
    d h c.args.half is (label_is p c.self.invariant.0 c.self.inside.parts.segments c.self.invariant.1 d h c.args.half is c.edge-label.result
    c.edge-label.ensures) seg way c.place_on_path-seg.ensures.within c.place_on_path-seg.ensures.found)
