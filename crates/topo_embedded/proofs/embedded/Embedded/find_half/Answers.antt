use Rattle.std.proofs.Common.{◌≡◌, ◌<◌, ◌≤◌, ◌∙◌, ap, arith, length, None, Some, subst, sym}
use Rattle.std.specs.Prelude.{if◌then◌else◌, is_some}
use Rattle.topo_core.specs.Picture.{darts, edge_row}
use Rattle.topo_core.specs.Systems.{has_dart}
use Rattle.topo_embedded.specs.Halves.{RowsWithPaths, half_in}
use Rattle.topo_embedded.specs.Parts.{with_paths}
use Rattle.topo_embedded.proofs.halves.FoundHalves.{found_half, found_past, found_there, hidden, no_dart, shown}
use Rattle.topo_embedded.proofs.halves.KeptPaths.{known_edge, no_path, path_known}
use Rattle.topo_embedded.proofs.halves.Reading.{edge_there, path_read}
use Rattle.topo_embedded.proofs.embedded.Embedded.find_half.Goals as goal

pub returns-in_err-path : goal.returns-in_err-path
returns-in_err-path c =
    let p : RowsWithPaths = with_paths c.self.inside.parts in
    let none : edge_row p.rows c.args.dart.edge ≡ None =
    ap (edge_row p.rows) (sym c.number.ensures)
    ∙ no_path p.rows c.self.inside.parts.paths c.number.result c.self.invariant.2.ids (sym c.in_err-path.ensures) in
    subst (λ (q : RowsWithPaths). c.from_residual.result ≡ (if has_dart (darts q.rows) c.args.dart then Some (half_in q c.args.dart) else None)) c.self.view_is
    (c.from_residual.ensures ∙ hidden _ _ (no_dart p.rows c.self.invariant.0.paths c.args.dart none))

pub returns-then-seg-len : goal.returns-then-seg-len
returns-then-seg-len c =
    let p : RowsWithPaths = with_paths c.self.inside.parts in
    let e = edge_there p.rows c.number.result (sym (known_edge p.rows c.self.inside.parts.paths c.number.result c.self.invariant.2.ids)
    ∙ ap is_some (sym c.in_ok-path.ensures)) in
    let path = path_read p c.self.inside.parts.segments c.self.invariant.1 c.number.result e c.in_ok-path.path.now
    (path_known p.rows c.self.inside.parts.paths c.number.result c.in_ok-path.path.now c.self.invariant.2.ids (sym c.in_ok-path.ensures)) in
    let less : c.args.dart.seg < length c.in_ok-path.path.now = (let test = c.if-seg-len.true in let many = c.len.ensures.len in omega arith) in
    subst (λ (q : RowsWithPaths). Some c.led.result ≡ (if has_dart (darts q.rows) c.args.dart then Some (half_in q c.args.dart) else None)) c.self.view_is
    (shown _ _ _
    (found_there p c.self.invariant.0 c.self.inside.parts.segments c.self.invariant.1 c.number.result _ e.row e.read
    c.in_ok-path.path.now path c.args.dart c.number.ensures less)
    (c.led.ensures ∙ found_half p c.self.invariant.0 c.self.inside.parts.segments c.self.invariant.1 c.number.result _
    e.row e.read c.in_ok-path.path.now path c.args.dart c.number.ensures c.at.result c.at.ensures))

pub returns-else-seg-len : goal.returns-else-seg-len
returns-else-seg-len c =
    let p : RowsWithPaths = with_paths c.self.inside.parts in
    let e = edge_there p.rows c.number.result (sym (known_edge p.rows c.self.inside.parts.paths c.number.result c.self.invariant.2.ids)
    ∙ ap is_some (sym c.in_ok-path.ensures)) in
    let path = path_read p c.self.inside.parts.segments c.self.invariant.1 c.number.result e c.in_ok-path.path.now
    (path_known p.rows c.self.inside.parts.paths c.number.result c.in_ok-path.path.now c.self.invariant.2.ids (sym c.in_ok-path.ensures)) in
    let past : length c.in_ok-path.path.now ≤ c.args.dart.seg = (let test = c.if-seg-len.false in let many = c.len.ensures.len in omega arith) in
    subst (λ (q : RowsWithPaths). None ≡ (if has_dart (darts q.rows) c.args.dart then Some (half_in q c.args.dart) else None)) c.self.view_is
    (hidden _ _ (found_past p c.self.invariant.0 c.self.inside.parts.segments c.self.invariant.1 c.number.result _ e.row
    e.read c.in_ok-path.path.now path c.args.dart c.number.ensures past))
