use Rattle.std.proofs.Common.{◌≡◌, ◌∙◌, ◌++◌, ◌∷◌, [], ap, arith, List, map, subst, sym, true}
use Rattle.topo_core.specs.declared.darts.Dart.{Dart}
use Rattle.topo_core.specs.declared.rows.EdgeRow.{EdgeRow}
use Rattle.topo_core.specs.Items.{IsIn}
use Rattle.topo_table.specs.Places.{ids_of}
use Rattle.topo_table.proofs.Interface.{below_same}
use Rattle.topo_kept_rows.specs.Inserting.{crossed_by, paths_below}
use Rattle.topo_kept_rows.specs.Keeping.{edges_of}
use Rattle.topo_kept_rows.proofs.rows.CrossedRows.{on_err}
use Rattle.topo_kept_rows.proofs.rows.KeepingEdges.{edges_same}
use Rattle.topo_kept_rows.proofs.insertion.insert_lists.Goals as goal

pub cross-requires-clause-below : goal.cross-requires-clause-below
cross-requires-clause-below c = subst (λ (es : List EdgeRow). paths_below c.args.first es ≡ true)
    (sym (edges_same c.args.edges.now c.reserve.new.self c.reserve.ensures.same)) c.requires.below

pub cross-requires-clause-there : goal.cross-requires-clause-there
cross-requires-clause-there c = λ d row h k same.
    c.requires.there d row (subst (IsIn d) c.as_slice-darts.ensures h)
    (subst (IsIn row) (edges_same c.args.edges.now c.reserve.new.self c.reserve.ensures.same) k) same

pub put_edge-requires-clause-room : goal.put_edge-requires-clause-room
put_edge-requires-clause-room c = let room = c.cross.ensures.places.1 in let some = c.in_ok-reserve.ensures.ok in omega (arith, room, some)

pub put_edge-requires-clause-below : goal.put_edge-requires-clause-below
put_edge-requires-clause-below c = below_same c.args.row.id c.args.edges.now.slots c.cross.new.edges.slots
    (c.cross.ensures.places.0 ∙ ap ids_of c.reserve.ensures.same) c.requires.edges_below

pub returns-then-is_err-clause-edges_stay : goal.returns-then-is_err-clause-edges_stay
returns-then-is_err-clause-edges_stay c =
    let same = edges_same c.args.edges.now c.reserve.new.self c.reserve.ensures.same in
    c.uncross.ensures.edges (edges_of c.reserve.new.self) (subst (λ (es : List EdgeRow). paths_below c.args.first es ≡ true) (sym same) c.requires.below)
    c.in_ok-cross.ensures.ok ∙ same

pub returns-then-is_err-clause-edge_ids_stay : goal.returns-then-is_err-clause-edge_ids_stay
returns-then-is_err-clause-edge_ids_stay c = c.uncross.ensures.places.0 ∙ c.cross.ensures.places.0 ∙ ap ids_of c.reserve.ensures.same

pub returns-in_err-cross-clause-edges_stay : goal.returns-in_err-cross-clause-edges_stay
returns-in_err-cross-clause-edges_stay c = on_err c.from_residual-in_err-cross.result
    (c.in_err-cross.ensures.err ∙ edges_same c.args.edges.now c.reserve.new.self c.reserve.ensures.same)

pub returns-in_err-cross-clause-edge_ids_stay : goal.returns-in_err-cross-clause-edge_ids_stay
returns-in_err-cross-clause-edge_ids_stay c = on_err c.from_residual-in_err-cross.result (c.cross.ensures.places.0 ∙ ap ids_of c.reserve.ensures.same)

pub returns-clause-edges : goal.returns-clause-edges
returns-clause-edges c = c.put_edge.ensures.edges ∙ ap (λ (es : List EdgeRow). es ++ c.args.row ∷ []) (c.in_ok-cross.ensures.ok
    ∙ ap (λ (ds : List Dart). map (crossed_by c.args.first ds) (edges_of c.reserve.new.self)) c.as_slice-darts.ensures
    ∙ ap (map (crossed_by c.args.first c.args.route.now.crossed)) (edges_same c.args.edges.now c.reserve.new.self c.reserve.ensures.same))
