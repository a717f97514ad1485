use Rattle.topo_rows.proofs.Filling.{of_others, placed_on_crossed, placed_on_newcomer}
use Rattle.topo_rows.proofs.flat.note_place.Goals as goal

pub returns-then-e-crossings : goal.returns-then-e-crossings
returns-then-e-crossings c =
    placed_on_crossed c.args.crossings.now c.args.e c.args.x c.place_of_crossing-place.result _ c.place_of_crossing-place.ensures c.if-e-crossings.true

pub returns-then-e-crossings-2 : goal.returns-then-e-crossings-2
returns-then-e-crossings-2 c =
    placed_on_newcomer c.args.crossings.now c.args.e c.args.x c.place_of_crossing-place.result _ c.place_of_crossing-place.ensures c.if-e-crossings.false
    c.if-e-crossings-2.true

pub returns-else-e-crossings-2 : goal.returns-else-e-crossings-2
returns-else-e-crossings-2 c =
    of_others c.args.crossings.now c.args.e c.args.x c.place_of_crossing-place.result _ c.place_of_crossing-place.ensures c.if-e-crossings.false
    c.if-e-crossings-2.false
