use Rattle.std.proofs.Common.{◌≡◌, ◌<◌, Some, true, arith, is_some, length, subst, ap, sym, ◌∙◌}
use Rattle.std.proofs.lemmas.List.{length-map}
use Rattle.std.specs.Option.{option_map}
use Rattle.std.proofs.lemmas.Option.{slice_get_past}
use Rattle.topo_core.specs.Picture.{edge_row, end_dart, corner, rotation}
use Rattle.topo_rows.proofs.Interface.{corner_told}
use Rattle.topo_embedded.specs.Halves.{RowsWithPaths, half_in}
use Rattle.topo_embedded.proofs.halves.Reading.{around_read, entry_known, vertex_there}
use Rattle.topo_embedded.proofs.embedded.Embedded.corner.Goals as goal

pub bounds-rotations-v : goal.bounds-rotations-v
bounds-rotations-v c =
    let rows = c.self.inside.parts.rows in
    let v = c.args.v in
    let below : c.args.position < length (rotation rows v) = omega (arith, c.if-position-degree.true, c.degree.ensures) in
    let inside : v < length rows.rotations = vertex_there rows v c.args.position below in
    let same : length c.rotations.result.now ≡ length rows.rotations = ap length c.rotations.ensures in
    omega arith

pub at-requires : goal.at-requires
at-requires c =
    let rows = c.self.inside.parts.rows in
    let v = c.args.v in
    let around = c.index-rotations-v.result in
    let below : c.args.position < length (rotation rows v) = omega (arith, c.if-position-degree.true, c.degree.ensures) in
    let inside : v < length rows.rotations = vertex_there rows v c.args.position below in
    let same : length c.rotations.result.now ≡ length rows.rotations = ap length c.rotations.ensures in
    let is : around ≡ rotation rows v = around_read rows v c.rotations.result.now around
    (omega (arith, same, inside)) c.rotations.ensures c.index-rotations-v.is in
    omega (arith, ap length is, below)

pub end_half-requires : goal.end_half-requires
end_half-requires c =
    let rows = c.self.inside.parts.rows in
    let v = c.args.v in
    let around = c.index-rotations-v.result in
    let below : c.args.position < length (rotation rows v) = omega (arith, c.if-position-degree.true, c.degree.ensures) in
    let inside : v < length rows.rotations = vertex_there rows v c.args.position below in
    let same : length c.rotations.result.now ≡ length rows.rotations = ap length c.rotations.ensures in
    let is : around ≡ rotation rows v = around_read rows v c.rotations.result.now around
    (omega (arith, same, inside)) c.rotations.ensures c.index-rotations-v.is in
    subst (λ (q : RowsWithPaths). is_some (edge_row q.rows c.at.result) ≡ true) c.self.view_is
    (entry_known rows c.self.invariant.0 v c.args.position c.at.result around inside is (omega (arith, ap length is, below)) c.at.ensures)

pub returns-then-position-degree : goal.returns-then-position-degree
returns-then-position-degree c =
    let rows = c.self.inside.parts.rows in
    let v = c.args.v in
    let around = c.index-rotations-v.result in
    let below : c.args.position < length (rotation rows v) = omega (arith, c.if-position-degree.true, c.degree.ensures) in
    let inside : v < length rows.rotations = vertex_there rows v c.args.position below in
    let same : length c.rotations.result.now ≡ length rows.rotations = ap length c.rotations.ensures in
    let is : around ≡ rotation rows v = around_read rows v c.rotations.result.now around
    (omega (arith, same, inside)) c.rotations.ensures c.index-rotations-v.is in
    let told = corner_told rows v c.args.position c.at.result around is (omega (arith, ap length is, below)) c.at.ensures in
    ap Some c.end_half.ensures
    ∙ sym (ap (option_map (half_in c.args.self.now))
    (subst (λ (q : RowsWithPaths). corner q.rows v c.args.position ≡ Some (end_dart q.rows v c.at.result)) c.self.view_is told))

pub returns-else-position-degree : goal.returns-else-position-degree
returns-else-position-degree c = grind (arith, length-map, slice_get_past)
