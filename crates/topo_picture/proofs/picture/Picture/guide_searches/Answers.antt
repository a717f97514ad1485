use Rattle.std.proofs.Common.{◌<◌, ◌≡◌, arith, length, subst, sym, ap, ◌∙◌}
use Rattle.topo_core.specs.declared.rows.Rows.{Rows}
use Rattle.topo_core.specs.Picture.{darts}
use Rattle.topo_embedded.specs.Halves.{RowsWithPaths}
use Rattle.topo_route.proofs.Interface.{has_darts}
use Rattle.topo_picture.proofs.picture.Picture.guide_searches.Goals as goal

pub landmark_distances-requires : goal.landmark_distances-requires
landmark_distances-requires g c =
    let rows = c.self.inside.embedded.rows in
    let there : 0 < length rows.rotations = omega (arith, c.if-vertices-eq0.false, c.vertex_count-vertices.ensures) in
    let same : c.embedded.result.embedded.rows ≡ rows = c.embedded.ensures ∙ ap (λ (q : RowsWithPaths). q.rows) c.drop_potentials.ensures in
    subst (λ (r : Rows). 0 < length (darts r)) (sym same) (has_darts rows c.self.invariant.lawful 0 there)
