use Rattle.std.proofs.Common.{ap, length, subst, sym}
use Rattle.topo_rows.specs.Shown.{IsPicture}
use Rattle.topo_picture.proofs.picture.Picture.counts.Goals as goal

pub counted-requires : goal.counted-requires
counted-requires c = (
  c.rows-rows.result.now,
  record {
    limits = c.self.inside.limits;
    picture = subst (IsPicture c.self.inside.limits) (sym c.rows-rows.ensures) c.self.invariant;
    vertices_are = ap length c.rotations.ensures;
    crossings_are = c.crossing_count.ensures;
    edges_are = c.edge_count.ensures;
  },
)

pub returns : goal.returns
returns c = rw (← c.self.view_is, ← c.rows-rows.ensures) (c.counted.ensures c.rows-rows.result.now (record {
  limits = c.self.inside.limits;
  picture = subst (IsPicture c.self.inside.limits) (sym c.rows-rows.ensures) c.self.invariant;
  vertices_are = ap length c.rotations.ensures;
  crossings_are = c.crossing_count.ensures;
  edges_are = c.edge_count.ensures;
}))
