use Rattle.topo_picture.proofs.picture.Picture.counts_of.Goals as goal

pub counted-requires : goal.counted-requires
counted-requires c = (
  c.args.rows.now,
  record {
    limits = c.args.limits;
    picture = c.in_ok-_turns.ensures.picture;
    vertices_are = c.len.ensures;
    crossings_are = c.len-2.ensures;
    edges_are = c.len-3.ensures;
  },
)

pub returns-clause-counts : goal.returns-clause-counts
returns-clause-counts c =
    c.counted.ensures c.args.rows.now
    (record {
      limits = c.args.limits;
      picture = c.in_ok-_turns.ensures.picture;
      vertices_are = c.len.ensures;
      crossings_are = c.len-2.ensures;
      edges_are = c.len-3.ensures;
    })
