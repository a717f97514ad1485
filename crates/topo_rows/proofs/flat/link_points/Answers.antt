use Rattle.std.proofs.Common.{ap, ◌∙◌}
use Rattle.std.specs.Prelude.{flat_map}
use Rattle.topo_rows.specs.Flats.{crossing_round, links, written}
use Rattle.topo_rows.proofs.Linking.{linked_in_turn}
use Rattle.topo_rows.proofs.flat.link_points.Goals as goal

pub returns : goal.returns
returns c =
    c.link_crossings.ensures
    ∙ ap (λ xs. written xs (flat_map (λ x. links (crossing_round c.args.rows.now x)) c.args.rows.now.crossings)) c.link_vertices.ensures
    ∙ linked_in_turn c.args.rows.now c.requires.well_formed c.args.images.now c.requires.room
