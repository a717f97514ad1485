use Rattle.std.proofs.Common.{IfSome, ap, ◌∙◌}
use Rattle.std.specs.Prelude.{◌↔◌, IsTrue}
use Rattle.topo_core.specs.declared.rows.Rows.{Rows}
use Rattle.topo_core.specs.Picture.{edge_row}
use Rattle.topo_route.specs.Regions.{IsApart}
use Rattle.topo_picture.specs.Apart.{lies_apart}
use Rattle.topo_picture.proofs.ApartEdges.{found_apart}
use Rattle.topo_picture.proofs.DeletedPicture.{in_view}
use Rattle.topo_picture.proofs.picture.Picture.is_apart.Goals as goal

pub returns-in-Some : goal.returns-in-Some
returns-in-Some c =
    let row = c.in-Some.found.now in
    in_view c.self.inside.limits c.self.inside.embedded.rows c.args.self.now c.self.view_is
    (λ rows. IsTrue c.lies_apart.result ↔ IfSome (edge_row rows c.args.edge) (IsApart rows c.args.region.now))
    (found_apart c.self.inside.embedded.rows c.args.region.now c.args.edge row c.lies_apart.result c.in-Some.ensures
    (c.lies_apart.ensures ∙ ap (λ (rows : Rows). lies_apart rows c.args.region.now row) c.rows-rows.ensures))
