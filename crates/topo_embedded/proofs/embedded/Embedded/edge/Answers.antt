use Rattle.std.proofs.Common.{◌≡◌, true, arith, subst}
use Rattle.topo_core.specs.Picture.{darts}
use Rattle.topo_core.specs.Systems.{has_dart}
use Rattle.topo_embedded.specs.Halves.{RowsWithPaths, half_in}
use Rattle.topo_embedded.specs.Parts.{with_paths}
use Rattle.topo_embedded.proofs.halves.Apart.{label_is}
use Rattle.topo_embedded.proofs.halves.Numbers.{half_alive}
use Rattle.topo_embedded.proofs.embedded.Embedded.edge.Goals as goal

pub edge-requires : goal.edge-requires
edge-requires c = grind (arith, half_alive)

pub returns : goal.returns
returns c d =
    let parts = c.self.inside.parts in
    subst (λ (q : RowsWithPaths). has_dart (darts q.rows) d ≡ true → half_in q d ≡ c.args.half → c.edge.result ≡ d.edge) c.self.view_is
    (λ h is. label_is (with_paths parts) c.self.invariant.0 parts.segments c.self.invariant.1 d h c.args.half is c.edge.result c.edge.ensures)
