use Rattle.std.proofs.Common.{◌≤◌, length, subst}
use Rattle.topo_core.specs.Picture.{darts}
use Rattle.topo_route.specs.Names.{IsNamed}
use Rattle.topo_table.specs.Places.{values_in}
use Rattle.topo_embedded.specs.Halves.{RowsWithPaths}
use Rattle.topo_embedded.specs.Walking.{named_in}
use Rattle.topo_embedded.proofs.halves.Apart.{few_darts, halves_named}
use Rattle.topo_embedded.proofs.embedded.Embedded.size.Goals as goal

pub returns-clause-named : goal.returns-clause-named
returns-clause-named c =
    let p : RowsWithPaths = record { rows = c.self.inside.parts.rows; paths = values_in c.self.inside.parts.paths } in
    subst (λ (q : RowsWithPaths). IsNamed (named_in q c.limit.result)) c.self.view_is
    (halves_named p c.self.invariant.0 c.self.inside.parts.segments c.self.invariant.1 c.limit.result c.limit.ensures.above)

pub returns-clause-many : goal.returns-clause-many
returns-clause-many c =
    let p : RowsWithPaths = record { rows = c.self.inside.parts.rows; paths = values_in c.self.inside.parts.paths } in
    subst (λ (q : RowsWithPaths). length (darts q.rows) ≤ c.limit.result) c.self.view_is
    (few_darts p c.self.invariant.0 c.self.inside.parts.segments c.self.invariant.1 c.limit.result c.limit.ensures.above)
