use Rattle.std.proofs.Common.{subst, sym}
use Rattle.topo_core.specs.declared.rows.Rows.{Rows}
use Rattle.topo_embedded.specs.KnownKinds.{AreKindsOf}
use Rattle.topo_embedded.specs.declared.parts.Parts.{Parts}
use Rattle.topo_embedded.proofs.guided.Fitting.{parts_same, searches_none}
use Rattle.topo_embedded.proofs.embedded.Embedded.copy.Goals as goal

pub invariant_of-result : goal.invariant_of-result
invariant_of-result c =
    let was = c.self.invariant in
    let now : Parts = record {
      rows = c.in_ok-rows.rows;
      paths = c.in_ok-paths.paths;
      segments = c.in_ok-segments.segments;
      bounds = c.none.result;
      kinds = c.in_ok-kinds.kinds;
    } in
    let same = parts_same c.self.inside.parts now c.in_ok-rows.ensures c.in_ok-paths.ensures c.in_ok-segments.ensures.slots was.0 was.1 was.2 in (
      same.0,
      same.1,
      same.2,
      searches_none now c.none.ensures.0
          (subst (AreKindsOf c.in_ok-rows.rows) (sym c.in_ok-kinds.ensures)
          (subst (λ (rows : Rows). AreKindsOf rows c.self.inside.parts.kinds) (sym c.in_ok-rows.ensures) was.3.kinds)),
    )
