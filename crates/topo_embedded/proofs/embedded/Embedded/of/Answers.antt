use Rattle.std.proofs.Common.{subst, sym}
use Rattle.topo_core.specs.declared.rows.Rows.{Rows}
use Rattle.topo_core.specs.Lawful.{IsWellFormed}
use Rattle.topo_table.specs.Places.{values_in}
use Rattle.topo_embedded.specs.Halves.{ShowsRows}
use Rattle.topo_embedded.specs.KnownKinds.{AreKindsOf}
use Rattle.topo_embedded.specs.Parts.{AreForSearches}
use Rattle.topo_embedded.specs.Paths.{AreForEdges}
use Rattle.topo_embedded.specs.declared.parts.Parts.{Parts}
use Rattle.topo_embedded.proofs.guided.Fitting.{searches_none}
use Rattle.topo_embedded.proofs.embedded.Embedded.of.Goals as goal

pub of-requires-2 : goal.of-requires-2
of-requires-2 c = subst IsWellFormed (sym c.in_ok-rows.ensures) c.requires.well_formed

pub invariant_of-result : goal.invariant_of-result
invariant_of-result c =
    let segments = c.in_ok-segments.segments in
    let paths = c.in_ok-segments.paths in
    let now = λ (rows : Rows). (let p : Parts = record
    { rows = rows; paths = paths; segments = segments; bounds = c.none.result; kinds = c.in_ok-kinds.kinds } in p) in
    subst (λ (rows : Rows). IsWellFormed rows × ShowsRows (record { rows = rows; paths = values_in paths }) segments × AreForEdges rows paths
    × AreForSearches (now rows))
    (sym c.in_ok-rows.ensures) (
      c.requires.well_formed,
      c.in_ok-segments.ensures.shows,
      c.in_ok-segments.ensures.kept,
      searches_none (now c.args.rows.now) c.none.ensures.0
          (subst (λ (rows : Rows). AreKindsOf rows c.in_ok-kinds.kinds) c.in_ok-rows.ensures c.in_ok-kinds.ensures),
    )
