use Rattle.std.proofs.Common.{◌≡◌, ◌++◌, ◌∙◌, [], ap, List, ℕ}
use Rattle.std.specs.Prelude.{flat_map, map}
use Rattle.topo_core.specs.Picture.{darts}
use Rattle.topo_table.specs.Places.{values_in}
use Rattle.topo_embedded.specs.Canonical.{halves_of}
use Rattle.topo_embedded.specs.Halves.{RowsWithPaths, half_in}
use Rattle.topo_embedded.proofs.halves.InOrder.{in_order}
use Rattle.topo_embedded.proofs.embedded.Embedded.fill_halves.Goals as goal

pub returns : goal.returns
returns c =
    let p : RowsWithPaths = record { rows = c.self.inside.parts.rows; paths = values_in c.self.inside.parts.paths } in
    let cleared : c.reserve.new.self.items ≡ [] = c.reserve.ensures.items ∙ c.clear.ensures.items in
    c.in_ok-write_paths.ensures ∙ ap (λ (hs : List ℕ). hs ++ flat_map halves_of (values_in c.self.inside.parts.paths)) cleared
    ∙ in_order p c.self.invariant.0 c.self.inside.parts.segments c.self.invariant.1
    ∙ ap (λ (q : RowsWithPaths). map (half_in q) (darts q.rows)) c.self.view_is
