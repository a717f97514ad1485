use Rattle.std.proofs.Common.{◌∙◌, ap, slice_index, subst, sym}
use Rattle.std.specs.Prelude.{map}
use Rattle.topo_core.specs.Picture.{darts}
use Rattle.topo_route.specs.Names.{HasFaces, canonical}
use Rattle.topo_table.specs.Places.{values_in}
use Rattle.topo_embedded.specs.Halves.{RowsWithPaths, half_in}
use Rattle.topo_embedded.proofs.halves.LabelledFaces.{listed_faces, listed_live}
use Rattle.topo_embedded.proofs.embedded.Embedded.fill_faces.Goals as goal

pub write_faces-requires-clause-live : goal.write_faces-requires-clause-live
write_faces-requires-clause-live c =
    let p : RowsWithPaths = record { rows = c.self.inside.parts.rows; paths = values_in c.self.inside.parts.paths } in
    listed_live p c.self.invariant.0 c.self.inside.parts.segments c.self.invariant.1 c.args.halves.now
    (c.requires.halves ∙ ap (λ (q : RowsWithPaths). map (half_in q) (darts q.rows)) (sym c.self.view_is))

pub returns : goal.returns
returns c =
    let p : RowsWithPaths = record { rows = c.self.inside.parts.rows; paths = values_in c.self.inside.parts.paths } in
    subst (λ (q : RowsWithPaths). HasFaces (canonical q.rows) (slice_index c.write_faces.new.faces) c.labels.result) c.self.view_is
    (listed_faces p c.self.invariant.0 c.self.inside.parts.segments c.self.invariant.1 c.args.halves.now
    (c.requires.halves ∙ ap (λ (q : RowsWithPaths). map (half_in q) (darts q.rows)) (sym c.self.view_is))
    c.write_faces.new.faces c.labels.result c.labels.ensures.tell c.labels.ensures.above c.write_faces.ensures)
