use Rattle.std.proofs.Common.{ap, refl, subst, sym, true, ◌≡◌, ◌∙◌}
use Rattle.std.specs.Prelude.{is_some}
use Rattle.topo_core.specs.declared.rows.Rows.{Rows}
use Rattle.topo_core.specs.Changes.{without}
use Rattle.topo_core.specs.Lawful.{Lawful}
use Rattle.topo_core.specs.Picture.{edge_row}
use Rattle.topo_table.specs.Places.{values_in}
use Rattle.topo_embedded.specs.Halves.{ShowsRows}
use Rattle.topo_embedded.specs.Paths.{AreForEdges}
use Rattle.topo_embedded.proofs.guided.Fitting.{searches_without}
use Rattle.topo_embedded.proofs.parts.Parts.take_out.Goals as goal

pub delete_lists-requires : goal.delete_lists-requires
delete_lists-requires g c = (
  subst Lawful (sym c.requires.0) c.requires.1.0,
  (
    subst (λ (rows : Rows). is_some (edge_row rows c.args.edge) ≡ true) (sym c.requires.0) c.requires.1.1.0,
    (
      subst (λ (rows : Rows). ShowsRows (record { rows = rows; paths = values_in c.args.self.now.paths }) c.args.self.now.segments) (sym c.requires.0)
          c.requires.1.1.1.0,
      subst (λ (rows : Rows). AreForEdges rows c.args.self.now.paths) (sym c.requires.0) c.requires.1.1.1.1.0,
    ),
  ),
)

pub returns-clause-shows : goal.returns-clause-shows
returns-clause-shows g c = subst (λ (rows : Rows). ShowsRows (record { rows = rows; paths = values_in c.delete_lists.new.paths }) c.delete_lists.new.segments)
    (ap (λ (rows : Rows). without rows c.args.edge) c.requires.0 ∙ sym c.delete_rows.ensures) c.delete_lists.ensures.shows

pub returns-clause-kept : goal.returns-clause-kept
returns-clause-kept g c = subst (λ (rows : Rows). AreForEdges rows c.delete_lists.new.paths)
    (ap (λ (rows : Rows). without rows c.args.edge) c.requires.0 ∙ sym c.delete_rows.ensures) c.delete_lists.ensures.kept

pub returns-clause-searches : goal.returns-clause-searches
returns-clause-searches g c = searches_without c.args.self.now _ c.args.edge c.delete_rows.ensures c.clear.ensures.potentials c.clear.ensures.floors refl
    c.requires.1.1.1.1.1
