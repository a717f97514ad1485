use Rattle.std.proofs.Common.{ap, arith, subst, sym, ◌∙◌}
use Rattle.std.specs.Prelude.{is_some}
use Rattle.topo_kept_rows.specs.Cuts.{IsFirstCut}
use Rattle.topo_core.specs.Picture.{edge_row}
use Rattle.topo_embedded.specs.Cutting.{IsOpenedOn}
use Rattle.topo_embedded.specs.Halves.{RowsWithPaths, path_of}
use Rattle.topo_embedded.specs.Parts.{with_paths}
use Rattle.topo_embedded.proofs.halves.Reading.{edge_there}
use Rattle.topo_embedded.proofs.embedded.Embedded.first_cut.Goals as goal

pub first_cut-requires : goal.first_cut-requires
first_cut-requires c =
    let p : RowsWithPaths = with_paths c.self.inside.parts in
    let e = edge_there p.rows c.args.edge (ap (λ (q : RowsWithPaths). is_some (edge_row q.rows c.args.edge)) c.self.view_is ∙ c.requires) in (
      p,
      record {
        well_formed = c.self.invariant.0;
        shows = c.self.invariant.1;
        row = e.row;
        there = e.read.found;
        inside = omega arith;
        own = c.path.ensures ∙ ap (λ (q : RowsWithPaths). path_of q c.args.edge) (sym c.self.view_is);
      },
    )

pub returns : goal.returns
returns c =
    let p : RowsWithPaths = with_paths c.self.inside.parts in
    let e = edge_there p.rows c.args.edge (ap (λ (q : RowsWithPaths). is_some (edge_row q.rows c.args.edge)) c.self.view_is ∙ c.requires) in
    let opened : IsOpenedOn p c.self.inside.parts.segments c.args.edge 0 c.path.result.now = record {
      well_formed = c.self.invariant.0;
      shows = c.self.invariant.1;
      row = e.row;
      there = e.read.found;
      inside = omega arith;
      own = c.path.ensures ∙ ap (λ (q : RowsWithPaths). path_of q c.args.edge) (sym c.self.view_is);
    } in
    subst (λ (q : RowsWithPaths). IsFirstCut q.rows c.args.edge c.first_cut.result) c.self.view_is (c.first_cut.ensures p opened)
