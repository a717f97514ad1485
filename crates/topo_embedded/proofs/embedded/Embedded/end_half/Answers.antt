use Rattle.std.proofs.Common.{ap, is_some, sym, ◌∙◌}
use Rattle.std.specs.Option.{option_copied}
use Rattle.std.proofs.lemmas.Bool.{false≢true}
use Rattle.topo_core.specs.Picture.{edge_row, end_dart}
use Rattle.topo_embedded.specs.Halves.{RowsWithPaths, half_in, path_of}
use Rattle.topo_embedded.specs.Parts.{with_paths}
use Rattle.topo_embedded.proofs.halves.Reading.{edge_found, edge_there, end_half_is, end_on_list, path_read}
use Rattle.topo_embedded.proofs.embedded.Embedded.end_half.Goals as goal

pub unreachable-requires : goal.unreachable-requires
unreachable-requires c = false≢true (sym (ap is_some (sym c.edge.ensures ∙ ap option_copied c.in_default.is))
    ∙ ap (λ (q : RowsWithPaths). is_some (edge_row q.rows c.args.e)) c.self.view_is ∙ c.requires)

pub at-requires : goal.at-requires
at-requires c =
    let p : RowsWithPaths = with_paths c.self.inside.parts in
    let e = edge_there p.rows c.args.e (ap (λ (q : RowsWithPaths). is_some (edge_row q.rows c.args.e)) c.self.view_is ∙ c.requires) in
    let path = path_read p c.self.inside.parts.segments c.self.invariant.1 c.args.e e c.path.result.now
    (c.path.ensures ∙ ap (λ (q : RowsWithPaths). path_of q c.args.e) (sym c.self.view_is)) in
    let row = edge_found p.rows c.args.e _ e.row c.in-Some.edge.now e.read
    (sym c.in-Some.ensures) in
    end_on_list p c.self.invariant.0 c.self.inside.parts.segments c.self.invariant.1 c.args.e _ e.row e.read c.path.result.now path
    c.args.v c.in-Some.edge.now c.end_of-seg.result.0 c.end_of-seg.result.1 row c.end_of-seg.ensures.seg c.end_of-seg.ensures.way

pub returns : goal.returns
returns c =
    let p : RowsWithPaths = with_paths c.self.inside.parts in
    let e = edge_there p.rows c.args.e (ap (λ (q : RowsWithPaths). is_some (edge_row q.rows c.args.e)) c.self.view_is ∙ c.requires) in
    let path = path_read p c.self.inside.parts.segments c.self.invariant.1 c.args.e e c.path.result.now
    (c.path.ensures ∙ ap (λ (q : RowsWithPaths). path_of q c.args.e) (sym c.self.view_is)) in
    let row = edge_found p.rows c.args.e _ e.row c.in-Some.edge.now e.read
    (sym c.in-Some.ensures) in
    c.led.ensures
    ∙ end_half_is p c.self.invariant.0 c.self.inside.parts.segments c.self.invariant.1 c.args.e _ e.row e.read c.path.result.now path
    c.args.v c.in-Some.edge.now c.end_of-seg.result.0 c.end_of-seg.result.1 row c.end_of-seg.ensures.seg c.end_of-seg.ensures.way
    c.at.result c.at.ensures
    ∙ ap (λ (q : RowsWithPaths). half_in q (end_dart q.rows c.args.v c.args.e)) c.self.view_is
