use Rattle.std.proofs.Common.{◌≡◌, ap, not, set, subst, sym, true, ℕ, List, ◌∙◌}
use Rattle.std.specs.Prelude.{◌==◌, filter, is_some, slice_index_or}
use Rattle.std.specs.List.{position_or_len}
use Rattle.topo_core.specs.Picture.{edge_row}
use Rattle.topo_table.specs.Places.{ids_in, values_in}
use Rattle.topo_table.proofs.Interface.{is_empty}
use Rattle.topo_embedded.specs.Halves.{path_of}
use Rattle.topo_embedded.specs.Opening.{without_half}
use Rattle.topo_embedded.proofs.halves.KeptPaths.{has_path, ids_kept, path_in_rows, path_put, path_taken, place_in_rows}
use Rattle.topo_embedded.proofs.deletion.leave_path.Goals as goal

pub take-path-requires : goal.take-path-requires
take-path-requires g c = (c.edge-edge.result, c.in-Some.ensures.there)

pub put-requires : goal.put-requires
put-requires g c = is_empty c.args.paths.now c.take-path.new.self c.take-path.new.self c.edge-edge.result c.in-Some.place c.in-Some.ensures.there
    c.in-Some.ensures.rise
    c.take-path.ensures.slots c.take-path.ensures.room

pub unreachable-requires : goal.unreachable-requires
unreachable-requires g c = has_path g.rows c.args.paths.now c.edge-edge.result c.requires.0
    (subst (λ (e : ℕ). is_some (edge_row g.rows e) ≡ true) (sym c.edge-edge.ensures) c.requires.1.1.0) c.in-None.ensures.none

pub remove-requires : goal.remove-requires
remove-requires g c = λ same. c.requires.1.1.1
    (sym (ap (λ (hs : List ℕ). slice_index_or hs 0 0) (path_taken c.args.paths.now c.take-path.new.self c.take-path.new.self c.edge-edge.result
    c.in-Some.place c.in-Some.ensures.there
    c.in-Some.ensures.rise c.take-path.ensures.slots c.take-path.ensures.room c.take-path.result c.take-path.ensures.value
    ∙ path_in_rows g.rows c.args.paths.now c.edge-edge.result c.requires.0
    ∙ ap (path_of (record { rows = g.rows; paths = values_in c.args.paths.now })) c.edge-edge.ensures)) ∙ same)

pub returns-clause-paths : goal.returns-clause-paths
returns-clause-paths g c =
    path_put c.args.paths.now c.take-path.new.self c.put.new.self c.edge-edge.result c.in-Some.place c.in-Some.ensures.there c.in-Some.ensures.rise
    c.take-path.ensures.slots c.take-path.ensures.room c.take-path.result c.take-path.ensures.value _ c.put.ensures.slots c.put.ensures.room
    ∙ ap (λ (n : ℕ). set (values_in c.args.paths.now) n c.remove.new.self) (place_in_rows g.rows (ids_in c.args.paths.now) c.edge-edge.result c.requires.0)
    ∙ ap (λ (hs : List ℕ). set (values_in c.args.paths.now) (position_or_len (λ row. row.id == c.edge-edge.result) g.rows.edges) hs) (c.remove.ensures
    ∙ ap (filter (λ h. not (h == c.args.half))) (path_taken c.args.paths.now c.take-path.new.self c.take-path.new.self c.edge-edge.result c.in-Some.place
    c.in-Some.ensures.there
    c.in-Some.ensures.rise c.take-path.ensures.slots c.take-path.ensures.room c.take-path.result c.take-path.ensures.value
    ∙ path_in_rows g.rows c.args.paths.now c.edge-edge.result c.requires.0))
    ∙ ap (λ (e : ℕ). without_half g.rows e c.args.half (values_in c.args.paths.now)) c.edge-edge.ensures

pub returns-clause-same : goal.returns-clause-same
returns-clause-same g c = ids_kept c.args.paths.now c.take-path.new.self c.put.new.self c.edge-edge.result c.in-Some.place c.in-Some.ensures.there
    c.in-Some.ensures.rise
    c.take-path.ensures.slots c.take-path.ensures.room c.take-path.result c.take-path.ensures.value _ c.put.ensures.slots c.put.ensures.room
