use Rattle.std.proofs.Common.{ap, arith, List, map, subst, sym, true, ◌≡◌, ◌∙◌}
use Rattle.std.specs.List.{list_all}
use Rattle.topo_core.specs.declared.rows.EdgeRow.{EdgeRow}
use Rattle.topo_core.specs.Cycles.{IsPermutationList}
use Rattle.topo_core.specs.Items.{rises_below}
use Rattle.topo_core.specs.Lawful.{has_good_path}
use Rattle.topo_core.proofs.Interface.{left_true, turn_permutes}
use Rattle.topo_rows.proofs.Interface.{images_total}
use Rattle.topo_embedded.proofs.halves.Made.{labels_length, made_from}
use Rattle.topo_embedded.proofs.making.embedding_of.Goals as goal

pub from_turns-requires-clause-permutation : goal.from_turns-requires-clause-permutation
from_turns-requires-clause-permutation c =
    let rows = c.args.rows.now in
    subst IsPermutationList (sym (c.as_slice-images.ensures.value ∙ c.requires.turns.images))
    (turn_permutes rows c.requires.well_formed.paths c.requires.well_formed.crossings c.requires.well_formed.rotations)

pub from_turns-requires-clause-two_each : goal.from_turns-requires-clause-two_each
from_turns-requires-clause-two_each c = grind (arith, images_total, labels_length)

pub paths_of-requires-clause-rise : goal.paths_of-requires-clause-rise
paths_of-requires-clause-rise c = subst (λ (es : List EdgeRow). rises_below c.args.rows.now.next_edge (map (λ row. row.id) es) ≡ true)
    (sym c.as_slice-edges.ensures)
    (left_true _ (list_all (has_good_path c.args.rows.now) c.args.rows.now.edges) c.requires.well_formed.paths)

pub returns-clause-shows : goal.returns-clause-shows
returns-clause-shows c = made_from c.args.rows.now c.requires.well_formed c.as_slice-edges.ensures
    (c.as_slice-images.ensures.value ∙ c.requires.turns.images) (c.as_slice.ensures.value ∙ c.in_ok-labels.ensures)
    (c.as_slice-begins.ensures.value ∙ c.requires.turns.edge_begins) c.as_slice-2.ensures.value
    c.in_ok-segments.ensures.made c.in_ok-segments.ensures.labels c.in_ok-paths.ensures.paths

pub returns-clause-kept : goal.returns-clause-kept
returns-clause-kept c = record {
  ids = c.in_ok-paths.ensures.ids ∙ ap (λ (es : List EdgeRow). map (λ row. row.id) es) c.as_slice-edges.ensures;
  below = c.in_ok-paths.ensures.below;
  count = c.in_ok-paths.ensures.count;
}
