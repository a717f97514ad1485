use Rattle.std.proofs.Common.{◌%◌, ap, length, List, subst, sym, ◌∙◌, ℕ}
use Rattle.std.specs.Prelude.{◌==◌}
use Rattle.std.specs.List.{list_any}
use Rattle.topo_core.specs.Cycles.{IsPermutationList}
use Rattle.topo_core.proofs.Interface.{even_images, turn_permutes}
use Rattle.topo_rows.proofs.Verdicts.{not_whole, whole_told}
use Rattle.topo_rows.proofs.load.is_whole.Goals as goal

pub returns-then-has_bare_vertex : goal.returns-then-has_bare_vertex
returns-then-has_bare_vertex c =
    not_whole c.args.rows.now (ap (λ (xs : List (List ℕ)). list_any (λ around. length around == 0) xs) (sym c.as_slice.ensures) ∙ sym c.has_bare_vertex.ensures
    ∙ c.if-has_bare_vertex.true)

pub is_connected-requires-clause-permutation : goal.is_connected-requires-clause-permutation
is_connected-requires-clause-permutation c = subst IsPermutationList (sym c.requires.images)
    (turn_permutes c.args.rows.now c.requires.well_formed.paths c.requires.well_formed.crossings c.requires.well_formed.rotations)

pub is_connected-requires-clause-even : goal.is_connected-requires-clause-even
is_connected-requires-clause-even c = ap (λ (xs : List ℕ). length xs % 2) c.requires.images ∙ even_images c.args.rows.now

pub returns : goal.returns
returns c =
    whole_told c.args.rows.now c.args.images.now c.in_ok-joined.joined c.requires.well_formed c.requires.images
    (ap (λ (xs : List (List ℕ)). list_any (λ around. length around == 0) xs) (sym c.as_slice.ensures) ∙ sym c.has_bare_vertex.ensures
    ∙ c.if-has_bare_vertex.false) c.in_ok-joined.ensures
