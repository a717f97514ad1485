use Rattle.std.proofs.Common.{◌%◌, ap, arith, length, subst, sym, ◌∙◌, ℕ, List}
use Rattle.topo_core.specs.Cycles.{IsPermutationList}
use Rattle.topo_core.proofs.Interface.{even_images, turn_permutes}
use Rattle.topo_rows.proofs.Verdicts.{faces_at_most, genus_told, images_total}
use Rattle.topo_rows.proofs.load.has_genus_zero.Goals as goal

pub faces-requires-clause-permutation : goal.faces-requires-clause-permutation
faces-requires-clause-permutation c = subst IsPermutationList (sym c.requires.images)
    (turn_permutes c.args.rows.now c.requires.well_formed.paths c.requires.well_formed.crossings c.requires.well_formed.rotations)

pub faces-requires-clause-even : goal.faces-requires-clause-even
faces-requires-clause-even c = ap (λ (xs : List ℕ). length xs % 2) c.requires.images ∙ even_images c.args.rows.now

pub overflow_add-result : goal.overflow_add-result
overflow_add-result c = grind (arith, faces_at_most, images_total)

pub returns : goal.returns
returns c =
    genus_told c.args.rows.now c.args.images.now c.in_ok-faces.field-0 (length c.as_slice.result.now)
    (length c.as_slice-2.result.now) c.requires.images c.in_ok-faces.ensures (ap length c.as_slice.ensures) (ap length c.as_slice-2.ensures)
