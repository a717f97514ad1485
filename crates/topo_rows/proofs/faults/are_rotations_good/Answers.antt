use Rattle.std.proofs.Common.{ap, sym, ◌∙◌}
use Rattle.std.specs.List.{list_all}
use Rattle.topo_rows.specs.Pairs.{begins_with_least, end_pairs, rotation_pairs}
use Rattle.topo_rows.proofs.PairTests.{rotations_decided, rotations_refused}
use Rattle.topo_rows.proofs.Sorting.{told_of}
use Rattle.topo_rows.proofs.faults.are_rotations_good.Goals as goal

pub returns-then-not-begin_with_least : goal.returns-then-not-begin_with_least
returns-then-not-begin_with_least c = rotations_refused c.args.rows.now
    (ap (list_all begins_with_least) (sym c.as_slice-rotations.ensures) ∙ sym c.begin_with_least.ensures ∙ c.if-not-begin_with_least.true)

pub returns : goal.returns
returns c =
    let rows = c.args.rows.now in
    rotations_decided rows c.requires.paths c.requires.few c.in_ok-is_same.is_same
    (told_of (rotation_pairs 0 c.as_slice-rotations.result.now) (end_pairs c.as_slice.result.now) (rotation_pairs 0 rows.rotations) (end_pairs rows.edges)
    c.in_ok-is_same.is_same (ap (rotation_pairs 0) c.as_slice-rotations.ensures) (ap end_pairs c.as_slice.ensures) c.in_ok-is_same.ensures)
    (ap (list_all begins_with_least) (sym c.as_slice-rotations.ensures) ∙ sym c.begin_with_least.ensures ∙ c.if-not-begin_with_least.false)
