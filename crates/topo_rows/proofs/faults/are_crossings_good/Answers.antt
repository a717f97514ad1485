use Rattle.std.proofs.Common.{◌≡◌, ◌≤◌, ◌&&◌, arith, sym, true, ◌∙◌}
use Rattle.std.specs.Prelude.{map, not, ◌==◌}
use Rattle.std.specs.List.{list_all}
use Rattle.topo_core.specs.Items.{rises_below}
use Rattle.topo_core.proofs.Interface.{left_true, right_true}
use Rattle.topo_rows.specs.Pairs.{crossing_pairs, path_pairs}
use Rattle.topo_rows.proofs.PairTests.{crossings_decided, crossings_refused, two_pairs_each}
use Rattle.topo_rows.proofs.RowCounts.{same_length}
use Rattle.topo_rows.proofs.faults.are_crossings_good.Goals as goal

pub returns-then-not-branch-clause-good : goal.returns-then-not-branch-clause-good
returns-then-not-branch-clause-good c = crossings_refused c.args.rows.now (sym c.in_ok-rise_and_differ.ensures ∙ c.if-not-branch.true)

pub note_all-requires-clause-rise : goal.note_all-requires-clause-rise
note_all-requires-clause-rise c = left_true _ _ (sym c.in_ok-rise_and_differ.ensures ∙ c.if-not-branch.false)

pub note_all-requires-clause-differ : goal.note_all-requires-clause-differ
note_all-requires-clause-differ c = right_true _ _ (sym c.in_ok-rise_and_differ.ensures ∙ c.if-not-branch.false)

pub returns-clause-good : goal.returns-clause-good
returns-clause-good c =
    let rows = c.args.rows.now in
    let both : (rises_below rows.next_crossing (map (λ x. x.id) rows.crossings) && list_all (λ x. not (x.crossed == x.newcomer)) rows.crossings) ≡ true =
    sym c.in_ok-rise_and_differ.ensures ∙ c.if-not-branch.false in
    let small : rows.next_crossing ≤ 4294967296 = omega arith in
    crossings_decided rows c.requires small (left_true _ _ both) c.in_ok-is_same.is_same c.in_ok-is_same.ensures.same (right_true _ _ both)

pub returns-clause-two_each : goal.returns-clause-two_each
returns-clause-two_each c = λ yes.
    same_length (path_pairs c.args.rows.now.edges) (crossing_pairs c.args.rows.now.crossings) (c.in_ok-is_same.ensures.same.0 yes)
    ∙ two_pairs_each c.args.rows.now.crossings
