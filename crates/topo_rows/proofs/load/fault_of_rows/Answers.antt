use Rattle.std.proofs.Common.{subst, sym, ◌∙◌}
use Rattle.topo_core.specs.Lawful.{IsWellFormed}
use Rattle.topo_rows.specs.Flats.{AreAhead}
use Rattle.topo_rows.proofs.Rounds.{are_ahead}
use Rattle.topo_rows.proofs.Verdicts.{is_small}
use Rattle.topo_rows.proofs.load.fault_of_rows.Goals as goal

pub returns-clause-few : goal.returns-clause-few
returns-clause-few c =
    (is_small c.args.limits.now c.args.rows.now c.requires (sym c.in_ok-are_paths_good.ensures ∙ c.if-not-branch.false)
    (sym c.in_ok-are_crossings_good.ensures.good ∙ c.if-not-branch-2.false) (c.in_ok-are_crossings_good.ensures.two_each c.if-not-branch-2.false)).segments

pub returns-clause-crossings : goal.returns-clause-crossings
returns-clause-crossings c =
    (is_small c.args.limits.now c.args.rows.now c.requires (sym c.in_ok-are_paths_good.ensures ∙ c.if-not-branch.false)
    (sym c.in_ok-are_crossings_good.ensures.good ∙ c.if-not-branch-2.false) (c.in_ok-are_crossings_good.ensures.two_each c.if-not-branch-2.false)).crossings

pub returns-clause-ahead : goal.returns-clause-ahead
returns-clause-ahead c =
    let rows = c.args.rows.now in
    let paths = sym c.in_ok-are_paths_good.ensures ∙ c.if-not-branch.false in
    let crossings = sym c.in_ok-are_crossings_good.ensures.good ∙ c.if-not-branch-2.false in
    let rotations = sym c.in_ok-are_rotations_good.ensures ∙ c.if-not-branch-3.false in
    let good : IsWellFormed rows = record { paths = paths; crossings = crossings; rotations = rotations } in
    let small = is_small c.args.limits.now rows c.requires paths crossings
    (c.in_ok-are_crossings_good.ensures.two_each c.if-not-branch-2.false) in
    let noted = c.in_ok-are_crossings_good.ensures.noted c.if-not-branch-2.false small.segments in
    subst (AreAhead rows) (sym noted.noted) (are_ahead rows good noted.before noted.as_many)
