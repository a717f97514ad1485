use Rattle.std.proofs.Common.{◌≤◌, arith, subst, sym}
use Rattle.topo_core.proofs.Interface.{left_true}
use Rattle.topo_rows.specs.Flats.{AreAhead}
use Rattle.topo_rows.proofs.PairTests.{crossings_differ, same_from_good}
use Rattle.topo_rows.proofs.Rounds.{are_ahead}
use Rattle.topo_rows.proofs.flat.fill_ahead.Goals as goal

pub note_all-requires-clause-rise : goal.note_all-requires-clause-rise
note_all-requires-clause-rise c = left_true _ _ c.requires.well_formed.crossings

pub note_all-requires-clause-differ : goal.note_all-requires-clause-differ
note_all-requires-clause-differ c = crossings_differ c.args.rows.now c.requires.well_formed.crossings

pub returns : goal.returns
returns c =
    let rows = c.args.rows.now in
    let good = c.requires.well_formed in
    let small : rows.next_crossing ≤ 4294967296 = omega arith in
    let yes = c.in_ok-note_all.ensures.same.1 (same_from_good rows good.paths small (left_true _ _ good.crossings) good.crossings) in
    let noted = c.in_ok-note_all.ensures.noted yes c.requires.few in
    subst (AreAhead rows) (sym noted.noted) (are_ahead rows good noted.before noted.as_many)
