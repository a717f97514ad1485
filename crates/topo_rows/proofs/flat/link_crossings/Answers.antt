use Rattle.std.proofs.Common.{arith, get_or, sym}
use Rattle.std.proofs.lemmas.List.{get_or_default}
use Rattle.topo_core.specs.declared.darts.Sign.TheVariants.{LeftToRight}
use Rattle.topo_core.specs.declared.rows.CrossRow.{CrossRow}
use Rattle.topo_rows.proofs.Rounds.{crossing_more, crossing_read}
use Rattle.topo_rows.proofs.flat.link_crossings.Goals as goal

-- what a read past the end would give
abbrev no_row : CrossRow
no_row = record { id = 0; crossed = 0; newcomer = 0; sign = LeftToRight }

pub link_crossing-requires-clause-crossed : goal.link_crossing-requires-clause-crossed
link_crossing-requires-clause-crossed c =
    (crossing_read c.args.rows.now c.requires.well_formed c.args.ahead.now c.requires.ahead c.loop-i.i c.as_slice-crossings.result.now no_row
    c.as_slice-crossings.ensures c.loop-i-test.true).crossed_some

pub link_crossing-requires-clause-newcomer : goal.link_crossing-requires-clause-newcomer
link_crossing-requires-clause-newcomer c =
    (crossing_read c.args.rows.now c.requires.well_formed c.args.ahead.now c.requires.ahead c.loop-i.i c.as_slice-crossings.result.now no_row
    c.as_slice-crossings.ensures c.loop-i-test.true).newcomer_some

pub link_crossing-requires-clause-crossed_within : goal.link_crossing-requires-clause-crossed_within
link_crossing-requires-clause-crossed_within c = let room = c.requires.room in let same = c.loop-i.auto.images in let within =
    (crossing_read c.args.rows.now c.requires.well_formed c.args.ahead.now c.requires.ahead c.loop-i.i c.as_slice-crossings.result.now no_row
    c.as_slice-crossings.ensures c.loop-i-test.true).crossed_within in omega arith

pub link_crossing-requires-clause-newcomer_within : goal.link_crossing-requires-clause-newcomer_within
link_crossing-requires-clause-newcomer_within c = let room = c.requires.room in let same = c.loop-i.auto.images in let within =
    (crossing_read c.args.rows.now c.requires.well_formed c.args.ahead.now c.requires.ahead c.loop-i.i c.as_slice-crossings.result.now no_row
    c.as_slice-crossings.ensures c.loop-i-test.true).newcomer_within in omega arith

pub loop-i-preserved : goal.loop-i-preserved
loop-i-preserved c =
    crossing_more c.args.rows.now c.loop-i.i (get_or c.as_slice-crossings.result.now c.loop-i.i no_row)
    c.args.images.now
    c.as_slice-crossings.ensures c.loop-i-test.true
    (sym (get_or_default c.as_slice-crossings.result.now c.loop-i.i (get_or c.as_slice-crossings.result.now c.loop-i.i no_row) no_row c.loop-i-test.true))
    (crossing_read c.args.rows.now c.requires.well_formed c.args.ahead.now c.requires.ahead c.loop-i.i c.as_slice-crossings.result.now no_row
    c.as_slice-crossings.ensures c.loop-i-test.true).round c.loop-i.invariant c.link_crossing.ensures
