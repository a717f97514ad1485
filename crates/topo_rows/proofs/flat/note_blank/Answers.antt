use Rattle.std.proofs.Common.{◌≤◌, ◌<◌, ◌*◌, ap, arith, length, List, map, subst, sum_by, sym}
use Rattle.std.proofs.lemmas.List.{length-map}
use Rattle.topo_core.specs.declared.rows.CrossRow.{CrossRow}
use Rattle.topo_core.specs.declared.rows.EdgeRow.{EdgeRow}
use Rattle.topo_core.specs.Picture.{segment_count}
use Rattle.topo_rows.proofs.Filling.{noted_at_end, told_at_end, told_at_stop}
use Rattle.topo_rows.proofs.Finding.{ids_rise}
use Rattle.topo_rows.proofs.Rounds.{paths_named}
use Rattle.topo_rows.proofs.Sorting.{few_rise}
use Rattle.topo_rows.proofs.flat.note_blank.Goals as goal

pub note_paths-requires-clause-rise : goal.note_paths-requires-clause-rise
note_paths-requires-clause-rise c = ids_rise c.args.rows.now c.as_slice-crossings.result.now c.requires.rise c.as_slice-crossings.ensures

pub note_paths-requires-clause-known : goal.note_paths-requires-clause-known
note_paths-requires-clause-known c =
    paths_named c.args.rows.now c.requires.paths c.as_slice-crossings.result.now c.as_slice-edges.result.now
    c.as_slice-crossings.ensures c.as_slice-edges.ensures

pub note_paths-requires-clause-few : goal.note_paths-requires-clause-few
note_paths-requires-clause-few c =
    let many = few_rise c.args.rows.now.next_crossing (map (λ x. x.id) c.args.rows.now.crossings) c.requires.rise in
    let each = length-map c.args.rows.now.crossings (λ (x : CrossRow). x.id) in
    let same = ap length c.as_slice-crossings.ensures in omega arith

pub note_paths-requires-clause-room : goal.note_paths-requires-clause-room
note_paths-requires-clause-room c = let room = c.requires.room in let same = ap length c.as_slice-crossings.ensures in omega arith

pub returns-then-not-note_paths-clause-same : goal.returns-then-not-note_paths-clause-same
returns-then-not-note_paths-clause-same c =
    let small : c.args.rows.now.next_crossing ≤ 4294967296 = omega arith in
    told_at_stop c.args.rows.now c.requires.paths small c.requires.rise c.requires.differ c.as_slice-crossings.result.now c.as_slice-edges.result.now
    c.args.ahead.now c.as_slice-crossings.ensures c.as_slice-edges.ensures c.requires.blank c.requires.room
    (c.note_paths.ensures.overfull c.if-not-note_paths.true)

pub returns-clause-same : goal.returns-clause-same
returns-clause-same c =
    let small : c.args.rows.now.next_crossing ≤ 4294967296 = omega arith in
    told_at_end c.args.rows.now c.requires.paths small c.requires.rise c.requires.differ c.as_slice-crossings.result.now c.as_slice-edges.result.now
    c.args.ahead.now c.as_slice-crossings.ensures c.as_slice-edges.ensures c.requires.blank c.requires.room
    c.note_paths.new.ahead c.is_full.result c.note_paths.auto.ahead (c.note_paths.ensures.filled c.if-not-note_paths.false) c.is_full.ensures

pub returns-clause-noted : goal.returns-clause-noted
returns-clause-noted c = λ yes few.
    let small : c.args.rows.now.next_crossing ≤ 4294967296 = omega arith in
    noted_at_end c.args.rows.now c.requires.paths small c.requires.rise c.requires.differ c.as_slice-crossings.result.now c.as_slice-edges.result.now
    c.args.ahead.now c.as_slice-crossings.ensures c.as_slice-edges.ensures c.requires.blank c.requires.room
    c.note_paths.new.ahead (let same = c.as_slice-edges.ensures in
    c.note_paths.ensures.noted c.if-not-note_paths.false (subst (λ (es : List EdgeRow). 2 * sum_by segment_count es < 4294967296) (sym same) few))
