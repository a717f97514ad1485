use Rattle.std.proofs.Common.{ℕ, Bool, false, ◌≡◌, ◌<◌, arith, length, sym, ◌∙◌}
use Rattle.std.specs.Prelude.{◌==◌}
use Rattle.std.proofs.lemmas.Bool.Decides.{nat_tests}
use Rattle.std.proofs.lemmas.List.{length-set}
use Rattle.topo_rows.proofs.Rounds.{edge_known, rotation_read, round_ends, round_goes_on, round_length, round_number, round_starts, round_within}
use Rattle.topo_rows.proofs.flat.link_vertex.Goals as goal

some_length : (n : ℕ) (t : Bool) → t ≡ (n == 0) → t ≡ false → 0 < n
some_length n t is empty = grind (arith, nat_tests)

pub end_number-first-requires-clause-there : goal.end_number-first-requires-clause-there
end_number-first-requires-clause-there c = edge_known c.args.rows.now c.requires.well_formed c.args.v c.requires.vertex c.as_slice-around.result.now
    (rotation_read c.args.rows.now c.args.v c.as_slice-around.result.now c.index-as_slice-v.result c.as_slice.result.now c.requires.vertex
    c.as_slice-around.ensures c.index-as_slice-v.is c.as_slice.ensures) 0 (some_length _ _ c.is_empty.ensures c.if-is_empty.false)

pub loop-i-init : goal.loop-i-init
loop-i-init c =
    let around = (rotation_read c.args.rows.now c.args.v c.as_slice-around.result.now c.index-as_slice-v.result c.as_slice.result.now c.requires.vertex
    c.as_slice-around.ensures c.index-as_slice-v.is c.as_slice.ensures) in
    let many = round_length c.args.rows.now c.args.v c.as_slice-around.result.now around in
    let some : 0 < length c.as_slice-around.result.now = some_length _ _ c.is_empty.ensures c.if-is_empty.false in
    let number = c.end_number-first.ensures ∙ sym (round_number c.args.rows.now c.args.v c.as_slice-around.result.now around 0 some) in
    grind (arith, round_within, round_starts)

pub end_number-next-requires-clause-there : goal.end_number-next-requires-clause-there
end_number-next-requires-clause-there c = edge_known c.args.rows.now c.requires.well_formed c.args.v c.requires.vertex c.as_slice-around.result.now
    (rotation_read c.args.rows.now c.args.v c.as_slice-around.result.now c.index-as_slice-v.result c.as_slice.result.now c.requires.vertex
    c.as_slice-around.ensures c.index-as_slice-v.is c.as_slice.ensures) c.loop-i.i c.loop-i-test.true

pub loop-i-preserved : goal.loop-i-preserved
loop-i-preserved c =
    let around = (rotation_read c.args.rows.now c.args.v c.as_slice-around.result.now c.index-as_slice-v.result c.as_slice.result.now c.requires.vertex
    c.as_slice-around.ensures c.index-as_slice-v.is c.as_slice.ensures) in
    let many = round_length c.args.rows.now c.args.v c.as_slice-around.result.now around in
    let number = c.end_number-next.ensures ∙ sym (round_number c.args.rows.now c.args.v c.as_slice-around.result.now around c.loop-i.i c.loop-i-test.true) in
    grind (arith, round_within, length-set, round_goes_on)

pub returns : goal.returns
returns c = grind (arith, rotation_read, round_length, round_ends)
