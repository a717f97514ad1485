use Rattle.std.proofs.Common.{◌≡◌, ◌<◌, ◌+◌, ◌*◌, arith, length, List, map, subst, ℕ}
use Rattle.topo_rows.specs.Flats.{path_notes, written}
use Rattle.topo_rows.specs.Notes.{Fills, IsOverfull}
use Rattle.topo_rows.specs.Pairs.{pair}
use Rattle.topo_rows.proofs.Filling.{all_filled, all_numbered, overfull_path, paths_filled, paths_numbered}
use Rattle.topo_rows.proofs.Noting.{all_at}
use Rattle.topo_rows.proofs.flat.note_paths.Goals as goal

pub note_path-requires-clause-known : goal.note_path-requires-clause-known
note_path-requires-clause-known c = grind (arith, all_at)

pub returns-in-None-clause-overfull : goal.returns-in-None-clause-overfull
returns-in-None-clause-overfull c = λ fails.
    overfull_path c.args.crossings.now c.args.edges.now c.loop-row.row-index c.row-item.result c.loop-row-test.true c.row-item.is c.args.ahead.now
    c.loop-row.ahead c.loop-row.invariant.filled
    (subst (λ (path : List ℕ). IsOverfull c.args.crossings.now c.loop-row.ahead (map (pair c.row-item.result.id) path)) c.as_slice-path.ensures
    c.in-None.ensures.overfull)

pub loop-row-preserved : goal.loop-row-preserved
loop-row-preserved c =
    let row = c.row-item.result in
    let ahead = c.loop-row.ahead in
    let after = c.note_path.new.ahead in
    record {
      filled = paths_filled c.args.crossings.now c.args.edges.now c.loop-row.row-index row c.loop-row-test.true c.row-item.is c.args.ahead.now ahead after
          (subst (λ (path : List ℕ). Fills c.args.crossings.now ahead after (map (pair row.id) path)) c.as_slice-path.ensures c.in-Some.ensures.filled)
          c.loop-row.invariant.filled;
      numbered = λ small.
          paths_numbered c.args.crossings.now c.args.edges.now c.loop-row.row-index row c.loop-row-test.true c.row-item.is c.loop-row.begin c.in-Some.next
          ahead after _
          (subst (λ (path : List ℕ). c.loop-row.begin + 2 * (length path + 1) < 4294967296 → (c.in-Some.next ≡ c.loop-row.begin + 2 * (length path + 1))
          × (after ≡ written ahead (path_notes c.args.crossings.now row.id c.loop-row.begin path))) c.as_slice-path.ensures c.in-Some.ensures.noted)
          small (c.loop-row.invariant.numbered small);
    }

pub returns-clause-filled : goal.returns-clause-filled
returns-clause-filled c = λ yes.
    all_filled c.args.crossings.now c.args.edges.now c.loop-row.row-index c.args.ahead.now c.loop-row.ahead c.loop-row-test.false c.loop-row.invariant.filled

pub returns-clause-noted : goal.returns-clause-noted
returns-clause-noted c = λ yes small.
    all_numbered c.args.crossings.now c.args.edges.now c.loop-row.row-index c.args.ahead.now c.loop-row.ahead c.loop-row-test.false c.loop-row.begin
    (c.loop-row.invariant.numbered small)
