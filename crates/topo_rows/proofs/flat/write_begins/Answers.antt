use Rattle.std.proofs.Common.{◌≡◌, ◌++◌, arith, drop, length, subst, take, ℕ, ◌∙◌}
use Rattle.topo_rows.specs.Flats.{begins_from}
use Rattle.topo_rows.proofs.Begins.{last_begin}
use Rattle.topo_rows.proofs.flat.write_begins.Goals as goal

pub returns : goal.returns
returns c =
    let begins = c.loop-i.begins in
    let edges = c.args.edges.now in
    let all : c.loop-i.i ≡ length edges = omega arith in
    last_begin begins c.loop-i.next edges (omega arith)
    ∙ subst (λ (n : ℕ). take n begins ++ begins_from c.loop-i.next (drop n edges) ≡ begins_from 0 edges) all c.loop-i.invariant.listed
