use Rattle.std.proofs.Common.{List, ℕ, sym, subst}
use Rattle.std.specs.Io.KnownBytes.{Consumes}
use Rattle.std.proofs.KnownBytes.{Consumes-trans}
use Rattle.topo_io.proofs.reading.read_bytes.Goals as goal

pub returns-then-branch-clause-read : goal.returns-then-branch-clause-read
returns-then-branch-clause-read g c =
    let more = c.in_ok-read_more.ensures.more in
    record {
      consumed = subst (λ (bs : List ℕ). Consumes c.args.reader.now.left c.read_more.new.reader.left bs) (sym more.appended)
          (Consumes-trans _ _ _ _ _ c.loop.invariant.0 more.consumed);
      within = c.in_ok-read_more.ensures.within;
      whole = λ _. c.in_ok-read_more.ensures.end c.if-branch.true;
    }
