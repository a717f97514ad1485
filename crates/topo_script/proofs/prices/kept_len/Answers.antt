use Rattle.std.proofs.Common.{◌≡◌, true, false, sym, ◌∙◌, rules, arith}
use Rattle.topo_script.proofs.PriceLists.{one_more_kept, all_kept}
use Rattle.topo_script.proofs.prices.kept_len.Goals as goal
use Rattle.topo_script.proofs.prices.kept_len.Goals.{then-not-is_one, else-not-is_one}

pub loop-i-preserved : goal.loop-i-preserved
loop-i-preserved c =
    elim c.if-not-is_one.branch [
      | then-not-is_one w ↦
          let other : c.is_one.result ≡ false = search rules in
          (omega arith, rw w.kept-is (all_kept c.args.prices.now c.loop-i.i _ c.loop-i-test.true (sym c.is_one.ensures ∙ other)))
      | else-not-is_one w ↦
          let one : c.is_one.result ≡ true = search rules in (
            omega arith,
            rw w.kept-is (one_more_kept c.args.prices.now c.loop-i.i c.loop-i.kept _ c.loop-i-test.true (sym c.is_one.ensures ∙ one) c.loop-i.invariant.1),
          )
    ]
