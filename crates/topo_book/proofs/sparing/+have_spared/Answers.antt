use Rattle.std.proofs.Common.{refl, sym, ◌∙◌}
use Rattle.topo_book.proofs.Outliving.{ended_spared}
use Rattle.topo_book.proofs.sparing.+have_spared.Goals.{then-is_accepted, else-is_accepted}
use Rattle.topo_book.proofs.sparing.+have_spared.Goals as goal

pub returns-then-spares : goal.returns-then-spares
returns-then-spares t c good =
    let a = c.args in
    elim c.if-is_accepted.branch [
      | then-is_accepted w ↦ ended_spared a.before.now.rows a.region.now a.entries.now c.entry-item.result a.accepted
          c.in-len1-up.len_at_least c.entry-item.is c.if-accepted-eq0.false (sym w.if-is_accepted.true ∙ c.is_accepted.ensures)
          w.left-is (c.if-spares.ensures refl) (c.have_spared.ensures good)
      | else-is_accepted w ↦ ended_spared a.before.now.rows a.region.now a.entries.now c.entry-item.result a.accepted
          c.in-len1-up.len_at_least c.entry-item.is c.if-accepted-eq0.false (sym w.if-is_accepted.false ∙ c.is_accepted.ensures)
          w.left-is (c.if-spares.ensures refl) (c.have_spared.ensures good)
    ]
