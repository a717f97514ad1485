use Rattle.topo_planarize.proofs.Judging.{judged_so}
use Rattle.topo_planarize.proofs.planarizer.judged.Goals as goal

pub returns-in-Ok-clause-shows : goal.returns-in-Ok-clause-shows
returns-in-Ok-clause-shows c =
    judged_so _ _ _ _ _ _ _ c.greatest_limits.ensures c.in-Ok.ensures.shows c.in-Ok.ensures.made.3 c.in-Ok.ensures.made.4 c.told.result
    c.told.ensures.told c.told.ensures.cost c.told.ensures.crossings
