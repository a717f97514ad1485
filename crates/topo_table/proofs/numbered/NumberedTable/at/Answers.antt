use Rattle.std.proofs.Common.{◌<◌, Some, length, slice_get, ap, subst, sym, ◌∙◌}
use Rattle.topo_table.proofs.NumberedLemmas.{at_place}
use Rattle.topo_table.proofs.numbered.NumberedTable.at.Goals as goal

pub returns-in-None-clause-empty : goal.returns-in-None-clause-empty
returns-in-None-clause-empty g c =
    let inside = subst (λ t. c.args.place < length t.slots) (sym c.self.view_is) c.requires in
    let at = at_place c.self.inside.slots.items c.args.place c.index.result.now inside c.index.ensures in
    (c.index.result.now.0, ap (λ t. slice_get t.slots c.args.place) (sym c.self.view_is) ∙ at ∙ ap (λ w. Some (c.index.result.now.0, w)) c.in-None.is)
