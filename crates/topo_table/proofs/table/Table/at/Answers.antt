use Rattle.std.proofs.Common.{Some, slice_get, sym, ap, ◌∙◌}
use Rattle.topo_table.proofs.table.Table.at.Goals as goal

pub returns-in-None-clause-empty : goal.returns-in-None-clause-empty
returns-in-None-clause-empty g c =
    let now = ap (λ t. slice_get t.slots c.args.place) c.self.view_is in
    (c.in_ok-id.id.now, sym now ∙ sym c.in_ok-id.ensures.entry ∙ ap (λ w. Some (c.in_ok-id.id.now, w)) c.in-None.is)
