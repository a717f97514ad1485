use Rattle.std.proofs.Common.{Some, subst, sym, ap, ◌∙◌, length}
use Rattle.topo_table.specs.Places.{AreOwnPlaces}
use Rattle.topo_table.proofs.PlaceLemmas.{own-push}
use Rattle.topo_table.proofs.numbered.NumberedTable.push.Goals as goal

pub invariant_of-self : goal.invariant_of-self
invariant_of-self g c = subst AreOwnPlaces (sym c.push_reserved.ensures.items)
    (own-push c.args.id (Some c.args.value) c.self.inside.slots.items c.self.invariant (c.requires.own ∙ ap (λ t. length t.slots) (sym c.self.view_is)))
