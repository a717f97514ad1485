use Rattle.std.proofs.Common.{sym, ap, ◌∙◌}
use Rattle.std.specs.Option.{option_flatten}
use Rattle.topo_table.specs.Places.{entries, value_of}
use Rattle.topo_table.proofs.PlaceLemmas.{value_of-found}
use Rattle.topo_table.proofs.table.Table.find.Goals as goal

pub returns-in-Some : goal.returns-in-Some
returns-in-Some g c =
    let found = value_of-found c.args.id c.self.inside.slots.entries c.self.invariant.0 in
    let now = ap (λ t. value_of c.args.id (entries t)) c.self.view_is in
    let at = c.in-Some.ensures.value in
    c.as_ref.ensures.value ∙ ap option_flatten at ∙ sym found ∙ now

pub returns-in-None : goal.returns-in-None
returns-in-None g c =
    let found = value_of-found c.args.id c.self.inside.slots.entries c.self.invariant.0 in
    let now = ap (λ t. value_of c.args.id (entries t)) c.self.view_is in
    let at = c.in-None.ensures.value in
    ap option_flatten at ∙ sym found ∙ now
