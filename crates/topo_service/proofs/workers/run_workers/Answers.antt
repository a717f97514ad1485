use Rattle.std.proofs.Common.{◌≡◌, ◌<◌, ◌-◌, [], length, map, slice_index_or, ap, ◌∙◌, arith, rules}
use Rattle.std.proofs.lemmas.List.{get_or-map}
use Rattle.topo_versions.specs.Names.{prices_named}
use Rattle.topo_service.specs.Commands.{end_by, receipts_of}
use Rattle.topo_service.proofs.Working.{ended}
use Rattle.topo_service.proofs.workers.run_workers.Goals as goal

pub returns-clause-ended : goal.returns-clause-ended
returns-clause-ended g c i p e lt =
    let list = slice_index_or c.args.lists.now i [] in
    let new = c.run_each.new.passes in
    let here : i < length c.args.passes.now = omega (arith, c.requires, lt) in
    let there : i < length new = search (rules, arith) in
    let before : slice_index_or c.as_slice.result.now i 0 ≡ receipts_of (slice_index_or c.args.passes.now i p) =
    ap (λ xs. slice_index_or xs i 0) (c.as_slice.ensures.value ∙ c.in_ok-before.ensures) ∙ get_or-map receipts_of c.args.passes.now i p 0 here in
    let told = c.tell_ends.ensures.told i p e there ∙ ap (λ n. end_by (receipts_of (slice_index_or new i p) - n) (length list)) before in
    ended (prices_named g.F.PriceFn.may_return g.K.ServiceBrand.closure) g.K.ServiceBrand.start (slice_index_or c.args.passes.now i p) (slice_index_or new i p) list _ (c.run_each.ensures.made i p lt) told
