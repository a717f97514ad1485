use Rattle.std.proofs.Common.{◌≡◌, All, List, ap, arith, drop, length, rules, subst, sym, ◌∙◌}
use Rattle.topo_core.specs.declared.calls.Command.{Command}
use Rattle.topo_service.specs.declared.workers.WorkerEnd.{WorkerEnd}
use Rattle.topo_service.specs.declared.workers.WorkerEnd.TheVariants.{Done}
use Rattle.topo_service.specs.Passes.{PassState}
use Rattle.topo_versions.specs.Names.{prices_named}
use Rattle.topo_run.proofs.Passing.{all_worked, take_before}
use Rattle.topo_run.specs.Working.{AreOpened, HaveWorked}
use Rattle.topo_run.proofs.passes.run_all.Goals as goal

pub returns-then-are_done-clause-worked : goal.returns-then-are_done-clause-worked
returns-then-are_done-clause-worked g c =
    let lists : List (List Command) = c.args.lists.now in
    let old : List PassState = c.as_mut_slice.result.now in
    let new : List PassState = c.run_workers-ran.new.passes in
    let ends : List WorkerEnd = c.in-Ok.ends.items in
    let opens : old ≡ c.in_ok-passes.passes.items = c.as_mut_slice.ensures.value in
    let opened : AreOpened old = subst (λ (ps : List PassState). AreOpened ps) (sym opens) c.in_ok-passes.ensures.opened in
    let as_many : length old ≡ length lists = omega (arith, ap length opens, c.in_ok-passes.ensures.count) in
    let still : length new ≡ length old = search rules in
    let one_each : length ends ≡ length lists = c.in-Ok.ensures.one_each in
    let done : All (λ (end : WorkerEnd). end ≡ Done) ends =
    subst (λ (es : List WorkerEnd). All (λ (end : WorkerEnd). end ≡ Done) es) c.as_slice.ensures.value (c.are_done.ensures c.if-are_done.true) in
    let len : c.in_ok-passes.passes.len ≡ length new = search (rules, arith) in
    let worked : HaveWorked lists new = all_worked (prices_named g.F.PriceFn.may_return g.K.ServiceBrand.closure) g.K.ServiceBrand.start old new lists ends opened as_many (still ∙ as_many) one_each done (λ i p e below. c.in-Ok.ensures.ended i p e below) in
    subst (λ (ps : List PassState). HaveWorked lists ps)
    (sym (take_before new (drop (length new) c.in_ok-passes.passes.items) c.in_ok-passes.passes.len len)) worked
