use Rattle.std.proofs.Common.{◌≡◌, ◌+◌, ◌++◌, ◌∙◌, List, ap, arith, drop, length, sym}
use Rattle.topo_core.specs.declared.calls.Entry.{Entry}
use Rattle.topo_core.specs.History.{versions}
use Rattle.topo_service.proofs.Missed.{if_ok, learnt}
use Rattle.topo_service.proofs.Versions.{begins_length}
use Rattle.topo_service.proofs.planned.inbox.Inbox.learn.Goals as goal

pub invariant_of-self-then-is_ok : goal.invariant_of-self-then-is_ok
invariant_of-self-then-is_ok g c _ =
    let all = c.args.all.now in
    let known = c.self.inside.to in
    let begins = c.is_prefix_of.ensures.prefix c.if-not-is_prefix_of.false in
    let count : length known + length (versions (drop c.in-Some.place c.args.history.now)) ≡ length all =
    omega (arith, c.in-Some.ensures.count, c.len-2.ensures.len, c.len-3.ensures.len, begins_length known all begins) in
    let added = if_ok c.add_from.result (sym c.is_ok.ensures.value ∙ c.if-is_ok.true) c.add_from.ensures in
    let later = versions (drop c.in-Some.place c.args.history.now) in
    c.share.ensures.same ∙ learnt c.args.history.now all known c.self.inside.from c.self.inside.missed.items c.in-Some.place c.requires begins
    (c.self.invariant c.if-not-self.false) count ∙ ap (λ es. c.self.inside.from ++ es) (sym {A = List Entry} added)
