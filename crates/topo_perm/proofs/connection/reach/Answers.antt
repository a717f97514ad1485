use Rattle.std.proofs.Common.{◌<◌, arith, length, subst}
use Rattle.topo_core.specs.Cycles.{map_of}
use Rattle.topo_perm.specs.Reach.{IsVisit}
use Rattle.topo_perm.proofs.permutations.Search.{Searched, search_start, searched_all, two_visits, first_visit, count_room, found_most}
use Rattle.topo_perm.proofs.connection.reach.Goals as goal

pub visit-found-requires-clause-room : goal.visit-found-requires-clause-room
visit-found-requires-clause-room c fresh =
    omega (
      arith,
      count_room (length c.args.images.now) c.args.seen.now c.args.before c.args.start c.requires.counted c.requires.within fresh,
      c.requires.order_length,
    )

pub loop-done-init : goal.loop-done-init
loop-done-init c =
    search_start (map_of c.args.images.now)
    (length c.args.images.now) _ c.requires.within c.requires.seen_length c.requires.order_length c.requires.counted c.visit-found.ensures

pub returns-then-done-found-clause-reached : goal.returns-then-done-found-clause-reached
returns-then-done-found-clause-reached c =
    searched_all c.requires.permutation c.requires.even c.requires.within c.requires.closed c.loop-done.invariant (omega arith)

pub returns-clause-reached : goal.returns-clause-reached
returns-clause-reached c =
    let most = found_most (map_of c.args.images.now) _ _ _ _ _ _ _ c.loop-done.invariant.state in
    let low = c.loop-done.invariant.state.more in
    searched_all c.requires.permutation c.requires.even c.requires.within c.requires.closed c.loop-done.invariant
    (omega (arith, most, low, c.loop-done-test.false))

pub visit-found-requires-in-loop-done-clause-room : goal.visit-found-requires-in-loop-done-clause-room
visit-found-requires-in-loop-done-clause-room c fresh =
    let f = map_of c.args.images.now in
    let n = length c.args.images.now in
    let s : Searched f n c.args.seen.now c.args.start c.args.before c.loop-done.seen c.loop-done.order c.loop-done.found c.loop-done.done =
    c.loop-done.invariant in
    let l : c.loop-done.done < c.loop-done.found = omega (arith, s.behind, c.if-done-found.false) in
    omega (
      arith,
      count_room n _ _ _ s.state.count (c.requires.permutation.within _ (s.state.within c.loop-done.done s.since l)) fresh,
      s.state.order_length,
    )

pub visit-found-requires-in-loop-done-2-clause-room : goal.visit-found-requires-in-loop-done-2-clause-room
visit-found-requires-in-loop-done-2-clause-room c fresh =
    let f = map_of c.args.images.now in
    let n = length c.args.images.now in
    let s : Searched f n c.args.seen.now c.args.start c.args.before c.loop-done.seen c.loop-done.order c.loop-done.found c.loop-done.done =
    c.loop-done.invariant in
    let l : c.loop-done.done < c.loop-done.found = omega (arith, s.behind, c.if-done-found.false) in
    let v = first_visit c.visit-found-in-loop-done.new.seen c.visit-found-in-loop-done.new.order c.visit-found-in-loop-done.result c.requires.permutation s
    l c.visit-found-in-loop-done.ensures in
    omega (arith, count_room n _ _ _ v.state.count c.other_dart-other.ensures.within fresh, v.state.order_length)

pub loop-done-preserved : goal.loop-done-preserved
loop-done-preserved c =
    let f = map_of c.args.images.now in
    let n = length c.args.images.now in
    let s : Searched f n c.args.seen.now c.args.start c.args.before c.loop-done.seen c.loop-done.order c.loop-done.found c.loop-done.done =
    c.loop-done.invariant in
    let l : c.loop-done.done < c.loop-done.found = omega (arith, s.behind, c.if-done-found.false) in
    two_visits c.visit-found-in-loop-done.new.seen
    c.visit-found-in-loop-done.new.order
    c.visit-found-in-loop-done.result
    c.requires.permutation c.requires.even c.requires.within s l c.visit-found-in-loop-done.ensures
    (subst (λ d. IsVisit c.visit-found-in-loop-done.new.seen c.visit-found-in-loop-done-2.new.seen c.visit-found-in-loop-done.new.order
    c.visit-found-in-loop-done-2.new.order c.visit-found-in-loop-done.result c.visit-found-in-loop-done-2.result d)
    c.other_dart-other.ensures.other c.visit-found-in-loop-done-2.ensures)
