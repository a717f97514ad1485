use Rattle.std.proofs.Common.{◌≡◌, ◌<◌, ◌++◌, [], append-nil, arith, get_or, length, rules, subst, suc, take, ◌+◌, ℕ}
use Rattle.topo_core.specs.Picture.{cross_row}
use Rattle.topo_session.specs.Questions.{meeting_before, meetings_on}
use Rattle.topo_session.proofs.QuestionLaws.{looked_up}
use Rattle.topo_session.proofs.edges.meetings_on.Goals.{in-Some+in_ok-push, in_default}
use Rattle.topo_session.proofs.edges.meetings_on.Goals as goal

pub loop-crossing-preserved : goal.loop-crossing-preserved
loop-crossing-preserved c =
    let xs = c.args.crossings.now in
    let j = c.loop-crossing.crossing-index in
    let below : j < length xs = search (rules, arith) in
    let found : c.crossing.result ≡ cross_row c.args.rows.now (get_or xs j 0) = search (rules, c.crossing.ensures) in
    let more : c.match-crossing.found.items ≡ c.loop-crossing.found.items ++ meeting_before c.args.e c.crossing.result [] =
    elim c.match-crossing.branch [
      | in-Some+in_ok-push w ↦ search (rules, w.in_ok-push.ensures.items, w.found-is, w.in-Some.is)
      | in_default w ↦ search (rules, w.found-is, append-nil)
    ] in
    let one : suc j ≡ j + 1 = omega arith in
    subst (λ (n : ℕ). c.match-crossing.found.items ≡ meetings_on c.args.rows.now c.args.e (take n xs)) one
    (looked_up c.args.rows.now c.args.e xs j c.loop-crossing.found.items c.match-crossing.found.items c.crossing.result below c.loop-crossing.invariant found more)
