use Rattle.std.proofs.Common.{ℕ, List, rules, subst, sym}
use Rattle.topo_serve.specs.Taking.{TakesLine}
use Rattle.topo_serve.specs.Turns.{TurnFailsBy, streams}
use Rattle.topo_serve.proofs.SessionLaws.{turn_made, turn_told}
use Rattle.topo_serve.proofs.serve.serve_line.Goals as goal

pub returns-clause-turn : goal.returns-clause-turn
returns-clause-turn g c =
    let old = streams (g.I.Read.remaining c.args.reader.now) c.args.ahead.now (g.O.Write.contents c.args.writer.now) in
    let new = streams (g.I.Read.remaining c.take_line.new.reader) c.take_line.new.self (g.O.Write.contents c.answer_if.new.writer) in
    let from = c.args.session.now in
    let has_feed = c.in_ok-has_feed.has_feed in
    let line = c.as_slice.result.now in
    let t : TakesLine 268435457 old.left new.left old.ahead new.ahead line has_feed =
    subst (λ (k : List ℕ). TakesLine 268435457 old.left new.left old.ahead new.ahead k has_feed) (sym c.as_slice.ensures.value) c.in_ok-has_feed.ensures.line in
    turn_made old new from has_feed line t c.answer_if.new.session c.in_ok-answer_if.ensures.told

pub returns-in_err-answer_if-clause-fault : goal.returns-in_err-answer_if-clause-fault
returns-in_err-answer_if-clause-fault g c =
    let old = streams (g.I.Read.remaining c.args.reader.now) c.args.ahead.now (g.O.Write.contents c.args.writer.now) in
    let new = streams (g.I.Read.remaining c.take_line.new.reader) c.take_line.new.self (g.O.Write.contents c.answer_if.new.writer) in
    let from = c.args.session.now in
    let has_feed = c.in_ok-has_feed.has_feed in
    let line = c.as_slice.result.now in
    let t : TakesLine 268435457 old.left new.left old.ahead new.ahead line has_feed =
    subst (λ (k : List ℕ). TakesLine 268435457 old.left new.left old.ahead new.ahead k has_feed) (sym c.as_slice.ensures.value) c.in_ok-has_feed.ensures.line in
    let told : TurnFailsBy c.in_err-answer_if.field-0.0 old new from =
    turn_told old new from has_feed line t c.in_err-answer_if.field-0.0 c.in_err-answer_if.ensures.fault in
    search (rules, told)
