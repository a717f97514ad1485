use Rattle.std.proofs.Common.{◌∙◌, rules, true, false}
use Rattle.std.proofs.KnownBytes.{Keeps-refl}
use Rattle.topo_serve.specs.declared.ahead.Part.TheVariants.{End, Feed}
use Rattle.topo_serve.specs.Turns.{FirstFailsBy, streams}
use Rattle.topo_serve.proofs.OpeningLaws.{begins_so, first_long, first_so, first_told, reading_fails}
use Rattle.topo_serve.proofs.serve.serve_first.Goals as goal

pub returns-in_err-take_first-clause-fault : goal.returns-in_err-take_first-clause-fault
returns-in_err-take_first-clause-fault g c =
    let fault = c.in_err-take_first.field-0.0 in
    let old = streams (g.I.Read.remaining c.args.reader.now) c.args.ahead.now (g.O.Write.contents c.args.writer.now) in
    let new = streams (g.I.Read.remaining c.take_first.new.reader) c.take_first.new.self (g.O.Write.contents c.args.writer.now) in
    let told : FirstFailsBy fault old new =
    reading_fails fault old new c.in_err-take_first.ensures.err (λ failed. c.in_err-take_first.ensures.no_feed failed c.requires.nothing_ahead)
    (Keeps-refl (g.O.Write.contents c.args.writer.now)) in
    search (rules, told)

pub returns-in-Feed-clause-begun : goal.returns-in-Feed-clause-begun
returns-in-Feed-clause-begun g c =
    let t = first_so _ _ _ _ _ _ Feed c.in-Feed.is c.in_ok-take_first.ensures.line in
    let is_kept = c.as_slice.ensures.value ∙ t.is_kept in
    begins_so (g.I.Read.remaining c.args.reader.now) (g.I.Read.remaining c.take_first.new.reader) (g.O.Write.contents c.args.writer.now)
    (g.O.Write.contents c.begin.new.writer) c.args.ahead.now c.take_first.new.self c.as_slice.result.now c.requires.nothing_ahead true t.line t.plain t.takes tt
    is_kept t.few c.begin.new.session c.in_ok-begin-in-Feed.ensures.begun

pub returns-in_err-begin-in-Feed-clause-fault : goal.returns-in_err-begin-in-Feed-clause-fault
returns-in_err-begin-in-Feed-clause-fault g c =
    let t = first_so _ _ _ _ _ _ Feed c.in-Feed.is c.in_ok-take_first.ensures.line in
    let is_kept = c.as_slice.ensures.value ∙ t.is_kept in
    let fault = c.in_err-begin-in-Feed.field-0.0 in
    let old = streams (g.I.Read.remaining c.args.reader.now) c.args.ahead.now (g.O.Write.contents c.args.writer.now) in
    let new = streams (g.I.Read.remaining c.take_first.new.reader) c.take_first.new.self (g.O.Write.contents c.begin.new.writer) in
    let told : FirstFailsBy fault old new =
    first_told old.left new.left old.held new.held old.ahead new.ahead c.as_slice.result.now c.requires.nothing_ahead true t.line t.plain t.takes tt
    is_kept t.few fault c.in_err-begin-in-Feed.ensures.fault in
    search (rules, told)

pub returns-clause-begun : goal.returns-clause-begun
returns-clause-begun g c =
    let t = first_so _ _ _ _ _ _ End c.in-End.is c.in_ok-take_first.ensures.line in
    let is_kept = c.as_slice-in-End.ensures.value ∙ t.is_kept in
    begins_so (g.I.Read.remaining c.args.reader.now) (g.I.Read.remaining c.take_first.new.reader) (g.O.Write.contents c.args.writer.now)
    (g.O.Write.contents c.begin-in-End.new.writer) c.args.ahead.now c.take_first.new.self c.as_slice-in-End.result.now c.requires.nothing_ahead false t.line t.plain t.takes t.ends
    is_kept t.few c.begin-in-End.new.session c.in_ok-begin-in-End.ensures.begun

pub returns-in_err-begin-in-End-clause-fault : goal.returns-in_err-begin-in-End-clause-fault
returns-in_err-begin-in-End-clause-fault g c =
    let t = first_so _ _ _ _ _ _ End c.in-End.is c.in_ok-take_first.ensures.line in
    let is_kept = c.as_slice-in-End.ensures.value ∙ t.is_kept in
    let fault = c.in_err-begin-in-End.field-0.0 in
    let old = streams (g.I.Read.remaining c.args.reader.now) c.args.ahead.now (g.O.Write.contents c.args.writer.now) in
    let new = streams (g.I.Read.remaining c.take_first.new.reader) c.take_first.new.self (g.O.Write.contents c.begin-in-End.new.writer) in
    let told : FirstFailsBy fault old new =
    first_told old.left new.left old.held new.held old.ahead new.ahead c.as_slice-in-End.result.now c.requires.nothing_ahead false t.line t.plain t.takes t.ends
    is_kept t.few fault c.in_err-begin-in-End.ensures.fault in
    search (rules, told)

pub returns-in-More-clause-fault : goal.returns-in-More-clause-fault
returns-in-More-clause-fault g c = (
  first_long _ _ (g.O.Write.contents c.args.writer.now) (g.O.Write.contents c.args.writer.now) _ _ _ c.requires.nothing_ahead _ c.in-More.is
      c.in_ok-take_first.ensures.line,
  Keeps-refl (g.O.Write.contents c.args.writer.now),
)
