use Rattle.std.proofs.Common.{◌++◌, ◌≡◌, ◌≢◌, ◌≤◌, [], ap, arith, length, rules, subst, sym, Result, Err, IfErr}
use Rattle.std.proofs.KnownBytes.{Keeps-refl}
use Rattle.std.proofs.lemmas.List.{length-take}
use Rattle.topo_serve.specs.declared.ahead.Part.{Part}
use Rattle.topo_io.specs.declared.fault.RunFault.{RunFault}
use Rattle.topo_io.specs.declared.fault.RunFault.TheVariants.{ReadFault}
use Rattle.topo_serve.specs.Taking.{EndsBy, ReadsNoFeed}
use Rattle.topo_serve.proofs.TakingLaws.{first_fed, first_long, first_over, line_on, no_feed}
use Rattle.topo_serve.proofs.ahead.Ahead.take_first.Goals as goal

pub returns-in-Feed-clause-line : goal.returns-in-Feed-clause-line
returns-in-Feed-clause-line g c =
    let (so_far, plain, takes, kept, within, short, none) = c.loop.invariant in
    first_fed _ _ _ _ _ _ _ _ _ so_far (record { plain = plain; takes = takes; kept = kept }) _ c.in_ok-take_part.ensures.part c.in-Feed.is short

pub returns-then-len-most-clause-line : goal.returns-then-len-most-clause-line
returns-then-len-most-clause-line g c =
    let (so_far, plain, takes, kept, within, short, none) = c.loop.invariant in
    let whole : length c.take_part.new.line.items ≡ c.args.most = search rules in
    first_long _ _ _ _ _ _ _ _ _ so_far (record { plain = plain; takes = takes; kept = kept }) _ c.in_ok-take_part.ensures.part c.in-More.is short whole

pub returns-in-End-clause-line : goal.returns-in-End-clause-line
returns-in-End-clause-line g c =
    let (so_far, plain, takes, kept, within, short, none) = c.loop.invariant in
    first_over _ _ _ _ _ _ _ _ _ so_far (record { plain = plain; takes = takes; kept = kept }) _ c.in_ok-take_part.ensures.part c.in-End.is short

pub returns-in_err-take_part-clause-no_feed : goal.returns-in_err-take_part-clause-no_feed
returns-in_err-take_part-clause-no_feed g c =
    let (so_far, plain, takes, kept, within, short, none) = c.loop.invariant in
    let Told = λ (fault : RunFault). fault ≡ ReadFault → c.args.self.now ≡ [] → ReadsNoFeed (g.R.Read.remaining c.args.reader.now)
    (g.R.Read.remaining c.take_part.new.reader) in
    let told : Told c.in_err-take_part.field-0.0 =
    λ failed first. let (nothing, stays) = c.in_err-take_part.ensures.none failed in no_feed _ _ _ _ _ _ takes first nothing plain stays in
    let is : c.from_residual.result ≡ Err c.in_err-take_part.field-0.0 = search rules in
    subst (λ (r : Result Part RunFault). IfErr r Told) (sym is) told

pub returns-clause-no_feed : goal.returns-clause-no_feed
returns-clause-no_feed g c = λ failed first.
    let (so_far, plain, takes, kept, within, short, none) = c.loop.invariant in
    no_feed _ _ _ _ _ _ takes first (none first) plain (Keeps-refl (g.R.Read.remaining c.loop.reader))

pub loop-preserved : goal.loop-preserved
loop-preserved g c =
    let (so_far, plain, takes, kept, within, short, none) = c.loop.invariant in
    let part = c.in_ok-take_part.ensures.part in
    let on = line_on _ _ _ _ _ _ _ _ _ so_far (record { plain = plain; takes = takes; kept = kept }) _ part c.in-More.is in
    let below : length c.take_part.new.line.items ≢ c.args.most = search rules in
    let longer : length (so_far ++ part.more) ≤ c.args.most = omega (arith, below, ap length on.kept, length-take c.args.most (so_far ++ part.more)) in
    let empty = subst (λ (q : Part). EndsBy q (g.R.Read.remaining c.take_part.new.reader) c.take_part.new.self) c.in-More.is part.ended in
    (so_far ++ part.more, on.plain, on.takes, on.kept, c.in_ok-take_part.ensures.within, longer, λ _. empty)
