use Rattle.std.proofs.Common.{◌≤◌, IfOk, MatchOption, MatchResult, arith, refl, subst, sym}
use Rattle.std.proofs.lemmas.Bool.Decides.{nat_tests}
use Rattle.topo_core.specs.declared.calls.Call.TheVariants.{Insert}
use Rattle.topo_core.specs.Routes.{IsFirst}
use Rattle.topo_core.specs.Steps.{IsRefused}
use Rattle.topo_price.specs.Prices.{prices_of}
use Rattle.topo_book.specs.Fullness.{CrossesAlways}
use Rattle.topo_book.proofs.FullPictures.{refused_as_full}
use Rattle.topo_book.proofs.steps.find_or_refuse.Goals.{in-Some, in-None}
use Rattle.topo_book.proofs.steps.find_or_refuse.Goals as goal

pub returns-then-are_all_priced : goal.returns-then-are_all_priced
returns-then-are_all_priced g c =
    let price = prices_of (g.F.PriceFn.may_return c.args.tariff.now) in
    let limits = c.args.picture.now.limits in
    let u = c.args.edge.0 in
    let v = c.args.edge.1 in
    let kind = c.args.edge.2 in
    let found = subst (λ rows. MatchOption c.in_ok-direct.direct (CrossesAlways rows u v) (λ r. IsFirst price rows u v r.route r.price))
    c.embedded.ensures c.in_ok-direct.ensures in
    let rows = c.args.picture.now.rows in
    let full : limits.crossings ≤ rows.next_crossing = grind (arith, nat_tests, c.if-has_no_crossing_left.ensures) in
    elim c.match-direct.branch [
      | in-Some w ↦
          subst (λ r. IfOk r (λ f. MatchResult f (λ r. IsFirst price rows u v r.route r.price) (IsRefused price limits rows (Insert u v kind))))
          (sym w.result-is)
          (subst (λ o. MatchOption o (CrossesAlways rows u v) (λ r. IsFirst price rows u v r.route r.price)) w.in-Some.is found)
      | in-None w ↦
          subst (λ r. IfOk r (λ f. MatchResult f (λ r. IsFirst price rows u v r.route r.price) (IsRefused price limits rows (Insert u v kind))))
          (sym w.result-is)
          (refused_as_full price limits rows c.kept_rows.ensures.lawful (c.if-are_all_priced.ensures refl) u v kind c.keeps_promise.ensures c.requires.admitted
          full
          (subst (λ o. MatchOption o (CrossesAlways rows u v) (λ r. IsFirst price rows u v r.route r.price)) w.in-None.is found))
    ]
