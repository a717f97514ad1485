-- The price of a dart is that of the facts of its edge.
use Rattle.std.proofs.Common.{ℕ, ◌≤◌, Some, None, subst}
use Rattle.std.specs.Prelude.{IfSome, Option}
use Rattle.topo_core.specs.declared.darts.Dart.{Dart}
use Rattle.topo_core.specs.declared.rows.Rows.{Rows}
use Rattle.topo_core.specs.declared.rows.Facts.{Facts}
use Rattle.topo_core.specs.declared.rows.TheConstants.{MAX_PRICE}
use Rattle.topo_core.specs.Picture.{edge_at}
use Rattle.topo_core.specs.Routes.{AreFactsOf, KeepsPromise, Pricing}
use Rattle.topo_core.proofs.Interface.{one_facts}
use Rattle.topo_price.specs.Prices.{IsPriceOf}
use Rattle.topo_route.specs.Numbers.{IsPriceFor}

pub by_answer : (price : Pricing) (rows : Rows) (d : Dart) (facts : Facts) (answer : Option ℕ) → AreFactsOf (edge_at rows d.edge) facts
    → IsPriceOf price facts answer → IsPriceFor price rows d answer
by_answer price rows d facts (Some p) known asked = record { facts = facts; known = known; asked = asked }
by_answer price rows d facts None known none =
    λ p priced. none p (subst (λ f. price f p) (one_facts (edge_at rows d.edge) priced.facts facts priced.known known) priced.asked)

-- a price is from 1 to the greatest one
pub priced_in_range : (price : Pricing) (rows : Rows) (d : Dart) (answer : Option ℕ) → KeepsPromise price → IsPriceFor price rows d answer
    → IfSome answer (λ p. (1 ≤ p) × (p ≤ MAX_PRICE))
priced_in_range price rows d (Some p) promise priced = (promise.positive priced.facts p priced.asked, promise.at_most priced.facts p priced.asked)
priced_in_range price rows d None promise none = cc
