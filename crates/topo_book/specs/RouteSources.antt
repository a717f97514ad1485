-- What is true of a known route.
use Rattle.std.specs.Prelude.{ℕ}
use Rattle.topo_core.specs.declared.rows.Rows.{Rows}
use Rattle.topo_core.specs.declared.calls.Call.{Call}
use Rattle.topo_core.specs.declared.calls.Call.TheVariants.{Delete, Grow, Insert}
use Rattle.topo_core.specs.Routes.{IsFirst, Pricing}
use Rattle.topo_price.specs.Prices.{Asking, prices_of}
use Rattle.topo_route.specs.declared.plan.PricedRoute.{PricedRoute}
use Rattle.topo_book.specs.Books.{BookState}
use Rattle.topo_book.specs.declared.route_source.RouteSource.{RouteSource}
use Rattle.topo_book.specs.declared.route_source.RouteSource.TheVariants.{Found, Plan, Search}

-- a route that was found is the first from u to v; of a plan nothing is known
abbrev pub IsTrueOf : Pricing → Rows → ℕ → ℕ → RouteSource PricedRoute → Type 0
IsTrueOf price rows u v Search = Unit {0}
IsTrueOf price rows u v (Plan plan) = Unit {0}
IsTrueOf price rows u v (Found first) = IsFirst price rows u v first.now.route first.now.price

-- what is known of an insertion's route is true of its ends; no other call looks at it
abbrev pub IsSourceFor : Pricing → Rows → Call → RouteSource PricedRoute → Type 0
IsSourceFor price rows (Insert u v kind) source = IsTrueOf price rows u v source
IsSourceFor price rows (Grow u position kind) source = Unit {0}
IsSourceFor price rows (Delete e) source = Unit {0}

-- so it is in the picture of the book, at its prices
abbrev pub IsSourceIn : {F : Type 0} → (F → Asking) → BookState F → Call → RouteSource PricedRoute → Type 0
IsSourceIn answers book call source = IsSourceFor (prices_of (answers book.tariff)) book.picture.rows call source
