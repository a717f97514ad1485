-- Prices that are known by the kind of an edge alone.
use Rattle.std.proofs.Common.{◌≡◌, ℕ}
use Rattle.std.specs.Prelude.{Option, Some, None, IfSome}
use Rattle.topo_core.specs.declared.rows.Facts.{Facts}
use Rattle.topo_price.specs.Prices.{Asking, IsPriceOf, IsPromise, prices_of}

-- what may be answered for all edges of a kind is their price
pub price_of_kind : (answers : Asking) (kind : ℕ) → IsPromise answers → (known : Option (Option ℕ))
    → IfSome known (λ answer. (facts : Facts) → facts.kind ≡ kind → answers facts answer)
    → IfSome known (λ answer. (facts : Facts) → facts.kind ≡ kind → IsPriceOf (prices_of answers) facts answer)
price_of_kind answers kind promise None known = tt
price_of_kind answers kind promise (Some None) known = λ facts at n asked. let same = promise.single facts None (Some n) (known facts at) asked in cc
price_of_kind answers kind promise (Some (Some n)) known = known
