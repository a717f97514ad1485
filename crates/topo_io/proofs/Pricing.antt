-- Two prices that agree on every edge allow the same runs.
use Rattle.std.proofs.Common.{◌≡◌, ℕ, ◌<◌, List, [], ◌∷◌, Option, Some, None, sym, ap, ◌∙◌, inl}
use Rattle.std.proofs.Common.{inr, arith, get_or, length, slice_get, Result, Ok, Err, IfOk, IfErr}
use Rattle.std.proofs.lemmas.List.FromFn.{get_or-map-range_with_len, length-map-range_with_len}
use Rattle.std.proofs.lemmas.Option.{get_or_from_slice_get, slice_get-get_or}
use Rattle.topo_core.specs.declared.darts.Dart.{Dart}
use Rattle.topo_core.specs.declared.rows.Rows.{Rows}
use Rattle.topo_core.specs.declared.rows.Facts.{Facts}
use Rattle.topo_core.specs.declared.routes.Route.{Route}
use Rattle.topo_core.specs.declared.limits.Limits.{Limits}
use Rattle.topo_core.specs.declared.calls.Call.{Call}
use Rattle.topo_core.specs.declared.calls.Call.TheVariants.{Insert}
use Rattle.topo_core.specs.declared.calls.Command.{Command}
use Rattle.topo_core.specs.declared.calls.Entry.{Entry}
use Rattle.topo_core.specs.declared.calls.Refusal.{Refusal}
use Rattle.topo_core.specs.declared.calls.Reply.{Reply}
use Rattle.topo_core.specs.declared.calls.Reply.TheVariants.{Inserted, Refused}
use Rattle.topo_core.specs.Routes.{Pricing, Costs, IsPricedRoute, IsFirst}
use Rattle.topo_core.specs.Steps.{IsRefused, Step}
use Rattle.topo_core.specs.History.{IsRun, Replays}
use Rattle.topo_price.specs.Prices.{Asking, prices_of}
use Rattle.topo_io.specs.Settings.{AnswersPrices, price_of_kind, price_table, priced}
use Rattle.topo_core.specs.declared.rows.TheConstants.{KINDS}

-- what one asks for, the other does
abbrev pub Allows : Pricing → Pricing → Type 0
Allows a b = (facts : Facts) (n : ℕ) → a facts n → b facts n

costs_so : (a b : Pricing) → Allows a b → (rows : Rows) (ds : List Dart) (n : ℕ) → Costs a rows ds n → Costs b rows ds n
costs_so a b allows rows [] n is = is
costs_so a b allows rows (d ∷ ds) n (p, m, price, cost, sum) =
    (p, m, record { facts = price.facts; known = price.known; asked = allows price.facts p price.asked }, costs_so a b allows rows ds m cost, sum)

route_so : (a b : Pricing) → Allows a b → (rows : Rows) (u v : ℕ) (r : Route) (n : ℕ) → IsPricedRoute a rows u v r n → IsPricedRoute b rows u v r n
route_so a b allows rows u v r n is = record { route = is.route; cost = costs_so a b allows rows r.crossed n is.cost }

module _ (a b : Pricing) (allows : Allows a b) (back : Allows b a) where
  first_so : (rows : Rows) (u v : ℕ) (r : Route) (n : ℕ) → IsFirst a rows u v r n → IsFirst b rows u v r n
  first_so rows u v r n is = record {
    is_least = record {
      priced = route_so a b allows rows u v r n is.is_least.priced;
      least = λ other m other_is. is.is_least.least other m (route_so b a back rows u v other m other_is);
    };
    first = λ other other_is. is.first other (route_so b a back rows u v other n other_is);
  }

  refused_so : (limits : Limits) (p : Rows) (call : Call) (why : Refusal) → IsRefused a limits p call why → IsRefused b limits p call why
  refused_so limits p (Insert u v kind) why (inl before) = inl before
  refused_so limits p (Insert u v kind) why (inr (inl none)) = inr (inl (none.0, none.1, λ r n is. none.2 r n (route_so b a back p u v r n is)))
  refused_so limits p (Insert u v kind) why (inr (inr full)) = inr (inr (
    full.0,
    full.1,
    record {
      route = full.2.route;
      cost = full.2.cost;
      first = first_so p u v full.2.route full.2.cost full.2.first;
      too_many = full.2.too_many;
    },
  ))
  refused_so limits p _ why is = is

  pub step_so : (limits : Limits) (p : Rows) (call : Call) (reply : Reply) (q : Rows) → Step a limits p call reply q → Step b limits p call reply q
  step_so limits p (Insert u v kind) (Inserted made) q is = (is.0, first_so p u v made.route made.price is.1, is.2, is.3, is.4)
  step_so limits p call (Refused why) q is = (refused_so limits p call why is.0, is.1)
  step_so limits p _ _ q is = is

  pub replays_so : (limits : Limits) (p : Rows) (history : List Entry) (q : Rows) → Replays a limits p history q → Replays b limits p history q
  replays_so limits p [] q is = is
  replays_so limits p (entry ∷ history) q is = (is.0, step_so limits p entry.call entry.reply is.0 is.1, replays_so limits is.0 history q is.2)

  pub run_so : (limits : Limits) (p : Rows) (lists : List (List Command)) (history : List Entry) (q : Rows) → IsRun a limits p lists history q
      → IsRun b limits p lists history q
  run_so limits p lists history q is = record {
    replayed = replays_so limits p history q is.replayed;
    calls = is.calls;
    callers = is.callers;
  }

-- ---- The prices of all kinds

pub table_price : (prices table : List (Option ℕ)) (kind : ℕ) (answer : Option ℕ) → table ≡ price_table prices → kind < KINDS
    → slice_get table kind ≡ Some answer → answer ≡ price_of_kind prices kind
unfolding price_table
table_price prices table kind answer is below there =
    sym (get_or_from_slice_get table kind answer answer there) ∙ ap (λ (ps : List (Option ℕ)). get_or ps kind answer) is
    ∙ get_or-map-range_with_len (price_of_kind prices) 0 KINDS kind kind answer below (omega arith)

price_there : (prices table : List (Option ℕ)) (kind : ℕ) → table ≡ price_table prices → kind < KINDS → slice_get table kind ≡ Some (price_of_kind prices kind)
unfolding price_table
price_there prices table kind is below =
    let all : length table ≡ KINDS = ap length is ∙ length-map-range_with_len (price_of_kind prices) 0 KINDS in
    let there = slice_get-get_or table kind None (omega arith) in
    there ∙ ap Some (table_price prices table kind (get_or table kind None) is below there)

-- prices that stand in a table of these prices allow the runs at these prices
module _ (price : Pricing) (prices table : List (Option ℕ)) (is : table ≡ price_table prices)
    (tells : (facts : Facts) (n : ℕ) → price facts n → slice_get table facts.kind ≡ Some (Some n))
    (told : (facts : Facts) (n : ℕ) → slice_get table facts.kind ≡ Some (Some n) → price facts n) where
  there : Allows price (priced prices)
  there facts n h = sym (table_price prices table facts.kind (Some n) is facts.known_kind (tells facts n h))

  back : Allows (priced prices) price
  back facts n h = told facts n (price_there prices table facts.kind is facts.known_kind ∙ ap Some h)

-- a closure that answers what a table of the prices has
pub own_prices : (answers : Asking) (prices table : List (Option ℕ)) → table ≡ price_table prices
    → ((facts : Facts) (n : ℕ) → answers facts (Some n) → slice_get table facts.kind ≡ Some (Some n))
    → ((facts : Facts) (n : ℕ) → slice_get table facts.kind ≡ Some (Some n) → answers facts (Some n)) → AnswersPrices answers prices
own_prices answers prices table is tells told = record {
  only = there (prices_of answers) prices table is tells told;
  each = back (prices_of answers) prices table is tells told;
}

pub ok_so : {A E : Type 0} (r : Result A E) (P Q : A → Type 0) → ((a : A) → P a → Q a) → IfOk r P → IfOk r Q
ok_so (Ok a) P Q f h = f a h
ok_so (Err e) P Q f h = h

pub err_so : {A E : Type 0} (r : Result A E) (P Q : E → Type 0) → ((e : E) → P e → Q e) → IfErr r P → IfErr r Q
err_so (Ok a) P Q f h = h
err_so (Err e) P Q f h = f e h
