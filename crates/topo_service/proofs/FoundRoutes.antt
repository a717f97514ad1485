-- A route that was found on the version that is published is the first on the picture of now. So is one that was found on an
-- earlier version, if nothing that its search has seen was changed since.
use Rattle.std.proofs.Common.{◌≡◌, ◌+◌, ℕ, List, Option, Some, length, sym, subst}
use Rattle.topo_core.specs.declared.rows.Rows.{Rows}
use Rattle.topo_core.specs.declared.limits.Limits.{Limits}
use Rattle.topo_core.specs.declared.routes.Route.{Route}
use Rattle.topo_core.specs.declared.calls.Entry.{Entry}
use Rattle.topo_core.specs.Routes.{IsFirst, Pricing}
use Rattle.topo_core.specs.History.{IsPrefix, IsVersion, Replays, versions}
use Rattle.topo_rows.specs.Shown.{Shown}
use Rattle.topo_price.specs.Prices.{Asking, prices_of}
use Rattle.topo_versions.specs.Names.{prices_named}
use Rattle.topo_book.specs.Books.{ReplaysLawfully}
use Rattle.topo_book.specs.Sparing.{HaveSpared}
use Rattle.topo_book.proofs.Interface.{one_replay, outlives}
use Rattle.topo_route.specs.Regions.{RegionState}
use Rattle.topo_versions.specs.Versions.{IsVersionFrom}
use Rattle.topo_service.specs.Found.{FoundState, IsFoundRoute, IsHeldBy}
use Rattle.topo_service.proofs.Versions.{is_version}

-- accepted entries lead to one picture
one_version : (price : Pricing) (limits : Limits) (start q r : Rows) (entries : List Entry) → IsVersion price limits start entries q
    → IsVersion price limits start entries r → q ≡ r
one_version price limits start q r entries one other = one_replay price limits entries start q r one.replayed other.replayed

-- at one start and at one pricing
still_first : (price : Pricing) (start : Shown) (history : List Entry) (picture : Rows) (found : FoundState)
    → Replays price start.limits start.rows history picture → IsFoundRoute price start found
    → found.entries ≡ versions history → IsFirst price picture found.u found.v found.route found.price
still_first price start history picture found way was same =
    let now = is_version price start.limits start.rows picture history way in
    let then = subst (λ (es : List Entry). IsVersion price start.limits start.rows es was.picture) same was.replayed in
    subst (λ (p : Rows). IsFirst price p found.u found.v found.route found.price)
    (one_version price start.limits start.rows was.picture picture (versions history) then now) was.first

-- at the prices and the start that are named
pub first_now : {F : Type 0} (answers : F → Asking) {closure : Option F} {start from : Shown} {tariff : F} (history : List Entry) {picture : Rows}
    {found : FoundState} {u v : ℕ} → closure ≡ Some tariff → from ≡ start → Replays (prices_of (answers tariff)) from.limits from.rows history picture
    → IsFoundRoute (prices_named answers closure) start found
    → found.entries ≡ versions history → found.u ≡ u → found.v ≡ v → IsFirst (prices_of (answers tariff)) picture u v found.route found.price
first_now answers {start} {from} {tariff} history {picture} {found} named begins way was same is_u is_v =
    let at_tariff = subst (λ (o : Option _). IsFoundRoute (prices_named answers o) start found) named was in
    let at_start = subst (λ (s : Shown). IsFoundRoute (prices_of (answers tariff)) s found) (sym begins) at_tariff in
    let first = still_first (prices_of (answers tariff)) from history picture found way at_start same in
    rw (← is_u, ← is_v) first

-- a route that outlives the calls since it was found, at the prices and the start that are named
pub still_first_now : {F : Type 0} (answers : F → Asking) {closure : Option F} {start from : Shown} {tariff : F} {history entries : List Entry} {before : Shown}
    {now : Rows} {region : RegionState} {u v : ℕ} {r : Route} {p accepted : ℕ} → closure ≡ Some tariff → from ≡ start
    → ReplaysLawfully (prices_of (answers tariff)) from.limits from.rows history now
    → IsVersionFrom (prices_named answers closure) start entries before → IsPrefix entries (versions history)
    → length (versions history) ≡ length entries + accepted
    → HaveSpared before.rows region history accepted → IsHeldBy (prices_named answers closure) before.rows u v r p region
    → IsFirst (prices_of (answers tariff)) now u v r p
still_first_now answers {start} {from} {tariff} {entries} {before} {region} {u} {v} {r} {p} named begins way was prefix count spared held =
    let was_named = subst (λ (o : Option _). IsVersionFrom (prices_named answers o) start entries before) named was in
    let was_here = subst (λ (s : Shown). IsVersionFrom (prices_of (answers tariff)) s entries before) (sym begins) was_named in
    let held_here = subst (λ (o : Option _). IsHeldBy (prices_named answers o) before.rows u v r p region) named held in
    outlives (prices_of (answers tariff)) from.limits from.rows before.rows _ _ entries region u v r p _ way was_here.replayed prefix count
    spared was_here.lawful.lawful held_here.0 held_here.1
