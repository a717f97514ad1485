-- The laws that there is a step, and a first route: each is proved as the contract of a function without a body. Where a pricing is
-- any relation, nothing decides whether an edge has a price: there they are said by what cannot be.
use Rattle.std.specs.Prelude.{ℕ, ◌<◌, length}
use Rattle.topo_core.specs.declared.calls.Call.{Call}
use Rattle.topo_core.specs.declared.calls.Reply.{Reply}
use Rattle.topo_core.specs.declared.limits.Limits.{Limits}
use Rattle.topo_core.specs.declared.routes.Route.{Route}
use Rattle.topo_core.specs.declared.rows.Rows.{Rows}
use Rattle.topo_core.specs.Lawful.{IsEmbedding}
use Rattle.topo_core.specs.RouteLaws.{IsPriced}
use Rattle.topo_core.specs.Routes.{HasNoRoute, IsFirst, KeepsPromise, Pricing}
use Rattle.topo_core.specs.Steps.{Step}

-- where no route is the first, no route has a price
abbrev pub FirstsExist : Pricing → Type 0
FirstsExist price = KeepsPromise price → (rows : Rows) (u v : ℕ) → ((r : Route) (n : ℕ) → IsFirst price rows u v r n → ⊥) → HasNoRoute price rows u v

-- where every edge has a price, one of the routes between any two vertices of a connected picture is the first
abbrev pub PricedFirstsExist : Pricing → Type 0
PricedFirstsExist price = KeepsPromise price → (rows : Rows) (u v : ℕ) → IsEmbedding rows → IsPriced price rows → u < length rows.rotations
    → v < length rows.rotations → (r : Route) × (n : ℕ) × IsFirst price rows u v r n

-- it cannot be that no reply and no picture are a step by the call
abbrev pub StepsExist : Pricing → Type 0
StepsExist price = KeepsPromise price → (limits : Limits) (p : Rows) (call : Call) → ((reply : Reply) (q : Rows) → Step price limits p call reply q → ⊥) → ⊥
