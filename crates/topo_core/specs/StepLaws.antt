-- The laws of steps and replays: each is proved as the contract of a function without a body.
use Rattle.std.specs.Prelude.{◌≡◌, ℕ, if◌then◌else◌, List, [], ◌∷◌, ◌++◌}
use Rattle.topo_core.specs.declared.rows.Rows.{Rows}
use Rattle.topo_core.specs.declared.limits.Limits.{Limits}
use Rattle.topo_core.specs.declared.routes.Route.{Route}
use Rattle.topo_core.specs.declared.calls.Call.{Call}
use Rattle.topo_core.specs.declared.calls.Entry.{Entry}
use Rattle.topo_core.specs.declared.calls.Reply.{Reply}
use Rattle.topo_core.specs.Routes.{IsFirst, Pricing}
use Rattle.topo_core.specs.Steps.{Step}
use Rattle.topo_core.specs.History.{Replays, is_accepted, versions}

-- the first of the least routes is one, and so is its cost
abbrev pub FirstIsOne : Pricing → Type 0
FirstIsOne price = (rows : Rows) (u v : ℕ) (r s : Route) (m n : ℕ) → IsFirst price rows u v r m → IsFirst price rows u v s n → (r ≡ s) × (m ≡ n)

-- a picture and a call have one reply, and one picture after it
abbrev pub StepsAreDetermined : Pricing → Type 0
StepsAreDetermined price = (limits : Limits) (p : Rows) (call : Call) (reply other : Reply) (q r : Rows) → Step price limits p call reply q
    → Step price limits p call other r
    → (reply ≡ other) × (q ≡ r)

-- a replay goes on by a step
abbrev pub ReplaysGoOn : Pricing → Type 0
ReplaysGoOn price = (limits : Limits) (entries : List Entry) (p q next : Rows) (entry : Entry) → Replays price limits p entries q
    → Step price limits q entry.call entry.reply next
    → Replays price limits p (entries ++ entry ∷ []) next

-- the accepted entries of a history lead to the same picture
abbrev pub VersionsReplay : Pricing → Type 0
VersionsReplay price = (limits : Limits) (entries : List Entry) (p q : Rows) → Replays price limits p entries q → Replays price limits p (versions entries) q

-- the versions of a history with one entry more are those before, and the entry where it was accepted
abbrev pub VersionsGoOn : Type 0
VersionsGoOn = (entries : List Entry) (entry : Entry)
    → versions (entries ++ entry ∷ []) ≡ (if is_accepted entry.reply then versions entries ++ entry ∷ [] else versions entries)
