-- Replays that go on, and replays of the accepted entries alone.
use Rattle.std.proofs.Common.{arith, ◌≡◌, Bool, true, false, List, [], ◌∷◌, ◌++◌, refl, subst}
use Rattle.topo_core.specs.declared.rows.Rows.{Rows}
use Rattle.topo_core.specs.declared.limits.Limits.{Limits}
use Rattle.topo_core.specs.declared.calls.Call.{Call}
use Rattle.topo_core.specs.declared.calls.Call.TheVariants.{Grow, Insert, Delete}
use Rattle.topo_core.specs.declared.calls.Reply.{Reply}
use Rattle.topo_core.specs.declared.calls.Reply.TheVariants.{Grown, Inserted as Put, Deleted, Refused}
use Rattle.topo_core.specs.declared.calls.Entry.{Entry}
use Rattle.topo_core.specs.Routes.{Pricing}
use Rattle.topo_core.specs.Steps.{Step}
use Rattle.topo_core.specs.History.{Replays, is_accepted, versions}

module _ (price : Pricing) (limits : Limits) where
  -- one step more
  pub replays_on : (entries : List Entry) (p q next : Rows) (entry : Entry) → Replays price limits p entries q → Step price limits q entry.call entry.reply next
      → Replays price limits p (entries ++ entry ∷ []) next
  replays_on [] p q next entry way step = (next, subst (λ (r : Rows). Step price limits r entry.call entry.reply next) way step, refl)
  replays_on (first ∷ entries) p q next entry way step = (way.0, way.1, replays_on entries way.0 q next entry way.2 step)

  -- a refused call changes nothing
  refused_stays : (call : Call) (reply : Reply) (p q : Rows) → is_accepted reply ≡ false → Step price limits p call reply q → q ≡ p
  refused_stays (Grow u position kind) (Refused why) p q off step = step.1
  refused_stays (Insert u v kind) (Refused why) p q off step = step.1
  refused_stays (Delete e) (Refused why) p q off step = step.1
  refused_stays call (Grown vertex edge) p q off step = cc
  refused_stays call (Put made) p q off step = cc
  refused_stays call (Deleted edge) p q off step = cc

  -- the accepted entries alone lead to the same picture
  pub versions_replay : (entries : List Entry) (p q : Rows) → Replays price limits p entries q → Replays price limits p (versions entries) q
  versions_replay [] p q way = way
  versions_replay (entry ∷ entries) p q way = by_reply (is_accepted entry.reply) refl (versions_replay entries way.0 q way.2) where
    by_reply : (b : Bool) → is_accepted entry.reply ≡ b → Replays price limits way.0 (versions entries) q
        → Replays price limits p (versions (entry ∷ entries)) q
    by_reply true on rest = rw on (way.0, way.1, rest)
    by_reply false off rest = grind (arith, refused_stays)
