-- Replies that are due.
use Rattle.std.proofs.Common.{◌≡◌, ℕ, length, true, None, is_some, refl, sym, subst}
use Rattle.topo_core.specs.declared.rows.Rows.{Rows}
use Rattle.topo_core.specs.declared.routes.Inserted.{Inserted}
use Rattle.topo_core.specs.declared.limits.Limits.{Limits}
use Rattle.topo_core.specs.declared.calls.Call.{Call}
use Rattle.topo_core.specs.declared.calls.Call.TheVariants.{Delete, Grow, Insert}
use Rattle.topo_core.specs.declared.calls.Reply.{Reply}
use Rattle.topo_core.specs.declared.calls.Reply.TheVariants.{Deleted, Grown, Inserted as Put}
use Rattle.topo_core.specs.Changes.{IsCut, grown, without}
use Rattle.topo_core.specs.Picture.{edge_row}
use Rattle.topo_core.specs.Routes.{IsFirst, Pricing}
use Rattle.topo_core.specs.Steps.{grow_refusal}
use Rattle.topo_core.proofs.Interface.{one_step}
use Rattle.topo_book.specs.Books.{IsDue}

module _ (price : Pricing) (limits : Limits) (rows : Rows) (call : Call) where
  pub due_growth : (u position kind vertex edge : ℕ) → call ≡ Grow u position kind → grow_refusal limits rows u position kind ≡ None
      → vertex ≡ length rows.rotations → edge ≡ rows.next_edge
      → IsDue price limits rows call (Grown vertex edge)
  due_growth u position kind vertex edge is none v e =
      subst (λ (c : Call). IsDue price limits rows c (Grown vertex edge)) (sym is) (grown rows u position kind, (none, v, e, refl))

  pub due_deletion : (e edge : ℕ) → call ≡ Delete e → is_some (edge_row rows e) ≡ true → ((i : ℕ) → IsCut rows e i → ⊥) → edge ≡ e
      → IsDue price limits rows call (Deleted edge)
  due_deletion e edge is there whole same =
      subst (λ (c : Call). IsDue price limits rows c (Deleted edge)) (sym is) (without rows e, (there, whole, same, refl))

  -- the route of a reply that is due to an insertion is the first
  pub first_of_due : (reply : Reply) (u v kind : ℕ) (made : Inserted) → IsDue price limits rows call reply → call ≡ Insert u v kind → reply ≡ Put made
      → IsFirst price rows u v made.route made.price
  first_of_due reply u v kind made due is told =
      let of_reply = subst (λ (r : Reply). IsDue price limits rows call r) told due in
      let of_call = subst (λ (c : Call). IsDue price limits rows c (Put made)) is of_reply in
      of_call.1.1

  -- another reply than the one due is not due
  pub one_is_due : (reply other : Reply) → IsDue price limits rows call reply → (reply ≡ other → ⊥) → IsDue price limits rows call other → ⊥
  one_is_due reply other due differ wrong = differ (one_step price limits rows call reply other due.0 wrong.0 due.1 wrong.1).0
