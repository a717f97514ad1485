-- For each picture and call there is one reply and one next picture.
use Rattle.std.proofs.Common.{◌≡◌, ℕ, ◌≤◌, ◌<◌, true, Option, Some, None, sym, ap, ◌∙◌, arith, inl, inr}
use Rattle.std.specs.Prelude.{is_some}
use Rattle.topo_core.specs.declared.rows.Rows.{Rows}
use Rattle.topo_core.specs.declared.limits.Limits.{Limits}
use Rattle.topo_core.specs.declared.calls.Call.{Call}
use Rattle.topo_core.specs.declared.calls.Call.TheVariants.{Grow, Insert, Delete}
use Rattle.topo_core.specs.declared.calls.Reply.{Reply}
use Rattle.topo_core.specs.declared.calls.Reply.TheVariants.{Grown, Inserted as Put, Deleted, Refused}
use Rattle.topo_core.specs.declared.calls.Refusal.{Refusal}
use Rattle.topo_core.specs.declared.calls.Refusal.TheVariants.{Cut}
use Rattle.topo_core.specs.declared.routes.Inserted.{Inserted}
use Rattle.topo_core.specs.declared.routes.Route.{Route}
use Rattle.topo_core.specs.Picture.{edge_row}
use Rattle.topo_core.specs.Routes.{IsFirst, Pricing}
use Rattle.topo_core.specs.Changes.{IsCut}
use Rattle.topo_core.specs.Steps.{HasRoomFor, IsRefused, Step, insert_refusal}
use Rattle.topo_core.proofs.routing.RouteOrder.{one_first, one_least}
use Rattle.topo_core.proofs.routing.Certificates.{same_some}

not_below : (m n : ℕ) → (m < n → ⊥) → n ≤ m
not_below m n h = omega arith

-- a cut is at one segment
one_cut : (p : Rows) (e i j : ℕ) → IsCut p e i → IsCut p e j → i ≡ j
one_cut p e i j cut other =
    let below = not_below j i (λ before. other.apart_after (cut.whole_before j before)) in
    let above = not_below i j (λ before. cut.apart_after (other.whole_before i before)) in
    omega arith

some_apart : {X : Type 0} (o : Option X) (x : X) → o ≡ None → o ≡ Some x → ⊥
some_apart o x empty full = cc

is_none : {X : Type 0} (o : Option X) → o ≡ None → is_some o ≡ true → ⊥
is_none None empty full = cc
is_none (Some x) empty full = cc

module _ (price : Pricing) (limits : Limits) (p : Rows) where
  abbrev IsSame : Reply → Reply → Rows → Rows → Type 0
  IsSame reply other q r = (reply ≡ other) × (q ≡ r)

  grows_once : (u position kind : ℕ) (reply other : Reply) (q r : Rows) → Step price limits p (Grow u position kind) reply q
      → Step price limits p (Grow u position kind) other r
      → IsSame reply other q r
  grows_once u position kind (Grown v e) (Grown w f) q r step step' = (cc, cc)
  grows_once u position kind (Grown v e) (Refused why) q r step step' = absurd (some_apart _ why step.0 step'.0)
  grows_once u position kind (Refused why) (Grown v e) q r step step' = absurd (some_apart _ why step'.0 step.0)
  grows_once u position kind (Refused why) (Refused other) q r step step' = (ap Refused (same_some _ why other step.0 step'.0), step.1 ∙ sym step'.1)
  grows_once u position kind (Put made) other q r step step' = absurd step
  grows_once u position kind (Deleted e) other q r step step' = absurd step
  grows_once u position kind (Grown v e) (Put made) q r step step' = absurd step'
  grows_once u position kind (Grown v e) (Deleted f) q r step step' = absurd step'
  grows_once u position kind (Refused why) (Put made) q r step step' = absurd step'
  grows_once u position kind (Refused why) (Deleted f) q r step step' = absurd step'

  -- an insertion that is made is not refused
  not_refused : (u v kind : ℕ) (made : Route) (n : ℕ) (why : Refusal) → insert_refusal limits p u v kind ≡ None → IsFirst price p u v made n
      → HasRoomFor limits p made
      → IsRefused price limits p (Insert u v kind) why → ⊥
  not_refused u v kind made n why admitted first room (inl early) = some_apart _ why admitted early
  not_refused u v kind made n why admitted first room (inr (inl late)) = late.2 made n first.is_least.priced
  not_refused u v kind made n why admitted first room (inr (inr late)) = grind (arith, one_first)

  refused_once : (u v kind : ℕ) (why other : Refusal) → IsRefused price limits p (Insert u v kind) why
      → IsRefused price limits p (Insert u v kind) other → why ≡ other
  refused_once u v kind why other (inl early) (inl early') = same_some _ why other early early'
  refused_once u v kind why other (inl early) (inr (inl late)) = absurd (some_apart _ why late.0 early)
  refused_once u v kind why other (inl early) (inr (inr late)) = absurd (some_apart _ why late.0 early)
  refused_once u v kind why other (inr (inl late)) (inl early) = absurd (some_apart _ other late.0 early)
  refused_once u v kind why other (inr (inr late)) (inl early) = absurd (some_apart _ other late.0 early)
  refused_once u v kind why other (inr (inl late)) (inr (inl late')) = late.1 ∙ sym late'.1
  refused_once u v kind why other (inr (inr late)) (inr (inr late')) = late.1 ∙ sym late'.1
  refused_once u v kind why other (inr (inl late)) (inr (inr late')) = absurd (late.2 late'.2.route late'.2.cost late'.2.first.is_least.priced)
  refused_once u v kind why other (inr (inr late)) (inr (inl late')) = absurd (late'.2 late.2.route late.2.cost late.2.first.is_least.priced)

  one_insertion : (made other : Inserted) → made.id ≡ other.id → made.route ≡ other.route → made.price ≡ other.price → made ≡ other
  one_insertion made other ids routes prices = λ i. record { id = ids i; route = routes i; price = prices i }

  inserts_once : (u v kind : ℕ) (reply other : Reply) (q r : Rows) → Step price limits p (Insert u v kind) reply q
      → Step price limits p (Insert u v kind) other r
      → IsSame reply other q r
  inserts_once u v kind (Put made) (Put other) q r step step' = grind (arith, one_first, one_least, one_insertion)
  inserts_once u v kind (Put made) (Refused why) q r step step' = absurd (not_refused u v kind made.route made.price why step.0 step.1 step.2 step'.0)
  inserts_once u v kind (Refused why) (Put made) q r step step' = absurd (not_refused u v kind made.route made.price why step'.0 step'.1 step'.2 step.0)
  inserts_once u v kind (Refused why) (Refused other) q r step step' = (ap Refused (refused_once u v kind why other step.0 step'.0), step.1 ∙ sym step'.1)
  inserts_once u v kind (Grown w e) other q r step step' = absurd step
  inserts_once u v kind (Deleted e) other q r step step' = absurd step
  inserts_once u v kind (Put made) (Grown w e) q r step step' = absurd step'
  inserts_once u v kind (Put made) (Deleted f) q r step step' = absurd step'
  inserts_once u v kind (Refused why) (Grown w e) q r step step' = absurd step'
  inserts_once u v kind (Refused why) (Deleted f) q r step step' = absurd step'

  -- an edge that is taken out is not kept
  not_kept : (e : ℕ) (why : Refusal) → is_some (edge_row p e) ≡ true → ((i : ℕ) → IsCut p e i → ⊥) → IsRefused price limits p (Delete e) why → ⊥
  not_kept e why there whole (inl gone) = is_none (edge_row p e) gone.0 there
  not_kept e why there whole (inr cut) = whole cut.0 cut.3

  kept_once : (e : ℕ) (why other : Refusal) → IsRefused price limits p (Delete e) why → IsRefused price limits p (Delete e) other → why ≡ other
  kept_once e why other (inl gone) (inl gone') = gone.1 ∙ sym gone'.1
  kept_once e why other (inl gone) (inr cut) = absurd (is_none (edge_row p e) gone.0 cut.1)
  kept_once e why other (inr cut) (inl gone) = absurd (is_none (edge_row p e) gone.0 cut.1)
  kept_once e why other (inr cut) (inr cut') = cut.2 ∙ ap Cut (one_cut p e cut.0 cut'.0 cut.3 cut'.3) ∙ sym cut'.2

  deletes_once : (e : ℕ) (reply other : Reply) (q r : Rows) → Step price limits p (Delete e) reply q → Step price limits p (Delete e) other r
      → IsSame reply other q r
  deletes_once e (Deleted f) (Deleted g) q r step step' = (ap Deleted (step.2 ∙ sym step'.2), step.3 ∙ sym step'.3)
  deletes_once e (Deleted f) (Refused why) q r step step' = absurd (not_kept e why step.0 step.1 step'.0)
  deletes_once e (Refused why) (Deleted f) q r step step' = absurd (not_kept e why step'.0 step'.1 step.0)
  deletes_once e (Refused why) (Refused other) q r step step' = (ap Refused (kept_once e why other step.0 step'.0), step.1 ∙ sym step'.1)
  deletes_once e (Grown v f) other q r step step' = absurd step
  deletes_once e (Put made) other q r step step' = absurd step
  deletes_once e (Deleted f) (Grown v g) q r step step' = absurd step'
  deletes_once e (Deleted f) (Put made) q r step step' = absurd step'
  deletes_once e (Refused why) (Grown v g) q r step step' = absurd step'
  deletes_once e (Refused why) (Put made) q r step step' = absurd step'

  -- two steps by one call are one
  pub one_step : (call : Call) (reply other : Reply) (q r : Rows) → Step price limits p call reply q → Step price limits p call other r
      → (reply ≡ other) × (q ≡ r)
  one_step (Grow u position kind) reply other q r step step' = grows_once u position kind reply other q r step step'
  one_step (Insert u v kind) reply other q r step step' = inserts_once u v kind reply other q r step step'
  one_step (Delete e) reply other q r step step' = deletes_once e reply other q r step step'
