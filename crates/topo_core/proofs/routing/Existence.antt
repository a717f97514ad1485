-- The order of routes has no endless descent among routes of one cost, so where there is a route there is a first one; and so
-- each call has a step.
use Rattle.std.proofs.Common.{◌≡◌, ◌≤◌, ◌<◌, ◌+◌, ◌⊎◌, ℕ, zero, suc, List, [], ◌∷◌, length, true}
use Rattle.std.proofs.Common.{Option, Some, None, refl, sym, subst, ap, ◌∙◌, arith, inl, inr}
use Rattle.std.proofs.lemmas.Bool.{cases_lt}
use Rattle.std.proofs.lemmas.Bool.Decides.{nat_tests}
use Rattle.std.specs.Prelude.{is_some}
use Rattle.std.specs.Ordering.{nat_cmp, ordering_then}
use Rattle.std.specs.Cmp.Lexicographic.{slice_cmp}
use Rattle.std.specs.FinMap.{slice_cmp-IsAntisymmetric}
use Rattle.std.specs.declared.cmp.Ordering.{Ordering}
use Rattle.std.specs.declared.cmp.Ordering.TheVariants.{Less, Equal, Greater}
use Rattle.topo_core.specs.declared.calls.Call.{Call}
use Rattle.topo_core.specs.declared.calls.Call.TheVariants.{Delete, Grow, Insert}
use Rattle.topo_core.specs.declared.calls.Refusal.{Refusal}
use Rattle.topo_core.specs.declared.calls.Refusal.TheVariants.{Cut, Full, NoEdge, NoRoute}
use Rattle.topo_core.specs.declared.calls.Reply.{Reply}
use Rattle.topo_core.specs.declared.calls.Reply.TheVariants.{Deleted, Grown, Inserted as Put, Refused}
use Rattle.topo_core.specs.declared.darts.Dart.{Dart}
use Rattle.topo_core.specs.declared.darts.Way.{Way}
use Rattle.topo_core.specs.declared.darts.Way.TheVariants.{Back, Forward}
use Rattle.topo_core.specs.declared.limits.Limits.{Limits}
use Rattle.topo_core.specs.declared.routes.Route.{Route}
use Rattle.topo_core.specs.declared.rows.EdgeRow.{EdgeRow}
use Rattle.topo_core.specs.declared.rows.Rows.{Rows}
use Rattle.topo_core.specs.Changes.{grown, shown, without}
use Rattle.topo_core.specs.Darts.{dart_cmp, way_cmp}
use Rattle.topo_core.specs.Picture.{edge_row}
use Rattle.topo_core.specs.Routes.{HasNoRoute, IsFirst, IsPricedRoute, KeepsPromise, Pricing, route_cmp}
use Rattle.topo_core.specs.Steps.{Step, grow_refusal, insert_refusal}
use Rattle.topo_core.proofs.routing.Certificates.{length-le-cost}
use Rattle.topo_core.proofs.numbering.DartOrder.{dart_cmp_equal}

-- ---- Numbers

-- what holds of a number wherever it holds of all smaller ones holds of each
by_number : (P : ℕ → Type 0) → ((n : ℕ) → ((m : ℕ) → m < n → P m) → P n) → (n : ℕ) → P n
by_number P step n = step n (below n) where
  below : (n : ℕ) (m : ℕ) → m < n → P m
  below zero m low = absurd (omega arith)
  below (suc n) m low = step m (λ k lower. below n k (omega arith))

greater_number : (m n : ℕ) → nat_cmp m n ≡ Greater → n < m
greater_number m n g = grind (arith, nat_tests)

equal_number : (m n : ℕ) → nat_cmp m n ≡ Equal → m ≡ n
equal_number m n e = grind (arith, nat_tests)

-- an order of two parts is greater by its first, or by its second
then_greater : (o p : Ordering) → ordering_then o p ≡ Greater → (o ≡ Greater) ⊎ ((o ≡ Equal) × (p ≡ Greater))
then_greater Less p g = cc
then_greater Equal p g = inr (refl, g)
then_greater Greater p g = inl refl

-- ---- Darts

none_before_forward : (v w : Way) → v ≡ Forward → way_cmp v w ≡ Greater → ⊥
none_before_forward Forward Forward e g = cc
none_before_forward Forward Back e g = cc
none_before_forward Back w e g = cc

before_is_forward : (v w : Way) → way_cmp v w ≡ Greater → w ≡ Forward
before_is_forward Forward Forward g = cc
before_is_forward Forward Back g = cc
before_is_forward Back Forward g = refl
before_is_forward Back Back g = cc

-- the same of darts in canonical order
module _ (P : Dart → Type 0) (step : (d : Dart) → ((c : Dart) → dart_cmp d c ≡ Greater → P c) → P d) where
  -- edges e and segments s, where it holds of all darts before them
  abbrev BeforeEdge : ℕ → Type 0
  BeforeEdge e = (c : Dart) → c.edge < e → P c

  abbrev BeforeSegment : ℕ → ℕ → Type 0
  BeforeSegment e s = (c : Dart) → c.edge ≡ e → c.seg < s → P c

  abbrev IsEarlier : Dart → Dart → Type 0
  IsEarlier d c = (c.edge < d.edge) ⊎ (((c.edge ≡ d.edge) × (c.seg < d.seg)) ⊎ ((c.edge ≡ d.edge) × (c.seg ≡ d.seg) × (way_cmp d.way c.way ≡ Greater)))

  earlier : (d c : Dart) → dart_cmp d c ≡ Greater → IsEarlier d c
  earlier d c g = elim (then_greater (nat_cmp d.edge c.edge) (ordering_then (nat_cmp d.seg c.seg) (way_cmp d.way c.way)) g) [
    | inl first ↦ inl (greater_number d.edge c.edge first)
    | inr rest ↦ by_segment rest.0 (then_greater (nat_cmp d.seg c.seg) (way_cmp d.way c.way) rest.1)
  ] where
    by_segment : nat_cmp d.edge c.edge ≡ Equal → (nat_cmp d.seg c.seg ≡ Greater)
        ⊎ ((nat_cmp d.seg c.seg ≡ Equal) × (way_cmp d.way c.way ≡ Greater)) → IsEarlier d c
    by_segment e (inl second) = inr (inl (sym (equal_number d.edge c.edge e), greater_number d.seg c.seg second))
    by_segment e (inr rest) = inr (inr (sym (equal_number d.edge c.edge e), sym (equal_number d.seg c.seg rest.0), rest.1))

  on_segment : (e s : ℕ) → BeforeEdge e → BeforeSegment e s → (d : Dart) → d.edge ≡ e → d.seg ≡ s → P d
  on_segment e s edges segments d at_edge at_segment = step d (λ c g. by_case c (earlier d c g)) where
    forward_there : (c : Dart) → c.edge ≡ e → c.seg ≡ s → c.way ≡ Forward → P c
    forward_there c ce cs cw = step c (λ b g. by_forward b (earlier c b g)) where
      by_forward : (b : Dart) → IsEarlier c b → P b
      by_forward b (inl low) = edges b (omega arith)
      by_forward b (inr (inl low)) = segments b (low.0 ∙ ce) (let h = low.1 in omega arith)
      by_forward b (inr (inr last)) = absurd (none_before_forward c.way b.way cw last.2)

    by_case : (c : Dart) → IsEarlier d c → P c
    by_case c (inl low) = edges c (omega arith)
    by_case c (inr (inl low)) = segments c (low.0 ∙ at_edge) (let h = low.1 in omega arith)
    by_case c (inr (inr last)) = forward_there c (last.0 ∙ at_edge) (last.1 ∙ at_segment) (before_is_forward d.way c.way last.2)

  by_dart : (d : Dart) → P d
  by_dart d = by_number (λ e. (c : Dart) → c.edge ≡ e → P c) (λ e edges. on_edge e (λ c low. edges c.edge low c refl)) d.edge d refl where
    on_edge : (e : ℕ) → BeforeEdge e → (c : Dart) → c.edge ≡ e → P c
    on_edge e edges c ce = by_number (λ s. (b : Dart) → b.edge ≡ e → b.seg ≡ s → P b)
        (λ s segments b be bs. on_segment e s edges (λ a ae low. segments a.seg low a ae refl) b be bs) c.seg c ce refl

-- ---- Lists of darts

none_before_nothing : (ys : List Dart) → slice_cmp dart_cmp [] ys ≡ Greater → ⊥
none_before_nothing [] g = cc
none_before_nothing (y ∷ ys) g = cc

-- of lists that are no longer than k, it holds of each one where it holds of all that come before it
abbrev IsPassedOn : ℕ → (List Dart → Type 0) → Type 0
IsPassedOn k P = (xs : List Dart) → length xs ≤ k → ((ys : List Dart) → length ys ≤ k → slice_cmp dart_cmp xs ys ≡ Greater → P ys) → P xs

-- a list that is longer by one, where it holds of all shorter ones
longer : (k : ℕ) (P : List Dart → Type 0) → IsPassedOn (suc k) P → ((Q : List Dart → Type 0) → IsPassedOn k Q → (xs : List Dart) → length xs ≤ k → Q xs)
    → (x : Dart) (xs : List Dart) → length xs ≤ k → P (x ∷ xs)
longer k P step shorter = by_dart (λ x. (xs : List Dart) → length xs ≤ k → P (x ∷ xs)) from_dart where
  from_dart : (x : Dart) → ((y : Dart) → dart_cmp x y ≡ Greater → (ys : List Dart) → length ys ≤ k → P (y ∷ ys)) → (xs : List Dart) → length xs ≤ k → P (x ∷ xs)
  from_dart x smaller = shorter (λ xs. P (x ∷ xs)) from_rest where
    from_rest : (xs : List Dart) → length xs ≤ k → ((ys : List Dart) → length ys ≤ k → slice_cmp dart_cmp xs ys ≡ Greater → P (x ∷ ys)) → P (x ∷ xs)
    from_rest xs low rest = step (x ∷ xs) (omega arith) before where
      before : (ys : List Dart) → length ys ≤ suc k → slice_cmp dart_cmp (x ∷ xs) ys ≡ Greater → P ys
      before [] low g = step [] low (λ zs lower h. absurd (none_before_nothing zs h))
      before (y ∷ ys) low g = elim (then_greater (dart_cmp x y) (slice_cmp dart_cmp xs ys) g) [
        | inl first ↦ smaller y first ys (omega arith)
        | inr second ↦ subst (λ z. P (z ∷ ys)) (dart_cmp_equal x y second.0) (rest ys (omega arith) second.1)
      ]

by_list : (k : ℕ) (P : List Dart → Type 0) → IsPassedOn k P → (xs : List Dart) → length xs ≤ k → P xs
by_list k P step [] low = step [] low (λ ys lower g. absurd (none_before_nothing ys g))
by_list zero P step (x ∷ xs) low = absurd (omega arith)
by_list (suc k) P step (x ∷ xs) low = longer k P step (λ Q. by_list k Q) x xs (omega arith)

-- ---- Routes

module _ (price : Pricing) (promise : KeepsPromise price) (rows : Rows) (u v : ℕ) (none : (r : Route) (n : ℕ) → IsFirst price rows u v r n → ⊥) where
  abbrev Has : Route → ℕ → Type 0
  Has r n = IsPricedRoute price rows u v r n

  short : (r : Route) (n : ℕ) → Has r n → length r.crossed ≤ n
  short r n priced = length-le-cost price rows (λ d p asked. promise.positive asked.facts p asked.asked) r.crossed n priced.cost

  module _ (n : ℕ) (cheaper : (m : ℕ) → m < n → (r : Route) → Has r m → ⊥) where
    no_cheaper : (other : Route) (m : ℕ) → Has other m → n ≤ m
    no_cheaper other m priced = elim (cases_lt m n) [
      | inl low ↦ absurd (cheaper m low other priced)
      | inr high ↦ high
    ]

    not_first : (r : Route) → Has r n → ((other : Route) → Has other n → route_cmp r other ≡ Greater → ⊥) → ⊥
    not_first r priced before = none r n (record { is_least = record { priced = priced; least = no_cheaper }; first = λ other has. before other has })

    -- routes that start at a, cross xs and end at z, where all earlier ones cost something else
    at_end : {a : ℕ} {xs : List Dart} {z : ℕ}
        → ((other : Route) → other.start < a → Has other n → ⊥)
        → ((other : Route) → other.start ≡ a → slice_cmp dart_cmp xs other.crossed ≡ Greater → Has other n → ⊥)
        → ((other : Route) → other.start ≡ a → other.crossed ≡ xs → other.end < z → Has other n → ⊥)
        → (r : Route) → r.start ≡ a → r.crossed ≡ xs → r.end ≡ z → Has r n → ⊥
    at_end {a} {xs} {z} starts walks ends r rs rc re priced = not_first r priced before where
      before : (other : Route) → Has other n → route_cmp r other ≡ Greater → ⊥
      before other has g =
          elim (then_greater (nat_cmp r.start other.start) (ordering_then (slice_cmp dart_cmp r.crossed other.crossed) (nat_cmp r.end other.end)) g) [
            | inl first ↦ starts other (let h = greater_number r.start other.start first in omega arith) has
            | inr rest ↦ by_walk (sym (equal_number r.start other.start rest.0) ∙ rs)
                (then_greater (slice_cmp dart_cmp r.crossed other.crossed) (nat_cmp r.end other.end) rest.1)
          ] where
            by_walk : other.start ≡ a → (slice_cmp dart_cmp r.crossed other.crossed ≡ Greater)
                ⊎ ((slice_cmp dart_cmp r.crossed other.crossed ≡ Equal) × (nat_cmp r.end other.end ≡ Greater)) → ⊥
            by_walk same (inl second) = walks other same (subst (λ zs. slice_cmp dart_cmp zs other.crossed ≡ Greater) rc second) has
            by_walk same (inr last) = ends other same (sym (slice_cmp-IsAntisymmetric dart_cmp_equal r.crossed other.crossed last.0) ∙ rc)
                (let h = greater_number r.end other.end last.1 in omega arith) has

    at_walk : (a : ℕ) (xs : List Dart)
        → ((other : Route) → other.start < a → Has other n → ⊥)
        → ((other : Route) → other.start ≡ a → slice_cmp dart_cmp xs other.crossed ≡ Greater → Has other n → ⊥)
        → (r : Route) → r.start ≡ a → r.crossed ≡ xs → Has r n → ⊥
    at_walk a xs starts walks r rs rc priced = by_number (λ z. (r : Route) → r.start ≡ a → r.crossed ≡ xs → r.end ≡ z → Has r n → ⊥)
        (λ z ends. at_end {a = a} {xs = xs} {z = z} starts walks (λ other os oc low. ends other.end low other os oc refl)) r.end r rs rc refl priced

    at_start : (a : ℕ) → ((other : Route) → other.start < a → Has other n → ⊥) → (r : Route) → r.start ≡ a → Has r n → ⊥
    at_start a starts r rs priced = by_list n (λ xs. (r : Route) → r.start ≡ a → r.crossed ≡ xs → Has r n → ⊥)
        (λ xs low walks. at_walk a xs starts (λ other os g has. walks other.crossed (short other n has) g other os refl has)) r.crossed (short r n priced)
        r rs refl priced

    none_of_cost : (r : Route) → Has r n → ⊥
    none_of_cost r priced = by_number (λ a. (r : Route) → r.start ≡ a → Has r n → ⊥)
        (λ a starts. at_start a (λ other low. starts other.start low other refl)) r.start r refl priced

  -- where no route is the first, there is none
  pub no_route : HasNoRoute price rows u v
  no_route r n priced = by_number (λ n. (r : Route) → Has r n → ⊥) (λ n cheaper. none_of_cost n cheaper) n r priced

-- ---- Steps

module _ (price : Pricing) (promise : KeepsPromise price) (limits : Limits) (p : Rows) where
  abbrev IsNone : Call → Type 0
  IsNone call = (reply : Reply) (q : Rows) → Step price limits p call reply q → ⊥

  grows : (u position kind : ℕ) (o : Option Refusal) → grow_refusal limits p u position kind ≡ o → IsNone (Grow u position kind) → ⊥
  grows u position kind (Some why) e none = none (Refused why) p (e, refl)
  grows u position kind None e none = none (Grown (length p.rotations) p.next_edge) (grown p u position kind) (e, refl, refl, refl)

  inserts : (u v kind : ℕ) (o : Option Refusal) → insert_refusal limits p u v kind ≡ o → IsNone (Insert u v kind) → ⊥
  inserts u v kind (Some why) e none = none (Refused why) p (inl e, refl)
  inserts u v kind None e none = none (Refused NoRoute) p (inr (inl (e, refl, no_route price promise p u v never)), refl) where
    never : (r : Route) (n : ℕ) → IsFirst price p u v r n → ⊥
    never r n first = elim (cases_lt limits.crossings (p.next_crossing + length r.crossed)) [
      | inl full ↦ none (Refused Full) p (inr (inr (e, refl, record { route = r; cost = n; first = first; too_many = full })), refl)
      | inr room ↦ none (Put (record { id = p.next_edge; route = r; price = n })) (shown p u v kind r) (e, first, room, refl, refl)
    ]

  deletes : (e : ℕ) (o : Option EdgeRow) → edge_row p e ≡ o → IsNone (Delete e) → ⊥
  deletes e None gone none = none (Refused NoEdge) p (inl (gone, refl), refl)
  deletes e (Some row) at none = none (Deleted e) (without p e) (there, (λ i cut. none (Refused (Cut i)) p (inr (i, there, refl, cut), refl)), refl, refl) where
    there : is_some (edge_row p e) ≡ true
    there = ap is_some at

  -- each call has a step
  pub some_step : (call : Call) → IsNone call → ⊥
  some_step (Grow u position kind) none = grows u position kind (grow_refusal limits p u position kind) refl none
  some_step (Insert u v kind) none = inserts u v kind (insert_refusal limits p u v kind) refl none
  some_step (Delete e) none = deletes e (edge_row p e) refl none
