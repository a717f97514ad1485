-- A search over a rotation system from a start dart, where some darts were marked before.
use Rattle.std.proofs.Common.{◌≡◌, ◌≢◌, ℕ, ◌+◌, ◌%◌, ◌<◌, ◌≤◌, Bool, true, false, cond, ◌↔◌, ◌⊎◌}
use Rattle.std.proofs.Common.{List, length, slice_index, eqb, inl, inr, refl, ◌∙◌, ap, subst, arith}
use Rattle.std.proofs.lemmas.Bool.{cases_Bool, cases_eq, eq-eqb, ne_eqb, cond-true, cond-false, MatchBool-at_false}
use Rattle.std.proofs.lemmas.List.{get_or-set_same, get_or-set_other, length-set}
use Rattle.topo_core.specs.Cycles.{IsPermutation, count_below}
use Rattle.topo_core.specs.Rotations.{twin, Joined}
use Rattle.topo_perm.specs.Reach.{IsVisit, Marks, Stays, IsClosed, mark, marked_count}
use Rattle.topo_perm.proofs.permutations.Classes.{count_below-more}
use Rattle.topo_perm.proofs.permutations.Lists.{count_below-le}
use Rattle.topo_perm.proofs.permutations.Walks.{Joined-refl, Joined-turned, Joined-crossed, kept_joined, twin-within}

-- the darts found so far: those marked before, and from place `begin` of the order on those reached from the start
pub record Found (f : ℕ → ℕ) (n : ℕ) (old : List Bool) (start begin : ℕ) (seen : List Bool) (order : List ℕ) (found : ℕ) : Type 0 where
  pub seen_length : length seen ≡ n
  pub order_length : length order ≡ n
  pub count : found ≡ marked_count seen n
  pub more : begin ≤ found
  pub kept : (a : ℕ) → a < n → mark old a ≡ true → mark seen a ≡ true
  pub within : (j : ℕ) → begin ≤ j → j < found → slice_index order j < n
  pub marked : (j : ℕ) → begin ≤ j → j < found → mark seen (slice_index order j) ≡ true
  pub reached : (j : ℕ) → begin ≤ j → j < found → Joined f twin start (slice_index order j)
  pub listed : (a : ℕ) → a < n → mark seen a ≡ true → (mark old a ≡ true) ⊎ ((j : ℕ) × (begin ≤ j) × (j < found) × (slice_index order j ≡ a))

-- what a visit leaves
pub record Visited (f : ℕ → ℕ) (n : ℕ) (old : List Bool) (start begin : ℕ) (seen seen' : List Bool) (order order' : List ℕ)
    (found found' dart : ℕ) : Type 0 where
  pub state : Found f n old start begin seen' order' found'
  pub here : mark seen' dart ≡ true
  pub kept : (a : ℕ) → a < n → mark seen a ≡ true → mark seen' a ≡ true
  pub order_kept : (j : ℕ) → j < found → slice_index order' j ≡ slice_index order j
  pub more : found ≤ found'

-- a dart that is not marked leaves room
pub count_room : (n : ℕ) (seen : List Bool) (found dart : ℕ) → found ≡ marked_count seen n → dart < n → mark seen dart ≡ false → found < n
count_room n seen found dart e ld fresh =
    let one : count_below (λ a. cond (eqb a dart) true (mark seen a)) n ≡ count_below (mark seen) n + 1 =
    count_below-more (λ a. cond (eqb a dart) true (mark seen a)) (mark seen) n dart ld (cond-true _ _ _ (eq-eqb dart dart refl)) fresh
    (λ a la ne. cond-false _ _ _ (ne_eqb a dart ne)) in
    omega (arith, e, one, count_below-le (λ a. cond (eqb a dart) true (mark seen a)) n)

pub visited : {f : ℕ → ℕ} {n : ℕ} {old : List Bool} {start begin : ℕ} {seen : List Bool} (seen' : List Bool) {order : List ℕ} (order' : List ℕ) {found : ℕ}
    (found' : ℕ) {dart : ℕ} → Found f n old start begin seen order found → dart < n → Joined f twin start dart
    → IsVisit seen seen' order order' found found' dart → Visited f n old start begin seen seen' order order' found found' dart
visited {n} {seen} seen' {order} order' {found} found' {dart} s ld j v =
    elim (cases_Bool (mark seen dart)) [
      | inl here ↦ grind arith
      | inr fresh ↦
          let t : Marks seen seen' order order' found found' dart = MatchBool-at_false (Stays seen seen' order order' found found') _ fresh v in
          let room : found < n = count_room n seen found dart s.count ld fresh in
          let at_dart : mark seen' dart ≡ true = ap (λ z. mark z dart) t.marked ∙ get_or-set_same seen dart true false (omega (arith, s.seen_length)) in
          let at_other : (a : ℕ) → a ≢ dart → mark seen' a ≡ mark seen a = λ a ne. ap (λ z. mark z a) t.marked ∙ get_or-set_other seen dart a true false ne in
          let last : slice_index order' found ≡ dart = ap (λ z. slice_index z found) t.put
          ∙ get_or-set_same order found dart 0 (omega (arith, s.order_length)) in
          let before : (k : ℕ) → k < found → slice_index order' k ≡ slice_index order k =
          λ k lk. let ne : k ≢ found = omega arith in ap (λ z. slice_index z k) t.put ∙ get_or-set_other order found k dart 0 ne in
          let keeps : (a : ℕ) → a < n → mark seen a ≡ true → mark seen' a ≡ true = λ a la e.
          elim (cases_eq a dart) [ inl same ↦ ap (mark seen') same ∙ at_dart | inr ne ↦ at_other a ne ∙ e ] in
          record {
            state = record {
              seen_length = ap length t.marked ∙ length-set seen dart true ∙ s.seen_length;
              order_length = ap length t.put ∙ length-set order found dart ∙ s.order_length;
              count = omega (arith, t.more, s.count, count_below-more (mark seen') (mark seen) n dart ld at_dart fresh (λ a la ne. at_other a ne));
              more = omega (arith, t.more, s.more);
              kept = λ a la e. keeps a la (s.kept a la e);
              within = λ k lo lk. grind (arith, cases_eq);
              marked = λ k lo lk. grind (arith, cases_eq);
              reached = λ k lo lk. grind (arith, cases_eq);
              listed = λ a la e. grind (arith, cases_eq);
            };
            here = at_dart;
            kept = keeps;
            order_kept = before;
            more = omega (arith, t.more);
          }
    ]

-- the state of the search where the darts of the order from `begin` to `done` are done
pub record Searched (f : ℕ → ℕ) (n : ℕ) (old : List Bool) (start begin : ℕ) (seen : List Bool) (order : List ℕ) (found done : ℕ) : Type 0 where
  pub state : Found f n old start begin seen order found
  pub started : mark seen start ≡ true
  pub since : begin ≤ done
  pub behind : done ≤ found
  pub each : (j : ℕ) → begin ≤ j → j < done → (mark seen (f (slice_index order j)) ≡ true) × (mark seen (twin (slice_index order j)) ≡ true)

-- nothing is found yet
found_none : (f : ℕ → ℕ) (n : ℕ) (old : List Bool) (start begin : ℕ) (order : List ℕ) → length old ≡ n → length order ≡ n → begin ≡ marked_count old n
    → Found f n old start begin old order begin
found_none f n old start begin order ls lo e = grind arith

pub search_start : (f : ℕ → ℕ) (n : ℕ) {old s1 : List Bool} {start begin : ℕ} (order : List ℕ) {o1 : List ℕ} {f1 : ℕ} → start < n → length old ≡ n
    → length order ≡ n → begin ≡ marked_count old n → IsVisit old s1 order o1 begin f1 start → Searched f n old start begin s1 o1 f1 begin
search_start f n {old} {s1} {start} {begin} order {o1} {f1} l ls lo e v =
    let a : Visited f n old start begin old s1 order o1 begin f1 start =
    visited s1 o1 f1 (found_none f n old start begin order ls lo e) l (Joined-refl f twin start) v in
    record { state = a.state; started = a.here; since = omega arith; behind = a.more; each = λ j low lj. absurd (omega arith) }

pub first_visit : {f : ℕ → ℕ} {n : ℕ} {old : List Bool} {start begin : ℕ} {seen : List Bool} (seen' : List Bool) {order : List ℕ} (order' : List ℕ) {found : ℕ}
    (found' : ℕ) {done : ℕ} → IsPermutation f n → Searched f n old start begin seen order found done → done < found
    → IsVisit seen seen' order order' found found' (f (slice_index order done))
    → Visited f n old start begin seen seen' order order' found found' (f (slice_index order done))
first_visit {f} {n} {old} {start} {begin} {seen} seen' {order} order' {found} found' {done} h s l v =
    let d : ℕ = slice_index order done in
    visited seen' order' found' s.state (h.within d (s.state.within done s.since l))
    (Joined-turned f twin start d (s.state.reached done s.since l)) v

pub two_visits : {f : ℕ → ℕ} {n : ℕ} {old : List Bool} {start begin : ℕ} {seen : List Bool} (s1 : List Bool) {s2 : List Bool} {order : List ℕ} (o1 : List ℕ)
    {o2 : List ℕ} {found : ℕ} (f1 : ℕ) {f2 : ℕ} {done : ℕ} → IsPermutation f n → n % 2 ≡ 0 → start < n → Searched f n old start begin seen order found done
    → done < found → IsVisit seen s1 order o1 found f1 (f (slice_index order done)) → IsVisit s1 s2 o1 o2 f1 f2 (twin (slice_index order done))
    → Searched f n old start begin s2 o2 f2 (done + 1)
two_visits {f} {n} {old} {start} {begin} {seen} s1 {s2} {order} o1 {o2} {found} f1 {f2} {done} h even ls s l v w =
    let d : ℕ = slice_index order done in
    let ld : d < n = s.state.within done s.since l in
    let a : Visited f n old start begin seen s1 order o1 found f1 (f d) = first_visit s1 o1 f1 h s l v in
    let b : Visited f n old start begin s1 s2 o1 o2 f1 f2 (twin d) =
    visited s2 o2 f2 a.state (twin-within n d even ld) (Joined-crossed f twin start d (s.state.reached done s.since l)) w in
    let both : (x : ℕ) → x < n → mark seen x ≡ true → mark s2 x ≡ true = λ x lx e. b.kept x lx (a.kept x lx e) in
    let same : (j : ℕ) → j < found → slice_index o2 j ≡ slice_index order j = λ j lj. b.order_kept j (omega (arith, a.more)) ∙ a.order_kept j lj in
    record {
      state = b.state;
      started = both start ls s.started;
      since = omega (arith, s.since);
      behind = omega (arith, a.more, b.more);
      each = λ j low lj. elim (cases_eq j done) [
        | inl e ↦ grind arith
        | inr ne ↦
            let at : slice_index o2 j ≡ slice_index order j = same j (omega (arith, s.behind)) in
            let lw : slice_index order j < n = s.state.within j low (omega (arith, s.behind)) in
            let (x, y) = s.each j low (omega arith) in
            (ap (λ z. mark s2 (f z)) at ∙ both _ (h.within _ lw) x, ap (λ z. mark s2 (twin z)) at ∙ both _ (twin-within n _ even lw) y)
      ];
    }

-- where all of the order is done, what is marked is what was marked and what is joined to the start
pub searched_all : {f : ℕ → ℕ} {n : ℕ} {old : List Bool} {start begin : ℕ} {seen : List Bool} {order : List ℕ} {found done : ℕ} → IsPermutation f n → n % 2 ≡ 0
    → start < n → IsClosed f n old → Searched f n old start begin seen order found done → found ≤ done → (a : ℕ) → a < n → (mark seen a ≡ true)
    ↔ ((mark old a ≡ true) ⊎ Joined f twin start a)
searched_all {f} {n} {start} {seen} h even ls c s l a la = (
  λ e. elim (s.state.listed a la e) [
    | inl first ↦ inl first
    | inr place ↦ let (j, lo, lj, w) = place in inr (subst (λ z. Joined f twin start z) w (s.state.reached j lo lj))
  ],
  λ v. elim v [
    | inl first ↦ s.state.kept a la first
    | inr j ↦ (kept_joined f twin (λ v. (v < n) × (mark seen v ≡ true)) turned crossed start a j (ls, s.started)).1
  ],
)
  where
    turned : (v : ℕ) → (v < n) × (mark seen v ≡ true) → (f v < n) × (mark seen (f v) ≡ true)
    turned v (lv, e) = (
      h.within v lv,
      elim (s.state.listed v lv e) [
        | inl first ↦ s.state.kept (f v) (h.within v lv) (c.turned v lv first)
        | inr place ↦ let (j, lo, lj, w) = place in subst (λ z. mark seen (f z) ≡ true) w (s.each j lo (omega arith)).0
      ],
    )

    crossed : (v : ℕ) → (v < n) × (mark seen v ≡ true) → (twin v < n) × (mark seen (twin v) ≡ true)
    crossed v (lv, e) = (
      twin-within n v even lv,
      elim (s.state.listed v lv e) [
        | inl first ↦ s.state.kept (twin v) (twin-within n v even lv) (c.crossed v lv first)
        | inr place ↦ let (j, lo, lj, w) = place in subst (λ z. mark seen (twin z) ≡ true) w (s.each j lo (omega arith)).1
      ],
    )

pub found_most : (f : ℕ → ℕ) (n : ℕ) (old : List Bool) (start begin : ℕ) (seen : List Bool) (order : List ℕ) (found : ℕ)
    → Found f n old start begin seen order found → found ≤ n
found_most f n old start begin seen order found s = omega (arith, s.count, count_below-le (mark seen) n)
