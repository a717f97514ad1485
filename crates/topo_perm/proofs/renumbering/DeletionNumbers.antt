-- A deletion under other numbers: where the segments of an edge are taken out of a slab that renumbers the system, and the midpoints that are left are
-- smoothed, the slab renumbers the system without the edge.
use Rattle.std.proofs.Common.{◌≡◌, ◌≢◌, ℕ, zero, suc, ◌%◌, ◌<◌, ◌≤◌, Bool, true, false, List, [], ◌∷◌, inl, inr, refl, sym, ◌∙◌, ap, subst, arith}
use Rattle.std.specs.List.{AllByRecursion}
use Rattle.topo_core.specs.Cycles.{IsPermutation}
use Rattle.topo_core.specs.Rotations.{twin}
use Rattle.topo_core.specs.Items.{IsIn}
use Rattle.topo_perm.specs.Edits.{IsAllowedSmooth, Leads}
use Rattle.topo_perm.specs.Renumbering.{RenumbersTurn}
use Rattle.topo_perm.specs.RenumberedEdits.{IsAlive, RenumbersSlab}
use Rattle.topo_perm.specs.Runs.{Turning, Edit, IsRun}
use Rattle.topo_perm.specs.Runs.Edit.{Unchord, Smooth}
use Rattle.topo_perm.proofs.renumbering.EditNumbers.{alive_turn, alive_twin, dead_apart, still_alive, unchord_numbers}
use Rattle.topo_perm.proofs.renumbering.SplitNumbers.{smooth_numbers}
use Rattle.topo_perm.proofs.renumbering.Composing.{composed_numbers, slab_of_turn, turn_of_slab}
use Rattle.topo_perm.proofs.runs.DeletionSteps.{IsOpening, left_after, segment_left, step_adds}
use Rattle.topo_perm.proofs.runs.InsertionPaths.{all_at}
use Rattle.topo_perm.proofs.runs.Midpoints.{AreMidway, IsMidpoint, can_smooth, even_not_odd, left_other, no_loop, odd_twin}
use Rattle.topo_perm.proofs.runs.Midpoints.{smoothed_midway, smoothed_name, smoothed_name-other, taken, without_segment}

-- ---- The segments of the edge

-- the first i segments taken out, the last first in the list
abbrev pub unchords_of : (ℕ → ℕ) → ℕ → List Edit
unchords_of h zero = []
unchords_of h (suc i) = Unchord (h i) ∷ unchords_of h i

pub opened_numbers : {t : ℕ → ℕ → ℕ} {n : ℕ} {h : ℕ → ℕ} {count : ℕ} → IsOpening t n h count → {nu back : ℕ → ℕ} {limit : ℕ} {u : Turning} (v : Turning)
    → RenumbersSlab nu back (left_after h 0) (t 0) n u.live u.turn limit
    → (i : ℕ) → i ≤ count → IsRun limit u (unchords_of (λ j. nu (h j)) i) v → RenumbersSlab nu back (left_after h i) (t i) n v.live v.turn limit
opened_numbers {t} {n} {h} o {nu} {back} {limit} v r zero li run =
    subst (λ (w : Turning). RenumbersSlab nu back (left_after h 0) (t 0) n w.live w.turn limit) run r
opened_numbers {t} {n} {h} {count} o {nu} {back} {limit} {u} v r (suc i) li run =
    let lc : i < count = omega (arith, li) in
    unchord_numbers
    (opened_numbers o run.0 r i (omega (arith, li)) run.1)
    (record { within = o.there i lc; alive = (segment_left t n h count o i lc).0 }) (step_adds t n h count o i lc) run.2.0.takes (o.unchord i lc) run.2.1

-- ---- The midpoints

-- the points of these darts smoothed, the last first in the list
abbrev pub smooths_of : (ℕ → ℕ) → List ℕ → List Edit
smooths_of h [] = []
smooths_of h (x ∷ xs) = Smooth (h x) ∷ smooths_of h xs

-- live midpoints, each once
abbrev pub AreMids : (ℕ → Type 0) → (ℕ → Bool) → ℕ → List ℕ → Type 0
AreMids middle live n [] = Unit {0}
AreMids middle live n (x ∷ xs) = IsAlive live n x × middle x × AllByRecursion (λ y. x ≢ y) xs × AreMids middle live n xs

-- some slab that the numbers carry to v, in which these midpoints are gone
record IsSmoothedTo (middle : ℕ → Type 0) (rank : ℕ → ℕ) (live : ℕ → Bool) (n : ℕ) (f : ℕ → ℕ) (m : ℕ) (name onto nu back : ℕ → ℕ) (limit : ℕ) (xs : List ℕ)
    (v : Turning) : Type 0 where
  left : ℕ → Bool
  turn : ℕ → ℕ
  names : ℕ → ℕ
  midway : AreMidway middle rank left turn n f m names onto
  numbers : RenumbersSlab nu back left turn n v.live v.turn limit
  forward : (d : ℕ) → d < m → name d % 2 ≡ 0 → names d ≡ name d
  was : (a : ℕ) → IsAlive left n a → IsAlive live n a
  stays : (a : ℕ) → IsAlive live n a → AllByRecursion (λ x. (a ≢ x) × (a ≢ twin x)) xs → IsAlive left n a
  gone : AllByRecursion (λ x. left x ≡ false) xs

-- the slab v renumbers the system without the midpoints: a dart that was named by an even number has the half of that
pub record IsSmoothedUnder (f : ℕ → ℕ) (m : ℕ) (name nu : ℕ → ℕ) (v : Turning) (limit : ℕ) : Type 0 where
  pub number : ℕ → ℕ
  pub back_number : ℕ → ℕ
  pub renumbers : RenumbersTurn number back_number f v.turn m v.live limit
  pub forward : (d : ℕ) → d < m → name d % 2 ≡ 0 → number d ≡ nu (name d)

-- two halves of two segments start at the point of x, which is live
pub record IsSmoothable (v : Turning) (limit x : ℕ) : Type 0 where
  pub there : IsAlive v.live limit x
  pub two : v.turn (v.turn x) ≡ x
  pub not_alone : v.turn x ≢ x
  pub two_segments : v.turn x ≢ twin x

module _ {middle : ℕ → Type 0} {rank : ℕ → ℕ} {live : ℕ → Bool} {t : ℕ → ℕ} {n : ℕ} {f : ℕ → ℕ} {m : ℕ} {name onto : ℕ → ℕ}
    (w : AreMidway middle rank live t n f m name onto) (p : IsPermutation f m) (even : m % 2 ≡ 0)
    {nu back : ℕ → ℕ} {limit : ℕ} (u : Turning) (r : RenumbersSlab nu back live t n u.live u.turn limit) where
  away : (a : ℕ) → a % 2 ≡ 0 → (xs : List ℕ) → AreMids middle live n xs → AllByRecursion (λ y. a ≢ y) xs → AllByRecursion (λ x. (a ≢ x) × (a ≢ twin x)) xs
  away a e [] mids apart = tt
  away a e (x ∷ xs) mids apart = ((apart.0, even_not_odd a (twin x) e (odd_twin x (w.midpoints x mids.0 mids.1).even)), away a e xs mids.3 apart.1)

  dead_still : (old new : ℕ → Bool) (xs : List ℕ) → ((a : ℕ) → IsAlive new n a → IsAlive old n a) → AreMids middle live n xs
      → AllByRecursion (λ x. old x ≡ false) xs → AllByRecursion (λ x. new x ≡ false) xs
  dead_still old new [] sub mids dead = tt
  dead_still old new (x ∷ xs) sub mids dead = (
    not_live (new x) (λ e. dead_apart old x x dead.0 (sub x (record { within = mids.0.within; alive = e })).alive refl),
    dead_still old new xs sub mids.3 dead.1,
  ) where
    not_live : (b : Bool) → (b ≡ true → ⊥) → b ≡ false
    not_live true k = absurd (k refl)
    not_live false k = refl

  smoothed : (xs : List ℕ) (v : Turning) → AreMids middle live n xs → IsRun limit u (smooths_of nu xs) v
      → IsSmoothedTo middle rank live n f m name onto nu back limit xs v
  smoothed [] v mids run = grind arith
  smoothed (x ∷ xs) v mids run =
      let before : IsSmoothedTo middle rank live n f m name onto nu back limit xs run.0 = smoothed xs run.0 mids.3 run.1 in
      let old : ℕ → Bool = before.left in
      let point : IsMidpoint t m name onto rank x = w.midpoints x mids.0 mids.1 in
      let xt : IsAlive old n x = before.stays x mids.0 (away x point.even xs mids.3 mids.2) in
      let led : Leads (λ g. IsAllowedSmooth before.turn g n x) = can_smooth before.midway xt mids.1 in
      let takes = taken before.midway xt mids.1 in
      let new : ℕ → Bool = without_segment old x in
      let sub : (a : ℕ) → IsAlive new n a → IsAlive old n a = λ a at. still_alive new old n x a takes at in
      record {
        left = new;
        turn = led.turn;
        names = smoothed_name before.turn before.names x;
        midway = smoothed_midway before.midway xt mids.1 led.edit p;
        numbers = smooth_numbers before.numbers xt
            (no_loop before.midway xt mids.1) takes run.2.0.takes led.edit.turns.after run.2.0.permutation led.edit.edit run.2.2;
        forward = λ d ld e.
            let same : before.names d ≡ name d = before.forward d ld e in
            smoothed_name-other before.turn before.names x d (λ k. even_not_odd (name d) (twin x) e (odd_twin x point.even) (sym same ∙ k)) ∙ same;
        was = λ a at. before.was a (sub a at);
        stays = λ a at far. record { within = at.within; alive = left_other old x a far.0.0 far.0.1 ∙ (before.stays a at far.1).alive };
        gone = (takes.new, dead_still old new xs sub mids.3 before.gone);
      }

  -- with some midpoints smoothed, the point of another can be
  pub smoothable : (x : ℕ) (xs : List ℕ) (v : Turning) → AreMids middle live n (x ∷ xs) → IsRun limit u (smooths_of nu xs) v → IsSmoothable v limit (nu x)
  smoothable x xs v mids run =
      let s : IsSmoothedTo middle rank live n f m name onto nu back limit xs v = smoothed xs v mids.3 run in
      let first : IsMidpoint t m name onto rank x = w.midpoints x mids.0 mids.1 in
      let xt : IsAlive s.left n x = s.stays x mids.0 (away x first.even xs mids.3 mids.2) in
      let point : IsMidpoint s.turn m s.names onto rank x = s.midway.midpoints x xt mids.1 in
      let next : IsAlive s.left n (s.turn x) = alive_turn s.left s.turn n x s.midway.slab xt in
      let leads : v.turn (nu x) ≡ nu (s.turn x) = s.numbers.turns x xt in
      let apart : (a : ℕ) → IsAlive s.left n a → s.turn x ≢ a → v.turn (nu x) ≢ nu a =
      λ a at ne e. ne (sym (s.numbers.into.returns (s.turn x) next) ∙ ap back (sym leads ∙ e) ∙ s.numbers.into.returns a at) in
      record {
        there = s.numbers.into.there x xt;
        two = ap v.turn leads ∙ s.numbers.turns (s.turn x) next ∙ ap nu point.two;
        not_alone = apart x xt (λ e. even_not_odd x (s.turn x) point.even point.odd (sym e));
        two_segments = λ e. apart (twin x) (alive_twin s.left s.turn n x s.midway.slab xt) (no_loop s.midway xt mids.1) (e ∙ sym (s.numbers.into.twins x xt));
      }

  pub smoothed_numbers : (xs : List ℕ) (v : Turning) → AreMids middle live n xs → ((x : ℕ) → IsAlive live n x → middle x → IsIn x xs)
      → IsRun limit u (smooths_of nu xs) v → IsSmoothedUnder f m name nu v limit
  smoothed_numbers xs v mids all run =
      let s : IsSmoothedTo middle rank live n f m name onto nu back limit xs v = smoothed xs v mids run in
      let z : AreMidway middle rank s.left s.turn n f m s.names onto = s.midway in
      let named : (y : ℕ) → IsAlive s.left n y → y ≡ s.names (onto y) = λ y yt. elim (z.placed y yt) [
        | inl e ↦ e
        | inr (x, xt, mid, at) ↦ absurd (dead_apart s.left x x (all_at (λ k. s.left k ≡ false) x xs s.gone (all x (s.was x xt) mid)) xt.alive refl)
      ] in
      let below : RenumbersTurn s.names onto f s.turn m s.left n = record {
        turn = record {
          before = p;
          after = z.slab.permutation;
          numbers = record {
            within = λ a la. (z.named a la).within;
            alive = λ a la. (z.named a la).alive;
            returns = z.returns;
            back_within = λ y ly e. z.onto_within y (record { within = ly; alive = e });
            back_returns = λ y ly e. sym (named y (record { within = ly; alive = e }));
          };
          map = record { each = z.turns };
        };
        even = even;
        after_even = z.slab.even;
        twins = record {
          each = λ a la.
              named (twin (s.names a)) (alive_twin s.left s.turn n (s.names a) z.slab (z.named a la))
              ∙ ap s.names (z.twins (s.names a) (z.named a la) ∙ ap twin (z.returns a la));
        };
      } in
      record {
        number = λ a. nu (s.names a);
        back_number = λ y. onto (back y);
        renumbers = turn_of_slab (λ a. nu (s.names a)) (λ y. onto (back y)) f v.turn m (λ _. true) v.live limit (λ a la. refl)
            (composed_numbers (slab_of_turn s.names onto f s.turn m s.left n below z.slab) s.numbers);
        forward = λ d ld e. ap nu (s.forward d ld e);
      }
