-- Lists of all halves, with twins side by side.
use Rattle.std.proofs.Common.{◌≡◌, ◌≢◌, ℕ, zero, suc, ◌+◌, ◌*◌, ◌/◌, ◌%◌, ◌<◌, ◌==◌, Bool, true, false, cond}
use Rattle.std.proofs.Common.{◌⊎◌, inl, inr, refl, sym, ◌∙◌, ap, subst, arith, List, [], ◌∷◌, ◌++◌, length}
use Rattle.std.proofs.lemmas.Bool.{cases_eq, cond-true, cond-false, eq-eqb, ne_eqb}
use Rattle.std.proofs.lemmas.List.{get_or_append_left, length-append}
use Rattle.std.proofs.Math.Seq.{get_or-append_seam}
use Rattle.topo_core.specs.Cycles.{map_of, count_below}
use Rattle.topo_core.specs.Rotations.{twin}
use Rattle.topo_perm.specs.Joins.{AddsSegment}
use Rattle.topo_perm.proofs.Interface.{twin-cases, twin-other, twin-twin, twin-within}
use Rattle.topo_perm.specs.Live.{live_segments}
use Rattle.topo_map.specs.Rotation.{AddsLabel, AreLabelled, half_limit}
use Rattle.topo_map.specs.Building.{IsListed}
use Rattle.topo_map.proofs.Stored.{true_false}

record Longer (hs new : List ℕ) (x y : ℕ) : Type 0 where
  size : length new ≡ length hs + 2
  old : (a : ℕ) → a < length hs → map_of new a ≡ map_of hs a
  first : map_of new (length hs) ≡ x
  second : map_of new (length hs + 1) ≡ y

longer : (hs : List ℕ) (x y : ℕ) → Longer hs ((hs ++ x ∷ []) ++ y ∷ []) x y
longer hs x y = grind (arith, length-append, get_or_append_left, get_or-append_seam)

three : (a m : ℕ) → a < m + 2 → (a < m) ⊎ ((a ≡ m) ⊎ (a ≡ m + 1))
three a m l = grind (arith, cases_eq)

even-twin : (m : ℕ) → m % 2 ≡ 0 → (twin m ≡ m + 1) × (twin (m + 1) ≡ m)
even-twin m e = grind (arith, twin-cases, twin-twin)

abbrev placed : (ℕ → ℕ) → ℕ → ℕ → ℕ → ℕ → ℕ
placed place x y m v = cond (v == x) m (cond (v == y) (m + 1) (place v))

placed-first : (place : ℕ → ℕ) (x y m v : ℕ) → v ≡ x → placed place x y m v ≡ m
placed-first place x y m v e = cond-true _ _ _ (eq-eqb _ _ e)

placed-second : (place : ℕ → ℕ) (x y m v : ℕ) → v ≢ x → v ≡ y → placed place x y m v ≡ m + 1
placed-second place x y m v ne e = cond-false _ _ _ (ne_eqb _ _ ne) ∙ cond-true _ _ _ (eq-eqb _ _ e)

placed-else : (place : ℕ → ℕ) (x y m v : ℕ) → v ≢ x → v ≢ y → placed place x y m v ≡ place v
placed-else place x y m v ne nd = cond-false _ _ _ (ne_eqb _ _ ne) ∙ cond-false _ _ _ (ne_eqb _ _ nd)

-- a new segment comes to the end of the list
pub listed_more : {live live' : ℕ → Bool} {hs : List ℕ} (new : List ℕ) {x : ℕ} (y : ℕ) → live_segments live' half_limit ≡ live_segments live half_limit + 1
    → ((a : ℕ) → live a ≡ true → a < half_limit) → ((a : ℕ) → live' a ≡ true → a < half_limit) → IsListed live hs → AddsSegment live live' half_limit x
    → y ≡ twin x → new ≡ (hs ++ x ∷ []) ++ y ∷ [] → IsListed live' new
listed_more {live} {live'} {hs} new {x} y one_more within within' k t ey en =
    let m : ℕ = length hs in
    let g : Longer hs new x y = subst (λ (l : List ℕ). Longer hs l x y) (sym en) (longer hs x y) in
    let size : length new ≡ length hs + 2 = g.size in
    let yx : y ≢ x = λ w. twin-other x (sym ey ∙ w) in
    let live_y : live y ≡ false = ap live ey ∙ t.new_twin in
    let here_y : live' y ≡ true = ap live' ey ∙ t.here_twin in
    let not_x : (v : ℕ) → live v ≡ true → v ≢ x = λ v h w. true_false (sym h ∙ ap live w ∙ t.new) in
    let not_y : (v : ℕ) → live v ≡ true → v ≢ y = λ v h w. true_false (sym h ∙ ap live w ∙ live_y) in
    let was : (v : ℕ) → live' v ≡ true → v ≢ x → v ≢ y → live v ≡ true = λ v h nx ny. sym (t.others v (within' v h) nx (λ w. ny (w ∙ sym ey))) ∙ h in
    let place' : ℕ → ℕ = placed k.place x y m in
    let even_m : length hs % 2 ≡ 0 = k.even in
    let were : 2 * live_segments live half_limit ≡ length hs = k.counted in
    record {
      counted = (let w : 2 * live_segments live' half_limit ≡ length new = omega arith in w);
      even = (let w : length new % 2 ≡ 0 = omega arith in w);
      alive = λ a l. elim (three a m (subst (λ (n : ℕ). a < n) size l)) [
        | inl old ↦
            let h : live (map_of hs a) ≡ true = k.alive a old in
            ap live' (g.old a old) ∙ t.others (map_of hs a) (within (map_of hs a) h) (not_x (map_of hs a) h) (λ w. not_y (map_of hs a) h (w ∙ sym ey)) ∙ h
        | inr q ↦ grind arith
      ];
      twins = λ a l. elim (three a m (subst (λ (n : ℕ). a < n) size l)) [
        | inl old ↦ ap twin (g.old a old) ∙ k.twins a old ∙ sym (g.old (twin a) (twin-within m a even_m old))
        | inr q ↦ grind (arith, even-twin, twin-twin)
      ];
      place = place';
      returns = λ a l. elim (three a m (subst (λ (n : ℕ). a < n) size l)) [
        | inl old ↦
            let h : live (map_of hs a) ≡ true = k.alive a old in
            ap place' (g.old a old) ∙ placed-else k.place x y m (map_of hs a) (not_x (map_of hs a) h) (not_y (map_of hs a) h) ∙ k.returns a old
        | inr q ↦ grind (arith, placed-first, placed-second)
      ];
      place_within = λ v h. grind (arith, cases_eq, placed-first, placed-second, placed-else);
      place_returns = λ v h. grind (arith, cases_eq, placed-first, placed-second, placed-else);
    }

-- a new segment's halves have its label
pub labelled_more : {old new : ℕ → ℕ} {live : ℕ → Bool} (labels : List ℕ) {hs all : List ℕ} {x y : ℕ} (i : ℕ) {label : ℕ}
    → all ≡ (hs ++ x ∷ []) ++ y ∷ [] → y ≡ twin x → length hs ≡ 2 * i → label ≡ map_of labels i → IsListed live hs
    → AreLabelled labels hs old → AddsLabel live old new x label → AreLabelled labels all new
labelled_more {old} {new} labels {hs} {all} {x} {y} i en ey size is k were t a l =
    let g : Longer hs all x y = subst (λ (l : List ℕ). Longer hs l x y) (sym en) (longer hs x y) in
    elim (three a (length hs) (subst (λ (n : ℕ). a < n) g.size l)) [
      | inl before ↦ ap new (g.old a before) ∙ t.others (map_of hs a) (k.alive a before) ∙ were a before
      | inr q ↦ grind arith
    ]

count_none : (p : ℕ → Bool) (n : ℕ) → ((i : ℕ) → p i ≡ false) → count_below p n ≡ 0
count_none p zero h = refl
count_none p (suc n) h = ap (λ (b : Bool). count_below p n + cond b 1 0) (h n)
    ∙ (let e : count_below p n ≡ 0 = count_none p n h in let w : count_below p n + 0 ≡ 0 = omega arith in w)

-- nothing is listed where nothing is live
pub listed_none : (live : ℕ → Bool) → ((a : ℕ) → live a ≡ false) → IsListed live []
listed_none live none = record {
  counted = ap (λ (n : ℕ). 2 * n) (count_none (λ i. live (2 * i)) (half_limit / 2) (λ i. none (2 * i)));
  even = refl;
  alive = λ a l. absurd (let w : ⊥ = omega arith in w);
  twins = λ a l. absurd (let w : ⊥ = omega arith in w);
  place = λ a. a;
  returns = λ a l. absurd (let w : ⊥ = omega arith in w);
  place_within = λ y h. absurd (true_false (sym h ∙ none y));
  place_returns = λ y h. absurd (true_false (sym h ∙ none y));
}
