-- Classes among the numbers that are live: the others are each alone.
use Rattle.std.proofs.Common.{◌≡◌, ℕ, ◌<◌, ◌≤◌, Bool, true, ◌&&◌, sym, ◌∙◌, arith}
use Rattle.std.proofs.lemmas.Bool.{and_parts, and_from}
use Rattle.topo_core.specs.Cycles.{is_first, class_count}
use Rattle.topo_perm.specs.Live.{live_class_count}
use Rattle.topo_perm.proofs.permutations.Classes.{IsEquivalence}
use Rattle.topo_perm.proofs.permutations.Points.{count_below-into, leader, leader-first, leaders_same, firsts_same, IsFirstOf}

-- h carries r on all numbers below n to s on the live ones below m, and meets each live class
pub record CarriesLive (h : ℕ → ℕ) (r : ℕ → ℕ → Bool) (n : ℕ) (live : ℕ → Bool) (s : ℕ → ℕ → Bool) (m : ℕ) : Type 0 where
  pub within : (a : ℕ) → a < n → h a < m
  pub alive : (a : ℕ) → a < n → live (h a) ≡ true
  pub same : (a b : ℕ) → a < n → b < n → s (h a) (h b) ≡ r a b
  pub from : ℕ → ℕ
  pub from_within : (y : ℕ) → y < m → live y ≡ true → from y < n
  pub meets : (y : ℕ) → y < m → live y ≡ true → s (h (from y)) y ≡ true
  pub apart : (y z : ℕ) → y < m → z < m → live z ≡ true → s y z ≡ true → live y ≡ true

pub live_class_count-carries : (h : ℕ → ℕ) (r : ℕ → ℕ → Bool) (n : ℕ) (live : ℕ → Bool) (s : ℕ → ℕ → Bool) (m : ℕ) → IsEquivalence r n → IsEquivalence s m
    → CarriesLive h r n live s m → class_count r n ≡ live_class_count live s m
live_class_count-carries h r n live s m e w c =
    let q : ℕ → Bool = λ y. live y && is_first s y in
    let top : (a : ℕ) → a < n → IsFirstOf s (h a) (leader s (h a)) = λ a la. leader-first s m (h a) w (c.within a la) in
    let up : class_count r n ≤ live_class_count live s m =
    count_below-into (is_first r) q n m (λ a. leader s (h a))
    (λ a la _. omega (arith, (top a la).low, c.within a la))
    (λ a la _.
    let lm : leader s (h a) < m = omega (arith, (top a la).low, c.within a la) in
    and_from (live (leader s (h a))) (is_first s (leader s (h a))) (c.apart (leader s (h a)) (h a) lm (c.within a la) (c.alive a la) (top a la).related)
    (top a la).first)
    (λ a b la lb fa fb met. firsts_same r n a b e la lb fa fb (sym (c.same a b la lb) ∙ leaders_same s m (h a) (h b) w (c.within a la) (c.within b lb) met)) in
    let both : (y : ℕ) → q y ≡ true → (live y ≡ true) × (is_first s y ≡ true) = λ y t. and_parts (live y) (is_first s y) t in
    let down : live_class_count live s m ≤ class_count r n =
    count_below-into q (is_first r) m n (λ y. leader r (c.from y))
    (λ y ly t. let ry = c.from_within y ly (both y t).0 in omega (arith, (leader-first r n (c.from y) e ry).low, ry))
    (λ y ly t. (leader-first r n (c.from y) e (c.from_within y ly (both y t).0)).first)
    (λ y z ly lz ty tz equal.
    let ry = c.from_within y ly (both y ty).0 in
    let rz = c.from_within z lz (both z tz).0 in
    let met : s (h (c.from y)) (h (c.from z)) ≡ true = c.same (c.from y) (c.from z) ry rz ∙ leaders_same r n (c.from y) (c.from z) e ry rz equal in
    firsts_same s m y z w ly lz (both y ty).1 (both z tz).1
    (w.transitive y (h (c.from y)) z ly (c.within _ ry) lz (w.symmetric _ _ (c.within _ ry) ly (c.meets y ly (both y ty).0))
    (w.transitive (h (c.from y)) (h (c.from z)) z (c.within _ ry) (c.within _ rz) lz met (c.meets z lz (both z tz).0)))) in
    omega (arith, up, down)
