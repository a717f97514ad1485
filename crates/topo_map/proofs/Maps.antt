-- Maps and their inverses, under the writes by which a number is put in or taken out.
use Rattle.std.proofs.Common.{arith, ◌≡◌, ◌≢◌, ℕ, sym, ◌∙◌, ap}
use Rattle.std.proofs.lemmas.Bool.{cases_eq, cond-true, cond-false, eq-eqb, ne_eqb}
use Rattle.topo_map.specs.Segments.{written, put, without, AreInverse}

pub funext : (f g : ℕ → ℕ) → ((a : ℕ) → f a ≡ g a) → f ≡ g
funext f g h = λ i a. h a i

pub written-at : (f : ℕ → ℕ) (i v a : ℕ) → a ≡ i → written f i v a ≡ v
written-at f i v a e = cond-true _ _ _ (eq-eqb _ _ e)

pub written-else : (f : ℕ → ℕ) (i v a : ℕ) → a ≢ i → written f i v a ≡ f a
written-else f i v a ne = cond-false _ _ _ (ne_eqb _ _ ne)

-- two writes, the later one first
pub twice-late : (f : ℕ → ℕ) (i v j w a : ℕ) → a ≡ j → written (written f i v) j w a ≡ w
twice-late f i v j w a e = written-at (written f i v) j w a e

pub twice-early : (f : ℕ → ℕ) (i v j w a : ℕ) → a ≢ j → a ≡ i → written (written f i v) j w a ≡ v
twice-early f i v j w a ne e = written-else (written f i v) j w a ne ∙ written-at f i v a e

pub twice-else : (f : ℕ → ℕ) (i v j w a : ℕ) → a ≢ j → a ≢ i → written (written f i v) j w a ≡ f a
twice-else f i v j w a nj ni = written-else (written f i v) j w a nj ∙ written-else f i v a ni

-- ---- Put before

-- f and b undo each other, and x stands alone
pub record IsLone (f b : ℕ → ℕ) (x c : ℕ) : Type 0 where
  pub inverse : AreInverse f b
  pub alone : f x ≡ x
  pub different : c ≢ x

put_next-at : (f b : ℕ → ℕ) (x c : ℕ) → IsLone f b x c → (a : ℕ) → written (written f (b c) x) x c a ≡ put f x c a
put_next-at f b x c l a = grind (arith, cases_eq, twice-late, cond-true, eq-eqb, twice-early, cond-false, ne_eqb, twice-else)

pub put_next : (f b : ℕ → ℕ) (x c : ℕ) → IsLone f b x c → written (written f (b c) x) x c ≡ put f x c
put_next f b x c l = funext (written (written f (b c) x) x c) (put f x c) (put_next-at f b x c l)

before-alone : (f b : ℕ → ℕ) (x : ℕ) → AreInverse f b → f x ≡ x → b x ≡ x
before-alone f b x l e = ap b (sym e) ∙ l.back x

put_back : (f b : ℕ → ℕ) (x c : ℕ) → IsLone f b x c → (a : ℕ) → written (written b x (b c)) c x (written (written f (b c) x) x c a) ≡ a
put_back f b x c l a = grind (arith, cases_eq, twice-late, twice-early, twice-else, before-alone)

put_onward : (f b : ℕ → ℕ) (x c : ℕ) → IsLone f b x c → (a : ℕ) → written (written f (b c) x) x c (written (written b x (b c)) c x a) ≡ a
put_onward f b x c l a = grind (arith, cases_eq, twice-late, twice-early, twice-else)

pub put_inverse : (f b : ℕ → ℕ) (x c : ℕ) → IsLone f b x c → AreInverse (written (written f (b c) x) x c) (written (written b x (b c)) c x)
put_inverse f b x c l = record { back = put_back f b x c l; onward = put_onward f b x c l }

-- ---- Taken out

without_next-at : (f b : ℕ → ℕ) (x : ℕ) → AreInverse f b → (a : ℕ) → written (written f (b x) (f x)) x x a ≡ without f x a
without_next-at f b x l a = grind (arith, cases_eq, twice-late, cond-true, eq-eqb, twice-early, cond-false, ne_eqb, twice-else)

pub without_next : (f b : ℕ → ℕ) (x : ℕ) → AreInverse f b → written (written f (b x) (f x)) x x ≡ without f x
without_next f b x l = funext (written (written f (b x) (f x)) x x) (without f x) (without_next-at f b x l)

without_back : (f b : ℕ → ℕ) (x : ℕ) → AreInverse f b → (a : ℕ) → written (written b (f x) (b x)) x x (written (written f (b x) (f x)) x x a) ≡ a
without_back f b x l a = grind (arith, cases_eq, twice-late, twice-early, before-alone, twice-else)

other_way : (f b : ℕ → ℕ) → AreInverse f b → AreInverse b f
other_way f b l = record { back = l.onward; onward = l.back }

pub without_inverse : (f b : ℕ → ℕ) (x : ℕ) → AreInverse f b → AreInverse (written (written f (b x) (f x)) x x) (written (written b (f x) (b x)) x x)
without_inverse f b x l = record { back = without_back f b x l; onward = without_back b f x (other_way f b l) }
