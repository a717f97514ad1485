-- Receipts that are as many as the entries are all of them.
use Rattle.std.proofs.Common.{◌≡◌, ℕ, ◌+◌, ◌≤◌, ◌==◌, Bool, true, false, List, [], ◌∷◌, ◌++◌, ◌⊎◌}
use Rattle.std.proofs.Common.{inl, inr, ⊎_elim, length, refl, ap, sym, ◌∙◌, arith, length-append, All}
use Rattle.std.proofs.lemmas.List.{append-nil, length-map}
use Rattle.std.proofs.lemmas.List.Sums.{sum_by-cons}
use Rattle.std.proofs.lemmas.List.Elements.{All-head, All-tail, All-cons}
use Rattle.std.proofs.lemmas.Bool.Decides.{nat_tests}
use Rattle.topo_core.specs.declared.calls.Entry.{Entry}
use Rattle.topo_core.specs.Items.{IsIn}
use Rattle.topo_core.specs.History.{entries_of}
use Rattle.topo_service.specs.declared.pass.Receipt.{Receipt}
use Rattle.topo_service.specs.Passes.{PassState}
use Rattle.topo_service.specs.Receipts.{AreFirst, AreWhole, HasNumber, receipt_count, receipt_in, receipts_due}
use Rattle.topo_service.proofs.Numbers.{Apart}

abbrev put_unless : Bool → Entry → List Entry → List Entry
put_unless true e es = es
put_unless false e es = e ∷ es

-- the entries of other callers
abbrev others : ℕ → List Entry → List Entry
others n [] = []
others n (e ∷ es) = put_unless (e.caller == n) e (others n es)

-- the entries of a caller and those of the others are all
split : (n : ℕ) (es : List Entry) → length es ≡ length (entries_of n es) + length (others n es)
split n [] = refl
split n (e ∷ es) = by_caller (e.caller == n) refl (split n es) where
  by_caller : (b : Bool) → (e.caller == n) ≡ b → length es ≡ length (entries_of n es) + length (others n es)
      → length (e ∷ es) ≡ length (entries_of n (e ∷ es)) + length (others n (e ∷ es))
  by_caller true own rest = rw own (omega (arith, rest))
  by_caller false other rest = rw other (omega (arith, rest))

-- leaving one caller out leaves the entries of another
keeps : (n m : ℕ) → (m ≡ n → ⊥) → (es : List Entry) → entries_of m (others n es) ≡ entries_of m es
keeps n m apart [] = refl
keeps n m apart (e ∷ es) = by_caller (e.caller == n) refl (e.caller == m) refl (keeps n m apart es) where
  by_caller : (b : Bool) → (e.caller == n) ≡ b → (a : Bool) → (e.caller == m) ≡ a → entries_of m (others n es) ≡ entries_of m es
      → entries_of m (others n (e ∷ es)) ≡ entries_of m (e ∷ es)
  by_caller true own true both rest = absurd (apart (grind (arith, nat_tests, own, both)))
  by_caller true own false not_m rest = rw (own, not_m) rest
  by_caller false other true is_m rest = rw (other, is_m) (ap (λ l. e ∷ l) rest)
  by_caller false other false not_m rest = rw (other, not_m) rest

-- an entry is of the caller or of another
of_either : (n : ℕ) (es : List Entry) (x : Entry) → IsIn x es → (x.caller ≡ n) ⊎ IsIn x (others n es)
of_either n [] x there = absurd there
of_either n (e ∷ es) x (inl same) = here (e.caller == n) refl where
  here : (b : Bool) → (e.caller == n) ≡ b → (x.caller ≡ n) ⊎ IsIn x (others n (e ∷ es))
  here true own = inl (ap (λ y. y.caller) same ∙ grind (arith, nat_tests, own))
  here false other = rw other (inr (inl same))
of_either n (e ∷ es) x (inr there) = later (e.caller == n) (of_either n es x there) where
  later : (b : Bool) → (x.caller ≡ n) ⊎ IsIn x (others n es) → (x.caller ≡ n) ⊎ IsIn x (put_unless b e (others n es))
  later true h = h
  later false (inl own) = inl own
  later false (inr h) = inr (inr h)

-- no pass has more receipts than its caller has entries
abbrev Fits : List Entry → List PassState → Type 0
Fits es [] = Unit {0}
Fits es (p ∷ ps) = (length p.receipts ≤ length (entries_of p.number es)) × Fits es ps

-- each pass has as many as its caller has entries
abbrev pub Fills : List Entry → List PassState → Type 0
Fills es [] = Unit {0}
Fills es (p ∷ ps) = (length p.receipts ≡ length (entries_of p.number es)) × Fills es ps

fits_others : (n : ℕ) (es : List Entry) (ps : List PassState) → (HasNumber n ps → ⊥) → Fits es ps → Fits (others n es) ps
fits_others n es [] away fits = tt
fits_others n es (p ∷ ps) away fits = (rw (keeps n p.number (λ e. away (inl e)) es) fits.0, fits_others n es ps (λ h. away (inr h)) fits.1)

fills_back : (n : ℕ) (es : List Entry) (ps : List PassState) → (HasNumber n ps → ⊥) → Fills (others n es) ps → Fills es ps
fills_back n es [] away filled = tt
fills_back n es (p ∷ ps) away filled = (filled.0 ∙ ap length (keeps n p.number (λ e. away (inl e)) es), fills_back n es ps (λ h. away (inr h)) filled.1)

count_cons : (p : PassState) (ps : List PassState) → receipt_count (p ∷ ps) ≡ length p.receipts + receipt_count ps
count_cons p ps = sum_by-cons (λ (pass : PassState). length pass.receipts) p ps

-- receipts are at most as many as entries
at_most : (es : List Entry) (ps : List PassState) → Apart ps → Fits es ps → receipt_count ps ≤ length es
at_most es [] apart fits = omega arith
at_most es (p ∷ ps) apart fits =
    omega (arith, split p.number es, fits.0, at_most (others p.number es) ps apart.1 (fits_others p.number es ps apart.0 fits.1), count_cons p ps)

-- where they are as many, each pass has as many as its caller has entries
fills : (es : List Entry) (ps : List PassState) → Apart ps → Fits es ps → length es ≤ receipt_count ps → Fills es ps
fills es [] apart fits le = tt
fills es (p ∷ ps) apart fits le =
    let n = p.number in
    let fewer = fits_others n es ps apart.0 fits.1 in
    let rest = at_most (others n es) ps apart.1 fewer in
    let both = split n es in
    let one = count_cons p ps in
    (omega (arith, rest, both, one, le, fits.0), fills_back n es ps apart.0 (fills (others n es) ps apart.1 fewer (omega (arith, rest, both, one, le, fits.0))))

-- and no other caller stands among them
known : (es : List Entry) (ps : List PassState) → Apart ps → Fits es ps → length es ≤ receipt_count ps → (x : Entry) → IsIn x es → HasNumber x.caller ps
known [] [] apart fits le x there = absurd there
known (e ∷ es) [] apart fits le x there = absurd (omega (arith, le))
known es (p ∷ ps) apart fits le x there =
    let n = p.number in
    let fewer = fits_others n es ps apart.0 fits.1 in
    ⊎_elim (λ own. inl (sym own))
    (λ other. inr (known (others n es) ps apart.1 fewer
    (omega (arith, split n es, count_cons p ps, le, fits.0, at_most (others n es) ps apart.1 fewer)) x other))
    (of_either n es x there)

-- ---- Receipts that are the first of those due

abbrev AreAllFirst : List Entry → List PassState → Type 0
AreAllFirst history ps = All (λ (p : PassState). AreFirst history p.number p.receipts) ps

first_fits : (history : List Entry) (n : ℕ) (rs : List Receipt) → AreFirst history n rs → length rs ≤ length (entries_of n history)
first_fits history n rs first =
    omega (arith, sym (length-map (entries_of n history) receipt_in) ∙ ap length first.1 ∙ length-append rs first.0)

all_fit : (history : List Entry) (ps : List PassState) → AreAllFirst history ps → Fits history ps
all_fit history [] firsts = tt
all_fit history (p ∷ ps) firsts =
    let P : PassState → Type 0 = λ q. AreFirst history q.number q.receipts in
    (first_fits history p.number p.receipts (All-head P p ps firsts), all_fit history ps (All-tail P p ps firsts))

first_is_all : (history : List Entry) (n : ℕ) (rs : List Receipt) → AreFirst history n rs → length rs ≡ length (entries_of n history)
    → receipts_due n history ≡ rs
first_is_all history n rs (more, is) len =
    let all : length rs + length more ≡ length rs = sym (length-append rs more) ∙ sym (ap length is) ∙ length-map (entries_of n history) receipt_in ∙ sym len in
    nothing_more more is (omega (arith, all)) where
      nothing_more : (more : List Receipt) → receipts_due n history ≡ rs ++ more → length more ≡ 0 → receipts_due n history ≡ rs
      nothing_more [] is none = is ∙ append-nil rs
      nothing_more (r ∷ more) is none = absurd (omega (arith, none))

all_own : (history : List Entry) (ps : List PassState) → AreAllFirst history ps → Fills history ps
    → All (λ (p : PassState). receipts_due p.number history ≡ p.receipts) ps
all_own history [] firsts filled = λ k d lt. absurd (omega (arith, lt))
all_own history (p ∷ ps) firsts filled =
    let P : PassState → Type 0 = λ q. AreFirst history q.number q.receipts in
    All-cons (λ (q : PassState). receipts_due q.number history ≡ q.receipts) p ps (first_is_all history p.number p.receipts (All-head P p ps firsts) filled.0)
    (all_own history ps (All-tail P p ps firsts) filled.1)

-- receipts that are the first of those due, of passes with different numbers, and as many as the entries, are the whole history
pub whole : (history : List Entry) (ps : List PassState) → Apart ps → AreAllFirst history ps → length history ≡ receipt_count ps → AreWhole history ps
whole history ps apart firsts count =
    let fits = all_fit history ps firsts in
    record {
      own = all_own history ps firsts (fills history ps apart fits (omega (arith, count)));
      callers = known history ps apart fits (omega (arith, count));
    }
