-- Receipts and the entries of their caller.
use Rattle.std.proofs.Common.{◌≡◌, ℕ, zero, suc, ◌+◌, ◌<◌, ◌≤◌, ◌==◌, Bool, true, false, List, [], ◌∷◌, ◌++◌, length, take}
use Rattle.std.proofs.Common.{drop, get_or, map, inl, inr, Option, Some, None, refl, ap, sym, ◌∙◌, subst, arith, append_assoc}
use Rattle.std.specs.Prelude.{slice_get, option_map}
use Rattle.std.proofs.lemmas.List.{append-nil, take_more, map-append, length-take-le}
use Rattle.std.proofs.lemmas.List.Elements.{filter-append}
use Rattle.std.proofs.lemmas.Option.{slice_get-map, slice_get_past}
use Rattle.topo_core.specs.declared.calls.Entry.{Entry}
use Rattle.topo_core.specs.Items.{IsIn}
use Rattle.topo_core.specs.History.{Agrees, entries_of}
use Rattle.topo_service.specs.declared.pass.Receipt.{Receipt}
use Rattle.topo_service.specs.Passes.{receipt_of}
use Rattle.topo_service.specs.Receipts.{AllAgree, AreFirst, AreFound, Differs, receipt_in, receipts_due}

-- ---- Places in lists

at_first : {A : Type 0} (xs ys : List A) (k : ℕ) (x : A) → slice_get xs k ≡ Some x → slice_get (xs ++ ys) k ≡ Some x
at_first [] ys k x there = cc
at_first (y ∷ xs) ys zero x there = there
at_first (y ∷ xs) ys (suc k) x there = at_first xs ys k x there

at_seam : {A : Type 0} (xs : List A) (y : A) (ys : List A) → slice_get (xs ++ y ∷ ys) (length xs) ≡ Some y
at_seam [] y ys = refl
at_seam (x ∷ xs) y ys = at_seam xs y ys

pub in_at : {A : Type 0} (xs : List A) (k : ℕ) (d : A) → k < length xs → IsIn (get_or xs k d) xs
in_at [] k d lt = absurd (omega (arith, lt))
in_at (x ∷ xs) zero d lt = inl refl
in_at (x ∷ xs) (suc k) d lt = inr (in_at xs k d (omega (arith, lt)))

-- a list is what stands before an item, the item, and the rest
pub parted : {A : Type 0} (xs : List A) (k : ℕ) (d : A) → k < length xs → xs ≡ take k xs ++ get_or xs k d ∷ drop (suc k) xs
parted [] k d lt = absurd (omega (arith, lt))
parted (x ∷ xs) zero d lt = refl
parted (x ∷ xs) (suc k) d lt = ap (λ l. x ∷ l) (parted xs k d (omega (arith, lt)))

-- ---- What is due

due_append : (n : ℕ) (es fs : List Entry) → receipts_due n (es ++ fs) ≡ receipts_due n es ++ receipts_due n fs
due_append n es fs = ap (map receipt_in) (filter-append (λ e. e.caller == n) es fs) ∙ map-append receipt_in (entries_of n es) (entries_of n fs)

due_own : (n : ℕ) (e : Entry) (fs : List Entry) → (e.caller == n) ≡ true → receipts_due n (e ∷ fs) ≡ receipt_in e ∷ receipts_due n fs
due_own n e fs own = rw own refl

due_other : (n : ℕ) (e : Entry) → (e.caller == n) ≡ false → receipts_due n (e ∷ []) ≡ []
due_other n e other = rw other refl

-- what is due at k is the entry's call and reply
due_at : (o : Option Entry) (r : Receipt) → option_map receipt_in o ≡ Some r → (e : Entry) × (o ≡ Some e) × (receipt_in e ≡ r)
due_at (Some e) r same = (e, refl, cc)
due_at None r same = cc

-- receipts that agree are due at their place
agreed : (history : List Entry) (n k : ℕ) (r : Receipt) → Agrees history n k r.call r.reply → slice_get (receipts_due n history) k ≡ Some r
agreed history n k r agrees =
    let e = agrees.entry in
    let same : receipt_in e ≡ r = ap (λ call. receipt_of call e.reply) agrees.same_call ∙ ap (receipt_of r.call) agrees.same_reply in
    slice_get-map receipt_in (entries_of n history) k ∙ ap (option_map receipt_in) agrees.there ∙ ap Some same

-- the first of the receipts that are due agree
pub first_agree : (history : List Entry) (n : ℕ) (rs : List Receipt) → AreFirst history n rs → AllAgree history n rs
first_agree history n rs first k r there =
    let due : slice_get (receipts_due n history) k ≡ Some r =
    subst (λ (l : List Receipt). slice_get l k ≡ Some r) (sym first.1) (at_first rs first.0 k r there) in
    let found = due_at (slice_get (entries_of n history) k) r (sym (slice_get-map receipt_in (entries_of n history) k) ∙ due) in
    record {
      entry = found.0;
      there = found.1;
      same_call = ap (λ s. s.call) found.2;
      same_reply = ap (λ s. s.reply) found.2;
    }

-- ---- Going through a history

-- an entry of another caller, or of one with no receipt left
pub found_other : {n : ℕ} {rs : List Receipt} {es : List Entry} {k : ℕ} (e : Entry) (b : Bool) → (e.caller == n) ≡ b → (b ≡ true → length rs ≤ k)
    → AreFound es n rs k → AreFound (es ++ e ∷ []) n rs k
found_other {n} {es} e false is past h =
    let same : receipts_due n (es ++ e ∷ []) ≡ receipts_due n es = due_append n es (e ∷ []) ∙ ap (λ l. receipts_due n es ++ l) (due_other n e is)
    ∙ append-nil (receipts_due n es) in
    record { within = h.within; first = (h.first.0, same ∙ h.first.1); all = λ lt. same ∙ h.all lt }
found_other {n} {rs} {es} {k} e true is past h =
    let more = receipt_in e ∷ [] in
    let same : receipts_due n (es ++ e ∷ []) ≡ receipts_due n es ++ more = due_append n es (e ∷ []) ∙ ap (λ l. receipts_due n es ++ l) (due_own n e [] is) in
    record {
      within = h.within;
      first = (h.first.0 ++ more, same ∙ ap (λ l. l ++ more) h.first.1 ∙ append_assoc (take k rs) h.first.0 more);
      all = λ lt. absurd (omega (arith, lt, past refl));
    }

-- the next receipt is the entry
pub found_one : {n : ℕ} {rs : List Receipt} {es : List Entry} {k : ℕ} (e : Entry) {r : Receipt} → (e.caller == n) ≡ true → k < length rs
    → r ≡ get_or rs k r → r ≡ receipt_in e → AreFound es n rs k → AreFound (es ++ e ∷ []) n rs (k + 1)
found_one {n} {rs} {es} {k} e {r} is lt at eq h =
    let more = receipt_in e ∷ [] in
    let same = due_append n es (e ∷ []) ∙ ap (λ l. receipts_due n es ++ l) (due_own n e [] is) in
    let whole : receipts_due n (es ++ e ∷ []) ≡ take (k + 1) rs = same ∙ ap (λ l. l ++ more) (h.all lt) ∙ ap (λ x. take k rs ++ x ∷ []) (sym eq ∙ at)
    ∙ sym (take_more rs k r lt) in
    record { within = omega (arith, lt); first = ([], whole ∙ sym (append-nil (take (k + 1) rs))); all = λ _. whole }

-- the next receipt is not the entry
pub differs_here : {n : ℕ} {rs : List Receipt} {before : List Entry} (after : List Entry) {k : ℕ} (e : Entry) {r : Receipt} → (e.caller == n) ≡ true
    → k < length rs → slice_get rs k ≡ Some r → (r ≡ receipt_in e → ⊥)
    → AreFound before n rs k → Differs (before ++ e ∷ after) n rs k
differs_here {n} {rs} {before} after {k} e {r} is lt there other h = record {
  receipt = r;
  there = there;
  differs = λ agrees.
      let same : receipts_due n (before ++ e ∷ after) ≡ take k rs ++ receipt_in e ∷ receipts_due n after = due_append n before (e ∷ after)
      ∙ ap (λ l. receipts_due n before ++ l) (due_own n e after is)
      ∙ ap (λ l. l ++ receipt_in e ∷ receipts_due n after) (h.all lt) in
      let len : length (take k rs) ≡ k = length-take-le k rs (omega (arith, lt)) in
      let here : slice_get (receipts_due n (before ++ e ∷ after)) k ≡ Some (receipt_in e) = ap (λ l. slice_get l k) same
      ∙ subst (λ (i : ℕ). slice_get (take k rs ++ receipt_in e ∷ receipts_due n after) i ≡ Some (receipt_in e)) len
      (at_seam (take k rs) (receipt_in e) (receipts_due n after)) in
      let both : Some r ≡ Some (receipt_in e) = sym (agreed (before ++ e ∷ after) n k r agrees) ∙ here in
      other cc;
}

-- no entry is left, but a receipt
pub differs_at_end : (n : ℕ) (rs : List Receipt) (history : List Entry) (k : ℕ) (r : Receipt) → k < length rs → slice_get rs k ≡ Some r
    → AreFound history n rs k → Differs history n rs k
differs_at_end n rs history k r lt there h = record {
  receipt = r;
  there = there;
  differs = λ agrees.
      let len : length (take k rs) ≡ k = length-take-le k rs (omega (arith, lt)) in
      let past : slice_get (receipts_due n history) k ≡ None = ap (λ l. slice_get l k) (h.all lt) ∙ slice_get_past (take k rs) k (omega (arith, len)) in
      let both : Some r ≡ None = sym (agreed history n k r agrees) ∙ past in
      cc;
}
