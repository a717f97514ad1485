-- Slabs whose live darts stand for one another: what is added, put in and taken out in both leaves them so.
use Rattle.std.proofs.Common.{arith, ◌≡◌, ◌≢◌, ℕ, ◌%◌, ◌<◌, Bool, true, false, ◌⊎◌, inl, inr, refl, sym, ◌∙◌, ap, subst}
use Rattle.std.proofs.lemmas.Bool.{cases_Bool, cases_eq, cond-true, cond-false, eq-eqb, ne_eqb, false≢true}
use Rattle.topo_core.specs.Cycles.{IsPermutation, IsBypass}
use Rattle.topo_core.specs.Rotations.{twin}
use Rattle.topo_core.specs.Edits.{IsBefore, IsIsolated, IsHang, IsChord, IsUnchord}
use Rattle.topo_perm.specs.Joins.{AddsSegment}
use Rattle.topo_perm.specs.Live.{IsSlab}
use Rattle.topo_perm.specs.RenumberedEdits.{IsAlive, IsInto, RenumbersSlab, extended, AddsBoth}
use Rattle.topo_perm.proofs.permutations.Walks.{twin-within}
use Rattle.topo_perm.proofs.permutations.Faces.{twin-twin, twin-other}
use Rattle.topo_perm.proofs.permutations.Splitting.{bypassed-permutation}
use Rattle.topo_perm.proofs.edits.SlabEdits.{added_twins, taken_twins, stayed}

-- ---- Live darts

pub dead_apart : (live : ℕ → Bool) (a b : ℕ) → live a ≡ false → live b ≡ true → a ≢ b
dead_apart live a b d l e = false≢true (sym d ∙ ap live e ∙ l)

pub alive_twin : (live : ℕ → Bool) (f : ℕ → ℕ) (n a : ℕ) → IsSlab live f n → IsAlive live n a → IsAlive live n (twin a)
alive_twin live f n a s at = record { within = twin-within n a s.even at.within; alive = s.twins a at.within ∙ at.alive }

pub alive_turn : (live : ℕ → Bool) (f : ℕ → ℕ) (n a : ℕ) → IsSlab live f n → IsAlive live n a → IsAlive live n (f a)
alive_turn live f n a s at = grind (arith, cases_Bool, dead_apart)

pub into_apart : {h back : ℕ → ℕ} {live : ℕ → Bool} {n : ℕ} {live' : ℕ → Bool} {m : ℕ} → IsInto h back live n live' m → (a b : ℕ) → IsAlive live n a
    → IsAlive live n b → h a ≡ h b → a ≡ b
into_apart {back} i a b at bt e = sym (i.returns a at) ∙ ap back e ∙ i.returns b bt

-- ---- A dart put in, and a dart taken out

pub put_in_slab : {live : ℕ → Bool} {f f' : ℕ → ℕ} {n x c : ℕ} → IsSlab live f n → IsPermutation f' n → IsAlive live n x → IsAlive live n c
    → IsBefore f f' n x c → IsSlab live f' n
put_in_slab s p xt ct b = grind (arith, dead_apart)

pub taken_out_slab : (live : ℕ → Bool) (f f' : ℕ → ℕ) (n i : ℕ) → IsSlab live f n → IsAlive live n i → IsBypass f f' n i → IsSlab live f' n
taken_out_slab live f f' n i s it b = grind (arith, bypassed-permutation, dead_apart)

module _ {h back : ℕ → ℕ} {live : ℕ → Bool} {f : ℕ → ℕ} {n : ℕ} {live' : ℕ → Bool} {g : ℕ → ℕ} {m : ℕ} (r : RenumbersSlab h back live f n live' g m) where
  apart : (a b : ℕ) → IsAlive live n a → IsAlive live n b → h a ≡ h b → a ≡ b
  apart = into_apart r.into

  pub put_in_numbers : {f' g' : ℕ → ℕ} {x c : ℕ} → IsPermutation f' n → IsPermutation g' m → IsAlive live n x → IsAlive live n c → IsBefore f f' n x c
      → IsBefore g g' m (h x) (h c)
      → RenumbersSlab h back live f' n live' g' m
  put_in_numbers {f'} {g'} {x} {c} p q xt ct b d = record {
    before = put_in_slab r.before p xt ct b;
    after = put_in_slab r.after q (r.into.there x xt) (r.into.there c ct) d;
    into = r.into;
    from = r.from;
    turns = λ a at. elim (cases_eq a x) [
      | inl e ↦ ap (λ z. g' (h z)) e ∙ d.turns ∙ ap h (sym b.turns) ∙ ap (λ z. h (f' z)) (sym e)
      | inr ne ↦
          let ha : IsAlive live' m (h a) = r.into.there a at in
          let other : h a ≢ h x = λ w. ne (apart a x at xt w) in
          elim (cases_eq (f' a) x) [
            | inl to ↦
                let was : g (h a) ≡ h c = r.turns a at ∙ ap h (b.without.onward a at.within ne to ∙ b.turns) in
                elim (cases_eq (g' (h a)) (h x)) [
                  | inl w ↦ w ∙ ap h (sym to)
                  | inr nw ↦ absurd (other
                      (q.apart (h a) (h x) ha.within (r.into.there x xt).within (sym (d.without.elsewhere (h a) ha.within other nw) ∙ was ∙ sym d.turns)))
                ]
            | inr off ↦
                let same : f a ≡ f' a = b.without.elsewhere a at.within ne off in
                elim (cases_eq (g' (h a)) (h x)) [
                  | inl w ↦
                      let to : h (f a) ≡ h c = sym (r.turns a at) ∙ d.without.onward (h a) ha.within other w ∙ d.turns in
                      let at_c : f a ≡ c = apart (f a) c (alive_turn live f n a r.before at) ct to in
                      absurd (ne (p.apart a x at.within xt.within (sym same ∙ at_c ∙ sym b.turns)))
                  | inr nw ↦ sym (d.without.elsewhere (h a) ha.within other nw) ∙ r.turns a at ∙ ap h same
                ]
          ]
    ];
  }

  pub taken_out_numbers : (f' g' : ℕ → ℕ) (i : ℕ) → IsAlive live n i → IsBypass f f' n i → IsBypass g g' m (h i) → RenumbersSlab h back live f' n live' g' m
  taken_out_numbers f' g' i it b d = record {
    before = taken_out_slab live f f' n i r.before it b;
    after = taken_out_slab live' g g' m (h i) r.after (r.into.there i it) d;
    into = r.into;
    from = r.from;
    turns = λ a at. elim (cases_eq a i) [
      | inl e ↦ ap (λ z. g' (h z)) e ∙ d.alone ∙ ap h (sym b.alone) ∙ ap (λ z. h (f' z)) (sym e)
      | inr ne ↦
          let ha : IsAlive live' m (h a) = r.into.there a at in
          let other : h a ≢ h i = λ w. ne (apart a i at it w) in
          elim (cases_eq (f a) i) [
            | inl to ↦ d.onward (h a) ha.within other (r.turns a at ∙ ap h to) ∙ r.turns i it ∙ ap h (sym (b.onward a at.within ne to))
            | inr off ↦
                d.elsewhere (h a) ha.within other (λ w. off (apart (f a) i (alive_turn live f n a r.before at) it (sym (r.turns a at) ∙ w)))
                ∙ r.turns a at ∙ ap h (sym (b.elsewhere a at.within ne off))
          ]
    ];
  }

-- ---- A segment more

extended-self : (h : ℕ → ℕ) (x y a : ℕ) → a ≡ x → extended h x y a ≡ y
extended-self h x y a e = cond-true _ _ _ (eq-eqb a x e)

extended-twin : (h : ℕ → ℕ) (x y a : ℕ) → a ≡ twin x → extended h x y a ≡ twin y
extended-twin h x y a e = cond-false _ _ _ (ne_eqb a x (λ w. twin-other x (sym e ∙ w))) ∙ cond-true _ _ _ (eq-eqb a (twin x) e)

pub extended-other : (h : ℕ → ℕ) (x y a : ℕ) → a ≢ x → a ≢ twin x → extended h x y a ≡ h a
extended-other h x y a nx nt = cond-false _ _ _ (ne_eqb a x nx) ∙ cond-false _ _ _ (ne_eqb a (twin x) nt)

pub extended-here : (h : ℕ → ℕ) (x y : ℕ) → extended h x y x ≡ y
extended-here h x y = extended-self h x y x refl

pub extended-there : (h : ℕ → ℕ) (x y : ℕ) → extended h x y (twin x) ≡ twin y
extended-there h x y = extended-twin h x y (twin x) refl

-- a dart that was live has the number that it had
pub extended-old : (h : ℕ → ℕ) (live new : ℕ → Bool) (n x y a : ℕ) → AddsSegment live new n x → live a ≡ true → extended h x y a ≡ h a
extended-old h live new n x y a s l =
    extended-other h x y a (λ e. dead_apart live x a s.new l (sym e)) (λ e. dead_apart live (twin x) a s.new_twin l (sym e))

-- a dart that is live now is of the new segment, or was live
abbrev pub NewOrOld : (ℕ → Bool) → ℕ → ℕ → ℕ → Type 0
NewOrOld live n x a = (a ≡ x) ⊎ ((a ≡ twin x) ⊎ IsAlive live n a)

pub new_or_old : (live new : ℕ → Bool) (n x a : ℕ) → AddsSegment live new n x → IsAlive new n a → NewOrOld live n x a
new_or_old live new n x a s at = grind (arith, cases_eq)

-- and what was live is
pub still_alive : (live new : ℕ → Bool) (n x a : ℕ) → AddsSegment live new n x → IsAlive live n a → IsAlive new n a
still_alive live new n x a s at = grind (arith, dead_apart)

added_slab : (live new : ℕ → Bool) (f : ℕ → ℕ) (n x : ℕ) → IsSlab live f n → AddsSegment live new n x → IsSlab new f n
added_slab live new f n x s t = record {
  permutation = s.permutation;
  even = s.even;
  twins = added_twins live new n x s.even t s.twins;
  free = λ a la e. (stayed live new f n x a s t la e).fixed;
}

added_into : {h back : ℕ → ℕ} {live new : ℕ → Bool} {n x : ℕ} {live' new' : ℕ → Bool} {m y : ℕ} → m % 2 ≡ 0 → x < n → y < m → AddsSegment live new n x
    → AddsSegment live' new' m y
    → ((a : ℕ) → IsAlive live n a → IsAlive live n (twin a)) → IsInto h back live n live' m → IsInto (extended h x y) (extended back y x) new n new' m
added_into {h} {back} {live} {new} {n} {x} {live'} {new'} {m} {y} even lx ly s t twinned i = record {
  there = λ a at. elim (new_or_old live new n x a s at) [
    | inl e ↦ subst (IsAlive new' m) (sym (extended-self h x y a e)) (record { within = ly; alive = t.here })
    | inr (inl e) ↦ subst (IsAlive new' m) (sym (extended-twin h x y a e)) (record { within = twin-within m y even ly; alive = t.here_twin })
    | inr (inr was) ↦ subst (IsAlive new' m) (sym (extended-old h live new n x y a s was.alive)) (still_alive live' new' m y (h a) t (i.there a was))
  ];
  returns = λ a at. elim (new_or_old live new n x a s at) [
    | inl e ↦ ap (extended back y x) (extended-self h x y a e) ∙ extended-here back y x ∙ sym e
    | inr (inl e) ↦ ap (extended back y x) (extended-twin h x y a e) ∙ extended-there back y x ∙ sym e
    | inr (inr was) ↦ ap (extended back y x) (extended-old h live new n x y a s was.alive) ∙ extended-old back live' new' m y x (h a) t (i.there a was).alive
        ∙ i.returns a was
  ];
  twins = λ a at. elim (new_or_old live new n x a s at) [
    | inl e ↦ extended-twin h x y (twin a) (ap twin e) ∙ ap twin (sym (extended-self h x y a e))
    | inr (inl e) ↦ extended-self h x y (twin a) (ap twin e ∙ twin-twin x) ∙ sym (ap twin (extended-twin h x y a e) ∙ twin-twin y)
    | inr (inr was) ↦ extended-old h live new n x y (twin a) s (twinned a was).alive ∙ i.twins a was
        ∙ ap twin (sym (extended-old h live new n x y a s was.alive))
  ];
}

pub added_numbers : {h back : ℕ → ℕ} {live new : ℕ → Bool} {f : ℕ → ℕ} {n x : ℕ} {live' new' : ℕ → Bool} {g : ℕ → ℕ} {m y : ℕ}
    → RenumbersSlab h back live f n live' g m → AddsBoth live new n x live' new' m y
    → IsIsolated f x → IsIsolated g y → RenumbersSlab (extended h x y) (extended back y x) new f n new' g m
added_numbers {h} {back} {live} {new} {f} {n} {x} {live'} {new'} {g} {m} {y} r s alone alone' = record {
  before = added_slab live new f n x r.before s.adds;
  after = added_slab live' new' g m y r.after s.adds_other;
  into = added_into r.after.even s.within s.within_other s.adds s.adds_other (λ a at. alive_twin live f n a r.before at) r.into;
  from = added_into r.before.even s.within_other s.within s.adds_other s.adds (λ a at. alive_twin live' g m a r.after at) r.from;
  turns = λ a at. elim (new_or_old live new n x a s.adds at) [
    | inl e ↦ ap g (extended-self h x y a e) ∙ alone'.this ∙ sym (extended-self h x y (f a) (ap f e ∙ alone.this))
    | inr (inl e) ↦ ap g (extended-twin h x y a e) ∙ alone'.other ∙ sym (extended-twin h x y (f a) (ap f e ∙ alone.other))
    | inr (inr was) ↦ ap g (extended-old h live new n x y a s.adds was.alive) ∙ r.turns a was
        ∙ sym (extended-old h live new n x y (f a) s.adds (alive_turn live f n a r.before was).alive)
  ];
}

-- ---- A segment less

removed_slab : (live old : ℕ → Bool) (f : ℕ → ℕ) (n x : ℕ) → IsSlab old f n → AddsSegment live old n x → IsIsolated f x → IsSlab live f n
removed_slab live old f n x s t alone = grind (arith, taken_twins, cases_eq)

removed_into : {h back : ℕ → ℕ} {live old : ℕ → Bool} {n x : ℕ} {live' old' : ℕ → Bool} {m : ℕ} → IsAlive old n x → IsAlive old n (twin x)
    → AddsSegment live old n x → AddsSegment live' old' m (h x) → IsInto h back old n old' m → IsInto h back live n live' m
removed_into {h} {back} {live} {old} {n} {x} {old'} {m} xt tt' s t i = record {
  there = λ a at.
      let was : IsAlive old n a = still_alive live old n x a s at in
      let ha : IsAlive old' m (h a) = i.there a was in
      let nx : h a ≢ h x = λ w. dead_apart live x a s.new at.alive (sym (into_apart i a x was xt w)) in
      let nt : h a ≢ twin (h x) = λ w. dead_apart live (twin x) a s.new_twin at.alive (sym (into_apart i a (twin x) was tt' (w ∙ sym (i.twins x xt)))) in
      record { within = ha.within; alive = sym (t.others (h a) ha.within nx nt) ∙ ha.alive };
  returns = λ a at. i.returns a (still_alive live old n x a s at);
  twins = λ a at. i.twins a (still_alive live old n x a s at);
}

-- the isolated segment of x goes, and that of its number
pub removed_numbers : {h back : ℕ → ℕ} {live old : ℕ → Bool} {f : ℕ → ℕ} {n x : ℕ} {live' old' : ℕ → Bool} {g : ℕ → ℕ} {m : ℕ}
    → RenumbersSlab h back old f n old' g m → IsAlive old n x
    → AddsSegment live old n x → AddsSegment live' old' m (h x) → IsIsolated f x → RenumbersSlab h back live f n live' g m
removed_numbers {h} {back} {live} {old} {f} {n} {x} {live'} {old'} {g} {m} r xt s t alone =
    let tx : IsAlive old n (twin x) = alive_twin old f n x r.before xt in
    let hx : IsAlive old' m (h x) = r.into.there x xt in
    let home : back (h x) ≡ x = r.into.returns x xt in
    let alone' : IsIsolated g (h x) = record {
      this = r.turns x xt ∙ ap h alone.this;
      other = ap g (sym (r.into.twins x xt)) ∙ r.turns (twin x) tx ∙ ap h alone.other ∙ r.into.twins x xt;
    } in
    record {
      before = removed_slab live old f n x r.before s alone;
      after = removed_slab live' old' g m (h x) r.after t alone';
      into = removed_into xt tx s t r.into;
      from = removed_into hx (alive_twin old' g m (h x) r.after hx) t (subst (AddsSegment live old n) (sym home) s) r.from;
      turns = λ a at. r.turns a (still_alive live old n x a s at);
    }

-- ---- A segment hung, drawn as a chord, and taken out

pub hang_numbers : {h back : ℕ → ℕ} {live new : ℕ → Bool} {f f' : ℕ → ℕ} {n c x : ℕ} {live' new' : ℕ → Bool} {g g' : ℕ → ℕ} {m y : ℕ}
    → RenumbersSlab h back live f n live' g m → AddsBoth live new n x live' new' m y
    → IsAlive live n c → IsPermutation f' n → IsPermutation g' m → IsHang f f' n c x → IsHang g g' m (h c) y
    → RenumbersSlab (extended h x y) (extended back y x) new f' n new' g' m
hang_numbers {h} {back} {live} {new} {f} {f'} {n} {c} {x} {live'} {new'} {g} {g'} {m} {y} r s ct p q b d =
    let added : RenumbersSlab (extended h x y) (extended back y x) new f n new' g m = added_numbers r s b.room d.room in
    put_in_numbers added p q (record { within = s.within; alive = s.adds.here }) (still_alive live new n x c s.adds ct) b.start
    (subst (λ z. IsBefore g g' m z (extended h x y c)) (sym (extended-here h x y))
    (subst (IsBefore g g' m y) (sym (extended-old h live new n x y c s.adds ct.alive)) d.start))

pub chord_numbers : {h back : ℕ → ℕ} {live new : ℕ → Bool} {f f' : ℕ → ℕ} {n c e x : ℕ} {live' new' : ℕ → Bool} {g g' : ℕ → ℕ} {m y : ℕ}
    → RenumbersSlab h back live f n live' g m → AddsBoth live new n x live' new' m y
    → IsAlive live n c → IsAlive live n e → IsPermutation f' n → IsPermutation g' m → IsChord f f' n c e x → IsChord g g' m (h c) (h e) y
    → RenumbersSlab (extended h x y) (extended back y x) new f' n new' g' m
chord_numbers {h} {back} {live} {new} {f} {f'} {n} {c} {e} {x} {live'} {new'} {g} {g'} {m} {y} r s ct et p q b d =
    let lx : twin x < n = twin-within n x r.before.even s.within in
    let ly : twin y < m = twin-within m y r.after.even s.within_other in
    let ph : IsPermutation b.half n = bypassed-permutation f' b.half n (twin x) p lx b.end.without in
    let qh : IsPermutation d.half m = bypassed-permutation g' d.half m (twin y) q ly d.end.without in
    let first : RenumbersSlab (extended h x y) (extended back y x) new b.half n new' d.half m =
    hang_numbers r s ct ph qh (record { room = b.room; start = b.start }) (record { room = d.room; start = d.start }) in
    put_in_numbers first p q (record { within = lx; alive = s.adds.here_twin }) (still_alive live new n x e s.adds et) b.end
    (subst (λ z. IsBefore d.half g' m z (extended h x y e)) (sym (extended-there h x y))
    (subst (IsBefore d.half g' m (twin y)) (sym (extended-old h live new n x y e s.adds et.alive)) d.end))

pub unchord_numbers : {h back : ℕ → ℕ} {live old : ℕ → Bool} {f f' : ℕ → ℕ} {n i : ℕ} {live' old' : ℕ → Bool} {g g' : ℕ → ℕ} {m : ℕ}
    → RenumbersSlab h back old f n old' g m → IsAlive old n i
    → AddsSegment live old n i → AddsSegment live' old' m (h i) → IsUnchord f f' n i → IsUnchord g g' m (h i) → RenumbersSlab h back live f' n live' g' m
unchord_numbers {h} {back} {live} {old} {f} {f'} {n} {i} {live'} {old'} {g} {g'} {m} r it s t b d =
    let tt' : IsAlive old n (twin i) = alive_twin old f n i r.before it in
    let first : RenumbersSlab h back old b.half n old' d.half m = taken_out_numbers r b.half d.half i it b.first d.first in
    let second : RenumbersSlab h back old f' n old' g' m =
    taken_out_numbers first f' g' (twin i) tt' b.second (subst (IsBypass d.half g' m) (sym (r.into.twins i it)) d.second) in
    removed_numbers second it s t (record {
      this = b.second.elsewhere i it.within (λ e. twin-other i (sym e)) (λ e. twin-other i (sym e ∙ b.first.alone)) ∙ b.first.alone;
      other = b.second.alone;
    })
