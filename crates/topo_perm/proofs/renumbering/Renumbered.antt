-- The laws of renumbering, and walks carried from one set of darts to another.
use Rattle.std.proofs.Common.{◌≡◌, ℕ, zero, suc, ◌<◌, Bool, true, List, [], ◌∷◌, inl, inr, refl, sym, ◌∙◌, ap, subst}
use Rattle.std.proofs.lemmas.Bool.{cases_Bool, both_ways}
use Rattle.topo_core.specs.Cycles.{IsPermutation, SameCycle, after, is_met}
use Rattle.topo_core.specs.Rotations.{twin, Joined, Move, along}
use Rattle.topo_core.specs.Rotations.Move.{Turn, Cross}
use Rattle.topo_perm.specs.Renumbering.{IsRenumbering, IsCarried, RenumberedClasses, RenumberedSameCycle, RenumberedCycles}
use Rattle.topo_perm.specs.Renumbering.{RenumberedWhole, RenumberedFaces, RenumberedJoined, RenumberedConnected}
use Rattle.topo_perm.proofs.permutations.Live.{live_class_count-carries}
use Rattle.topo_core.proofs.Interface.{SameCycle-is_met, SameCycle-sym, after-within, is_met-SameCycle}
use Rattle.topo_perm.proofs.permutations.Exchange.{is_met-equivalence}
use Rattle.topo_perm.proofs.permutations.Walks.{twin-within, face_next-permutation}

-- ---- Walks of any darts: I says which darts are meant

pub record Carries {X : Type 0} {Y : Type 0} (h : X → Y) (f : X → X) (g : Y → Y) (I : X → Type 0) : Type 0 where
  pub stays : (a : X) → I a → I (f a)
  pub each : (a : X) → I a → g (h a) ≡ h (f a)

pub along-stays : {X : Type 0} (f o : X → X) (I : X → Type 0) → ((a : X) → I a → I (f a)) → ((a : X) → I a → I (o a)) → (ms : List Move) (a : X) → I a
    → I (along f o ms a)
along-stays f o I t c [] a i = i
along-stays f o I t c (Turn ∷ ms) a i = t _ (along-stays f o I t c ms a i)
along-stays f o I t c (Cross ∷ ms) a i = c _ (along-stays f o I t c ms a i)

pub along-carried : {X : Type 0} {Y : Type 0} {h : X → Y} {f o : X → X} {g p : Y → Y} {I : X → Type 0} → Carries h f g I → Carries h o p I
    → (ms : List Move) (a : X) → I a → along g p ms (h a) ≡ h (along f o ms a)
along-carried t c [] a i = refl
along-carried {h} {f} {o} {g} {p} {I} t c (Turn ∷ ms) a i =
    ap g (along-carried t c ms a i) ∙ t.each _ (along-stays f o I t.stays c.stays ms a i)
along-carried {h} {f} {o} {g} {p} {I} t c (Cross ∷ ms) a i =
    ap p (along-carried t c ms a i) ∙ c.each _ (along-stays f o I t.stays c.stays ms a i)

pub Joined-carried : {X : Type 0} {Y : Type 0} {h : X → Y} {f o : X → X} {g p : Y → Y} {I : X → Type 0} → Carries h f g I → Carries h o p I → {a b : X} → I a
    → Joined f o a b → Joined g p (h a) (h b)
Joined-carried {h} {f} {o} {g} {p} {I} t c {a} i j = record { moves = j.moves; leads = along-carried t c j.moves a i ∙ ap h j.leads }

-- where h sends no two darts to one
pub Joined-uncarried : {X : Type 0} {Y : Type 0} {h : X → Y} {f o : X → X} {g p : Y → Y} {I : X → Type 0} → Carries h f g I → Carries h o p I
    → ((a b : X) → I a → I b → h a ≡ h b → a ≡ b) → (a b : X) → I a → I b → Joined g p (h a) (h b) → Joined f o a b
Joined-uncarried {h} {f} {o} {g} {p} {I} t c apart a b i k j = record {
  moves = j.moves;
  leads = apart _ b (along-stays f o I t.stays c.stays j.moves a i) k (sym (along-carried t c j.moves a i) ∙ j.leads);
}

-- ---- Numbers

after-carried : (h f g : ℕ → ℕ) (n : ℕ) → IsPermutation f n → IsCarried h f g n → (k a : ℕ) → a < n → after g k (h a) ≡ h (after f k a)
after-carried h f g n p c zero a la = refl
after-carried h f g n p c (suc k) a la = ap g (after-carried h f g n p c k a la) ∙ c.each _ (after-within f n p k a la)

numbers_apart : {h back : ℕ → ℕ} {n : ℕ} {live : ℕ → Bool} {m : ℕ} → IsRenumbering h back n live m → (a b : ℕ) → a < n → b < n → h a ≡ h b → a ≡ b
numbers_apart {back} r a b la lb e = sym (r.returns a la) ∙ ap back e ∙ r.returns b lb

pub renumbered_same_cycle : RenumberedSameCycle
renumbered_same_cycle h back f g n live m a b r la lb = (
  λ s. record { steps = s.steps; leads = after-carried h f g n r.before r.map s.steps a la ∙ ap h s.leads },
  λ s. record {
    steps = s.steps;
    leads = numbers_apart r.numbers _ b (after-within f n r.before s.steps a la) lb (sym (after-carried h f g n r.before r.map s.steps a la) ∙ s.leads);
  },
)

pub renumbered_classes : RenumberedClasses
renumbered_classes h back r s n live m c =
    live_class_count-carries h r n live s m c.before c.after (record {
      within = c.numbers.within;
      alive = c.numbers.alive;
      same = c.same;
      from = back;
      from_within = c.numbers.back_within;
      meets = λ y ly e. subst (λ z. s z y ≡ true) (sym (c.numbers.back_returns y ly e)) (c.after.reflexive y ly);
      apart = c.apart;
    })

pub renumbered_cycles : RenumberedCycles
renumbered_cycles h back f g n live m r =
    renumbered_classes h back (is_met f n) (is_met g m) n live m (record {
      numbers = r.numbers;
      before = is_met-equivalence f n r.before;
      after = is_met-equivalence g m r.after;
      same = λ a b la lb.
          let both = renumbered_same_cycle h back f g n live m a b r la lb in
          let lh = r.numbers.within a la in
          elim (cases_Bool (is_met f n a b)) [
            | inl here ↦ SameCycle-is_met g m r.after (h a) (h b) lh (both.0 (is_met-SameCycle f n a b here)) ∙ sym here
            | inr none ↦ elim (cases_Bool (is_met g m (h a) (h b))) [
              | inr absent ↦ absent ∙ sym none
              | inl there ↦ absurd (both_ways (is_met f n a b) none (SameCycle-is_met f n r.before a b la (both.1 (is_met-SameCycle g m (h a) (h b) there))))
            ]
          ];
      apart = λ y z ly lz alive met.
          let s : SameCycle g z y = SameCycle-sym g m r.after y z ly (is_met-SameCycle g m y z met) in
          let lb = r.numbers.back_within z lz alive in
          let at : after g s.steps (h (back z)) ≡ y = ap (after g s.steps) (r.numbers.back_returns z lz alive) ∙ s.leads in
          ap live (sym at ∙ after-carried h f g n r.before r.map s.steps (back z) lb) ∙ r.numbers.alive _ (after-within f n r.before s.steps (back z) lb);
    })

pub renumbered_whole : RenumberedWhole
renumbered_whole h back f g n m r = renumbered_cycles h back f g n (λ _. true) m r

pub renumbered_faces : RenumberedFaces
renumbered_faces h back f g n live m r = record {
  before = face_next-permutation f n r.turn.before r.even;
  after = face_next-permutation g m r.turn.after r.after_even;
  numbers = r.turn.numbers;
  map = record { each = λ a la. ap g (r.twins.each a la) ∙ r.turn.map.each (twin a) (twin-within n a r.even la) };
}

pub renumbered_joined : RenumberedJoined
renumbered_joined h back f g n live m a b r la lb =
    let t : Carries h f g (λ v. v < n) = record { stays = r.turn.before.within; each = r.turn.map.each } in
    let c : Carries h twin twin (λ v. v < n) = record { stays = λ v lv. twin-within n v r.even lv; each = r.twins.each } in (
      λ j. Joined-carried t c la j,
      λ j. Joined-uncarried t c (numbers_apart r.turn.numbers) a b la lb j,
    )

pub renumbered_connected : RenumberedConnected
renumbered_connected h back f g n live m r = (
  λ all y z ly lz ey ez.
      let ny = r.turn.numbers.back_within y ly ey in
      let nz = r.turn.numbers.back_within z lz ez in
      subst (λ v. Joined g twin v z) (r.turn.numbers.back_returns y ly ey)
      (subst (λ v. Joined g twin (h (back y)) v) (r.turn.numbers.back_returns z lz ez)
      ((renumbered_joined h back f g n live m (back y) (back z) r ny nz).0 (all (back y) (back z) ny nz refl refl))),
  λ all a b la lb _ _.
      (renumbered_joined h back f g n live m a b r la lb).1
      (all (h a) (h b) (r.turn.numbers.within a la) (r.turn.numbers.within b lb) (r.turn.numbers.alive a la) (r.turn.numbers.alive b lb)),
)
