-- Labels of faces on maps of numbers: a face that is painted anew, and faces that an exchange parts or joins.
use Rattle.std.proofs.Common.{◌≡◌, ◌≢◌, ℕ, ◌+◌, ◌<◌, Bool, true, ◌⊎◌, inl, inr, sym, ◌∙◌, subst, arith}
use Rattle.std.proofs.lemmas.Bool.{cases_Bool, cases_eq, cond-true, cond-false, eq-eqb, ne_eqb, false≢true, or_left}
use Rattle.topo_core.specs.Cycles.{IsPermutation, SameCycle, after, is_met}
use Rattle.topo_core.specs.Rotations.{twin, face_next}
use Rattle.topo_core.proofs.Interface.{SameCycle-is_met, SameCycle-refl, SameCycle-sym, SameCycle-trans, is_met-SameCycle}
use Rattle.topo_perm.specs.FaceLabels.{LabelsFaces}
use Rattle.topo_perm.proofs.Interface.{IsExchange, IsExchange-back, IsExchange-permutation, Together, exchange_parts, is_met-period, is_met_more, kept, spread, twin-twin}
use Rattle.topo_map.specs.Segments.{written, put, without, AreInverse}
use Rattle.topo_map.specs.Labels.{painted}
use Rattle.topo_map.proofs.Maps.{IsLone, funext}

-- ---- A painted face

pub painted-in : (f : ℕ → ℕ) (n y label : ℕ) (l : ℕ → ℕ) (a : ℕ) → IsPermutation f n → y < n → SameCycle f y a → painted f n y label l a ≡ label
painted-in f n y label l a p ly s = cond-true _ _ _ (SameCycle-is_met f n p y a ly s)

-- whether a lies on the cycle that is painted
pub data Lies (f : ℕ → ℕ) (n y label : ℕ) (l : ℕ → ℕ) (a : ℕ) : Type 0 where
  Within : SameCycle f y a → painted f n y label l a ≡ label → Lies f n y label l a
  Beyond : (SameCycle f y a → ⊥) → painted f n y label l a ≡ l a → Lies f n y label l a

pub lies : (f : ℕ → ℕ) (n y label : ℕ) (l : ℕ → ℕ) (a : ℕ) → IsPermutation f n → y < n → Lies f n y label l a
lies f n y label l a p ly = elim (cases_Bool (is_met f n y a)) [
  | inl t ↦ Within (is_met-SameCycle f n y a t) (cond-true _ _ _ t)
  | inr e ↦ Beyond (λ s. false≢true (sym e ∙ SameCycle-is_met f n p y a ly s)) (cond-false _ _ _ e)
]

-- one step more of the walk that paints
painted-step : (f : ℕ → ℕ) (k y label : ℕ) (l : ℕ → ℕ) (at a : ℕ) → at ≡ after f k y
    → painted f (k + 1) y label l a ≡ written (painted f k y label l) at label a
painted-step f k y label l at a e = grind (arith, cases_eq, cond-true, is_met_more, or_left, eq-eqb, ne_eqb, cond-false)

pub painted_more : (f : ℕ → ℕ) (k y label : ℕ) (l : ℕ → ℕ) (at : ℕ) → at ≡ after f k y → written (painted f k y label l) at label ≡ painted f (k + 1) y label l
painted_more f k y label l at e = funext (written (painted f k y label l) at label) (painted f (k + 1) y label l) (λ a. sym (painted-step f k y label l at a e))

-- back at the start, the whole cycle is painted
pub painted_round : (f : ℕ → ℕ) (n k y label : ℕ) (l : ℕ → ℕ) → k < n → after f (k + 1) y ≡ y → painted f (k + 1) y label l ≡ painted f n y label l
painted_round f n k y label l lk home = grind (arith, funext, is_met-period)

-- ---- Two faces with one label

-- labels tell faces apart, but for those of i and j
pub record IsCoarse (live : ℕ → Bool) (f l : ℕ → ℕ) (i j : ℕ) : Type 0 where
  pub same_face : (a b : ℕ) → live a ≡ true → live b ≡ true → l a ≡ l b → Together f i j a b
  pub same_label : (a b : ℕ) → live a ≡ true → live b ≡ true → SameCycle f a b → l a ≡ l b
  pub ends : l i ≡ l j

-- what an exchange of two images is made in: a permutation of the numbers below n, the live ones among them
pub record IsScene (live : ℕ → Bool) (f : ℕ → ℕ) (n i j : ℕ) : Type 0 where
  pub permutation : IsPermutation f n
  pub below : (a : ℕ) → live a ≡ true → a < n
  pub first : live i ≡ true
  pub second : live j ≡ true

-- an exchange in one face leaves two with one label
pub parted : {live : ℕ → Bool} {f : ℕ → ℕ} (g : ℕ → ℕ) {l : ℕ → ℕ} {n i j : ℕ} → IsScene live (face_next f) n i j → IsExchange (face_next f) (face_next g) i j
    → LabelsFaces live f l → l i ≡ l j → IsCoarse live (face_next g) l i j
parted {f} g {n} {i} {j} w x labels e =
    let p : ℕ → ℕ = face_next f in
    let q : ℕ → ℕ = face_next g in
    let back : IsExchange q p i j = IsExchange-back p q i j x in
    let met : SameCycle p i j = labels.same_face i j w.first w.second e in
    record {
      same_face = λ a b ta tb d. spread q p i j back a b (labels.same_face a b ta tb d);
      same_label = λ a b ta tb s. labels.same_label a b ta tb (kept w.permutation (w.below i w.first) (w.below j w.second) back met a b s);
      ends = e;
    }

-- and where two faces have one label, an exchange between them makes one of them
pub joined : {live : ℕ → Bool} (f g : ℕ → ℕ) {l : ℕ → ℕ} {n i j : ℕ} → IsScene live (face_next f) n i j → IsExchange (face_next f) (face_next g) i j
    → IsCoarse live (face_next f) l i j → (SameCycle (face_next f) i j → ⊥) → LabelsFaces live g l
joined f g {n} {i} {j} w x k apart =
    let p : ℕ → ℕ = face_next f in
    let q : ℕ → ℕ = face_next g in
    let li : i < n = w.below i w.first in
    let lj : j < n = w.below j w.second in
    let hq : IsPermutation q n = IsExchange-permutation p q n i j w.permutation li lj x in
    let ne : i ≢ j = λ e. apart (subst (λ (v : ℕ). SameCycle p i v) e (SameCycle-refl p i)) in
    let met : SameCycle q i j = elim (exchange_parts p q n i j w.permutation li lj ne x) [
      | inl s ↦ absurd (apart s.before)
      | inr s ↦ s.before
    ] in
    let keep : (a b : ℕ) → SameCycle p a b → SameCycle q a b = kept hq li lj x met in
    record {
      same_face = λ a b ta tb d. elim (k.same_face a b ta tb d) [
        | inl s ↦ keep a b s
        | inr c ↦ elim c [
          | inl s ↦ SameCycle-trans q a i b (keep a i s.0) (SameCycle-trans q i j b met (keep j b s.1))
          | inr s ↦ SameCycle-trans q a j b (keep a j s.0) (SameCycle-trans q j i b (SameCycle-sym q n hq i j li met) (keep i b s.1))
        ]
      ];
      same_label = λ a b ta tb s. elim (spread p q i j x a b s) [
        | inl v ↦ k.same_label a b ta tb v
        | inr c ↦ grind arith
      ];
    }

-- one of two faces with one label gets a new one
pub part_painted : {live : ℕ → Bool} (g : ℕ → ℕ) {l : ℕ → ℕ} {n i j : ℕ} (y new : ℕ) → IsScene live (face_next g) n i j → IsCoarse live (face_next g) l i j
    → live y ≡ true → SameCycle (face_next g) y i ⊎ SameCycle (face_next g) y j → ((a : ℕ) → live a ≡ true → l a ≢ new)
    → LabelsFaces live g (painted (face_next g) n y new l)
part_painted {live} g {l} {n} {i} {j} y new w k ty side fresh =
    let q : ℕ → ℕ = face_next g in
    let hq : IsPermutation q n = w.permutation in
    let ly : y < n = w.below y ty in
    let turn_round : (a b : ℕ) → live a ≡ true → SameCycle q a b → SameCycle q b a = λ a b ta s. SameCycle-sym q n hq a b (w.below a ta) s in
    record {
      same_face = λ a b ta tb d. elim (lies q n y new l a hq ly) [
        | Within s e ↦ elim (lies q n y new l b hq ly) [
          | Within v f ↦ SameCycle-trans q a y b (turn_round y a ty s) v
          | Beyond v f ↦ absurd (fresh b tb (sym f ∙ sym d ∙ e))
        ]
        | Beyond s e ↦ elim (lies q n y new l b hq ly) [
          | Within v f ↦ absurd (fresh a ta (sym e ∙ d ∙ f))
          | Beyond v f ↦ elim (k.same_face a b ta tb (sym e ∙ d ∙ f)) [
            | inl m ↦ m
            | inr c ↦ elim c [
              | inl m ↦ elim side [
                | inl z ↦ absurd (s (SameCycle-trans q y i a z (turn_round a i ta m.0)))
                | inr z ↦ absurd (v (SameCycle-trans q y j b z m.1))
              ]
              | inr m ↦ elim side [
                | inl z ↦ absurd (v (SameCycle-trans q y i b z m.1))
                | inr z ↦ absurd (s (SameCycle-trans q y j a z (turn_round a j ta m.0)))
              ]
            ]
          ]
        ]
      ];
      same_label = λ a b ta tb m. elim (lies q n y new l a hq ly) [
        | Within s e ↦ e ∙ sym (painted-in q n y new l b hq ly (SameCycle-trans q y a b s m))
        | Beyond s e ↦ elim (lies q n y new l b hq ly) [
          | Within v f ↦ absurd (s (SameCycle-trans q y b a v (turn_round a b ta m)))
          | Beyond v f ↦ e ∙ k.same_label a b ta tb m ∙ sym f
        ]
      ];
    }

-- y and z are in the faces of i and j, in this order or the other
abbrev pub AreEnds : (ℕ → ℕ) → ℕ → ℕ → ℕ → ℕ → Type 0
AreEnds f i j y z = (SameCycle f y i × SameCycle f z j) ⊎ (SameCycle f y j × SameCycle f z i)

-- the face of y gets the label of the face of z
pub share_painted : {live : ℕ → Bool} {f l : ℕ → ℕ} {n i j : ℕ} (y z : ℕ) → IsScene live (face_next f) n i j → LabelsFaces live f l → live y ≡ true
    → live z ≡ true → AreEnds (face_next f) i j y z → IsCoarse live (face_next f) (painted (face_next f) n y (l z) l) i j
share_painted {live} {f} {l} {n} {i} {j} y z w labels ty tz side =
    let q : ℕ → ℕ = face_next f in
    let hq : IsPermutation q n = w.permutation in
    let ly : y < n = w.below y ty in
    let turn_round : (a b : ℕ) → live a ≡ true → SameCycle q a b → SameCycle q b a = λ a b ta s. SameCycle-sym q n hq a b (w.below a ta) s in
    -- what lies with z has its label
    let with_z : (a : ℕ) → live a ≡ true → SameCycle q z a → painted q n y (l z) l a ≡ l z =
    λ a ta s. grind (arith, lies) in
    record {
      same_face = λ a b ta tb d. elim (lies q n y (l z) l a hq ly) [
        | Within s e ↦ elim (lies q n y (l z) l b hq ly) [
          | Within v f ↦ inl (SameCycle-trans q a y b (turn_round y a ty s) v)
          | Beyond v f ↦
              let zb : SameCycle q z b = labels.same_face z b tz tb (sym e ∙ d ∙ f) in
              let ay : SameCycle q a y = turn_round y a ty s in
              elim side [
                | inl m ↦ inr (inl (SameCycle-trans q a y i ay m.0, SameCycle-trans q j z b (turn_round z j tz m.1) zb))
                | inr m ↦ inr (inr (SameCycle-trans q a y j ay m.0, SameCycle-trans q i z b (turn_round z i tz m.1) zb))
              ]
        ]
        | Beyond s e ↦ elim (lies q n y (l z) l b hq ly) [
          | Within v f ↦
              let az : SameCycle q a z = labels.same_face a z ta tz (sym e ∙ d ∙ f) in
              elim side [
                | inl m ↦ inr (inr (SameCycle-trans q a z j az m.1, SameCycle-trans q i y b (turn_round y i ty m.0) v))
                | inr m ↦ inr (inl (SameCycle-trans q a z i az m.1, SameCycle-trans q j y b (turn_round y j ty m.0) v))
              ]
          | Beyond v f ↦ inl (labels.same_face a b ta tb (sym e ∙ d ∙ f))
        ]
      ];
      same_label = λ a b ta tb m. elim (lies q n y (l z) l a hq ly) [
        | Within s e ↦ e ∙ sym (painted-in q n y (l z) l b hq ly (SameCycle-trans q y a b s m))
        | Beyond s e ↦ elim (lies q n y (l z) l b hq ly) [
          | Within v f ↦ absurd (s (SameCycle-trans q y b a v (turn_round a b ta m)))
          | Beyond v f ↦ e ∙ labels.same_label a b ta tb m ∙ sym f
        ]
      ];
      ends = grind (arith, painted-in);
    }

-- no label from the bound on is given
pub painted_below : (f : ℕ → ℕ) (n y label : ℕ) (l : ℕ → ℕ) (a bound : ℕ) → label < bound → l a < bound → painted f n y label l a < bound
painted_below f n y label l a bound first other = grind (arith, cases_Bool, cond-true, first, cond-false)

-- ---- The exchanges of the two steps

face_exchange : (f g : ℕ → ℕ) (i j : ℕ) → IsExchange f g i j → IsExchange (face_next f) (face_next g) (twin i) (twin j)
face_exchange f g i j x = grind (arith, twin-twin)

pub put_exchange : (f b : ℕ → ℕ) (x c : ℕ) → IsLone f b x c → IsExchange (face_next f) (face_next (put f x c)) (twin (b c)) (twin x)
put_exchange f b x c l = face_exchange f (put f x c) (b c) x (grind (arith, cond-false, ne_eqb, cond-true, eq-eqb))

pub without_exchange : (f b : ℕ → ℕ) (x : ℕ) → AreInverse f b → IsExchange (face_next f) (face_next (without f x)) (twin (b x)) (twin x)
without_exchange f b x l = face_exchange f (without f x) (b x) x (grind (arith, cases_eq, cond-true, eq-eqb, cond-false, ne_eqb))
