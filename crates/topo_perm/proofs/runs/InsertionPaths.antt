-- A path of chords across subdivision vertices: a new edge drawn through the faces of a rotation system, from corner to corner.
use Rattle.std.proofs.Common.{◌≡◌, ℕ, suc, zero, ◌%◌, ◌<◌, ◌==◌, Bool, true, cond, ◌||◌, List, [], ◌∷◌, ◌⊎◌, inl, inr, refl, sym, ◌∙◌, ap, subst, arith}
use Rattle.std.specs.List.{AllByRecursion}
use Rattle.std.proofs.lemmas.Bool.{cases_Bool, cases_eq, cond-true, cond-false, eq-eqb, eqb-true, false≢true}
use Rattle.topo_core.specs.Cycles.{IsPermutation, SameCycle, some_below}
use Rattle.topo_core.specs.Rotations.{twin, face_next}
use Rattle.topo_core.specs.Items.{IsIn}
use Rattle.topo_core.proofs.Interface.{some_below-true}
use Rattle.topo_perm.specs.Edits.{IsApart}
use Rattle.topo_perm.proofs.permutations.Faces.{twin-other}
use Rattle.topo_perm.proofs.permutations.Splitting.{without, without-self, without-onward, without-elsewhere}
use Rattle.topo_perm.proofs.runs.Chords.{NewChord, AreNewChords, AreApartChords, IsOffChords, half_off_chords, twin_off_chords, chords_stay}
use Rattle.topo_perm.proofs.runs.Chords.{without_chord, without_chord-other, chord_permutation, apart_twin, without_chords, all_map}
use Rattle.topo_perm.proofs.runs.Subdivisions.{Subdivision, AreSubdivisions, IsNamed, IsStraight, IsUndivided}

-- ---- Numbers that are names

-- some number below m that passes, if there is one
pub find_below : (ℕ → Bool) → ℕ → ℕ
find_below p zero = zero
find_below p (suc n) = cond (p n) n (find_below p n)

pub found_below : (p : ℕ → Bool) (n : ℕ) → some_below p n ≡ true → (find_below p n < n) × (p (find_below p n) ≡ true)
unfolding find_below
found_below p zero h = absurd (false≢true h)
found_below p (suc n) h = elim (cases_Bool (p n)) [
  | inl t ↦ (subst (λ (v : ℕ). v < suc n) (sym (cond-true _ _ _ t)) (omega arith), ap p (cond-true _ _ _ t) ∙ t)
  | inr u ↦
      let below : some_below p n ≡ true = sym (ap (λ (b : Bool). b || some_below p n) u) ∙ h in
      let (less, passes) = found_below p n below in
      (subst (λ (v : ℕ). v < suc n) (sym (cond-false _ _ _ u)) (omega (arith, less)), ap p (cond-false _ _ _ u) ∙ passes)
]

-- whether a number is the name of some dart below m
abbrev pub is_named : (ℕ → ℕ) → ℕ → ℕ → Bool
is_named name m a = some_below (λ d. name d == a) m

pub named_by : (name : ℕ → ℕ) (m a : ℕ) → is_named name m a ≡ true → (d : ℕ) × (d < m) × (name d ≡ a)
named_by name m a h = let (less, passes) = found_below (λ d. name d == a) m h in
    (find_below (λ d. name d == a) m, less, eqb-true (name (find_below (λ d. name d == a) m)) a passes)

pub is_named-of : (name : ℕ → ℕ) (m d : ℕ) → d < m → is_named name m (name d) ≡ true
is_named-of name m d ld = some_below-true (λ e. name e == name d) m d ld (eq-eqb (name d) (name d) refl)

-- ---- Items

pub all_at : {X : Type 0} (P : X → Type 0) (x : X) (xs : List X) → AllByRecursion P xs → IsIn x xs → P x
all_at P x [] h i = elim i [ ]
all_at P x (y ∷ ys) h i = elim i [ inl e ↦ subst P (sym e) h.0 | inr j ↦ all_at P x ys h.1 j ]

-- every item of a list
pub all_of : {X : Type 0} (P : X → Type 0) (xs : List X) → ((x : X) → IsIn x xs → P x) → AllByRecursion P xs
all_of P [] f = tt
all_of P (x ∷ xs) f = (f x (inl refl), all_of P xs (λ y i. f y (inr i)))

-- a dart is on no subdivision vertex's segment, or it is a subdivision vertex's dart or the twin of one
abbrev pub SubdividedOrNot : ℕ → List Subdivision → ℕ → Type 0
SubdividedOrNot m ks d = IsUndivided m ks d ⊎ ((k : Subdivision) × IsIn k ks × ((d ≡ k.dart) ⊎ (d ≡ twin k.dart)))

pub subdivided_or_not : (m : ℕ) (ks : List Subdivision) (d : ℕ) → d < m → SubdividedOrNot m ks d
subdivided_or_not m [] d ld = inl tt
subdivided_or_not m (k ∷ ks) d ld = elim (cases_eq d k.dart) [
  | inl e ↦ inr (k, inl refl, inl e)
  | inr na ↦ elim (cases_eq d (twin k.dart)) [
    | inl e ↦ inr (k, inl refl, inr e)
    | inr nt ↦ grind (arith, subdivided_or_not m ks d ld)
  ]
]

-- ---- Insertion paths

-- the chords lead from corner z over the subdivision vertices to the corner of e
abbrev pub AreAlong : (ℕ → ℕ) → ℕ → List Subdivision → ℕ → List NewChord → Type 0
AreAlong name z [] e [] = ⊥
AreAlong name z [] e (l ∷ []) = (l.from ≡ z) × (l.to ≡ name e)
AreAlong name z [] e (l ∷ (j ∷ ls)) = ⊥
AreAlong name z (k ∷ ks) e [] = ⊥
AreAlong name z (k ∷ ks) e (l ∷ ls) = (l.from ≡ z) × (l.to ≡ k.beyond) × AreAlong name (twin k.near) ks e ls

-- crossing the segments of the subdivision vertices leads from the face of c to the face of e
abbrev pub Walks : (ℕ → ℕ) → ℕ → List Subdivision → ℕ → Type 0
Walks f c [] e = SameCycle (face_next f) c e
Walks f c (k ∷ ks) e = SameCycle (face_next f) c k.dart × Walks f (twin k.dart) ks e

abbrev pub MeetsOnce : (ℕ → ℕ) → ℕ → List Subdivision → Type 0
MeetsOnce f c [] = Unit {0}
MeetsOnce f c (k ∷ ks) = AllByRecursion (λ j. SameCycle (face_next f) c (twin j.dart) → ⊥) (k ∷ ks) × MeetsOnce f (twin k.dart) ks

-- what the darts of a subdivision vertex and of a chord have to do with each other: nothing
pub record AreStrange (n : ℕ) (name : ℕ → ℕ) (l : NewChord) (k : Subdivision) : Type 0 where
  pub beyond : IsApart n l.half k.beyond
  pub back : IsApart n l.half (twin k.near)

-- a number stands for a dart of f, for a dart at a subdivision vertex, or for half a chord
abbrev pub IsPlaced : ℕ → (ℕ → ℕ) → List Subdivision → List NewChord → ℕ → Type 0
IsPlaced m name ks ls a = ((d : ℕ) × (d < m) × (a ≡ name d))
    ⊎ (((k : Subdivision) × IsIn k ks × ((a ≡ k.beyond) ⊎ (a ≡ twin k.near)))
    ⊎ ((l : NewChord) × IsIn l ls × ((a ≡ l.half) ⊎ (a ≡ twin l.half))))

-- g on n numbers is f on m numbers, named so, with a path of chords from the corner of c over the subdivision vertices to the corner of e
pub record IsInsertionPath (g : ℕ → ℕ) (n : ℕ) (f : ℕ → ℕ) (m : ℕ) (name : ℕ → ℕ) (c : ℕ) (ks : List Subdivision) (e : ℕ) (ls : List NewChord) : Type 0 where
  pub permutation : IsPermutation g n
  pub named : IsNamed (without_chords g ls) n f m name
  pub subdivisions : AreSubdivisions (without_chords g ls) n m name ks
  pub straight : IsStraight m name ks
  pub new_chords : AreNewChords g n ls
  pub along : AreAlong name (name c) ks e ls
  pub from_there : c < m
  pub to_there : e < m
  pub walk : Walks f c ks e
  pub once : MeetsOnce f c ks
  pub new : AllByRecursion (λ l. (d : ℕ) → d < m → IsApart n (name d) l.half) ls
  pub strange : AllByRecursion (λ l. AllByRecursion (AreStrange n name l) ks) ls
  pub placed : (a : ℕ) → a < n → IsPlaced m name ks ls a

-- ---- What the chords leave alone

pub fixed_stays : (g : ℕ → ℕ) (n : ℕ) (ks : List NewChord) (a : ℕ) → g a ≡ a → IsOffChords n ks a → without_chords g ks a ≡ a
fixed_stays g n [] a e u = e
fixed_stays g n (k ∷ ks) a e u =
    let half : without g (twin k.half) a ≡ a = without-elsewhere g (twin k.half) a u.0.not_twin (λ w. u.0.not_twin (sym e ∙ w)) ∙ e in
    fixed_stays (without_chord g k) n ks a (without-elsewhere (without g (twin k.half)) k.half a u.0.not_self (λ w. u.0.not_self (sym half ∙ w)) ∙ half) u.1

pub chords_alone : (g : ℕ → ℕ) (n : ℕ) (ks : List NewChord) (l : NewChord) → n % 2 ≡ 0 → AreNewChords g n ks → IsIn l ks → (without_chords g ks l.half ≡ l.half)
    × (without_chords g ks (twin l.half) ≡ twin l.half)
chords_alone g n [] l even h i = elim i [ ]
chords_alone g n (k ∷ ks) l even h i = elim i [
  | inl e ↦
      let half : ℕ → ℕ = without g (twin k.half) in
      let u : IsOffChords n ks k.half = half_off_chords n k ks h.0.there h.1 in
      let at_twin : half (twin k.half) ≡ twin k.half = without-self g (twin k.half) (twin k.half) refl in
      subst (λ (v : NewChord). (without_chords g (k ∷ ks) v.half ≡ v.half) × (without_chords g (k ∷ ks) (twin v.half) ≡ twin v.half)) (sym e) (
        fixed_stays (without_chord g k) n ks k.half (without-self half k.half k.half refl) u,
        fixed_stays (without_chord g k) n ks (twin k.half) (without-elsewhere half k.half (twin k.half) (twin-other k.half)
            (λ w. twin-other k.half (sym at_twin ∙ w)) ∙ at_twin) (twin_off_chords n ks k.half even u),
      )
  | inr j ↦ chords_alone (without_chord g k) n ks l even (chords_stay g n k ks even h.1 h.2) j
]

-- ---- Where the other darts turn with the chords out

pub chords_permutation : (g : ℕ → ℕ) (n : ℕ) (ks : List NewChord) → IsPermutation g n → n % 2 ≡ 0 → AreNewChords g n ks → IsPermutation (without_chords g ks) n
chords_permutation g n [] p even h = p
chords_permutation g n (k ∷ ks) p even h =
    chords_permutation (without_chord g k) n ks (chord_permutation g n k p even h.0.there) even (chords_stay g n k ks even h.1 h.2)

-- what leads past no chord leads on as before
pub past_chords : (g : ℕ → ℕ) (n : ℕ) (ks : List NewChord) (a c : ℕ) → IsOffChords n ks a → IsOffChords n ks c → g a ≡ c → without_chords g ks a ≡ c
past_chords g n [] a c u w e = e
past_chords g n (k ∷ ks) a c u w e = past_chords (without_chord g k) n ks a c u.1 w.1 (without_chord-other g n k a c u.0 w.0 e)

-- what led to a chord leads on to its corner
pub over_chord : (g : ℕ → ℕ) (n : ℕ) (ks : List NewChord) (l : NewChord) (a : ℕ) → n % 2 ≡ 0 → AreNewChords g n ks → IsIn l ks → IsOffChords n ks a
    → g a ≡ l.half → without_chords g ks a ≡ l.from
over_chord g n [] l a even h i u e = elim i [ ]
over_chord g n (k ∷ ks) l a even h i u e = elim i [
  | inl s ↦ grind (arith, without, without-elsewhere, twin-other, past_chords, without_chord, all_map, without-onward)
  | inr j ↦ over_chord (without_chord g k) n ks l a even (chords_stay g n k ks even h.1 h.2) j u.1
      (without_chord-other g n k a l.half u.0 (all_at (AreApartChords n k) l ks h.1 j).half e)
]

pub over_chord_back : (g : ℕ → ℕ) (n : ℕ) (ks : List NewChord) (l : NewChord) (a : ℕ) → n % 2 ≡ 0 → AreNewChords g n ks → IsIn l ks → IsOffChords n ks a
    → g a ≡ twin l.half → without_chords g ks a ≡ l.to
over_chord_back g n [] l a even h i u e = elim i [ ]
over_chord_back g n (k ∷ ks) l a even h i u e = elim i [
  | inl s ↦
      let half : ℕ → ℕ = without g (twin k.half) in
      let at : half a ≡ k.to = without-onward g (twin k.half) a u.0.not_twin (e ∙ ap (λ (v : NewChord). twin v.half) s) ∙ h.0.arrives in
      grind (arith, past_chords, without_chord, all_map, without-elsewhere)
  | inr j ↦ over_chord_back (without_chord g k) n ks l a even (chords_stay g n k ks even h.1 h.2) j u.1
      (without_chord-other g n k a (twin l.half) u.0 (apart_twin n l.half k.half even (all_at (AreApartChords n k) l ks h.1 j).half) e)
]
