-- An insertion path under other numbers: where its subdivision vertices and chords are made in a slab that renumbers the system below, that slab renumbers the
-- system with the new edge.
use Rattle.std.proofs.Common.{arith, ◌≡◌, ◌≢◌, ℕ, ◌%◌, ◌<◌, ◌==◌, Bool, true, cond, List, [], ◌∷◌, inl, inr, refl, sym, ◌∙◌, ap, subst}
use Rattle.std.specs.List.{AllByRecursion}
use Rattle.std.proofs.lemmas.Bool.{cases_eq, cond-true, cond-false, eq-eqb, ne_eqb}
use Rattle.topo_core.specs.Rotations.{twin}
use Rattle.topo_core.specs.Items.{IsIn}
use Rattle.topo_perm.specs.Live.{IsSlab}
use Rattle.topo_perm.specs.Renumbering.{RenumbersTurn}
use Rattle.topo_perm.specs.RenumberedEdits.{IsAlive}
use Rattle.topo_perm.specs.Runs.{Turning, IsRun, numbers_after, backs_after, AreAlike}
use Rattle.topo_perm.specs.Runs.Edit.{Chord, Split}
use Rattle.topo_perm.proofs.permutations.Walks.{twin-within}
use Rattle.topo_perm.proofs.runs.Chords.{NewChord, without_chords, with_chords, chords_of, chords_run}
use Rattle.topo_perm.proofs.runs.Subdivisions.{Subdivision, IsSubdivision, Straightened, all_subdivisions, splits_of, straighten, with_subdivisions}
use Rattle.topo_perm.proofs.runs.InsertionPaths.{AreAlong, IsInsertionPath, all_at, find_below, is_named, is_named-of}
use Rattle.topo_perm.proofs.runs.Passing.{all_live, back_named, beyond_live, subdividable, name_live, named_below, ready, renumbers, slab_below}
use Rattle.topo_perm.proofs.renumbering.Composing.{back_numbers, composed_numbers, slab_of_turn, turn_of_slab}
use Rattle.topo_perm.proofs.renumbering.RunNumbers.{AreNumbered, IsAdding, SlabsAlike, kept_alive, kept_number, new_numbers, run_numbers}

-- ---- What is made in the slab

-- the subdivision vertices, on the halves with the numbers of their darts
abbrev pub AreSubdivisionsUnder : (ℕ → ℕ) → List Subdivision → List Subdivision → Type 0
AreSubdivisionsUnder h [] [] = Unit {0}
AreSubdivisionsUnder h [] (j ∷ js) = ⊥
AreSubdivisionsUnder h (k ∷ ks) [] = ⊥
AreSubdivisionsUnder h (k ∷ ks) (j ∷ js) = (j.dart ≡ k.dart) × (j.near ≡ h k.dart) × AreSubdivisionsUnder h ks js

-- the half of a dart once the subdivision vertices are made: the last part of its segment where the subdivision vertex is before its far end
abbrev pub subdivided_number : (ℕ → ℕ) → List Subdivision → ℕ → ℕ
subdivided_number h [] d = h d
subdivided_number h (j ∷ js) d = cond (d == twin j.dart) (twin j.beyond) (subdivided_number h js d)

-- the darts at the subdivision vertices have the halves at these subdivision vertices
abbrev pub AreSubdivisionsAt : (ℕ → ℕ) → List Subdivision → List Subdivision → Type 0
AreSubdivisionsAt h [] [] = Unit {0}
AreSubdivisionsAt h [] (j ∷ js) = ⊥
AreSubdivisionsAt h (k ∷ ks) [] = ⊥
AreSubdivisionsAt h (k ∷ ks) (j ∷ js) = (h k.beyond ≡ j.beyond) × (h (twin k.beyond) ≡ twin j.beyond) × (h (twin k.near) ≡ twin j.near)
    × AreSubdivisionsAt h ks js

-- ---- Subdivision vertices and chords as edits

pub splits_add : (ks : List Subdivision) → AllByRecursion IsAdding (splits_of ks)
splits_add [] = tt
splits_add (k ∷ ks) = (tt, splits_add ks)

chords_add : (ls : List NewChord) → AllByRecursion IsAdding (chords_of ls)
chords_add [] = tt
chords_add (l ∷ ls) = (tt, chords_add ls)

-- each subdivision vertex is on a dart that is live below, and that has the half of the other subdivision vertex
abbrev OnOldDarts : (ℕ → ℕ) → (ℕ → Bool) → ℕ → List Subdivision → List Subdivision → Type 0
OnOldDarts h live n [] [] = Unit {0}
OnOldDarts h live n [] (j ∷ js) = ⊥
OnOldDarts h live n (k ∷ ks) [] = ⊥
OnOldDarts h live n (k ∷ ks) (j ∷ js) = IsAlive live n k.near × (j.near ≡ h k.near) × OnOldDarts h live n ks js

splits_alike : (h : ℕ → ℕ) (n : ℕ) (s t : Turning) (ks js : List Subdivision) → IsRun n s (splits_of ks) t → OnOldDarts h s.live n ks js
    → AreAlike h (splits_of ks) (splits_of js)
splits_alike h n s t [] [] r o = tt
splits_alike h n s t [] (j ∷ js) r o = absurd o
splits_alike h n s t (k ∷ ks) [] r o = absurd o
splits_alike h n s t (k ∷ ks) (j ∷ js) r o = (
  splits_alike h n s r.0 ks js r.1 o.2,
  ap (λ (z : ℕ). Split z j.beyond) (o.1 ∙ sym (kept_number h n s r.0 (splits_of ks) (splits_of js) k.near (splits_add ks) r.1 o.0)),
)

-- the chords lead from corner to corner as those of the slab do
abbrev AreCornersUnder : (ℕ → ℕ) → (ℕ → Bool) → ℕ → List NewChord → List NewChord → Type 0
AreCornersUnder h live n [] [] = Unit {0}
AreCornersUnder h live n [] (i ∷ is) = ⊥
AreCornersUnder h live n (l ∷ ls) [] = ⊥
AreCornersUnder h live n (l ∷ ls) (i ∷ is) = (IsAlive live n l.from × IsAlive live n l.to) × ((i.from ≡ h l.from) × (i.to ≡ h l.to))
    × AreCornersUnder h live n ls is

chords_alike : (h : ℕ → ℕ) (n : ℕ) (s t : Turning) (ls is : List NewChord) → IsRun n s (chords_of ls) t → AreCornersUnder h s.live n ls is
    → AreAlike h (chords_of ls) (chords_of is)
chords_alike h n s t [] [] r o = tt
chords_alike h n s t [] (i ∷ is) r o = absurd o
chords_alike h n s t (l ∷ ls) [] r o = absurd o
chords_alike h n s t (l ∷ ls) (i ∷ is) r o = (
  chords_alike h n s r.0 ls is r.1 o.2,
  ap (λ (z : ℕ). Chord z i.to i.half) (o.1.0 ∙ sym (kept_number h n s r.0 (chords_of ls) (chords_of is) l.from (chords_add ls) r.1 o.0.0))
      ∙ ap (λ (z : ℕ). Chord (numbers_after h (chords_of ls) (chords_of is) l.from) z i.half) (o.1.1
      ∙ sym (kept_number h n s r.0 (chords_of ls) (chords_of is) l.to (chords_add ls) r.1 o.0.1)),
)

-- ---- Where the chords lead

-- the darts of the subdivision vertices are below n and live
abbrev AreAliveAt : (ℕ → Bool) → ℕ → List Subdivision → Type 0
AreAliveAt live n ks = AllByRecursion (λ k. IsAlive live n k.beyond × IsAlive live n (twin k.near)) ks

module _ (h name name' : ℕ → ℕ) {live : ℕ → Bool} {n : ℕ} (e : ℕ) (at_e : h (name e) ≡ name' e) (et : IsAlive live n (name e)) where
  corners_under : (ks js : List Subdivision) (ls is : List NewChord) {z z' : ℕ} → AreAlong name z ks e ls → AreAlong name' z' js e is → h z ≡ z'
      → IsAlive live n z → AreSubdivisionsAt h ks js → AreAliveAt live n ks → AreCornersUnder h live n ls is
  corners_under [] [] [] is a b at_z zt at alive = absurd a
  corners_under [] [] (l ∷ []) [] a b at_z zt at alive = absurd b
  corners_under [] [] (l ∷ []) (i ∷ []) a b at_z zt at alive =
      ((subst (IsAlive live n) (sym a.0) zt, subst (IsAlive live n) (sym a.1) et), (b.0 ∙ sym at_z ∙ ap h (sym a.0), b.1 ∙ sym at_e ∙ ap h (sym a.1)), tt)
  corners_under [] [] (l ∷ []) (i ∷ (v ∷ is)) a b at_z zt at alive = absurd b
  corners_under [] [] (l ∷ (u ∷ ls)) is a b at_z zt at alive = absurd a
  corners_under [] (j ∷ js) ls is a b at_z zt at alive = absurd at
  corners_under (k ∷ ks) [] ls is a b at_z zt at alive = absurd at
  corners_under (k ∷ ks) (j ∷ js) [] is a b at_z zt at alive = absurd a
  corners_under (k ∷ ks) (j ∷ js) (l ∷ ls) [] a b at_z zt at alive = absurd b
  corners_under (k ∷ ks) (j ∷ js) (l ∷ ls) (i ∷ is) a b at_z zt at alive = (
    (subst (IsAlive live n) (sym a.0) zt, subst (IsAlive live n) (sym a.1) alive.0.0),
    (b.0 ∙ sym at_z ∙ ap h (sym a.0), b.1 ∙ sym at.0 ∙ ap h (sym a.1)),
    corners_under ks js ls is a.2 b.2 at.2 alive.0.1 at.3 alive.1,
  )

-- ---- The numbers of the darts of the system below

-- where no subdivision vertex is before its far end, a dart has the half that it had
abbrev HasOld : (ℕ → ℕ) → (ℕ → ℕ) → (ℕ → ℕ) → List Subdivision → ℕ → Type 0
HasOld number name h ks d = AllByRecursion (λ k. d ≢ twin k.dart) ks → number (name d) ≡ h d

subdivided_numbers : (number name h : ℕ → ℕ) (ks js : List Subdivision) (d : ℕ) → AreSubdivisionsUnder h ks js → AreSubdivisionsAt number ks js
    → AllByRecursion (λ k. name (twin k.dart) ≡ twin k.beyond) ks → HasOld number name h ks d → number (name d) ≡ subdivided_number h js d
subdivided_numbers number name h [] [] d u at ends old = old tt
subdivided_numbers number name h [] (j ∷ js) d u at ends old = absurd u
subdivided_numbers number name h (k ∷ ks) [] d u at ends old = absurd u
subdivided_numbers number name h (k ∷ ks) (j ∷ js) d u at ends old = elim (cases_eq d (twin j.dart)) [
  | inl e ↦ ap number (ap name (e ∙ ap twin u.0) ∙ ends.0) ∙ at.1 ∙ sym (cond-true _ _ _ (eq-eqb d (twin j.dart) e))
  | inr ne ↦ subdivided_numbers number name h ks js d u.2 at.3 ends.1 (λ w. old (λ e. ne (e ∙ ap twin (sym u.0)), w))
      ∙ sym (cond-false _ _ _ (ne_eqb d (twin j.dart) ne))
]

-- ---- The insertion path

-- the slab t renumbers the system with the new edge: each dart of the system below has the half of its first part
pub record IsInsertionPathUnder (g : ℕ → ℕ) (n m : ℕ) (name : ℕ → ℕ) (ks : List Subdivision) (ls : List NewChord) (h : ℕ → ℕ) (js : List Subdivision)
    (is : List NewChord) (t : Turning) (limit : ℕ) : Type 0 where
  pub number : ℕ → ℕ
  pub back : ℕ → ℕ
  pub renumbers : RenumbersTurn number back g t.turn n t.live limit
  pub names : (d : ℕ) → d < m → number (name d) ≡ subdivided_number h js d
  pub subdivisions : AreSubdivisionsAt number ks js
  pub new_chords : AreNumbered number (chords_of ls) (chords_of is)

at_subdivisions : (number k : ℕ → ℕ) (live : ℕ → Bool) (n : ℕ) (ks js : List Subdivision) → ((a : ℕ) → IsAlive live n a → k a ≡ number a) → AllByRecursion
    (λ j. IsAlive live n j.beyond × IsAlive live n (twin j.beyond) × IsAlive live n (twin j.near)) ks → AreSubdivisionsAt number ks js
    → AreSubdivisionsAt k ks js
at_subdivisions number k live n [] [] same alive at = tt
at_subdivisions number k live n [] (j ∷ js) same alive at = absurd at
at_subdivisions number k live n (b ∷ ks) [] same alive at = absurd at
at_subdivisions number k live n (b ∷ ks) (j ∷ js) same alive at = (
  same b.beyond alive.0.0 ∙ at.0,
  same (twin b.beyond) alive.0.1 ∙ at.1,
  same (twin b.near) alive.0.2 ∙ at.2,
  at_subdivisions number k live n ks js same alive.1 at.3,
)

-- the halves of the subdivision vertices, of their new segments and of the near ones
made_subdivisions : (number h : ℕ → ℕ) (ks js : List Subdivision) → AreNumbered number (splits_of ks) (splits_of js) → AreSubdivisionsUnder h ks js
    → AllByRecursion (λ k. number (twin k.near) ≡ twin (h k.dart)) ks → AreSubdivisionsAt number ks js
made_subdivisions number h [] [] made u near = tt
made_subdivisions number h [] (j ∷ js) made u near = absurd u
made_subdivisions number h (k ∷ ks) [] made u near = absurd u
made_subdivisions number h (k ∷ ks) (j ∷ js) made u near = (made.0, made.1, near.0 ∙ ap twin (sym u.1), made_subdivisions number h ks js made.2 u.2 near.1)

on_old : (h nu : ℕ → ℕ) (live : ℕ → Bool) (n : ℕ) (ks js : List Subdivision) → AreSubdivisionsUnder nu ks js
    → AllByRecursion (λ k. IsAlive live n k.near × (h k.near ≡ nu k.dart)) ks → OnOldDarts h live n ks js
on_old h nu live n [] [] u at = tt
on_old h nu live n [] (j ∷ js) u at = absurd u
on_old h nu live n (k ∷ ks) [] u at = absurd u
on_old h nu live n (k ∷ ks) (j ∷ js) u at = (at.0.0, u.1 ∙ sym at.0.1, on_old h nu live n ks js u.2 at.1)

every : {X : Type 0} (P : X → Type 0) (xs : List X) → ((x : X) → IsIn x xs → P x) → AllByRecursion P xs
every P [] f = tt
every P (x ∷ xs) f = (f x (inl refl), every P xs (λ y i. f y (inr i)))

module _ {g : ℕ → ℕ} {n : ℕ} {f : ℕ → ℕ} {m : ℕ} {name : ℕ → ℕ} {c : ℕ} {ks : List Subdivision} {e : ℕ} {ls : List NewChord}
    (p : IsInsertionPath g n f m name c ks e ls)
    {nu nu_back : ℕ → ℕ} {limit : ℕ} {t : Turning} (u t' : Turning) (r : RenumbersTurn nu nu_back f t.turn m t.live limit) (slab : IsSlab t.live t.turn limit)
    (js : List Subdivision) (is : List NewChord) (on : AreSubdivisionsUnder nu ks js)
    (along : AreAlong (subdivided_number nu js) (subdivided_number nu js c) js e is)
    (splits : IsRun limit t (splits_of js) u) (chords : IsRun limit u (chords_of is) t') where
  abbrev b : ℕ → ℕ
  b = without_chords g ls

  i : AllByRecursion (IsSubdivision b n m name) ks
  i = all_subdivisions b n m name ks p.subdivisions

  s : Straightened b n f m name ks
  s = straighten b n f m name ks p.named p.subdivisions p.straight

  abbrev below : ℕ → Bool
  below = is_named s.names m

  abbrev subdivided : ℕ → Bool
  subdivided = with_subdivisions below ks

  even : n % 2 ≡ 0
  even = p.named.even

  -- from the bottom to the slab
  abbrev down : ℕ → ℕ
  down y = find_below (λ d. s.names d == y) m

  abbrev first : ℕ → ℕ
  first y = nu (down y)

  abbrev first_back : ℕ → ℕ
  first_back y = s.names (nu_back y)

  abbrev bottom : Turning
  bottom = record { live = below; turn = s.bottom }

  abbrev middle : Turning
  middle = record { live = subdivided; turn = b }

  abbrev top : Turning
  top = record { live = with_chords subdivided ls; turn = g }

  start : SlabsAlike first first_back n bottom limit t
  start = (let renumbered : RenumbersTurn s.names down f s.bottom m below n = renumbers b n f m name ks s in
      composed_numbers
      (back_numbers s.names down (λ _. true) f m below s.bottom n (slab_of_turn s.names down f s.bottom m below n renumbered (slab_below p s)))
      (slab_of_turn nu nu_back f t.turn m t.live limit r slab))

  alive_name : (d : ℕ) → d < m → IsAlive below n (s.names d)
  alive_name d ld = record { within = s.named.within d ld; alive = is_named-of s.names m d ld }

  first_name : (d : ℕ) → d < m → first (s.names d) ≡ nu d
  first_name d ld = ap nu ((renumbers b n f m name ks s).turn.numbers.returns d ld)

  -- ---- The subdivision vertices

  subdivisions_run : IsRun n bottom (splits_of ks) middle
  subdivisions_run = s.run below (subdividable b n f m name ks i s)

  near_alive : (k : Subdivision) → IsIn k ks → IsAlive below n k.near × (first k.near ≡ nu k.dart)
  near_alive k h = grind (arith, s, all_at, i, alive_name, first_name)

  splits_are_alike : AreAlike first (splits_of ks) (splits_of js)
  splits_are_alike = splits_alike first n bottom middle ks js subdivisions_run
      (on_old first nu below n ks js on (every (λ k. IsAlive below n k.near × (first k.near ≡ nu k.dart)) ks near_alive))

  abbrev second : ℕ → ℕ
  second = numbers_after first (splits_of ks) (splits_of js)

  abbrev second_back : ℕ → ℕ
  second_back = backs_after first_back (splits_of ks) (splits_of js)

  with_all_subdivisions : SlabsAlike second second_back n middle limit u
  with_all_subdivisions = run_numbers first first_back middle (splits_of ks) (splits_of js) start subdivisions_run splits splits_are_alike

  second_name : (d : ℕ) → d < m → second (s.names d) ≡ nu d
  second_name d ld = kept_number first n bottom middle (splits_of ks) (splits_of js) (s.names d) (splits_add ks) subdivisions_run (alive_name d ld)
      ∙ first_name d ld

  back_there : (k : Subdivision) → IsIn k ks → twin k.dart < m
  back_there k h = twin-within m k.dart s.named.turn_even (all_at (IsSubdivision b n m name) k ks i h).there

  far_back : (k : Subdivision) → IsIn k ks → second (twin k.near) ≡ twin (nu k.dart)
  far_back k h = ap second (sym (back_named b n f m name ks i s k h)) ∙ second_name (twin k.dart) (back_there k h)
      ∙ sym (r.twins.each k.dart (all_at (IsSubdivision b n m name) k ks i h).there)

  second_subdivisions : AreSubdivisionsAt second ks js
  second_subdivisions = made_subdivisions second nu ks js
      (new_numbers first second (splits_of ks) (splits_of js) (record { even = even; each = splits_add ks; run = subdivisions_run }) splits_are_alike
      (λ a at. refl))
      on (every (λ k. second (twin k.near) ≡ twin (nu k.dart)) ks far_back)

  other_ends : AllByRecursion (λ k. name (twin k.dart) ≡ twin k.beyond) ks
  other_ends = every (λ k. name (twin k.dart) ≡ twin k.beyond) ks (λ k h. (all_at (IsSubdivision b n m name) k ks i h).other_end)

  second_names : (d : ℕ) → d < m → second (name d) ≡ subdivided_number nu js d
  second_names d ld = subdivided_numbers second name nu ks js d on second_subdivisions other_ends (λ none. elim (named_below b n f m name ks i s d ld) [
    | inl at ↦ ap second (sym at) ∙ second_name d ld
    | inr w ↦ absurd (all_at (λ k. d ≢ twin k.dart) w.0 ks none w.1 w.2)
  ])

  -- ---- The chords

  chords_are : IsRun n middle (chords_of ls) top
  chords_are = chords_run subdivided g n ls p.permutation even p.new_chords (ready p i s)

  alive_here : (d : ℕ) → d < m → IsAlive subdivided n (name d)
  alive_here d ld = record { within = p.named.within d ld; alive = name_live b n f m name ks i s d ld }

  alive_back : (k : Subdivision) → IsIn k ks → IsAlive subdivided n (twin k.near)
  alive_back k h = kept_alive n bottom middle (splits_of ks) (twin k.near) (splits_add ks) subdivisions_run
      (subst (IsAlive below n) (back_named b n f m name ks i s k h) (alive_name (twin k.dart) (back_there k h)))

  alive_beyond : (k : Subdivision) → IsIn k ks → IsAlive subdivided n k.beyond × IsAlive subdivided n (twin k.beyond)
  alive_beyond k h =
      let there : k.beyond < n = (all_at (IsSubdivision b n m name) k ks i h).beyond_there in
      let (one, two) = beyond_live below ks k h in
      (record { within = there; alive = one }, record { within = twin-within n k.beyond even there; alive = two })

  chords_are_alike : AreAlike second (chords_of ls) (chords_of is)
  chords_are_alike = chords_alike second n middle top ls is chords_are
      (corners_under second name (subdivided_number nu js) e (second_names e p.to_there) (alive_here e p.to_there) ks js ls is
      p.along along (second_names c p.from_there) (alive_here c p.from_there) second_subdivisions
      (every (λ k. IsAlive subdivided n k.beyond × IsAlive subdivided n (twin k.near)) ks (λ k h. ((alive_beyond k h).0, alive_back k h))))

  abbrev third : ℕ → ℕ
  third = numbers_after second (chords_of ls) (chords_of is)

  abbrev third_back : ℕ → ℕ
  third_back = backs_after second_back (chords_of ls) (chords_of is)

  with_all_chords : SlabsAlike third third_back n top limit t'
  with_all_chords = run_numbers second second_back top (chords_of ls) (chords_of is) with_all_subdivisions chords_are chords chords_are_alike

  third_same : (a : ℕ) → IsAlive subdivided n a → third a ≡ second a
  third_same a at = kept_number second n middle top (chords_of ls) (chords_of is) a (chords_add ls) chords_are at

  pub insertion_path_numbers : IsInsertionPathUnder g n m name ks ls nu js is t' limit
  insertion_path_numbers = record {
    number = third;
    back = third_back;
    renumbers = turn_of_slab third third_back g t'.turn n (with_chords subdivided ls) t'.live limit (all_live p i s) with_all_chords;
    names = λ d ld. third_same (name d) (alive_here d ld) ∙ second_names d ld;
    subdivisions = at_subdivisions second third subdivided n ks js third_same
        (every (λ k. IsAlive subdivided n k.beyond × IsAlive subdivided n (twin k.beyond) × IsAlive subdivided n (twin k.near)) ks
        (λ k h. ((alive_beyond k h).0, (alive_beyond k h).1, alive_back k h))) second_subdivisions;
    new_chords = new_numbers second third (chords_of ls) (chords_of is) (record { even = even; each = chords_add ls; run = chords_are }) chords_are_alike
        (λ a at. refl);
  }
