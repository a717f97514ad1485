-- A picture that shows a new edge, as numbers: the new edge is an insertion path through the old system.
use Rattle.std.proofs.Common.{◌≡◌, ◌≢◌, ℕ, suc, ◌+◌, ◌-◌, ◌<◌, ◌≤◌, ◌==◌, Bool, true, false, ◌&&◌}
use Rattle.std.proofs.Common.{List, [], ◌∷◌, length, ◌⊎◌, inl, inr, refl, sym, ◌∙◌, ap, subst, arith}
use Rattle.std.specs.Prelude.{Some}
use Rattle.std.specs.List.{AllByRecursion, enumerate_from}
use Rattle.std.proofs.lemmas.Bool.{cases_Bool, cases_eq, eq-eqb, false≢true}
use Rattle.topo_core.specs.declared.darts.Dart.{Dart}
use Rattle.topo_core.specs.declared.darts.Way.{Way}
use Rattle.topo_core.specs.declared.darts.Way.TheVariants.{Forward, Back}
use Rattle.topo_core.specs.declared.rows.Rows.{Rows}
use Rattle.topo_core.specs.declared.routes.Route.{Route}
use Rattle.topo_core.specs.Cycles.{SameCycle, map_of}
use Rattle.topo_core.specs.Rotations.{twin, face_next}
use Rattle.topo_core.specs.Items.{IsIn}
use Rattle.topo_core.specs.Darts.{dart_twin, reversed}
use Rattle.topo_core.specs.Systems.{SameFace, has_dart, turn}
use Rattle.topo_core.specs.Picture.{corner, darts, index_of, system, turn_images}
use Rattle.topo_core.specs.Lawful.{IsWellFormed}
use Rattle.topo_core.specs.Changes.{numbered}
use Rattle.topo_core.specs.Routes.{Crosses, MeetsFacesOnce}
use Rattle.topo_core.specs.Insertions.{CrossesOnce, ShowsTurns, backward, lifted, onward, onward_by, same_segment}
use Rattle.topo_core.proofs.Interface.{index_apart, index_twin, lifted_edge, number_below, number_from, numbered_in, same_or_twins, turn_permutes, turn_stays, twin-twin, twin_in}
use Rattle.topo_perm.specs.Edits.{IsApart}
use Rattle.topo_perm.proofs.Interface.{AreAlong, AreApartChords, AreNewChords, AreOnOthers, AreStrange, AreSubdivisions, IsInsertionPath, IsNamed, IsNewChord, IsOffChords, IsPlaced, IsStraight}
use Rattle.topo_perm.proofs.Interface.{IsSubdivision, IsUndivided, MeetsOnce, NewChord, Subdivision, Walks, all_at, all_of, apart_back, chords_permutation, over_chord, over_chord_back, past_chords}
use Rattle.topo_perm.proofs.Interface.{without_chords}
use Rattle.topo_kept_rows.proofs.inserting.InsertedNumbers.{dart_here, dart_of, dart_of_number, even_count, face_same, number_less}
use Rattle.topo_kept_rows.proofs.inserting.InsertedNumbers.{number_of, numbers_apart, same_face, segment_apart, turn_number, turned, twinned}

pub onward_edge : (q : Rows) (x e : ℕ) (way : Way) → (onward_by q x e way).edge ≡ e
onward_edge q x e Forward = refl
onward_edge q x e Back = refl

one_segment : (c d : Dart) → c.edge ≡ d.edge → c.seg ≡ d.seg → same_segment c d ≡ false → ⊥
one_segment c d e g w = false≢true (sym w ∙ ap (λ (b : Bool). b && c.seg == d.seg) (eq-eqb c.edge d.edge e) ∙ eq-eqb c.seg d.seg g)

module _ (p q : Rows) (f u v : ℕ) (r : Route) (hp : IsWellFormed p) (hq : IsWellFormed q) (s : ShowsTurns p f u v r q) where
  abbrev pub Was : Dart → Type 0
  Was d = has_dart (darts p) d ≡ true

  abbrev pub Is : Dart → Type 0
  Is d = has_dart (darts q) d ≡ true

  abbrev pub num : Dart → ℕ
  num = index_of q

  abbrev pub g : ℕ → ℕ
  g = map_of (turn_images q)

  abbrev pub n : ℕ
  n = length (turn_images q)

  abbrev pub old : ℕ → ℕ
  old = map_of (turn_images p)

  abbrev pub m : ℕ
  m = length (turn_images p)

  -- the number in q of the dart with this number in p
  abbrev pub name : ℕ → ℕ
  name a = num (lifted p q (dart_of p hp a))

  name_of : (d : Dart) → Was d → name (index_of p d) ≡ num (lifted p q d)
  name_of d w = ap (λ (c : Dart). num (lifted p q c)) (dart_of_number p hp d w)

  -- the darts of the new edge
  abbrev pub newcomer : ℕ → Way → Dart
  newcomer i way = record { edge = f; seg = i; way = way }

  newcomer_in : (i : ℕ) (way : Way) → i ≤ length r.crossed → Is (newcomer i way)
  newcomer_in i way h = s.newcomer_there i way h

  twin_half : (i : ℕ) → i ≤ length r.crossed → twin (num (newcomer i Forward)) ≡ num (newcomer i Back)
  twin_half i h = sym (index_twin q (newcomer i Forward) (newcomer_in i Forward h))

  -- a dart of another edge is not on a segment of the new one
  strange : (d : Dart) → Is d → d.edge ≢ f → (i : ℕ) → i ≤ length r.crossed → IsApart n (num d) (num (newcomer i Forward))
  strange d h ne i le = segment_apart q hq d (newcomer i Forward) h (newcomer_in i Forward le) (λ e. ne (ap (λ (c : Dart). c.edge) e))
      (λ e. ne (ap (λ (c : Dart). c.edge) e))

  lifted_there : (d : Dart) → Was d → Is (lifted p q d)
  lifted_there d w = s.lifts d w

  lifted_other : (d : Dart) → Was d → (lifted p q d).edge ≢ f
  lifted_other d w e = s.old_edges d w (sym (lifted_edge p q d) ∙ e)

  onward_other : (x : ℕ) (d : Dart) → Was d → (onward q x d).edge ≢ f
  onward_other x d w e = s.old_edges d w (sym (onward_edge q x d.edge d.way) ∙ e)

  backward_other : (x : ℕ) (d : Dart) → Was d → (backward q x d).edge ≢ f
  backward_other x d w e = s.old_edges d w (sym (onward_edge q x d.edge (reversed d.way)) ∙ e)

  -- ---- The subdivision vertices and the chords

  abbrev pub subdivision_of : ℕ → Dart → Subdivision
  subdivision_of x d = record { dart = index_of p d; near = num (lifted p q d); beyond = num (onward q x d) }

  abbrev pub subdivisions_of : ℕ → List Dart → List Subdivision
  subdivisions_of x [] = []
  subdivisions_of x (d ∷ ds) = subdivision_of x d ∷ subdivisions_of (x + 1) ds

  abbrev pub chord_of : ℕ → ℕ → ℕ → NewChord
  chord_of x z e = record { from = z; to = e; half = num (newcomer (x - p.next_crossing) Forward) }

  abbrev pub new_chords_of : ℕ → ℕ → List Dart → ℕ → List NewChord
  new_chords_of x z [] e = chord_of x z e ∷ []
  new_chords_of x z (d ∷ ds) e = chord_of x z (num (onward q x d)) ∷ new_chords_of (x + 1) (num (backward q x d)) ds e

  -- the crossings from x on are those of the darts ds, the last of the route
  pub record IsRest (x : ℕ) (ds : List Dart) : Type 0 where
    pub from : p.next_crossing ≤ x
    pub size : x + length ds ≡ p.next_crossing + length r.crossed
    pub sub : (y : ℕ) (d : Dart) → IsIn (y, d) (enumerate_from x ds) → IsIn (y, d) (numbered p r)
    pub was : AllByRecursion (λ d. has_dart (darts p) d ≡ true) ds
    pub once : CrossesOnce ds

  rest_of : (x : ℕ) (d : Dart) (ds : List Dart) → IsRest x (d ∷ ds) → IsRest (x + 1) ds
  rest_of x d ds h = record {
    from = (let k = h.from in omega arith);
    size = (let k : x + suc (length ds) ≡ p.next_crossing + length r.crossed = h.size in omega arith);
    sub = λ y c i. h.sub y c (inr i);
    was = h.was.1;
    once = h.once.1;
  }

  index_least : (x : ℕ) (ds : List Dart) → IsRest x ds → x - p.next_crossing ≤ length r.crossed
  index_least x ds h = (let k = h.from in let l = h.size in omega arith)

  next_index : (x : ℕ) → p.next_crossing ≤ x → x + 1 - p.next_crossing ≡ x - p.next_crossing + 1
  next_index x h = omega arith

  -- ---- The darts of other edges are on no chord

  off_chords : (a : Dart) → Is a → a.edge ≢ f → (x z : ℕ) (ds : List Dart) (e : ℕ) → IsRest x ds → IsOffChords n (new_chords_of x z ds e) (num a)
  off_chords a h ne x z [] e rest = (strange a h ne (x - p.next_crossing) (index_least x [] rest), tt)
  off_chords a h ne x z (d ∷ ds) e rest =
      (strange a h ne (x - p.next_crossing) (index_least x (d ∷ ds) rest), off_chords a h ne (x + 1) (num (backward q x d)) ds e (rest_of x d ds rest))

  -- ---- The chords

  -- corner z, where the next chord starts: it is none of the darts onward, nor where the new edge ends
  pub record IsStart (x : ℕ) (z e : Dart) : Type 0 where
    pub z_in : Is z
    pub z_other : z.edge ≢ f
    pub e_in : Is e
    pub e_other : e.edge ≢ f
    pub leaves : turn (system q) (newcomer (x - p.next_crossing) Forward) ≡ z
    pub arrives : turn (system q) (newcomer (length r.crossed) Back) ≡ e
    pub not_end : z ≢ e
    pub not_onward : (y : ℕ) (d : Dart) → IsIn (y, d) (numbered p r) → z ≢ onward q y d
    pub end_new : (y : ℕ) (d : Dart) → IsIn (y, d) (numbered p r) → backward q y d ≢ e

  next_start : (x : ℕ) (z e d : Dart) (ds : List Dart) → IsRest x (d ∷ ds) → IsStart x z e → IsStart (x + 1) (backward q x d) e
  next_start x z e d ds h t =
      let i : IsIn (x, d) (numbered p r) = h.sub x d (inl refl) in
      record {
        z_in = (s.crossed_there x d i).1;
        z_other = backward_other x d h.was.0;
        e_in = t.e_in;
        e_other = t.e_other;
        leaves = ap (λ (j : ℕ). turn (system q) (newcomer j Forward)) (next_index x h.from) ∙ ap (turn (system q)) (sym (s.newcomer x d i).0)
            ∙ (s.round_ahead x d i).1;
        arrives = t.arrives;
        not_end = t.end_new x d i;
        not_onward = λ y c j w. s.not_both y x c d j i (sym w);
        end_new = t.end_new;
      }

  last_chord : (x : ℕ) (z e : Dart) → IsRest x [] → IsStart x z e → IsNewChord g n (chord_of x (num z) (num e))
  last_chord x z e h t =
      let le : x - p.next_crossing ≤ length r.crossed = index_least x [] h in
      let at : x - p.next_crossing ≡ length r.crossed = (let k = h.from in let l : x + 0 ≡ p.next_crossing + length r.crossed = h.size in omega arith) in
      grind (arith, number_less, newcomer_in, strange, numbers_apart, turn_number, twin_half)

  inner_chord : (x : ℕ) (z e d : Dart) (ds : List Dart) → IsRest x (d ∷ ds) → IsStart x z e → IsNewChord g n (chord_of x (num z) (num (onward q x d)))
  inner_chord x z e d ds h t =
      let i : IsIn (x, d) (numbered p r) = h.sub x d (inl refl) in
      let le : x - p.next_crossing ≤ length r.crossed = index_least x (d ∷ ds) h in
      let half : Dart = newcomer (x - p.next_crossing) Forward in
      let there : Is (onward q x d) = (s.crossed_there x d i).0 in
      record {
        there = number_less q hq half (newcomer_in (x - p.next_crossing) Forward le);
        from_apart = strange z t.z_in t.z_other (x - p.next_crossing) le;
        to_apart = strange (onward q x d) there (onward_other x d h.was.0) (x - p.next_crossing) le;
        ends_apart = numbers_apart q hq z (onward q x d) t.z_in there (t.not_onward x d i);
        leaves = turn_number q hq half (newcomer_in (x - p.next_crossing) Forward le) ∙ ap num t.leaves;
        arrives = ap g (twin_half (x - p.next_crossing) le) ∙ turn_number q hq (newcomer (x - p.next_crossing) Back) (newcomer_in (x - p.next_crossing) Back le)
            ∙ ap num (ap (turn (system q)) (sym (s.newcomer x d i).1) ∙ (s.round_behind x d i).1);
      }

  -- two segments of the new edge
  newcomers_apart : (i j : ℕ) → i ≤ length r.crossed → j ≤ length r.crossed → i ≢ j → IsApart n (num (newcomer j Forward)) (num (newcomer i Forward))
  newcomers_apart i j hi hj ne = segment_apart q hq (newcomer j Forward) (newcomer i Forward) (newcomer_in j Forward hj) (newcomer_in i Forward hi)
      (λ e. ne (sym (ap (λ (c : Dart). c.seg) e))) (λ e. ne (sym (ap (λ (c : Dart). c.seg) e)))

  -- a dart of another edge
  record IsOldDart (d : Dart) : Type 0 where
    there : Is d
    other : d.edge ≢ f

  -- a chord before and the chords from x on
  chords_off_chords : (i : ℕ) {a b : Dart} → IsOldDart a → IsOldDart b → i ≤ length r.crossed → (ds : List Dart) {x : ℕ} {z e : Dart} → IsRest x ds
      → IsStart x z e → i < x - p.next_crossing
      → AllByRecursion (AreApartChords n (record { from = num a; to = num b; half = num (newcomer i Forward) })) (new_chords_of x (num z) ds (num e))
  chords_off_chords i {a} {b} old_a old_b hi [] {x} {z} {e} h t less =
      let le : x - p.next_crossing ≤ length r.crossed = index_least x [] h in (
        record {
          half = newcomers_apart i (x - p.next_crossing) hi le (λ w. (let k = less in omega arith));
          from = strange a old_a.there old_a.other (x - p.next_crossing) le;
          to = strange b old_b.there old_b.other (x - p.next_crossing) le;
          from_back = strange z t.z_in t.z_other i hi;
          to_back = strange e t.e_in t.e_other i hi;
        },
        tt,
      )
  chords_off_chords i {a} {b} old_a old_b hi (d ∷ ds) {x} {z} {e} h t less =
      let le : x - p.next_crossing ≤ length r.crossed = index_least x (d ∷ ds) h in
      let there : Is (onward q x d) = (s.crossed_there x d (h.sub x d (inl refl))).0 in (
        record {
          half = newcomers_apart i (x - p.next_crossing) hi le (λ w. (let k = less in omega arith));
          from = strange a old_a.there old_a.other (x - p.next_crossing) le;
          to = strange b old_b.there old_b.other (x - p.next_crossing) le;
          from_back = strange z t.z_in t.z_other i hi;
          to_back = strange (onward q x d) there (onward_other x d h.was.0) i hi;
        },
        chords_off_chords i old_a old_b hi ds (rest_of x d ds h) (next_start x z e d ds h t) (let k = h.from in omega arith),
      )

  are_chords : (x : ℕ) (z e : Dart) (ds : List Dart) → IsRest x ds → IsStart x z e → AreNewChords g n (new_chords_of x (num z) ds (num e))
  are_chords x z e [] h t = (last_chord x z e h t, tt, tt)
  are_chords x z e (d ∷ ds) h t =
      let there : Is (onward q x d) = (s.crossed_there x d (h.sub x d (inl refl))).0 in
      let t' : IsStart (x + 1) (backward q x d) e = next_start x z e d ds h t in
      let h' : IsRest (x + 1) ds = rest_of x d ds h in (
        inner_chord x z e d ds h t,
        chords_off_chords (x - p.next_crossing) (record { there = t.z_in; other = t.z_other }) (record { there = there; other = onward_other x d h.was.0 })
            (index_least x (d ∷ ds) h) ds h' t' (let k = h.from in omega arith),
        are_chords (x + 1) (backward q x d) e ds h' t',
      )

  -- each segment of the new edge is a chord
  chord_at : (x : ℕ) (z e : Dart) (ds : List Dart) → IsRest x ds → (i : ℕ) → x - p.next_crossing ≤ i → i ≤ length r.crossed → (l : NewChord)
      × IsIn l (new_chords_of x (num z) ds (num e)) × (l.half ≡ num (newcomer i Forward))
  chord_at x z e [] h i low high = (
    chord_of x (num z) (num e),
    inl refl,
    ap (λ (j : ℕ). num (newcomer j Forward)) (let k = h.from in let l : x + 0 ≡ p.next_crossing + length r.crossed = h.size in omega arith),
  )
  chord_at x z e (d ∷ ds) h i low high = elim (cases_eq (x - p.next_crossing) i) [
    | inl same ↦ (chord_of x (num z) (num (onward q x d)), inl refl, ap (λ (j : ℕ). num (newcomer j Forward)) same)
    | inr ne ↦
        let (l, at, half) = chord_at (x + 1) (backward q x d) e ds (rest_of x d ds h) i (let k = h.from in omega arith) high in
        (l, inr at, half)
  ]

  -- ---- Over the chords

  chord_leaves : (ls : List NewChord) (l : NewChord) → AreNewChords g n ls → IsIn l ls → g l.half ≡ l.from
  chord_leaves [] l h i = elim i [ ]
  chord_leaves (k ∷ ks) l h i = elim i [
    | inl e ↦ subst (λ (v : NewChord). g v.half ≡ v.from) (sym e) h.0.leaves
    | inr j ↦ chord_leaves ks l h.2 j
  ]

  chord_arrives : (ls : List NewChord) (l : NewChord) → AreNewChords g n ls → IsIn l ls → g (twin l.half) ≡ l.to
  chord_arrives [] l h i = elim i [ ]
  chord_arrives (k ∷ ks) l h i = elim i [
    | inl e ↦ subst (λ (v : NewChord). g (twin v.half) ≡ v.to) (sym e) h.0.arrives
    | inr j ↦ chord_arrives ks l h.2 j
  ]

  -- the path of the whole route, from the corner of z to that of e
  pub record IsPath (z e : Dart) : Type 0 where
    pub rest : IsRest p.next_crossing r.crossed
    pub start : IsStart p.next_crossing z e

  -- the path from the corner of `from` to the corner of `to`
  pub path_of : (from to : Dart) → corner p u r.start ≡ Some from → corner p v r.end ≡ Some to → Was from → Was to → from ≢ to
      → AllByRecursion (λ d. has_dart (darts p) d ≡ true) r.crossed → CrossesOnce r.crossed → IsPath (lifted p q from) (lifted p q to)
  path_of from to from_at to_at from_was to_was apart was once = record {
    rest = record { from = omega arith; size = refl; sub = λ y d i. i; was = was; once = once };
    start = record {
      z_in = lifted_there from from_was;
      z_other = lifted_other from from_was;
      e_in = lifted_there to to_was;
      e_other = lifted_other to to_was;
      leaves = ap (λ (j : ℕ). turn (system q) (newcomer j Forward)) (let k : p.next_crossing - p.next_crossing ≡ 0 = omega arith in k) ∙ s.starts from from_at;
      arrives = s.ends to to_at;
      not_end = λ w. apart (s.lifts_apart from to from_was to_was w);
      not_onward = λ y d i. (s.new_points y d from i from_was).0;
      end_new = λ y d i w. (s.new_points y d to i to_was).1 (sym w);
    };
  }

  abbrev pub path_chords : Dart → Dart → List NewChord
  path_chords z e = new_chords_of p.next_crossing (num z) r.crossed (num e)

  abbrev pub below : Dart → Dart → ℕ → ℕ
  below z e = without_chords g (path_chords z e)

  off_path : (z e : Dart) → IsPath z e → (a : Dart) → Is a → a.edge ≢ f → IsOffChords n (path_chords z e) (num a)
  off_path z e h a ha na = off_chords a ha na p.next_crossing (num z) r.crossed (num e) h.rest

  path_are_chords : (z e : Dart) → IsPath z e → AreNewChords g n (path_chords z e)
  path_are_chords z e h = are_chords p.next_crossing z e r.crossed h.rest h.start

  -- what turns to a dart of the new edge turns, without it, to what follows that
  over_newcomer : (z e : Dart) → IsPath z e → (a : Dart) → Is a → a.edge ≢ f → (i : ℕ) → (way : Way) → i ≤ length r.crossed → turn (system q) a ≡ newcomer i way
      → below z e (num a) ≡ num (turn (system q) (newcomer i way))
  over_newcomer z e h a ha na i Forward hi at =
      let (l, l_in, half) = chord_at p.next_crossing z e r.crossed h.rest i (omega arith) hi in
      let new_chords : AreNewChords g n (path_chords z e) = path_are_chords z e h in
      over_chord g n (path_chords z e) l (num a) (even_count q hq) new_chords l_in (off_path z e h a ha na) (turn_number q hq a ha ∙ ap num at ∙ sym half)
      ∙ sym (chord_leaves (path_chords z e) l new_chords l_in) ∙ ap g half ∙ turn_number q hq (newcomer i Forward) (newcomer_in i Forward hi)
  over_newcomer z e h a ha na i Back hi at =
      let (l, l_in, half) = chord_at p.next_crossing z e r.crossed h.rest i (omega arith) hi in
      let new_chords : AreNewChords g n (path_chords z e) = path_are_chords z e h in
      let other : twin l.half ≡ num (newcomer i Back) = ap twin half ∙ twin_half i hi in
      over_chord_back g n (path_chords z e) l (num a) (even_count q hq) new_chords l_in (off_path z e h a ha na) (turn_number q hq a ha ∙ ap num at ∙ sym other)
      ∙ sym (chord_arrives (path_chords z e) l new_chords l_in) ∙ ap g other ∙ turn_number q hq (newcomer i Back) (newcomer_in i Back hi)

  -- ---- The subdivision vertices

  module _ (z e : Dart) (h : IsPath z e) where
    record IsCrossed (x : ℕ) (d : Dart) : Type 0 where
      at : IsIn (x, d) (numbered p r)
      was : Was d
      low : p.next_crossing ≤ x
      high : x < p.next_crossing + length r.crossed

    back_number : (x : ℕ) (d : Dart) → IsCrossed x d → twin (num (lifted p q d)) ≡ num (backward q x d)
    back_number x d c = sym (index_twin q (lifted p q d) (lifted_there d c.was)) ∙ ap num (s.before_crossing x d c.at)

    is_subdivision : (x : ℕ) (d : Dart) → IsCrossed x d → IsSubdivision (below z e) n m name (subdivision_of x d)
    is_subdivision x d c =
        let on : Dart = onward q x d in
        let back : Dart = backward q x d in
        let on_in : Is on = (s.crossed_there x d c.at).0 in
        let back_in : Is back = (s.crossed_there x d c.at).1 in
        let at_back : twin (num (lifted p q d)) ≡ num back = back_number x d c in
        let next : x - p.next_crossing + 1 ≤ length r.crossed = (let k = c.low in let l = c.high in omega arith) in
        let here : x - p.next_crossing ≤ length r.crossed = (let k = c.low in let l = c.high in omega arith) in
        let twin_was : Was (dart_twin d) = twin_in p d c.was in
        record {
          there = number_less p hp d c.was;
          near_there = number_less q hq (lifted p q d) (lifted_there d c.was);
          near_apart = numbers_apart q hq (lifted p q d) on (lifted_there d c.was) on_in ((s.new_points x d d c.at c.was).0);
          beyond_there = number_less q hq on on_in;
          onto = over_newcomer z e h on on_in (onward_other x d c.was)
              (x - p.next_crossing + 1) Forward next ((s.round_ahead x d c.at).0 ∙ (s.newcomer x d c.at).0)
              ∙ ap num (ap (turn (system q)) (sym (s.newcomer x d c.at).0) ∙ (s.round_ahead x d c.at).1) ∙ sym at_back;
          round = ap (below z e) at_back
              ∙ over_newcomer z e h back back_in (backward_other x d c.was) (x - p.next_crossing) Back here ((s.round_behind x d c.at).0
              ∙ (s.newcomer x d c.at).1)
              ∙ ap num (ap (turn (system q)) (sym (s.newcomer x d c.at).1) ∙ (s.round_behind x d c.at).1);
          other_end = ap name (sym (index_twin p d c.was)) ∙ name_of (dart_twin d) twin_was ∙ ap num (s.after_crossing x d c.at) ∙ index_twin q on on_in;
          two = λ w. numbers_apart q hq on back on_in back_in (s.not_both x x d d c.at c.at) (w ∙ at_back);
          new = λ a la. numbers_apart q hq (lifted p q (dart_of p hp a)) on (lifted_there (dart_of p hp a) (dart_here p hp a la)) on_in
              ((s.new_points x d (dart_of p hp a) c.at (dart_here p hp a la)).0);
          new_back = λ a la w. numbers_apart q hq (lifted p q (dart_of p hp a)) back (lifted_there (dart_of p hp a) (dart_here p hp a la)) back_in
              ((s.new_points x d (dart_of p hp a) c.at (dart_here p hp a la)).1) (w ∙ at_back);
        }

    on_others : (x y : ℕ) (c d : Dart) → IsCrossed x c → IsCrossed y d → x ≢ y → same_segment c d ≡ false
        → AreOnOthers m (subdivision_of x c) (subdivision_of y d)
    on_others x y c d hc hd ne apart =
        let on_c : Is (onward q x c) = (s.crossed_there x c hc.at).0 in
        let on_d : Is (onward q y d) = (s.crossed_there y d hd.at).0 in
        let back_c : Is (backward q x c) = (s.crossed_there x c hc.at).1 in
        let back_d : Is (backward q y d) = (s.crossed_there y d hd.at).1 in
        record {
          dart = segment_apart p hp d c hd.was hc.was
              (λ w. one_segment c d (ap (λ (v : Dart). v.edge) (sym w)) (ap (λ (v : Dart). v.seg) (sym w)) apart)
              (λ w. one_segment c d (ap (λ (v : Dart). v.edge) (sym w)) (ap (λ (v : Dart). v.seg) (sym w)) apart);
          near = numbers_apart q hq (lifted p q d) (lifted p q c) (lifted_there d hd.was) (lifted_there c hc.was) (λ w. one_segment c d
              (ap (λ (v : Dart). v.edge) (s.lifts_apart c d hc.was hd.was (sym w))) (ap (λ (v : Dart). v.seg) (s.lifts_apart c d hc.was hd.was (sym w))) apart);
          beyond = numbers_apart q hq (onward q y d) (onward q x c) on_d on_c (λ w. ne (sym (s.onward_apart y x d c hd.at hc.at w)));
          beyond_back = λ w. numbers_apart q hq (onward q y d) (backward q x c) on_d back_c (s.not_both y x d c hd.at hc.at) (w ∙ back_number x c hc);
          back_beyond = λ w. numbers_apart q hq (onward q x c) (backward q y d) on_c back_d (s.not_both x y c d hc.at hd.at) (w ∙ back_number y d hd);
        }

    crossed_at : (x : ℕ) (d : Dart) (ds : List Dart) → IsRest x (d ∷ ds) → IsCrossed x d
    crossed_at x d ds k = record {
      at = k.sub x d (inl refl);
      was = k.was.0;
      low = k.from;
      high = (let l : x + suc (length ds) ≡ p.next_crossing + length r.crossed = k.size in omega arith);
    }

    later_subdivisions : (x : ℕ) (c : Dart) → IsCrossed x c → (y : ℕ) (ds : List Dart) → IsRest y ds → x < y → AllByRecursion (λ d. same_segment c d ≡ false) ds
        → AllByRecursion (AreOnOthers m (subdivision_of x c)) (subdivisions_of y ds)
    later_subdivisions x c hc y [] k less apart = tt
    later_subdivisions x c hc y (d ∷ ds) k less apart = (
      on_others x y c d hc (crossed_at y d ds k) (λ w. (let l = less in omega arith)) apart.0,
      later_subdivisions x c hc (y + 1) ds (rest_of y d ds k) (omega (arith, less)) apart.1,
    )

    are_subdivisions : (x : ℕ) (ds : List Dart) → IsRest x ds → AreSubdivisions (below z e) n m name (subdivisions_of x ds)
    are_subdivisions x [] k = tt
    are_subdivisions x (d ∷ ds) k = (
      is_subdivision x d (crossed_at x d ds k),
      later_subdivisions x d (crossed_at x d ds k) (x + 1) ds (rest_of x d ds k) (omega arith) k.once.0,
      are_subdivisions (x + 1) ds (rest_of x d ds k),
      sym (name_of d k.was.0),
    )

    -- ---- The old system under its numbers in q

    -- a dart of the new edge is one of its segments'
    on_new_edge : (d : Dart) → Is d → d.edge ≡ f → d.seg ≤ length r.crossed
    on_new_edge d hd ed = elim (s.no_others d hd) [
      | inl w ↦ w.1
      | inr w ↦ grind (arith, lifted_other, onward_edge)
    ]

    was_crossed : (x : ℕ) (d : Dart) → IsIn (x, d) (numbered p r) → IsCrossed x d
    was_crossed x d i = record {
      at = i;
      was = all_at (λ c. has_dart (darts p) c ≡ true) d r.crossed h.rest.was (numbered_in p.next_crossing x d r.crossed i);
      low = number_from p.next_crossing x d r.crossed i;
      high = number_below p.next_crossing x d r.crossed i;
    }

    turns_below : (a : ℕ) → a < m → below z e (name a) ≡ name (old a)
    turns_below a la =
        let d : Dart = dart_of p hp a in
        let was : Was d = dart_here p hp a la in
        let up : Dart = lifted p q d in
        let up_in : Is up = lifted_there d was in
        let after : Dart = lifted p q (turn (system p) d) in
        let after_was : Was (turn (system p) d) = turn_stays p hp.paths hp.crossings hp.rotations d was in
        let goal : num after ≡ name (old a) = ap (λ (c : Dart). num (lifted p q c)) (sym (turned p hp a la)) in
        elim (s.turns d was) [
          | inl straight ↦ past_chords g n (path_chords z e) (num up) (num after) (off_path z e h up up_in (lifted_other d was))
              (off_path z e h after (lifted_there (turn (system p) d) after_was) (lifted_other (turn (system p) d) after_was))
              (turn_number q hq up up_in ∙ ap num straight) ∙ goal
          | inr over ↦
              let t : Dart = turn (system q) up in
              let t_in : Is t = turn_stays q hq.paths hq.crossings hq.rotations up up_in in
              over_at (turn (system q) up) up up_in (lifted_other d was) refl over.0 t_in ∙ ap num over.1 ∙ goal
        ] where
          over_at : (t a : Dart) → Is a → a.edge ≢ f → turn (system q) a ≡ t → t.edge ≡ f → Is t → below z e (num a) ≡ num (turn (system q) t)
          over_at t a ha na at et ht = grind (arith, over_newcomer, on_new_edge)

    named : IsNamed (below z e) n old m name
    named = record {
      permutation = chords_permutation g n (path_chords z e) (turn_permutes q hq.paths hq.crossings hq.rotations) (even_count q hq) (path_are_chords z e h);
      even = even_count q hq;
      turn = turn_permutes p hp.paths hp.crossings hp.rotations;
      turn_even = even_count p hp;
      within = λ a la. number_less q hq (lifted p q (dart_of p hp a)) (lifted_there (dart_of p hp a) (dart_here p hp a la));
      apart = λ a b la lb w.
          let da : Was (dart_of p hp a) = dart_here p hp a la in
          let db : Was (dart_of p hp b) = dart_here p hp b lb in
          sym (number_of p hp a la) ∙ ap (index_of p) (s.lifts_apart (dart_of p hp a) (dart_of p hp b) da db
          (index_apart q hq.paths (lifted p q (dart_of p hp a)) (lifted p q (dart_of p hp b)) (lifted_there (dart_of p hp a) da)
          (lifted_there (dart_of p hp b) db) w)) ∙ number_of p hp b lb;
      turns = turns_below;
    }

    -- no crossed dart is on the segment of d where no subdivision vertex is
    undivided_segments : (a : ℕ) → a < m → (x : ℕ) (ds : List Dart) → AllByRecursion (λ d. has_dart (darts p) d ≡ true) ds
        → IsUndivided m (subdivisions_of x ds) a → AllByRecursion (λ c. same_segment c (dart_of p hp a) ≡ false) ds
    undivided_segments a la x [] was u = tt
    undivided_segments a la x (c ∷ cs) was u = (
      elim (cases_Bool (same_segment c (dart_of p hp a))) [
        | inr apart ↦ apart
        | inl one ↦ absurd (grind (arith, same_or_twins, dart_of, number_of, twin-twin, index_twin))
      ],
      undivided_segments a la (x + 1) cs was.1 u.1,
    )

    abbrev pub path_subdivisions : List Subdivision
    path_subdivisions = subdivisions_of p.next_crossing r.crossed

    straight : IsStraight m name path_subdivisions
    straight a la u =
        let d : Dart = dart_of p hp a in
        let was : Was d = dart_here p hp a la in
        ap (λ (c : Dart). num (lifted p q c)) (twinned p hp a la) ∙ ap num (s.uncrossed d was (undivided_segments a la p.next_crossing r.crossed h.rest.was u))
        ∙ index_twin q (lifted p q d) (lifted_there d was)

    -- ---- The path along its subdivision vertices

    along : (to : Dart) → Was to → num e ≡ num (lifted p q to) → (x : ℕ) (y : ℕ) (ds : List Dart) → IsRest x ds
        → AreAlong name y (subdivisions_of x ds) (index_of p to) (new_chords_of x y ds (num e))
    along to was at x y [] k = (refl, at ∙ sym (name_of to was))
    along to was at x y (d ∷ ds) k = (
      refl,
      refl,
      subst (λ (w : ℕ). AreAlong name w (subdivisions_of (x + 1) ds) (index_of p to) (new_chords_of (x + 1) (num (backward q x d)) ds (num e)))
          (sym (back_number x d (crossed_at x d ds k)))
          (along to was at (x + 1) (num (backward q x d)) ds (rest_of x d ds k)),
    )

    walks : (to c : Dart) → Was c → (x : ℕ) (ds : List Dart) → IsRest x ds → Crosses (system p) c ds to
        → Walks old (index_of p c) (subdivisions_of x ds) (index_of p to)
    walks to c was x [] k walk = same_face p hp c to was walk
    walks to c was x (d ∷ ds) k walk = (
      same_face p hp c d was walk.0,
      subst (λ (w : ℕ). Walks old w (subdivisions_of (x + 1) ds) (index_of p to)) (index_twin p d k.was.0)
          (walks to (dart_twin d) (twin_in p d k.was.0) (x + 1) ds (rest_of x d ds k) walk.1),
    )

    never : (c : Dart) → Was c → (x : ℕ) (ds : List Dart) → AllByRecursion (λ d. has_dart (darts p) d ≡ true) ds
        → AllByRecursion (λ y. SameFace (system p) c (dart_twin y) → ⊥) ds
        → AllByRecursion (λ j. SameCycle (face_next old) (index_of p c) (twin j.dart) → ⊥) (subdivisions_of x ds)
    never c was x [] here out = tt
    never c was x (d ∷ ds) here out = (
      λ w. out.0 (face_same p hp c (dart_twin d) was (twin_in p d here.0)
          (subst (λ (v : ℕ). SameCycle (face_next old) (index_of p c) v) (sym (index_twin p d here.0)) w)),
      never c was (x + 1) ds here.1 out.1,
    )

    meets_once : (c : Dart) → Was c → (x : ℕ) (ds : List Dart) → IsRest x ds → MeetsFacesOnce (system p) c ds
        → MeetsOnce old (index_of p c) (subdivisions_of x ds)
    meets_once c was x [] k once = tt
    meets_once c was x (d ∷ ds) k once = (
      never c was x (d ∷ ds) k.was once.0,
      subst (λ (w : ℕ). MeetsOnce old w (subdivisions_of (x + 1) ds)) (index_twin p d k.was.0)
          (meets_once (dart_twin d) (twin_in p d k.was.0) (x + 1) ds (rest_of x d ds k) once.1),
    )

    -- ---- Every dart has its place

    subdivision_at : (x y : ℕ) (d : Dart) (ds : List Dart) → IsIn (y, d) (enumerate_from x ds) → IsIn (subdivision_of y d) (subdivisions_of x ds)
    subdivision_at x y d [] i = elim i [ ]
    subdivision_at x y d (c ∷ cs) i = elim i [
      | inl same ↦ inl (ap (λ (w : ℕ × Dart). subdivision_of w.0 w.1) same)
      | inr j ↦ inr (subdivision_at (x + 1) y d cs j)
    ]

    placed : (a : ℕ) → a < n → IsPlaced m name path_subdivisions (path_chords z e) a
    placed a la =
        let d : Dart = dart_of q hq a in
        let d_in : Is d = dart_here q hq a la in
        let at : a ≡ num d = sym (number_of q hq a la) in
        elim (s.no_others d d_in) [
          | inl w ↦
              let (l, l_in, half) = chord_at p.next_crossing z e r.crossed h.rest d.seg (omega arith) w.1 in
              let same : d ≡ newcomer d.seg d.way = ap (λ (i : ℕ). (let c : Dart = record { edge = i; seg = d.seg; way = d.way } in c)) w.0 in
              inr (inr (l, l_in, half_or_twin d.seg d.way w.1 l half a (at ∙ ap num same)))
          | inr w ↦ elim w [
            | inl v ↦ inl (index_of p v.0, number_less p hp v.0 v.1, at ∙ ap num v.2 ∙ sym (name_of v.0 v.1))
            | inr v ↦
                let k : IsIn (subdivision_of v.0 v.1) path_subdivisions = subdivision_at p.next_crossing v.0 v.1 r.crossed v.2 in
                inr (inl (
                  subdivision_of v.0 v.1,
                  k,
                  elim v.3 [
                    | inl on ↦ inl (at ∙ ap num on)
                    | inr back ↦ inr (at ∙ ap num back ∙ sym (back_number v.0 v.1 (was_crossed v.0 v.1 v.2)))
                  ],
                ))
          ]
        ] where
          half_or_twin : (i : ℕ) (way : Way) → i ≤ length r.crossed → (l : NewChord) → l.half ≡ num (newcomer i Forward) → (a : ℕ) → a ≡ num (newcomer i way)
              → (a ≡ l.half) ⊎ (a ≡ twin l.half)
          half_or_twin i Forward hi l half a at = inl (at ∙ sym half)
          half_or_twin i Back hi l half a at = inr (at ∙ sym (twin_half i hi) ∙ ap twin (sym half))

    pub is_insertion_path : (from to : Dart) → Was from → Was to → num z ≡ num (lifted p q from) → num e ≡ num (lifted p q to)
        → Crosses (system p) from r.crossed to → MeetsFacesOnce (system p) from r.crossed
        → IsInsertionPath g n old m name (index_of p from) path_subdivisions (index_of p to) (path_chords z e)
    is_insertion_path from to from_was to_was z_is e_is walk once =
        let new_chords : AreNewChords g n (path_chords z e) = path_are_chords z e h in
        record {
          permutation = turn_permutes q hq.paths hq.crossings hq.rotations;
          named = named;
          subdivisions = are_subdivisions p.next_crossing r.crossed h.rest;
          straight = straight;
          new_chords = new_chords;
          along = subst (λ (w : ℕ). AreAlong name w path_subdivisions (index_of p to) (path_chords z e)) (z_is ∙ sym (name_of from from_was))
              (along to to_was e_is p.next_crossing (num z) r.crossed h.rest);
          from_there = number_less p hp from from_was;
          to_there = number_less p hp to to_was;
          walk = walks to from from_was p.next_crossing r.crossed h.rest walk;
          once = meets_once from from_was p.next_crossing r.crossed h.rest once;
          new = all_of (λ l. (d : ℕ) → d < m → IsApart n (name d) l.half) (path_chords z e) (λ l i d ld.
              let was : Was (dart_of p hp d) = dart_here p hp d ld in
              all_at (λ k. IsApart n (name d) k.half) l (path_chords z e)
              (off_path z e h (lifted p q (dart_of p hp d)) (lifted_there (dart_of p hp d) was) (lifted_other (dart_of p hp d) was)) i);
          strange = all_of (λ l. AllByRecursion (AreStrange n name l) path_subdivisions) (path_chords z e)
              (λ l i. strange_subdivisions l i (chord_there (path_chords z e) l new_chords i) p.next_crossing r.crossed h.rest);
          placed = placed;
        } where
          chord_there : (ls : List NewChord) (l : NewChord) → AreNewChords g n ls → IsIn l ls → l.half < n
          chord_there [] l k i = elim i [ ]
          chord_there (j ∷ js) l k i = elim i [
            | inl same ↦ subst (λ (w : NewChord). w.half < n) (sym same) k.0.there
            | inr later ↦ chord_there js l k.2 later
          ]

          strange_subdivisions : (l : NewChord) → IsIn l (path_chords z e) → l.half < n → (x : ℕ) (ds : List Dart) → IsRest x ds
              → AllByRecursion (AreStrange n name l) (subdivisions_of x ds)
          strange_subdivisions l i there x [] k = tt
          strange_subdivisions l i there x (d ∷ ds) k =
              let c : IsCrossed x d = crossed_at x d ds k in
              let on : IsApart n (num (onward q x d)) l.half = all_at (λ j. IsApart n (num (onward q x d)) j.half) l (path_chords z e)
              (off_path z e h (onward q x d) (s.crossed_there x d c.at).0 (onward_other x d c.was)) i in
              let back : IsApart n (num (backward q x d)) l.half = all_at (λ j. IsApart n (num (backward q x d)) j.half) l (path_chords z e)
              (off_path z e h (backward q x d) (s.crossed_there x d c.at).1 (backward_other x d c.was)) i in (
                record {
                  beyond = apart_back n l.half (num (onward q x d)) there on;
                  back = subst (λ (w : ℕ). IsApart n l.half w) (sym (back_number x d c)) (apart_back n l.half (num (backward q x d)) there back);
                },
                strange_subdivisions l i there (x + 1) ds (rest_of x d ds k),
              )
