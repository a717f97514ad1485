-- One segment more of the new edge is drawn.
use Rattle.std.proofs.Common.{◌≡◌, ◌<◌, ◌≤◌, ◌+◌, ap, arith, drop, get_or, length, length-set}
use Rattle.std.proofs.Common.{List, [], ◌∷◌, inl, inr, refl, set, subst, suc, sym, true, ℕ, ◌∙◌}
use Rattle.std.specs.Prelude.{slice_index_or}
use Rattle.std.specs.List.{All, AllByRecursion}
use Rattle.std.proofs.Math.Seq.{drop-cons}
use Rattle.std.proofs.lemmas.Bool.{cases_eq, cond-false, cond-true, eq-eqb, ne_eqb}
use Rattle.std.proofs.lemmas.List.{drop-set, drop_all}
use Rattle.std.proofs.lemmas.List.Elements.{All-from_recursion}
use Rattle.topo_core.specs.declared.darts.Dart.{Dart}
use Rattle.topo_core.specs.Darts.{dart_twin}
use Rattle.topo_core.specs.Edits.{IsChord}
use Rattle.topo_core.specs.Lawful.{IsWellFormed}
use Rattle.topo_core.specs.Picture.{darts, index_of}
use Rattle.topo_core.specs.Rotations.{twin}
use Rattle.topo_core.specs.Systems.{has_dart}
use Rattle.topo_core.proofs.Interface.{index_apart, index_twin, twin_in}
use Rattle.topo_perm.proofs.Interface.{AreAlong, subdivided_number}
use Rattle.topo_map.specs.Rotation.{AddsLabel, Grows, IsEmbedding, Rotation, edge_of, half_limit, is_live, turn, turning_of}
use Rattle.topo_map.proofs.Interface.{chord_step}
use Rattle.topo_embedded.specs.declared.padding.Crossed.{Crossed}
use Rattle.topo_embedded.specs.Crossing.{AreChordsAdded, AreChordsAddedFrom, AreSplit, HaveLabel, IsMarked, subdivisions_of, subdivided_half}
use Rattle.topo_embedded.specs.Halves.{RowsWithPaths, ShowsRows, half_at, half_in}
use Rattle.topo_embedded.proofs.halves.Apart.{halves_apart, twin_in_path}
use Rattle.topo_embedded.proofs.inserting.InsertedLabels.{label_kept, label_new, labels_kept}
use Rattle.topo_embedded.proofs.halves.Numbers.{half_alive, half_of_number}
use Rattle.topo_embedded.proofs.inserting.Splits.{alive_still}

-- ---- The line

module _ (before now now' : Rotation) (cs : List Crossed) (end edge : ℕ) (line : List ℕ) (x : ℕ) where
  pub chords_more : (n : ℕ) {to : ℕ} (c : Crossed) → n < length cs → c ≡ get_or cs n c → is_live before (twin c.near) ≡ true → is_live before c.beyond ≡ true
      → AreChordsAddedFrom before now cs (n + 1) to end edge line → IsChord (turn now) (turn now') half_limit (twin c.near) to x
      → Grows now now' x → AddsLabel (is_live now) (edge_of now) (edge_of now') x edge
      → AreChordsAddedFrom before now' cs n c.beyond end edge (set line (n + 1) x)
  chords_more n {to} c less at near_alive beyond_alive from edit grows adds =
      let next : n + 1 ≡ suc n = omega arith in
      let dropped : drop n cs ≡ c ∷ drop (n + 1) cs = drop-cons cs n c less ∙ ap (λ (b : Crossed). b ∷ drop (suc n) cs) (sym at)
      ∙ ap (λ (k : ℕ). c ∷ drop k cs) (sym next) in
      let inside : n + 1 < length line = omega (arith, from.many, less) in
      let written : drop (n + 1) (set line (n + 1) x) ≡ x ∷ drop (n + 1 + 1) line = drop-set line (n + 1) x inside in
      record {
        within = omega (arith, less);
        many = length-set line (n + 1) x ∙ from.many;
        new_chords = record { from = twin c.near; to = to; half = x } ∷ from.new_chords;
        along = λ rows name e z y is. subst (λ (rest : List Crossed). AreAlong name z (subdivisions_of rows rest) e
            (record { from = z; to = c.beyond; half = y } ∷ record { from = twin c.near; to = to; half = x } ∷ from.new_chords)) (sym dropped)
            (refl, refl, from.along rows name e (twin c.near) x is);
        run = (turning_of now, from.run, chord_step now now' (twin c.near) to x from.whole (from.stays (twin c.near) near_alive) from.to_alive edit grows);
        whole = grows.embedding;
        halves = written ∙ ap (λ (hs : List ℕ). x ∷ hs) from.halves;
        labels = subst (HaveLabel now' edge) (sym written) (
          label_new now now' x edge grows adds,
          labels_kept now now' x edge grows adds edge (drop (n + 1 + 1) line) from.labels,
        );
        keeps = λ id h l. label_kept now now' x edge grows adds id h (from.keeps id h l);
        stays = λ h l. grows.stays h (from.stays h l);
        to_alive = grows.stays c.beyond (from.stays c.beyond beyond_alive);
        room = (let fewer = grows.room_less in let so_far = from.room in omega (arith, fewer, so_far));
      }

  pub chords_last : (n to start : ℕ) → n ≡ 0 → is_live before start ≡ true → AreChordsAddedFrom before now cs n to end edge line
      → IsChord (turn now) (turn now') half_limit start to x → Grows now now' x → AddsLabel (is_live now) (edge_of now) (edge_of now') x edge
      → AreChordsAdded before now' cs start end edge (set line 0 x)
  chords_last n to start none start_alive from edit grows adds =
      let inside : 0 < length line = omega (arith, from.many) in
      let written : set line 0 x ≡ x ∷ drop 1 line = drop-set line 0 x inside in
      let first : n + 1 ≡ 1 = omega (arith, none) in
      record {
        new_chords = record { from = start; to = to; half = x } ∷ from.new_chords;
        along = λ rows name e is. subst (λ (k : ℕ). AreAlong name start (subdivisions_of rows (drop k cs)) e
            (record { from = start; to = to; half = x } ∷ from.new_chords)) none (from.along rows name e start x is);
        run = (turning_of now, from.run, chord_step now now' start to x from.whole (from.stays start start_alive) from.to_alive edit grows);
        halves = written ∙ ap (λ (hs : List ℕ). x ∷ hs) (ap (λ (k : ℕ). drop k line) (sym first) ∙ from.halves);
        labels = subst (HaveLabel now' edge) (sym written) (
          label_new now now' x edge grows adds,
          labels_kept now now' x edge grows adds edge (drop 1 line) (subst (λ (k : ℕ). HaveLabel now edge (drop k line)) first from.labels),
        );
        keeps = λ id h l. label_kept now now' x edge grows adds id h (from.keeps id h l);
      }

pub chords_none : (before : Rotation) (cs : List Crossed) (end edge : ℕ) (line : List ℕ) → IsEmbedding before → is_live before end ≡ true
    → length cs + 1 ≤ before.room → length line ≡ length cs + 1 → AreChordsAddedFrom before before cs (length cs) end end edge line
chords_none before cs end edge line whole alive room many = grind (arith, drop_all)

-- ---- The corners

pub subdivided_alive : (now : Rotation) (cs : List Crossed) (h : ℕ) → AllByRecursion (λ c. (is_live now c.beyond ≡ true) × (is_live now (twin c.beyond) ≡ true))
    cs → is_live now h ≡ true → is_live now (subdivided_half cs h) ≡ true
subdivided_alive now [] h all alive = alive
subdivided_alive now (c ∷ cs) h all alive = grind (arith, cases_eq, cond-true, eq-eqb, cond-false, ne_eqb, subdivided_alive now cs h all.1 alive)

module _ (p : RowsWithPaths) (good : IsWellFormed p.rows) (r : Rotation) (s : ShowsRows p r) where
  -- the half of a dart once the segments are split
  pub subdivided_is : (d : Dart) → has_dart (darts p.rows) d ≡ true → (cs : List Crossed) → AllByRecursion (IsMarked p) cs
      → subdivided_half cs (half_in p d) ≡ subdivided_number (half_at p) (subdivisions_of p.rows cs) (index_of p.rows d)
  subdivided_is d h [] all = sym (half_of_number p good d h)
  subdivided_is d h (c ∷ cs) all =
      let back : Dart = dart_twin c.dart in
      let there : has_dart (darts p.rows) back ≡ true = twin_in p.rows c.dart all.0.there in
      let near : twin c.near ≡ half_in p back = ap twin all.0.near ∙ twin_in_path p c.dart in
      let number : index_of p.rows back ≡ twin (index_of p.rows c.dart) = index_twin p.rows c.dart all.0.there in
      elim (cases_eq (half_in p d) (twin c.near)) [
        | inl e ↦
            let same : d ≡ back = halves_apart p good r s d back h there (e ∙ near) in
            cond-true _ _ _ (eq-eqb (half_in p d) (twin c.near) e)
            ∙ sym (cond-true _ _ _ (eq-eqb (index_of p.rows d) (twin (index_of p.rows c.dart)) (ap (index_of p.rows) same ∙ number)))
        | inr ne ↦
            cond-false _ _ _ (ne_eqb (half_in p d) (twin c.near) ne) ∙ subdivided_is d h cs all.1
            ∙ sym (cond-false _ _ _ (ne_eqb (index_of p.rows d) (twin (index_of p.rows c.dart))
            (λ w. ne (ap (half_in p) (index_apart p.rows good.paths d back h there (w ∙ sym number)) ∙ sym near))))
      ]

  -- where the next segments start and end there are halves
  pub route_alive : (now : Rotation) (cs : List Crossed) → IsEmbedding r → AreSplit p r now cs → All (IsMarked p) cs
      → All (λ c. (is_live now (twin c.near) ≡ true) × (is_live now c.beyond ≡ true)) cs
  route_alive now cs whole sp all k d less =
      let c : Crossed = slice_index_or cs k d in
      let is : IsMarked p c = all k d less in
      let back : Dart = dart_twin c.dart in (
        alive_still r now (subdivisions_of p.rows cs) (twin c.near) whole sp.run (half_alive p good r s (twin c.near)
            (record { dart = back; there = twin_in p.rows c.dart is.there; is = sym (ap twin is.near ∙ twin_in_path p c.dart) })),
        (All-from_recursion (λ b. (is_live now b.beyond ≡ true) × (is_live now (twin b.beyond) ≡ true)) cs sp.alive k d less).0,
      )
