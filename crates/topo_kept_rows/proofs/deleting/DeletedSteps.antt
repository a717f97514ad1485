-- An edge that is taken out of a slab segment by segment: what is known on the way.
use Rattle.std.proofs.Common.{◌≡◌, ◌≢◌, ℕ, suc, ◌+◌, ◌<◌, ◌≤◌, Bool, true, false, inl, inr, refl, sym, ◌∙◌, ap, arith}
use Rattle.std.specs.Prelude.{◌&&◌, nat_lt, Some}
use Rattle.std.proofs.lemmas.Bool.{cases_Bool, eq-eqb, ltb-true}
use Rattle.topo_core.specs.declared.darts.Dart.{Dart}
use Rattle.topo_core.specs.declared.darts.Way.{Way}
use Rattle.topo_core.specs.declared.darts.Way.TheVariants.{Forward, Back}
use Rattle.topo_core.specs.declared.rows.EdgeRow.{EdgeRow}
use Rattle.topo_core.specs.declared.rows.Rows.{Rows}
use Rattle.topo_core.specs.Changes.{without}
use Rattle.topo_core.specs.Cycles.{map_of}
use Rattle.topo_core.specs.Deletions.{HidesTurns}
use Rattle.topo_core.specs.Lawful.{HasGenusZero, IsWellFormed}
use Rattle.topo_core.specs.Picture.{darts, edge_row, index_of, system, turn_images}
use Rattle.topo_core.specs.Pictures.{back, forward}
use Rattle.topo_core.specs.Systems.{Connected, has_dart, turn}
use Rattle.topo_core.proofs.Interface.{turn_permutes, turn_stays}
use Rattle.topo_perm.specs.Live.{IsSlab}
use Rattle.topo_perm.specs.Renumbering.{RenumbersTurn}
use Rattle.topo_perm.specs.RenumberedEdits.{IsAlive, RenumbersSlab}
use Rattle.topo_perm.specs.Runs.{Turning, IsRun}
use Rattle.topo_perm.proofs.Interface.{IsSmoothable, left_after, opened_numbers, segment_left, smoothable, smooths_of, unchords_of}
use Rattle.topo_kept_rows.proofs.deleting.DeletedLawful.{good_p, hides}
use Rattle.topo_kept_rows.proofs.deleting.DeletedOpening.{back_alone, left_dart, left_turn, turns_on}
use Rattle.topo_kept_rows.proofs.deleting.DeletedMids.{across, carried_across, crossings, first_of, is_even, mid, mid_opened, path_mids}
use Rattle.topo_kept_rows.proofs.deleting.DeletedSlab.{half, midway, n, opened, opening, shut_slab}
use Rattle.topo_kept_rows.proofs.inserting.InsertedNumbers.{even_count, number_less}

module _ (rows : Rows) (good : IsWellFormed rows) (e : ℕ) (row : EdgeRow) (known : edge_row rows e ≡ Some row) (connected : Connected (system rows))
    (zero_genus : HasGenusZero rows) where
  abbrev num : Dart → ℕ
  num = index_of rows

  abbrev many : ℕ
  many = n rows good e row known connected zero_genus

  abbrev h : ℕ → ℕ
  h = half rows good e row known connected zero_genus

  abbrev t : ℕ → ℕ → ℕ
  t = opened rows good e row known connected zero_genus

  abbrev last : ℕ
  last = crossings rows good e row known

  abbrev middle_at : ℕ → ℕ
  middle_at = mid rows good e row known

  hidden : HidesTurns rows e (without rows e)
  hidden = hides rows good e row known

  -- what is not out yet is left
  left_at : (i k : ℕ) (way : Way) → i ≤ k → k ≤ last → left_after h i (num (record { edge = e; seg = k; way = way })) ≡ true
  left_at i k way lk inside = left_dart rows e row good known (without rows e) hidden i (omega arith) (record { edge = e; seg = k; way = way })
      (hidden.edge_there k way inside)
      (ap (λ (b : Bool). b && nat_lt k i) (eq-eqb e e refl) ∙ not_less) where
        not_less : nat_lt k i ≡ false
        not_less = grind (arith, cases_Bool, ltb-true)

  module _ (nu home : ℕ → ℕ) (limit : ℕ) (u : Turning) (r : RenumbersTurn nu home (map_of (turn_images rows)) u.turn many u.live limit)
      (slab : IsSlab u.live u.turn limit) where
    pub deletion_step_numbers : (i : ℕ) → i ≤ last + 1 → (w : Turning) → IsRun limit u (unchords_of (λ j. nu (num (forward e j))) i) w
        → RenumbersSlab nu home (left_after h i) (t i) many w.live w.turn limit
    deletion_step_numbers i li w run =
        opened_numbers (opening rows good e row known connected zero_genus) w
        (shut_slab rows good e row known connected zero_genus nu home limit u r slab) i li run

    module _ (i : ℕ) (w : Turning) (run : IsRun limit u (unchords_of (λ j. nu (num (forward e j))) i) w) where
      there : (j : ℕ) → j ≤ last → num (forward e j) < many
      there j lj = number_less rows good (forward e j) (hidden.edge_there j Forward lj)

      -- the next segment is there
      pub segment_alive : i ≤ last → IsAlive w.live limit (nu (num (forward e i)))
      segment_alive li = (deletion_step_numbers i (omega arith) w run).into.there (num (forward e i)) (record {
        within = there i li;
        alive = (segment_left t many h (last + 1) (opening rows good e row known connected zero_genus) i (omega arith)).0;
      })

      -- where the dart back turns, on another edge
      abbrev pub over_dart : i < last → Dart
      over_dart li = turn (system rows) (back e i)

      pub over_off : (li : i < last) → (has_dart (darts rows) (over_dart li) ≡ true) × ((over_dart li).edge ≢ e)
      over_off li = (
        turn_stays rows good.paths good.crossings good.rotations (back e i) (hidden.edge_there i Back (omega arith)),
        elim (turns_on rows e row good known (without rows e) hidden i Back (omega arith)) [
          | inl off ↦ λ w. off.other (ap (λ (d : Dart). d.edge) (sym off.leads) ∙ w)
          | inr alone ↦ absurd (let end : i ≡ last = back_alone rows e row good known (without rows e) hidden i (omega arith) alone in omega arith)
        ],
      )

      over_number : (li : i < last) → t i (num (back e i)) ≡ num (over_dart li)
      over_number li = left_turn rows e row good known (without rows e) hidden i i Back (omega arith) (omega arith)

      back_left : i < last → IsAlive (left_after h i) many (num (back e i))
      back_left li = grind (arith, number_less, hidden, left_at)

      forward_left : i < last → IsAlive (left_after h i) many (num (forward e (i + 1)))
      forward_left li = grind (arith, there, left_at)

      pub back_alive : i < last → IsAlive w.live limit (nu (num (back e i)))
      back_alive li = (deletion_step_numbers i (omega arith) w run).into.there (num (back e i)) (back_left li)

      pub forward_alive : i < last → IsAlive w.live limit (nu (num (forward e (i + 1))))
      forward_alive li = (deletion_step_numbers i (omega arith) w run).into.there (num (forward e (i + 1))) (forward_left li)

      pub over_turn : (li : i < last) → w.turn (nu (num (back e i))) ≡ nu (num (over_dart li))
      over_turn li = (deletion_step_numbers i (omega arith) w run).turns (num (back e i)) (back_left li) ∙ ap nu (over_number li)

      -- so the midpoint behind the segment is found
      pub mid_found : (li : i < last) → (leads : ℕ → Bool) → leads (nu (num (over_dart li))) ≡ is_even (num (over_dart li))
          → across leads w.turn (nu (num (back e i))) (nu (num (forward e (i + 1)))) ≡ nu (middle_at i)
      mid_found li leads same =
          let s = deletion_step_numbers i (omega arith) w run in
          carried_across is_even leads nu (t i) w.turn (num (back e i)) (num (forward e (i + 1))) (s.turns (num (back e i)) (back_left li))
          (s.turns (num (forward e (i + 1))) (forward_left li))
          (ap (λ k. leads (nu k)) (over_number li) ∙ same ∙ sym (ap is_even (over_number li)))
          ∙ ap nu (mid_opened rows good e row known i i (omega arith) li)

    -- the point of the next midpoint can be smoothed
    pub smoothable_along : (w v : Turning) → IsRun limit u (unchords_of (λ j. nu (num (forward e j))) (last + 1)) w → (i : ℕ) → i < last
        → IsRun limit w (smooths_of nu (first_of middle_at i)) v → IsSmoothable v limit (nu (middle_at i))
    smoothable_along w v run i li smooths =
        let p : IsWellFormed (without rows e) = good_p rows good e row known in
        smoothable
        (midway rows good e row known connected zero_genus) (turn_permutes (without rows e) p.paths p.crossings p.rotations)
        (even_count (without rows e) p) w (deletion_step_numbers (last + 1) (omega arith) w run) (middle_at i)
        (first_of middle_at i) v (path_mids rows good e row known connected zero_genus (suc i) (omega (arith, li))) smooths
