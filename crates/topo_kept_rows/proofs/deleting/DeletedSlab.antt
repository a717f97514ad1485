-- A deletion in a slab that renumbers the rows: with the segments of the edge taken out and its crossings smoothed, it renumbers the rows without the edge.
use Rattle.std.proofs.Common.{◌≡◌, ℕ, Bool, true, List, length, refl, sym, ◌∙◌, ap, arith}
use Rattle.std.specs.Prelude.{Some}
use Rattle.std.proofs.lemmas.Bool.{false≢true}
use Rattle.topo_core.specs.declared.rows.EdgeRow.{EdgeRow}
use Rattle.topo_core.specs.declared.rows.Rows.{Rows}
use Rattle.topo_core.specs.Cycles.{map_of}
use Rattle.topo_core.specs.Systems.{Connected}
use Rattle.topo_core.specs.Picture.{edge_row, index_of, system, turn_images}
use Rattle.topo_core.specs.Lawful.{HasGenusZero, IsWellFormed}
use Rattle.topo_core.specs.Changes.{without}
use Rattle.topo_core.specs.Insertions.{lifted}
use Rattle.topo_core.specs.Items.{IsIn}
use Rattle.topo_core.proofs.Interface.{turn_permutes}
use Rattle.topo_perm.specs.Live.{IsSlab}
use Rattle.topo_perm.specs.Renumbering.{RenumbersTurn}
use Rattle.topo_perm.specs.RenumberedEdits.{IsAlive, RenumbersSlab}
use Rattle.topo_perm.specs.Runs.{Turning, IsRun}
use Rattle.topo_perm.proofs.Interface.{AreMids, AreMidway, IsOpening, IsSmoothedUnder, left_after, opened_numbers, slab_of_turn, smoothed_numbers, smooths_of, unchords_of}
use Rattle.topo_kept_rows.proofs.deleting.DeletedSmoothing.{IsAheadOfCrossing, midway_here, place}
use Rattle.topo_kept_rows.proofs.deleting.DeletedLawful.{genus, good_p, hides, there}
use Rattle.topo_kept_rows.proofs.deleting.DeletedOpening.{count, first_half, is_opening, opened_by, permutes, shut, slab_all}
use Rattle.topo_kept_rows.proofs.deleting.DeletedSegments.{smoothed_dart}
use Rattle.topo_kept_rows.proofs.inserting.InsertedNumbers.{dart_of, even_count}

module _ (rows : Rows) (good : IsWellFormed rows) (e : ℕ) (row : EdgeRow) (known : edge_row rows e ≡ Some row) (connected : Connected (system rows))
    (zero_genus : HasGenusZero rows) where
  abbrev pub after : Rows
  after = without rows e

  -- the darts of all and of what is left
  abbrev pub n : ℕ
  n = length (turn_images rows)

  abbrev pub m : ℕ
  m = length (turn_images after)

  -- the segments of the edge, and the turn with some of them out
  abbrev pub half : ℕ → ℕ
  half = first_half rows e row good known after (hides rows good e row known)

  abbrev pub segments : ℕ
  segments = count rows e row good known after (hides rows good e row known)

  abbrev pub opened : ℕ → ℕ → ℕ
  opened = opened_by rows e row good known after (hides rows good e row known)

  -- what is left when all are out
  abbrev pub left : ℕ → Bool
  left = left_after half segments

  abbrev pub name : ℕ → ℕ
  name a = index_of rows (lifted after rows (dart_of after (good_p rows good e row known) a))

  abbrev pub onto : ℕ → ℕ
  onto b = index_of after (smoothed_dart rows after (dart_of rows good b))

  -- the darts ahead of the edge's crossings
  abbrev pub Middle : ℕ → Type 0
  Middle = IsAheadOfCrossing rows e after good (good_p rows good e row known) (there rows good e row known) (hides rows good e row known)

  abbrev pub rank : ℕ → ℕ
  rank = place rows e after good (good_p rows good e row known) (there rows good e row known) (hides rows good e row known)

  pub opening : IsOpening opened n half segments
  opening = is_opening rows e row good known after (hides rows good e row known) connected (genus rows good e row known connected zero_genus)

  pub midway : AreMidway Middle rank left (opened segments) n (map_of (turn_images after)) m name onto
  midway = midway_here rows e after good (good_p rows good e row known) (there rows good e row known) (hides rows good e row known)
      (slab_all rows e row good known after (hides rows good e row known))

  module _ (nu back : ℕ → ℕ) (limit : ℕ) (t : Turning) (r : RenumbersTurn nu back (map_of (turn_images rows)) t.turn n t.live limit)
      (slab : IsSlab t.live t.turn limit) where
    whole : RenumbersSlab nu back (λ _. true) (map_of (turn_images rows)) n t.live t.turn limit
    whole = slab_of_turn nu back (map_of (turn_images rows)) t.turn n t.live limit r slab

    pub shut_slab : RenumbersSlab nu back (left_after half 0) (opened 0) n t.live t.turn limit
    shut_slab = record {
      before = record {
        permutation = permutes rows e row good known after (hides rows good e row known) 0;
        even = even_count rows good;
        twins = λ a la. refl;
        free = λ a la w. absurd (false≢true (sym w));
      };
      after = slab;
      into = grind (arith, there, whole);
      from = grind (arith, there, whole);
      turns = λ a at. whole.turns a (record { within = at.within; alive = refl })
          ∙ ap nu (sym (shut rows e row good known after (hides rows good e row known) a at.within));
    }

    -- with the segments of the edge out and each crossing smoothed, the slab renumbers what is left
    pub deleted_slab : (w v : Turning) (xs : List ℕ) → IsRun limit t (unchords_of (λ j. nu (half j)) segments) w → AreMids Middle left n xs
        → ((x : ℕ) → IsAlive left n x → Middle x → IsIn x xs) → IsRun limit w (smooths_of nu xs) v
        → IsSmoothedUnder (map_of (turn_images after)) m name nu v limit
    deleted_slab w v xs unchords mids all smooths =
        let opened_slab : RenumbersSlab nu back left (opened segments) n w.live w.turn limit =
        opened_numbers opening w shut_slab segments (omega arith) unchords in
        let p : IsWellFormed after = good_p rows good e row known in
        smoothed_numbers midway (turn_permutes after p.paths p.crossings p.rotations) (even_count after p) w opened_slab xs v mids all smooths
