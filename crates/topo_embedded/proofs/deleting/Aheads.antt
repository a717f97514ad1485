-- The halves that go with an edge, and what its embedding shows then.
use Rattle.std.proofs.Common.{◌≡◌, ◌+◌, ◌<◌, ap, arith, get_or, inl, inr, length, List, refl, subst, sym, suc, true, zero, ℕ, ◌∙◌}
use Rattle.std.specs.Prelude.{Some, is_some}
use Rattle.std.proofs.lemmas.Option.{get_or_from_slice_get, slice_get-get_or}
use Rattle.topo_core.specs.declared.darts.Dart.{Dart}
use Rattle.topo_core.specs.declared.rows.EdgeRow.{EdgeRow}
use Rattle.topo_core.specs.Changes.{without}
use Rattle.topo_core.specs.Deletions.{HidesTurns}
use Rattle.topo_core.specs.Items.{has_id, IsIn}
use Rattle.topo_core.specs.Lawful.{HasGenusZero, IsWellFormed}
use Rattle.topo_core.specs.Picture.{ahead, darts, edge_row, index_of, system}
use Rattle.topo_core.specs.Pictures.{forward}
use Rattle.topo_core.specs.Systems.{Connected, has_dart}
use Rattle.topo_core.proofs.Interface.{has_id_in, in_has_id, item_at}
use Rattle.topo_perm.specs.RenumberedEdits.{IsAlive}
use Rattle.topo_perm.specs.Runs.{IsRun, Turning}
use Rattle.topo_perm.proofs.Interface.{smooths_of, unchords_of}
use Rattle.topo_map.specs.Rotation.{IsEmbedding, KeepsLabels, Rotation, edge_of, half_limit, is_live, turning_of}
use Rattle.topo_kept_rows.proofs.Interface.{crossings, deleted_along, first_of, hides, in_place, left, mid, mid_is, n, number_less, off_left, path_mids_all, segments}
use Rattle.topo_embedded.specs.Deleting.{ArePathsLeft, AreAheads}
use Rattle.topo_embedded.specs.Halves.{RowsWithPaths, ShowsRows, half_at, half_in}
use Rattle.topo_embedded.proofs.halves.Numbers.{half_of_number}
use Rattle.topo_embedded.proofs.deleting.Without.{without_shows}

first_place : (h : ℕ → ℕ) (n a : ℕ) → IsIn a (first_of h n) → (i : ℕ) × (i < n) × (a ≡ h i)
first_place h zero a inside = absurd inside
first_place h (suc n) a (inl e) = (n, omega arith, e)
first_place h (suc n) a (inr later) = let (i, less, is) = first_place h n a later in (i, omega (arith, less), is)

module _ (p : RowsWithPaths) (good : IsWellFormed p.rows) (r : Rotation) (s : ShowsRows p r) (e : ℕ) (row : EdgeRow) (known : edge_row p.rows e ≡ Some row)
    (connected : Connected (system p.rows)) (zero_genus : HasGenusZero p.rows) where
  abbrev nu : ℕ → ℕ
  nu = half_at p

  abbrev last : ℕ
  last = crossings p.rows good e row known

  abbrev middle : ℕ → ℕ
  middle = mid p.rows good e row known

  -- the halves of the midpoints along the path
  pub record AreMidHalves (hs : List ℕ) : Type 0 where
    pub as_many : length hs ≡ last
    pub each : (i : ℕ) → i < last → get_or hs i 0 ≡ nu (middle i)

  module _ (hs : List ℕ) (are : AreMidHalves hs) where
    hidden : HidesTurns p.rows e (without p.rows e)
    hidden = hides p.rows good e row known

    pub aheads : AreAheads p e (has_id hs)
    aheads = record {
      each = λ c x is.
          let d : Dart = ahead p.rows c x.id in
          let here : has_dart (darts p.rows) d ≡ true = (hidden.crossed_there c x is).0 in
          let alive : IsAlive (left p.rows good e row known connected zero_genus) (n p.rows good e row known connected zero_genus)
          (index_of p.rows d) = record {
            within = number_less p.rows good d here;
            alive = off_left p.rows e row good known (without p.rows e) hidden d here (hidden.other_edge c x is).0
                (segments p.rows good e row known connected zero_genus) (omega arith);
          } in
          let (i, less, same) =
          first_place middle last (index_of p.rows d) (path_mids_all p.rows good e row known connected zero_genus (index_of p.rows d) alive (c, x, is, refl)) in
          let half : get_or hs i 0 ≡ half_in p d = are.each i less ∙ ap nu (sym same) ∙ half_of_number p good d here in
          has_id_in (half_in p d) hs
          (subst (λ (k : ℕ). IsIn k hs) half (item_at (get_or hs i 0) hs i (slice_get-get_or hs i 0 (omega (arith, are.as_many, less)))));
      others = λ h test.
          let (i, less, got) = in_place h hs (in_has_id h hs test) in
          let li : i < last = omega (arith, less, are.as_many) in
          let (c, x, is, at) = (mid_is p.rows good e row known connected zero_genus i li).1 in
          let here : has_dart (darts p.rows) (ahead p.rows c x.id) ≡ true = (hidden.crossed_there c x is).0 in
          record {
            other = c;
            crossing = x;
            is = is;
            half = sym (get_or_from_slice_get hs i h 0 got) ∙ are.each i li ∙ ap nu at ∙ half_of_number p good (ahead p.rows c x.id) here;
          };
    }

    -- the segments of the edge taken out, the midpoints smoothed, and the paths without their halves
    pub deleted_shows : IsEmbedding r → (w : Turning) (r' : Rotation) → IsRun half_limit (turning_of r)
        (unchords_of (λ j. nu (index_of p.rows (forward e j))) (last + 1)) w → IsRun half_limit w (smooths_of nu (first_of middle last)) (turning_of r')
        → KeepsLabels (is_live r') (edge_of r) (edge_of r') → (paths : List (List ℕ)) → ArePathsLeft p e (has_id hs) paths
        → ShowsRows (record { rows = without p.rows e; paths = paths }) r'
    deleted_shows whole w r' unchords smooths keeps paths lists =
        without_shows p good r s e (ap is_some known) (has_id hs) aheads paths lists r'
        (deleted_along p.rows good e row known connected zero_genus nu s.back half_limit (turning_of r) w (turning_of r')
        s.renumbers whole.slab unchords smooths) keeps
