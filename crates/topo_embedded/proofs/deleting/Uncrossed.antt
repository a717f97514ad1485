-- Rows with their embedding after an edge is taken out.
use Rattle.std.proofs.Common.{◌≡◌, ◌+◌, ◌<◌, ◌≤◌, ap, arith, Bool, false, get_or, length, List, refl, subst, sym, true, ℕ, ◌∙◌}
use Rattle.std.specs.Prelude.{◌==◌, is_some, slice_index_or}
use Rattle.std.specs.List.{position_or_len}
use Rattle.topo_core.specs.declared.darts.Way.TheVariants.{Forward}
use Rattle.topo_core.specs.declared.rows.Rows.{Rows}
use Rattle.topo_core.specs.Changes.{without}
use Rattle.topo_core.specs.Insertions.{lifted}
use Rattle.topo_core.specs.Items.{has_id, IsIn, occurrences}
use Rattle.topo_core.specs.Lawful.{IsWellFormed}
use Rattle.topo_core.specs.Picture.{ahead, darts, edge_at, edge_row, place_on, segment_count}
use Rattle.topo_core.specs.Pictures.{forward}
use Rattle.topo_core.specs.Systems.{has_dart}
use Rattle.topo_core.proofs.Interface.{LeftEdge, OtherEdge, ahead_there, at_its_place, crossing_of, dart_of_segment, edge_at_row, edge_once, first_part, item_in, item_place, left_edge, lifted_forward}
use Rattle.topo_core.proofs.Interface.{other_edge, place_of, same_tests, segment_of_dart}
use Rattle.topo_map.specs.Rotation.{Rotation}
use Rattle.topo_embedded.specs.Deleting.{ArePathsLeft, AreAheads, IsAhead, spared}
use Rattle.topo_embedded.specs.Halves.{RowsWithPaths, ShowsRows, half_in, path_of}
use Rattle.topo_embedded.proofs.halves.Apart.{halves_apart}
use Rattle.topo_embedded.proofs.halves.LeftHalves.{IsUncrossed, uncrossed_halves, uncrossed_length}
use Rattle.topo_embedded.proofs.halves.Numbers.{StandsAt, stands_at}

pub not_true : (b : Bool) → (b ≡ true → ⊥) → b ≡ false
not_true true wrong = absurd (wrong refl)
not_true false wrong = refl

module _ (p : RowsWithPaths) (good : IsWellFormed p.rows) (r : Rotation) (s : ShowsRows p r) (e : ℕ) (there : is_some (edge_row p.rows e) ≡ true)
    (goes : ℕ → Bool) (are : AreAheads p e goes) where
  abbrev after : Rows
  after = without p.rows e

  abbrev gone : List ℕ
  gone = (edge_at p.rows e).crossings

  -- on the path of an edge that is left
  module _ (c : ℕ) (left : is_some (edge_row after c) ≡ true) where
    abbrev path : List ℕ
    path = (edge_at p.rows c).crossings

    was : LeftEdge p.rows e good there c
    was = left_edge p.rows e good there c left

    once : (y : ℕ) → IsIn y path → occurrences y path ≤ 1
    once = edge_once p.rows good c was.before

    on : (seg : ℕ) → seg ≤ length path → has_dart (darts p.rows) (forward c seg) ≡ true
    on seg l = dart_of_segment p.rows good c seg Forward was.before l

    many : length (path_of p c) ≡ length path + 1
    many =
        let at : StandsAt p.rows (forward c 0) = stands_at p.rows good (forward c 0) (on 0 (omega arith)) in
        s.along (position_or_len (λ row. row.id == c) p.rows.edges) at.row at.at ∙ sym (ap segment_count (edge_at_row p.rows c at.row at.found))

    -- a half that goes is not the first, and lies behind a crossing of e
    goes_behind : (seg : ℕ) → seg ≤ length path → goes (half_in p (forward c seg)) ≡ true → (i : ℕ) × (seg ≡ i + 1) × (i < length path)
        × (has_id gone (get_or path i 0) ≡ true)
    goes_behind seg l test =
        let a : IsAhead p e (half_in p (forward c seg)) = are.others (half_in p (forward c seg)) test in
        let o : OtherEdge p.rows e good there a.other a.crossing.id = other_edge p.rows e good there a.other a.crossing a.is in
        let same : forward c seg ≡ ahead p.rows a.other a.crossing.id = halves_apart p good r s (forward c seg) (ahead p.rows a.other a.crossing.id) (on seg l)
        (ahead_there p.rows e good there a.other a.crossing a.is) a.half in
        grind (arith, at_its_place, place_of)

    pub uncrossed : IsUncrossed goes gone path (path_of p c)
    uncrossed = record {
      as_many = many;
      first = not_true (goes (half_in p (forward c 0)))
          (λ test. (let (i, place, less, test) = goes_behind 0 (omega arith) test in absurd (omega (arith, place))));
      each = λ i li. same_tests (goes (half_in p (forward c (i + 1)))) (has_id gone (get_or path i 0))
          (λ test. (let (j, place, less, is_gone) = goes_behind (i + 1) (omega (arith, li)) test in let same : j ≡ i = omega (arith, place) in
          ap (λ k. has_id gone (get_or path k 0)) (sym same) ∙ is_gone))
          (λ is_gone.
          let n : ℕ = get_or path i 0 in
          let x = crossing_of p.rows e good there c n was.apart was.before (item_in path i li) is_gone in
          let place : place_on p.rows c x.0.id ≡ i = ap (place_on p.rows c) x.1 ∙ item_place path i once li in
          ap (λ k. goes (half_in p (forward c (k + 1)))) (sym place) ∙ are.each c x.0 x.2);
    }

    pub left_many : length (spared goes (path_of p c)) ≡ length (edge_at after c).crossings + 1
    left_many = uncrossed_length goes gone path (path_of p c) uncrossed ∙ ap (λ (xs : List ℕ). length xs + 1) (sym was.path)

    pub left_half : (seg : ℕ) → seg ≤ length (edge_at after c).crossings
        → slice_index_or (spared goes (path_of p c)) seg 0 ≡ half_in p (lifted after p.rows (forward c seg))
    left_half seg l =
        uncrossed_halves goes gone path (path_of p c) uncrossed once seg (subst (λ (xs : List ℕ). seg ≤ length xs) was.path l)
        ∙ ap (λ (xs : List ℕ). half_in p (forward c (first_part xs path seg))) (sym was.path) ∙ ap (half_in p) (sym (lifted_forward after p.rows c seg))

    -- ---- With the paths that are left

    module _ (paths : List (List ℕ)) (lists : ArePathsLeft p e goes paths) where
      abbrev q : RowsWithPaths
      q = record { rows = after; paths = paths }

      pub half_after : (good_after : IsWellFormed after) (seg : ℕ) → has_dart (darts after) (forward c seg) ≡ true
          → half_in q (forward c seg) ≡ half_in p (lifted after p.rows (forward c seg))
      half_after good_after seg h =
          let at : StandsAt after (forward c seg) = stands_at after good_after (forward c seg) h in
          let here : path_of q c ≡ spared goes (path_of p c) = lists.each (position_or_len (λ row. row.id == c) after.edges) at.row at.at
          ∙ ap (λ f. spared goes (path_of p f)) at.id in
          ap (λ (xs : List ℕ). slice_index_or xs seg 0) here ∙ left_half seg (segment_of_dart after good_after (forward c seg) h)
