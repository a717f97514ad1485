-- The halves along an edge once the crossed ones are split: at the places where the darts of its segments stand then.
use Rattle.std.proofs.Common.{◌≡◌, ◌<◌, ◌+◌, ◌⊎◌, ap, arith, drop, inl, inr, length, List, [], ◌∷◌, ◌++◌, suc, sym, take, true, zero, ℕ, ◌∙◌}
use Rattle.std.specs.Prelude.{◌==◌, slice_index_or, Some}
use Rattle.std.proofs.Math.Seq.{drop-cons}
use Rattle.std.proofs.lemmas.Bool.{cond-false, cond-true, eq-eqb, ne_eqb}
use Rattle.std.proofs.lemmas.List.{get_or-append-add, get_or_append_left, length-append, take-append-drop, take_all, take_more}
use Rattle.topo_core.specs.declared.darts.Dart.{Dart}
use Rattle.topo_core.specs.declared.darts.Way.{Way}
use Rattle.topo_core.specs.declared.darts.Way.TheVariants.{Forward, Back}
use Rattle.topo_core.specs.declared.rows.EdgeRow.{EdgeRow}
use Rattle.topo_core.specs.declared.rows.Rows.{Rows}
use Rattle.topo_core.specs.declared.routes.Route.{Route}
use Rattle.topo_core.specs.Changes.{new_on, shown}
use Rattle.topo_core.specs.Insertions.{CrossesOnce, backward, lifted, onward}
use Rattle.topo_core.specs.Lawful.{IsWellFormed}
use Rattle.topo_core.specs.Picture.{darts, edge_at, edge_row, index_of, place_on, segment_count}
use Rattle.topo_core.specs.Pictures.{back, forward}
use Rattle.topo_core.specs.Rotations.{twin}
use Rattle.topo_core.specs.Systems.{has_dart}
use Rattle.topo_core.proofs.Interface.{SegmentParts, edge_at_row, first_part, last_part, lifted_back, lifted_forward, place_of, segment_parts}
use Rattle.topo_perm.proofs.Interface.{Subdivision, subdivided_number, twin-twin}
use Rattle.topo_map.specs.Rotation.{Rotation}
use Rattle.topo_embedded.specs.Crossing.{AreCrossedAt}
use Rattle.topo_embedded.specs.Halves.{RowsWithPaths, ShowsRows, by_way, half_at, path_of}
use Rattle.topo_embedded.specs.Inserting.{put_halves}
use Rattle.topo_rows.proofs.Interface.{dart_there}
use Rattle.topo_embedded.proofs.halves.Numbers.{found_place}
use Rattle.topo_embedded.proofs.inserting.Pieces.{IsCrossed, IsUncrossed, SomeCrossed, crossed_or_not, first_of, last_of, put_append, put_none}

-- ---- Parts of a path

last_then_first : (path whole : List ℕ) (g : ℕ) → g < length path → first_part path whole (g + 1) ≡ last_part path whole g + 1
last_then_first path whole g less = grind (arith, cond-false, ne_eqb, place_of)

-- ---- The halves before and at a place

module _ (js : List Subdivision) (hs : List ℕ) where
  abbrev before : ℕ → ℕ
  before g = length (put_halves js (take g hs))

  before_more : (g : ℕ) → g < length hs → before (g + 1) ≡ before g + length (put_halves js (slice_index_or hs g 0 ∷ []))
  before_more g less =
      ap (λ (xs : List ℕ). length (put_halves js xs)) (take_more hs g 0 less)
      ∙ ap (λ (xs : List ℕ). length xs) (put_append js (take g hs) (slice_index_or hs g 0 ∷ []))
      ∙ length-append (put_halves js (take g hs)) (put_halves js (slice_index_or hs g 0 ∷ []))

  parted_at : (g : ℕ) → g < length hs
      → put_halves js hs ≡ put_halves js (take g hs) ++ (put_halves js (slice_index_or hs g 0 ∷ []) ++ put_halves js (drop (suc g) hs))
  parted_at g less =
      ap (put_halves js) (sym (take-append-drop g hs) ∙ ap (λ (xs : List ℕ). take g hs ++ xs) (drop-cons hs g 0 less))
      ∙ put_append js (take g hs) (slice_index_or hs g 0 ∷ drop (suc g) hs)
      ∙ ap (λ (xs : List ℕ). put_halves js (take g hs) ++ xs) (put_append js (slice_index_or hs g 0 ∷ []) (drop (suc g) hs))

  -- what is read there
  at_place : (g i : ℕ) → g < length hs → i < length (put_halves js (slice_index_or hs g 0 ∷ []))
      → slice_index_or (put_halves js hs) (before g + i) 0 ≡ slice_index_or (put_halves js (slice_index_or hs g 0 ∷ [])) i 0
  at_place g i less inside =
      ap (λ (xs : List ℕ). slice_index_or xs (before g + i) 0) (parted_at g less)
      ∙ get_or-append-add (put_halves js (take g hs)) (put_halves js (slice_index_or hs g 0 ∷ []) ++ put_halves js (drop (suc g) hs)) i 0
      ∙ get_or_append_left (put_halves js (slice_index_or hs g 0 ∷ [])) (put_halves js (drop (suc g) hs)) 0 i inside

module _ (p : RowsWithPaths) (good : IsWellFormed p.rows) (r : Rotation) (s : ShowsRows p r) (u v kind : ℕ) (route : Route) (once : CrossesOnce route.crossed)
    (now : IsWellFormed (shown p.rows u v kind route))
    (js : List Subdivision) (all : AreCrossedAt p r route.crossed js) where
  abbrev q : Rows
  q = shown p.rows u v kind route

  -- the half of a dart of an old edge then
  abbrev pub put_in : Dart → ℕ
  put_in d = by_way (slice_index_or (put_halves js (path_of p d.edge)) d.seg 0) d.way

  module _ (e : ℕ) (row : EdgeRow) (found : edge_row p.rows e ≡ Some row) where
    abbrev hs : List ℕ
    hs = path_of p e

    many : length hs ≡ segment_count row
    many = s.along _ row (found_place (λ x. x.id == e) p.rows.edges row found)

    abbrev path : List ℕ
    path = (edge_at p.rows e).crossings

    abbrev whole : List ℕ
    whole = (edge_at q e).crossings

    path_long : length hs ≡ length path + 1
    path_long = many ∙ ap (λ (x : EdgeRow). length x.crossings + 1) (sym (edge_at_row p.rows e row found))

    abbrev first : ℕ → ℕ
    first g = first_part path whole g

    abbrev new : ℕ → List ℕ
    new g = new_on p.rows route e g

    abbrev bits : ℕ → List ℕ
    bits g = put_halves js (slice_index_or hs g 0 ∷ [])

    pub here : (g : ℕ) → g < length hs → has_dart (darts p.rows) (forward e g) ≡ true
    here g less = dart_there p.rows good.paths (forward e g) row found (omega (arith, many))

    crossing : (g : ℕ) (less : g < length hs) → IsUncrossed p good r s e g (here g less) p.rows.next_crossing route.crossed js
        ⊎ SomeCrossed p good r s e g (here g less) p.rows.next_crossing route.crossed js
    crossing g less = crossed_or_not p good r s e g (here g less) p.rows.next_crossing route.crossed js all once

    bits_long : (g : ℕ) → g < length hs → length (bits g) ≡ length (new g) + 1
    bits_long g less = elim (crossing g less) [
      | inl n ↦ (let a = ap (λ (xs : List ℕ). length xs) n.one in let b = ap (λ (xs : List ℕ). length xs) n.ids in omega (arith, a, b))
      | inr y ↦ (let a = ap (λ (xs : List ℕ). length xs) y.3.two in let b = ap (λ (xs : List ℕ). length xs) y.3.ids in omega (arith, a, b))
    ]

    parts : (g : ℕ) → g < length hs → SegmentParts p.rows q route e g
    parts g less = segment_parts p.rows u v kind route good once now (forward e g) (here g less)

    first_is : (g : ℕ) (less : g < length hs) → (parts g less).first ≡ first g
    first_is g less = ap (λ (d : Dart). d.seg) (sym (parts g less).lifts_forward ∙ lifted_forward p.rows q e g)

    last_is : (g : ℕ) → g < length hs → last_part path whole g ≡ first g + length (new g)
    last_is g less = ap (λ (d : Dart). d.seg) (sym (lifted_back p.rows q e g) ∙ (parts g less).lifts_back)
        ∙ ap (λ (n : ℕ). n + length (new g)) (first_is g less)

    offset : (g : ℕ) → g < length hs → length (put_halves js (take g hs)) ≡ first g
    offset zero less = ap (λ (xs : List ℕ). length xs) (put_none js)
    offset (suc g) less =
        let next : suc g ≡ g + 1 = omega arith in
        let lower : g < length hs = omega arith in
        let rest = offset g lower in
        let more = before_more js hs g lower in
        grind (arith, bits_long, last_is, last_then_first, path_long)

    at : (g i : ℕ) → g < length hs → i < length (bits g) → slice_index_or (put_halves js hs) (first g + i) 0 ≡ slice_index_or (bits g) i 0
    at g i less inside = ap (λ (k : ℕ). slice_index_or (put_halves js hs) (k + i) 0) (sym (offset g less)) ∙ at_place js hs g i less inside

    at_first : (g : ℕ) → g < length hs → slice_index_or (put_halves js hs) (first g) 0 ≡ slice_index_or (bits g) 0 0
    at_first g less =
        let long = bits_long g less in
        let same : first g ≡ first g + 0 = omega arith in
        ap (λ (k : ℕ). slice_index_or (put_halves js hs) k 0) same ∙ at g 0 less (omega (arith, long))

    -- as many halves as segments
    pub put_many : length (put_halves js hs) ≡ length whole + 1
    put_many =
        let n : ℕ = length path in
        let less : n < length hs = omega (arith, path_long) in
        let more = before_more js hs n less in
        let sum = offset n less in
        let long = bits_long n less in
        let last = last_is n less in
        grind (arith, last_part, cond-true, eq-eqb, take_all, path_long)

    module _ (g : ℕ) (less : g < length hs) where
      pub forward_put : put_in (lifted p.rows q (forward e g)) ≡ subdivided_number (half_at p) js (index_of p.rows (forward e g))
      forward_put = ap put_in (lifted_forward p.rows q e g) ∙ at_first g less ∙ elim (crossing g less) [
        | inl n ↦ ap (λ (xs : List ℕ). slice_index_or xs 0 0) n.one ∙ sym n.first
        | inr y ↦ ap (λ (xs : List ℕ). slice_index_or xs 0 0) y.3.two ∙ sym y.3.first
      ]

      pub back_put : put_in (lifted p.rows q (back e g)) ≡ subdivided_number (half_at p) js (index_of p.rows (back e g))
      back_put =
          let long = bits_long g less in
          ap put_in (lifted_back p.rows q e g ∙ ap (back e) (last_is g less)) ∙ ap twin (at g (length (new g)) less (omega (arith, long))
          ∙ elim (crossing g less) as (λ _. slice_index_or (bits g) (length (new g)) 0 ≡ twin (subdivided_number (half_at p) js (index_of p.rows (back e g)))) [
            | inl n ↦
                ap (λ (k : ℕ). slice_index_or (bits g) k 0) (ap (λ (xs : List ℕ). length xs) n.ids) ∙ ap (λ (xs : List ℕ). slice_index_or xs 0 0) n.one
                ∙ sym (ap twin n.last ∙ twin-twin (slice_index_or hs g 0))
            | inr y ↦
                ap (λ (k : ℕ). slice_index_or (bits g) k 0) (ap (λ (xs : List ℕ). length xs) y.3.ids) ∙ ap (λ (xs : List ℕ). slice_index_or xs 1 0) y.3.two
                ∙ sym (ap twin y.3.last ∙ twin-twin (last_of y.1 y.2 (slice_index_or hs g 0)))
          ]) ∙ twin-twin (subdivided_number (half_at p) js (index_of p.rows (back e g)))

      module _ (x : ℕ) (j : Subdivision) where
        place_is : (w : Way) → IsCrossed p good r s e g (here g less) x w j p.rows.next_crossing route.crossed js → place_on q e x ≡ first g
        place_is w c = (parts g less).crossing x c.ids ∙ first_is g less

        read_first : (w : Way) (c : IsCrossed p good r s e g (here g less) x w j p.rows.next_crossing route.crossed js)
            → slice_index_or (put_halves js hs) (place_on q e x) 0 ≡ first_of w j (slice_index_or hs g 0)
        read_first w c = ap (λ (k : ℕ). slice_index_or (put_halves js hs) k 0) (place_is w c) ∙ at_first g less
            ∙ ap (λ (xs : List ℕ). slice_index_or xs 0 0) c.two

        read_last : (w : Way) (c : IsCrossed p good r s e g (here g less) x w j p.rows.next_crossing route.crossed js)
            → slice_index_or (put_halves js hs) (place_on q e x + 1) 0 ≡ last_of w j (slice_index_or hs g 0)
        read_last w c = grind (arith, place_is, at)

        pub onward_put : (w : Way) → IsCrossed p good r s e g (here g less) x w j p.rows.next_crossing route.crossed js
            → put_in (onward q x (record { edge = e; seg = g; way = w })) ≡ j.beyond
        onward_put Forward c = read_last Forward c
        onward_put Back c = ap twin (read_first Back c) ∙ twin-twin j.beyond

        pub backward_put : (w : Way) → IsCrossed p good r s e g (here g less) x w j p.rows.next_crossing route.crossed js
            → put_in (backward q x (record { edge = e; seg = g; way = w })) ≡ twin j.near
        backward_put Forward c = ap twin (read_first Forward c) ∙ ap twin (sym c.near)
        backward_put Back c = read_last Back c ∙ sym (twin-twin (slice_index_or hs g 0)) ∙ ap twin (sym c.near)
