-- Walks on the embedding beside an edge that is opened: what the halves are that they read, and what they tell.
use Rattle.std.proofs.Common.{◌≡◌, ◌≢◌, ◌+◌, ◌<◌, ◌≤◌, ◌↔◌, ◌%◌, ◌&&◌, ◌==◌, ap, arith, false, length, List, [], refl, subst, suc, sym, true, ℕ, ◌∙◌}
use Rattle.std.specs.Prelude.{nat_lt, slice_index_or}
use Rattle.std.specs.List.{position_or_len}
use Rattle.std.proofs.lemmas.Bool.{cases_eq}
use Rattle.std.proofs.lemmas.Bool.Decides.{nat_tests}
use Rattle.std.proofs.lemmas.List.{get_or_default}
use Rattle.topo_core.specs.declared.darts.Dart.{Dart}
use Rattle.topo_core.specs.declared.darts.Way.{Way}
use Rattle.topo_core.specs.declared.darts.Way.TheVariants.{Back, Forward}
use Rattle.topo_core.specs.declared.rows.Rows.{Rows}
use Rattle.topo_core.specs.Changes.{HasOneFace}
use Rattle.topo_core.specs.Cycles.{IsPermutation, SameCycle, map_of}
use Rattle.topo_core.specs.Darts.{dart_twin}
use Rattle.topo_core.specs.Lawful.{IsWellFormed}
use Rattle.topo_core.specs.Openings.{is_opened, opened_turn}
use Rattle.topo_core.specs.Picture.{darts, edge_at, index_of, segment_count, system, turn_images}
use Rattle.topo_core.specs.Pictures.{back, forward}
use Rattle.topo_core.specs.Rotations.{face_next, twin}
use Rattle.topo_core.specs.Systems.{has_dart, turn as dart_turn}
use Rattle.topo_core.proofs.Interface.{edge_at_row, even_images, images_length, opens, place_less, twin_in}
use Rattle.topo_perm.specs.Renumbering.{Renumbers}
use Rattle.topo_perm.proofs.Interface.{SameCycle-same, face_next-permutation, renumbered_faces, renumbered_same_cycle, twin-within}
use Rattle.topo_rows.proofs.Interface.{dart_there, got_within}
use Rattle.topo_map.specs.Rotation.{Rotation, edge_of, half_limit, is_live, turn}
use Rattle.topo_map.proofs.Interface.{limit-is}
use Rattle.topo_kept_rows.specs.Cuts.{IsLeft, IsNextLeft}
use Rattle.topo_kept_rows.proofs.Interface.{Passes, Walks, face_told, forth_of_face, not_opened, one_face_forth, one_face_round, passes_few, passes_more, passes_none, passes_to, round_of_face}
use Rattle.topo_kept_rows.proofs.Interface.{walks_home, walks_met, walks_more, walks_never, walks_none}
use Rattle.topo_embedded.specs.Cutting.{IsOpenedOn}
use Rattle.topo_embedded.specs.Halves.{RowsWithPaths, by_way, half_at, half_in}
use Rattle.topo_embedded.specs.Walking.{IsOnPath}
use Rattle.topo_embedded.proofs.halves.Apart.{darts_limited, halves_apart, twin_in_path}
use Rattle.topo_embedded.proofs.halves.Numbers.{face_half, half_alive, half_of_number, stands_at, StandsAt, turned_half}
use Rattle.topo_embedded.proofs.halves.Reading.{EdgeRead, list_few}

among : (e f s out : ℕ) → f ≡ e → s < out → (f == e && nat_lt s out) ≡ true
among e f s out same less = grind (arith, nat_tests)

not_among : (e f s out : ℕ) → (e ≡ f → out ≤ s) → (f == e && nat_lt s out) ≡ false
not_among e f s out past = grind (arith, cases_eq, nat_tests)

module _ (p : RowsWithPaths) (r : Rotation) (e out : ℕ) (path : List ℕ) (o : IsOpenedOn p r e out path) where
  abbrev rows : Rows
  rows = p.rows

  abbrev good : IsWellFormed p.rows
  good = o.well_formed

  dart_on : (s : ℕ) (w : Way) → s < segment_count o.row → has_dart (darts rows) (record { edge = e; seg = s; way = w }) ≡ true
  dart_on s w less = dart_there rows good.paths (record { edge = e; seg = s; way = w }) o.row o.there less

  -- the path has a half for each segment
  pub path_many : length path ≡ segment_count o.row
  path_many =
      let at : StandsAt rows (forward e 0) = stands_at rows good (forward e 0) (dart_on 0 Forward (omega arith)) in
      grind arith

  pub path_is : length path ≡ length (edge_at rows e).crossings + 1
  path_is = path_many ∙ ap segment_count (sym (edge_at_row rows e o.row o.there))

  pub opened_to : (i : ℕ) → i < length path → IsOpenedOn p r e i path
  opened_to i less = grind (arith, path_many)

  pub out_inside : out < length path
  out_inside = let inside = o.inside in omega (arith, path_many)

  -- a loop that makes so many turns has met each dart
  pub few : length (darts rows) < 4294967296
  few = let all = darts_limited p good r o.shows in let limit = limit-is in omega arith

  pub path_few : length path < 4294967296
  path_few =
      let at : StandsAt rows (forward e 0) = stands_at rows good (forward e 0) (dart_on 0 Forward (omega arith)) in
      let read : EdgeRead rows e (position_or_len (λ row. row.id == e) rows.edges) at.row = record { found = at.found; at = at.at; id = at.id; first = refl } in
      let inside : position_or_len (λ row. row.id == e) rows.edges < length p.paths = let many = o.shows.as_many in
      omega (arith, many, got_within rows.edges (position_or_len (λ row. row.id == e) rows.edges) at.row at.at) in
      let list = list_few p good r o.shows e (position_or_len (λ row. row.id == e) rows.edges) at.row read path
      (o.own ∙ get_or_default p.paths (position_or_len (λ row. row.id == e) rows.edges) [] path inside) in
      omega (arith, list, few)

  -- ---- What a half is

  module _ (d : Dart) (here : has_dart (darts rows) d ≡ true) (h : ℕ) (is : h ≡ half_in p d) where
    pub alive : is_live r h ≡ true
    alive = half_alive p good r o.shows h (record { dart = d; there = here; is = sym is })

    pub twin_here : has_dart (darts rows) (dart_twin d) ≡ true
    twin_here = twin_in rows d here

    pub twin_is : twin h ≡ half_in p (dart_twin d)
    twin_is = ap twin is ∙ twin_in_path p d

    pub turn_is : turn r h ≡ half_in p (dart_turn (system rows) d)
    turn_is = ap (turn r) is ∙ turned_half p good r o.shows d here

    pub next_is : face_next (turn r) h ≡ half_in p (dart_turn (system rows) (dart_twin d))
    next_is = face_half p good r o.shows h d here (sym is)

    pub label_is : edge_of r h ≡ d.edge
    label_is = ap (edge_of r) is ∙ o.shows.labels d here

    pub on_other_edge : edge_of r h ≢ e → is_opened e out d ≡ false
    on_other_edge other = not_among e d.edge d.seg out (λ same. absurd (other (label_is ∙ sym same)))

    -- ---- Where it lies on the path

    module _ (mine : e ≡ d.edge) where
      pub dart_is : (s : ℕ) (w : Way) → s < length path → by_way (slice_index_or path s 0) w ≡ h → record { edge = e; seg = s; way = w } ≡ d
      dart_is s w less named = halves_apart p good r o.shows (record { edge = e; seg = s; way = w }) d (dart_on s w (omega (arith, less, path_many))) here
          (ap (λ (xs : List ℕ). by_way (slice_index_or xs s 0) w) (sym o.own) ∙ named ∙ is)

      pub lies_before : (s : ℕ) (w : Way) → s < length path → by_way (slice_index_or path s 0) w ≡ h → s < out → is_opened e out d ≡ true
      lies_before s w less named before = among e d.edge d.seg out (sym mine) (subst (λ k. k < out) (ap (λ (c : Dart). c.seg) (dart_is s w less named)) before)

      pub lies_behind : (s : ℕ) (w : Way) → s < length path → by_way (slice_index_or path s 0) w ≡ h → out ≤ s → is_opened e out d ≡ false
      lies_behind s w less named behind = not_among e d.edge d.seg out (λ same. subst (λ k. out ≤ k) (ap (λ (c : Dart). c.seg) (dart_is s w less named)) behind)

      pub on_path : IsOnPath path h
      on_path =
          let at : StandsAt rows d = stands_at rows good d here in
          grind (arith, path_many)

  -- ---- A walk past what is out

  -- the dart that it has come to
  pub record Turns (start next passed : ℕ) : Type 0 where
    pub dart : Dart
    pub named : next ≡ half_in p dart
    pub passes : Passes rows good e o.row o.there out start dart passed

  few_out : out ≤ segment_count o.row
  few_out = let inside = o.inside in omega arith

  module _ (d : Dart) (h : ℕ) (left : IsLeft rows (half_in p) e out d h) where
    abbrev start : ℕ
    start = index_of rows (dart_twin d)

    pub start_alive : is_live r h ≡ true
    start_alive = alive d left.there h left.named

    pub turns_none : (next : ℕ) → next ≡ face_next (turn r) h → Turns start next 0
    turns_none next read =
        let there = twin_here d left.there h left.named in record {
          dart = dart_turn (system rows) (dart_twin d);
          named = read ∙ next_is d left.there h left.named;
          passes = passes_none rows good e o.row o.there out (dart_twin d) there;
        }

    module _ (next passed : ℕ) (at : Turns start next passed) where
      pub turns_alive : is_live r next ≡ true
      turns_alive = alive at.dart at.passes.here next at.named

      pub turns_more : (more : ℕ) → more ≡ turn r next → is_opened e out at.dart ≡ true → Turns start more (suc passed)
      turns_more more read gone = record {
        dart = dart_turn (system rows) at.dart;
        named = read ∙ turn_is at.dart at.passes.here next at.named;
        passes = passes_more rows good e o.row o.there out start at.dart passed at.passes gone;
      }

      pub turns_to : is_opened e out at.dart ≡ false → IsNextLeft rows (half_in p) e out d at.dart next
      turns_to stays = record {
        left = record { there = at.passes.here; stays = stays; named = at.named };
        follows = passes_to rows good e o.row o.there out few_out d left.there left.stays at.dart passed at.passes stays;
      }

      pub turns_few : length (darts rows) ≤ passed → ⊥
      turns_few many = passes_few rows good e o.row o.there out few_out d left.there left.stays at.dart passed at.passes many

  -- ---- Walks round both faces

  pub forward_here : has_dart (darts rows) (forward e out) ≡ true
  forward_here = dart_on out Forward o.inside

  pub back_here : has_dart (darts rows) (back e out) ≡ true
  back_here = dart_on out Back o.inside

  abbrev pub WalksForth : Dart → ℕ → Type 0
  WalksForth = Walks rows good e o.row o.there out o.inside (forward e out) (back e out) forward_here back_here

  abbrev pub WalksRound : Dart → ℕ → Type 0
  WalksRound = Walks rows good e o.row o.there out o.inside (back e out) (forward e out) back_here forward_here

  -- where the two walks are
  pub record InStep (left right steps : ℕ) : Type 0 where
    pub left_dart : Dart
    pub right_dart : Dart
    pub left_is : IsLeft rows (half_in p) e out left_dart left
    pub right_is : IsLeft rows (half_in p) e out right_dart right
    pub forth : WalksForth left_dart steps
    pub round : WalksRound right_dart steps

  -- a half that comes next
  abbrev pub Follows : Dart → ℕ → Type 0
  Follows d h = (next : Dart) × IsNextLeft rows (half_in p) e out d next h

  one_dart : (c d : Dart) → has_dart (darts rows) c ≡ true → has_dart (darts rows) d ≡ true → (m n : ℕ) → m ≡ half_in p c → n ≡ half_in p d → m ≡ n → c ≡ d
  one_dart c d c_here d_here m n c_is d_is same = halves_apart p good r o.shows c d c_here d_here (sym c_is ∙ same ∙ d_is)

  module _ (half : ℕ) (read : half ≡ slice_index_or path out 0) where
    pub half_is : half ≡ half_in p (forward e out)
    half_is = read ∙ ap (λ (xs : List ℕ). slice_index_or xs out 0) o.own

    pub twin_named : twin half ≡ half_in p (back e out)
    twin_named = twin_is (forward e out) forward_here half half_is

    ways_differ : forward e out ≢ back e out
    ways_differ same = let ways : Forward ≡ Back = ap (λ (d : Dart). d.way) same in cc

    pub in_step_none : InStep half (twin half) 0
    in_step_none = record {
      left_dart = forward e out;
      right_dart = back e out;
      left_is = record { there = forward_here; stays = not_opened e out; named = half_is };
      right_is = record { there = back_here; stays = not_opened e out; named = twin_named };
      forth = walks_none rows good e o.row o.there out o.inside (forward e out) (back e out) forward_here back_here ways_differ;
      round = walks_none rows good e o.row o.there out o.inside (back e out) (forward e out) back_here forward_here (λ same. ways_differ (sym same));
    }

    module _ (left right steps : ℕ) (h : InStep left right steps) where
      pub in_step_never : length (darts rows) ≤ steps → HasOneFace rows e out → ⊥
      in_step_never many one = walks_never rows good e o.row o.there out o.inside (forward e out)
          (back e out) forward_here back_here h.left_dart steps h.forth many (forth_of_face rows good e o.row o.there out o.inside one)

      module _ (left_next right_next : ℕ) (l : Follows h.left_dart left_next) (k : Follows h.right_dart right_next) where
        pub met_left : left_next ≡ twin half → HasOneFace rows e out
        met_left same = one_face_forth rows good e o.row o.there out o.inside
            (walks_met rows good e o.row o.there out o.inside (forward e out) (back e out) forward_here back_here h.left_dart l.0 steps h.forth l.1.follows
            (one_dart l.0 (back e out) l.1.left.there back_here left_next (twin half) l.1.left.named twin_named same))

        pub met_right : right_next ≡ half → HasOneFace rows e out
        met_right same = one_face_round rows good e o.row o.there out o.inside
            (walks_met rows good e o.row o.there out o.inside (back e out) (forward e out) back_here forward_here h.right_dart k.0 steps h.round k.1.follows
            (one_dart k.0 (forward e out) k.1.left.there forward_here right_next half k.1.left.named half_is same))

        pub home_left : left_next ≡ half → HasOneFace rows e out → ⊥
        home_left same one =
            walks_home rows good e o.row o.there out o.inside (forward e out) (back e out) forward_here back_here h.left_dart l.0 steps h.forth l.1.follows
            (one_dart l.0 (forward e out) l.1.left.there forward_here left_next half l.1.left.named half_is same)
            (forth_of_face rows good e o.row o.there out o.inside one)

        pub home_right : right_next ≡ twin half → HasOneFace rows e out → ⊥
        home_right same one =
            walks_home rows good e o.row o.there out o.inside (back e out) (forward e out) back_here forward_here h.right_dart k.0 steps h.round k.1.follows
            (one_dart k.0 (back e out) k.1.left.there back_here right_next (twin half) k.1.left.named twin_named same)
            (round_of_face rows good e o.row o.there out o.inside one)

        pub in_step_more : left_next ≢ twin half → right_next ≢ half → InStep left_next right_next (suc steps)
        in_step_more not_twin not_half = record {
          left_dart = l.0;
          right_dart = k.0;
          left_is = l.1.left;
          right_is = k.1.left;
          forth = walks_more rows good e o.row o.there out o.inside (forward e out)
              (back e out) forward_here back_here h.left_dart l.0 steps h.forth l.1.follows l.1.left.there
              (λ same. not_twin (l.1.left.named ∙ ap (half_in p) same ∙ sym twin_named));
          round = walks_more rows good e o.row o.there out o.inside (back e out)
              (forward e out) back_here forward_here h.right_dart k.0 steps h.round k.1.follows k.1.left.there
              (λ same. not_half (k.1.left.named ∙ ap (half_in p) same ∙ sym half_is));
        }

-- ---- Where nothing is out yet

-- the halves of the first segment lie in one face just where it has one face on both sides
module _ (p : RowsWithPaths) (r : Rotation) (e : ℕ) (path : List ℕ) (o : IsOpenedOn p r e 0 path) where
  abbrev ahead_number : ℕ
  ahead_number = index_of p.rows (forward e 0)

  abbrev back_number : ℕ
  back_number = index_of p.rows (back e 0)

  ahead_less : ahead_number < length (darts p.rows)
  ahead_less = place_less (darts p.rows) (forward e 0) (forward_here p r e 0 path o)

  back_less : back_number < length (darts p.rows)
  back_less = place_less (darts p.rows) (back e 0) (back_here p r e 0 path o)

  darts_even : length (darts p.rows) % 2 ≡ 0
  darts_even = ap (λ n. n % 2) (sym (images_length p.rows)) ∙ even_images p.rows

  faces_carried : Renumbers (half_at p) o.shows.back (face_next (map_of (turn_images p.rows))) (face_next (turn r)) (length (turn_images p.rows))
      (is_live r) half_limit
  faces_carried = renumbered_faces (half_at p) o.shows.back (map_of (turn_images p.rows)) (turn r) (length (turn_images p.rows))
      (is_live r) half_limit o.shows.renumbers

  -- on numbers
  whole_faces : SameCycle (face_next (map_of (turn_images p.rows))) ahead_number back_number ↔ HasOneFace p.rows e 0
  whole_faces =
      let good = o.well_formed in
      let all = opens p.rows good.paths good.crossings good.rotations e in
      let n = length (darts p.rows) in
      let shut : (a : ℕ) → a < n → face_next (opened_turn p.rows e 0) a ≡ face_next (map_of (turn_images p.rows)) a =
      λ a less. all.shut (twin a) (twin-within n a darts_even less) in
      let opened : IsPermutation (face_next (opened_turn p.rows e 0)) n = face_next-permutation (opened_turn p.rows e 0) n (all.permutes 0) darts_even in
      let whole : IsPermutation (face_next (map_of (turn_images p.rows))) n =
      subst (λ (m : ℕ). IsPermutation (face_next (map_of (turn_images p.rows))) m) (images_length p.rows) faces_carried.before in
      let told = face_told p.rows good e o.row o.there 0 o.inside in (
        λ same. told.0 (SameCycle-same (face_next (map_of (turn_images p.rows))) (face_next (opened_turn p.rows e 0)) n whole (λ a less. sym (shut a less))
            ahead_number back_number ahead_less same),
        λ one. SameCycle-same (face_next (opened_turn p.rows e 0))
            (face_next (map_of (turn_images p.rows))) n opened shut ahead_number back_number ahead_less (told.1 one),
      )

  number_few : (a : ℕ) → a < length (darts p.rows) → a < length (turn_images p.rows)
  number_few a less = omega (arith, less, images_length p.rows)

  -- on halves
  halves_together : SameCycle (face_next (map_of (turn_images p.rows))) ahead_number back_number
      ↔ SameCycle (face_next (turn r)) (half_at p ahead_number) (half_at p back_number)
  halves_together =
      renumbered_same_cycle (half_at p) o.shows.back (face_next (map_of (turn_images p.rows))) (face_next (turn r)) (length (turn_images p.rows))
      (is_live r) half_limit ahead_number back_number faces_carried (number_few ahead_number ahead_less) (number_few back_number back_less)

  module _ (half : ℕ) (read : half ≡ slice_index_or path 0 0) where
    ahead_half : half_at p ahead_number ≡ half
    ahead_half = half_of_number p o.well_formed (forward e 0) (forward_here p r e 0 path o) ∙ sym (half_is p r e 0 path o half read)

    back_half : half_at p back_number ≡ twin half
    back_half = half_of_number p o.well_formed (back e 0) (back_here p r e 0 path o) ∙ sym (twin_named p r e 0 path o half read)

    abbrev Together : ℕ → ℕ → Type 0
    Together a b = SameCycle (face_next (turn r)) a b

    pub first_live : is_live r half ≡ true
    first_live = alive p r e 0 path o (forward e 0) (forward_here p r e 0 path o) half (half_is p r e 0 path o half read)

    pub first_twin_live : is_live r (twin half) ≡ true
    first_twin_live = alive p r e 0 path o (back e 0) (back_here p r e 0 path o) (twin half) (twin_named p r e 0 path o half read)

    pub first_face : Together half (twin half) ↔ HasOneFace p.rows e 0
    first_face = grind (arith, whole_faces, halves_together, back_half, ahead_half)
