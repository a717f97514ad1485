-- Where a crossed half lies among the halves along the edges, while others are split.
use Rattle.std.proofs.Common.{◌≡◌, ◌≢◌, ◌<◌, ◌≤◌, ◌+◌, ap, arith, Bool, drop, false, get_or, inl, inr}
use Rattle.std.proofs.Common.{length, List, [], ◌∷◌, ◌++◌, refl, subst, suc, sym, take, true, ℕ, ◌∙◌}
use Rattle.std.specs.Prelude.{◌&&◌, ◌==◌, cond, flat_map, slice_get, slice_index_or, Some}
use Rattle.std.specs.List.{AllByRecursion, position_or_len}
use Rattle.std.proofs.Math.Seq.{drop-cons}
use Rattle.std.proofs.lemmas.Bool.{and_from, cond-false, false≢true, ne_eqb}
use Rattle.std.proofs.lemmas.Grind.{flat_map-append}
use Rattle.std.proofs.lemmas.List.{get_or-drop, get_or-take, length-append, length-drop, length-take-le, take-append-drop}
use Rattle.std.proofs.lemmas.List.Elements.{All-from_get_or, All-from_recursion, recursion_from_All}
use Rattle.std.proofs.lemmas.Option.{slice_get-get_or}
use Rattle.topo_core.specs.declared.darts.Dart.{Dart}
use Rattle.topo_core.specs.declared.darts.Way.{Way}
use Rattle.topo_core.specs.declared.darts.Way.TheVariants.{Forward, Back}
use Rattle.topo_core.specs.declared.rows.EdgeRow.{EdgeRow}
use Rattle.topo_core.specs.Darts.{dart_twin}
use Rattle.topo_core.specs.Insertions.{same_segment}
use Rattle.topo_core.specs.Lawful.{IsWellFormed}
use Rattle.topo_core.specs.Picture.{darts, edge_row}
use Rattle.topo_core.specs.Pictures.{forward}
use Rattle.topo_core.specs.Rotations.{twin}
use Rattle.topo_core.specs.Systems.{has_dart}
use Rattle.topo_core.proofs.Interface.{eqb_self, twin_in}
use Rattle.topo_perm.proofs.Interface.{Subdivision, twin-twin}
use Rattle.topo_map.specs.Rotation.{Rotation, is_live}
use Rattle.topo_rows.proofs.Interface.{dart_there, edges_rise, placed_here}
use Rattle.topo_embedded.specs.Halves.{RowsWithPaths, ShowsRows, by_way, half_in, path_of}
use Rattle.topo_embedded.specs.Inserting.{piece, put_halves}
use Rattle.topo_embedded.specs.Padding.{AreOff, IsOff, IsOn}
use Rattle.topo_embedded.proofs.halves.Apart.{halves_apart, twin_in_path}
use Rattle.topo_embedded.proofs.halves.Numbers.{StandsAt, half_alive, stands_at}
use Rattle.topo_embedded.proofs.inserting.Pieces.{put_append}

-- ---- Lists

-- a half that is off a split one stays alone
piece_off : (j : Subdivision) (h : ℕ) → IsOff j.near h → piece j h ≡ h ∷ []
piece_off j h off = cond-false _ _ _ (ne_eqb h j.near off.0) ∙ cond-false _ _ _ (ne_eqb h (twin j.near) off.1)

pieces_off : (j : Subdivision) (hs : List ℕ) → AllByRecursion (IsOff j.near) hs → flat_map (piece j) hs ≡ hs
pieces_off j [] off = refl
pieces_off j (h ∷ hs) off = ap (λ (xs : List ℕ). xs ++ flat_map (piece j) hs) (piece_off j h off.0) ∙ ap (λ (xs : List ℕ). h ∷ xs) (pieces_off j hs off.1)

pub pieces_stay : (j : Subdivision) (hs : List ℕ) → AreOff j.near hs → flat_map (piece j) hs ≡ hs
pieces_stay j hs off = pieces_off j hs (recursion_from_All (IsOff j.near) hs off)

-- what the splits put in is off a half
abbrev pub NewOff : ℕ → List Subdivision → Type 0
NewOff near js = AllByRecursion (λ j. IsOff near j.beyond × IsOff near (twin j.beyond)) js

append_off : (near : ℕ) (xs ys : List ℕ) → AllByRecursion (IsOff near) xs → AllByRecursion (IsOff near) ys → AllByRecursion (IsOff near) (xs ++ ys)
append_off near [] ys a b = b
append_off near (x ∷ xs) ys a b = (a.0, append_off near xs ys a.1 b)

piece_is_off : (near : ℕ) (j : Subdivision) (h : ℕ) → IsOff near h → IsOff near j.beyond → IsOff near (twin j.beyond) → AllByRecursion (IsOff near) (piece j h)
piece_is_off near j h off new back = by_tests (h == j.near) (h == twin j.near) where
  by_tests : (a b : Bool) → AllByRecursion (IsOff near) (cond {A = List ℕ} a (h ∷ j.beyond ∷ []) (cond b (twin j.beyond ∷ h ∷ []) (h ∷ [])))
  by_tests true b = (off, (new, tt))
  by_tests false true = (back, (off, tt))
  by_tests false false = (off, tt)

pieces_are_off : (near : ℕ) (j : Subdivision) (hs : List ℕ) → AllByRecursion (IsOff near) hs → IsOff near j.beyond → IsOff near (twin j.beyond)
    → AllByRecursion (IsOff near) (flat_map (piece j) hs)
pieces_are_off near j [] off new back = tt
pieces_are_off near j (h ∷ hs) off new back =
    append_off near (piece j h) (flat_map (piece j) hs) (piece_is_off near j h off.0 new back) (pieces_are_off near j hs off.1 new back)

put_are_off : (near : ℕ) (js : List Subdivision) (hs : List ℕ) → AllByRecursion (IsOff near) hs → NewOff near js
    → AllByRecursion (IsOff near) (put_halves js hs)
put_are_off near [] hs off new = off
put_are_off near (j ∷ js) hs off new = pieces_are_off near j (put_halves js hs) (put_are_off near js hs off new.1) new.0.0 new.0.1

pub put_off : (near : ℕ) (js : List Subdivision) (hs : List ℕ) → AreOff near hs → NewOff near js → AreOff near (put_halves js hs)
put_off near js hs off new = All-from_recursion (IsOff near) (put_halves js hs) (put_are_off near js hs (recursion_from_All (IsOff near) hs off) new)

-- a half off all that are split
put_one : (js : List Subdivision) (h : ℕ) → AllByRecursion (λ j. IsOff j.near h) js → put_halves js (h ∷ []) ≡ h ∷ []
put_one [] h off = refl
put_one (j ∷ js) h off = ap (flat_map (piece j)) (put_one js h off.1) ∙ pieces_off j (h ∷ []) (off.0, tt)

-- a half among others that are off its segment, not before a place
pub record IsAmong (near from : ℕ) (hs : List ℕ) : Type 0 where
  pub before : List ℕ
  pub half : ℕ
  pub behind : List ℕ
  pub is : hs ≡ before ++ half ∷ behind
  pub late : from ≤ length before
  pub on : IsOn near half
  pub before_off : AreOff near before
  pub behind_off : AreOff near behind

-- splits make no list of halves shorter
piece_some : (j : Subdivision) (h : ℕ) → 1 ≤ length (piece j h)
piece_some j h = by_tests (h == j.near) (h == twin j.near) where
  by_tests : (a b : Bool) → 1 ≤ length (cond {A = List ℕ} a (h ∷ j.beyond ∷ []) (cond b (twin j.beyond ∷ h ∷ []) (h ∷ [])))
  by_tests true b = omega arith
  by_tests false true = omega arith
  by_tests false false = omega arith

pieces_no_fewer : (j : Subdivision) (hs : List ℕ) → length hs ≤ length (flat_map (piece j) hs)
pieces_no_fewer j [] = omega arith
pieces_no_fewer j (h ∷ hs) = omega (arith, piece_some j h, pieces_no_fewer j hs, length-append (piece j h) (flat_map (piece j) hs))

put_no_fewer : (js : List Subdivision) (hs : List ℕ) → length hs ≤ length (put_halves js hs)
put_no_fewer [] hs = omega arith
put_no_fewer (j ∷ js) hs = omega (arith, put_no_fewer js hs, pieces_no_fewer j (put_halves js hs))

-- such a half stays so
pub still_among : (near from : ℕ) (js : List Subdivision) (hs : List ℕ) → NewOff near js → (a : IsAmong near from hs)
    → AllByRecursion (λ j. IsOff j.near a.half) js → IsAmong near from (put_halves js hs)
still_among near from js hs new a alone = record {
  before = put_halves js a.before;
  half = a.half;
  behind = put_halves js a.behind;
  is = ap (put_halves js) a.is ∙ put_append js a.before (a.half ∷ a.behind)
      ∙ ap (λ (xs : List ℕ). put_halves js a.before ++ xs) (put_append js (a.half ∷ []) a.behind
      ∙ ap (λ (xs : List ℕ). xs ++ put_halves js a.behind) (put_one js a.half alone));
  late = omega (arith, a.late, put_no_fewer js a.before);
  on = a.on;
  before_off = put_off near js a.before a.before_off new;
  behind_off = put_off near js a.behind a.behind_off new;
}

-- and gets a neighbour
pub among_split : (j : Subdivision) (from : ℕ) (hs : List ℕ) (a : IsAmong j.near from hs) → flat_map (piece j) hs ≡ a.before ++ (piece j a.half ++ a.behind)
among_split j from hs a = grind (arith, flat_map-append, pieces_stay)

-- ---- Halves of darts

module _ (p : RowsWithPaths) (good : IsWellFormed p.rows) (r : Rotation) (s : ShowsRows p r) where
  abbrev Is : Dart → Type 0
  Is d = has_dart (darts p.rows) d ≡ true

  on_itself : (c d : Dart) → d.edge ≡ c.edge → d.seg ≡ c.seg → same_segment c d ≡ true
  on_itself c d edge seg =
      and_from (c.edge == d.edge) (c.seg == d.seg) (ap (λ (e : ℕ). c.edge == e) edge ∙ eqb_self c.edge) (ap (λ (g : ℕ). c.seg == g) seg ∙ eqb_self c.seg)

  -- darts of two segments
  pub darts_off : (c d : Dart) → Is c → Is d → same_segment c d ≡ false → IsOff (half_in p c) (half_in p d)
  darts_off c d hc hd off = (
    λ same.
        let e : d ≡ c = halves_apart p good r s d c hd hc same in
        false≢true (sym off ∙ on_itself c d (ap (λ (b : Dart). b.edge) e) (ap (λ (b : Dart). b.seg) e)),
    λ same.
        let e : d ≡ dart_twin c = halves_apart p good r s d (dart_twin c) hd (twin_in p.rows c hc) (same ∙ twin_in_path p c) in
        false≢true (sym off ∙ on_itself c d (ap (λ (b : Dart). b.edge) e) (ap (λ (b : Dart). b.seg) e)),
  )

  alive : (d : Dart) → Is d → is_live r (half_in p d) ≡ true
  alive d h = half_alive p good r s (half_in p d) (record { dart = d; there = h; is = refl })

  -- a half that is not live
  pub dead_off : (d : Dart) (x : ℕ) → Is d → is_live r x ≡ false → IsOff (half_in p d) x
  dead_off d x h dead = (
    λ e. false≢true (sym dead ∙ ap (is_live r) e ∙ alive d h),
    λ e. false≢true (sym dead ∙ ap (is_live r) (e ∙ twin_in_path p d) ∙ alive (dart_twin d) (twin_in p.rows d h)),
  )

  -- the segment of a dart does not matter which way
  pub off_by_way : (near : ℕ) (e g : ℕ) (w : Way) → IsOff near (half_in p (record { edge = e; seg = g; way = w })) → IsOff near (half_in p (forward e g))
  off_by_way near e g Forward off = off
  off_by_way near e g Back off = grind (arith, twin-twin)

  -- the halves of one path are those of darts
  pub along_there : (k : ℕ) (row : EdgeRow) → slice_get p.rows.edges k ≡ Some row → (i : ℕ) → i < length (slice_index_or p.paths k []) → Is (forward row.id i)
      × (slice_index_or (slice_index_or p.paths k []) i 0 ≡ half_in p (forward row.id i))
  along_there k row at i less =
      let place = placed_here (λ (x : EdgeRow). x.id) p.rows.edges row.id (edges_rise p.rows p.rows.edges good.paths refl) k row at refl in
      let both : Some place.row ≡ Some row = sym place.at ∙ at in
      let same : place.row ≡ row = cc in
      let found : edge_row p.rows row.id ≡ Some row = place.found ∙ ap Some same in
      let long = s.along k row at in (
        dart_there p.rows good.paths (forward row.id i) row found (omega (arith, long, less)),
        ap (λ (j : ℕ). slice_index_or (slice_index_or p.paths j []) i 0) place.first,
      )

  other_edge : (c d : Dart) → d.edge ≢ c.edge → same_segment c d ≡ false
  other_edge c d ne = ap (λ (b : Bool). b && c.seg == d.seg) (ne_eqb c.edge d.edge (λ e. ne (sym e)))

  other_seg : (c d : Dart) → d.seg ≢ c.seg → same_segment c d ≡ false
  other_seg c d ne = by_tests (c.edge == d.edge) (c.seg == d.seg) (ne_eqb c.seg d.seg (λ e. ne (sym e))) where
    by_tests : (a b : Bool) → b ≡ false → a && b ≡ false
    by_tests true b e = e
    by_tests false b e = refl

  module _ (d : Dart) (h : Is d) where
    abbrev place : ℕ
    place = position_or_len (λ (row : EdgeRow). row.id == d.edge) p.rows.edges

    stands : StandsAt p.rows d
    stands = stands_at p.rows good d h

    -- the paths of other edges are off the segment
    pub other_paths : (k : ℕ) → k < length p.paths → k ≢ place → AreOff (half_in p d) (slice_index_or p.paths k [])
    other_paths k less ne = (
        let row : EdgeRow = get_or p.rows.edges k stands.row in
        let at : slice_get p.rows.edges k ≡ Some row = slice_get-get_or p.rows.edges k stands.row (omega (arith, s.as_many, less)) in
        let apart : row.id ≢ d.edge =
        λ e. ne (placed_here (λ (x : EdgeRow). x.id) p.rows.edges d.edge (edges_rise p.rows p.rows.edges good.paths refl) k row at e).first in
        All-from_get_or (IsOff (half_in p d)) (slice_index_or p.paths k []) 0 (λ i li.
        let (there, is) = along_there k row at i li in
        subst (IsOff (half_in p d)) (sym is) (darts_off d (forward row.id i) h there (other_edge d (forward row.id i) apart))))

    -- its own path has it once
    abbrev hs : List ℕ
    hs = path_of p d.edge

    long : d.seg < length hs
    long = (let many = s.along place stands.row stands.at in omega (arith, many, stands.on_path))

    entry_off : (i : ℕ) → i < length hs → i ≢ d.seg → IsOff (half_in p d) (get_or hs i 0)
    entry_off i less ne = (
        let (there, is) = along_there place stands.row stands.at i less in
        subst (IsOff (half_in p d)) (sym is) (darts_off d (forward stands.row.id i) h there (other_seg d (forward stands.row.id i) ne)))

    on_way : (w : Way) (x : ℕ) → IsOn (by_way x w) x
    on_way Forward x = inl refl
    on_way Back x = inr (sym (twin-twin x))

    pub own_path : IsAmong (half_in p d) d.seg hs
    own_path = record {
      before = take d.seg hs;
      half = get_or hs d.seg 0;
      behind = drop (suc d.seg) hs;
      is = sym (take-append-drop d.seg hs) ∙ ap (λ (xs : List ℕ). take d.seg hs ++ xs) (drop-cons hs d.seg 0 long);
      late = (let short = length-take-le d.seg hs (omega (arith, long)) in omega (arith, short));
      on = on_way d.way (get_or hs d.seg 0);
      before_off = All-from_get_or (IsOff (half_in p d)) (take d.seg hs) 0 (λ i li.
          let short = length-take-le d.seg hs (omega (arith, long)) in
          let less : i < d.seg = omega (arith, li, short) in
          subst (IsOff (half_in p d)) (sym (get_or-take d.seg hs i 0 less)) (entry_off i (omega (arith, less, long)) (λ e. omega (arith, less, e))));
      behind_off = All-from_get_or (IsOff (half_in p d)) (drop (suc d.seg) hs) 0 (λ i li.
          let short = length-drop (suc d.seg) hs in
          subst (IsOff (half_in p d)) (sym (get_or-drop (suc d.seg) hs i 0)) (entry_off (suc d.seg + i) (omega (arith, li, short)) (λ e. omega (arith, e))));
    }

    pub own_half : own_path.half ≡ half_in p (forward d.edge d.seg)
    unfolding own_path
    own_half = refl
