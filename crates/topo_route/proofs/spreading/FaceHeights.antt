-- Heights of faces and of darts: what a list by labels says of the darts by their names, and how that changes where a face is lowered.
use Rattle.std.proofs.Common.{◌≡◌, ◌≢◌, ℕ, ◌+◌, ◌-◌, ◌<◌, ◌≤◌, ◌==◌, ◌&&◌, Bool, true, false, cond, List, length}
use Rattle.std.proofs.Common.{inl, inr, sym, ap, ◌∙◌, arith, get_or-set_same, get_or-set_other}
use Rattle.std.specs.Prelude.{max, slice_index}
use Rattle.std.proofs.Math.ListN.{set}
use Rattle.std.proofs.lemmas.Bool.{cases_Bool, cases_eq, cases_lt, eqb-true, eq-eqb, false≢true}
use Rattle.std.proofs.lemmas.Grind.{get_or_default_zero}
use Rattle.std.proofs.lemmas.List.{get_or_past, length-set}
use Rattle.std.proofs.lemmas.List.FromFn.{get_or-map-range_with_len, length-map-range_with_len}
use Rattle.topo_core.specs.Picture.{darts}
use Rattle.topo_core.specs.Routes.{unreached}
use Rattle.topo_core.specs.Systems.{has_dart}
use Rattle.topo_core.proofs.Interface.{left_true, right_true}
use Rattle.topo_route.specs.FaceHeights.{dart_heights, height_at, is_name}
use Rattle.topo_route.specs.Names.{IsName, IsNamed, Named, dart_named}
use Rattle.topo_route.specs.Settling.{number_at, top_of}
use Rattle.topo_route.proofs.names.Names.{name_below}

-- ---- Names

pub name_of_test : (g : Named) (k : ℕ) → is_name g k ≡ true → IsName g k
name_of_test g k h =
    let there = has_dart (darts g.rows) (dart_named g k) in
    let is = g.name (dart_named g k) == k in
    record { there = left_true there is h; is = eqb-true (g.name (dart_named g k)) k (right_true there is h) }

pub test_of_name : (g : Named) (k : ℕ) → IsName g k → is_name g k ≡ true
test_of_name g k l = ap (λ b. b && g.name (dart_named g k) == k) l.there ∙ eq-eqb (g.name (dart_named g k)) k l.is

-- ---- One height for each dart

module _ (g : Named) (face : ℕ → ℕ) (heights : List ℕ) where
  pub one_for_each : length (dart_heights g face heights) ≡ g.size
  unfolding dart_heights
  one_for_each = length-map-range_with_len (height_at g face heights) 0 g.size

  dart_height : (k : ℕ) → k < g.size → slice_index (dart_heights g face heights) k ≡ height_at g face heights k
  unfolding dart_heights
  dart_height k within = get_or-map-range_with_len (height_at g face heights) 0 g.size k k 0 within (omega arith)

  past_all : (k : ℕ) → g.size ≤ k → slice_index (dart_heights g face heights) k ≡ 0
  past_all k past = get_or_past (dart_heights g face heights) k 0 (omega (arith, one_for_each))

  not_named : (k : ℕ) → k < g.size → is_name g k ≡ false → slice_index (dart_heights g face heights) k ≡ unreached
  not_named k within none = dart_height k within ∙ ap (λ (b : Bool). cond {A = ℕ} b (number_at heights (face k)) unreached) none

  -- what is reached is the height of a dart
  pub reached_named : (k : ℕ) → k < length (dart_heights g face heights) → slice_index (dart_heights g face heights) k ≢ unreached → IsName g k
  reached_named k within some = elim (cases_Bool (is_name g k)) [
    | inl h ↦ name_of_test g k h
    | inr none ↦ absurd (some (not_named k (omega (arith, one_for_each)) none))
  ]

  module _ (has : IsNamed g) where
    pub height_by_name : (k : ℕ) → IsName g k → slice_index (dart_heights g face heights) k ≡ number_at heights (face k)
    height_by_name k l = dart_height k (name_below g has k l) ∙ ap (λ (b : Bool). cond {A = ℕ} b (number_at heights (face k)) unreached) (test_of_name g k l)

    -- a list that has a height for the face has that one
    pub height_by_face : (k : ℕ) → IsName g k → face k < length heights → slice_index (dart_heights g face heights) k ≡ slice_index heights (face k)
    height_by_face k l within = height_by_name k l ∙ get_or_default_zero heights (face k) unreached within

    -- as seen from the other end
    pub number_by_name : (k : ℕ) → IsName g k → number_at (dart_heights g face heights) k ≡ number_at heights (face k)
    number_by_name k l = get_or_default_zero (dart_heights g face heights) k unreached (omega (arith, one_for_each, name_below g has k l)) ∙ height_by_name k l

    -- darts of one face have one height
    pub one_height : (j k : ℕ) → IsName g j → IsName g k → face j ≡ face k
        → slice_index (dart_heights g face heights) j ≡ slice_index (dart_heights g face heights) k
    one_height j k lj lk e = height_by_name j lj ∙ ap (number_at heights) e ∙ sym (height_by_name k lk)

    pub one_number : (j k : ℕ) → IsName g j → IsName g k → face j ≡ face k
        → number_at (dart_heights g face heights) j ≡ number_at (dart_heights g face heights) k
    one_number j k lj lk e = number_by_name j lj ∙ ap (number_at heights) e ∙ sym (number_by_name k lk)

  -- no height of a dart is above the greatest number
  pub dart_capped : ((f : ℕ) → slice_index heights f ≤ unreached) → (k : ℕ) → slice_index (dart_heights g face heights) k ≤ unreached
  dart_capped capped k = elim (cases_lt k g.size) [
    | inr past ↦ omega (arith, past_all k past)
    | inl within ↦ elim (cases_Bool (is_name g k)) [
      | inr none ↦ omega (arith, not_named k within none)
      | inl h ↦
          let here : slice_index (dart_heights g face heights) k ≡ number_at heights (face k) = dart_height k within
          ∙ ap (λ (b : Bool). cond {A = ℕ} b (number_at heights (face k)) unreached) h in
          elim (cases_lt (face k) (length heights)) [
            | inl inside ↦ omega (arith, here, get_or_default_zero heights (face k) unreached inside, capped (face k))
            | inr out ↦ omega (arith, here, get_or_past heights (face k) unreached out)
          ]
    ]
  ]

-- ---- One face lowered

module _ (g : Named) (has : IsNamed g) (face : ℕ → ℕ) (heights : List ℕ) (t x : ℕ) (within : face t < length heights) where
  abbrev before : List ℕ
  before = dart_heights g face heights

  abbrev after : List ℕ
  after = dart_heights g face (set heights (face t) x)

  -- each dart of the face has the new height
  pub face_lowered : (k : ℕ) → IsName g k → face k ≡ face t → slice_index after k ≡ x
  face_lowered k l e =
      let inside : face t < length (set heights (face t) x) = omega (arith, length-set heights (face t) x) in
      height_by_name g face (set heights (face t) x) has k l ∙ ap (number_at (set heights (face t) x)) e ∙ get_or-set_same heights (face t) x unreached within

  -- and those of other faces have what they had
  pub face_other : (k : ℕ) → (IsName g k → face k ≢ face t) → slice_index after k ≡ slice_index before k
  face_other k ne = elim (cases_lt k g.size) [
    | inr past ↦ past_all g face (set heights (face t) x) k past ∙ sym (past_all g face heights k past)
    | inl low ↦ elim (cases_Bool (is_name g k)) [
      | inr none ↦ not_named g face (set heights (face t) x) k low none ∙ sym (not_named g face heights k low none)
      | inl h ↦
          let l = name_of_test g k h in
          height_by_name g face (set heights (face t) x) has k l ∙ get_or-set_other heights (face t) (face k) x unreached (ne l)
          ∙ sym (height_by_name g face heights has k l)
    ]
  ]

  pub face_less : IsName g t → x ≤ slice_index before t → (k : ℕ) → slice_index after k ≤ slice_index before k
  face_less there low k = elim (cases_Bool (is_name g k)) [
    | inr none ↦ omega (arith, face_other k (λ l. absurd (false≢true (sym none ∙ test_of_name g k l))))
    | inl h ↦
        let l = name_of_test g k h in
        elim (cases_eq (face k) (face t)) [
          | inl e ↦ omega (arith, face_lowered k l e, one_height g face heights has k t l there e)
          | inr ne ↦ omega (arith, face_other k (λ l. ne))
        ]
  ]

-- ---- Tops that the other end sets

pub even_top : {g : Named} (has : IsNamed g) (face : ℕ → ℕ) (heights : List ℕ) (level most j k : ℕ) → IsName g j → IsName g k → face j ≡ face k
    → top_of level most (dart_heights g face heights) j ≡ top_of level most (dart_heights g face heights) k
even_top {g} has face heights level most j k lj lk e = ap (λ n. max level (most + 1 - n)) (one_number g face heights has j k lj lk e)
