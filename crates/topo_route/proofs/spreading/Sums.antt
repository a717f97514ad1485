-- The least sum of heights from two ends.
use Rattle.std.proofs.Common.{◌≡◌, ℕ, ◌+◌, ◌<◌, ◌≤◌, List, [], length, inl, inr, ap, refl, arith, ◌∙◌}
use Rattle.std.specs.Prelude.{min, slice_index}
use Rattle.std.proofs.Math.ListN.{set}
use Rattle.std.proofs.lemmas.Bool.{cases_eq, cases_lt}
use Rattle.std.proofs.lemmas.Grind.{get_or_default_zero}
use Rattle.topo_core.specs.Routes.{unreached}
use Rattle.topo_route.specs.FaceHeights.{dart_heights}
use Rattle.topo_route.specs.Names.{IsName, IsNamed, Named}
use Rattle.topo_route.specs.Settling.{AreSums, number_at}
use Rattle.topo_route.proofs.spreading.FaceHeights.{face_less, face_lowered, face_other, number_by_name}
use Rattle.topo_route.proofs.names.Names.{name_below}

-- one face is lowered
pub sums_lowered : {g : Named} (has : IsNamed g) (face : ℕ → ℕ) (heights others : List ℕ) {least t : ℕ} (x : ℕ) {lower : ℕ} → IsName g t
    → face t < length heights → x ≤ slice_index (dart_heights g face heights) t
    → AreSums g (dart_heights g face heights) (dart_heights g face others) least → lower ≡ min least (x + number_at others (face t))
    → AreSums g (dart_heights g face (set heights (face t) x)) (dart_heights g face others) lower
sums_lowered {g} has face heights others {least} {t} x there within low sums is = record {
  sums = λ k l. elim (cases_eq (face k) (face t)) [
    | inl e ↦
        let here = face_lowered g has face heights t x within k l e in
        let other = number_by_name g face others has k l ∙ ap (number_at others) e in omega arith
    | inr ne ↦ omega (arith, face_other g has face heights t x within k (λ l. ne), sums.sums k l)
  ];
  attained = λ some. elim (cases_lt (x + number_at others (face t)) least) [
    | inl less ↦ (t, there, omega (arith, face_lowered g has face heights t x within t there refl, number_by_name g face others has t there))
    | inr more ↦
        let (k, l, at) = sums.attained (omega arith) in
        (k, l, omega (arith, face_less g has face heights t x within there low k))
  ];
}

pub number_within : (others : List ℕ) (k : ℕ) → k < length others → number_at others k ≡ slice_index others k
number_within others k within = get_or_default_zero others k unreached within

-- seen from the other end
pub sums_swapped : (g : Named) → IsNamed g → (heights others : List ℕ) (least : ℕ) → length heights ≡ g.size → length others ≡ g.size
    → AreSums g heights others least
    → AreSums g others heights least
sums_swapped g has heights others least one_each other_each sums = record {
  sums = λ k l. omega (arith, name_below g has k l, number_within heights k, number_within others k, sums.sums k l);
  attained = λ some.
      let (k, l, at) = sums.attained some in
      (k, l, omega (arith, name_below g has k l, number_within heights k, number_within others k));
}

-- where nothing is known of the other end there are no sums
pub none_alone : (g : Named) (has : IsNamed g) (face : ℕ → ℕ) (heights : List ℕ) (least : ℕ) → least ≤ unreached
    → AreSums g heights (dart_heights g face []) least → least ≡ unreached
none_alone g has face heights least small sums = elim (cases_eq least unreached) [
  | inl e ↦ e
  | inr ne ↦ let (k, l, at) = sums.attained ne in let alone : number_at (dart_heights g face []) k ≡ unreached = number_by_name g face [] has k l in
      absurd (omega arith)
]
