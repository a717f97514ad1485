-- Labels of which it is merely known that they tell faces apart do tell them apart: whether two darts lie in one face can be tried.
use Rattle.std.proofs.Common.{◌≡◌, ◌<◌, length, subst, sym, true, ℕ}
use Rattle.std.proofs.Math.Bool.{Bool-set}
use Rattle.std.proofs.Math.Nat.{ℕ_set}
use Rattle.std.proofs.Math.Logic.{∥∥₁_elim, ∥∥₁_map}
use Rattle.std.proofs.Props.{props}
use Rattle.topo_core.specs.declared.darts.Dart.{Dart}
use Rattle.topo_core.specs.declared.rows.Rows.{Rows}
use Rattle.topo_core.specs.Cycles.{is_met}
use Rattle.topo_core.specs.Lawful.{Lawful}
use Rattle.topo_core.specs.Picture.{darts, index_of, system}
use Rattle.topo_core.specs.Systems.{SameFace, has_dart}
use Rattle.topo_core.proofs.Interface.{SameCycle-is_met, is_met-SameCycle}
use Rattle.topo_route.specs.Names.{HasFaces, Named, dart_named}
use Rattle.topo_route.specs.Numbers.{dart_of, next_of}
use Rattle.topo_route.proofs.Interface.{dart_of_number, face_of_numbers, next_permutes, number_below, numbers_of_face}

one_face : (rows : Rows) → Lawful rows → (c d : Dart) → has_dart (darts rows) c ≡ true → has_dart (darts rows) d ≡ true → ∥ SameFace (system rows) c d ∥₁
    → SameFace (system rows) c d
one_face rows lawful c d hc hd merely =
    let n : ℕ = length (darts rows) in
    let i : ℕ = index_of rows c in
    let j : ℕ = index_of rows d in
    let li : i < n = number_below rows lawful c hc in
    let lj : j < n = number_below rows lawful d hd in
    let ec : dart_of rows i ≡ c = dart_of_number rows lawful c hc in
    let ed : dart_of rows j ≡ d = dart_of_number rows lawful d hd in
    let met : is_met (next_of rows) n i j ≡ true = ∥∥₁_elim merely (Bool-set (is_met (next_of rows) n i j) true)
    (λ same. SameCycle-is_met (next_of rows) n (next_permutes rows lawful) i j li
    (numbers_of_face rows lawful i d li (subst (λ (x : Dart). SameFace (system rows) x d) (sym ec) same))) in
    subst (λ (x : Dart). SameFace (system rows) x d) ec
    (subst (λ (y : Dart). SameFace (system rows) (dart_of rows i) y) ed (face_of_numbers rows lawful i j li lj (is_met-SameCycle (next_of rows) n i j met)))

pub faces_known : (g : Named) → Lawful g.rows → (face : ℕ → ℕ) (bound : ℕ) → ∥ HasFaces g face bound ∥₁ → HasFaces g face bound
faces_known g lawful face bound merely = record {
  within = λ k h. (let fact : IsProp (face k < bound) = hlevel props in ∥∥₁_elim merely fact (λ t. t.within k h));
  same = λ j k hj hk f. ∥∥₁_elim merely (ℕ_set (face j) (face k)) (λ t. t.same j k hj hk f);
  one = λ j k hj hk e. one_face g.rows lawful (dart_named g j) (dart_named g k) hj.there hk.there (∥∥₁_map merely (λ t. t.one j k hj hk e));
}
