-- What the tests of an edge apart from a region say.
use Rattle.std.proofs.Common.{◌≡◌, ℕ, Bool, true, false, Option, Some, None, refl, ap, subst, sym, ◌∙◌}
use Rattle.std.specs.Prelude.{◌↔◌, IfSome, IsTrue, not, ◌&&◌}
use Rattle.std.specs.List.{list_all}
use Rattle.topo_core.specs.declared.rows.CrossRow.{CrossRow}
use Rattle.topo_core.specs.declared.rows.EdgeRow.{EdgeRow}
use Rattle.topo_core.specs.declared.rows.Rows.{Rows}
use Rattle.topo_core.specs.Items.{IsIn}
use Rattle.topo_core.specs.Picture.{cross_row, edge_row}
use Rattle.topo_core.proofs.Interface.{all_from, left_true, right_true, test_of_each}
use Rattle.topo_route.specs.Regions.{IsApart, RegionState, holds_edge, holds_vertex}
use Rattle.topo_picture.specs.Apart.{is_of_others, lies_apart}

off : (b : Bool) → not b ≡ true → b ≡ false
off true is = cc
off false is = refl

-- an edge that passes them lies apart
pub is_apart : (rows : Rows) (region : RegionState) (row : EdgeRow) → lies_apart rows region row ≡ true → IsApart rows region row
is_apart rows region row passed =
    let edge = not (holds_edge region row.id) in
    let a = not (holds_vertex region row.a) in
    let b = not (holds_vertex region row.b) in
    let none = list_all (λ x. is_of_others region (cross_row rows x)) row.crossings in
    let first = edge && a in
    let ends : (first && b) ≡ true = left_true (first && b) none passed in
    let last : none ≡ true = right_true (first && b) none passed in
    let start : (edge && a) ≡ true = left_true first b ends in
    record {
      edge = off (holds_edge region row.id) (left_true edge a start);
      a = off (holds_vertex region row.a) (right_true edge a start);
      b = off (holds_vertex region row.b) (right_true first b ends);
      crossed = λ x c there is. off (holds_edge region c.crossed)
          (left_true (not (holds_edge region c.crossed)) (not (holds_edge region c.newcomer)) (one x c last there is));
      newcomer = λ x c there is. off (holds_edge region c.newcomer)
          (right_true (not (holds_edge region c.crossed)) (not (holds_edge region c.newcomer)) (one x c last there is));
    } where
      one : (x : ℕ) (c : CrossRow) → list_all (λ x. is_of_others region (cross_row rows x)) row.crossings ≡ true → IsIn x row.crossings
          → cross_row rows x ≡ Some c
          → (not (holds_edge region c.crossed) && not (holds_edge region c.newcomer)) ≡ true
      one x c passed there is = sym (ap (is_of_others region) is) ∙ test_of_each (λ x. is_of_others region (cross_row rows x)) x row.crossings passed there

on : (b : Bool) → b ≡ false → not b ≡ true
on true is = cc
on false is = refl

both : (a b : Bool) → a ≡ true → b ≡ true → (a && b) ≡ true
both true b is then = then
both false b is then = cc

-- and an edge that lies apart passes them
pub passes : (rows : Rows) (region : RegionState) (row : EdgeRow) → IsApart rows region row → lies_apart rows region row ≡ true
passes rows region row apart =
    let edge = not (holds_edge region row.id) in
    let a = not (holds_vertex region row.a) in
    let b = not (holds_vertex region row.b) in
    let test = λ (x : ℕ). is_of_others region (cross_row rows x) in
    let start = both edge a (on (holds_edge region row.id) apart.edge) (on (holds_vertex region row.a) apart.a) in
    let ends = both (edge && a) b start (on (holds_vertex region row.b) apart.b) in
    both ((edge && a) && b) (list_all test row.crossings) ends (all_from test row.crossings (λ x there. of_others x (cross_row rows x) refl there))
  where
    of_others : (x : ℕ) (o : Option CrossRow) → cross_row rows x ≡ o → IsIn x row.crossings → is_of_others region o ≡ true
    of_others x None is there = refl
    of_others x (Some c) is there =
        both (not (holds_edge region c.crossed)) (not (holds_edge region c.newcomer)) (on (holds_edge region c.crossed) (apart.crossed x c there is))
        (on (holds_edge region c.newcomer) (apart.newcomer x c there is))

-- so the tests decide of the edge that was found
pub found_apart : (rows : Rows) (region : RegionState) (edge : ℕ) (row : EdgeRow) (test : Bool) → Some row ≡ edge_row rows edge
    → test ≡ lies_apart rows region row → IsTrue test ↔ IfSome (edge_row rows edge) (IsApart rows region)
found_apart rows region edge row test there is = (
  λ passed. subst (λ o. IfSome o (IsApart rows region)) there (is_apart rows region row (sym is ∙ passed)),
  λ apart. is ∙ passes rows region row (subst (λ o. IfSome o (IsApart rows region)) (sym there) apart),
)
