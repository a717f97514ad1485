use Rattle.std.proofs.Common.{◌≡◌, ℕ, false, true, ap, arith, inr, is_some, None, not, Option, refl, Some, sym, ◌∙◌}
use Rattle.std.specs.Option.{option_map}
use Rattle.topo_core.specs.Changes.{IsCut, IsLocalCut}
use Rattle.topo_core.specs.Picture.{edge_row}
use Rattle.topo_picture.proofs.DeletedPicture.{cut_of_picture, in_view, whole_of_picture}
use Rattle.topo_picture.proofs.picture.Picture.admit_deletion.Goals as goal

still_some : {A B : Type 0} (f : A → B) (o : Option A) → is_some (option_map f o) ≡ is_some o
still_some f None = refl
still_some f (Some x) = refl

some_there : {A : Type 0} (o : Option A) → not (is_some o) ≡ false → is_some o ≡ true
some_there None h = cc
some_there (Some x) h = refl

pub returns-in-None-clause-whole : goal.returns-in-None-clause-whole
returns-in-None-clause-whole c =
    let there : is_some (edge_row c.self.inside.embedded.rows c.args.edge) ≡ true =
    ap is_some (sym c.find_edge.ensures) ∙ still_some (λ x. x.now) c.find_edge.result
    ∙ some_there c.find_edge.result (let none = c.if-is_none.false in grind arith) in
    in_view c.self.inside.limits c.self.inside.embedded.rows c.args.self.now c.self.view_is (λ rows. (i : ℕ) → IsCut rows c.args.edge i → ⊥)
    (whole_of_picture c.self.inside.limits c.self.inside.embedded.rows c.args.edge c.self.invariant there
    c.in-None.ensures)

pub returns-in-Some-clause-refused : goal.returns-in-Some-clause-refused
returns-in-Some-clause-refused c =
    let there : is_some (edge_row c.self.inside.embedded.rows c.args.edge) ≡ true =
    ap is_some (sym c.find_edge.ensures) ∙ still_some (λ x. x.now) c.find_edge.result
    ∙ some_there c.find_edge.result (let none = c.if-is_none.false in grind arith) in
    let cut : IsLocalCut c.self.inside.embedded.rows c.args.edge c.in-Some.segment = c.in-Some.ensures in
    inr (
      c.in-Some.segment,
      refl,
      in_view c.self.inside.limits c.self.inside.embedded.rows c.args.self.now c.self.view_is (λ rows. is_some (edge_row rows c.args.edge) ≡ true) there,
      in_view c.self.inside.limits c.self.inside.embedded.rows c.args.self.now c.self.view_is (λ rows. IsCut rows c.args.edge c.in-Some.segment)
          (cut_of_picture c.self.inside.limits c.self.inside.embedded.rows c.args.edge c.self.invariant there c.in-Some.segment cut),
    )
