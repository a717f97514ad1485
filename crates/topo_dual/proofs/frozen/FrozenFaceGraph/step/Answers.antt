use Rattle.std.proofs.Common.{◌≡◌, ◌∙◌, List, ap, slice_index, subst, sym, ℕ}
use Rattle.topo_core.specs.declared.rows.Rows.{Rows}
use Rattle.topo_route.specs.Names.{IsName, canonical, next_name, twin_name}
use Rattle.topo_dual.proofs.frozen.FrozenFaceGraph.step.Goals as goal

pub step-requires : goal.step-requires
step-requires c = subst (λ (rows : Rows). IsName (canonical rows) c.args.dart) (sym c.as_numbered.ensures.rows) c.requires

pub returns-clause-next : goal.returns-clause-next
returns-clause-next c =
    subst (λ (rows : Rows). c.step.result.0 ≡ next_name (canonical rows) c.args.dart) c.as_numbered.ensures.rows c.step.ensures.next

pub returns-clause-beyond : goal.returns-clause-beyond
returns-clause-beyond c =
    c.step.ensures.beyond
    ∙ ap (λ (xs : List ℕ). slice_index xs (twin_name (canonical c.as_numbered.result.rows) c.args.dart)) c.as_numbered.ensures.faces
    ∙ ap (λ (rows : Rows). slice_index c.args.self.now.faces (twin_name (canonical rows) c.args.dart)) c.as_numbered.ensures.rows
