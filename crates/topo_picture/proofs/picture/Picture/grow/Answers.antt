use Rattle.std.proofs.Common.{◌≡◌, None, subst, sym}
use Rattle.topo_core.specs.Steps.{grow_refusal}
use Rattle.topo_picture.proofs.Failures.{rows_left}
use Rattle.topo_picture.proofs.Growing.{after_growth}
use Rattle.topo_picture.proofs.picture.Picture.grow.Goals as goal

pub invariant_of-self : goal.invariant_of-self
invariant_of-self c =
    let accepted = subst (λ rows. None ≡ grow_refusal c.self.inside.limits rows c.args.u c.args.position c.args.kind) c.rows.ensures
    (sym c.in_ok-made.ensures.admitted) in
    after_growth c.grow.result c.self.inside.limits c.self.inside.embedded.rows c.args.u c.args.position c.args.kind
    c.grow.ensures.ok (rows_left c.grow.result c.grow.new.self c.self.inside.embedded c.grow.ensures.err) c.self.invariant accepted

pub returns-clause-lawful : goal.returns-clause-lawful
returns-clause-lawful c =
    let accepted = subst (λ rows. None ≡ grow_refusal c.self.inside.limits rows c.args.u c.args.position c.args.kind) c.rows.ensures
    (sym c.in_ok-made.ensures.admitted) in
    after_growth c.grow.result c.self.inside.limits c.self.inside.embedded.rows c.args.u c.args.position c.args.kind
    c.grow.ensures.ok (rows_left c.grow.result c.grow.new.self c.self.inside.embedded c.grow.ensures.err) c.self.invariant accepted
