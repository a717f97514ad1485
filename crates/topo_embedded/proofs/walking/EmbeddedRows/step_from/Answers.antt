use Rattle.std.proofs.Common.{◌≡◌, ◌∙◌, subst, true}
use Rattle.topo_core.specs.Picture.{darts, system}
use Rattle.topo_core.specs.Systems.{face_step, has_dart}
use Rattle.topo_core.specs.declared.darts.Dart.{Dart}
use Rattle.topo_rows.specs.Recovering.{well_formed_again}
use Rattle.topo_embedded.specs.Halves.{half_in}
use Rattle.topo_embedded.specs.Walking.{FaceGraphRows}
use Rattle.topo_embedded.proofs.halves.Numbers.{face_half}
use Rattle.topo_embedded.proofs.walking.EmbeddedRows.step_from.Goals as goal

pub returns-clause-next : goal.returns-clause-next
returns-clause-next c =
    let p = c.self.inside.embedded.now in
    let good = well_formed_again p.rows c.self.inside.lawful in
    subst (λ (g : FaceGraphRows). (d : Dart) → has_dart (darts g.embedded.rows) d ≡ true → half_in g.embedded d ≡ c.args.half
    → c.step.result.0 ≡ half_in g.embedded (face_step (system g.embedded.rows) d)) c.self.view_is
    (λ d there is. c.step.ensures.next ∙ face_half p good c.self.inside.segments.now c.self.invariant.3 c.args.half d there is)
