use Rattle.std.proofs.Common.{sym, ◌∙◌, ap, subst}
use Rattle.std.proofs.lemmas.Bool.{eq-eqb, eqb-true}
use Rattle.topo_core.specs.Cycles.{SameCycle}
use Rattle.topo_core.specs.Rotations.{face_next}
use Rattle.topo_map.specs.Rotation.{Rotation, is_live, turn}
use Rattle.topo_map.specs.Labels.{IsLabelled}
use Rattle.topo_map.proofs.embedding.Embedding.same_face.Goals as goal

pub returns : goal.returns
returns c =
    let w : IsLabelled c.self.inside.segments c.self.inside.unused = c.self.invariant.labels in
    let ha = ap (λ (r : Rotation). is_live r c.args.a) c.self.view_is ∙ c.requires.live in
    let hb = ap (λ (r : Rotation). is_live r c.args.b) c.self.view_is ∙ c.requires.live_other in (
      λ t. subst (λ (r : Rotation). SameCycle (face_next (turn r)) c.args.a c.args.b) c.self.view_is
          (w.labels.same_face c.args.a c.args.b ha hb (sym c.face.ensures ∙ eqb-true _ _ t ∙ c.face-2.ensures)),
      λ s. eq-eqb _ _ (c.face.ensures ∙ w.labels.same_label c.args.a c.args.b ha hb
          (subst (λ (r : Rotation). SameCycle (face_next (turn r)) c.args.a c.args.b) (sym c.self.view_is) s) ∙ sym c.face-2.ensures),
    )
