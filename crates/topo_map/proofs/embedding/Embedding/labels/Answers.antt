use Rattle.std.proofs.Common.{◌<◌, ◌∙◌, ap, subst}
use Rattle.topo_map.specs.Rotation.{Rotation, TellsFaces, face_of, is_live}
use Rattle.topo_map.proofs.embedding.Embedding.labels.Goals as goal

pub returns-clause-tell : goal.returns-clause-tell
returns-clause-tell c = subst (λ (r : Rotation). TellsFaces r) c.self.view_is c.self.invariant.labels.labels

pub returns-clause-above : goal.returns-clause-above
returns-clause-above c a h = subst (λ (r : Rotation). face_of r a < c.self.inside.unused) c.self.view_is
    (c.self.invariant.labels.below a (ap (λ (r : Rotation). is_live r a) c.self.view_is ∙ h))
