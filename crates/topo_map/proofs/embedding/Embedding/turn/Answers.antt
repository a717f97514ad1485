use Rattle.std.proofs.Common.{◌≡◌, true, ap, ◌∙◌, subst}
use Rattle.topo_map.specs.Rotation.{Rotation, is_live}
use Rattle.topo_map.specs.Segments.{holds}
use Rattle.topo_map.proofs.Kept.{live_next}
use Rattle.topo_map.proofs.embedding.Embedding.turn.Goals as goal

pub returns-clause-live : goal.returns-clause-live
returns-clause-live c = subst (λ (r : Rotation). is_live r c.next.result ≡ true) c.self.view_is
    (ap (holds c.self.inside.segments) c.next.ensures
    ∙ live_next c.self.inside.segments c.args.h c.self.invariant.kept (ap (λ (r : Rotation). is_live r c.args.h) c.self.view_is ∙ c.requires))
