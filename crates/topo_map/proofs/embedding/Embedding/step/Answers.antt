use Rattle.std.proofs.Common.{◌≡◌, true, ap, ◌∙◌, subst}
use Rattle.topo_map.specs.Rotation.{Rotation, is_live}
use Rattle.topo_map.specs.Segments.{holds}
use Rattle.topo_map.proofs.Kept.{live_next}
use Rattle.topo_map.proofs.Steps.{live_twin}
use Rattle.topo_map.proofs.embedding.Embedding.step.Goals as goal

pub around-requires : goal.around-requires
around-requires c = live_twin c.self.inside.segments c.args.h c.twin.result c.twin.ensures
    (ap (λ (r : Rotation). is_live r c.args.h) c.self.view_is ∙ c.requires)

pub returns-clause-live : goal.returns-clause-live
returns-clause-live c = subst (λ (r : Rotation). is_live r c.around.result.0 ≡ true) c.self.view_is
    (ap (holds c.self.inside.segments) c.around.ensures.next ∙ live_next c.self.inside.segments c.twin.result c.self.invariant.kept
    (live_twin c.self.inside.segments c.args.h c.twin.result c.twin.ensures (ap (λ (r : Rotation). is_live r c.args.h) c.self.view_is ∙ c.requires)))
