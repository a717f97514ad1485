use Rattle.std.proofs.Common.{◌≡◌, true, ap, ◌∙◌, subst}
use Rattle.topo_map.specs.Rotation.{Rotation, is_live}
use Rattle.topo_map.specs.Segments.{holds}
use Rattle.topo_map.proofs.Kept.{live_next}
use Rattle.topo_map.proofs.Steps.{live_twin}
use Rattle.topo_map.proofs.embedding.Embedding.face_next.Goals as goal

pub next-requires : goal.next-requires
next-requires c = live_twin c.self.inside.segments c.args.h c.twin.result c.twin.ensures (ap (λ (r : Rotation). is_live r c.args.h) c.self.view_is ∙ c.requires)

pub returns-clause-live : goal.returns-clause-live
returns-clause-live c = subst (λ (r : Rotation). is_live r c.next.result ≡ true) c.self.view_is
    (ap (holds c.self.inside.segments) c.next.ensures ∙ live_next c.self.inside.segments c.twin.result c.self.invariant.kept
    (live_twin c.self.inside.segments c.args.h c.twin.result c.twin.ensures (ap (λ (r : Rotation). is_live r c.args.h) c.self.view_is ∙ c.requires)))
