use Rattle.std.proofs.Common.{◌≡◌, true, ap, ◌∙◌, subst}
use Rattle.topo_map.specs.Rotation.{Rotation, is_live}
use Rattle.topo_map.proofs.Steps.{live_twin}
use Rattle.topo_map.proofs.embedding.Embedding.twin.Goals as goal

pub returns-clause-live : goal.returns-clause-live
returns-clause-live c = subst (λ (r : Rotation). is_live r c.twin.result ≡ true) c.self.view_is
    (live_twin c.self.inside.segments c.args.h c.twin.result c.twin.ensures (ap (λ (r : Rotation). is_live r c.args.h) c.self.view_is ∙ c.requires))
