use Rattle.std.proofs.Common.{subst}
use Rattle.topo_map.specs.Rotation.{Rotation, IsEmbedding}
use Rattle.topo_map.proofs.Steps.{whole}
use Rattle.topo_map.proofs.embedding.Embedding.laws.Goals as goal

pub returns : goal.returns
returns c = subst (λ (r : Rotation). IsEmbedding r) c.self.view_is (whole c.self.inside.segments c.self.invariant.kept)
