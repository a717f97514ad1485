use Rattle.std.proofs.Common.{refl}
use mathlib.Core.Logic.{∥∥₁_map}
use Rattle.topo_versions.proofs.store.StoreWriterVersionWriter.publish.Goals as goal

pub invariant_of-self : goal.invariant_of-self
invariant_of-self g c = record { in_step = ∥∥₁_map c.args.self.now.in_step (λ x. (x.0, x.1, x.2, refl)) }
