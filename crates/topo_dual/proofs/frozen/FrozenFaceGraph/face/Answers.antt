use Rattle.std.proofs.Common.{◌∙◌, List, ap, slice_index, ℕ}
use Rattle.topo_dual.proofs.frozen.FrozenFaceGraph.face.Goals as goal

pub returns : goal.returns
returns c = c.face.ensures ∙ ap (λ (xs : List ℕ). slice_index xs c.args.dart) c.as_numbered.ensures.faces
