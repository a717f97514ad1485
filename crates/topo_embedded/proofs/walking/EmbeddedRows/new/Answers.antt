use Rattle.std.proofs.Common.{arith, rules}
use Rattle.topo_map.specs.Rotation.{turn_in}
use Rattle.topo_route.specs.Names.{HasFaces}
use Rattle.topo_embedded.specs.Walking.{named_in}
use Rattle.topo_embedded.proofs.halves.LabelledFaces.{are_live, walked_faces}
use Rattle.topo_embedded.proofs.walking.EmbeddedRows.new.Goals as goal

pub invariant_of-result : goal.invariant_of-result
invariant_of-result c =
    let told : ∥ HasFaces (named_in c.args.embedded.now c.size-size.result) (turn_in c.search_parts.result.0.now.labels) c.labels-labels.result ∥₁ =
    ∣ walked_faces c.args.embedded.now c.requires.lawful.embedding.well_formed c.search_parts.result.0.now c.search_parts.ensures.shows
    c.labels-labels.ensures.tell c.labels-labels.result c.labels-labels.ensures.above c.size-size.result ∣₁ in
    (c.size-size.ensures.named, (∣ c.requires.lawful ∣₁, (told, (c.search_parts.ensures.consistent c.size-size.result, search rules))))

pub invariant_of-result-2 : goal.invariant_of-result-2
invariant_of-result-2 c = (
  (let many = c.size-size.ensures.many in let few = c.size-size.type_inv in omega (arith, many, few)),
  c.requires.vertices,
  are_live c.args.embedded.now c.requires.lawful.embedding.well_formed c.search_parts.result.0.now c.search_parts.ensures.shows,
  c.search_parts.ensures.shows,
)
