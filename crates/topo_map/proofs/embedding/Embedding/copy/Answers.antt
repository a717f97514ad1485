use Rattle.std.proofs.Common.{◌≡◌, ◌∙◌, ap, rules, List, Option, map}
use Rattle.std.specs.Option.{option_map}
use Rattle.slab.specs.Slab.{Slab}
use Rattle.topo_map.specs.Rotation.{Rotation}
use Rattle.topo_map.specs.Segments.{nexts}
use Rattle.topo_map.specs.Labels.{IsSound}
use Rattle.topo_map.specs.declared.segments.Segment.{Segment}
use Rattle.topo_map.proofs.FaceEdits.{same_slots_sound}
use Rattle.topo_map.proofs.embedding.Embedding.copy.Goals as goal

pub invariant_of-result : goal.invariant_of-result
invariant_of-result c =
    let sound : (s : Slab Segment) → s.slots ≡ c.in_ok-segments.segments.slots → IsSound s c.self.inside.unused =
    λ s e. same_slots_sound c.self.inside.segments s c.self.inside.unused (e ∙ c.in_ok-segments.ensures.slots) c.self.invariant in
    search (rules, sound)

pub returns-clause-slots : goal.returns-clause-slots
returns-clause-slots c = ap (λ (l : List (Option Segment)). map (option_map nexts) l) c.in_ok-segments.ensures.slots
    ∙ ap (λ (r : Rotation). r.slots) c.self.view_is
