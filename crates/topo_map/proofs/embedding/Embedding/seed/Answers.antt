use Rattle.std.proofs.Common.{◌∙◌}
use Rattle.topo_map.proofs.Joining.{empty_alone, none_held, seed_made}
use Rattle.topo_map.proofs.FaceEdits.{seed_labels}
use Rattle.topo_map.proofs.embedding.Embedding.seed.Goals as goal

pub insert_isolated-half-requires-clause-kept : goal.insert_isolated-half-requires-clause-kept
insert_isolated-half-requires-clause-kept c = (empty_alone c.reserve.new.segments (c.in_ok-reserve.ensures.slots ∙ c.none-segments.ensures)).kept

pub returns-clause-labels : goal.returns-clause-labels
returns-clause-labels c = (c.insert_isolated-half.ensures.label.here, c.insert_isolated-half.ensures.label.here_twin)

pub returns-clause-made : goal.returns-clause-made
returns-clause-made c = seed_made c.reserve.new.segments c.insert_isolated-half.new.segments c.insert_isolated-half.result
    (c.in_ok-reserve.ensures.slots ∙ c.none-segments.ensures) c.insert_isolated-half.ensures.inserted

pub invariant_of-result : goal.invariant_of-result
invariant_of-result c = record {
  kept = c.insert_isolated-half.ensures.inserted.kept;
  labels = seed_labels c.reserve.new.segments c.insert_isolated-half.new.segments c.insert_isolated-half.result
      (none_held c.reserve.new.segments (c.in_ok-reserve.ensures.slots ∙ c.none-segments.ensures))
      (record {
        sound = (empty_alone c.reserve.new.segments (c.in_ok-reserve.ensures.slots ∙ c.none-segments.ensures)).kept;
        inserted = c.insert_isolated-half.ensures.inserted;
      })
      c.insert_isolated-half.ensures.faces;
}
