use Rattle.std.proofs.Common.{arith, ap, ◌∙◌, subst}
use Rattle.topo_core.specs.Edits.{IsUnchord}
use Rattle.topo_map.specs.Rotation.{KeepsLabels, edge_of, CountsFewer, PartsFaces, Rotation, Shrinks, half_limit, turn, is_live}
use Rattle.topo_map.specs.Segments.{holds, label_in, view_of}
use Rattle.topo_map.proofs.FaceEdits.{unhung_labels}
use Rattle.topo_map.proofs.Steps.{labels_kept, IsUnchorded, unchord_alone, without_alone, unchorded, same_twin}
use Rattle.topo_map.proofs.embedding.Embedding.unchord.Goals as goal

pub take_out-requires-clause-live : goal.take_out-requires-clause-live
take_out-requires-clause-live c = grind (arith, same_twin)

done : (c : goal.After-remove_isolated) → IsUnchorded c.self.inside.segments c.remove_isolated.new.segments c.args.h
done c = unchorded c.twin.result c.self.invariant.kept
    (ap (λ (r : Rotation). is_live r c.args.h) c.self.view_is ∙ c.requires)
    c.twin.ensures c.detach-self-inside.ensures.turned c.take_out.ensures.turned c.remove_isolated.ensures.removed

pub detach-self-inside-requires-clause-live : goal.detach-self-inside-requires-clause-live
detach-self-inside-requires-clause-live c = ap (λ (r : Rotation). is_live r c.args.h) c.self.view_is ∙ c.requires

pub invariant_of-self : goal.invariant_of-self
invariant_of-self c = record {
  kept = (done c).taken.sound;
  labels = unhung_labels c.twin.result
      (ap (λ (r : Rotation). is_live r c.args.h) c.self.view_is ∙ c.requires)
      c.twin.ensures c.detach-self-inside.ensures.turned c.take_out.ensures.turned c.take_out.ensures.faces c.remove_isolated.ensures.removed
      c.remove_isolated.ensures.faces c.detach-self-inside.ensures.labels;
}

pub returns-clause-edit : goal.returns-clause-edit
returns-clause-edit c =
    subst (λ (r : Rotation). IsUnchord (turn r) (turn (view_of c.remove_isolated.new.segments)) half_limit c.args.h) c.self.view_is (done c).edit

pub returns-clause-shrinks : goal.returns-clause-shrinks
returns-clause-shrinks c = subst (λ (r : Rotation). Shrinks r (view_of c.remove_isolated.new.segments) c.args.h) c.self.view_is (done c).taken.shrinks

pub returns-clause-counts : goal.returns-clause-counts
returns-clause-counts c =
    subst (λ (r : Rotation). PartsFaces r c.args.h → CountsFewer r (view_of c.remove_isolated.new.segments) 0 1) c.self.view_is (done c).counts

pub remove_isolated-requires-clause-alone : goal.remove_isolated-requires-clause-alone
remove_isolated-requires-clause-alone c = unchord_alone c.self.inside.segments c.detach-self-inside.new.segments c.take_out.new.segments c.args.h c.twin.result
    c.twin.ensures c.detach-self-inside.ensures.turned c.take_out.ensures.turned

pub remove_isolated-requires-clause-twin_alone : goal.remove_isolated-requires-clause-twin_alone
remove_isolated-requires-clause-twin_alone c =
    without_alone c.detach-self-inside.new.segments c.take_out.new.segments c.args.h c.twin.result c.twin.ensures c.take_out.ensures.turned

pub returns-clause-labels : goal.returns-clause-labels
returns-clause-labels c =
    subst (λ (r : Rotation). KeepsLabels (holds c.remove_isolated.new.segments) (edge_of r) (label_in c.remove_isolated.new.segments)) c.self.view_is
    (labels_kept c.self.inside.segments c.take_out.new.segments c.remove_isolated.new.segments
    (c.take_out.ensures.turned.edges ∙ c.detach-self-inside.ensures.turned.edges) c.remove_isolated.ensures.labels)
