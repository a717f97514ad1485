use Rattle.std.proofs.Common.{refl, ◌≡◌, ◌≢◌, ap, ◌∙◌, sym, subst, Bool, ℕ}
use Rattle.topo_core.specs.Rotations.{twin}
use Rattle.topo_core.specs.Edits.{IsSmooth}
use Rattle.topo_map.specs.Rotation.{KeepsLabels, edge_of, CountsFewer, Rotation, Shrinks, half_limit, turn, is_live}
use Rattle.topo_map.specs.Segments.{face_in, holds, label_in, next_in, view_of}
use Rattle.topo_map.proofs.Kept.{live_next}
use Rattle.topo_map.proofs.FaceEdits.{smooth_labelled}
use Rattle.topo_map.proofs.Steps.{labels_kept, IsSmoothed, smoothed_out, live_twin, turned_live}
use Rattle.topo_map.proofs.embedding.Embedding.smooth.Goals as goal

pub put_before-requires-clause-live : goal.put_before-requires-clause-live
put_before-requires-clause-live c = turned_live c.self.inside.segments c.take_out.new.segments _ c.next-other.result (next_in c.self.inside.segments c.args.x)
    c.take_out.ensures.turned c.next-other.ensures
    (live_next c.self.inside.segments c.args.x c.self.invariant.kept (ap (λ (r : Rotation). is_live r c.args.x) c.self.view_is ∙ c.requires.live))

pub put_before-requires-clause-live_corner : goal.put_before-requires-clause-live_corner
put_before-requires-clause-live_corner c =
    turned_live c.self.inside.segments c.take_out.new.segments _ c.twin-end.result c.twin-end.result c.take_out.ensures.turned refl
    (live_twin c.self.inside.segments c.args.x c.twin-end.result c.twin-end.ensures
    (ap (λ (r : Rotation). is_live r c.args.x) c.self.view_is ∙ c.requires.live))

pub take_out-requires-2-clause-live : goal.take_out-requires-2-clause-live
take_out-requires-2-clause-live c = ap (λ (l : ℕ → Bool). l c.twin-end.result) c.put_before.ensures.turned.live
    ∙ turned_live c.self.inside.segments c.take_out.new.segments _ c.twin-end.result c.twin-end.result c.take_out.ensures.turned refl
    (live_twin c.self.inside.segments c.args.x c.twin-end.result c.twin-end.ensures
    (ap (λ (r : Rotation). is_live r c.args.x) c.self.view_is ∙ c.requires.live))

done : (c : goal.After-remove_isolated) → IsSmoothed c.self.inside.segments c.remove_isolated.new.segments c.args.x
done c = smoothed_out
    (record {
      kept = c.self.invariant.kept;
      live = ap (λ (r : Rotation). is_live r c.args.x) c.self.view_is ∙ c.requires.live;
      degree_two = subst (λ (r : Rotation). turn r (turn r c.args.x) ≡ c.args.x) (sym c.self.view_is) c.requires.degree_two;
      not_alone = subst (λ (r : Rotation). turn r c.args.x ≢ c.args.x) (sym c.self.view_is) c.requires.not_alone;
      two_segments = subst (λ (r : Rotation). turn r c.args.x ≢ twin c.args.x) (sym c.self.view_is) c.requires.two_segments;
      onward = c.next-other.ensures;
      other = c.twin-end.ensures;
    }) c.take_out.ensures.turned c.put_before.ensures.turned c.take_out-2.ensures.turned c.remove_isolated.ensures.removed

pub invariant_of-self : goal.invariant_of-self
invariant_of-self c = record {
  kept = (done c).taken.sound;
  labels = smooth_labelled c.self.inside.segments c.remove_isolated.new.segments (face_in c.take_out-2.new.segments)
      c.args.x c.self.inside.unused c.self.invariant.kept (done c)
      (c.take_out-2.ensures.faces ∙ c.put_before.ensures.faces ∙ c.take_out.ensures.faces) c.remove_isolated.ensures.faces c.self.invariant.labels;
}

pub returns-clause-edit : goal.returns-clause-edit
returns-clause-edit c =
    subst (λ (r : Rotation). IsSmooth (turn r) (turn (view_of c.remove_isolated.new.segments)) half_limit c.args.x) c.self.view_is (done c).allowed.edit

pub returns-clause-shrinks : goal.returns-clause-shrinks
returns-clause-shrinks c = subst (λ (r : Rotation). Shrinks r (view_of c.remove_isolated.new.segments) c.args.x) c.self.view_is (done c).taken.shrinks

pub returns-clause-counts : goal.returns-clause-counts
returns-clause-counts c = subst (λ (r : Rotation). CountsFewer r (view_of c.remove_isolated.new.segments) 1 0) c.self.view_is (done c).counts

pub returns-clause-labels : goal.returns-clause-labels
returns-clause-labels c =
    subst (λ (r : Rotation). KeepsLabels (holds c.remove_isolated.new.segments) (edge_of r) (label_in c.remove_isolated.new.segments)) c.self.view_is
    (labels_kept c.self.inside.segments c.take_out-2.new.segments c.remove_isolated.new.segments
    (c.take_out-2.ensures.turned.edges ∙ c.put_before.ensures.turned.edges ∙ c.take_out.ensures.turned.edges) c.remove_isolated.ensures.labels)
