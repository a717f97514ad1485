use Rattle.std.proofs.Common.{arith, ap, ◌∙◌, subst, Bool, ℕ}
use Rattle.topo_core.specs.Edits.{IsSplit}
use Rattle.topo_core.specs.Rotations.{twin}
use Rattle.topo_map.specs.Rotation.{AddsFaces, AddsLabel, edge_of, face_of, CountsMore, Rotation, Grows, half_limit, turn, is_live}
use Rattle.topo_map.specs.Segments.{face_in, holds, label_in, view_of}
use Rattle.topo_map.proofs.FaceEdits.{faces_given, split_labelled}
use Rattle.topo_map.proofs.Steps.{label_added, IsSplitUp, twin_alone, split_alone, splitted, still_live, live_twin}
use Rattle.topo_map.proofs.embedding.Embedding.split.Goals as goal

pub put_before-requires-clause-live_corner : goal.put_before-requires-clause-live_corner
put_before-requires-clause-live_corner c = live_twin c.insert_isolated-x.new.segments c.args.h c.twin-end.result c.twin-end.ensures
    (still_live c.self.inside.segments c.insert_isolated-x.new.segments c.insert_isolated-x.result c.args.h
    (record { sound = c.self.invariant.kept; inserted = c.insert_isolated-x.ensures.inserted })
    (ap (λ (r : Rotation). is_live r c.args.h) c.self.view_is ∙ c.requires.live))

pub put_before-requires-clause-alone : goal.put_before-requires-clause-alone
put_before-requires-clause-alone c = grind (arith, twin_alone)

pub take_out-requires-clause-live : goal.take_out-requires-clause-live
take_out-requires-clause-live c = ap (λ (l : ℕ → Bool). l c.twin-end.result) c.put_before.ensures.turned.live
    ∙ live_twin c.insert_isolated-x.new.segments c.args.h c.twin-end.result c.twin-end.ensures
    (still_live c.self.inside.segments c.insert_isolated-x.new.segments c.insert_isolated-x.result c.args.h
    (record { sound = c.self.invariant.kept; inserted = c.insert_isolated-x.ensures.inserted })
    (ap (λ (r : Rotation). is_live r c.args.h) c.self.view_is ∙ c.requires.live))

pub put_before-requires-2-clause-live_corner : goal.put_before-requires-2-clause-live_corner
put_before-requires-2-clause-live_corner c = ap (λ (l : ℕ → Bool). l c.twin-end.result) (c.take_out.ensures.turned.live ∙ c.put_before.ensures.turned.live)
    ∙ live_twin c.insert_isolated-x.new.segments c.args.h c.twin-end.result c.twin-end.ensures
    (still_live c.self.inside.segments c.insert_isolated-x.new.segments c.insert_isolated-x.result c.args.h
    (record { sound = c.self.invariant.kept; inserted = c.insert_isolated-x.ensures.inserted })
    (ap (λ (r : Rotation). is_live r c.args.h) c.self.view_is ∙ c.requires.live))

pub put_before-requires-2-clause-alone : goal.put_before-requires-2-clause-alone
put_before-requires-2-clause-alone c = split_alone c.args.h c.twin.result c.twin-end.result
    (record { sound = c.self.invariant.kept; inserted = c.insert_isolated-x.ensures.inserted })
    (ap (λ (r : Rotation). is_live r c.args.h) c.self.view_is ∙ c.requires.live)
    c.twin.ensures c.twin-end.ensures c.put_before.ensures.turned c.take_out.ensures.turned

done : (c : goal.After-put_before-2) → IsSplitUp c.self.inside.segments c.put_before-2.new.segments c.args.h c.insert_isolated-x.result
done c = splitted c.args.h c.twin.result c.twin-end.result
    (record { sound = c.self.invariant.kept; inserted = c.insert_isolated-x.ensures.inserted })
    (ap (λ (r : Rotation). is_live r c.args.h) c.self.view_is ∙ c.requires.live)
    c.twin.ensures c.twin-end.ensures c.put_before.ensures.turned c.take_out.ensures.turned c.put_before-2.ensures.turned

pub face-left-requires : goal.face-left-requires
face-left-requires c = ap (λ (r : Rotation). is_live r c.args.h) c.self.view_is ∙ c.requires.live

pub face-right-requires : goal.face-right-requires
face-right-requires c =
    live_twin c.self.inside.segments c.args.h c.twin-end.result c.twin-end.ensures (ap (λ (r : Rotation). is_live r c.args.h) c.self.view_is ∙ c.requires.live)

pub invariant_of-self : goal.invariant_of-self
invariant_of-self c = record {
  kept = (done c).added.sound;
  labels = split_labelled c.twin-end.result
      c.self.invariant.kept (ap (λ (r : Rotation). is_live r c.args.h) c.self.view_is ∙ c.requires.live) c.twin-end.ensures (done c)
      c.insert_isolated-x.ensures.faces c.face-left.ensures c.face-right.ensures
      (c.put_before-2.ensures.faces ∙ c.take_out.ensures.faces ∙ c.put_before.ensures.faces) c.self.invariant.labels;
}

pub returns-clause-edit : goal.returns-clause-edit
returns-clause-edit c = subst (λ (r : Rotation). IsSplit (turn r) (turn (view_of c.put_before-2.new.segments)) half_limit c.args.h c.insert_isolated-x.result)
    c.self.view_is (done c).allowed.edit

pub returns-clause-grows : goal.returns-clause-grows
returns-clause-grows c = subst (λ (r : Rotation). Grows r (view_of c.put_before-2.new.segments) c.insert_isolated-x.result) c.self.view_is (done c).added.grows

pub returns-clause-counts : goal.returns-clause-counts
returns-clause-counts c = subst (λ (r : Rotation). CountsMore r (view_of c.put_before-2.new.segments) 1 0) c.self.view_is (done c).counts

pub returns-clause-label : goal.returns-clause-label
returns-clause-label c = subst
    (λ (r : Rotation). AddsLabel (is_live r) (edge_of r) (label_in c.put_before-2.new.segments) c.insert_isolated-x.result (edge_of r c.args.h)) c.self.view_is
    (subst (λ (n : ℕ). AddsLabel (holds c.self.inside.segments) (label_in c.self.inside.segments)
    (label_in c.put_before-2.new.segments) c.insert_isolated-x.result n) c.edge-edge.ensures
    (label_added c.self.inside.segments c.insert_isolated-x.new.segments c.put_before-2.new.segments c.insert_isolated-x.result c.edge-edge.result
    (c.put_before-2.ensures.turned.edges ∙ c.take_out.ensures.turned.edges ∙ c.put_before.ensures.turned.edges) c.insert_isolated-x.ensures.label))

pub returns-clause-faces : goal.returns-clause-faces
returns-clause-faces c = subst
    (λ (r : Rotation). AddsFaces (is_live r) (face_of r) (face_in c.put_before-2.new.segments) c.insert_isolated-x.result (face_of r c.args.h)
    (face_of r (twin c.args.h))) c.self.view_is
    (faces_given (c.put_before-2.ensures.faces ∙ c.take_out.ensures.faces ∙ c.put_before.ensures.faces) c.face-left.ensures
    (c.face-right.ensures ∙ ap (face_in c.self.inside.segments) c.twin-end.ensures) c.insert_isolated-x.ensures.faces)
