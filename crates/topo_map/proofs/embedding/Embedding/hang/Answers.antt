use Rattle.std.proofs.Common.{ap, ◌∙◌, subst}
use Rattle.topo_core.specs.Edits.{IsHang}
use Rattle.topo_map.specs.Rotation.{AddsFaces, AddsLabel, edge_of, face_of, CountsMore, Rotation, Grows, half_limit, turn, is_live}
use Rattle.topo_map.specs.Segments.{face_in, label_in, view_of}
use Rattle.topo_map.proofs.FaceEdits.{faces_given, hung_labels}
use Rattle.topo_map.proofs.Steps.{IsHung, alone, hung, label_added}
use Rattle.topo_map.proofs.embedding.Embedding.hang.Goals as goal

pub put_before-requires-clause-alone : goal.put_before-requires-clause-alone
put_before-requires-clause-alone c = alone c.self.inside.segments c.insert_isolated-x.new.segments c.insert_isolated-x.result
    (record { sound = c.self.invariant.kept; inserted = c.insert_isolated-x.ensures.inserted })

done : (c : goal.After-put_before) → IsHung c.self.inside.segments c.put_before.new.segments c.args.c c.insert_isolated-x.result
done c = hung c.self.inside.segments c.insert_isolated-x.new.segments c.put_before.new.segments c.args.c c.insert_isolated-x.result
    (record { sound = c.self.invariant.kept; inserted = c.insert_isolated-x.ensures.inserted })
    (ap (λ (r : Rotation). is_live r c.args.c) c.self.view_is ∙ c.requires.live)
    c.put_before.ensures.turned

pub face-label-requires : goal.face-label-requires
face-label-requires c = ap (λ (r : Rotation). is_live r c.args.c) c.self.view_is ∙ c.requires.live

pub invariant_of-self : goal.invariant_of-self
invariant_of-self c = record {
  kept = (done c).added.sound;
  labels = hung_labels c.args.c
      (record { sound = c.self.invariant.kept; inserted = c.insert_isolated-x.ensures.inserted })
      (ap (λ (r : Rotation). is_live r c.args.c) c.self.view_is ∙ c.requires.live)
      c.put_before.ensures.turned c.insert_isolated-x.ensures.faces c.face-label.ensures c.put_before.ensures.faces c.self.invariant.labels;
}

pub returns-clause-edit : goal.returns-clause-edit
returns-clause-edit c = subst (λ (r : Rotation). IsHang (turn r) (turn (view_of c.put_before.new.segments)) half_limit c.args.c c.insert_isolated-x.result)
    c.self.view_is (done c).allowed.edit

pub returns-clause-grows : goal.returns-clause-grows
returns-clause-grows c = subst (λ (r : Rotation). Grows r (view_of c.put_before.new.segments) c.insert_isolated-x.result) c.self.view_is (done c).added.grows

pub returns-clause-counts : goal.returns-clause-counts
returns-clause-counts c = subst (λ (r : Rotation). CountsMore r (view_of c.put_before.new.segments) 1 0) c.self.view_is (done c).counts

pub returns-clause-label : goal.returns-clause-label
returns-clause-label c =
    subst (λ (r : Rotation). AddsLabel (is_live r) (edge_of r) (label_in c.put_before.new.segments) c.insert_isolated-x.result c.args.edge) c.self.view_is
    (label_added c.self.inside.segments c.insert_isolated-x.new.segments c.put_before.new.segments c.insert_isolated-x.result c.args.edge
    c.put_before.ensures.turned.edges c.insert_isolated-x.ensures.label)

pub returns-clause-faces : goal.returns-clause-faces
returns-clause-faces c = subst
    (λ (r : Rotation). AddsFaces (is_live r) (face_of r) (face_in c.put_before.new.segments) c.insert_isolated-x.result
    (face_of r c.args.c) (face_of r c.args.c))
    c.self.view_is (faces_given c.put_before.ensures.faces c.face-label.ensures c.face-label.ensures c.insert_isolated-x.ensures.faces)
