use Rattle.std.proofs.Common.{◌≡◌, true, ap, ◌∙◌, ℕ, refl, subst}
use Rattle.topo_core.specs.Edits.{IsChord}
use Rattle.topo_map.specs.Rotation.{AddsLabel, edge_of, face_of, CountsMore, IsOneFace, PartsLabels, Rotation, Grows, half_limit, turn, is_live}
use Rattle.topo_map.specs.Segments.{face_in, holds, label_in, view_of}
use Rattle.topo_map.proofs.FaceEdits.{faces_given, hung_labels}
use Rattle.topo_map.proofs.KeptLabels.{parts_whole}
use Rattle.topo_map.proofs.Steps.{label_added, IsChorded, alone, chord_end_alone, chorded, turned_live, still_live}
use Rattle.topo_map.proofs.embedding.Embedding.chord.Goals as goal

pub put_before-requires-clause-alone : goal.put_before-requires-clause-alone
put_before-requires-clause-alone c = alone c.self.inside.segments c.insert_isolated-start.new.segments c.insert_isolated-start.result
    (record { sound = c.self.invariant.kept; inserted = c.insert_isolated-start.ensures.inserted })

pub attach-unused-requires-clause-alone : goal.attach-unused-requires-clause-alone
attach-unused-requires-clause-alone c =
    chord_end_alone c.self.inside.segments c.insert_isolated-start.new.segments c.put_before.new.segments c.args.c c.insert_isolated-start.result c.twin.result
    (record { sound = c.self.invariant.kept; inserted = c.insert_isolated-start.ensures.inserted })
    (ap (λ (r : Rotation). is_live r c.args.c) c.self.view_is ∙ c.requires.live)
    c.put_before.ensures.turned c.twin.ensures

done : (c : goal.After-self-1) → IsChorded c.self.inside.segments c.attach-unused.new.segments c.args.c c.args.d c.insert_isolated-start.result
done c = chorded c.args.c c.args.d c.twin.result
    (record { sound = c.self.invariant.kept; inserted = c.insert_isolated-start.ensures.inserted })
    (ap (λ (r : Rotation). is_live r c.args.c) c.self.view_is ∙ c.requires.live)
    (ap (λ (r : Rotation). is_live r c.args.d) c.self.view_is ∙ c.requires.live_end)
    c.twin.ensures c.put_before.ensures.turned c.attach-unused.ensures.turned

pub face-label-requires : goal.face-label-requires
face-label-requires c = ap (λ (r : Rotation). is_live r c.args.c) c.self.view_is ∙ c.requires.live

pub attach-unused-requires-clause-labels : goal.attach-unused-requires-clause-labels
attach-unused-requires-clause-labels c = hung_labels c.args.c
    (record { sound = c.self.invariant.kept; inserted = c.insert_isolated-start.ensures.inserted })
    (ap (λ (r : Rotation). is_live r c.args.c) c.self.view_is ∙ c.requires.live)
    c.put_before.ensures.turned c.insert_isolated-start.ensures.faces c.face-label.ensures c.put_before.ensures.faces c.self.invariant.labels

pub invariant_of-self : goal.invariant_of-self
invariant_of-self c = record { kept = (done c).added.sound; labels = c.attach-unused.ensures.labels }

pub returns-clause-edit : goal.returns-clause-edit
returns-clause-edit c =
    subst (λ (r : Rotation). IsChord (turn r) (turn (view_of c.attach-unused.new.segments)) half_limit c.args.c c.args.d c.insert_isolated-start.result)
    c.self.view_is (done c).drawn.edit

pub returns-clause-grows : goal.returns-clause-grows
returns-clause-grows c =
    subst (λ (r : Rotation). Grows r (view_of c.attach-unused.new.segments) c.insert_isolated-start.result) c.self.view_is (done c).added.grows

pub returns-clause-counts : goal.returns-clause-counts
returns-clause-counts c =
    subst (λ (r : Rotation). IsOneFace r c.args.c c.args.d → CountsMore r (view_of c.attach-unused.new.segments) 0 1) c.self.view_is (done c).counts

pub returns-clause-label : goal.returns-clause-label
returns-clause-label c = subst
    (λ (r : Rotation). AddsLabel (is_live r) (edge_of r) (label_in c.attach-unused.new.segments) c.insert_isolated-start.result c.args.edge) c.self.view_is
    (label_added c.self.inside.segments c.insert_isolated-start.new.segments c.attach-unused.new.segments c.insert_isolated-start.result c.args.edge
    (c.attach-unused.ensures.turned.edges ∙ c.put_before.ensures.turned.edges) c.insert_isolated-start.ensures.label)

pub returns-clause-faces : goal.returns-clause-faces
returns-clause-faces c kept =
    let s = c.self.inside.segments in
    let s1 = c.insert_isolated-start.new.segments in
    let s2 = c.put_before.new.segments in
    let x = c.insert_isolated-start.result in
    let stays : (a : ℕ) → holds s a ≡ true → holds s2 a ≡ true =
    λ a h. turned_live s1 s2 _ a a c.put_before.ensures.turned refl
    (still_live s s1 x a (record { sound = c.self.invariant.kept; inserted = c.insert_isolated-start.ensures.inserted }) h) in
    subst (λ (r : Rotation). PartsLabels (is_live r) (face_of r) (face_in c.attach-unused.new.segments) c.args.c c.args.d x) c.self.view_is
    (parts_whole c.args.c c.args.d x c.twin.result stays
    (faces_given c.put_before.ensures.faces refl refl c.insert_isolated-start.ensures.faces) c.face-label.ensures
    (ap (λ (r : Rotation). is_live r c.args.d) c.self.view_is ∙ c.requires.live_end) c.twin.ensures (c.attach-unused.ensures.faces kept))
