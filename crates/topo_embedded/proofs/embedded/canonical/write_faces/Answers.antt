use Rattle.std.proofs.Common.{◌<◌, ◌∙◌, ap, arith, length, slice_index}
use Rattle.topo_map.specs.Rotation.{face_of}
use Rattle.topo_embedded.proofs.halves.LabelledFaces.{label_more}
use Rattle.topo_embedded.proofs.embedded.canonical.write_faces.Goals as goal

pub loop-place-preserved : goal.loop-place-preserved
loop-place-preserved c =
    let inside : c.loop-place.place < length c.loop-place.faces = grind arith in
    label_more (λ i. face_of c.args.segments.now (slice_index c.args.halves.now i)) c.loop-place.faces c.loop-place.place c.face.result inside
    (c.face.ensures ∙ ap (face_of c.args.segments.now) c.numbered.ensures) c.loop-place.invariant
