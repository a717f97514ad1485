use Rattle.std.proofs.Common.{ap, subst, ◌∙◌}
use Rattle.topo_map.specs.Rotation.{face_of}
use Rattle.topo_embedded.specs.Bounds.{IsGiven, at_face}
use Rattle.topo_embedded.proofs.guided.Going.{goes_chord, same_four}
use Rattle.topo_embedded.proofs.bounds.chord.Goals as goal

pub returns-then-are_kept-clause-bounds : goal.returns-then-are_kept-clause-bounds
returns-then-are_kept-clause-bounds c =
    let new = c.chord-half.new.self in
    let before = c.args.bounds.now in
    let here = c.at-here.result in
    let edit = c.chord-half.ensures in
    goes_chord c.laws.ensures edit.grows edit.label before c.give.new.self c.give-then-are_kept.new.self c.args.c c.args.d here
    (edit.faces c.if-are_kept.true) (c.at-here.ensures ∙ ap (at_face before) c.face.ensures)
    (same_four here c.at.result c.if-is_even.ensures ∙ c.at.ensures ∙ ap (at_face before) c.face-2.ensures)
    (subst (λ l. IsGiven before c.give.new.self l here) c.face-then-are_kept.ensures c.give.ensures)
    (subst (λ l. IsGiven c.give.new.self c.give-then-are_kept.new.self l here) (c.face-then-are_kept-2.ensures ∙ ap (face_of new) c.twin.ensures.twin)
    c.give-then-are_kept.ensures)
