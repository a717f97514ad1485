use Rattle.std.proofs.Common.{ℕ, Bool, sym, ◌∙◌, ap}
use Rattle.topo_map.specs.Segments.{holds}
use Rattle.topo_map.proofs.Kept.{live_next}
use Rattle.topo_map.proofs.Steps.{live_twin}
use Rattle.topo_map.proofs.Attaching.{without_parts, without_joins}
use Rattle.topo_map.proofs.faces.detach.Goals as goal

pub face-requires-2 : goal.face-requires-2
face-requires-2 c = live_twin c.args.segments.now c.args.x c.twin-other.result c.twin-other.ensures c.requires.live

pub part_label-requires-clause-live_other : goal.part_label-requires-clause-live_other
part_label-requires-clause-live_other c = ap (λ (h : ℕ → Bool). h c.next-after.result) c.take_out.ensures.turned.live
    ∙ ap (holds c.args.segments.now) c.next-after.ensures ∙ live_next c.args.segments.now c.args.x c.requires.kept c.requires.live

pub share_label-requires-clause-live_other : goal.share_label-requires-clause-live_other
share_label-requires-clause-live_other c = live_twin c.args.segments.now c.args.x c.twin-other.result c.twin-other.ensures c.requires.live

pub label_after-requires-clause-labels : goal.label_after-requires-clause-labels
label_after-requires-clause-labels c = without_parts c.part_label.new.segments
    (record { kept = c.requires.kept; live = c.requires.live; other = c.twin-other.ensures; onward = c.next-after.ensures })
    c.requires.labels (sym c.face.ensures ∙ c.if-face.true ∙ c.face-2.ensures) c.take_out.ensures.turned c.take_out.ensures.faces c.part_label.ensures

pub returns-else-face-clause-labels : goal.returns-else-face-clause-labels
returns-else-face-clause-labels c = without_joins c.args.x c.twin-other.result
    c.requires.kept c.requires.live c.twin-other.ensures c.requires.labels (λ e. c.if-face.false (c.face.ensures ∙ e ∙ sym c.face-2.ensures))
    c.share_label.ensures
    c.take_out-else-face.ensures.turned c.take_out-else-face.ensures.faces
