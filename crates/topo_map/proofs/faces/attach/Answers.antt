use Rattle.std.proofs.Common.{ℕ, sym, ◌∙◌, subst}
use Rattle.topo_map.specs.Rotation.{PartsLabels}
use Rattle.topo_map.specs.Segments.{face_in, holds}
use Rattle.topo_map.proofs.Attaching.{put_parts, put_parts_beside, put_joins, put_joins_beside}
use Rattle.topo_map.proofs.faces.attach.Goals as goal

pub label_after-requires-clause-labels : goal.label_after-requires-clause-labels
label_after-requires-clause-labels c = put_parts c.part_label.new.segments (record {
  kept = c.requires.kept;
  live = c.requires.live;
  live_corner = c.requires.live_corner;
  alone = c.requires.alone;
  different = c.requires.different;
}) c.requires.labels (sym c.face.ensures ∙ c.if-face.true ∙ c.face-2.ensures)
    c.put_before.ensures.turned c.put_before.ensures.faces c.part_label.ensures

pub returns-else-face-clause-labels : goal.returns-else-face-clause-labels
returns-else-face-clause-labels c = put_joins (record {
  kept = c.requires.kept;
  live = c.requires.live;
  live_corner = c.requires.live_corner;
  alone = c.requires.alone;
  different = c.requires.different;
}) c.requires.labels (λ e. c.if-face.false (c.face.ensures ∙ e ∙ sym c.face-2.ensures)) c.share_label.ensures
    c.put_before-else-face.ensures.turned c.put_before-else-face.ensures.faces

pub returns-then-face-clause-faces : goal.returns-then-face-clause-faces
returns-then-face-clause-faces c kept =
    subst (λ (m : ℕ → ℕ). PartsLabels (holds c.args.segments.now) (face_in c.args.segments.now) m c.args.x c.args.c c.args.x)
    (sym (c.label_after.ensures.faces kept)) (put_parts_beside (record {
      kept = c.requires.kept;
      live = c.requires.live;
      live_corner = c.requires.live_corner;
      alone = c.requires.alone;
      different = c.requires.different;
    }) c.requires.labels (sym c.face.ensures ∙ c.if-face.true ∙ c.face-2.ensures)
    c.put_before.ensures.turned c.put_before.ensures.faces c.part_label.ensures)

pub returns-else-face-clause-faces : goal.returns-else-face-clause-faces
returns-else-face-clause-faces c kept = put_joins_beside c.put_before-else-face.new.segments (record {
  kept = c.requires.kept;
  live = c.requires.live;
  live_corner = c.requires.live_corner;
  alone = c.requires.alone;
  different = c.requires.different;
}) c.requires.labels c.share_label.ensures c.put_before-else-face.ensures.faces
