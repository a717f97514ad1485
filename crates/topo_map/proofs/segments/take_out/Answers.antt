use Rattle.std.proofs.Common.{◌∙◌, ap}
use Rattle.topo_map.specs.Segments.{holds}
use Rattle.topo_map.proofs.Kept.{live_before, live_next, without_turned}
use Rattle.topo_map.proofs.segments.take_out.Goals as goal

pub link-requires-clause-from : goal.link-requires-clause-from
link-requires-clause-from c = ap (holds c.args.segments.now) c.previous-before.ensures
    ∙ live_before c.args.segments.now c.args.x c.requires.kept c.requires.live

pub link-requires-clause-to : goal.link-requires-clause-to
link-requires-clause-to c = ap (holds c.args.segments.now) c.next-after.ensures ∙ live_next c.args.segments.now c.args.x c.requires.kept c.requires.live

pub returns-clause-turned : goal.returns-clause-turned
returns-clause-turned c = without_turned c.previous-before.result c.next-after.result c.args.x c.requires.kept c.previous-before.ensures c.next-after.ensures
    c.link.ensures c.link-2.ensures

pub returns-clause-faces : goal.returns-clause-faces
returns-clause-faces c = c.link-2.ensures.faces ∙ c.link.ensures.faces
