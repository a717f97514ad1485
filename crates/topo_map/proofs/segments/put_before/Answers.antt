use Rattle.std.proofs.Common.{◌∙◌, ap, ℕ, Bool}
use Rattle.topo_map.specs.Segments.{holds}
use Rattle.topo_map.proofs.Kept.{live_before, put_turned}
use Rattle.topo_map.proofs.segments.put_before.Goals as goal

pub link-requires-clause-from : goal.link-requires-clause-from
link-requires-clause-from c = ap (holds c.args.segments.now) c.previous-before.ensures
    ∙ live_before c.args.segments.now c.args.c c.requires.kept c.requires.live_corner

pub link-requires-2-clause-from : goal.link-requires-2-clause-from
link-requires-2-clause-from c = ap (λ (g : ℕ → Bool). g c.args.x) c.link.ensures.live ∙ c.requires.live

pub link-requires-2-clause-to : goal.link-requires-2-clause-to
link-requires-2-clause-to c = ap (λ (g : ℕ → Bool). g c.args.c) c.link.ensures.live ∙ c.requires.live_corner

pub returns-clause-turned : goal.returns-clause-turned
returns-clause-turned c = put_turned c.previous-before.result c.args.x c.args.c c.requires.kept c.previous-before.ensures c.requires.different c.requires.alone
    c.link.ensures c.link-2.ensures

pub returns-clause-faces : goal.returns-clause-faces
returns-clause-faces c = c.link-2.ensures.faces ∙ c.link.ensures.faces
