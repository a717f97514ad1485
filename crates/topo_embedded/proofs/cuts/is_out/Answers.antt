use Rattle.std.proofs.Common.{arith, ◌≡◌, ap, subst, sym, ℕ, ◌∙◌}
use Rattle.topo_core.specs.Openings.{is_opened}
use Rattle.topo_embedded.specs.Cutting.{IsDartBeside}
use Rattle.topo_embedded.proofs.halves.FaceWalks.{alive, label_is, on_other_edge}
use Rattle.topo_embedded.proofs.cuts.is_out.Goals as goal

pub edge-requires : goal.edge-requires
edge-requires c = let (p, d, b) = c.requires in alive p c.args.segments.now c.args.e c.args.out c.args.path.now b.opened d b.there c.args.half b.named

pub is_among-requires : goal.is_among-requires
is_among-requires c = grind (arith, label_is)

pub returns-then-edge-e : goal.returns-then-edge-e
returns-then-edge-e c = λ p d b.
    let mine : c.args.e ≡ d.edge = sym c.if-edge-e.true ∙ c.edge.ensures
    ∙ label_is p c.args.segments.now c.args.e c.args.out c.args.path.now b.opened d b.there c.args.half b.named in
    c.is_among.ensures p c.args.segments.now d (subst (λ (k : ℕ). IsDartBeside p c.args.segments.now k c.args.out c.args.path.now c.args.half d) mine b)
    ∙ ap (λ (k : ℕ). is_opened k c.args.out d) (sym mine)

pub returns-else-edge-e : goal.returns-else-edge-e
returns-else-edge-e c = λ p d b. sym (on_other_edge p c.args.segments.now c.args.e c.args.out c.args.path.now b.opened d b.there c.args.half b.named
    (λ same. c.if-edge-e.false (c.edge.ensures ∙ same)))
