use Rattle.std.proofs.Common.{◌≡◌, ◌+◌, ◌<◌, ◌≤◌, ℕ, sym, ◌∙◌, subst, arith}
use Rattle.slab.specs.Slab.{Slab}
use Rattle.topo_map.specs.declared.segments.Segment.{Segment}
use Rattle.topo_map.proofs.Stored.{below_limit}
use Rattle.topo_map.proofs.LabelledAll.{IsPartlyLabelled, step_over, step_painted, all_given}
use Rattle.topo_map.proofs.faces.label_faces.Goals as goal
use Rattle.topo_map.proofs.faces.label_faces.Goals.{then-lacks_label, else-lacks_label}

-- no more labels are given than there are halves
pub overflow_add-unused : goal.overflow_add-unused
overflow_add-unused c =
    let few : c.loop-number.unused ≤ c.loop-number.number + 1 = c.loop-number.invariant.partly.partly.few in
    omega arith

pub loop-number-preserved : goal.loop-number-preserved
loop-number-preserved c =
    let k : ℕ = c.loop-number.number in
    let s : Slab Segment = c.args.segments.now in
    let y : ℕ = c.numbered-half.result in
    record {
      partly = elim c.if-lacks_label.branch [
        | then-lacks_label w ↦
            let at = c.lacks_label.ensures.yes w.if-lacks_label.true in
            let done : IsPartlyLabelled s w.paint.new.segments (k + 1) (c.loop-number.unused + 1) =
            step_painted w.paint.new.segments y c.requires.kept c.loop-number.invariant.partly c.numbered-half.ensures
            at.0 at.1 w.paint.ensures in
            grind arith
        | else-lacks_label w ↦
            let done : IsPartlyLabelled s c.loop-number.segments (k + 1) c.loop-number.unused =
            step_over s c.loop-number.segments k y c.loop-number.unused c.loop-number.invariant.partly c.numbered-half.ensures
            (c.lacks_label.ensures.no w.if-lacks_label.false) in
            grind arith
      ];
    }

pub returns-clause-labels : goal.returns-clause-labels
returns-clause-labels c =
    let s : Slab Segment = c.args.segments.now in
    let all : c.loop-number.number ≡ c.limit-number-end.result = omega arith in
    all_given s c.loop-number.segments c.loop-number.number c.loop-number.unused c.loop-number.invariant.partly
    (λ a h. subst (λ (n : ℕ). a < n) (sym (all ∙ c.limit-number-end.ensures.value)) (below_limit s a c.requires.kept c.limit-number-end.ensures.slots h))
