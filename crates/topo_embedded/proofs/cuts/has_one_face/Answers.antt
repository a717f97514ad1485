use Rattle.std.proofs.Common.{◌≡◌, ◌+◌, ◌∙◌, arith, refl, subst, suc, sym, true, ℕ}
use Rattle.std.specs.Prelude.{nat_eq}
use Rattle.std.proofs.lemmas.Bool.{eq-eqb, false≢true}
use Rattle.std.proofs.lemmas.Bool.Decides.{nat_tests}
use Rattle.topo_embedded.proofs.halves.FaceWalks.{few, home_left, home_right, in_step_more, in_step_never}
use Rattle.topo_embedded.proofs.halves.FaceWalks.{in_step_none, InStep, met_left, met_right, out_inside}
use Rattle.topo_embedded.proofs.cuts.has_one_face.Goals as goal
use Rattle.topo_embedded.proofs.cuts.has_one_face.Goals.{then-eq-via-then-eq, then-eq-via-else-eq+then-eq-2}
use Rattle.topo_embedded.proofs.cuts.has_one_face.Goals.{then-eq-3-via-then-eq-3, then-eq-3-via-else-eq-3+then-eq-4}

same_number : (a b : ℕ) → nat_eq a b ≡ true → a ≡ b
same_number a b h = grind (arith, nat_tests)

pub at-half-requires : goal.at-half-requires
at-half-requires c = let (p, o) = c.requires in out_inside p c.args.segments.now c.args.e c.args.segment c.args.path.now o

pub loop-steps-init : goal.loop-steps-init
loop-steps-init c = λ p o.
    subst (λ (n : ℕ). InStep p c.args.segments.now c.args.e c.args.segment c.args.path.now o c.at-half.result n 0) (sym c.twin-twin.ensures)
    (in_step_none p c.args.segments.now c.args.e c.args.segment c.args.path.now o c.at-half.result c.at-half.ensures)

pub next_left-left-requires : goal.next_left-left-requires
next_left-left-requires c = let (p, o) = c.requires in let at = c.loop-steps.invariant p o in (p, o, at.left_dart, at.left_is)

pub next_left-right-requires : goal.next_left-right-requires
next_left-right-requires c = let (p, o) = c.requires in let at = c.loop-steps.invariant p o in (p, o, at.right_dart, at.right_is)

pub returns-then-eq : goal.returns-then-eq
returns-then-eq c = λ p o.
    let at = c.loop-steps.invariant p o in
    let left = c.next_left-left.ensures p o at.left_dart at.left_is in
    let right = c.next_left-right.ensures p o at.right_dart at.right_is in (
      λ yes. elim c.then-eq.branch [
        | then-eq-via-then-eq w ↦ met_left p c.args.segments.now c.args.e c.args.segment c.args.path.now o c.at-half.result c.at-half.ensures c.loop-steps.left
            c.loop-steps.right c.loop-steps._steps at c.next_left-left.result c.next_left-right.result left right
            (same_number c.next_left-left.result c.twin-twin.result (sym c.eq.ensures ∙ w.if-eq.true) ∙ c.twin-twin.ensures)
        | then-eq-via-else-eq+then-eq-2 w ↦ met_right p c.args.segments.now c.args.e c.args.segment c.args.path.now o c.at-half.result c.at-half.ensures
            c.loop-steps.left c.loop-steps.right c.loop-steps._steps at c.next_left-left.result c.next_left-right.result left right
            (same_number c.next_left-right.result c.at-half.result (sym w.eq-else-eq.ensures ∙ w.if-eq-2.true))
      ],
      λ one. refl,
    )

pub returns-then-eq-3 : goal.returns-then-eq-3
returns-then-eq-3 c = λ p o.
    let at = c.loop-steps.invariant p o in
    let left = c.next_left-left.ensures p o at.left_dart at.left_is in
    let right = c.next_left-right.ensures p o at.right_dart at.right_is in (
      λ yes. absurd (false≢true yes),
      λ one. absurd (elim c.then-eq-3.branch [
        | then-eq-3-via-then-eq-3 w ↦ home_left p c.args.segments.now c.args.e c.args.segment c.args.path.now o c.at-half.result c.at-half.ensures
            c.loop-steps.left c.loop-steps.right c.loop-steps._steps at c.next_left-left.result c.next_left-right.result left right
            (same_number c.next_left-left.result c.at-half.result (sym c.eq-in-loop-steps.ensures ∙ w.if-eq-3.true)) one
        | then-eq-3-via-else-eq-3+then-eq-4 w ↦ home_right p c.args.segments.now c.args.e c.args.segment c.args.path.now o c.at-half.result c.at-half.ensures
            c.loop-steps.left c.loop-steps.right c.loop-steps._steps at c.next_left-left.result c.next_left-right.result left right
            (same_number c.next_left-right.result c.twin-twin.result (sym w.eq-else-eq-3.ensures ∙ w.if-eq-4.true) ∙ c.twin-twin.ensures) one
      ]),
    )

pub loop-steps-preserved : goal.loop-steps-preserved
loop-steps-preserved c = λ p o.
    let at = c.loop-steps.invariant p o in
    subst (λ (n : ℕ). InStep p c.args.segments.now c.args.e c.args.segment c.args.path.now o c.next_left-left.result c.next_left-right.result n)
    (let one : suc c.loop-steps._steps ≡ c.loop-steps._steps + 1 = omega arith in one)
    (in_step_more p c.args.segments.now c.args.e c.args.segment c.args.path.now o c.at-half.result c.at-half.ensures c.loop-steps.left c.loop-steps.right
    c.loop-steps._steps at c.next_left-left.result c.next_left-right.result
    (c.next_left-left.ensures p o at.left_dart at.left_is) (c.next_left-right.ensures p o at.right_dart at.right_is)
    (λ same. false≢true (sym c.if-eq.false ∙ c.eq.ensures ∙ eq-eqb c.next_left-left.result c.twin-twin.result (same ∙ sym c.twin-twin.ensures)))
    (λ same. false≢true (sym c.if-eq-2.false ∙ c.eq-else-eq.ensures ∙ eq-eqb c.next_left-right.result c.at-half.result same)))

pub returns : goal.returns
returns c = λ p o. (
  λ yes. absurd (false≢true yes),
  λ one. absurd (in_step_never p c.args.segments.now c.args.e c.args.segment c.args.path.now o c.at-half.result c.at-half.ensures c.loop-steps.left
      c.loop-steps.right c.loop-steps._steps (c.loop-steps.invariant p o)
      (let less = few p c.args.segments.now c.args.e c.args.segment c.args.path.now o in let end = c.loop-steps-test.false in omega (arith, less, end)) one),
)
