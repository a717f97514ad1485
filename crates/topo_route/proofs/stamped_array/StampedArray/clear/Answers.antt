use Rattle.std.proofs.Common.{◌≡◌, ◌≤◌, ◌+◌, ◌-◌, List, ℕ, ap, arith, replicate, subst, sym}
use Rattle.std.specs.Vec.{vec_len}
use Rattle.topo_core.specs.Routes.{unreached}
use Rattle.topo_route.proofs.spreading.Blank.{all_blank, filled, filled_up}
use Rattle.topo_route.specs.Settling.{number_at}
use Rattle.topo_route.specs.StampedArrays.{AreAtLeast, blank_word, read_all}
use Rattle.topo_route.specs.declared.stamped_array.StampedArray.TheInside.{Inside}
use Rattle.topo_route.proofs.stamped_array.StampedArray.clear.Goals as goal
use Rattle.topo_route.proofs.stamped_array.StampedArray.clear.Goals.{then-self, else-self, then-len+in_ok-resize, else-len}

pub returns : goal.returns
returns c =
    let Early = λ (s : Inside). AreAtLeast s.base s.words.items × (s.span ≤ s.base) × (s.base ≤ blank_word) in
    let inside = c.if-self.self-inside in
    let early : Early inside = elim c.if-self.branch [
      | then-self w ↦
          let most = blank_word - c.self.inside.span in
          let full : AreAtLeast most w.fill.new.self.items =
          subst (λ (xs : List ℕ). AreAtLeast most xs) (sym (w.fill.ensures.items (λ y e. e))) (filled most (vec_len c.self.inside.words) (omega arith)) in
          subst Early (sym w.self-inside-is) (full, omega arith, omega arith)
      | else-self w ↦
          subst Early (sym w.self-inside-is) (c.self.invariant.0.above, omega (arith, w.if-self.false), omega (arith, c.self.invariant.0.room))
    ] in
    let Blank = λ (s : Inside). read_all s.base s.span c.args.len s.words.items (number_at s.wide.items) ≡ replicate c.args.len unreached in
    let beside = number_at c.truncate.new.self.items in
    let none : (k : ℕ) → beside k ≡ unreached = λ k. ap (λ (xs : List ℕ). number_at xs k) c.truncate.ensures.items in
    let base = inside.base - inside.span in
    let same : base + inside.span ≡ inside.base = omega (arith, early.1) in
    elim c.if-len.branch [
      | then-len+in_ok-resize w ↦
          let words = w.resize.new.self.items in
          let above : AreAtLeast inside.base words = subst (λ (xs : List ℕ). AreAtLeast inside.base xs) (sym w.in_ok-resize.ensures.items)
          (filled_up inside.base c.args.len (c.args.len - vec_len inside.words) inside.words.items early.2 early.0) in
          subst Blank (sym w.self-inside-is)
          (all_blank base inside.span c.args.len words beside (omega (arith, w.in_ok-resize.ensures.len))
          (subst (λ (n : ℕ). AreAtLeast n words) (sym same) above) none)
      | else-len w ↦ subst Blank (sym w.self-inside-is) (all_blank base inside.span c.args.len inside.words.items beside (omega (arith, w.if-len.false, c.len.ensures))
          (subst (λ (n : ℕ). AreAtLeast n inside.words.items) (sym same) early.0) none)
    ]
