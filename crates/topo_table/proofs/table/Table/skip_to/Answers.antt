use Rattle.std.proofs.Common.{◌+◌, ◌∷◌, [], None, ap, arith, length, length-append, subst, sym, ◌∙◌}
use Rattle.topo_table.specs.Places.{AreBelow, AreOwnPlaces, present}
use Rattle.topo_table.proofs.PlaceLemmas.{AreBelow-push, own-push, present-push_empty}
use Rattle.topo_table.proofs.table.Table.skip_to.Goals as goal

pub loop-missing-preserved : goal.loop-missing-preserved
loop-missing-preserved g c = record {
  same = ap present (c.push_empty.ensures.slots) ∙ present-push_empty c.loop-missing.missing c.reserve.new.self.slots
      ∙ ap present c.reserve.ensures.same ∙ c.loop-missing.invariant.same;
  below = subst (AreBelow (c.loop-missing.missing + 1)) (sym c.push_empty.ensures.slots)
      (AreBelow-push (c.loop-missing.missing + 1) c.loop-missing.missing _ c.reserve.new.self.slots
      (subst (AreBelow c.loop-missing.missing) (sym c.reserve.ensures.same) c.loop-missing.invariant.below) (omega arith));
  own = λ own.
      let before = c.loop-missing.invariant.own own in
      let same = c.reserve.ensures.same in
      let many = ap length c.push_empty.ensures.slots ∙ length-append c.reserve.new.self.slots ((c.loop-missing.missing, None) ∷ []) in (
        subst AreOwnPlaces (sym c.push_empty.ensures.slots) (own-push c.loop-missing.missing None c.reserve.new.self.slots
            (subst AreOwnPlaces (sym same) before.0) (omega (arith, before.1, ap length same))),
        omega (arith, many, before.1, ap length same),
      );
}
