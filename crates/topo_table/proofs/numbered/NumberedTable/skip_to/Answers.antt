use Rattle.std.proofs.Common.{◌+◌, ◌≤◌, ◌∷◌, [], None, ap, arith, length, length-append, subst, sym, ◌∙◌}
use Rattle.topo_table.specs.Places.{AreBelow, AreOwnPlaces, present}
use Rattle.topo_table.proofs.NumberedLemmas.{own_below, places_below}
use Rattle.topo_table.proofs.PlaceLemmas.{own-push, present-push_empty}
use Rattle.topo_table.proofs.numbered.NumberedTable.skip_to.Given as given
use Rattle.topo_table.proofs.numbered.NumberedTable.skip_to.Goals as goal

-- no place is there for the id or one above it
few : (g : given.Over) (c : goal.After-loop-missing g) → length c.self.inside.slots.items ≤ c.args.id
few g c = places_below c.args.id c.self.inside.slots.items c.self.invariant (subst (λ t. AreBelow c.args.id t.slots) (sym c.self.view_is) c.requires)

pub returns-in_err-push-clause-below : goal.returns-in_err-push-clause-below
returns-in_err-push-clause-below g c =
    let so_far = c.loop-missing.invariant in
    subst (AreBelow c.args.id) (sym c.in_err-push.ensures.items)
    (own_below c.args.id c.loop-missing.self-inside.slots.items so_far.own
    (omega (arith, so_far.count, c.loop-missing-test.true, c.loop-missing.auto.missing, c.loop-missing.auto.missing-end)))

pub loop-missing-preserved : goal.loop-missing-preserved
loop-missing-preserved g c =
    let so_far = c.loop-missing.invariant in
    let items = c.in_ok-push.ensures.items in
    let slots = c.loop-missing.self-inside.slots.items in
    record {
      same = ap present items ∙ present-push_empty c.loop-missing.missing slots ∙ so_far.same;
      own = subst AreOwnPlaces (sym items) (own-push c.loop-missing.missing None slots so_far.own (sym so_far.count));
      count = omega (arith, ap length items, length-append slots ((c.loop-missing.missing, None) ∷ []), so_far.count);
    }

pub returns-clause-below : goal.returns-clause-below
returns-clause-below g c = let so_far = c.loop-missing.invariant in
    own_below c.args.id c.loop-missing.self-inside.slots.items so_far.own
    (omega (
      arith,
      so_far.count,
      c.loop-missing-test.false,
      c.loop-missing.auto.missing,
      c.loop-missing.auto.missing-end,
      c.len-missing.ensures,
      few g c,
    ))

pub returns-clause-own : goal.returns-clause-own
returns-clause-own g c = let so_far = c.loop-missing.invariant in
    omega (
      arith,
      so_far.count,
      c.loop-missing-test.false,
      c.loop-missing.auto.missing,
      c.loop-missing.auto.missing-end,
      c.len-missing.ensures,
      few g c,
    )
