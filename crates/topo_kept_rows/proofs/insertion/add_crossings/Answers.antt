use Rattle.std.proofs.Common.{arith, ap, ℕ, ◌≡◌, ◌+◌, ◌∙◌}
use Rattle.std.proofs.lemmas.List.{take_all}
use Rattle.topo_core.specs.declared.darts.Dart.{Dart}
use Rattle.topo_core.specs.declared.darts.Sign.{Sign}
use Rattle.topo_core.specs.Changes.{sign_of}
use Rattle.topo_kept_rows.specs.declared.kept.Crossing.{Crossing}
use Rattle.topo_kept_rows.specs.Keeping.{new_entry}
use Rattle.topo_kept_rows.proofs.rows.Keeping.{added_all, added_more, added_none}
use Rattle.topo_kept_rows.proofs.insertion.add_crossings.Goals as goal

pub loop-i-init : goal.loop-i-init
loop-i-init c = added_none c.args.crossings.now c.args.darts.now c.args.first c.args.edge c.requires.room c.requires.below

-- the entry that is put in
made : (edge x : ℕ) (d : Dart) (crossed : ℕ) (sign : Sign) → crossed ≡ d.edge → sign ≡ sign_of d.way
    → ◌≡◌ {A = ℕ × Crossing} (x, record { crossed = crossed; newcomer = edge; sign = sign }) (new_entry edge (x, d))
made edge x d crossed sign is way = ap (λ (n : ℕ). (x, record { crossed = n; newcomer = edge; sign = sign })) is
    ∙ ap (λ (s : Sign). (x, record { crossed = d.edge; newcomer = edge; sign = s })) way

pub loop-i-preserved : goal.loop-i-preserved
loop-i-preserved c = added_more c.push.new.self c.index-darts-i.result _ c.loop-i-test.true c.loop-i.invariant c.index-darts-i.is
    (made c.args.edge (c.args.first + c.loop-i.i) c.index-darts-i.result c.number.result c.sign_of.result c.number.ensures c.sign_of.ensures)
    c.push.ensures.slots c.push.ensures.entries c.push.ensures.room

pub returns-clause-entries : goal.returns-clause-entries
returns-clause-entries c = grind (arith, take_all, added_all)

pub returns-clause-below : goal.returns-clause-below
returns-clause-below c = grind (arith, added_all)
