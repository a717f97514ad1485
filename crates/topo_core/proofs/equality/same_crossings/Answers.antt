use Rattle.std.proofs.Common.{rules, tests}
use Rattle.std.proofs.lemmas.Slice.Eq.{slice_eq-Decides}
use Rattle.topo_core.specs.declared.rows.CrossRow.{CrossRow}
use Rattle.topo_core.proofs.equality.same_crossings.Goals as goal

pub returns : goal.returns
returns c = let same = slice_eq-Decides (λ (a b : CrossRow). search (rules, tests)) c.args.a.now c.args.b.now c.eq.result c.eq.ensures in (same.0, same.1)
