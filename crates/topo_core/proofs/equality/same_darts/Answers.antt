use Rattle.std.proofs.Common.{rules, tests}
use Rattle.std.proofs.lemmas.Slice.Eq.{slice_eq-Decides}
use Rattle.topo_core.specs.declared.darts.Dart.{Dart}
use Rattle.topo_core.proofs.equality.same_darts.Goals as goal

pub returns : goal.returns
returns c = let same = slice_eq-Decides (λ (a b : Dart). search (rules, tests)) c.args.a.now c.args.b.now c.eq.result c.eq.ensures in (same.0, same.1)
