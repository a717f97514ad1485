use Rattle.std.proofs.Common.{◌≡◌, ◌<◌, ℕ}
use Rattle.std.specs.Prelude.{slice_index}
use Rattle.topo_core.specs.Cycles.{after}
use Rattle.topo_route.specs.Names.{IsName, next_name}
use Rattle.topo_route.specs.PricedFaces.{heights_over}
use Rattle.topo_route.specs.Searches.{RelaxesFrom, priced_faces}
use Rattle.topo_route.specs.Settling.{IsCrossed, reach_of}
use Rattle.topo_route.proofs.spread.SearchState.relax_face.Given as goal

-- where the walk is, and that it has crossed each dart that it has met
abbrev pub invariant-loop-steps : goal.invariant-loop-steps
invariant-loop-steps g l =
    let p = priced_faces g.W.FaceGraph g.F.PriceFn l.priced in
    let high = heights_over p l.self.heights in
    record {
      relaxes : RelaxesFrom p l.ends.v l.ends.other.now l.initial.self l.initial.least l.dart l.self l.least l.dart;
      place : l.at ≡ after (next_name p.named) l._steps l.dart;
      name : IsName p.named l.at;
      same : slice_index high l.dart ≡ l.height;
      crossed : (j : ℕ) → j < l._steps → IsCrossed p.price p.named (reach_of l.least) high (after (next_name p.named) j l.dart);
    }
