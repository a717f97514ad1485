use Rattle.std.proofs.Common.{◌≡◌, ◌<◌, ℕ, Some}
use Rattle.topo_core.specs.declared.darts.Dart.{Dart}
use Rattle.topo_core.specs.Picture.{corner}
use Rattle.topo_route.specs.Names.{height_of}
use Rattle.topo_route.specs.PricedFaces.{heights_over}
use Rattle.topo_route.specs.Searches.{RelaxesFrom, priced_faces}
use Rattle.topo_route.proofs.spread.SearchState.start_at.Given as goal

abbrev pub invariant-loop-position : goal.invariant-loop-position
invariant-loop-position g l =
    let p = priced_faces g.W.FaceGraph g.F.PriceFn l.priced in
    record {
      relaxes : RelaxesFrom p l.v l.other l.initial.self l.initial.least p.named.size l.self l.least p.named.size;
      ends : (n : ℕ) (c : Dart) → n < l.position → corner p.named.rows l.v n ≡ Some c → height_of p.named (heights_over p l.self.heights) c ≡ 0;
    }
