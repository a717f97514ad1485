use Rattle.topo_core.specs.declared.darts.Dart.{Dart}
use Rattle.topo_core.specs.Darts.{dart_twin}
use Rattle.topo_core.specs.Picture.{index_of}
use Rattle.topo_kept_rows.specs.Cuts.{IsLeft}
use Rattle.topo_embedded.specs.Cutting.{IsOpenedOn}
use Rattle.topo_embedded.specs.Halves.{RowsWithPaths, half_in}
use Rattle.topo_embedded.proofs.halves.FaceWalks.{Turns}
use Rattle.topo_embedded.proofs.cuts.next_left.Given as goal

-- the darts that were passed are out
abbrev pub invariant-loop-passed : goal.invariant-loop-passed
invariant-loop-passed l = (p : RowsWithPaths) (o : IsOpenedOn p l.segments l.e l.out l.path) (d : Dart) → IsLeft p.rows (half_in p) l.e l.out d l.fn.half
    → Turns p l.segments l.e l.out l.path o (index_of p.rows (dart_twin d)) l.next l._passed
