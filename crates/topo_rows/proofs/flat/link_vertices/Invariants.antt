use Rattle.std.proofs.Common.{◌≡◌}
use Rattle.std.specs.Prelude.{flat_map}
use Rattle.std.specs.List.{range_with_len}
use Rattle.topo_rows.specs.Flats.{links, vertex_round, written}
use Rattle.topo_rows.proofs.flat.link_vertices.Given as goal

-- the vertices so far are linked
abbrev pub invariant-loop-v : goal.invariant-loop-v
invariant-loop-v l = l.images ≡ written l.initial.images (flat_map (λ v. links (vertex_round l.rows v)) (range_with_len 0 l.v))
