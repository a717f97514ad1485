use Rattle.std.proofs.Common.{◌≡◌, ◌<◌, ◌∷◌, drop, length}
use Rattle.topo_rows.specs.Flats.{links, links_to, vertex_round, written}
use Rattle.topo_rows.proofs.flat.link_vertex.Given as goal

-- what is left is written into what is there
abbrev pub invariant-loop-i : goal.invariant-loop-i
invariant-loop-i l = record {
  within : l.here < length l.images;
  linked : written l.images (links_to l.first (l.here ∷ drop l.i (vertex_round l.rows l.v))) ≡ written l.initial.images (links (vertex_round l.rows l.v));
}
