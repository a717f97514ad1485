use Rattle.std.proofs.Common.{◌≡◌, drop}
use Rattle.std.specs.Prelude.{slice_index_or}
use Rattle.topo_rows.specs.Flats.{links, links_to, written}
use Rattle.topo_rows.proofs.flat.link_round.Given as goal

-- what is left is written into what is there
abbrev pub invariant-loop-i : goal.invariant-loop-i
invariant-loop-i l = written l.images (links_to (slice_index_or l.round 0 0) (drop l.i l.round)) ≡ written l.initial.images (links l.round)
