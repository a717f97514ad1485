use Rattle.std.proofs.Common.{◌≡◌, take}
use Rattle.std.specs.Prelude.{flat_map}
use Rattle.topo_rows.specs.Flats.{crossing_round, links, written}
use Rattle.topo_rows.proofs.flat.link_crossings.Given as goal

-- the crossings so far are linked
abbrev pub invariant-loop-i : goal.invariant-loop-i
invariant-loop-i l = l.images ≡ written l.initial.images (flat_map (λ x. links (crossing_round l.rows x)) (take l.i l.crossings))
