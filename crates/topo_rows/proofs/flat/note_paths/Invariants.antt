use Rattle.std.proofs.Common.{◌≡◌, ◌<◌, ◌+◌, ◌*◌, ℕ, drop, take, sum_by}
use Rattle.topo_core.specs.Items.{occurrences}
use Rattle.topo_core.specs.Picture.{segment_count}
use Rattle.topo_rows.specs.Flats.{notes_from, written}
use Rattle.topo_rows.specs.Notes.{noted}
use Rattle.topo_rows.specs.Pairs.{crossing_pairs, path_pairs}
use Rattle.topo_rows.proofs.flat.note_paths.Given as goal

abbrev pub invariant-loop-row : goal.invariant-loop-row
invariant-loop-row l = record {
  filled : (k : ℕ) → noted k l.ahead (crossing_pairs l.crossings) + occurrences k (path_pairs (drop l.row-index l.edges))
      ≡ noted k l.initial.ahead (crossing_pairs l.crossings) + occurrences k (path_pairs l.edges);
  numbered : 2 * sum_by segment_count l.edges < 4294967296
      → (l.begin ≡ 2 * sum_by segment_count (take l.row-index l.edges))
      × (written l.ahead (notes_from l.crossings l.begin (drop l.row-index l.edges)) ≡ written l.initial.ahead (notes_from l.crossings 0 l.edges));
}
