use Rattle.std.proofs.Common.{◌≡◌, ◌<◌, ◌+◌, ◌*◌, ℕ, drop, length, map}
use Rattle.topo_core.specs.Items.{occurrences}
use Rattle.topo_rows.specs.Flats.{path_notes, written}
use Rattle.topo_rows.specs.Notes.{noted}
use Rattle.topo_rows.specs.Pairs.{crossing_pairs, pair}
use Rattle.topo_rows.proofs.flat.note_path.Given as goal

-- what is noted and what is left are what was noted and the whole path, and what is left is noted into what is there
abbrev pub invariant-loop-s : goal.invariant-loop-s
invariant-loop-s l = record {
  filled : (k : ℕ) → noted k l.ahead (crossing_pairs l.crossings) + occurrences k (map (pair l.e) (drop l.s l.path))
      ≡ noted k l.initial.ahead (crossing_pairs l.crossings) + occurrences k (map (pair l.e) l.path);
  numbered : l.begin + 2 * (length l.path + 1) < 4294967296
      → (l.number ≡ l.begin + 2 * l.s)
      × (written l.ahead (path_notes l.crossings l.e (l.begin + 2 * l.s) (drop l.s l.path))
      ≡ written l.initial.ahead (path_notes l.crossings l.e l.begin l.path));
}
