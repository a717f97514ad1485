use Rattle.std.proofs.Common.{◌≡◌, ◌++◌, drop, map, take}
use Rattle.topo_route.specs.StampedArrays.{moved_word}
use Rattle.topo_route.proofs.stamped_array.move_words.Given as goal

-- the words so far are moved, and the others are as they were
abbrev pub invariant-loop-place : goal.invariant-loop-place
invariant-loop-place l = l.words ≡ map (moved_word l.base l.span l.wider) (take l.place l.initial.words) ++ drop l.place l.initial.words
