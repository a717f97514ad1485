use Rattle.std.proofs.Common.{◌≡◌, map}
use Rattle.std.specs.List.{range_with_len}
use Rattle.fezdrok_c.specs.Given.{end_item}
use Rattle.fezdrok_c.proofs.given.end_items.Given as goal

abbrev pub invariant-loop-place : goal.invariant-loop-place
invariant-loop-place l = l.items.items ≡ map (end_item l.edges l.ends) (range_with_len 0 l.place)
