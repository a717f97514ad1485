use Rattle.std.proofs.Common.{◌≡◌, map, take}
use Rattle.fezdrok_c.specs.Given.{dart_item}
use Rattle.fezdrok_c.proofs.given.dart_items.Given as goal

abbrev pub invariant-loop-dart : goal.invariant-loop-dart
invariant-loop-dart l = l.items.items ≡ map dart_item (take l.dart-index l.darts)
