-- Darts: segments with a direction.
use Rattle.std.specs.Prelude.{ℕ, ◌==◌, Bool, true, false, ◌&&◌, not, List, [], ◌∷◌}
use Rattle.std.specs.Ordering.{nat_cmp, ordering_then, is_gt}
use Rattle.std.specs.declared.cmp.Ordering.{Ordering}
use Rattle.std.specs.declared.cmp.Ordering.TheVariants.{Less, Equal, Greater}
use Rattle.topo_core.specs.declared.darts.Dart.{Dart}
use Rattle.topo_core.specs.declared.darts.Sign.{Sign}
use Rattle.topo_core.specs.declared.darts.Sign.TheVariants.{LeftToRight, RightToLeft}
use Rattle.topo_core.specs.declared.darts.Way.{Way}
use Rattle.topo_core.specs.declared.darts.Way.TheVariants.{Forward, Back}

abbrev pub reversed : Way → Way
reversed Forward = Back
reversed Back = Forward

-- the sign of a crossing as it is seen once one of its two edges is turned round, or along the other one
abbrev pub opposite : Sign → Sign
opposite LeftToRight = RightToLeft
opposite RightToLeft = LeftToRight

-- the twin: the same segment, the other way
abbrev pub dart_twin : Dart → Dart
dart_twin d = record d { way = reversed d.way }

abbrev pub same_way : Way → Way → Bool
same_way Forward Forward = true
same_way Forward Back = false
same_way Back Forward = false
same_way Back Back = true

abbrev pub same_dart : Dart → Dart → Bool
same_dart c d = c.edge == d.edge && c.seg == d.seg && same_way c.way d.way

-- Forward before Back
abbrev pub way_cmp : Way → Way → Ordering
way_cmp Forward Forward = Equal
way_cmp Forward Back = Less
way_cmp Back Forward = Greater
way_cmp Back Back = Equal

-- the canonical order: by edge, then by segment, then by way
abbrev pub dart_cmp : Dart → Dart → Ordering
dart_cmp c d = ordering_then (nat_cmp c.edge d.edge) (ordering_then (nat_cmp c.seg d.seg) (way_cmp c.way d.way))

abbrev pub dart_le : Dart → Dart → Bool
dart_le c d = not (is_gt (dart_cmp c d))

-- both darts of a segment
abbrev pub both_ways : ℕ → ℕ → List Dart
both_ways e s = record { edge = e; seg = s; way = Forward } ∷ record { edge = e; seg = s; way = Back } ∷ []
