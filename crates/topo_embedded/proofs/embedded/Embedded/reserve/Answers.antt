use Rattle.std.proofs.Common.{refl}
use Rattle.topo_embedded.specs.declared.parts.Parts.{Parts}
use Rattle.topo_embedded.proofs.guided.Fitting.{parts_same, searches_same}
use Rattle.topo_embedded.proofs.embedded.Embedded.reserve.Goals as goal

pub invariant_of-self-in_err-reserve-3 : goal.invariant_of-self-in_err-reserve-3
invariant_of-self-in_err-reserve-3 c =
    let was = c.self.invariant in
    let parts = c.self.inside.parts in
    let now : Parts = record {
      rows = c.reserve.new.self;
      paths = c.reserve-2.new.self;
      segments = c.reserve-3.new.self;
      bounds = parts.bounds;
      kinds = parts.kinds;
    } in
    let same = parts_same parts now c.reserve.ensures c.reserve-2.ensures.same c.reserve-3.ensures.same was.0 was.1 was.2 in
    (same.0, same.1, same.2, searches_same parts now c.reserve.ensures c.reserve-3.ensures.same c.reserve-3.ensures.same_labels refl refl was.3)

pub invariant_of-self-2 : goal.invariant_of-self-2
invariant_of-self-2 c =
    let was = c.self.invariant in
    let parts = c.self.inside.parts in
    let now : Parts = record {
      rows = c.reserve.new.self;
      paths = c.reserve-2.new.self;
      segments = c.reserve-3.new.self;
      bounds = parts.bounds;
      kinds = c.reserve-4.new.self;
    } in
    let same = parts_same parts now c.reserve.ensures c.reserve-2.ensures.same c.reserve-3.ensures.same was.0 was.1 was.2 in
    (same.0, same.1, same.2, searches_same parts now c.reserve.ensures c.reserve-3.ensures.same c.reserve-3.ensures.same_labels refl c.reserve-4.ensures was.3)
