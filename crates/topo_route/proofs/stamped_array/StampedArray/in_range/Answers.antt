use Rattle.std.proofs.Common.{◌≤◌, List, ℕ, arith, subst}
use Rattle.std.specs.Prelude.{slice_index}
use Rattle.topo_core.specs.Routes.{unreached}
use Rattle.topo_route.specs.Settling.{number_at}
use Rattle.topo_route.proofs.spreading.Blank.{all_within}
use Rattle.topo_route.proofs.stamped_array.StampedArray.in_range.Goals as goal

pub returns : goal.returns
returns c k = subst (λ (xs : List ℕ). slice_index xs k ≤ unreached) c.self.view_is
    (all_within c.self.inside.base c.self.inside.span c.self.inside.len c.self.inside.words.items (number_at c.self.inside.wide.items) k
    (omega (arith, c.self.invariant.0.half)) c.self.invariant.1.within)
