use Rattle.std.proofs.Common.{◌<◌, ◌≤◌, ◌+◌, length}
use Rattle.topo_rows.specs.Ids.{NoneBefore, NoneFrom}
use Rattle.topo_rows.proofs.by_id.searched_place.Given as goal

-- the row, if there is one, is among those that are left
abbrev pub invariant-loop-left : goal.invariant-loop-left
invariant-loop-left g l = record {
  some : 0 < l.left;
  within : l.base + l.left ≤ length l.rows;
  before : NoneBefore l.rows g.T.Identified.id_of l.id l.base;
  behind : NoneFrom l.rows g.T.Identified.id_of l.id (l.base + l.left);
}

abbrev pub decreases-loop-left : goal.decreases-loop-left
decreases-loop-left g l = l.left
