use Rattle.std.proofs.Common.{◌≡◌, take}
use Rattle.std.specs.Prelude.{nat_lt}
use Rattle.std.specs.List.{count_by}
use Rattle.topo_kept_rows.proofs.insertion.count_below.Given as goal

-- how many of those so far are
abbrev pub invariant-loop-x : goal.invariant-loop-x
invariant-loop-x l = l.count ≡ count_by (λ x. nat_lt x l.first) (take l.x-index l.ids)
