use Rattle.std.proofs.Common.{refl}
use Rattle.topo_cases.proofs.false_cases.faulty_rows.Goals as goal

pub returns : goal.returns
returns c = record {
  no_start = refl;
  no_end = refl;
  loop = refl;
  no_kind = refl;
  last_kind = refl;
  no_crossing = refl;
  fall = refl;
  come_twice = refl;
  reach = refl;
  itself = refl;
  no_crossed = refl;
  no_newcomer = refl;
  off_path = refl;
  twice_on_path = refl;
  on_third = refl;
  crossings_fall = refl;
  crossings_reach = refl;
  crossed = refl;
  no_edge = refl;
  twice_in_list = refl;
  elsewhere = refl;
  not_from_least = refl;
  from_least = refl;
}
