-- The type of a `Vec`, as the logic holds it, for the clause on what a list lends.
use Rattle.std.specs.Borrow.{RattleType}
use Rattle.std.specs.contracts.alloc.Global as global
use Rattle.std.specs.contracts.vec.Vec as vec
use Rattle.std.specs.contracts.impls.GlobalAllocator.TheImpl.{ghosts}

abbrev pub vec_row : RattleType → RattleType
vec_row T = vec.the_row T global.the_row ghosts
