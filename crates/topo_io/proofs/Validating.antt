-- What is set, in other words for the same.
use Rattle.std.proofs.Common.{◌≡◌, ℕ, List, Option, subst}
use Rattle.topo_core.specs.declared.rows.Rows.{Rows}
use Rattle.topo_core.specs.declared.limits.Limits.{Limits}
use Rattle.topo_script.specs.declared.scripts.LimitRows.{LimitRows}
use Rattle.topo_io.specs.Settings.{IsSound}

pub sound_so : (numbers : LimitRows) (ps qs : List (Option ℕ)) (p q : Option Rows) (limits : Limits) → ps ≡ qs → p ≡ q → IsSound numbers ps p limits
    → IsSound numbers qs q limits
sound_so numbers ps qs p q limits prices start is =
    subst (λ (s : Option Rows). IsSound numbers qs s limits) start (subst (λ (xs : List (Option ℕ)). IsSound numbers xs p limits) prices is)
