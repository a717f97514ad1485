-- What a script or a report sets beside its calls: limits, prices, and the picture that it starts with.
use Rattle.std.specs.Prelude.{◌≡◌, ℕ, List, map, slice_index_or, Option, Some, None, ⊤}
use Rattle.std.specs.List.{range_with_len}
use Rattle.topo_core.specs.declared.rows.Facts.{Facts}
use Rattle.topo_core.specs.declared.rows.Rows.{Rows}
use Rattle.topo_core.specs.declared.limits.Limits.{Limits}
use Rattle.topo_core.specs.Limits.{InRange}
use Rattle.topo_core.specs.Pictures.{seed}
use Rattle.topo_core.specs.Routes.{Pricing}
use Rattle.topo_rows.specs.declared.load.LoadFault.{LoadFault}
use Rattle.topo_rows.specs.Loading.{FailsFirst}
use Rattle.topo_rows.specs.Shown.{IsPicture}
use Rattle.topo_price.specs.declared.table.PriceFault.{PriceFault}
use Rattle.topo_price.specs.declared.table.PriceFault.TheVariants.{BadPrice}
use Rattle.topo_price.specs.Prices.{Asking, first_bad}
use Rattle.topo_script.specs.declared.scripts.LimitRows.{LimitRows}
use Rattle.topo_io.specs.declared.fault.RunFault.{RunFault}
use Rattle.topo_io.specs.declared.fault.RunFault.TheVariants.{Memory, Script, BadLimits, Price, Load, Graph, NoSeat, Mismatch}
use Rattle.topo_io.specs.declared.fault.RunFault.TheVariants.{WrongReply, WrongPicture, ReadFault, WriteFault}
use Rattle.topo_io.specs.Limiting.{AreLimits}
use Rattle.topo_core.specs.declared.rows.TheConstants.{KINDS}

-- ---- Prices

-- the price of a kind: kinds past the end of the list have price 1
abbrev pub price_of_kind : List (Option ℕ) → ℕ → Option ℕ
price_of_kind prices kind = slice_index_or prices kind (Some 1)

-- an edge costs the price of its kind
abbrev pub priced : List (Option ℕ) → Pricing
priced prices facts n = price_of_kind prices facts.kind ≡ Some n

-- the closure answers for each kind the price that the list has for it
pub record AnswersPrices (answers : Asking) (prices : List (Option ℕ)) : Type 0 where
  pub only : (facts : Facts) (n : ℕ) → answers facts (Some n) → priced prices facts n
  pub each : (facts : Facts) (n : ℕ) → priced prices facts n → answers facts (Some n)

-- the prices of all kinds
unfoldable pub price_table : List (Option ℕ) → List (Option ℕ)
price_table prices = map (price_of_kind prices) (range_with_len 0 KINDS)

-- ---- What is set

-- the picture that is started with: the first one, where none is named
abbrev pub start_of : Option Rows → Rows
start_of None = seed
start_of (Some rows) = rows

-- the numbers are limits, the prices may stand in a table, and the start is a picture under the limits
pub record IsSound (numbers : LimitRows) (prices : List (Option ℕ)) (start : Option Rows) (limits : Limits) : Type 0 where
  pub same_numbers : AreLimits numbers limits
  pub good_prices : first_bad (price_table prices) ≡ None
  pub lawful : IsPicture limits (start_of start)

-- ---- Faults of what is set

-- the numbers are in the range of limits
abbrev pub HasLimits : LimitRows → Type 0
HasLimits numbers = InRange numbers.vertices numbers.edges numbers.crossings

abbrev pub IsBadPrice : List (Option ℕ) → PriceFault → Type 0
IsBadPrice prices (BadPrice kind) = first_bad (price_table prices) ≡ Some kind

-- the rows of the start are no picture under the limits: this is the first test that they fail
pub record HasBadStart (numbers : LimitRows) (start : Option Rows) (fault : LoadFault) : Type 0 where
  pub limits : Limits
  pub same_numbers : AreLimits numbers limits
  pub rows : Rows
  pub named : start ≡ Some rows
  pub first : FailsFirst limits rows fault

-- what is told of what is set: the first of limits, prices and start that is at fault
abbrev pub IsUnsound : LimitRows → List (Option ℕ) → Option Rows → RunFault → Type 0
IsUnsound numbers prices start Memory = ⊤
IsUnsound numbers prices start BadLimits = HasLimits numbers → ⊥
IsUnsound numbers prices start (Price fault) = HasLimits numbers × IsBadPrice prices fault
IsUnsound numbers prices start (Load fault) = (first_bad (price_table prices) ≡ None) × HasBadStart numbers start fault
IsUnsound numbers prices start (Graph fault) = ⊥
IsUnsound numbers prices start (Script fault) = ⊥
IsUnsound numbers prices start NoSeat = ⊥
IsUnsound numbers prices start (Mismatch list i) = ⊥
IsUnsound numbers prices start (WrongReply i) = ⊥
IsUnsound numbers prices start WrongPicture = ⊥
IsUnsound numbers prices start ReadFault = ⊥
IsUnsound numbers prices start WriteFault = ⊥
