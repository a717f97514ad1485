-- The text of a fault.
use Rattle.std.specs.Prelude.{ℕ, List, decimal}
use Rattle.topo_faults.specs.declared.Fault.TheVariants as known
use Rattle.topo_faults.specs.Faults.{told_with}
use Rattle.topo_price.specs.declared.table.PriceFault.{PriceFault}
use Rattle.topo_price.specs.declared.table.PriceFault.TheVariants.{BadPrice}

-- it is told with its kind
abbrev pub fault_text : PriceFault → List ℕ
fault_text (BadPrice kind) = told_with known.BadPrice (decimal kind)
