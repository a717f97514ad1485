-- A table of prices in the place of what a generic function asks.
use Rattle.std.specs.Prelude.{[], ◌∷◌, refl}
use denote.Exit.{no}
use denote.Param.{layout, param}
use denote.Param.Laws.{Laws, arg_laws, param_laws}
use mir.Raw.{raw}
use mir.Syntax.{Dict, dnil, impl, tcons, tnil}
use Rattle.topo_price.specs.contracts.table.PriceTable.{the_row as table}
use Rattle.topo_price.proofs.table.PriceTable.TheLaws.{the_row_laws}
use Rattle.topo_price.specs.contracts.tariff.PriceTablePriceFn.TheImpl.{ghosts}
use Rattle.fezdrok_c.proofs.handle.Handle.TheLaws as handle
use Rattle.fezdrok_c.proofs.searching.Searching.TheLaws as searching
use Rattle.fezdrok_c.specs.Blocks.{P, S, T}

-- it has nothing to drop
abbrev pub drops : Dict
drops = impl ("fezdrok_c::Destruct++none::drop" ∷ []) (tcons (layout T) tnil) dnil

abbrev pub laws_of_T : Laws T
laws_of_T = arg_laws (raw (layout table)) no table the_row_laws refl

abbrev pub laws_of_S : Laws S
laws_of_S = handle.the_row_laws (param 0 T) ghosts (param_laws 0 T laws_of_T)

abbrev pub laws_of_P : Laws P
laws_of_P = searching.the_row_laws (param 0 T) ghosts (param_laws 0 T laws_of_T)
