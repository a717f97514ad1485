use Rattle.std.proofs.Common.{◌≡◌, ◌++◌, drop, Ok}
use Rattle.serde_json.specs.View.{items_view}
use Rattle.topo_script.specs.Reads.{and_then, items_from}
use Rattle.topo_script.specs.Scripts.{price_form}
use Rattle.topo_script.proofs.prices.read_price_items.Given as goal

abbrev pub invariant-loop-i : goal.invariant-loop-i
invariant-loop-i l =
    and_then (items_from (price_form l.nulls) l.path l.i (items_view (drop l.i l.items))) (λ rest. Ok (l.prices.items ++ rest))
    ≡ items_from (price_form l.nulls) l.path 0 (items_view l.items)
