use Rattle.std.proofs.Common.{◌≡◌, ◌++◌, drop, Ok}
use Rattle.serde_json.specs.View.{items_view}
use Rattle.topo_script.specs.Reads.{and_then, items_from}
use Rattle.topo_script.proofs.form.read_items.Given as goal

-- what was found, and what the elements to come are read as, are what all elements are read as
abbrev pub invariant-loop-i : goal.invariant-loop-i
invariant-loop-i g l =
    and_then (items_from g.T.Form.form l.path l.i (items_view (drop l.i l.items))) (λ rest. Ok (l.found.items ++ rest))
    ≡ items_from g.T.Form.form l.path 0 (items_view l.items)
