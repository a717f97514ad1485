use Rattle.std.proofs.Common.{◌≡◌, ◌++◌, ◌==◌, not, false, map, drop, string_bytes}
use Rattle.serde_json.specs.View.{items_of}
use Rattle.serde_json.specs.Written.{items_text}
use Rattle.topo_script.proofs.written.write_list.Given as goal

-- what is written and the text of the items to come are the text of all items
abbrev pub invariant-loop-i : goal.invariant-loop-i
invariant-loop-i g l =
    string_bytes l.out ++ items_text (not (l.i == 0)) (items_of (map g.T.Written.value (drop l.i l.items)))
    ≡ string_bytes l.initial.out ++ items_text false (items_of (map g.T.Written.value l.items))
