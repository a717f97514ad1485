-- The forms of commands and calls.
use Rattle.std.specs.Prelude.{ℕ, ◌==◌, ◌&&◌, Bool, false, List, codes, option_map, unwrap_or, if◌then◌else◌, Ok, Err}
use Rattle.serde_json.specs.Data.{Data}
use Rattle.serde_json.specs.Find.{at}
use Rattle.topo_core.specs.declared.calls.Call.{Call}
use Rattle.topo_core.specs.declared.calls.Call.TheVariants.{Grow, Insert, Delete}
use Rattle.topo_core.specs.declared.calls.Command.{Command}
use Rattle.topo_core.specs.declared.calls.Command.TheVariants.{Plain, Planned}
use Rattle.topo_script.specs.declared.path.JsonPath.{JsonPath}
use Rattle.topo_script.specs.declared.fault.ScriptFault.TheVariants.{BadShape}
use Rattle.topo_script.specs.Reads.{Read, ◌>>=◌, number_form, is_text, element_count, element}

-- an array of so many elements that begins with this word
abbrev pub begins : List ℕ → ℕ → Data → Bool
begins word count d = (element_count d == count) && unwrap_or (option_map (is_text word) (at 0 d)) false

unfoldable pub grow_form : JsonPath → Data → Read Call
grow_form path d = do
  u ← element number_form path 1 d
  position ← element number_form path 2 d
  kind ← element number_form path 3 d
  Ok (Grow u position kind)

unfoldable pub insert_form : JsonPath → Data → Read Call
insert_form path d = do
  u ← element number_form path 1 d
  v ← element number_form path 2 d
  kind ← element number_form path 3 d
  Ok (Insert u v kind)

unfoldable pub delete_form : JsonPath → Data → Read Call
delete_form path d = do
  edge ← element number_form path 1 d
  Ok (Delete edge)

-- what a report may have
unfoldable pub call_form : JsonPath → Data → Read Call
call_form path d =
    if begins (codes "grow") 4 d then grow_form path d else (
    if begins (codes "insert") 4 d then insert_form path d else (
    if begins (codes "delete") 2 d then delete_form path d else
    Err (BadShape path)))

unfoldable pub planned_form : JsonPath → Data → Read Command
planned_form path d = do
  u ← element number_form path 1 d
  v ← element number_form path 2 d
  kind ← element number_form path 3 d
  Ok (Planned u v kind)

unfoldable pub plain_form : JsonPath → Data → Read Command
plain_form path d = do
  call ← call_form path d
  Ok (Plain call)

-- what a script may have: a planned insertion, or a call
unfoldable pub command_form : JsonPath → Data → Read Command
command_form path d = if begins (codes "planned") 4 d then planned_form path d else plain_form path d
