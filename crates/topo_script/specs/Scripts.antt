-- The forms of scripts and reports.
use Rattle.std.specs.Prelude.{ℕ, ◌==◌, ◌&&◌, nat_lt, nat_le, Bool, true, false, List, [], codes, Option, Some, None, is_some, if◌then◌else◌, Ok, Err}
use Rattle.serde_json.specs.Data.{Data}
use Rattle.serde_json.specs.Find.{as_object, as_null}
use Rattle.topo_core.specs.declared.calls.Command.{Command}
use Rattle.topo_core.specs.declared.rows.Rows.{Rows}
use Rattle.topo_script.specs.declared.scripts.LimitRows.{LimitRows}
use Rattle.topo_script.specs.declared.scripts.Script.{Script}
use Rattle.topo_script.specs.declared.reports.Report.{Report}
use Rattle.topo_script.specs.declared.keys.TheConstants.{LIMITS_KEYS, REPORT_KEYS, SCRIPT_KEYS}
use Rattle.topo_script.specs.declared.path.Key.TheVariants.{Crossings, Edges, History, Limits, Picture, Prices, Start, Version, Vertices, Workers}
use Rattle.topo_script.specs.declared.path.JsonPath.{JsonPath}
use Rattle.topo_script.specs.declared.fault.ScriptFault.TheVariants.{BadShape, BadVersion}
use Rattle.topo_script.specs.Paths.{whole}
use Rattle.topo_script.specs.Reads.{Read, ◌>>=◌, passes, number_form, is_text, element_count, list_form, has_keys, member_form, member_or, value_of}
use Rattle.topo_script.specs.Prices.{without_ones}
use Rattle.topo_script.specs.RowForms.{rows_form}
use Rattle.topo_script.specs.CallForms.{command_form}
use Rattle.topo_script.specs.ReplyForms.{entry_form}
use Rattle.topo_core.specs.declared.rows.TheConstants.{KINDS}
use Rattle.topo_script.specs.declared.script_forms.TheConstants.{MAX_WORKERS}

-- ---- Limits

abbrev pub greatest_limits : LimitRows
greatest_limits = record { vertices = 65536; edges = 65536; crossings = 1048576 }

unfoldable pub limits_form : JsonPath → Data → Read LimitRows
limits_form path d = do
  _ ← has_keys path LIMITS_KEYS d
  crossings ← member_form number_form path Crossings d
  edges ← member_form number_form path Edges d
  vertices ← member_form number_form path Vertices d
  Ok (record { vertices = vertices; edges = edges; crossings = crossings })

-- ---- Versions and prices

-- whether a version lets a price be null: version 1 does not, version 2 does
unfoldable pub nulls_of : ℕ → Read Bool
nulls_of version = if version == 1 then Ok false else (if version == 2 then Ok true else Err BadVersion)

-- whether the version of a script, an opening or a report lets a price be null
unfoldable pub nulls_in : JsonPath → Data → Read Bool
nulls_in path d = do
  _ ← passes (BadShape path) (is_some (as_object d))
  version ← member_form number_form path Version d
  nulls_of version

unfoldable pub some_price : JsonPath → Data → Read (Option ℕ)
some_price path d = do
  price ← number_form path d
  Ok (Some price)

-- a number, or null where the version lets it be
unfoldable pub price_form : Bool → JsonPath → Data → Read (Option ℕ)
price_form nulls path d = if nulls && is_some (as_null d) then Ok None else some_price path d

-- at most 64 prices, kept without the ones at their end
unfoldable pub prices_form : Bool → JsonPath → Data → Read (List (Option ℕ))
prices_form nulls path d = do
  _ ← passes (BadShape path) (nat_le (element_count d) KINDS)
  prices ← list_form (price_form nulls) path d
  Ok (without_ones prices)

-- ---- Scripts

unfoldable pub picture_form : JsonPath → Data → Read (Option Rows)
picture_form path d = do
  rows ← rows_form path d
  Ok (Some rows)

-- the text `seed`, or a picture
unfoldable pub start_form : JsonPath → Data → Read (Option Rows)
start_form path d = if is_text (codes "seed") d then Ok None else picture_form path d

-- an array of 1 to 16 lists of commands
unfoldable pub workers_form : JsonPath → Data → Read (List (List Command))
workers_form path d = do
  _ ← passes (BadShape path) (nat_lt 0 (element_count d) && nat_le (element_count d) MAX_WORKERS)
  list_form (list_form command_form) path d

unfoldable pub script_form : Data → Read Script
script_form d = do
  nulls ← nulls_in whole d
  _ ← has_keys whole SCRIPT_KEYS d
  limits ← member_or greatest_limits limits_form whole Limits d
  prices ← member_or [] (prices_form nulls) whole Prices d
  start ← member_or None start_form whole Start d
  workers ← member_form workers_form whole Workers d
  Ok (record { limits = limits; prices = prices; start = start; workers = workers })

-- the script that bytes spell, or their first fault
unfoldable pub script_of : List ℕ → Read Script
script_of bytes = value_of 1048576 bytes >>= λ d. script_form d

-- ---- Reports

unfoldable pub report_form : JsonPath → Data → Read Report
report_form path d = do
  nulls ← nulls_in path d
  _ ← has_keys path REPORT_KEYS d
  history ← member_form (list_form entry_form) path History d
  limits ← member_form limits_form path Limits d
  picture ← member_form rows_form path Picture d
  prices ← member_form (prices_form nulls) path Prices d
  start ← member_form rows_form path Start d
  Ok (record { limits = limits; prices = prices; start = start; history = history; picture = picture })

-- the report that bytes spell, or their first fault
unfoldable pub report_of : List ℕ → Read Report
report_of bytes = value_of 268435456 bytes >>= λ d. report_form whole d
