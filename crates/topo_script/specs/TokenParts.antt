-- What the tokens of a call, of a refusal and of a list of prices spell.
use Rattle.std.specs.Prelude.{◌≡◌, ℕ, ◌≤◌, Bool, false, List, [], ◌∷◌, length, codes, Option, None, Ok, Err, unwrap_or}
use Rattle.std.specs.Option.{is_none}
use Rattle.std.specs.List.{list_any}
use Rattle.json.specs.Token.{Token, begin_array, string as text_token}
use Rattle.serde_json.specs.Data.{Data, Items, array, item, number, string, unsigned}
use Rattle.topo_core.specs.declared.calls.Call.{Call}
use Rattle.topo_core.specs.declared.calls.Refusal.{Refusal}
use Rattle.topo_core.specs.declared.rows.Rows.{Rows}
use Rattle.topo_script.specs.declared.fault.ScriptFault.TheVariants.{BadShape}
use Rattle.topo_script.specs.declared.path.JsonPath.{JsonPath}
use Rattle.topo_script.specs.declared.scripts.LimitRows.{LimitRows}
use Rattle.topo_script.specs.declared.sessions.Request.{Request}
use Rattle.topo_script.specs.declared.token_graphs.Unread.{Unread}
use Rattle.topo_script.specs.CallForms.{begins, call_form}
use Rattle.topo_script.specs.Prices.{without_ones}
use Rattle.topo_script.specs.Reads.{Read}
use Rattle.topo_script.specs.ReplyForms.{refusal_form}
use Rattle.topo_script.specs.Scripts.{greatest_limits, nulls_of}
use Rattle.topo_script.specs.Sessions.{request_form}
use Rattle.topo_script.specs.Tokens.{Spells, GoesOn}
use Rattle.topo_core.specs.declared.rows.TheConstants.{KINDS}

-- no value is read as this
abbrev pub unread_form : JsonPath → Data → Read Unread
unread_form path d = Err (BadShape path)

-- behind this word, the tokens go on to the end of a call, which is no planned insertion
abbrev pub SpellsCall : List ℕ → List Token → Call → List Token → Type 0
SpellsCall word ts call rest = (ds : Items) × GoesOn 0 (text_token word ∷ ts) ds rest × ((path : JsonPath) → call_form path (array ds) ≡ Ok call)
    × (begins (codes "planned") 4 (array ds) ≡ false)

-- behind this word, the tokens go on to the end of the array of a request
abbrev pub SpellsAsked : List ℕ → List Token → Request → List Token → Type 0
SpellsAsked word ts request rest = Spells 7 request_form (begin_array ∷ text_token word ∷ ts) request rest

-- behind this number and this name, the tokens go on to the end of a refusal
abbrev pub SpellsRefusal : ℕ → List ℕ → List Token → Refusal → List Token → Type 0
SpellsRefusal n name ts why rest = (ds : Items) × GoesOn 0 ts ds rest
    × ((path : JsonPath) → refusal_form path (array (item (number (unsigned n)) (item (string name) ds))) ≡ Ok why)

-- at most 64 prices, with a null only where the version lets it be, and those kept of them
abbrev pub ArePricesOf : ℕ → List (Option ℕ) → List (Option ℕ) → Type 0
ArePricesOf version prices kept = (nulls : Bool) × (nulls_of version ≡ Ok nulls) × (length prices ≤ KINDS) × (nulls ≡ false → list_any is_none prices ≡ false)
    × (kept ≡ without_ones prices)

-- what a text of this version means by its limits, prices and start, each of which may be missing
pub record AreSettings (l : Option LimitRows) (p : Option (List (Option ℕ))) (s : Option (Option Rows)) (version : ℕ)
    (limits : LimitRows) (prices : List (Option ℕ)) (start : Option Rows) : Type 0 where
  pub of_limits : limits ≡ unwrap_or l greatest_limits
  pub of_prices : ArePricesOf version (unwrap_or p []) prices
  pub of_start : start ≡ unwrap_or s None
