-- Tokens that spell starts and lists of commands.
use Rattle.std.proofs.Common.{◌≡◌, ℕ, ◌<◌, ◌≤◌, false, List, ◌∷◌, length, codes, Some, None, Ok, refl, arith, lt-ltb, le-leb}
use Rattle.json.specs.Token.{Token, string as text_token}
use Rattle.serde_json.specs.Data.{Data, string, array}
use Rattle.serde_json.specs.Events.{items_len}
use Rattle.topo_core.specs.declared.calls.Command.{Command}
use Rattle.topo_core.specs.declared.rows.Rows.{Rows}
use Rattle.topo_script.specs.declared.path.JsonPath.{JsonPath}
use Rattle.topo_script.specs.CallForms.{command_form}
use Rattle.topo_script.specs.Reads.{and_then, is_text, list_form, has_keys}
use Rattle.topo_script.specs.RowForms.{rows_form}
use Rattle.topo_script.specs.Scripts.{picture_form, start_form, workers_form}
use Rattle.topo_script.specs.Tokens.{Spells}
use Rattle.topo_script.proofs.TokenReports.{counted}
use Rattle.topo_script.proofs.Spellings.{word_tokens, read_so, deeper}
use Rattle.topo_script.proofs.Steps.{went}
use Rattle.topo_script.specs.declared.script_forms.TheConstants.{MAX_WORKERS}

-- ---- Starts

no_seed : (path : JsonPath) (d : Data) (rows : Rows) → rows_form path d ≡ Ok rows → is_text (codes "seed") d ≡ false
unfolding rows_form has_keys and_then
no_seed path (string s) rows e = absurd cc
no_seed path _ rows e = refl

start_read : (path : JsonPath) (d : Data) (rows : Rows) → rows_form path d ≡ Ok rows → start_form path d ≡ Ok (Some rows)
unfolding start_form picture_form
start_read path d rows e = rw (no_seed path d rows e) (went (rows_form path d) (λ (found : Rows). Ok (Some found)) rows e)

pub start_tokens : (rows : Rows) (ts rest : List Token) → Spells 4 rows_form ts rows rest → Spells 4 start_form ts (Some rows) rest
start_tokens rows ts rest s = read_so s (omega arith) (λ path. start_read path s.spelled rows (s.reads path))

pub seed_tokens : (text : List ℕ) (ts rest : List Token) → ts ≡ text_token text ∷ rest → text ≡ codes "seed" → Spells 4 start_form ts None rest
unfolding start_form
seed_tokens text ts rest e is = deeper 0 4 start_form ts None rest (omega arith) (word_tokens start_form (codes "seed") text None ts rest e is (λ path. refl))

-- ---- Lists of commands

pub workers_read : (path : JsonPath) (d : Data) (ws : List (List Command)) → list_form
    (list_form command_form) path d ≡ Ok ws → 0 < length ws → length ws ≤ MAX_WORKERS
    → workers_form path d ≡ Ok ws
unfolding list_form workers_form and_then
workers_read path (array ds) ws e some few =
    let count = counted (list_form command_form) path 0 ds ws e in
    let more : 0 < items_len ds = omega arith in
    let less : items_len ds ≤ MAX_WORKERS = omega arith in
    rw (lt-ltb 0 (items_len ds) more, le-leb (items_len ds) MAX_WORKERS less) e
workers_read path _ ws e some few = absurd cc
