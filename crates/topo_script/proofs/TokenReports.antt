-- Tokens that spell limits, prices and reports.
use Rattle.std.proofs.Common.{◌≡◌, ℕ, suc, ◌+◌, ◌≤◌, ◌||◌, Bool, true, false, List, [], ◌∷◌, length}
use Rattle.std.proofs.Common.{Option, Some, None, Ok, Err, refl, sym, ap, ◌∙◌, arith, le-leb}
use Rattle.std.specs.Option.{is_none}
use Rattle.std.specs.List.{list_any}
use Rattle.json.specs.Token.{Token}
use Rattle.json.specs.Json as json
use Rattle.json.proofs.Grammar.{value_is}
use Rattle.serde_json.specs.Data.{Data, Members, null, array, object, Items, no_items, item}
use Rattle.serde_json.specs.Events.{items_len}
use Rattle.serde_json.specs.Find.{get}
use Rattle.topo_script.specs.declared.keys.TheConstants.{LIMITS_KEYS, REPORT_KEYS}
use Rattle.topo_script.specs.declared.path.Key.TheVariants.{Crossings, Edges, History, Limits, Picture, Prices, Start, Version, Vertices}
use Rattle.topo_script.specs.declared.path.JsonPath.{JsonPath}
use Rattle.topo_script.specs.declared.reports.Report.{Report}
use Rattle.topo_script.specs.declared.scripts.LimitRows.{LimitRows}
use Rattle.topo_script.specs.Paths.{element_of, key_name}
use Rattle.topo_script.specs.Prices.{without_ones}
use Rattle.topo_script.specs.Reads.{Read, and_then, number_below, number_form, list_form, items_from}
use Rattle.topo_script.specs.ReplyForms.{entry_form}
use Rattle.topo_script.specs.RowForms.{rows_form}
use Rattle.topo_script.specs.Scripts.{limits_form, nulls_of, nulls_in, some_price, price_form, prices_form, report_form}
use Rattle.topo_script.specs.Slots.{members_of, SpellsValue}
use Rattle.topo_script.specs.Tokens.{Spells}
use Rattle.topo_script.specs.TokenParts.{ArePricesOf}
use Rattle.topo_script.proofs.FormKeys.{limits_keys, report_keys}
use Rattle.topo_script.proofs.Lookups.{member_read}
use Rattle.topo_script.proofs.Objects.{IsDue, then, object_tokens}
use Rattle.topo_script.proofs.Spellings.{read_so}
use Rattle.topo_script.proofs.Steps.{went}
use Rattle.topo_core.specs.declared.rows.TheConstants.{KINDS}

-- ---- Limits

pub limits_tokens : {x : LimitRows} {n : ℕ} {ts rest : List Token} {os p1 p2 : List (Option Data)} → SpellsValue n ts (object (members_of LIMITS_KEYS os)) rest
    → n ≤ 1 → IsDue number_form x.crossings os p1 → IsDue number_form x.edges p1 p2 → IsDue number_form x.vertices p2 [] → Spells 1 limits_form ts x rest
unfolding limits_form
limits_tokens {x} v within crossings edges vertices =
    let values = Some crossings.spelled ∷ Some edges.spelled ∷ Some vertices.spelled ∷ [] in
    let d = object (members_of LIMITS_KEYS values) in
    object_tokens LIMITS_KEYS values v within (then crossings (then edges vertices.is))
    (λ path.
    went _ _ tt (limits_keys path _ _ _)
    ∙ went _ _ x.crossings (member_read number_form path Crossings d refl crossings.reads)
    ∙ went _ _ x.edges (member_read number_form path Edges d refl edges.reads)
    ∙ went _ _ x.vertices (member_read number_form path Vertices d refl vertices.reads))

-- ---- Prices

pub null_tokens : (ts rest : List Token) → ts ≡ Token.null ∷ rest → Spells 0 (price_form true) ts None rest
unfolding price_form
null_tokens ts rest e = record {
  written = json.null;
  spelled = null;
  begins = λ depth le. ap (json.value depth) e ∙ value_is depth (Token.null ∷ rest);
  means = refl;
  reads = λ path. refl;
}

-- a number is a price
price_read : (path : JsonPath) (d : Data) (n : ℕ) → number_form path d ≡ Ok n → price_form true path d ≡ Ok (Some n)
unfolding number_below price_form some_price and_then
price_read path null n e = absurd cc
price_read path d n e = went (number_form path d) (λ (k : ℕ). Ok (Some k)) n e

pub price_tokens : {n : ℕ} {ts rest : List Token} → Spells 0 number_form ts n rest → Spells 0 (price_form true) ts (Some n) rest
price_tokens {n} s = read_so s (omega arith) (λ path. price_read path s.spelled n (s.reads path))

gone : {A B : Type 0} (r : Read A) (next : A → Read B) (b : B) → and_then r next ≡ Ok b → (a : A) × (r ≡ Ok a) × (next a ≡ Ok b)
unfolding and_then
gone (Ok a) next b e = (a, refl, e)
gone (Err fault) next b e = absurd cc

abbrev found : {A : Type 0} → Read (List A) → List A
found (Ok xs) = xs
found (Err fault) = []

-- what an array with a first element was read as
first_read : {A : Type 0} (form : JsonPath → Data → Read A) (path : JsonPath) (i : ℕ) (d : Data) (ds : Items) (xs : List A) → items_from form path i (item d ds) ≡ Ok xs
    → (y : A) × (ys : List A) × (form (element_of path i) d ≡ Ok y) × (items_from form path (i + 1) ds ≡ Ok ys) × (y ∷ ys ≡ xs)
first_read {A = A} form path i d ds xs e =
    let one = gone (form (element_of path i) d) (λ (y : A). and_then (items_from form path (i + 1) ds) (λ ys. Ok (y ∷ ys))) xs e in
    let more = gone (items_from form path (i + 1) ds) (λ (ys : List A). Ok (one.0 ∷ ys)) xs one.2 in
    (one.0, more.0, one.1, more.1, ap found more.2)

pub counted : {A : Type 0} (form : JsonPath → Data → Read A) (path : JsonPath) (i : ℕ) (ds : Items) (xs : List A) → items_from form path i ds ≡ Ok xs
    → items_len ds ≡ length xs
counted form path i no_items xs e = ap (λ r. length (found r)) e
counted form path i (item d ds) xs e = let s = first_read form path i d ds xs e in ap suc (counted form path (i + 1) ds s.1 s.3) ∙ ap length s.4

no_null : (path : JsonPath) (d : Data) (p : Option ℕ) → price_form true path d ≡ Ok p → is_none p ≡ false → price_form false path d ≡ Ok p
unfolding price_form
no_null path null (Some p) e some = absurd cc
no_null path null None e some = absurd cc
no_null path _ p e some = e

neither : (a b : Bool) → (a || b) ≡ false → (a ≡ false) × (b ≡ false)
neither true b e = absurd cc
neither false b e = (refl, e)

no_nulls : (path : JsonPath) (i : ℕ) (ds : Items) (ps : List (Option ℕ)) → items_from (price_form true) path i ds ≡ Ok ps → list_any is_none ps ≡ false
    → items_from (price_form false) path i ds ≡ Ok ps
no_nulls path i no_items ps e none = e
no_nulls path i (item d ds) ps e none =
    let s = first_read (price_form true) path i d ds ps e in
    let both = neither (is_none s.0) (list_any is_none s.1) (ap (list_any is_none) s.4 ∙ none) in
    went (price_form false (element_of path i) d) (λ (p : Option ℕ). and_then (items_from (price_form false) path (i + 1) ds) (λ qs. Ok (p ∷ qs))) s.0
    (no_null (element_of path i) d s.0 s.2 both.0)
    ∙ went _ (λ (qs : List (Option ℕ)). Ok (s.0 ∷ qs)) s.1 (no_nulls path (i + 1) ds s.1 s.3 both.1) ∙ ap (λ qs. Ok qs) s.4

either_way : (nulls : Bool) (path : JsonPath) (ds : Items) (ps : List (Option ℕ)) → items_from (price_form true) path 0 ds ≡ Ok ps
    → (nulls ≡ false → list_any is_none ps ≡ false)
    → items_from (price_form nulls) path 0 ds ≡ Ok ps
either_way true path ds ps e none = e
either_way false path ds ps e none = no_nulls path 0 ds ps e (none refl)

pub prices_read : (nulls : Bool) (path : JsonPath) (d : Data) (ps kept : List (Option ℕ)) → list_form (price_form true) path d ≡ Ok ps → length ps ≤ KINDS
    → (nulls ≡ false → list_any is_none ps ≡ false)
    → kept ≡ without_ones ps → prices_form nulls path d ≡ Ok kept
unfolding list_form prices_form and_then
prices_read nulls path (array ds) ps kept e short none is =
    let few : items_len ds ≤ KINDS = omega (arith, counted (price_form true) path 0 ds ps e) in
    rw (le-leb (items_len ds) KINDS few, either_way nulls path ds ps e none) (ap (λ qs. Ok qs) (sym is))
prices_read nulls path _ ps kept e short none is = absurd cc

-- ---- Reports

pub version_read : (path : JsonPath) (n : ℕ) (nulls : Bool) (ms : Members) (v : Data) → get (key_name Version) (object ms) ≡ Some v → ((path : JsonPath) → number_form path v ≡ Ok n)
    → nulls_of n ≡ Ok nulls → nulls_in path (object ms) ≡ Ok nulls
unfolding nulls_in
version_read path n nulls ms v there read of = went _ _ tt refl ∙ went _ _ n (member_read number_form path Version (object ms) there read) ∙ of

pub report_tokens : {x : Report} {m n : ℕ} {ps : List (Option ℕ)} {ts rest : List Token} {os p1 p2 p3 p4 p5 : List (Option Data)}
    → SpellsValue n ts (object (members_of REPORT_KEYS os)) rest → n ≤ 6
    → IsDue (list_form entry_form) x.history os p1 → IsDue limits_form x.limits p1 p2 → IsDue rows_form x.picture p2 p3
    → IsDue (list_form (price_form true)) ps p3 p4 → IsDue rows_form x.start p4 p5 → IsDue number_form m p5 [] → ArePricesOf m ps x.prices
    → Spells 6 report_form ts x rest
unfolding report_form
report_tokens {x} {m} {ps = ps} v within history limits picture prices start version kept =
    let values : List (Option Data) = Some history.spelled ∷ Some limits.spelled ∷ Some picture.spelled ∷ Some prices.spelled ∷ Some start.spelled ∷ Some version.spelled ∷ [] in
    let d = object (members_of REPORT_KEYS values) in
    object_tokens REPORT_KEYS values v within (then history (then limits (then picture (then prices (then start version.is)))))
    (λ path.
    went _ _ kept.0 (version_read path m kept.0 (members_of REPORT_KEYS values) version.spelled refl version.reads kept.1)
    ∙ went _ _ tt (report_keys path _ _ _ _ _ _)
    ∙ went _ _ x.history (member_read (list_form entry_form) path History d refl history.reads)
    ∙ went _ _ x.limits (member_read limits_form path Limits d refl limits.reads)
    ∙ went _ _ x.picture (member_read rows_form path Picture d refl picture.reads)
    ∙ went _ _ x.prices (member_read (prices_form kept.0) path Prices d refl
    (λ p. prices_read kept.0 p prices.spelled ps x.prices (prices.reads p) kept.2 kept.3 kept.4))
    ∙ went _ _ x.start (member_read rows_form path Start d refl start.reads))
