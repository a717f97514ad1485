-- The value of a report is read as that report.
use Rattle.std.proofs.Common.{◌≡◌, ℕ, suc, ◌^◌, ◌<◌, ◌≤◌, nat_le, Bool, true, false, List, [], ◌∷◌, map, length}
use Rattle.std.proofs.Common.{Option, Some, None, Ok, refl, ap, ◌∙◌, lt-ltb, le-leb, lit<, if◌then◌else◌}
use Rattle.std.specs.List.{AllByRecursion}
use Rattle.serde_json.specs.Data.{Data}
use Rattle.serde_json.specs.Events.{items_len}
use Rattle.serde_json.specs.Find.{at}
use Rattle.serde_json.specs.View.{items_of}
use Rattle.topo_core.specs.declared.calls.Call.{Call}
use Rattle.topo_core.specs.declared.calls.Call.TheVariants.{Grow, Insert, Delete}
use Rattle.topo_core.specs.declared.calls.Entry.{Entry}
use Rattle.topo_core.specs.declared.calls.Reply.{Reply}
use Rattle.topo_core.specs.declared.calls.Reply.TheVariants.{Grown, Inserted, Deleted, Refused}
use Rattle.topo_core.specs.declared.calls.Refusal.{Refusal}
use Rattle.topo_core.specs.declared.calls.Refusal.TheVariants.{NoVertex, SameEnds, NoPosition, NoEdge, BadKind, Cut, Full, Memory, NoRoute}
use Rattle.topo_core.specs.declared.darts.Dart.{Dart}
use Rattle.topo_core.specs.declared.darts.Way.{Way}
use Rattle.topo_core.specs.declared.darts.Way.TheVariants.{Forward, Back}
use Rattle.topo_core.specs.declared.routes.Inserted.{Inserted as Made}
use Rattle.topo_script.specs.declared.path.Key.TheVariants as key
use Rattle.topo_script.specs.declared.path.JsonPath.{JsonPath}
use Rattle.topo_script.specs.declared.scripts.LimitRows.{LimitRows}
use Rattle.topo_script.specs.declared.reports.Report.{Report}
use Rattle.topo_script.specs.declared.fault.ScriptFault.TheVariants.{BadShape}
use Rattle.topo_script.specs.Paths.{whole, element_of, member_of}
use Rattle.topo_script.specs.Pictures.{number_data, list_data}
use Rattle.topo_script.specs.Prices.{without_ones}
use Rattle.topo_script.specs.Ranges.{LimitsFit, PriceFits, CallFits, DartFits, InsertedFits, RefusalFits, ReplyFits, EntryFits, ReportFits}
use Rattle.topo_script.specs.Reads.{Read, and_then, passes, element_count, number_below, number_form, long_form, list_form, has_keys, element, member_form, only_form}
use Rattle.topo_script.specs.ReportTexts.{limits_data, price_data, prices_data, has_null, version_of, way_data, dart_data}
use Rattle.topo_script.specs.ReportTexts.{call_data, refusal_data, inserted_data, reply_data, entry_data, report_data}
use Rattle.topo_script.specs.RowForms.{rows_form}
use Rattle.topo_script.specs.CallForms.{call_form, grow_form, insert_form, delete_form}
use Rattle.topo_script.specs.ReplyForms.{way_form, dart_form, plain_refusal, cut_form, refusal_form, deleted_form}
use Rattle.topo_script.specs.ReplyForms.{refused_form, grown_form, inserted_form, reply_form, entry_form}
use Rattle.topo_script.specs.Scripts.{limits_form, nulls_of, nulls_in, some_price, price_form, prices_form, report_form}
use Rattle.topo_script.proofs.FormKeys.{entry_keys, grown_keys, inserted_keys, limits_keys, report_keys}
use Rattle.topo_script.proofs.Interface.{went}
use Rattle.topo_script.proofs.RowsBack.{short_back, list_back, member_back, all_map, rows_back}
use Rattle.topo_core.specs.declared.rows.TheConstants.{KINDS}

-- ---- Forms

long_back : (path : JsonPath) (n : ℕ) → n < 2 ^ 64 → long_form path (number_data n) ≡ Ok n
unfolding number_below and_then
long_back path n h = rw (lt-ltb n (2 ^ 64) h)

element_back : {A : Type 0} (form : JsonPath → Data → Read A) (path : JsonPath) (i : ℕ) (d found : Data) (x : A)
    → at i d ≡ Some found → form (element_of path i) found ≡ Ok x → element form path i d ≡ Ok x
unfolding element and_then
element_back form path i d found x there h = rw there h

limits_back : (path : JsonPath) (limits : LimitRows) → LimitsFit limits → limits_form path (limits_data limits) ≡ Ok limits
unfolding limits_form
limits_back path limits h =
    went _ _ tt (limits_keys path _ _ _)
    ∙ went _ _ limits.crossings
    (member_back number_form path key.Crossings (limits_data limits) _ limits.crossings refl (short_back _ limits.crossings h.crossings))
    ∙ went _ _ limits.edges (member_back number_form path key.Edges (limits_data limits) _ limits.edges refl (short_back _ limits.edges h.edges))
    ∙ went _ _ limits.vertices (member_back number_form path key.Vertices (limits_data limits) _ limits.vertices refl (short_back _ limits.vertices h.vertices))

grow_back : (path : JsonPath) (u position kind : ℕ) → CallFits (Grow u position kind)
    → grow_form path (call_data (Grow u position kind)) ≡ Ok (Grow u position kind)
unfolding grow_form
grow_back path u position kind h =
    let d = call_data (Grow u position kind) in
    went _ _ u (element_back number_form path 1 d _ u refl (short_back _ u h.0))
    ∙ went _ _ position (element_back number_form path 2 d _ position refl (short_back _ position h.1))
    ∙ went _ _ kind (element_back number_form path 3 d _ kind refl (short_back _ kind h.2))

insert_back : (path : JsonPath) (u v kind : ℕ) → CallFits (Insert u v kind) → insert_form path (call_data (Insert u v kind)) ≡ Ok (Insert u v kind)
unfolding insert_form
insert_back path u v kind h =
    let d = call_data (Insert u v kind) in
    went _ _ u (element_back number_form path 1 d _ u refl (short_back _ u h.0))
    ∙ went _ _ v (element_back number_form path 2 d _ v refl (short_back _ v h.1))
    ∙ went _ _ kind (element_back number_form path 3 d _ kind refl (short_back _ kind h.2))

delete_back : (path : JsonPath) (edge : ℕ) → edge < 2 ^ 32 → delete_form path (call_data (Delete edge)) ≡ Ok (Delete edge)
unfolding delete_form
delete_back path edge h = went _ _ edge (element_back number_form path 1 (call_data (Delete edge)) _ edge refl (short_back _ edge h))

call_back : (path : JsonPath) (call : Call) → CallFits call → call_form path (call_data call) ≡ Ok call
unfolding call_form
call_back path (Grow u position kind) h = grow_back path u position kind h
call_back path (Insert u v kind) h = insert_back path u v kind h
call_back path (Delete edge) h = delete_back path edge h

way_back : (path : JsonPath) (way : Way) → way_form path (way_data way) ≡ Ok way
unfolding way_form
way_back path Forward = refl
way_back path Back = refl

dart_back : (path : JsonPath) (d : Dart) → DartFits d → dart_form path (dart_data d) ≡ Ok d
unfolding dart_form
dart_back path d h =
    went _ _ tt refl
    ∙ went _ _ d.edge (element_back number_form path 0 (dart_data d) _ d.edge refl (short_back _ d.edge h.edge))
    ∙ went _ _ d.seg (element_back number_form path 1 (dart_data d) _ d.seg refl (short_back _ d.seg h.seg))
    ∙ went _ _ d.way (element_back way_form path 2 (dart_data d) _ d.way refl (way_back _ d.way))

cut_back : (path : JsonPath) (segment : ℕ) → segment < 2 ^ 32 → cut_form path (refusal_data (Cut segment)) ≡ Ok (Cut segment)
unfolding cut_form
cut_back path segment h = went _ _ segment (element_back number_form path 2 (refusal_data (Cut segment)) _ segment refl (short_back _ segment h))

refusal_back : (path : JsonPath) (why : Refusal) → RefusalFits why → refusal_form path (refusal_data why) ≡ Ok why
unfolding plain_refusal
refusal_back path NoVertex h = refl
refusal_back path SameEnds h = refl
refusal_back path NoPosition h = refl
refusal_back path NoEdge h = refl
refusal_back path BadKind h = refl
refusal_back path (Cut segment) h = cut_back path segment h
refusal_back path Full h = refl
refusal_back path Memory h = absurd h
refusal_back path NoRoute h = refl

deleted_back : (path : JsonPath) (edge : ℕ) → edge < 2 ^ 32 → deleted_form path (reply_data (Deleted edge)) ≡ Ok (Deleted edge)
unfolding deleted_form only_form has_keys member_form and_then
deleted_back path edge h = rw (short_back (member_of path key.Deleted) edge h) refl

refused_back : (path : JsonPath) (why : Refusal) → RefusalFits why → refused_form path (reply_data (Refused why)) ≡ Ok (Refused why)
unfolding refused_form only_form has_keys member_form and_then
refused_back path why h = rw (refusal_back (member_of path key.Refused) why h) refl

grown_back : (path : JsonPath) (vertex edge : ℕ) → (vertex < 2 ^ 32) → (edge < 2 ^ 32) → grown_form path (reply_data (Grown vertex edge)) ≡ Ok (Grown vertex edge)
unfolding grown_form
grown_back path vertex edge h k =
    went _ _ tt (grown_keys path _ _)
    ∙ went _ _ edge (member_back number_form path key.Edge (reply_data (Grown vertex edge)) _ edge refl (short_back _ edge k))
    ∙ went _ _ vertex (member_back number_form path key.Vertex (reply_data (Grown vertex edge)) _ vertex refl (short_back _ vertex h))

inserted_back : (path : JsonPath) (made : Made) → InsertedFits made → inserted_form path (inserted_data made) ≡ Ok (Inserted made)
unfolding inserted_form
inserted_back path made h =
    let darts = all_map DartFits (λ d. (p : JsonPath) → dart_form p (dart_data d) ≡ Ok d) made.route.crossed (λ d k p. dart_back p d k) h.crossed in
    went _ _ tt (inserted_keys path _ _ _ _ _)
    ∙ went _ _ made.route.crossed (member_back (list_form dart_form) path key.Crossed (inserted_data made) _ made.route.crossed refl
    (list_back dart_form dart_data _ made.route.crossed darts))
    ∙ went _ _ made.id (member_back number_form path key.Edge (inserted_data made) _ made.id refl (short_back _ made.id h.id))
    ∙ went _ _ made.route.end (member_back number_form path key.End (inserted_data made) _ made.route.end refl (short_back _ made.route.end h.end))
    ∙ went _ _ made.price (member_back long_form path key.Price (inserted_data made) _ made.price refl (long_back _ made.price h.price))
    ∙ went _ _ made.route.start (member_back number_form path key.Start (inserted_data made) _ made.route.start refl (short_back _ made.route.start h.start))

reply_back : (path : JsonPath) (reply : Reply) → ReplyFits reply → reply_form path (reply_data reply) ≡ Ok reply
unfolding reply_form
reply_back path (Grown vertex edge) h = grown_back path vertex edge h.0 h.1
reply_back path (Inserted made) h = inserted_back path made h
reply_back path (Deleted edge) h = deleted_back path edge h
reply_back path (Refused why) h = refused_back path why h

pub entry_back : (path : JsonPath) (entry : Entry) → EntryFits entry → entry_form path (entry_data entry) ≡ Ok entry
unfolding entry_form
entry_back path entry h =
    went _ _ tt (entry_keys path _ _ _)
    ∙ went _ _ entry.call (member_back call_form path key.Call (entry_data entry) _ entry.call refl (call_back _ entry.call h.call))
    ∙ went _ _ entry.caller (member_back number_form path key.Caller (entry_data entry) _ entry.caller refl (short_back _ entry.caller h.caller))
    ∙ went _ _ entry.reply (member_back reply_form path key.Reply (entry_data entry) _ entry.reply refl (reply_back _ entry.reply h.reply))

-- ---- Prices

items_len-items_of : {X : Type 0} (f : X → Data) (xs : List X) → items_len (items_of (map f xs)) ≡ length xs
items_len-items_of f [] = refl
items_len-items_of f (x ∷ xs) = ap suc (items_len-items_of f xs)

-- a null is read where the version lets it be
abbrev pub MayStand : Bool → Option ℕ → Type 0
MayStand nulls None = nulls ≡ true
MayStand nulls (Some price) = Unit {0}

nulls_stand : (nulls : Bool) (prices : List (Option ℕ)) → (has_null prices ≡ true → nulls ≡ true) → AllByRecursion (MayStand nulls) prices
nulls_stand nulls [] h = tt
nulls_stand nulls (None ∷ prices) h = (h refl, nulls_stand nulls prices (λ _. h refl))
nulls_stand nulls (Some price ∷ prices) h = (tt, nulls_stand nulls prices h)

some_price_back : (path : JsonPath) (n : ℕ) → n < 2 ^ 32 → some_price path (number_data n) ≡ Ok (Some n)
unfolding some_price
some_price_back path n h = went _ _ n (short_back path n h)

price_back : (nulls : Bool) (path : JsonPath) (price : Option ℕ) → MayStand nulls price → PriceFits price → price_form nulls path (price_data price) ≡ Ok price
unfolding price_form
price_back nulls path None stands h = rw stands
price_back true path (Some n) stands h = some_price_back path n h
price_back false path (Some n) stands h = some_price_back path n h

both_map : (nulls : Bool) (prices : List (Option ℕ)) → AllByRecursion (MayStand nulls) prices → AllByRecursion PriceFits prices
    → AllByRecursion (λ price. (p : JsonPath) → price_form nulls p (price_data price) ≡ Ok price) prices
both_map nulls [] h k = tt
both_map nulls (price ∷ prices) h k = (λ p. price_back nulls p price h.0 k.0, both_map nulls prices h.1 k.1)

few : (path : JsonPath) (prices : List (Option ℕ)) → length prices ≤ KINDS
    → passes (BadShape path) (nat_le (element_count (list_data price_data prices)) KINDS) ≡ Ok tt
few path prices h = rw (items_len-items_of price_data prices, le-leb (length prices) KINDS h)

kept_back : (nulls : Bool) (path : JsonPath) (prices : List (Option ℕ)) → AllByRecursion (MayStand nulls) prices → AllByRecursion PriceFits prices
    → length prices ≤ KINDS
    → prices_form nulls path (list_data price_data prices) ≡ Ok (without_ones prices)
unfolding prices_form
kept_back nulls path prices stand fit short = went _ _ tt (few path prices short)
    ∙ went _ _ prices (list_back (price_form nulls) price_data path prices (both_map nulls prices stand fit))

prices_back : (nulls : Bool) (path : JsonPath) (prices : List (Option ℕ)) → without_ones prices ≡ prices → AllByRecursion (MayStand nulls) prices
    → AllByRecursion PriceFits prices → length prices ≤ KINDS
    → prices_form nulls path (prices_data prices) ≡ Ok prices
prices_back nulls path prices kept stand fit short =
    ap (λ (ps : List (Option ℕ)). prices_form nulls path (list_data price_data ps)) kept ∙ kept_back nulls path prices stand fit short
    ∙ ap (λ (ps : List (Option ℕ)). Ok ps) kept

-- ---- The whole

small_version : (b : Bool) → (if b then 2 else 1) < 2 ^ 32
small_version true = lit< tt
small_version false = lit< tt

version_back : (b : Bool) → nulls_of (if b then 2 else 1) ≡ Ok b
unfolding nulls_of
version_back true = refl
version_back false = refl

nulls_back : (r : Report) → nulls_in whole (report_data r) ≡ Ok (has_null r.prices)
unfolding nulls_in
nulls_back r =
    went _ _ tt refl
    ∙ went _ _ (version_of r.prices) (member_back number_form whole key.Version (report_data r) _ (version_of r.prices) refl
    (short_back _ (version_of r.prices) (small_version (has_null r.prices))))
    ∙ version_back (has_null r.prices)

pub report_back : (r : Report) → ReportFits r → length r.prices ≤ KINDS → without_ones r.prices ≡ r.prices → report_form whole (report_data r) ≡ Ok r
unfolding report_form
report_back r h short kept =
    let entries = all_map EntryFits (λ entry. (p : JsonPath) → entry_form p (entry_data entry) ≡ Ok entry) r.history
    (λ entry k p. entry_back p entry k) h.history in
    let nulls = has_null r.prices in
    went _ _ nulls (nulls_back r)
    ∙ went _ _ tt (report_keys whole _ _ _ _ _ _)
    ∙ went _ _ r.history
    (member_back (list_form entry_form) whole key.History (report_data r) _ r.history refl (list_back entry_form entry_data _ r.history entries))
    ∙ went _ _ r.limits (member_back limits_form whole key.Limits (report_data r) _ r.limits refl (limits_back _ r.limits h.limits))
    ∙ went _ _ r.picture (member_back rows_form whole key.Picture (report_data r) _ r.picture refl (rows_back _ r.picture h.picture))
    ∙ went _ _ r.prices (member_back (prices_form nulls) whole key.Prices (report_data r) _ r.prices refl
    (prices_back nulls _ r.prices kept (nulls_stand nulls r.prices (λ e. e)) h.prices short))
    ∙ went _ _ r.start (member_back rows_form whole key.Start (report_data r) _ r.start refl (rows_back _ r.start h.start))
