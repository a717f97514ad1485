-- The JSON value of a report, and its text.
use Rattle.std.specs.Prelude.{ℕ, Bool, true, false, List, [], ◌∷◌, codes, Option, Some, None, if◌then◌else◌}
use Rattle.serde_json.specs.Data.{Data, null, string, array, object, no_items, item, no_members, member}
use Rattle.serde_json.specs.Written.{compact_text}
use Rattle.topo_core.specs.declared.darts.Dart.{Dart}
use Rattle.topo_core.specs.declared.darts.Way.{Way}
use Rattle.topo_core.specs.declared.darts.Way.TheVariants.{Forward, Back}
use Rattle.topo_core.specs.declared.calls.Call.{Call}
use Rattle.topo_core.specs.declared.calls.Call.TheVariants.{Grow, Insert, Delete}
use Rattle.topo_core.specs.declared.calls.Entry.{Entry}
use Rattle.topo_core.specs.declared.calls.Reply.{Reply}
use Rattle.topo_core.specs.declared.calls.Reply.TheVariants.{Grown, Inserted, Deleted, Refused}
use Rattle.topo_core.specs.declared.calls.Refusal.{Refusal}
use Rattle.topo_core.specs.declared.calls.Refusal.TheVariants.{NoVertex, SameEnds, NoPosition, NoEdge, BadKind, Cut, Full, Memory, NoRoute}
use Rattle.topo_core.specs.declared.routes.Inserted.{Inserted as Made}
use Rattle.topo_script.specs.declared.scripts.LimitRows.{LimitRows}
use Rattle.topo_script.specs.declared.reports.Report.{Report}
use Rattle.topo_script.specs.Pictures.{number_data, list_data, rows_data}
use Rattle.topo_script.specs.Prices.{without_ones}

abbrev pub limits_data : LimitRows → Data
limits_data limits = object
    (member (codes "crossings") (number_data limits.crossings)
    (member (codes "edges") (number_data limits.edges)
    (member (codes "vertices") (number_data limits.vertices) no_members)))

-- ---- Prices

abbrev pub price_data : Option ℕ → Data
price_data None = null
price_data (Some price) = number_data price

-- without the ones at the end
abbrev pub prices_data : List (Option ℕ) → Data
prices_data prices = list_data price_data (without_ones prices)

abbrev pub has_null : List (Option ℕ) → Bool
has_null [] = false
has_null (None ∷ prices) = true
has_null (Some price ∷ prices) = has_null prices

-- 2 exactly where a price is null
abbrev pub version_of : List (Option ℕ) → ℕ
version_of prices = if has_null prices then 2 else 1

-- ---- Calls and replies

abbrev pub way_data : Way → Data
way_data Forward = string (codes "forward")
way_data Back = string (codes "back")

abbrev pub dart_data : Dart → Data
dart_data d = array (item (number_data d.edge) (item (number_data d.seg) (item (way_data d.way) no_items)))

abbrev pub call_data : Call → Data
call_data (Grow u position kind) = array (item (string (codes "grow")) (item (number_data u) (item (number_data position) (item (number_data kind) no_items))))
call_data (Insert u v kind) = array (item (string (codes "insert")) (item (number_data u) (item (number_data v) (item (number_data kind) no_items))))
call_data (Delete edge) = array (item (string (codes "delete")) (item (number_data edge) no_items))

-- a number and a name
abbrev pub pair_data : ℕ → List ℕ → Data
pair_data n name = array (item (number_data n) (item (string name) no_items))

abbrev pub refusal_data : Refusal → Data
refusal_data NoVertex = pair_data 1 (codes "NoVertex")
refusal_data SameEnds = pair_data 2 (codes "SameEnds")
refusal_data NoPosition = pair_data 3 (codes "NoPosition")
refusal_data NoEdge = pair_data 4 (codes "NoEdge")
refusal_data BadKind = pair_data 5 (codes "BadKind")
refusal_data (Cut segment) = array (item (number_data 6) (item (string (codes "Cut")) (item (number_data segment) no_items)))
refusal_data Full = pair_data 7 (codes "Full")
refusal_data Memory = pair_data 8 (codes "Memory")
refusal_data NoRoute = pair_data 9 (codes "NoRoute")

abbrev pub inserted_data : Made → Data
inserted_data made = object
    (member (codes "crossed") (list_data dart_data made.route.crossed)
    (member (codes "edge") (number_data made.id)
    (member (codes "end") (number_data made.route.end)
    (member (codes "price") (number_data made.price)
    (member (codes "start") (number_data made.route.start) no_members)))))

abbrev pub reply_data : Reply → Data
reply_data (Grown vertex edge) = object (member (codes "edge") (number_data edge) (member (codes "vertex") (number_data vertex) no_members))
reply_data (Inserted made) = inserted_data made
reply_data (Deleted edge) = object (member (codes "deleted") (number_data edge) no_members)
reply_data (Refused why) = object (member (codes "refused") (refusal_data why) no_members)

abbrev pub entry_data : Entry → Data
entry_data entry = object
    (member (codes "call") (call_data entry.call)
    (member (codes "caller") (number_data entry.caller)
    (member (codes "reply") (reply_data entry.reply) no_members)))

-- ---- The whole

abbrev pub report_data : Report → Data
report_data r = object
    (member (codes "history") (list_data entry_data r.history)
    (member (codes "limits") (limits_data r.limits)
    (member (codes "picture") (rows_data r.picture)
    (member (codes "prices") (prices_data r.prices)
    (member (codes "start") (rows_data r.start)
    (member (codes "version") (number_data (version_of r.prices)) no_members))))))

-- the text of a report: no space, and keys in the order of their bytes
unfoldable pub report_text : Report → List ℕ
report_text r = compact_text (report_data r)
