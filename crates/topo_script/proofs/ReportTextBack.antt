-- The text of a report is read as that report.
use Rattle.std.proofs.Common.{◌≡◌, ℕ, ◌^◌, ◌<◌, ◌≤◌, Bool, true, false, List, length, Option, Some}
use Rattle.std.proofs.Common.{None, Ok, refl, sym, ap, ◌∙◌, arith, IsUtf8, lit<, if◌then◌else◌, subst}
use Rattle.std.specs.List.{AllByRecursion}
use Rattle.serde_json.specs.Data.{Data, no_items, item}
use Rattle.topo_core.specs.declared.calls.Call.{Call}
use Rattle.topo_core.specs.declared.calls.Call.TheVariants.{Grow, Insert, Delete}
use Rattle.topo_core.specs.declared.calls.Entry.{Entry}
use Rattle.topo_core.specs.declared.calls.Reply.{Reply}
use Rattle.topo_core.specs.declared.calls.Reply.TheVariants.{Grown, Inserted, Deleted, Refused}
use Rattle.topo_core.specs.declared.calls.Refusal.{Refusal}
use Rattle.topo_core.specs.declared.calls.Refusal.TheVariants.{NoVertex, SameEnds, NoPosition, NoEdge, BadKind, Cut, Full, Memory, NoRoute}
use Rattle.topo_core.specs.declared.darts.Dart.{Dart}
use Rattle.topo_core.specs.declared.darts.Way.{Way}
use Rattle.topo_core.specs.declared.darts.Way.TheVariants.{Forward, Back}
use Rattle.topo_core.specs.declared.routes.Inserted.{Inserted as Made}
use Rattle.topo_script.specs.declared.scripts.LimitRows.{LimitRows}
use Rattle.topo_script.specs.declared.reports.Report.{Report}
use Rattle.topo_script.specs.Pictures.{list_data}
use Rattle.topo_script.specs.Prices.{without_ones}
use Rattle.topo_script.specs.Ranges.{LimitsFit, PriceFits, CallFits, DartFits, InsertedFits, RefusalFits, ReplyFits, EntryFits, ReportFits}
use Rattle.topo_script.specs.ReportTexts.{limits_data, price_data, prices_data, has_null, version_of, way_data, dart_data, call_data}
use Rattle.topo_script.specs.ReportTexts.{pair_data, refusal_data, inserted_data, reply_data, entry_data, report_data, report_text}
use Rattle.topo_script.specs.Scripts.{report_of}
use Rattle.topo_script.proofs.Interface.{went}
use Rattle.topo_script.proofs.Texts.{IsPlain, ArePlainItems, plain_number, plain_string, plain_null, plain_list, plain_array}
use Rattle.topo_script.proofs.Texts.{no_plain_items, one_plain_item, plain_object, no_plain_members, one_plain_member}
use Rattle.topo_script.proofs.RowsBack.{all_map, plain_short, plain_rows, deeper, text_value}
use Rattle.topo_script.proofs.ReportBack.{report_back}
use Rattle.topo_core.specs.declared.rows.TheConstants.{KINDS}

three_plain : (n : ℕ) (a b d : Data) → IsPlain n a → IsPlain n b → IsPlain n d → ArePlainItems n (item a (item b (item d no_items)))
three_plain n a b d h k l = one_plain_item n a _ h (one_plain_item n b _ k (one_plain_item n d _ l (no_plain_items n)))

plain_limits : (limits : LimitRows) → LimitsFit limits → IsPlain 1 (limits_data limits)
plain_limits limits h = plain_object 0 _ refl
    (one_plain_member 0 _ _ _ (plain_short 0 limits.crossings h.crossings)
    (one_plain_member 0 _ _ _ (plain_short 0 limits.edges h.edges)
    (one_plain_member 0 _ _ _ (plain_short 0 limits.vertices h.vertices) (no_plain_members 0))))

plain_price : (price : Option ℕ) → PriceFits price → IsPlain 0 (price_data price)
plain_price None h = plain_null 0
plain_price (Some n) h = plain_short 0 n h

plain_way : (way : Way) → IsPlain 0 (way_data way)
plain_way Forward = plain_string 0 _
plain_way Back = plain_string 0 _

plain_dart : (d : Dart) → DartFits d → IsPlain 1 (dart_data d)
plain_dart d h = plain_array 0 _ (three_plain 0 _ _ _ (plain_short 0 d.edge h.edge) (plain_short 0 d.seg h.seg) (plain_way d.way))

plain_call : (call : Call) → CallFits call → IsPlain 1 (call_data call)
plain_call (Grow u position kind) h =
    plain_array 0 _ (one_plain_item 0 _ _ (plain_string 0 _) (three_plain 0 _ _ _ (plain_short 0 u h.0) (plain_short 0 position h.1) (plain_short 0 kind h.2)))
plain_call (Insert u v kind) h =
    plain_array 0 _ (one_plain_item 0 _ _ (plain_string 0 _) (three_plain 0 _ _ _ (plain_short 0 u h.0) (plain_short 0 v h.1) (plain_short 0 kind h.2)))
plain_call (Delete edge) h = plain_array 0 _ (one_plain_item 0 _ _ (plain_string 0 _) (one_plain_item 0 _ _ (plain_short 0 edge h) (no_plain_items 0)))

plain_pair : (n : ℕ) (name : List ℕ) → n < 2 ^ 32 → IsPlain 1 (pair_data n name)
plain_pair n name h = plain_array 0 _ (one_plain_item 0 _ _ (plain_short 0 n h) (one_plain_item 0 _ _ (plain_string 0 name) (no_plain_items 0)))

plain_refusal : (why : Refusal) → RefusalFits why → IsPlain 1 (refusal_data why)
plain_refusal NoVertex h = plain_pair 1 _ (lit< tt)
plain_refusal SameEnds h = plain_pair 2 _ (lit< tt)
plain_refusal NoPosition h = plain_pair 3 _ (lit< tt)
plain_refusal NoEdge h = plain_pair 4 _ (lit< tt)
plain_refusal BadKind h = plain_pair 5 _ (lit< tt)
plain_refusal (Cut segment) h = plain_array 0 _ (three_plain 0 _ _ _ (plain_short 0 6 (lit< tt)) (plain_string 0 _) (plain_short 0 segment h))
plain_refusal Full h = plain_pair 7 _ (lit< tt)
plain_refusal Memory h = absurd h
plain_refusal NoRoute h = plain_pair 9 _ (lit< tt)

plain_inserted : (made : Made) → InsertedFits made → IsPlain 3 (inserted_data made)
plain_inserted made h = plain_object 2 _ refl
    (one_plain_member 2 _ _ _
    (plain_list 1 dart_data made.route.crossed (all_map DartFits (λ d. IsPlain 1 (dart_data d)) made.route.crossed plain_dart h.crossed))
    (one_plain_member 2 _ _ _ (plain_short 2 made.id h.id)
    (one_plain_member 2 _ _ _ (plain_short 2 made.route.end h.end)
    (one_plain_member 2 _ _ _ (plain_number 2 made.price h.price)
    (one_plain_member 2 _ _ _ (plain_short 2 made.route.start h.start) (no_plain_members 2))))))

plain_reply : (reply : Reply) → ReplyFits reply → IsPlain 3 (reply_data reply)
plain_reply (Grown vertex edge) h =
    plain_object 2 _ refl (one_plain_member 2 _ _ _ (plain_short 2 edge h.1) (one_plain_member 2 _ _ _ (plain_short 2 vertex h.0) (no_plain_members 2)))
plain_reply (Inserted made) h = plain_inserted made h
plain_reply (Deleted edge) h = plain_object 2 _ refl (one_plain_member 2 _ _ _ (plain_short 2 edge h) (no_plain_members 2))
plain_reply (Refused why) h = plain_object 2 _ refl (one_plain_member 2 _ _ _ (deeper 1 2 _ (omega arith) (plain_refusal why h)) (no_plain_members 2))

plain_entry : (entry : Entry) → EntryFits entry → IsPlain 4 (entry_data entry)
plain_entry entry h = plain_object 3 _ refl
    (one_plain_member 3 _ _ _ (deeper 1 3 _ (omega arith) (plain_call entry.call h.call))
    (one_plain_member 3 _ _ _ (plain_short 3 entry.caller h.caller)
    (one_plain_member 3 _ _ _ (plain_reply entry.reply h.reply) (no_plain_members 3))))

small_version : (b : Bool) → (if b then 2 else 1) < 2 ^ 32
small_version true = lit< tt
small_version false = lit< tt

plain_prices : (prices : List (Option ℕ)) → without_ones prices ≡ prices → AllByRecursion PriceFits prices → IsPlain 1 (prices_data prices)
plain_prices prices kept h =
    subst (λ (ps : List (Option ℕ)). IsPlain 1 (list_data price_data ps)) (sym kept)
    (plain_list 0 price_data prices (all_map PriceFits (λ price. IsPlain 0 (price_data price)) prices plain_price h))

plain_report : (r : Report) → ReportFits r → without_ones r.prices ≡ r.prices → IsPlain 6 (report_data r)
plain_report r h kept = plain_object 5 _ refl
    (one_plain_member 5 _ _ _ (plain_list 4 entry_data r.history (all_map EntryFits (λ entry. IsPlain 4 (entry_data entry)) r.history plain_entry h.history))
    (one_plain_member 5 _ _ _ (deeper 1 5 _ (omega arith) (plain_limits r.limits h.limits))
    (one_plain_member 5 _ _ _ (deeper 4 5 _ (omega arith) (plain_rows r.picture h.picture))
    (one_plain_member 5 _ _ _ (deeper 1 5 _ (omega arith) (plain_prices r.prices kept h.prices))
    (one_plain_member 5 _ _ _ (deeper 4 5 _ (omega arith) (plain_rows r.start h.start))
    (one_plain_member 5 _ _ _ (plain_short 5 (version_of r.prices) (small_version (has_null r.prices))) (no_plain_members 5)))))))

report_read_back : (r : Report) → ReportFits r → length r.prices ≤ KINDS → without_ones r.prices ≡ r.prices → IsUtf8 (report_text r)
    → length (report_text r) ≤ 268435456 → report_of (report_text r) ≡ Ok r
unfolding report_of report_text
report_read_back r h few kept utf8 short =
    went _ _ (report_data r) (text_value 268435456 6 (report_data r) (plain_report r h kept) (omega arith) utf8 short) ∙ report_back r h few kept

pub report_text_read_back : (r : Report) (text : List ℕ) → text ≡ report_text r → IsUtf8 text → ReportFits r → length r.prices ≤ KINDS
    → without_ones r.prices ≡ r.prices → length text ≤ 268435456 → report_of text ≡ Ok r
report_text_read_back r text e utf8 h few kept short =
    ap report_of e ∙ report_read_back r h few kept (subst IsUtf8 e utf8) (subst (λ (t : List ℕ). length t ≤ 268435456) e short)
