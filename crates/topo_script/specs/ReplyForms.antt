-- The forms of replies and of the entries of a history.
use Rattle.std.specs.Prelude.{ℕ, ◌==◌, ◌&&◌, Bool, false, List, codes, Option, option_map, option_and_then, unwrap_or, if◌then◌else◌, Ok, Err}
use Rattle.serde_json.specs.Data.{Data}
use Rattle.serde_json.specs.Find.{at, as_number, as_u64}
use Rattle.topo_core.specs.declared.darts.Dart.{Dart}
use Rattle.topo_core.specs.declared.darts.Way.{Way}
use Rattle.topo_core.specs.declared.darts.Way.TheVariants.{Forward, Back}
use Rattle.topo_core.specs.declared.calls.Entry.{Entry}
use Rattle.topo_core.specs.declared.calls.Reply.{Reply}
use Rattle.topo_core.specs.declared.calls.Reply.TheVariants.{Grown, Inserted, Deleted, Refused}
use Rattle.topo_core.specs.declared.calls.Refusal.{Refusal}
use Rattle.topo_core.specs.declared.calls.Refusal.TheVariants.{NoVertex, SameEnds, NoPosition, NoEdge, BadKind, Cut, Full, NoRoute}
use Rattle.topo_script.specs.declared.keys.TheConstants.{ENTRY_KEYS, GROWN_KEYS, INSERTED_KEYS}
use Rattle.topo_script.specs.declared.path.Key.TheVariants.{Call, Caller, Crossed, Deleted as DeletedKey, Edge, End, Price}
use Rattle.topo_script.specs.declared.path.Key.TheVariants.{Refused as RefusedKey, Reply as ReplyKey, Start, Vertex}
use Rattle.topo_script.specs.declared.path.JsonPath.{JsonPath}
use Rattle.topo_script.specs.declared.fault.ScriptFault.TheVariants.{BadShape}
use Rattle.topo_script.specs.Reads.{Read, ◌>>=◌, passes, number_form, long_form, is_text, element_count, list_form, element, has_key, has_keys, member_form, only_form}
use Rattle.topo_script.specs.CallForms.{call_form}

unfoldable pub way_form : JsonPath → Data → Read Way
way_form path d = if is_text (codes "forward") d then Ok Forward else (if is_text (codes "back") d then Ok Back else Err (BadShape path))

unfoldable pub dart_form : JsonPath → Data → Read Dart
dart_form path d = do
  _ ← passes (BadShape path) (element_count d == 3)
  edge ← element number_form path 0 d
  seg ← element number_form path 1 d
  way ← element way_form path 2 d
  Ok (record { edge = edge; seg = seg; way = way })

-- ---- Refusals

abbrev pub is_number : ℕ → Option Data → Bool
is_number number d = unwrap_or (option_map (λ n. n == number) (option_and_then as_u64 (option_and_then as_number d))) false

-- an array of so many elements that begins with this number and this name
abbrev pub is_pair : ℕ → ℕ → List ℕ → Data → Bool
is_pair count number name d = ((element_count d == count) && is_number number (at 0 d)) && unwrap_or (option_map (is_text name) (at 1 d)) false

unfoldable pub plain_refusal : JsonPath → Data → Read Refusal
plain_refusal path d =
    if is_pair 2 1 (codes "NoVertex") d then Ok NoVertex else (
    if is_pair 2 2 (codes "SameEnds") d then Ok SameEnds else (
    if is_pair 2 3 (codes "NoPosition") d then Ok NoPosition else (
    if is_pair 2 4 (codes "NoEdge") d then Ok NoEdge else (
    if is_pair 2 5 (codes "BadKind") d then Ok BadKind else (
    if is_pair 2 7 (codes "Full") d then Ok Full else (
    if is_pair 2 9 (codes "NoRoute") d then Ok NoRoute else
    Err (BadShape path)))))))

-- Cut has a segment, which is tested as every number is
unfoldable pub cut_form : JsonPath → Data → Read Refusal
cut_form path d = do
  segment ← element number_form path 2 d
  Ok (Cut segment)

abbrev pub refusal_form : JsonPath → Data → Read Refusal
refusal_form path d = if is_pair 3 6 (codes "Cut") d then cut_form path d else plain_refusal path d

-- ---- Replies

unfoldable pub deleted_form : JsonPath → Data → Read Reply
deleted_form path d = do
  edge ← only_form number_form path DeletedKey d
  Ok (Deleted edge)

unfoldable pub refused_form : JsonPath → Data → Read Reply
refused_form path d = do
  why ← only_form refusal_form path RefusedKey d
  Ok (Refused why)

unfoldable pub grown_form : JsonPath → Data → Read Reply
grown_form path d = do
  _ ← has_keys path GROWN_KEYS d
  edge ← member_form number_form path Edge d
  vertex ← member_form number_form path Vertex d
  Ok (Grown vertex edge)

unfoldable pub inserted_form : JsonPath → Data → Read Reply
inserted_form path d = do
  _ ← has_keys path INSERTED_KEYS d
  crossed ← member_form (list_form dart_form) path Crossed d
  edge ← member_form number_form path Edge d
  end ← member_form number_form path End d
  price ← member_form long_form path Price d
  start ← member_form number_form path Start d
  Ok (Inserted (record { id = edge; route = record { start = start; crossed = crossed; end = end }; price = price }))

-- the keys choose the form
unfoldable pub reply_form : JsonPath → Data → Read Reply
reply_form path d =
    if has_key DeletedKey d then deleted_form path d else (
    if has_key RefusedKey d then refused_form path d else (
    if has_key Crossed d then inserted_form path d else
    grown_form path d))

unfoldable pub entry_form : JsonPath → Data → Read Entry
entry_form path d = do
  _ ← has_keys path ENTRY_KEYS d
  call ← member_form call_form path Call d
  caller ← member_form number_form path Caller d
  reply ← member_form reply_form path ReplyKey d
  Ok (record { caller = caller; call = call; reply = reply })
