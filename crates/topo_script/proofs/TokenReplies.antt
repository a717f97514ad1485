-- Tokens that spell replies and entries of a history.
use Rattle.std.proofs.Common.{◌≡◌, ℕ, ◌≤◌, List, [], ◌∷◌, codes, Option, Some, None, IfSome, Ok, refl, ap, ◌∙◌, arith}
use Rattle.json.specs.Token.{Token, begin_array, string as text_token}
use Rattle.json.specs.Json.{after_end_array}
use Rattle.serde_json.specs.Data.{Data, array, item, no_items, number, string, unsigned, object, no_members, member}
use Rattle.topo_core.specs.declared.darts.Dart.{Dart}
use Rattle.topo_core.specs.declared.calls.Entry.{Entry}
use Rattle.topo_core.specs.declared.calls.Refusal.{Refusal}
use Rattle.topo_core.specs.declared.calls.Refusal.TheVariants.{Cut}
use Rattle.topo_core.specs.declared.calls.Reply.TheVariants.{Grown, Inserted, Deleted, Refused}
use Rattle.topo_core.specs.declared.routes.Inserted.{Inserted as InsertedEdge}
use Rattle.topo_script.specs.declared.keys.TheConstants.{ENTRY_KEYS, GROWN_KEYS, INSERTED_KEYS}
use Rattle.topo_script.specs.declared.path.Key.TheVariants.{Call, Caller, Crossed, Deleted as DeletedKey, Edge, End, Price}
use Rattle.topo_script.specs.declared.path.Key.TheVariants.{Refused as RefusedKey, Reply as ReplyKey, Start, Vertex}
use Rattle.topo_script.specs.declared.path.JsonPath.{JsonPath}
use Rattle.topo_script.specs.CallForms.{call_form}
use Rattle.topo_script.specs.Paths.{key_name, member_of}
use Rattle.topo_script.specs.Reads.{number_form, long_form, list_form, has_keys, and_then, member_form, only_form}
use Rattle.topo_script.specs.ReplyForms.{way_form, dart_form, refusal_form, cut_form, reply_form}
use Rattle.topo_script.specs.ReplyForms.{deleted_form, refused_form, grown_form, inserted_form, entry_form}
use Rattle.topo_script.specs.Slots.{members_of, SpellsValue, SpellsOnly}
use Rattle.topo_script.specs.Tokens.{Spells, SpellsLast, SpellsNumber}
use Rattle.topo_script.specs.TokenParts.{SpellsRefusal}
use Rattle.topo_script.proofs.FormKeys.{entry_keys, grown_keys, inserted_keys}
use Rattle.topo_script.proofs.Lookups.{element_read, member_read}
use Rattle.topo_script.proofs.Objects.{IsDue, then, object_tokens, value_tokens}
use Rattle.topo_script.proofs.Spellings.{few_done, element_then, text_then, number_then, few_tokens}
use Rattle.topo_script.proofs.Steps.{went}

pub dart_tokens : {x : Dart} {ts r0 r1 r2 r3 rest : List Token} → ts ≡ begin_array ∷ r0 → Spells 0 number_form r0 x.edge r1 → Spells 0 number_form r1 x.seg r2
    → Spells 0 way_form r2 x.way r3 → after_end_array r3 ≡ Some rest → Spells 1 dart_form ts x rest
unfolding dart_form
dart_tokens {x} e edge seg way close =
    let ds = item edge.spelled (item seg.spelled (item way.spelled no_items)) in
    few_tokens 0 ds e
    (element_then edge (omega arith) (element_then seg (omega arith) (element_then way (omega arith) (few_done close))))
    (λ path.
    went _ _ tt refl
    ∙ went _ _ x.edge (element_read number_form path 0 (array ds) refl edge.reads)
    ∙ went _ _ x.seg (element_read number_form path 1 (array ds) refl seg.reads)
    ∙ went _ _ x.way (element_read way_form path 2 (array ds) refl way.reads))

-- ---- Refusals

pub plain_tokens : (n : ℕ) {name text : List ℕ} {why : Refusal} {ts rest : List Token}
    → ((path : JsonPath) → refusal_form path (array (item (number (unsigned n)) (item (string text) no_items))) ≡ Ok why)
    → name ≡ text → after_end_array ts ≡ Some rest → SpellsRefusal n name ts why rest
plain_tokens n read same close =
    (no_items, few_done close, λ path. ap (λ s. refusal_form path (array (item (number (unsigned n)) (item (string s) no_items)))) same ∙ read path)

pub cut_tokens : {segment : ℕ} {ts rest : List Token} → SpellsLast ts segment rest → SpellsRefusal 6 (codes "Cut") ts (Cut segment) rest
unfolding cut_form
cut_tokens {segment} s = (
  item s.spelled.spelled no_items,
  element_then s.spelled (omega arith) (few_done s.closed),
  λ path. went _ _ segment (element_read number_form path 2 (array (item (number (unsigned 6)) (item (string (codes "Cut")) (item s.spelled.spelled no_items))))
      refl s.spelled.reads),
)

pub refusal_tokens : {n : ℕ} {name : List ℕ} (o : Option Refusal) {ts r0 r1 r2 : List Token} (rest : List Token) → ts ≡ begin_array ∷ r0 → SpellsNumber r0 n r1
    → r1 ≡ text_token name ∷ r2
    → IfSome o (λ why. SpellsRefusal n name r2 why rest) → IfSome o (λ why. Spells 1 refusal_form ts why rest)
refusal_tokens None rest e first second s = tt
refusal_tokens {n} {name} (Some why) rest e first second s =
    few_tokens 0 (item (number (unsigned n)) (item (string name) s.0)) e (number_then first (text_then second s.1)) s.2

-- ---- Replies

pub deleted_tokens : {edge : ℕ} {ts rest : List Token} → SpellsOnly 0 number_form DeletedKey ts edge rest → Spells 3 reply_form ts (Deleted edge) rest
unfolding reply_form deleted_form only_form has_keys member_form and_then
deleted_tokens s = value_tokens (object (member (key_name DeletedKey) s.0 no_members)) s.1 (omega arith) (λ path. rw (s.2 (member_of path DeletedKey)) refl)

pub refused_tokens : {why : Refusal} {ts rest : List Token} → SpellsOnly 1 refusal_form RefusedKey ts why rest → Spells 3 reply_form ts (Refused why) rest
unfolding reply_form refused_form only_form has_keys member_form and_then
refused_tokens s = value_tokens (object (member (key_name RefusedKey) s.0 no_members)) s.1 (omega arith) (λ path. rw (s.2 (member_of path RefusedKey)) refl)

pub grown_tokens : {vertex edge n : ℕ} {ts rest : List Token} {os p1 : List (Option Data)} → SpellsValue n ts (object (members_of GROWN_KEYS os)) rest → n ≤ 3
    → IsDue number_form edge os p1 → IsDue number_form vertex p1 [] → Spells 3 reply_form ts (Grown vertex edge) rest
unfolding reply_form grown_form
grown_tokens {vertex} {edge} v within first second =
    let values = Some first.spelled ∷ Some second.spelled ∷ [] in
    let d = object (members_of GROWN_KEYS values) in
    object_tokens GROWN_KEYS values v within (then first second.is)
    (λ path.
    went _ _ tt (grown_keys path _ _)
    ∙ went _ _ edge (member_read number_form path Edge d refl first.reads)
    ∙ went _ _ vertex (member_read number_form path Vertex d refl second.reads))

pub inserted_tokens : {x : InsertedEdge} {n : ℕ} {ts rest : List Token} {os p1 p2 p3 p4 : List (Option Data)}
    → SpellsValue n ts (object (members_of INSERTED_KEYS os)) rest → n ≤ 3
    → IsDue (list_form dart_form) x.route.crossed os p1 → IsDue number_form x.id p1 p2 → IsDue number_form x.route.end p2 p3
    → IsDue long_form x.price p3 p4 → IsDue number_form x.route.start p4 [] → Spells 3 reply_form ts (Inserted x) rest
unfolding reply_form inserted_form
inserted_tokens {x} v within crossed edge end price start =
    let values = Some crossed.spelled ∷ Some edge.spelled ∷ Some end.spelled ∷ Some price.spelled ∷ Some start.spelled ∷ [] in
    let d = object (members_of INSERTED_KEYS values) in
    object_tokens INSERTED_KEYS values v within (then crossed (then edge (then end (then price start.is))))
    (λ path.
    went _ _ tt (inserted_keys path _ _ _ _ _)
    ∙ went _ _ x.route.crossed (member_read (list_form dart_form) path Crossed d refl crossed.reads)
    ∙ went _ _ x.id (member_read number_form path Edge d refl edge.reads)
    ∙ went _ _ x.route.end (member_read number_form path End d refl end.reads)
    ∙ went _ _ x.price (member_read long_form path Price d refl price.reads)
    ∙ went _ _ x.route.start (member_read number_form path Start d refl start.reads))

-- ---- Entries

pub entry_tokens : {x : Entry} {n : ℕ} {ts rest : List Token} {os p1 p2 : List (Option Data)} → SpellsValue n ts
    (object (members_of ENTRY_KEYS os)) rest → n ≤ 4
    → IsDue call_form x.call os p1 → IsDue number_form x.caller p1 p2 → IsDue reply_form x.reply p2 [] → Spells 4 entry_form ts x rest
unfolding entry_form
entry_tokens {x} v within call caller reply =
    let values = Some call.spelled ∷ Some caller.spelled ∷ Some reply.spelled ∷ [] in
    let d = object (members_of ENTRY_KEYS values) in
    object_tokens ENTRY_KEYS values v within (then call (then caller reply.is))
    (λ path.
    went _ _ tt (entry_keys path _ _ _)
    ∙ went _ _ x.call (member_read call_form path Call d refl call.reads)
    ∙ went _ _ x.caller (member_read number_form path Caller d refl caller.reads)
    ∙ went _ _ x.reply (member_read reply_form path ReplyKey d refl reply.reads))
