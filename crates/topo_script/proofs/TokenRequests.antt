-- Tokens that spell what a line of a session asks for.
use Rattle.std.proofs.Common.{◌≡◌, ℕ, true, List, ◌∷◌, codes, Option, Some, None, is_none, IfSome, Ok, refl, sym, ap, subst, ◌∙◌, arith}
use Rattle.json.specs.Token.{Token, begin_array, string as text_token}
use Rattle.json.specs.Json.{after_end_array}
use Rattle.serde_json.specs.Data.{Data, array, item, no_items, string, object, no_members, member}
use Rattle.topo_core.specs.declared.calls.Command.{Command}
use Rattle.topo_core.specs.declared.darts.Dart.{Dart}
use Rattle.topo_script.specs.declared.path.Key.TheVariants.{Open, Planarize, Reopen}
use Rattle.topo_script.specs.declared.graphs.GraphAsked.{GraphAsked}
use Rattle.topo_script.specs.declared.path.JsonPath.{JsonPath}
use Rattle.topo_script.specs.declared.reports.Report.{Report}
use Rattle.topo_script.specs.declared.sessions.Opening.{Opening}
use Rattle.topo_script.specs.declared.sessions.Request.{Request}
use Rattle.topo_script.specs.declared.sessions.Request.TheVariants.{Carry, Route, Edge, Vertex, Face, Undo, Open as OpenRequest, Planarize as PlanarizeRequest, Reopen as ReopenRequest}
use Rattle.topo_script.specs.CallForms.{command_form}
use Rattle.topo_script.specs.Graphs.{graph_form}
use Rattle.topo_script.specs.Paths.{key_name, member_of}
use Rattle.topo_script.specs.Reads.{◌>>=◌, and_then, number_form, element, has_keys, member_form, only_form}
use Rattle.topo_script.specs.ReplyForms.{way_form}
use Rattle.topo_script.specs.Scripts.{report_form}
use Rattle.topo_script.specs.Sessions.{opening_form, route_form, edge_form, vertex_form, face_form, undo_form, open_form, reopen_form, planarize_form, keyed_form, look_form, request_form}
use Rattle.topo_script.specs.Slots.{SpellsOnly}
use Rattle.topo_script.specs.Tokens.{Spells, SpellsLast}
use Rattle.topo_script.specs.TokenParts.{SpellsAsked}
use Rattle.topo_script.proofs.LineLaws.{carry_read, keyed_read}
use Rattle.topo_script.proofs.Lookups.{element_read}
use Rattle.topo_script.proofs.Objects.{value_tokens}
use Rattle.topo_script.proofs.Spellings.{few_done, element_then, text_then, few_tokens, word_tokens, read_so, deeper}
use Rattle.topo_script.proofs.Steps.{went}

-- ---- Arrays

pub for_word : {word name : List ℕ} {request : Request} {ts rest : List Token} → word ≡ name → SpellsAsked name ts request rest
    → SpellsAsked word ts request rest
for_word {request = request} {ts} {rest} is s = subst (λ w. SpellsAsked w ts request rest) (sym is) s

-- a word and a number
one_asked : (word : List ℕ) (make : ℕ → Request) → ((path : JsonPath) (d : Data) → request_form path (array (item (string word) (item d no_items)))
    ≡ (element number_form path 1 (array (item (string word) (item d no_items))) >>= λ n. Ok (make n)))
    → {n : ℕ} {ts rest : List Token} → SpellsLast ts n rest → SpellsAsked word ts (make n) rest
one_asked word make is {n} s =
    let ds = item (string word) (item s.spelled.spelled no_items) in
    few_tokens 6 ds refl (text_then refl (element_then s.spelled (omega arith) (few_done s.closed)))
    (λ path. is path s.spelled.spelled ∙ went _ _ n (element_read number_form path 1 (array ds) refl s.spelled.reads))

pub edge_asked : {n : ℕ} {ts rest : List Token} → SpellsLast ts n rest → SpellsAsked (codes "edge") ts (Edge n) rest
unfolding request_form look_form edge_form
edge_asked s = one_asked (codes "edge") Edge (λ path d. refl) s

pub vertex_asked : {n : ℕ} {ts rest : List Token} → SpellsLast ts n rest → SpellsAsked (codes "vertex") ts (Vertex n) rest
unfolding request_form look_form vertex_form
vertex_asked s = one_asked (codes "vertex") Vertex (λ path d. refl) s

pub undo_asked : {n : ℕ} {ts rest : List Token} → SpellsLast ts n rest → SpellsAsked (codes "undo") ts (Undo n) rest
unfolding request_form look_form undo_form
undo_asked s = one_asked (codes "undo") Undo (λ path d. refl) s

pub route_asked : {u v : ℕ} {ts r1 r2 rest : List Token} → Spells 0 number_form ts u r1 → Spells 0 number_form r1 v r2 → after_end_array r2 ≡ Some rest
    → SpellsAsked (codes "route") ts (Route u v) rest
unfolding request_form look_form route_form
route_asked {u} {v} first second close =
    let ds = item (string (codes "route")) (item first.spelled (item second.spelled no_items)) in
    few_tokens 6 ds refl (text_then refl (element_then first (omega arith) (element_then second (omega arith) (few_done close))))
    (λ path.
    went _ _ u (element_read number_form path 1 (array ds) refl first.reads)
    ∙ went _ _ v (element_read number_form path 2 (array ds) refl second.reads))

pub face_asked : {x : Dart} {ts r1 r2 r3 rest : List Token} → Spells 0 number_form ts x.edge r1 → Spells 0 number_form r1 x.seg r2
    → Spells 0 way_form r2 x.way r3 → after_end_array r3 ≡ Some rest → SpellsAsked (codes "face") ts (Face x) rest
unfolding request_form look_form face_form
face_asked {x} edge seg way close =
    let ds = item (string (codes "face")) (item edge.spelled (item seg.spelled (item way.spelled no_items))) in
    few_tokens 6 ds refl
    (text_then refl (element_then edge (omega arith) (element_then seg (omega arith) (element_then way (omega arith) (few_done close)))))
    (λ path.
    went _ _ x.edge (element_read number_form path 1 (array ds) refl edge.reads)
    ∙ went _ _ x.seg (element_read number_form path 2 (array ds) refl seg.reads)
    ∙ went _ _ x.way (element_read way_form path 3 (array ds) refl way.reads))

pub array_asked : {word : List ℕ} {ts r1 r2 : List Token} (o : Option Request) (rest : List Token) → ts ≡ begin_array ∷ r1 → r1 ≡ text_token word ∷ r2
    → IfSome o (λ request. SpellsAsked word r2 request rest) → IfSome o (λ request. Spells 7 request_form ts request rest)
array_asked o rest e second s =
    subst (λ us. IfSome o (λ request. Spells 7 request_form us request rest)) (sym (e ∙ ap (λ us. begin_array ∷ us) second)) s

pub command_asked : {word : List ℕ} {command : Command} {ts rest : List Token} → Spells 1 command_form (begin_array ∷ text_token word ∷ ts) command rest
    → SpellsAsked word ts (Carry command) rest
command_asked {command = command} s = read_so s (omega arith) (λ path. carry_read path s.spelled command (s.reads path))

-- ---- Texts

pub word_asked : {word : List ℕ} (o : Option Request) {ts rest : List Token} → ts ≡ text_token word ∷ rest
    → IfSome o (λ request. (path : JsonPath) → request_form path (string word) ≡ Ok request) → IfSome o (λ request. Spells 7 request_form ts request rest)
word_asked None e read = tt
word_asked {word} (Some request) {ts} {rest} e read =
    deeper 0 7 request_form ts request rest (omega arith) (word_tokens request_form word word request ts rest e refl read)

-- ---- Objects

pub open_asked : {x : Opening} {ts rest : List Token} → SpellsOnly 5 opening_form Open ts x rest → Spells 7 keyed_form ts (OpenRequest x) rest
unfolding keyed_form open_form only_form has_keys member_form and_then
open_asked s = value_tokens (object (member (key_name Open) s.0 no_members)) s.1 (omega arith) (λ path. rw (s.2 (member_of path Open)) refl)

pub reopen_asked : {x : Report} {ts rest : List Token} → SpellsOnly 6 report_form Reopen ts x rest → Spells 7 keyed_form ts (ReopenRequest x) rest
unfolding keyed_form reopen_form only_form has_keys member_form and_then
reopen_asked s = value_tokens (object (member (key_name Reopen) s.0 no_members)) s.1 (omega arith) (λ path. rw (s.2 (member_of path Reopen)) refl)

pub planarize_asked : {x : GraphAsked} {ts rest : List Token} → SpellsOnly 3 (λ _. graph_form) Planarize ts x rest → is_none x.seconds ≡ true
    → Spells 7 keyed_form ts (PlanarizeRequest x) rest
unfolding keyed_form planarize_form only_form has_keys member_form and_then
planarize_asked s none =
    value_tokens (object (member (key_name Planarize) s.0 no_members)) s.1 (omega arith) (λ path. rw (s.2 (member_of path Planarize), none) refl)

pub keyed_asked : {request : Request} {ts rest : List Token} → Spells 7 keyed_form ts request rest → Spells 7 request_form ts request rest
keyed_asked {request} s = read_so s (omega arith) (λ path. keyed_read path s.spelled request (s.reads path))
