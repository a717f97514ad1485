-- What the lines of a session are read as.
use Rattle.std.proofs.Common.{◌≡◌, ℕ, ◌<◌, ◌≤◌, Bool, true, false, not, ◌&&◌, ◌==◌, if◌then◌else◌, List, [], ◌∷◌, length, nat_lt, bytes_eq, codes, Option, Some, None, option_map, unwrap_or}
use Rattle.std.proofs.Common.{Ordering, Less, Equal, Greater, Ok, Err, inl, inr, refl, sym, ap, subst, ◌∙◌, arith}
use Rattle.std.specs.Prelude.{⊤}
use Rattle.std.specs.Ordering.{nat_cmp, is_eq, match_ordering}
use Rattle.std.specs.Cmp.Lexicographic.{slice_cmp}
use Rattle.std.proofs.lemmas.Bool.{and_parts, and_right, ltb-true, ltb-false}
use Rattle.std.proofs.lemmas.Map.Text.{is_eq-slice_cmp}
use Rattle.std.proofs.lemmas.Slice.Eq.{bytes_eq-Decides}
use Rattle.serde_json.specs.Data.{Data, string, object, Members, no_members, member}
use Rattle.serde_json.specs.Find.{at, as_object, as_str, get_member}
use Rattle.topo_core.specs.declared.calls.Command.{Command}
use Rattle.topo_script.specs.declared.fault.ScriptFault.{ScriptFault}
use Rattle.topo_script.specs.declared.fault.ScriptFault.TheVariants.{Memory, BadShape}
use Rattle.topo_script.specs.declared.keys.FormKey.{FormKey}
use Rattle.topo_script.specs.declared.keys.FormKey.TheVariants.{Due}
use Rattle.topo_script.specs.declared.keys.TheConstants.{OPENING_KEYS}
use Rattle.topo_script.specs.declared.path.Key.{Key}
use Rattle.topo_script.specs.declared.path.Key.TheVariants.{Call, Open, Planarize, Reopen}
use Rattle.topo_script.specs.declared.path.JsonPath.{JsonPath}
use Rattle.topo_script.specs.declared.lines.Asked.{Asked}
use Rattle.topo_script.specs.declared.lines.Frame.{Frame}
use Rattle.topo_script.specs.declared.lines.Frame.TheVariants.{Opening as AsOpening, Envelope}
use Rattle.topo_script.specs.declared.lines.Line.{Line}
use Rattle.topo_script.specs.declared.lines.LineId.{LineId}
use Rattle.topo_script.specs.declared.sessions.Opening.{Opening}
use Rattle.topo_script.specs.declared.sessions.Request.{Request}
use Rattle.topo_script.specs.declared.sessions.Request.TheVariants.{Carry, Open as OpenRequest}
use Rattle.topo_script.specs.CallForms.{begins, call_form, command_form, plain_form}
use Rattle.topo_script.specs.Paths.{key_name, member_of, whole}
use Rattle.topo_script.specs.Reads.{Read, and_then, due, passes, json_of, is_text, element_count, has_key, is_known, all_known, all_there, has_keys, only_form, value_of, IsFirstFault, Gives}
use Rattle.topo_script.specs.Graphs.{graph_form}
use Rattle.topo_script.specs.Scripts.{nulls_in, report_form}
use Rattle.topo_script.specs.Sessions.{text_id, number_id, id_form, open_form, reopen_form, planarize_form, is_keyed, keyed_form, carry_form, look_form, request_form}
use Rattle.topo_script.specs.Sessions.{opening_form, opened_form, bare_asked, envelope_head, envelope_asked, envelope_line}
use Rattle.topo_script.specs.Sessions.{is_opening, bare_line, object_line, line_form, line_limit, line_or, line_of, command_line, frame_without, has_brace, ReadsLine}
use Rattle.topo_script.proofs.Bytes.{too_long, within}
use Rattle.topo_script.proofs.Steps.{went}

-- ---- Ids

pub text_there : (path : JsonPath) (d : Data) {text : List ℕ} (r : Read LineId) → Some text ≡ as_str d → Gives r (text_id path text) → Gives r (id_form path d)
unfolding id_form
text_there path d r is h = rw (sym is) h

pub no_text_there : (path : JsonPath) (d : Data) (r : Read LineId) → None ≡ as_str d → Gives r (number_id path d) → Gives r (id_form path d)
unfolding id_form
no_text_there path d r is h = rw (sym is) h

-- ---- What is read may be told

pub reads_asked : (frame : Frame) (r due : Read Asked) → Gives r due
    → ReadsLine (record { frame = frame; asked = r }) (record { frame = frame; asked = due })
reads_asked frame (Ok a) due h = inr (rw h refl)
reads_asked frame (Err Memory) due h = inl refl
reads_asked frame (Err fault) due h = inr (rw h refl)

pub reads_enveloped : (d : Data) (id : Option LineId) (r : Read Asked) → envelope_head d ≡ Ok id → Gives r (envelope_asked d)
    → ReadsLine (record { frame = Envelope id; asked = r }) (envelope_line d)
unfolding envelope_line
reads_enveloped d id r e h = rw e (reads_asked (Envelope id) r (envelope_asked d) h)

pub reads_no_envelope : (d : Data) (fault : ScriptFault) → IsFirstFault (envelope_head d) fault
    → ReadsLine (record { frame = Envelope None; asked = Err fault }) (envelope_line d)
unfolding envelope_line
reads_no_envelope d Memory h = inl refl
reads_no_envelope d fault h = inr (rw h refl)

pub reads_value : (first : Bool) (bytes : List ℕ) (line : Line) {limit : ℕ} {d : Data} → limit ≡ line_limit first bytes → value_of limit bytes ≡ Ok d
    → ReadsLine line (line_form first d) → ReadsLine line (line_of first bytes)
unfolding line_of
reads_value first bytes line {limit} {d} is e h =
    let same : value_of (line_limit first bytes) bytes ≡ Ok d = subst (λ n. value_of n bytes ≡ Ok d) is e in
    rw same h

fault_due : (first : Bool) (found : Read Data) (fault : ScriptFault) → IsFirstFault found fault
    → ReadsLine (record { frame = frame_without first; asked = Err fault }) (line_or first found)
fault_due first found Memory h = inl refl
fault_due first found fault h = inr (rw h refl)

pub reads_no_value : (first : Bool) (bytes : List ℕ) (fault : ScriptFault) {frame : Frame} {limit : ℕ} → frame ≡ frame_without first
    → limit ≡ line_limit first bytes → IsFirstFault (value_of limit bytes) fault
    → ReadsLine (record { frame = frame; asked = Err fault }) (line_of first bytes)
unfolding line_of
reads_no_value first bytes fault framed is h =
    let due = fault_due first (value_of (line_limit first bytes) bytes) fault (subst (λ n. IsFirstFault (value_of n bytes) fault) is h) in
    rw framed due

-- ---- Keys that are not there

equal_names : (name other : List ℕ) → slice_cmp nat_cmp name other ≡ Equal → name ≡ other
equal_names name other e = (bytes_eq-Decides name other).0 (sym (is_eq-slice_cmp name other) ∙ ap is_eq e)

-- a name that is none of the keys is that of no member
unknown_name : (keys : List FormKey) (name : List ℕ) (ms : Members) → is_known keys name ≡ false → all_known keys ms ≡ true → get_member name ms ≡ None
unknown_name keys name no_members none known = refl
unknown_name keys name (member other d ms) none known =
    let both = and_parts (is_known keys other) (all_known keys ms) known in
    by (slice_cmp nat_cmp name other) refl both.0 (unknown_name keys name ms none both.1)
  where
    by : (is : Ordering) → slice_cmp nat_cmp name other ≡ is → is_known keys other ≡ true → get_member name ms ≡ None
        → match_ordering is (get_member name ms) (Some d) (get_member name ms) ≡ None
    by Less e some rest = rest
    by Greater e some rest = rest
    by Equal e some rest =
        let same = equal_names name other e in
        let never : is_known keys other ≡ false = subst (λ n. is_known keys n ≡ false) same none in
        absurd cc

has_keys_by : (keys : List FormKey) (path : JsonPath) (key : Key) (ms : Members) (b : Bool) → all_known keys ms ≡ b → is_known keys (key_name key) ≡ false
    → has_keys path keys (object ms) ≡ Ok tt → has_key key (object ms) ≡ false
unfolding has_keys and_then
has_keys_by keys path key ms true e none h = rw (unknown_name keys (key_name key) ms none e) refl
has_keys_by keys path key ms false e none h =
    let wrong = subst (λ b. and_then (passes (BadShape path) b) (λ _. all_there path keys (object ms)) ≡ Ok tt) e h in absurd cc

-- what has these keys alone has no other one
other_key : (keys : List FormKey) (path : JsonPath) (key : Key) (d : Data) → is_known keys (key_name key) ≡ false → has_keys path keys d ≡ Ok tt
    → has_key key d ≡ false
other_key keys path key (object ms) none h = has_keys_by keys path key ms (all_known keys ms) refl none h
other_key keys path key _ none h = refl

-- ---- Openings

-- a step before one that finds something has found something
went_back : {A B : Type 0} (found : Read A) (next : A → Read B) (b : B) → and_then found next ≡ Ok b → (a : A) × (found ≡ Ok a) × (next a ≡ Ok b)
unfolding and_then
went_back (Ok a) next b e = (a, refl, e)
went_back (Err fault) next b e = absurd cc

opening_keys : (path : JsonPath) (d : Data) (o : Opening) → opening_form path d ≡ Ok o → has_keys path OPENING_KEYS d ≡ Ok tt
unfolding opening_form
opening_keys path d o e =
    let nulls = went_back (nulls_in path d) _ o e in
    let keys = went_back (has_keys path OPENING_KEYS d) _ o nulls.2 in
    keys.1

no_text_opens : (text : List ℕ) (path : JsonPath) (d : Data) (o : Opening) → opening_form path d ≡ Ok o → is_text text d ≡ false
unfolding opening_form nulls_in and_then
no_text_opens text path (string s) o e = absurd cc
no_text_opens text path _ o e = refl

opening_asked : (d : Data) (o : Opening) → opening_form whole d ≡ Ok o → bare_asked opened_form d ≡ Ok (record { caller = 0; request = OpenRequest o })
unfolding bare_asked opened_form
opening_asked d o e =
    went (opened_form whole d) (λ (r : Request). Ok (record { caller = 0; request = r })) (OpenRequest o)
    (went (opening_form whole d) (λ (found : Opening). Ok (OpenRequest found)) o e)

opening_line : (d : Data) (o : Opening) → opening_form whole d ≡ Ok o
    → line_form true d ≡ record { frame = AsOpening; asked = Ok (record { caller = 0; request = OpenRequest o }) }
unfolding line_form
opening_line d o e =
    let keys = opening_keys whole d o e in
    let no_call = other_key OPENING_KEYS whole Call d refl keys in
    let no_open = other_key OPENING_KEYS whole Open d refl keys in
    let no_reopen = other_key OPENING_KEYS whole Reopen d refl keys in
    let no_graph = other_key OPENING_KEYS whole Planarize d refl keys in
    rw (no_call, no_open, no_reopen, no_graph, no_text_opens (codes "about") whole d o e, opening_asked d o e) refl

first_found : (found : Read Data) (o : Opening) → and_then found (opening_form whole) ≡ Ok o
    → line_or true found ≡ record { frame = AsOpening; asked = Ok (record { caller = 0; request = OpenRequest o }) }
unfolding and_then
first_found (Ok d) o e = opening_line d o e
first_found (Err fault) o e = absurd cc

pub first_tokens : (bytes : List ℕ) (o : Opening) → and_then (value_of 268435456 bytes) (opening_form whole) ≡ Ok o
    → ReadsLine (record { frame = AsOpening; asked = Ok (record { caller = 0; request = OpenRequest o }) }) (line_of true bytes)
unfolding line_of line_limit
first_tokens bytes o e = inr (sym (first_found (value_of 268435456 bytes) o e))

-- ---- Commands

-- a command is an array, and no text and no object
no_text : (text : List ℕ) (path : JsonPath) (d : Data) (command : Command) → command_form path d ≡ Ok command → is_text text d ≡ false
unfolding command_form plain_form call_form and_then
no_text text path (string s) command e = absurd cc
no_text text path _ command e = refl

no_key : (key : Key) (path : JsonPath) (d : Data) (command : Command) → command_form path d ≡ Ok command → has_key key d ≡ false
unfolding command_form plain_form call_form and_then
no_key key path (object ms) command e = absurd cc
no_key key path _ command e = refl

-- whether the first element is this word
abbrev starts : List ℕ → Data → Bool
starts word d = unwrap_or (option_map (is_text word) (at 0 d)) false

one_text : (a b : List ℕ) (d : Data) → is_text a d ≡ true → bytes_eq a b ≡ false → is_text b d ≡ false
one_text a b (string s) h apart = let same : s ≡ a = (bytes_eq-Decides s a).0 h in rw same apart
one_text a b _ h apart = refl

one_start : (a b : List ℕ) (o : Option Data) → unwrap_or (option_map (is_text a) o) false ≡ true → bytes_eq a b ≡ false
    → unwrap_or (option_map (is_text b) o) false ≡ false
one_start a b None h apart = refl
one_start a b (Some d) h apart = one_text a b d h apart

-- what begins with one word begins with no other
one_word : (a b : List ℕ) (m n : ℕ) (d : Data) → begins a m d ≡ true → bytes_eq a b ≡ false → begins b n d ≡ false
one_word a b m n d h apart =
    let first = and_parts (element_count d == m) (starts a d) h in
    and_right (element_count d == n) (starts b d) (one_start a b (at 0 d) first.1 apart)

-- a word that no command begins with
record IsNoCommand (word : List ℕ) : Type 0 where
  pub planned : bytes_eq (codes "planned") word ≡ false
  pub grow : bytes_eq (codes "grow") word ≡ false
  pub insert : bytes_eq (codes "insert") word ≡ false
  pub delete : bytes_eq (codes "delete") word ≡ false

no_word : (word : List ℕ) (n : ℕ) (path : JsonPath) (d : Data) (command : Command) → IsNoCommand word → command_form path d ≡ Ok command → begins word n d ≡ false
unfolding command_form plain_form call_form and_then
no_word word n path d command is e = by_planned (begins (codes "planned") 4 d) refl
  where
    by_delete : (b : Bool) → begins (codes "delete") 2 d ≡ b → begins (codes "planned") 4 d ≡ false → begins (codes "grow") 4 d ≡ false
        → begins (codes "insert") 4 d ≡ false → begins word n d ≡ false
    by_delete true h p g i = one_word (codes "delete") word 2 n d h is.delete
    by_delete false h p g i = let none : command_form path d ≡ Err (BadShape path) = rw (p, g, i, h) refl in absurd cc

    by_insert : (b : Bool) → begins (codes "insert") 4 d ≡ b → begins (codes "planned") 4 d ≡ false → begins (codes "grow") 4 d ≡ false
        → begins word n d ≡ false
    by_insert true h p g = one_word (codes "insert") word 4 n d h is.insert
    by_insert false h p g = by_delete (begins (codes "delete") 2 d) refl p g h

    by_grow : (b : Bool) → begins (codes "grow") 4 d ≡ b → begins (codes "planned") 4 d ≡ false → begins word n d ≡ false
    by_grow true h p = one_word (codes "grow") word 4 n d h is.grow
    by_grow false h p = by_insert (begins (codes "insert") 4 d) refl p h

    by_planned : (b : Bool) → begins (codes "planned") 4 d ≡ b → begins word n d ≡ false
    by_planned true h = one_word (codes "planned") word 4 n d h is.planned
    by_planned false h = by_grow (begins (codes "grow") 4 d) refl h

pub carry_read : (path : JsonPath) (d : Data) (command : Command) → command_form path d ≡ Ok command → request_form path d ≡ Ok (Carry command)
unfolding request_form look_form carry_form
carry_read path d command e =
    let apart : (word : List ℕ) → IsNoCommand word → (n : ℕ) → begins word n d ≡ false = λ word is n. no_word word n path d command is e in
    rw (
      no_text (codes "about") path d command e,
      no_text (codes "counts") path d command e,
      no_text (codes "picture") path d command e,
      no_text (codes "report") path d command e,
      no_text (codes "forget") path d command e,
      no_text (codes "renumber") path d command e,
      apart (codes "route") (record { planned = refl; grow = refl; insert = refl; delete = refl }) 3,
      apart (codes "edge") (record { planned = refl; grow = refl; insert = refl; delete = refl }) 2,
      apart (codes "vertex") (record { planned = refl; grow = refl; insert = refl; delete = refl }) 2,
      apart (codes "face") (record { planned = refl; grow = refl; insert = refl; delete = refl }) 4,
      apart (codes "undo") (record { planned = refl; grow = refl; insert = refl; delete = refl }) 2,
      no_key Open path d command e,
      no_key Reopen path d command e,
      no_key Planarize path d command e,
    )
    (went (command_form path d) (λ (found : Command). Ok (Carry found)) command e)

-- ---- Objects that ask by their key

abbrev unless_there : ScriptFault → Bool → Read ⊤
unless_there fault b = if not b then Err fault else Ok tt

there : (fault : ScriptFault) (b : Bool) → unless_there fault b ≡ Ok tt → b ≡ true
there fault true e = refl
there fault false e = absurd cc

-- what has this key alone has it, and no other one
only_keys : {A : Type 0} (form : JsonPath → Data → Read A) (path : JsonPath) (key : Key) (d : Data) (a : A) → only_form form path key d ≡ Ok a
    → has_keys path (Due key ∷ []) d ≡ Ok tt
unfolding only_form
only_keys form path key d a e = (went_back (has_keys path (Due key ∷ []) d) _ a e).1

key_there : (path : JsonPath) (key : Key) (d : Data) → has_keys path (Due key ∷ []) d ≡ Ok tt → has_key key d ≡ true
unfolding has_keys
key_there path key d h =
    let members = went_back (due (BadShape path) (as_object d)) _ tt h in
    let known = went_back (passes (BadShape path) (all_known (Due key ∷ []) members.0)) _ tt members.2 in
    there (BadShape (member_of path key)) (has_key key d) known.2

-- what asks by its key has one of the three keys, and is no envelope
keyed_keys : (path : JsonPath) (d : Data) (request : Request) → keyed_form path d ≡ Ok request → (is_keyed d ≡ true) × (has_key Call d ≡ false)
unfolding keyed_form open_form reopen_form planarize_form
keyed_keys path d request e = by (has_key Open d) refl e
  where
    by_reopen : (b : Bool) → has_key Reopen d ≡ b → has_key Open d ≡ false → (if b then reopen_form path d else planarize_form path d) ≡ Ok request
        → (is_keyed d ≡ true) × (has_key Call d ≡ false)
    by_reopen true h no_open e =
        let read = went_back (only_form report_form path Reopen d) _ request e in
        (rw (no_open, h) refl, other_key (Due Reopen ∷ []) path Call d refl (only_keys report_form path Reopen d read.0 read.1))
    by_reopen false h no_open e =
        let read = went_back (only_form (λ _. graph_form) path Planarize d) _ request e in
        let keys = only_keys (λ _. graph_form) path Planarize d read.0 read.1 in
        (rw (no_open, h) (key_there path Planarize d keys), other_key (Due Planarize ∷ []) path Call d refl keys)

    by : (b : Bool) → has_key Open d ≡ b → (if b then open_form path d else (if has_key Reopen d then reopen_form path d else planarize_form path d)) ≡ Ok request
        → (is_keyed d ≡ true) × (has_key Call d ≡ false)
    by true h e =
        let read = went_back (only_form opening_form path Open d) _ request e in
        (rw h refl, other_key (Due Open ∷ []) path Call d refl (only_keys opening_form path Open d read.0 read.1))
    by false h e = by_reopen (has_key Reopen d) refl h e

pub keyed_read : (path : JsonPath) (d : Data) (request : Request) → keyed_form path d ≡ Ok request → request_form path d ≡ Ok request
unfolding request_form look_form
keyed_read path (object ms) request e = rw (keyed_keys path (object ms) request e).0 e
keyed_read path d request e = let none = (keyed_keys path d request e).0 in absurd cc

pub keyed_line : (d : Data) (request : Request) → keyed_form whole d ≡ Ok request → object_line d ≡ Ok (bare_line request)
unfolding object_line
keyed_line d request e = rw (keyed_keys whole d request e).1 (went (keyed_form whole d) (λ (r : Request). Ok (bare_line r)) request e)

pub envelope_read : (d : Data) (id : Option LineId) (asked : Asked) → has_key Call d ≡ true → envelope_head d ≡ Ok id → envelope_asked d ≡ Ok asked
    → object_line d ≡ Ok (record { frame = Envelope id; asked = Ok asked })
unfolding object_line envelope_line
envelope_read d id asked there head found = rw (there, head, found) refl

bare_read : (d : Data) (request : Request) → request_form whole d ≡ Ok request → bare_asked request_form d ≡ Ok (record { caller = 0; request = request })
unfolding bare_asked
bare_read d request e = went (request_form whole d) (λ (r : Request). Ok (record { caller = 0; request = r })) request e

-- such a line is the same first and later
object_read : (first : Bool) (d : Data) (line : Line) → object_line d ≡ Ok line → line_form first d ≡ line
unfolding object_line line_form
object_read first d line e = by (has_key Call d) refl e
  where
    by : (b : Bool) → has_key Call d ≡ b → (if b then Ok (envelope_line d) else and_then (keyed_form whole d) (λ (r : Request). Ok (bare_line r))) ≡ Ok line
        → line_form first d ≡ line
    by true h e = let same : envelope_line d ≡ line = cc in rw h same
    by false h e =
        let begun = went_back (keyed_form whole d) (λ (r : Request). Ok (bare_line r)) line e in
        let anew = (keyed_keys whole d begun.0 begun.1).0 in
        let never : (first && is_opening d) ≡ false = and_right first (is_opening d) (rw anew refl) in
        let same : bare_line begun.0 ≡ line = cc in
        rw (h, never, bare_read d begun.0 (keyed_read whole d begun.0 begun.1)) same

object_found : (first : Bool) (found : Read Data) (line : Line) → and_then found object_line ≡ Ok line → line_or first found ≡ line
unfolding and_then
object_found first (Ok d) line e = object_read first d line e
object_found first (Err fault) line e = absurd cc

pub object_bytes : (first : Bool) (bytes : List ℕ) (line : Line) {limit : ℕ} → limit ≡ line_limit first bytes
    → and_then (value_of limit bytes) object_line ≡ Ok line → ReadsLine line (line_of first bytes)
unfolding line_of
object_bytes first bytes line is e =
    let same = subst (λ n. and_then (value_of n bytes) object_line ≡ Ok line) is e in
    inr (sym (object_found first (value_of (line_limit first bytes) bytes) line same))

-- ---- Requests

-- no request is an envelope
no_envelope : (path : JsonPath) (d : Data) (request : Request) → request_form path d ≡ Ok request → has_key Call d ≡ false
unfolding request_form look_form carry_form command_form plain_form call_form and_then
no_envelope path (object ms) request e = by (is_keyed (object ms)) refl e
  where
    by : (b : Bool) → is_keyed (object ms) ≡ b → (if b then keyed_form path (object ms) else carry_form path (object ms)) ≡ Ok request
        → has_key Call (object ms) ≡ false
    by true h e = (keyed_keys path (object ms) request e).1
    by false h e = absurd cc
no_envelope path _ request e = refl

request_read : (d : Data) (request : Request) → request_form whole d ≡ Ok request → line_form false d ≡ bare_line request
unfolding line_form
request_read d request e = rw (no_envelope whole d request e, bare_read d request e) refl

request_found : (found : Read Data) (request : Request) → and_then found (request_form whole) ≡ Ok request → line_or false found ≡ bare_line request
unfolding and_then
request_found (Ok d) request e = request_read d request e
request_found (Err fault) request e = absurd cc

pub request_bytes : (bytes : List ℕ) (request : Request) (line : Line) {limit : ℕ} → limit ≡ line_limit false bytes
    → and_then (value_of limit bytes) (request_form whole) ≡ Ok request → line ≡ bare_line request → ReadsLine line (line_of false bytes)
unfolding line_of
request_bytes bytes request line is e bare =
    let same = subst (λ n. and_then (value_of n bytes) (request_form whole) ≡ Ok request) is e in
    inr (bare ∙ sym (request_found (value_of (line_limit false bytes) bytes) request same))

-- ---- Bytes of a command

-- more bytes may be there
value_more : (m n : ℕ) (bytes : List ℕ) (d : Data) (b : Bool) → m ≤ n → nat_lt m (length bytes) ≡ b → value_of m bytes ≡ Ok d → value_of n bytes ≡ Ok d
value_more m n bytes d true more h e =
    let long : m < length bytes = ltb-true m (length bytes) h in
    let wrong = too_long m bytes long in absurd cc
value_more m n bytes d false more h e =
    let short : length bytes ≤ m = ltb-false m (length bytes) h in
    within n bytes (json_of bytes) (omega arith) refl ∙ sym (within m bytes (json_of bytes) short refl) ∙ e

later_limit : (bytes : List ℕ) (d : Data) (b : Bool) → has_brace bytes ≡ b → value_of 65536 bytes ≡ Ok d → value_of (line_limit false bytes) bytes ≡ Ok d
unfolding line_limit
later_limit bytes d true h e = rw h (value_more 65536 268435456 bytes d (nat_lt 65536 (length bytes)) (omega arith) refl e)
later_limit bytes d false h e = rw h e

later_found : (bytes : List ℕ) (found : Read Data) (command : Command) → value_of 65536 bytes ≡ found → and_then found (command_form whole) ≡ Ok command
    → line_of false bytes ≡ command_line command
unfolding line_of and_then
later_found bytes (Ok d) command is e = rw (later_limit bytes d (has_brace bytes) refl is) (request_read d (Carry command) (carry_read whole d command e))
later_found bytes (Err fault) command is e = absurd cc

pub later_tokens : (bytes : List ℕ) (command : Command) → and_then (value_of 65536 bytes) (command_form whole) ≡ Ok command
    → line_of false bytes ≡ command_line command
later_tokens bytes command e = later_found bytes (value_of 65536 bytes) command refl e
