-- Tokens that spell lines of sessions which are objects.
use Rattle.std.proofs.Common.{◌≡◌, ℕ, ◌<◌, ◌≤◌, ◌^◌, nat_le, nat_lt, Bool, true, false, List, [], ◌∷◌, drop, length, Option, Some, None, Ok, Err, unwrap_or}
use Rattle.std.proofs.Common.{if◌then◌else◌, refl, sym, ap, subst, ◌∙◌, arith, lt-ltb}
use Rattle.json.specs.Token.{Token, string as text_token}
use Rattle.serde_json.specs.Data.{Data, number, unsigned, string, object}
use Rattle.serde_json.specs.Find.{as_str}
use Rattle.topo_script.specs.declared.fault.ScriptFault.TheVariants.{BadShape, BadNumber}
use Rattle.topo_script.specs.declared.keys.TheConstants.{ENVELOPE_KEYS}
use Rattle.topo_script.specs.declared.path.Key.TheVariants.{Call, Caller, Id}
use Rattle.topo_script.specs.declared.path.JsonPath.{JsonPath}
use Rattle.topo_script.specs.declared.lines.Frame.TheVariants.{Envelope}
use Rattle.topo_script.specs.declared.lines.Line.{Line}
use Rattle.topo_script.specs.declared.lines.LineId.{LineId}
use Rattle.topo_script.specs.declared.lines.LineId.TheVariants.{Number}
use Rattle.topo_script.specs.declared.sessions.Request.{Request}
use Rattle.topo_script.specs.Paths.{key_name, whole}
use Rattle.topo_script.specs.Reads.{and_then, number_below, number_form}
use Rattle.topo_script.specs.Sessions.{text_id, number_id, id_form, some_id, caller_form, request_form, keyed_form, envelope_head, envelope_asked, bare_line, object_line}
use Rattle.topo_script.specs.Slots.{members_of, IsHeld, SpellsValue}
use Rattle.topo_script.specs.Tokens.{Spells}
use Rattle.topo_script.proofs.LineLaws.{keyed_line, envelope_read}
use Rattle.topo_script.proofs.Lookups.{member_read}
use Rattle.topo_script.proofs.Members.{found_at, keys_there, one_there}
use Rattle.topo_script.proofs.Objects.{IsDue, IsMaybe, then, maybe, object_tokens}
use Rattle.topo_script.proofs.Spellings.{word_tokens, read_so}
use Rattle.topo_script.proofs.Steps.{went}
use Rattle.topo_script.proofs.TokenScripts.{AreRead, optional_found, or_default}

-- ---- Ids

-- whether a text may be an id is the same at any place
text_anywhere : (path other : JsonPath) (text : List ℕ) (id : LineId) (b : Bool) → nat_le (length text) 256 ≡ b → text_id path text ≡ Ok id
    → text_id other text ≡ Ok id
text_anywhere path other text id true h e = rw h (sym (rw h refl) ∙ e)
text_anywhere path other text id false h e = let none : text_id path text ≡ Err (BadShape path) = rw h refl in absurd cc

pub text_id_tokens : {text : List ℕ} {id : LineId} {ts rest : List Token} (path : JsonPath) → ts ≡ text_token text ∷ rest → text_id path text ≡ Ok id
    → Spells 0 some_id ts (Some id) rest
unfolding some_id id_form
text_id_tokens {text} {id} {ts} {rest} path e read =
    word_tokens some_id text text (Some id) ts rest e refl
    (λ other. went (text_id other text) (λ (i : LineId). Ok (Some i)) id (text_anywhere path other text id (nat_le (length text) 256) refl read))

no_text : (path : JsonPath) (d : Data) (n : ℕ) → number_form path d ≡ Ok n → as_str d ≡ None
unfolding number_below and_then
no_text path (string s) n e = absurd cc
no_text path _ n e = refl

number_id_read : (path : JsonPath) (d : Data) (n : ℕ) → number_form path d ≡ Ok n → some_id path d ≡ Ok (Some (Number n))
unfolding some_id id_form number_id
number_id_read path d n e =
    rw (no_text path d n e)
    (went (number_id path d) (λ (i : LineId). Ok (Some i)) (Number n) (went (number_form path d) (λ (k : ℕ). Ok (Number k)) n e))

pub number_id_tokens : {n : ℕ} {ts rest : List Token} → Spells 0 number_form ts n rest → Spells 0 some_id ts (Some (Number n)) rest
number_id_tokens {n} s = read_so s (omega arith) (λ path. number_id_read path s.spelled n (s.reads path))

-- ---- Callers

smaller : (path : JsonPath) (m n : ℕ) (b : Bool) → n < 16 → (if b then Ok m else Err (BadNumber path)) ≡ Ok n
    → (if nat_lt m 16 then Ok m else Err (BadNumber path)) ≡ Ok n
smaller path m n true small e =
    let same : m ≡ n = cc in
    let less : m < 16 = subst (λ k. k < 16) (sym same) small in
    rw (lt-ltb m 16 less) e
smaller path m n false small e = absurd cc

caller_read : (path : JsonPath) (d : Data) (n : ℕ) → number_form path d ≡ Ok n → n < 16 → caller_form path d ≡ Ok n
unfolding number_below and_then
caller_read path (number (unsigned m)) n e small = smaller path m n (nat_lt m (2 ^ 32)) small e
caller_read path _ n e small = absurd cc

caller_or : (o : Option ℕ) (d : Option Data) (caller : ℕ) → IsHeld number_form o d → caller ≡ unwrap_or o 0 → caller < 16 → AreRead caller_form 0 d caller
caller_or None None caller held is small = sym is
caller_or (Some n) (Some d) caller held is small = λ path. caller_read path d caller (held path ∙ ap (λ k. Ok k) (sym is)) small
caller_or _ _ caller held is small = absurd held

-- ---- Envelopes

pub envelope_tokens : {request : Request} {o : Option ℕ} {p : Option (Option LineId)} {caller : ℕ} {id : Option LineId} {n : ℕ} {ts rest : List Token}
    {os p1 p2 p3 : List (Option Data)} → SpellsValue n ts (object (members_of ENVELOPE_KEYS os)) rest → n ≤ 8 → IsDue request_form request os p1
    → IsMaybe number_form o p1 p2 → IsMaybe some_id p p2 p3 → p3 ≡ [] → caller ≡ unwrap_or o 0 → id ≡ unwrap_or p None → caller < 16
    → Spells 8 (λ path. object_line) ts (record { frame = Envelope id; asked = Ok (record { caller = caller; request = request }) }) rest
unfolding envelope_head envelope_asked
envelope_tokens {request} {o} {p} {caller} {id} v within first second third end is_caller is_id small =
    let os : List (Option Data) = Some first.spelled ∷ second.spelled ∷ third.spelled ∷ [] in
    let d = object (members_of ENVELOPE_KEYS os) in
    let has_call = found_at (key_name Call) ENVELOPE_KEYS os in
    let id_read = subst (AreRead some_id None third.spelled) (sym is_id) (or_default some_id None p third.spelled third.read) in
    let head : envelope_head d ≡ Ok id = went _ _ tt (keys_there whole ENVELOPE_KEYS os refl
    (one_there whole Call (drop 1 ENVELOPE_KEYS) d first.spelled has_call refl)) ∙ optional_found some_id None whole Id ENVELOPE_KEYS os third.spelled id refl id_read in
    let asked : envelope_asked d ≡ Ok (record { caller = caller; request = request }) =
    went _ _ caller
    (optional_found caller_form 0 whole Caller ENVELOPE_KEYS os second.spelled caller refl (caller_or o second.spelled caller second.read is_caller small))
    ∙ went _ _ request (member_read request_form whole Call d has_call first.reads) in
    object_tokens ENVELOPE_KEYS os v within ((then) first (maybe second (maybe third end)))
    (λ path. envelope_read d id _ refl head asked)

pub bare_tokens : {r : Request} {line : Line} {ts rest : List Token} → line ≡ bare_line r → Spells 7 keyed_form ts r rest
    → Spells 8 (λ path. object_line) ts line rest
bare_tokens {r} is s = read_so s (omega arith) (λ path. keyed_line s.spelled r (s.reads whole) ∙ ap (λ l. Ok l) (sym is))
