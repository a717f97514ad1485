-- Tokens that spell calls and commands.
use Rattle.std.proofs.Common.{◌≡◌, ℕ, List, ◌∷◌, codes, Option, Some, None, IfSome, refl, sym, subst, ◌∙◌, arith}
use Rattle.json.specs.Token.{Token, begin_array, string as text_token}
use Rattle.serde_json.specs.Data.{array, item, no_items, string}
use Rattle.topo_core.specs.declared.calls.Call.{Call}
use Rattle.topo_core.specs.declared.calls.Call.TheVariants.{Grow, Insert, Delete}
use Rattle.topo_core.specs.declared.calls.Command.TheVariants.{Plain, Planned}
use Rattle.topo_script.specs.CallForms.{call_form, grow_form, insert_form, delete_form, command_form, plain_form, planned_form}
use Rattle.topo_script.specs.Reads.{number_form}
use Rattle.topo_script.specs.Tokens.{Spells, SpellsLast, SpellsNumbers, GoesOn}
use Rattle.topo_script.specs.TokenParts.{SpellsCall}
use Rattle.topo_script.proofs.Lookups.{element_read}
use Rattle.topo_script.proofs.Spellings.{few_done, element_then, numbers_then, text_then, few_tokens}
use Rattle.topo_script.proofs.Steps.{went}

pub for_word : {word name : List ℕ} {call : Call} {ts rest : List Token} → word ≡ name → SpellsCall name ts call rest → SpellsCall word ts call rest
for_word {call = call} {ts} {rest} is s = subst (λ w. SpellsCall w ts call rest) (sym is) s

pub grow_tokens : {u position kind : ℕ} {ts rest : List Token} → SpellsNumbers ts u position kind rest
    → SpellsCall (codes "grow") ts (Grow u position kind) rest
unfolding call_form grow_form
grow_tokens {u} {position} {kind} s =
    let ds = item (string (codes "grow")) (item s.first.spelled (item s.second.spelled (item s.third.spelled no_items))) in (
      ds,
      text_then refl (numbers_then s),
      λ path.
          went _ _ u (element_read number_form path 1 (array ds) refl s.first.reads)
          ∙ went _ _ position (element_read number_form path 2 (array ds) refl s.second.reads)
          ∙ went _ _ kind (element_read number_form path 3 (array ds) refl s.third.reads),
      refl,
    )

pub insert_tokens : {u v kind : ℕ} {ts rest : List Token} → SpellsNumbers ts u v kind rest
    → SpellsCall (codes "insert") ts (Insert u v kind) rest
unfolding call_form insert_form
insert_tokens {u} {v} {kind} s =
    let ds = item (string (codes "insert")) (item s.first.spelled (item s.second.spelled (item s.third.spelled no_items))) in (
      ds,
      text_then refl (numbers_then s),
      λ path.
          went _ _ u (element_read number_form path 1 (array ds) refl s.first.reads)
          ∙ went _ _ v (element_read number_form path 2 (array ds) refl s.second.reads)
          ∙ went _ _ kind (element_read number_form path 3 (array ds) refl s.third.reads),
      refl,
    )

pub delete_tokens : {edge : ℕ} {ts rest : List Token} → SpellsLast ts edge rest → SpellsCall (codes "delete") ts (Delete edge) rest
unfolding call_form delete_form
delete_tokens {edge} s =
    let ds = item (string (codes "delete")) (item s.spelled.spelled no_items) in (
      ds,
      text_then refl (element_then s.spelled (omega arith) (few_done s.closed)),
      λ path. went _ _ edge (element_read number_form path 1 (array ds) refl s.spelled.reads),
      refl,
    )

pub call_tokens : {word : List ℕ} (o : Option Call) {ts r0 r1 : List Token} (rest : List Token) → ts ≡ begin_array ∷ r0 → r0 ≡ text_token word ∷ r1
    → IfSome o (λ call. SpellsCall word r1 call rest)
    → IfSome o (λ call. Spells 1 call_form ts call rest)
call_tokens None rest e second s = tt
call_tokens (Some call) rest e second s = few_tokens 0 s.0 e (subst (λ us. GoesOn 0 us s.0 rest) (sym second) s.1) s.2

pub plain_tokens : {word : List ℕ} {call : Call} {ts rest : List Token} → SpellsCall word ts call rest
    → Spells 1 command_form (begin_array ∷ text_token word ∷ ts) (Plain call) rest
unfolding command_form plain_form
plain_tokens {call} s = few_tokens 0 s.0 refl s.1 (λ path. rw s.3 (went _ _ call (s.2 path)))

pub planned_tokens : {u v kind : ℕ} {ts rest : List Token} → SpellsNumbers ts u v kind rest
    → Spells 1 command_form (begin_array ∷ text_token (codes "planned") ∷ ts) (Planned u v kind) rest
unfolding command_form planned_form
planned_tokens {u} {v} {kind} s =
    let ds = item (string (codes "planned")) (item s.first.spelled (item s.second.spelled (item s.third.spelled no_items))) in
    few_tokens 0 ds refl (text_then refl (numbers_then s))
    (λ path.
    went _ _ u (element_read number_form path 1 (array ds) refl s.first.reads)
    ∙ went _ _ v (element_read number_form path 2 (array ds) refl s.second.reads)
    ∙ went _ _ kind (element_read number_form path 3 (array ds) refl s.third.reads))
