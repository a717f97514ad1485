-- What tokens spell, a token at a time.
use Rattle.std.proofs.Common.{◌≡◌, ℕ, ◌+◌, ◌-◌, ◌<◌, ◌≤◌, List, [], ◌∷◌, ◌++◌, length, Option, Some, None, Ok}
use Rattle.std.proofs.Common.{IfSome, IsUtf8, option_and_then, refl, ap, ◌∙◌, arith, append_assoc, subst, lt-ltb, sym}
use Rattle.json.specs.Token.{Token}
use Rattle.json.specs.Lex.{tokens}
use Rattle.json.specs.Json as json
use Rattle.json.specs.Json.{parse_map, after_end_array, items, value, value_with}
use Rattle.json.proofs.Grammar.{left, value_is, value-begin_array, skip_value-shorter}
use Rattle.json.proofs.Grammar.{items_end, items_more}
use Rattle.serde_json.specs.Data.{Data, unsigned, number, string, array, Items, item, no_items}
use Rattle.serde_json.specs.Read.{of_json, max_depth, read}
use Rattle.topo_script.specs.declared.path.JsonPath.{JsonPath}
use Rattle.topo_script.specs.Paths.{element_of}
use Rattle.topo_script.specs.Reads.{Read, and_then, number_below, list_form, items_from, value_of}
use Rattle.topo_script.specs.Tokens.{Spells, SpellsItems, GoesOn, SpellsNumber, SpellsNumbers, SpellsText}
use Rattle.topo_script.proofs.Bytes.{within as within_limit, json_of-read}
use Rattle.topo_script.proofs.Steps.{went}

-- ---- Values of one token

pub number_read : (bound n : ℕ) (path : JsonPath) → n < bound → number_below bound path (number (unsigned n)) ≡ Ok n
unfolding number_below and_then
number_read bound n path h = rw (lt-ltb n bound h)

pub number_tokens : (bound n : ℕ) (ts rest : List Token) → SpellsNumber ts n rest → n < bound → Spells 0 (number_below bound) ts n rest
number_tokens bound n ts rest s h = record {
  written = json.number s.0;
  spelled = number (unsigned n);
  begins = λ depth le. ap (value depth) s.1 ∙ value_is depth (Token.number s.0 ∷ rest);
  means = rw s.2;
  reads = λ path. number_read bound n path h;
}

pub word_tokens : {A : Type 0} (form : JsonPath → Data → Read A) (word text : List ℕ) (a : A) (ts rest : List Token) → ts ≡ Token.string text ∷ rest → text ≡ word
    → ((path : JsonPath) → form path (string word) ≡ Ok a) → Spells 0 form ts a rest
word_tokens form word text a ts rest e is read = record {
  written = json.string word;
  spelled = string word;
  begins = λ depth le. ap (value depth) (e ∙ ap (λ s. Token.string s ∷ rest) is) ∙ value_is depth (Token.string word ∷ rest);
  means = refl;
  reads = read;
}

-- what one form reads, another one may read too
pub read_so : {A B : Type 0} {inner outer : ℕ} {form : JsonPath → Data → Read A} {other : JsonPath → Data → Read B} {ts rest : List Token} {a : A} {b : B}
    (s : Spells inner form ts a rest) → inner ≤ outer → ((path : JsonPath) → other path s.spelled ≡ Ok b) → Spells outer other ts b rest
read_so s within read = record {
  written = s.written;
  spelled = s.spelled;
  begins = λ depth le. s.begins depth (omega arith);
  means = s.means;
  reads = read;
}

-- what nests no deeper than this nests no deeper than more
pub deeper : {A : Type 0} (inner outer : ℕ) (form : JsonPath → Data → Read A) (ts : List Token) (a : A) (rest : List Token) → inner ≤ outer
    → Spells inner form ts a rest → Spells outer form ts a rest
deeper inner outer form ts a rest within s = read_so s within s.reads

-- ---- Arrays

not_closed : (a : json.Parse json.Items) (o : json.Parse json.Members) (ts : List Token) (p : json.Json × List Token) → value_with a o ts ≡ Some p
    → after_end_array ts ≡ None
not_closed a o (Token.end_array ∷ ts) p e = absurd cc
not_closed a o _ p e = refl

-- tokens that spell a value do not begin with the end of an array
pub spells-going : {A : Type 0} (nesting : ℕ) (form : JsonPath → Data → Read A) (ts : List Token) (a : A) (rest : List Token) → Spells nesting form ts a rest
    → after_end_array ts ≡ None
spells-going nesting form ts a rest s = not_closed _ _ ts (s.written, rest) (sym (value_is nesting ts) ∙ s.begins nesting (omega arith))

pub tokens-shorter : {A : Type 0} (nesting : ℕ) (form : JsonPath → Data → Read A) (ts : List Token) (a : A) (rest : List Token) → Spells nesting form ts a rest
    → length rest < length ts
tokens-shorter nesting form ts a rest s = skip_value-shorter nesting ts rest (ap left (s.begins nesting (omega arith)))

module _ {A : Type 0} (nesting : ℕ) (form : JsonPath → Data → Read A) where
  pub items_done : (ts rest : List Token) → after_end_array ts ≡ Some rest → SpellsItems nesting form ts [] rest
  items_done ts rest e = record {
    written = json.no_items;
    spelled = no_items;
    begins = λ depth n d le. items_end (value depth) n ts rest le e;
    means = refl;
    reads = λ path i. refl;
  }

  pub item_then : (ts mid rest : List Token) (x : A) (xs : List A) → after_end_array ts ≡ None → Spells nesting form ts x mid
      → SpellsItems nesting form mid xs rest → SpellsItems nesting form ts (x ∷ xs) rest
  item_then ts mid rest x xs going s more =
      let less = tokens-shorter nesting form ts x mid s in record {
        written = json.item s.written more.written;
        spelled = item s.spelled more.spelled;
        begins = λ depth n d le. items_more (value depth) n ts mid s.written (omega arith) going (s.begins depth d)
            ∙ ap (parse_map (json.item s.written)) (more.begins depth (n - 1) d (omega arith));
        means = rw (s.means, more.means);
        reads = λ path i. went (form (element_of path i) s.spelled) (λ (y : A). and_then (items_from form path (i + 1) more.spelled)
            (λ ys. Ok (y ∷ ys))) x (s.reads (element_of path i)) ∙ went _ (λ (ys : List A). Ok (x ∷ ys)) xs (more.reads path (i + 1));
      }

  pub array_tokens : (ts mid rest : List Token) (xs : List A) → ts ≡ Token.begin_array ∷ mid → SpellsItems nesting form mid xs rest
      → Spells (nesting + 1) (list_form form) ts xs rest
  unfolding list_form and_then
  array_tokens ts mid rest xs e more = record {
    written = json.array more.written;
    spelled = array more.spelled;
    begins = λ depth le. ap (value depth) e ∙ value-begin_array depth mid (omega arith)
        ∙ ap (parse_map json.array) (more.begins (depth - 1) (length mid) (omega arith) (omega arith));
    means = rw more.means;
    reads = λ path. more.reads path 0;
  }

  pub list_tokens : (ts mid rest : List Token) (o : Option (List A)) → ts ≡ Token.begin_array ∷ mid → IfSome o (λ xs. SpellsItems nesting form mid xs rest)
      → IfSome o (λ xs. Spells (nesting + 1) (list_form form) ts xs rest)
  list_tokens ts mid rest None e found = tt
  list_tokens ts mid rest (Some xs) e found = array_tokens ts mid rest xs e found

  -- one more item was found at the front of what is left
  pub item_found : (first now mid : List Token) (found more : List A) (x : A) → after_end_array now ≡ None → Spells nesting form now x mid
      → more ≡ found ++ x ∷ []
      → ((xs : List A) (rest : List Token) → SpellsItems nesting form now xs rest → SpellsItems nesting form first (found ++ xs) rest)
      → ((xs : List A) (rest : List Token) → SpellsItems nesting form mid xs rest → SpellsItems nesting form first (more ++ xs) rest)
  item_found first now mid found more x going s pushed so_far xs rest left_over =
      subst (λ ys. SpellsItems nesting form first ys rest) (sym (append_assoc found (x ∷ []) xs) ∙ ap (λ ys. ys ++ xs) (sym pushed))
      (so_far (x ∷ xs) rest (item_then now mid rest x xs going s left_over))

-- ---- Arrays of a few elements

pub few_done : {nesting : ℕ} {ts rest : List Token} → after_end_array ts ≡ Some rest → GoesOn nesting ts no_items rest
few_done {ts} {rest} e = record {
  written = json.no_items;
  begins = λ depth n d le. items_end (value depth) n ts rest le e;
  means = refl;
}

one_more : {nesting : ℕ} {ts mid rest : List Token} {written : json.Json} {d : Data} {ds : Items}
    → ((depth : ℕ) → nesting ≤ depth → value depth ts ≡ Some (written, mid)) → of_json written ≡ Some d
    → GoesOn nesting mid ds rest → GoesOn nesting ts (item d ds) rest
one_more {nesting} {ts} {mid} {written} begins means more =
    let least = begins nesting (omega arith) in
    let less = skip_value-shorter nesting ts mid (ap left least) in
    let going = not_closed _ _ ts (written, mid) (sym (value_is nesting ts) ∙ least) in record {
      written = json.item written more.written;
      begins = λ depth n d le. items_more (value depth) n ts mid written (omega arith) going (begins depth d)
          ∙ ap (parse_map (json.item written)) (more.begins depth (n - 1) d (omega arith));
      means = rw (means, more.means);
    }

pub element_then : {A : Type 0} {inner nesting : ℕ} {form : JsonPath → Data → Read A} {ts : List Token} {a : A} {mid rest : List Token} {ds : Items}
    → (s : Spells inner form ts a mid) → inner ≤ nesting → GoesOn nesting mid ds rest → GoesOn nesting ts (item s.spelled ds) rest
element_then s within more = one_more (λ depth le. s.begins depth (omega arith)) s.means more

-- three numbers, and the end of the array
pub numbers_then : {ts rest : List Token} {a b c : ℕ} (s : SpellsNumbers ts a b c rest)
    → GoesOn 0 ts (item s.first.spelled (item s.second.spelled (item s.third.spelled no_items))) rest
numbers_then s = element_then s.first (omega arith) (element_then s.second (omega arith) (element_then s.third (omega arith) (few_done s.closed)))

pub text_then : {nesting : ℕ} {text : List ℕ} {ts mid rest : List Token} {ds : Items} → ts ≡ Token.string text ∷ mid → GoesOn nesting mid ds rest
    → GoesOn nesting ts (item (string text) ds) rest
text_then {text} {mid} e more =
    one_more {written = json.string text} (λ depth le. ap (value depth) e ∙ value_is depth (Token.string text ∷ mid)) refl more

pub number_then : {nesting n : ℕ} {ts mid rest : List Token} {ds : Items} → SpellsNumber ts n mid → GoesOn nesting mid ds rest
    → GoesOn nesting ts (item (number (unsigned n)) ds) rest
number_then {mid} s more =
    one_more {written = json.number s.0} (λ depth le. ap (value depth) s.1 ∙ value_is depth (Token.number s.0 ∷ mid)) (rw s.2) more

pub few_tokens : {A : Type 0} (nesting : ℕ) {form : JsonPath → Data → Read A} {ts mid rest : List Token} {a : A} (ds : Items) → ts ≡ Token.begin_array ∷ mid
    → GoesOn nesting mid ds rest → ((path : JsonPath) → form path (array ds) ≡ Ok a) → Spells (nesting + 1) form ts a rest
few_tokens nesting {mid} ds e more read = record {
  written = json.array more.written;
  spelled = array ds;
  begins = λ depth le. ap (value depth) e ∙ value-begin_array depth mid (omega arith)
      ∙ ap (parse_map json.array) (more.begins (depth - 1) (length mid) (omega arith) (omega arith));
  means = rw more.means;
  reads = read;
}

-- ---- Texts

read_as : (bytes : List ℕ) (ts : List Token) (written : json.Json) (d : Data) → ts ≡ tokens bytes → value max_depth ts ≡ Some (written, [])
    → of_json written ≡ Some d → read bytes ≡ Some d
read_as bytes ts written d same begins means = ap (λ us. option_and_then of_json (option_and_then (λ p. json.if_last p.0 p.1) (value max_depth us))) (sym same)
    ∙ rw begins means

pub text_tokens : {A : Type 0} {nesting : ℕ} {form : JsonPath → Data → Read A} (limit : ℕ) (bytes : List ℕ) {ts : List Token} {a : A} {rest : List Token}
    → length bytes ≤ limit → IsUtf8 bytes → ts ≡ tokens bytes → Spells nesting form ts a rest → rest ≡ [] → SpellsText nesting form limit bytes a
text_tokens {form} limit bytes {ts} short utf8 same s last within path =
    let begins = s.begins max_depth within ∙ ap (λ r. Some (s.written, r)) last in
    let json = json_of-read bytes s.spelled utf8 (read_as bytes ts s.written s.spelled same begins s.means) in
    went (value_of limit bytes) (form path) s.spelled (within_limit limit bytes (Some s.spelled) short json) ∙ s.reads path
