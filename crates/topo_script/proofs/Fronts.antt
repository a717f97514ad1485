-- What the lexer makes of the front of a text, and what the grammar of tokens makes of that.
use Rattle.std.proofs.Common.{◌≡◌, ℕ, suc, ◌+◌, ◌-◌, ◌*◌, ◌/◌, ◌%◌, ◌<◌, ◌^◌, Bool, true, false, cond, ◌||◌, ◌==◌, List, [], ◌∷◌, ◌++◌}
use Rattle.std.proofs.Common.{refl, sym, ap, ap₂, ◌∙◌, subst, decimal, arith, length, get_or, take, drop, inl, inr, ◌⊎◌, append_assoc}
use Rattle.std.proofs.lemmas.Bool.{eqb-true, eqb-false, ltb-false, or_cases, or_parts, not-true, false≢true}
use Rattle.std.proofs.lemmas.Fmt.{decimal_digit, decimal_step}
use Rattle.std.proofs.lemmas.List.{take-append-drop, take_rest}
use Rattle.std.specs.List.{prefix_len}
use Rattle.json.specs.Lex.{Lexeme, Place, token, colon, string_token, lex, between, begins_colon, punctuate}
use Rattle.json.specs.Lex.{fresh, after_value, after_comma, may_begin, may_close}
use Rattle.json.specs.Print.{escape, escape_byte}
use Rattle.json.specs.Run.{is_plain}
use Rattle.json.specs.Token.{begin_object, end_object, begin_array, end_array, key, string, number, null, bad}
use Rattle.json.specs.Word.{ends_word, is_space, word}
use Rattle.json.proofs.Printed.Decimals.{IsNumber-decimal}
use Rattle.json.proofs.Printed.Numbers.{lex-number, in_word-ended}
use Rattle.json.proofs.Printed.Strings.{content-escape, lex-escape, escape_byte_plain}
use Rattle.topo_script.specs.declared.path.Key.{Key}
use Rattle.topo_script.specs.declared.path.Key.TheVariants as keys
use Rattle.topo_script.specs.Paths.{key_name}
use Rattle.topo_script.specs.Readers.{ends_value}

-- ---- Gaps

pub gap_passed : (x : ℕ) (rest : List ℕ) → is_space x ≡ true → lex between (x ∷ rest) ≡ lex between rest
unfolding lex
gap_passed x rest h = last (or_cases ((x == 32) || (x == 9) || (x == 10)) (x == 13) h)
  where
    at : (y : ℕ) → (x == y) ≡ true → lex between (y ∷ rest) ≡ lex between rest → lex between (x ∷ rest) ≡ lex between rest
    at y e passed = ap (λ z. lex between (z ∷ rest)) (eqb-true x y e) ∙ passed

    first : ((x == 32) ≡ true) ⊎ ((x == 9) ≡ true) → lex between (x ∷ rest) ≡ lex between rest
    first (inl e) = at 32 e refl
    first (inr e) = at 9 e refl

    second : (((x == 32) || (x == 9)) ≡ true) ⊎ ((x == 10) ≡ true) → lex between (x ∷ rest) ≡ lex between rest
    second (inl e) = first (or_cases (x == 32) (x == 9) e)
    second (inr e) = at 10 e refl

    last : (((x == 32) || (x == 9) || (x == 10)) ≡ true) ⊎ ((x == 13) ≡ true) → lex between (x ∷ rest) ≡ lex between rest
    last (inl e) = second (or_cases ((x == 32) || (x == 9)) (x == 10) e)
    last (inr e) = at 13 e refl

pub gap_passed_at : (bytes : List ℕ) → 0 < length bytes → is_space (get_or bytes 0 0) ≡ true → lex between (drop 1 bytes) ≡ lex between bytes
gap_passed_at [] some h = absurd (omega arith)
gap_passed_at (x ∷ rest) some h = sym (gap_passed x rest h)

-- ---- Ends of values

pub no_colon : (t : List ℕ) → ends_value t ≡ true → begins_colon (lex between t) ≡ false
unfolding lex
no_colon [] h = refl
no_colon (x ∷ rest) h = last (or_cases ((length (x ∷ rest) == 0) || (x == 44) || (x == 93)) (x == 125) h)
  where
    at : (y : ℕ) → (x == y) ≡ true → begins_colon (lex between (y ∷ rest)) ≡ false → begins_colon (lex between (x ∷ rest)) ≡ false
    at y e passed = ap (λ z. begins_colon (lex between (z ∷ rest))) (eqb-true x y e) ∙ passed

    none : ((length (x ∷ rest) == 0) ≡ true) ⊎ ((x == 44) ≡ true) → begins_colon (lex between (x ∷ rest)) ≡ false
    none (inl e) = absurd (omega (arith, eqb-true (length (x ∷ rest)) 0 e))
    none (inr e) = at 44 e refl

    first : (((length (x ∷ rest) == 0) || (x == 44)) ≡ true) ⊎ ((x == 93) ≡ true) → begins_colon (lex between (x ∷ rest)) ≡ false
    first (inl e) = none (or_cases (length (x ∷ rest) == 0) (x == 44) e)
    first (inr e) = at 93 e refl

    last : (((length (x ∷ rest) == 0) || (x == 44) || (x == 93)) ≡ true) ⊎ ((x == 125) ≡ true) → begins_colon (lex between (x ∷ rest)) ≡ false
    last (inl e) = first (or_cases ((length (x ∷ rest) == 0) || (x == 44)) (x == 93) e)
    last (inr e) = at 125 e refl

-- ---- Numbers

-- one more digit
pub digit_more : (n d : ℕ) (rest : List ℕ) → 0 < n → d < 10 → n * 10 + d < 2 ^ 64 → decimal n ++ (48 + d) ∷ rest ≡ decimal (n * 10 + d) ++ rest
digit_more n d rest some small fits =
    let quotient : (n * 10 + d) / 10 ≡ n = omega arith in
    let remainder : (n * 10 + d) % 10 ≡ d = omega arith in
    sym (ap (λ t. t ++ rest) (decimal_step (n * 10 + d) (omega arith) fits ∙ ap₂ (λ q r. decimal q ++ (48 + r) ∷ []) quotient remainder)
    ∙ append_assoc (decimal n) ((48 + d) ∷ []) rest)

-- one digit
pub digit_text : (d : ℕ) (rest : List ℕ) → d < 10 → (48 + d) ∷ rest ≡ decimal d ++ rest
digit_text d rest h = ap (λ t. t ++ rest) (sym (decimal_digit d h))

pub number_front : (n : ℕ) (bytes rest : List ℕ) → n < 2 ^ 64 → bytes ≡ decimal n ++ rest → ends_word rest ≡ true
    → lex between bytes ≡ token (number (decimal n)) ∷ lex between rest
number_front n bytes rest h e ended = ap (lex between) e ∙ lex-number (decimal n) rest (IsNumber-decimal n h) ended

pub null_front : (bytes rest : List ℕ) → bytes ≡ 110 ∷ 117 ∷ 108 ∷ 108 ∷ rest → ends_word rest ≡ true → lex between bytes ≡ token null ∷ lex between rest
unfolding lex word
null_front bytes rest e ended = ap (lex between) e ∙ ap₂ (λ b l. token (cond b null bad) ∷ l) ended (in_word-ended rest ended)

-- ---- Texts

plain_byte : (p : Bool) (x n : ℕ) (xs : List ℕ) → p ≡ is_plain x → escape (take n xs) ≡ take n xs
    → escape (take (cond p (1 + n) 0) (x ∷ xs)) ≡ take (cond p (1 + n) 0) (x ∷ xs)
plain_byte false x n xs e ih = refl
plain_byte true x n xs e ih =
    let next : suc n ≡ 1 + n = omega arith in
    let none = or_parts ((x == 34) || (x == 92)) _ (not-true _ (sym e)) in
    let tests = or_parts (x == 34) _ none.0 in
    subst (λ k. escape (take k (x ∷ xs)) ≡ take k (x ∷ xs)) next
    (ap₂ (λ s t. s ++ t) (escape_byte_plain x (eqb-false x 34 tests.0) (eqb-false x 92 tests.1) (ltb-false x 32 none.1)) ih)

-- plain bytes stand for themselves
pub plain_escape : (d : List ℕ) → escape (take (prefix_len is_plain d) d) ≡ take (prefix_len is_plain d) d
plain_escape [] = refl
plain_escape (x ∷ xs) = plain_byte (is_plain x) x (prefix_len is_plain xs) xs refl (plain_escape xs)

pub text_front : (s bytes rest : List ℕ) → escape s ≡ s → bytes ≡ 34 ∷ (s ++ 34 ∷ rest) → lex between bytes ≡ token (string s) ∷ lex between rest
unfolding lex
text_front s bytes rest same e =
    ap (lex between) (e ∙ ap (λ t. 34 ∷ (t ++ 34 ∷ rest)) (sym same))
    ∙ ap₂ (λ o l. token (string_token o) ∷ l) (content-escape s rest) (lex-escape s rest)

-- a text up to a quote
pub text_split : (d rest : List ℕ) (n : ℕ) → take (length d - n) (drop n d) ≡ 34 ∷ rest → d ≡ take n d ++ 34 ∷ rest
text_split d rest n e = sym (take-append-drop n d) ∙ ap (λ t. take n d ++ t) (sym (take_rest d n) ∙ e)

pub key_escape : (k : Key) → escape (key_name k) ≡ key_name k
unfolding escape_byte
key_escape keys.A = refl
key_escape _ = refl

-- ---- Tokens

pub colon_front : (bytes rest : List ℕ) → bytes ≡ 58 ∷ rest → lex between bytes ≡ colon ∷ lex between rest
unfolding lex
colon_front bytes rest e = ap (lex between) e

pub comma_passed : (bytes rest : List ℕ) → bytes ≡ 44 ∷ rest → punctuate after_value (lex between bytes) ≡ punctuate after_comma (lex between rest)
unfolding lex punctuate
comma_passed bytes rest e = ap (λ b. punctuate after_value (lex between b)) e

pub begun_array : (p : Place) (bytes rest : List ℕ) → may_begin p ≡ true → bytes ≡ 91 ∷ rest
    → punctuate p (lex between bytes) ≡ begin_array ∷ punctuate fresh (lex between rest)
unfolding lex punctuate
begun_array fresh bytes rest h e = ap (λ b. punctuate fresh (lex between b)) e
begun_array after_comma bytes rest h e = ap (λ b. punctuate after_comma (lex between b)) e
begun_array _ bytes rest h e = absurd (false≢true h)

pub begun_object : (p : Place) (bytes rest : List ℕ) → may_begin p ≡ true → bytes ≡ 123 ∷ rest
    → punctuate p (lex between bytes) ≡ begin_object ∷ punctuate fresh (lex between rest)
unfolding lex punctuate
begun_object fresh bytes rest h e = ap (λ b. punctuate fresh (lex between b)) e
begun_object after_comma bytes rest h e = ap (λ b. punctuate after_comma (lex between b)) e
begun_object _ bytes rest h e = absurd (false≢true h)

pub closed_array : (p : Place) (bytes rest : List ℕ) → may_close p ≡ true → bytes ≡ 93 ∷ rest
    → punctuate p (lex between bytes) ≡ end_array ∷ punctuate after_value (lex between rest)
unfolding lex punctuate
closed_array fresh bytes rest h e = ap (λ b. punctuate fresh (lex between b)) e
closed_array after_value bytes rest h e = ap (λ b. punctuate after_value (lex between b)) e
closed_array _ bytes rest h e = absurd (false≢true h)

pub closed_object : (p : Place) (bytes rest : List ℕ) → may_close p ≡ true → bytes ≡ 125 ∷ rest
    → punctuate p (lex between bytes) ≡ end_object ∷ punctuate after_value (lex between rest)
unfolding lex punctuate
closed_object fresh bytes rest h e = ap (λ b. punctuate fresh (lex between b)) e
closed_object after_value bytes rest h e = ap (λ b. punctuate after_value (lex between b)) e
closed_object _ bytes rest h e = absurd (false≢true h)

pub none_left : (bytes : List ℕ) → (length bytes == 0) ≡ true → bytes ≡ []
none_left [] h = refl
none_left (x ∷ rest) h = absurd (omega (arith, eqb-true (length (x ∷ rest)) 0 h))

pub ended : (p : Place) → may_close p ≡ true → punctuate p (lex between []) ≡ []
unfolding lex punctuate
ended fresh h = refl
ended after_value h = refl
ended _ h = absurd (false≢true h)

pub key_token : (p : Place) (s : List ℕ) (ls : List Lexeme) → may_begin p ≡ true → punctuate p (token (string s) ∷ colon ∷ ls) ≡ key s ∷ punctuate fresh ls
unfolding punctuate
key_token fresh s ls h = refl
key_token after_comma s ls h = refl
key_token _ s ls h = absurd (false≢true h)

pub text_token : (p : Place) (s : List ℕ) (ls : List Lexeme) → may_begin p ≡ true → begins_colon ls ≡ false
    → punctuate p (token (string s) ∷ ls) ≡ string s ∷ punctuate after_value ls
unfolding punctuate
text_token fresh s ls h last = rw last
text_token after_comma s ls h last = rw last
text_token _ s ls h last = absurd (false≢true h)

pub number_token : (p : Place) (s : List ℕ) (ls : List Lexeme) → may_begin p ≡ true → punctuate p (token (number s) ∷ ls) ≡ number s ∷ punctuate after_value ls
unfolding punctuate
number_token fresh s ls h = refl
number_token after_comma s ls h = refl
number_token _ s ls h = absurd (false≢true h)

pub null_token : (p : Place) (ls : List Lexeme) → may_begin p ≡ true → punctuate p (token null ∷ ls) ≡ null ∷ punctuate after_value ls
unfolding punctuate
null_token fresh ls h = refl
null_token after_comma ls h = refl
null_token _ ls h = absurd (false≢true h)
