-- Letters inside a text, spelled with escapes or without.
use Rattle.std.proofs.Common.{◌≡◌, ℕ, zero, suc, ◌+◌, ◌*◌, ◌<◌, Bool, true, false, cond, List, [], ◌∷◌, ◌++◌, length, take, get_or}
use Rattle.std.proofs.Common.{refl, sym, ap, ap₂, ◌∙◌, subst, arith, append_assoc}
use Rattle.std.specs.Prelude.{◌-◌, ◌≤◌, drop, Option, Some, None, slice_index_or}
use Rattle.json.specs.Lex.{Lexeme, Mode, lex, lex_byte, between, in_string, operator, space, other, string_token, token}
use Rattle.json.specs.Token.{string}
use Rattle.json.specs.Word.{is_space, is_operator}
use Rattle.json.specs.Text.{content, code_unit, plain, after_high, is_high_surrogate, is_low_surrogate, prepend}
use Rattle.std.specs.Char.{digit_value, encode_utf8, is_digit}
use Rattle.std.proofs.lemmas.Bool.{ne_eqb, le-ltb, lt-ltb, lt-leb}
use Rattle.topo_script.specs.Readers.{SpellsInside, StandsFor}

-- so many letters of the text are spelled, and the rest follows
pub record AreSpelled (inside text : List ℕ) (count : ℕ) (rest : List ℕ) : Type 0 where
  pub read : content plain inside ≡ prepend (take count text) (content plain rest)
  pub passed : lex in_string inside ≡ lex in_string rest

prepend_none : (o : Option (List ℕ)) → prepend [] o ≡ o
prepend_none None = refl
prepend_none (Some s) = refl

prepend_both : (s t : List ℕ) (o : Option (List ℕ)) → prepend s (prepend t o) ≡ prepend (s ++ t) o
prepend_both s t None = refl
prepend_both s t (Some u) = ap Some (sym (append_assoc s t u))

-- no letter
pub none_spelled : (inside text : List ℕ) → AreSpelled inside text 0 inside
none_spelled inside text = record { read = sym (prepend_none (content plain inside)); passed = refl }

take_next : (text : List ℕ) (i : ℕ) → i < length text → take (i + 1) text ≡ take i text ++ get_or text i 0 ∷ []
take_next [] i l = absurd (omega arith)
take_next (x ∷ xs) zero l = refl
take_next (x ∷ xs) (suc i) l =
    let e : suc i + 1 ≡ suc (i + 1) = omega arith in ap (λ n. take n (x ∷ xs)) e ∙ ap (λ t. x ∷ t) (take_next xs i (omega arith))

-- one letter more
pub letter_more : (inside text rest more : List ℕ) (i letter : ℕ) → i < length text → letter ≡ get_or text i 0 → AreSpelled inside text i rest
    → StandsFor rest letter more → AreSpelled inside text (i + 1) more
letter_more inside text rest more i letter l same so_far next = record {
  read = so_far.read ∙ ap (prepend (take i text)) next.read ∙ prepend_both (take i text) (letter ∷ []) (content plain more)
      ∙ ap (λ s. prepend s (content plain more)) (ap (λ x. take i text ++ x ∷ []) same ∙ sym (take_next text i l));
  passed = so_far.passed ∙ next.passed;
}

take_all : (text : List ℕ) → take (length text) text ≡ text
take_all [] = refl
take_all (x ∷ xs) = ap (λ t. x ∷ t) (take_all xs)

append_none : (text : List ℕ) → text ++ [] ≡ text
append_none [] = refl
append_none (x ∷ xs) = ap (λ t. x ∷ t) (append_none xs)

-- all letters, and the closing quote
pub closed : (inside text left rest : List ℕ) (i : ℕ) → i ≡ length text → AreSpelled inside text i left → left ≡ 34 ∷ rest → SpellsInside inside text rest
unfolding content lex
closed inside text left rest i whole so_far quote = record {
  read = so_far.read ∙ ap (λ o. prepend (take i text) o) (ap (content plain) quote)
      ∙ ap Some (append_none (take i text) ∙ ap (λ n. take n text) whole ∙ take_all text);
  passed = so_far.passed ∙ ap (lex in_string) quote;
}

-- ---- One letter

stays_inside : (o s : Bool) (x : ℕ) (r : List ℕ) (k : Mode → List Lexeme) → lex_byte in_string (cond o operator (cond s space other)) x r k ≡ k in_string
stays_inside true s x r k = refl
stays_inside false true x r k = refl
stays_inside false false x r k = refl

-- a letter that stands for itself
pub plain_letter : (x : ℕ) (rest : List ℕ) → (x ≡ 34 → ⊥) → (x ≡ 92 → ⊥) → 32 ≤ x → StandsFor (x ∷ rest) x rest
unfolding content lex
plain_letter x rest q b l = record {
  read = rw (ne_eqb x 34 q, ne_eqb x 92 b, le-ltb x 32 l) refl;
  passed = rw (ne_eqb x 34 q, ne_eqb x 92 b) (stays_inside (is_operator x) (is_space x) x rest (λ m. lex m rest));
}

-- a code unit of ASCII is its letter
ascii_unit : (u : ℕ) (rest : List ℕ) → u < 128
    → cond (is_high_surrogate u) (content (after_high u) rest) (cond (is_low_surrogate u) None (prepend (encode_utf8 u) (content plain rest)))
    ≡ prepend (u ∷ []) (content plain rest)
unfolding encode_utf8
ascii_unit u rest l = rw (lt-leb 0xd800 u (omega arith), lt-leb 0xdc00 u (omega arith), lt-ltb u 128 l) refl

unit_here : (h l : ℕ) → is_digit h 16 ≡ true → is_digit l 16 ≡ true → code_unit 48 48 h l ≡ Some (digit_value h * 16 + digit_value l)
unfolding code_unit
unit_here h l is_h is_l =
    let none : 0 + digit_value h * 16 + digit_value l ≡ digit_value h * 16 + digit_value l = omega arith in rw (is_h, is_l) (ap Some none)

digit_inside : (x : ℕ) (rest : List ℕ) → digit_value x < 16 → lex in_string (x ∷ rest) ≡ lex in_string rest
unfolding lex
digit_inside x rest l =
    let no_quote : x ≡ 34 → ⊥ = λ e. let there : 36 < 16 = subst (λ y. digit_value y < 16) e l in absurd (omega arith) in
    let no_backslash : x ≡ 92 → ⊥ = λ e. let there : 36 < 16 = subst (λ y. digit_value y < 16) e l in absurd (omega arith) in
    rw (ne_eqb x 34 no_quote, ne_eqb x 92 no_backslash) (stays_inside (is_operator x) (is_space x) x rest (λ m. lex m rest))

-- an escaped letter
pub escaped_letter : (h l : ℕ) (rest : List ℕ) → digit_value h < 8 → digit_value l < 16
    → StandsFor (92 ∷ 117 ∷ 48 ∷ 48 ∷ h ∷ l ∷ rest) (digit_value h * 16 + digit_value l) rest
unfolding content lex
escaped_letter h l rest small low = record {
  read = rw (unit_here h l (lt-ltb (digit_value h) 16 (omega arith)) (lt-ltb (digit_value l) 16 low)) (ascii_unit (digit_value h * 16 + digit_value l) rest (omega arith));
  passed = digit_inside h (l ∷ rest) (omega arith) ∙ digit_inside l rest low;
}

-- ---- The same in what is read

take_tail : (xs : List ℕ) (n : ℕ) → n ≡ length xs → take n xs ≡ xs
take_tail xs n e = ap (λ m. take m xs) e ∙ take_all xs

pub plain_at : (bytes : List ℕ) → 0 < length bytes → (slice_index_or bytes 0 0 ≡ 34 → ⊥) → (slice_index_or bytes 0 0 ≡ 92 → ⊥) → 32 ≤ slice_index_or bytes 0 0
    → StandsFor bytes (slice_index_or bytes 0 0) (take (length bytes - 1) (drop 1 bytes))
plain_at [] some q b l = absurd (omega arith)
plain_at (x ∷ xs) some q b l = subst (StandsFor (x ∷ xs) x) (sym (take_tail xs _ (omega arith))) (plain_letter x xs q b l)

pub escaped_at : (bytes digits : List ℕ) (high low : ℕ) → bytes ≡ (92 ∷ 117 ∷ 48 ∷ 48 ∷ []) ++ digits → 2 ≤ length digits
    → high ≡ digit_value (slice_index_or digits 0 0) → low ≡ digit_value (slice_index_or digits 1 0) → high < 8 → low < 16
    → StandsFor bytes (high * 16 + low) (take (length digits - 2) (drop 2 digits))
escaped_at bytes [] high low e two h l small below = absurd (omega arith)
escaped_at bytes (x ∷ []) high low e two h l small below = absurd (omega arith)
escaped_at bytes (x ∷ y ∷ rest) high low e two h l small below =
    subst (λ t. StandsFor t (high * 16 + low) (take (length (x ∷ y ∷ rest) - 2) rest)) (sym e)
    (subst (StandsFor (92 ∷ 117 ∷ 48 ∷ 48 ∷ x ∷ y ∷ rest) (high * 16 + low)) (sym (take_tail rest _ (omega arith)))
    (subst (λ n. StandsFor (92 ∷ 117 ∷ 48 ∷ 48 ∷ x ∷ y ∷ rest) n rest) (ap₂ (λ a b. a * 16 + b) (sym h) (sym l))
    (escaped_letter x y rest (subst (λ n. n < 8) h small) (subst (λ n. n < 16) l below))))

-- ---- A whole text

pub spelled_front : (bytes inside text rest : List ℕ) → bytes ≡ 34 ∷ inside → SpellsInside inside text rest
    → lex between bytes ≡ token (string text) ∷ lex between rest
unfolding lex
spelled_front bytes inside text rest e spells =
    ap (lex between) e ∙ ap₂ (λ o l. token (string_token o) ∷ l) spells.read spells.passed
