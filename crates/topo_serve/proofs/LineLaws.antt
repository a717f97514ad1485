-- Laws of lines.
use Rattle.std.proofs.Common.{◌≡◌, ℕ, zero, suc, ◌+◌, ◌-◌, ◌<◌, ◌≤◌, List, [], ◌∷◌, ◌++◌, length, take, drop}
use Rattle.std.proofs.Common.{refl, sym, ap, ◌∙◌, subst, length-drop, inl, inr, arith, append_assoc, append-nil}
use Rattle.std.proofs.lemmas.List.{drop-drop, drop_all, take_all, take_rest}
use Rattle.std.proofs.lemmas.Bool.{ne_eqb}
use Rattle.std.proofs.lemmas.Bool.Decides.{eqb_tells}
use Rattle.topo_serve.specs.Lines.{ArePlain, IsPlain, before_first, closed, first_line, lines_of}

-- ---- Lines without line feeds

pub plain_append : (a b : List ℕ) → IsPlain a → IsPlain b → IsPlain (a ++ b)
plain_append [] b p q = q
plain_append (x ∷ a) b p q = (p.0, plain_append a b p.1 q)

pub plain_snoc : (lines : List (List ℕ)) (line : List ℕ) → ArePlain lines → IsPlain line → ArePlain (lines ++ line ∷ [])
plain_snoc [] line p q = (q, tt)
plain_snoc (l ∷ lines) line p q = (p.0, plain_snoc lines line p.1 q)

pub closed_snoc : (lines : List (List ℕ)) (line : List ℕ) → closed (lines ++ line ∷ []) ≡ closed lines ++ (line ++ 10 ∷ [])
closed_snoc [] line = refl
closed_snoc (l ∷ lines) line = ap (λ (t : List ℕ). l ++ 10 ∷ t) (closed_snoc lines line) ∙ sym (append_assoc l (10 ∷ closed lines) (line ++ 10 ∷ []))

-- ---- The first line

pub first_plain : (bs : List ℕ) → IsPlain (first_line bs)
first_plain [] = tt
first_plain (b ∷ bs) = elim (eqb_tells b 10) [ inl (is, _) ↦ rw is tt | inr (is, not) ↦ rw is (not, first_plain bs) ]

pub first_of_line : (line rest : List ℕ) → IsPlain line → first_line (line ++ 10 ∷ rest) ≡ line
first_of_line [] rest p = refl
first_of_line (b ∷ line) rest p = rw (ne_eqb b 10 p.0) (ap (λ (t : List ℕ). b ∷ t) (first_of_line line rest p.1))

pub first_of_plain : (line : List ℕ) → IsPlain line → first_line line ≡ line
first_of_plain [] p = refl
first_of_plain (b ∷ line) p = rw (ne_eqb b 10 p.0) (ap (λ (t : List ℕ). b ∷ t) (first_of_plain line p.1))

pub first_behind : (line rest : List ℕ) → IsPlain line → first_line (line ++ rest) ≡ line ++ first_line rest
first_behind [] rest p = refl
first_behind (b ∷ line) rest p = rw (ne_eqb b 10 p.0) (ap (λ (t : List ℕ). b ∷ t) (first_behind line rest p.1))

pub first_taken : (bs : List ℕ) → take (length (first_line bs)) bs ≡ first_line bs
first_taken [] = refl
first_taken (b ∷ bs) = elim (eqb_tells b 10) [ inl (is, _) ↦ rw is refl | inr (is, not) ↦ rw is (ap (λ (t : List ℕ). b ∷ t) (first_taken bs)) ]

-- behind the first line stands its line feed
pub first_fed : (bs : List ℕ) → length (first_line bs) < length bs → bs ≡ (first_line bs ++ 10 ∷ []) ++ drop (suc (length (first_line bs))) bs
first_fed [] h = absurd (omega arith)
first_fed (b ∷ bs) h = elim (eqb_tells b 10) [
  | inl (is, same) ↦ rw is (ap (λ (n : ℕ). n ∷ bs) same)
  | inr (is, not) ↦
      let below : length (b ∷ first_line bs) < length (b ∷ bs) = rw is at h in
      rw is (ap (λ (t : List ℕ). b ∷ t) (first_fed bs (omega arith)))
]

-- ---- The lines of a text

pub line_then : (line rest : List ℕ) → IsPlain line → lines_of (line ++ 10 ∷ rest) ≡ line ∷ lines_of rest
line_then [] rest p = refl
line_then (b ∷ line) rest p = rw (ne_eqb b 10 p.0) (ap (before_first b) (line_then line rest p.1))

pub line_alone : (b : ℕ) (line : List ℕ) → IsPlain (b ∷ line) → lines_of (b ∷ line) ≡ (b ∷ line) ∷ []
line_alone b [] p = rw (ne_eqb b 10 p.0) refl
line_alone b (c ∷ line) p = rw (ne_eqb b 10 p.0) (ap (before_first b) (line_alone c line p.1))

pub lines_closed : (lines : List (List ℕ)) (rest : List ℕ) → ArePlain lines → lines_of (closed lines ++ rest) ≡ lines ++ lines_of rest
lines_closed [] rest p = refl
lines_closed (line ∷ lines) rest p =
    ap lines_of (append_assoc line (10 ∷ closed lines) rest) ∙ line_then line (closed lines ++ rest) p.0
    ∙ ap (λ (ls : List (List ℕ)). line ∷ ls) (lines_closed lines rest p.1)

-- ---- What is kept of a line

pub take_more : (most : ℕ) (a b : List ℕ) → take most (take most a ++ b) ≡ take most (a ++ b)
take_more zero a b = refl
take_more (suc most) [] b = refl
take_more (suc most) (x ∷ a) b = ap (λ (t : List ℕ). x ∷ t) (take_more most a b)

-- ---- What is ahead

-- what is ahead, as it is lent
abbrev pub lent : List ℕ → ℕ → List ℕ
lent shown at = take (length shown - at) (drop at shown)

pub ahead_fed : (items shown : List ℕ) (at n : ℕ) → shown ≡ items → n ≡ length (first_line (lent shown at)) → n < length (lent shown at)
    → drop at items ≡ (take n (lent shown at) ++ 10 ∷ []) ++ drop (at + (n + 1)) items
ahead_fed items shown at n same len below =
    let rest = lent shown at in
    let is : rest ≡ drop at items = take_rest shown at ∙ ap (drop at) same in
    let first : take n rest ≡ first_line rest = ap (λ (k : ℕ). take k rest) len ∙ first_taken rest in
    let next = suc (length (first_line rest)) in
    let past : at + next ≡ at + (n + 1) = omega (arith, len) in
    let behind : drop next rest ≡ drop (at + (n + 1)) items = ap (drop next) is ∙ drop-drop next at items ∙ ap (λ (k : ℕ). drop k items) past in
    sym is ∙ first_fed rest (omega (arith, len)) ∙ ap (λ (t : List ℕ). (first_line rest ++ 10 ∷ []) ++ t) behind
    ∙ ap (λ (t : List ℕ). (t ++ 10 ∷ []) ++ drop (at + (n + 1)) items) (sym first)

-- nothing is ahead behind all of it
pub none_ahead : (items shown : List ℕ) (at n : ℕ) → shown ≡ items → length (lent shown at) ≤ n → drop (at + n) items ≡ []
none_ahead items shown at n same above =
    let is : lent shown at ≡ drop at items = take_rest shown at ∙ ap (drop at) same in
    drop_all (at + n) items (omega (arith, above, ap length is, length-drop at items))

pub ahead_all : (items shown : List ℕ) (at n : ℕ) → shown ≡ items → at ≤ length shown → n ≡ length (first_line (lent shown at)) → length (lent shown at) ≤ n
    → drop at items ≡ (take n (lent shown at) ++ []) ++ drop (at + n) items
ahead_all items shown at n same there len above =
    let rest = lent shown at in
    let is : rest ≡ drop at items = take_rest shown at ∙ ap (drop at) same in
    let all : take n rest ≡ rest = take_all n rest above in
    let none : drop (at + n) items ≡ [] = none_ahead items shown at n same above in
    sym is ∙ sym (append-nil rest) ∙ sym (append-nil (rest ++ [])) ∙ ap (λ (t : List ℕ). (rest ++ []) ++ t) (sym none)
    ∙ ap (λ (t : List ℕ). (t ++ []) ++ drop (at + n) items) (sym all)

pub part_plain : (rest : List ℕ) (n : ℕ) → n ≡ length (first_line rest) → IsPlain (take n rest)
part_plain rest n len = subst IsPlain (sym (ap (λ (k : ℕ). take k rest) len ∙ first_taken rest)) (first_plain rest)

-- the parts of what is ahead are of one call of read
pub few_ahead : (ahead : List ℕ) (at : ℕ) (items parts : List ℕ) → drop at items ≡ ahead → ahead ≡ parts → length items ≤ 8192 → length parts ≤ 8192
few_ahead ahead at items parts is parted few = omega (arith, few, ap length is, ap length parted, length-drop at items)
