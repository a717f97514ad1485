-- Lines of which not all is kept.
use Rattle.json.specs.Json.{value}
use Rattle.json.specs.Lex.{lex, punctuate}
use Rattle.serde_json.specs.Read.{read}
use Rattle.std.specs.Prelude.{nat_lt, ◌||◌}
use Rattle.std.specs.Str.{is_utf8}
use Rattle.std.proofs.Common.{◌≡◌, ℕ, Bool, true, false, if◌then◌else◌, None, [], ◌∷◌, List, Err, take}
use Rattle.std.proofs.Common.{length, ltb-true, suc, ◌<◌, inl, inr, refl, sym, ap, ◌∙◌, arith, lt-ltb}
use Rattle.std.proofs.lemmas.Bool.Decides.{leb_tells}
use Rattle.std.proofs.lemmas.List.{length-take, length-take-le, take_all}
use Rattle.topo_script.specs.declared.fault.ScriptFault.TheVariants.{NotJson, TooLong}
use Rattle.topo_script.specs.Reads.{and_then, json_of, value_of}
use Rattle.topo_script.specs.Sessions.{has_brace, line_limit, line_of}

pub value_long : (limit : ℕ) (bytes : List ℕ) → limit < length bytes → value_of limit bytes ≡ Err TooLong
unfolding value_of and_then
value_long limit bytes long = rw (lt-ltb limit (length bytes) long) refl

value_kept : (most limit : ℕ) (bytes : List ℕ) → limit < most → value_of limit (take most bytes) ≡ value_of limit bytes
value_kept most limit bytes below = elim (leb_tells (length bytes) most) [
  | inl (_, short) ↦ ap (value_of limit) (take_all most bytes short)
  | inr (_, long) ↦ value_long limit (take most bytes) (omega (arith, length-take-le most bytes (omega arith), below))
      ∙ sym (value_long limit bytes (omega arith))
]

brace_kept : (n : ℕ) (bytes : List ℕ) → has_brace (take (suc n) bytes) ≡ has_brace bytes
brace_kept n [] = refl
brace_kept n (b ∷ bytes) = refl

limit_kept : (first : Bool) (n : ℕ) (bytes : List ℕ) → line_limit first (take (suc n) bytes) ≡ line_limit first bytes
unfolding line_limit
limit_kept first n bytes = rw (brace_kept n bytes) refl

below_either : (b : Bool) → (if b then 268435456 else 65536) < 268435457
below_either true = ltb-true 268435456 268435457 refl
below_either false = ltb-true 65536 268435457 refl

limit_below : (first : Bool) (bytes : List ℕ) → line_limit first bytes < 268435457
unfolding line_limit
limit_below first bytes = below_either (first || has_brace bytes)

pub line_kept : (first : Bool) (line kept : List ℕ) → kept ≡ take 268435457 line → line_of first kept ≡ line_of first line
unfolding line_of
line_kept first line kept is = rw (is, limit_kept first 268435456 line, value_kept 268435457 (line_limit first line) line (limit_below first line)) refl

pub kept_long : (most limit : ℕ) (kept line : List ℕ) → kept ≡ take most line → length kept ≡ most → limit < most → limit < length line
kept_long most limit kept line is whole below = omega (arith, ap length is, length-take most line, whole, below)

-- ---- No bytes

none_read : read [] ≡ None
unfolding value lex punctuate
none_read = refl

none_if : (b : Bool) → (if b then read [] else None) ≡ None
none_if true = none_read
none_if false = refl

pub json_none : json_of [] ≡ None
json_none = none_if (is_utf8 [])

pub value_none : (limit : ℕ) (bytes : List ℕ) → json_of bytes ≡ None → nat_lt limit (length bytes) ≡ false → value_of limit bytes ≡ Err NotJson
unfolding value_of and_then
value_none limit bytes none short = rw (short, none) refl
