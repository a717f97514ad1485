-- A reader of tokens: what is left of its text.
use Rattle.std.specs.Prelude.{◌≡◌, ℕ, List, [], ◌∷◌, length, Some, Bool, ◌||◌, ◌==◌}
use Rattle.json.specs.Ascii as ascii
use Rattle.json.specs.Lex as lex
use Rattle.json.specs.Lex.{between, in_string, punctuate}
use Rattle.json.specs.Text.{content, plain, prepend}
use Rattle.json.specs.Token.{Token}
use Rattle.json.specs.Word.{head}
use Rattle.topo_script.specs.declared.reader.Place.{Place}
use Rattle.topo_script.specs.declared.reader.Place.TheVariants.{Fresh, AfterComma, AfterValue}
use Rattle.topo_script.specs.declared.reader.TokenReader.TheInside.{Inside}

-- the same place in the kit's grammar of tokens
abbrev pub place_of : Place → lex.Place
place_of Fresh = lex.fresh
place_of AfterComma = lex.after_comma
place_of AfterValue = lex.after_value

-- the tokens of what is left
abbrev pub tokens_left : Inside → List Token
tokens_left a = punctuate (place_of a.place) (lex.lex between a.rest.now)

-- the end of the text, a comma, or the end of an array or an object, is next
abbrev pub ends_value : List ℕ → Bool
ends_value t = (length t == 0) || (head t == ascii.comma) || (head t == ascii.close_bracket) || (head t == ascii.close_brace)

-- the inside of a text begins with what stands for this letter, and goes on with the rest
pub record StandsFor (inside : List ℕ) (letter : ℕ) (rest : List ℕ) : Type 0 where
  pub read : content plain inside ≡ prepend (letter ∷ []) (content plain rest)
  pub passed : lex.lex in_string inside ≡ lex.lex in_string rest

-- the inside of a text spells these letters up to its closing quote, and the rest follows
pub record SpellsInside (inside text rest : List ℕ) : Type 0 where
  pub read : content plain inside ≡ Some text
  pub passed : lex.lex in_string inside ≡ lex.lex between rest
