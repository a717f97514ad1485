-- Forms that the tokens of a text spell.
use Rattle.std.specs.Prelude.{◌≡◌, ℕ, ◌≤◌, List, ◌∷◌, length, Some, Ok}
use Rattle.json.specs.Token.{Token, number}
use Rattle.json.specs.Json.{Json, Items as JsonItems, value, items, after_end_array}
use Rattle.serde_json.specs.Data.{Data, Items, unsigned}
use Rattle.serde_json.specs.Read.{of_json, of_items, number_of, max_depth}
use Rattle.topo_script.specs.declared.path.JsonPath.{JsonPath}
use Rattle.topo_script.specs.Reads.{Read, ◌>>=◌, number_form, items_from, value_of}

-- The tokens begin with a value, and the rest follows. It nests no deeper than the number, and at any
-- place the form reads it as `a`.
pub record Spells {A : Type 0} (nesting : ℕ) (form : JsonPath → Data → Read A) (ts : List Token) (a : A) (rest : List Token) : Type 0 where
  pub written : Json
  pub spelled : Data
  pub begins : (depth : ℕ) → nesting ≤ depth → value depth ts ≡ Some (written, rest)
  pub means : of_json written ≡ Some spelled
  pub reads : (path : JsonPath) → form path spelled ≡ Ok a

-- The tokens go on with elements up to the end of an array. They nest no deeper than the number, and
-- from any place on the form reads them as `xs`.
pub record SpellsItems {A : Type 0} (nesting : ℕ) (form : JsonPath → Data → Read A) (ts : List Token) (xs : List A) (rest : List Token) : Type 0 where
  pub written : JsonItems
  pub spelled : Items
  pub begins : (depth n : ℕ) → nesting ≤ depth → length ts ≤ n → items (value depth) n ts ≡ Some (written, rest)
  pub means : of_items written ≡ Some spelled
  pub reads : (path : JsonPath) (i : ℕ) → items_from form path i spelled ≡ Ok xs

-- The tokens go on with these elements up to the end of an array, and the rest follows. They nest no
-- deeper than the number.
pub record GoesOn (nesting : ℕ) (ts : List Token) (spelled : Items) (rest : List Token) : Type 0 where
  pub written : JsonItems
  pub begins : (depth n : ℕ) → nesting ≤ depth → length ts ≤ n → items (value depth) n ts ≡ Some (written, rest)
  pub means : of_items written ≡ Some spelled

-- The bytes are the text of a value that nests no deeper than a text may, and at any place the form reads
-- it as `a`.
abbrev pub SpellsText : {A : Type 0} → ℕ → (JsonPath → Data → Read A) → ℕ → List ℕ → A → Type 0
SpellsText nesting form limit bytes a = nesting ≤ max_depth → (path : JsonPath) → (value_of limit bytes >>= form path) ≡ Ok a

-- The first token is this whole number.
abbrev pub SpellsNumber : List Token → ℕ → List Token → Type 0
SpellsNumber ts n rest = (s : List ℕ) × (ts ≡ number s ∷ rest) × (number_of s ≡ Some (unsigned n))

-- The tokens go on with one number to the end of an array.
pub record SpellsLast (ts : List Token) (n : ℕ) (rest : List Token) : Type 0 where
  pub behind : List Token
  pub spelled : Spells 0 number_form ts n behind
  pub closed : after_end_array behind ≡ Some rest

-- The tokens go on with three numbers to the end of an array.
pub record SpellsNumbers (ts : List Token) (a b c : ℕ) (rest : List Token) : Type 0 where
  pub one : List Token
  pub two : List Token
  pub three : List Token
  pub first : Spells 0 number_form ts a one
  pub second : Spells 0 number_form one b two
  pub third : Spells 0 number_form two c three
  pub closed : after_end_array three ≡ Some rest
