-- Objects that the tokens of a text spell, with their members in any order.
use Rattle.std.specs.Prelude.{◌≡◌, ℕ, ◌+◌, ◌≤◌, Bool, true, false, ◌&&◌, List, [], ◌∷◌, length, Option, Some, None, Ok, ⊤, ◌⊎◌}
use Rattle.std.specs.Ordering.{nat_cmp, match_ordering}
use Rattle.std.specs.Cmp.Lexicographic.{slice_cmp}
use Rattle.json.specs.Token.{Token, key}
use Rattle.json.specs.Json.{Json, Members as JsonMembers, value, members}
use Rattle.serde_json.specs.Data.{Data, object, Members, no_members, member}
use Rattle.serde_json.specs.Read.{of_json, of_members}
use Rattle.topo_script.specs.declared.keys.FormKey.{FormKey}
use Rattle.topo_script.specs.declared.path.JsonPath.{JsonPath}
use Rattle.topo_script.specs.declared.path.Key.{Key}
use Rattle.topo_script.specs.Paths.{key_name}
use Rattle.topo_script.specs.Reads.{Read, name_of}

-- ---- Members by their keys

-- the members of these keys that have a value
abbrev pub members_of : List FormKey → List (Option Data) → Members
members_of (k ∷ ks) (None ∷ ds) = members_of ks ds
members_of (k ∷ ks) (Some d ∷ ds) = member (name_of k) d (members_of ks ds)
members_of _ _ = no_members

-- the first name comes before the second
abbrev pub is_before : FormKey → FormKey → Bool
is_before k l = match_ordering (slice_cmp nat_cmp (name_of k) (name_of l)) true false false
    && match_ordering (slice_cmp nat_cmp (name_of l) (name_of k)) false false true

abbrev pub are_behind : FormKey → List FormKey → Bool
are_behind k [] = true
are_behind k (l ∷ ls) = is_before k l && are_behind k ls

-- the keys are in the order of their names, each once
abbrev pub are_sorted : List FormKey → Bool
are_sorted [] = true
are_sorted (k ∷ ks) = are_behind k ks && are_sorted ks

-- the values are the same but for that of the key with this name, which had none and has this one now
abbrev pub Fills : List ℕ → Data → List FormKey → List (Option Data) → List (Option Data) → Type 0
Fills name d (k ∷ ks) (o ∷ os) (p ∷ ps) = ((name ≡ name_of k) × (o ≡ None) × (p ≡ Some d) × (os ≡ ps)) ⊎ ((o ≡ p) × Fills name d ks os ps)
Fills name d _ _ _ = ⊥

-- ---- What tokens spell

-- The tokens begin with a value, and the rest follows. It nests no deeper than the number.
pub record SpellsValue (nesting : ℕ) (ts : List Token) (d : Data) (rest : List Token) : Type 0 where
  pub written : Json
  pub begins : (depth : ℕ) → nesting ≤ depth → value depth ts ≡ Some (written, rest)
  pub means : of_json written ≡ Some d

-- The tokens go on with members up to the end of an object, and these, put to the old ones, are `ms`.
pub record MembersTo (nesting : ℕ) (ts : List Token) (old ms : Members) (rest : List Token) : Type 0 where
  pub written : JsonMembers
  pub begins : (depth n : ℕ) → nesting ≤ depth → length ts ≤ n → members (value depth) n ts ≡ Some (written, rest)
  pub means : of_members written old ≡ Some ms

-- ---- Slots

-- what was read into a slot is what the form reads of the value
abbrev pub IsHeld : {A : Type 0} → (JsonPath → Data → Read A) → Option A → Option Data → Type 0
IsHeld form None None = ⊤
IsHeld form (Some a) (Some d) = (path : JsonPath) → form path d ≡ Ok a
IsHeld form _ _ = ⊥

-- the same of a slot and of those behind it
unfoldable pub HoldsSlot : {A R : Type 0} → (JsonPath → Data → Read A) → (R → List (Option Data) → Type 0) → Option A → R → List (Option Data) → Type 0
HoldsSlot form holds found rest [] = ⊥
HoldsSlot form holds found rest (o ∷ os) = IsHeld form found o × holds rest os

-- nothing was read yet
pub record IsBlank (holds : List (Option Data) → Type 0) : Type 0 where
  pub values : List (Option Data)
  pub held : holds values
  pub none : (keys : List FormKey) → members_of keys values ≡ no_members

-- a member follows, and its value goes into the empty slot of its key
pub record FillsOne (nesting : ℕ) (keys : List FormKey) (ts rest : List Token) (os : List (Option Data)) (holds : List (Option Data) → Type 0) : Type 0 where
  pub name : List ℕ
  pub behind : List Token
  pub named : ts ≡ key name ∷ behind
  pub spelled : Data
  pub values : List (Option Data)
  pub value : SpellsValue nesting behind spelled rest
  pub fills : Fills name spelled keys os values
  pub held : holds values

-- the tokens go on to the end of an object, whose members the slots hold
pub record SpellsMembers {S : Type 0} (nesting : ℕ) (holds : S → List (Option Data) → Type 0) (keys : List FormKey) (ts : List Token) (slots : S)
    (rest : List Token) : Type 0 where
  pub values : List (Option Data)
  pub held : holds slots values
  pub members : MembersTo nesting ts no_members (members_of keys values) rest

-- the tokens begin with an object, whose members the slots hold
pub record SpellsObject {S : Type 0} (nesting : ℕ) (holds : S → List (Option Data) → Type 0) (keys : List FormKey) (ts : List Token) (slots : S)
    (rest : List Token) : Type 0 where
  pub values : List (Option Data)
  pub held : holds slots values
  pub value : SpellsValue (nesting + 1) ts (object (members_of keys values)) rest

-- the tokens begin with an object that has one member, with this key, whose value the form reads as `a`
abbrev pub SpellsOnly : {A : Type 0} → ℕ → (JsonPath → Data → Read A) → Key → List Token → A → List Token → Type 0
SpellsOnly nesting form k ts a rest = (d : Data) × SpellsValue (nesting + 1) ts (object (member (key_name k) d no_members)) rest
    × ((path : JsonPath) → form path d ≡ Ok a)
