-- What a value is read as, or its first fault. The tests stand in the order in which faults are told.
use Rattle.std.specs.Prelude.{◌≡◌, ℕ, ◌+◌, ◌^◌, nat_lt, Bool, true, false, not, ◌&&◌, if◌then◌else◌, List, [], ◌∷◌}
use Rattle.std.specs.Prelude.{length, bytes_eq, Option, Some, None, is_some, option_map, unwrap_or, Result, Ok, Err, ⊤}
use Rattle.std.specs.Str.{is_utf8}
use Rattle.std.specs.List.{list_any}
use Rattle.serde_json.specs.Data.{Data, Items, no_items, item, Members, no_members, member}
use Rattle.serde_json.specs.Find.{get, at, as_number, as_u64, as_str, as_array, as_object}
use Rattle.serde_json.specs.Events.{items_len}
use Rattle.serde_json.specs.Read.{read}
use Rattle.topo_script.specs.declared.keys.FormKey.{FormKey}
use Rattle.topo_script.specs.declared.keys.FormKey.TheVariants.{Due, Optional}
use Rattle.topo_script.specs.declared.path.Key.{Key}
use Rattle.topo_script.specs.declared.path.JsonPath.{JsonPath}
use Rattle.topo_script.specs.declared.fault.ScriptFault.{ScriptFault}
use Rattle.topo_script.specs.declared.fault.ScriptFault.TheVariants.{Memory, NotJson, TooLong, BadShape, BadNumber}
use Rattle.topo_script.specs.Paths.{key_name, member_of, element_of}

-- what is found, or a fault
abbrev pub Read : Type 0 → Type 0
Read A = Result A ScriptFault

-- the next step, where this one finds something
unfoldable pub and_then : {A B : Type 0} → Read A → (A → Read B) → Read B
and_then (Ok a) next = next a
and_then (Err fault) next = Err fault

infixl 10 ◌>>=◌
abbrev pub ◌>>=◌ : {A B : Type 0} → Read A → (A → Read B) → Read B
found >>= next = and_then found next

-- what is found twice and thrice, or the first fault
abbrev pub both : {A B : Type 0} → Read A → Read B → Read (A × B)
both a b = a >>= λ x. b >>= λ y. Ok (x, y)

abbrev pub all_three : {A B C : Type 0} → Read A → Read B → Read C → Read (A × B × C)
all_three a b c = a >>= λ x. b >>= λ y. c >>= λ z. Ok (x, y, z)

abbrev pub read_map : {A B : Type 0} → (A → B) → Read A → Read B
read_map f (Ok a) = Ok (f a)
read_map f (Err fault) = Err fault

-- a value that is there, or a fault
abbrev pub due : {A : Type 0} → ScriptFault → Option A → Read A
due fault None = Err fault
due fault (Some a) = Ok a

-- a test that holds, or a fault
abbrev pub passes : ScriptFault → Bool → Read ⊤
passes fault b = if b then Ok tt else Err fault

-- ---- What a reader gives

-- a fault that may be told: the first one, or out of memory
abbrev pub IsFirstFault : {A : Type 0} → Read A → ScriptFault → Type 0
IsFirstFault due Memory = ⊤
IsFirstFault due fault = due ≡ Err fault

-- the result is what is due, and only out of memory may take its place
abbrev pub Gives : {A : Type 0} → Read A → Read A → Type 0
Gives (Ok a) due = due ≡ Ok a
Gives (Err fault) due = IsFirstFault due fault

-- ---- Numbers and texts

-- a whole number below the bound
unfoldable pub number_below : ℕ → JsonPath → Data → Read ℕ
number_below bound path d = do
  n ← due (BadShape path) (as_number d)
  whole ← due (BadNumber path) (as_u64 n)
  if nat_lt whole bound then Ok whole else Err (BadNumber path)

abbrev pub number_form : JsonPath → Data → Read ℕ
number_form = number_below (2 ^ 32)

abbrev pub long_form : JsonPath → Data → Read ℕ
long_form = number_below (2 ^ 64)

-- the value is this text
abbrev pub is_text : List ℕ → Data → Bool
is_text text d = unwrap_or (option_map (λ s. bytes_eq s text) (as_str d)) false

-- ---- Arrays

-- how many elements an array has, and 0 for another value
abbrev pub element_count : Data → ℕ
element_count d = unwrap_or (option_map items_len (as_array d)) 0

-- the elements from place i on, each in the form
abbrev pub items_from : {A : Type 0} → (JsonPath → Data → Read A) → JsonPath → ℕ → Items → Read (List A)
items_from form path i no_items = Ok []
items_from form path i (item d ds) = form (element_of path i) d >>= λ x. items_from form path (i + 1) ds >>= λ xs. Ok (x ∷ xs)

-- an array of any length
unfoldable pub list_form : {A : Type 0} → (JsonPath → Data → Read A) → JsonPath → Data → Read (List A)
list_form form path d = do
  items ← due (BadShape path) (as_array d)
  items_from form path 0 items

-- the element at a place
unfoldable pub element : {A : Type 0} → (JsonPath → Data → Read A) → JsonPath → ℕ → Data → Read A
element form path i d = do
  found ← due (BadShape path) (at i d)
  form (element_of path i) found

-- three elements from a place on
abbrev pub three_elements : {A B C : Type 0} → (JsonPath → Data → Read A) → (JsonPath → Data → Read B) → (JsonPath → Data → Read C) → JsonPath → ℕ → Data → Read (A × B × C)
three_elements a b c path i d = all_three (element a path i d) (element b path (i + 1) d) (element c path (i + 2) d)

-- ---- Objects

abbrev pub has_key : Key → Data → Bool
has_key key d = is_some (get (key_name key) d)

-- the key itself
abbrev pub key_of : FormKey → Key
key_of (Due key) = key
key_of (Optional key) = key

-- a key of a form as it stands in a text
abbrev pub name_of : FormKey → List ℕ
name_of known = key_name (key_of known)

-- a name is that of one of these keys
abbrev pub is_known : List FormKey → List ℕ → Bool
is_known keys name = list_any (λ known. bytes_eq name (name_of known)) keys

-- every member's key is one of these
abbrev pub all_known : List FormKey → Members → Bool
all_known keys no_members = true
all_known keys (member name d ms) = is_known keys name && all_known keys ms

-- a key is due and not there
abbrev pub is_missing : FormKey → Data → Bool
is_missing (Due key) d = not (has_key key d)
is_missing (Optional key) d = false

-- the first of these keys that is missing is a fault
abbrev pub all_there : JsonPath → List FormKey → Data → Read ⊤
all_there path [] d = Ok tt
all_there path (known ∷ keys) d = if is_missing known d then Err (BadShape (member_of path (key_of known))) else all_there path keys d

-- an object with all of these keys that are due, some of the others, and no more
unfoldable pub has_keys : JsonPath → List FormKey → Data → Read ⊤
has_keys path keys d = do
  members ← due (BadShape path) (as_object d)
  _ ← passes (BadShape path) (all_known keys members)
  all_there path keys d

-- a member, in a form
unfoldable pub member_form : {A : Type 0} → (JsonPath → Data → Read A) → JsonPath → Key → Data → Read A
member_form form path key d = do
  found ← due (BadShape (member_of path key)) (get (key_name key) d)
  form (member_of path key) found

-- the one member of an object, in a form
unfoldable pub only_form : {A : Type 0} → (JsonPath → Data → Read A) → JsonPath → Key → Data → Read A
only_form form path key d = do
  _ ← has_keys path (Due key ∷ []) d
  member_form form path key d

-- two members, and three
abbrev pub two_members : {A B : Type 0} → (JsonPath → Data → Read A) → (JsonPath → Data → Read B) → JsonPath → Key → Key → Data → Read (A × B)
two_members a b path first second d = both (member_form a path first d) (member_form b path second d)

abbrev pub three_members : {A B C : Type 0} → (JsonPath → Data → Read A) → (JsonPath → Data → Read B) → (JsonPath → Data → Read C) → JsonPath → Key → Key → Key → Data
    → Read (A × B × C)
three_members a b c path first second third d = all_three (member_form a path first d) (member_form b path second d) (member_form c path third d)

-- a member that may be missing
unfoldable pub member_or : {A : Type 0} → A → (JsonPath → Data → Read A) → JsonPath → Key → Data → Read A
member_or default form path key d = if has_key key d then member_form form path key d else Ok default

-- ---- Bytes

-- the value that bytes spell
abbrev pub json_of : List ℕ → Option Data
json_of bytes = if is_utf8 bytes then read bytes else None

-- the value of at most so many bytes
unfoldable pub value_of : ℕ → List ℕ → Read Data
value_of limit bytes = do
  _ ← passes TooLong (not (nat_lt limit (length bytes)))
  due NotJson (json_of bytes)
