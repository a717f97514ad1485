-- Values by ids, with places that are empty.
use Rattle.std.specs.Prelude.{◌≡◌, ℕ, ◌+◌, ◌==◌, cond, not, List, [], ◌∷◌, filter, find, flat_map, map, nat_lt, None, slice_get, Some, true, Option, refl}
use Rattle.std.specs.Coded.{Coded, code_by, coded×, coded_list, coded_option, coded_ℕ}
use Rattle.std.specs.Option.{option_map, option_map_or}
use Rattle.std.specs.List.{list_all, position_or_len}
use Rattle.std.specs.List.Sorted.{IsStrictlyIncreasing}
use Rattle.std.specs.Map.{values_of}

-- for each place an id, and the value that it has unless the place is empty; and how many more fit without memory
pub record Places (V : Type 0) : Type 0 where
  pub slots : List (ℕ × Option V)
  pub room : ℕ

abbrev pub places_code : {V : Type 0} → Coded V → Coded (Places V)
places_code {V} v = code_by (List (ℕ × Option V) × ℕ) (coded× (coded_list (coded× coded_ℕ (coded_option v))) coded_ℕ) (λ p. (p.slots, p.room))
    (λ p. record { slots = p.0; room = p.1 }) (λ _. refl)

module _ {V : Type 0} where
  -- what is at a place
  abbrev pub entry_at : ℕ × Option V → List (ℕ × V)
  entry_at slot = option_map_or (λ v. (slot.0, v) ∷ []) slot.1 []

  -- the values that are there, each with its id
  abbrev pub present : List (ℕ × Option V) → List (ℕ × V)
  present slots = flat_map entry_at slots

  -- the ids of all places
  abbrev pub ids_of : List (ℕ × Option V) → List ℕ
  ids_of slots = map (λ slot. slot.0) slots

  -- the ids of all places are below a number
  abbrev pub AreBelow : ℕ → List (ℕ × Option V) → Type 0
  AreBelow limit slots = list_all (λ x. nat_lt x limit) (ids_of slots) ≡ true

  -- the ids are a number and those that follow it
  abbrev pub AreFrom : ℕ → List (ℕ × Option V) → Type 0
  AreFrom n [] = Unit {0}
  AreFrom n (slot ∷ slots) = (slot.0 ≡ n) × AreFrom (n + 1) slots

  -- each id is its own place
  abbrev pub AreOwnPlaces : List (ℕ × Option V) → Type 0
  AreOwnPlaces slots = AreFrom 0 slots

  -- a place has a value, with this id
  pub record IsLiveAt (id place : ℕ) (slots : List (ℕ × Option V)) : Type 0 where
    pub value : V
    pub at : slice_get slots place ≡ Some (id, Some value)

  -- a place is there, and empty
  abbrev pub IsEmptyAt : ℕ → List (ℕ × Option V) → Type 0
  IsEmptyAt place slots = slice_get (values_of slots) place ≡ Some None

  -- the entries of a table
  abbrev pub entries : Places V → List (ℕ × V)
  entries table = present table.slots

  -- the ids of a table's values, and the values, in order
  abbrev pub ids_in : Places V → List ℕ
  ids_in table = map (λ e. e.0) (entries table)

  abbrev pub values_in : Places V → List V
  values_in table = map (λ e. e.1) (entries table)

  -- the value with an id
  abbrev pub value_of : ℕ → List (ℕ × V) → Option V
  value_of id es = option_map (λ e. e.1) (find (λ e. e.0 == id) es)

  -- the entries without that of an id
  abbrev pub without_id : ℕ → List (ℕ × V) → List (ℕ × V)
  without_id id es = filter (λ e. not (e.0 == id)) es

  -- the entries with another value for an id
  abbrev pub with_value : ℕ → V → List (ℕ × V) → List (ℕ × V)
  with_value id v es = map (λ e. cond (e.0 == id) (id, v) e) es

  -- the ids of the places stay, and so does the room
  abbrev pub KeepsPlaces : Places V → Places V → Type 0
  KeepsPlaces was now = (ids_of now.slots ≡ ids_of was.slots) × (now.room ≡ was.room)

  -- a table whose value for an id is another, and all else as it was
  pub record IsChangedAt (id : ℕ) (v : V) (was now : Places V) : Type 0 where
    pub entries_are : entries now ≡ with_value id v (entries was)
    pub places : KeepsPlaces was now

  -- the ids of the entries rise
  abbrev pub EntriesRise : List (ℕ × V) → Type 0
  EntriesRise es = IsStrictlyIncreasing (map (λ e. e.0) es)

-- the place of an id among ids
abbrev pub place_in : List ℕ → ℕ → ℕ
place_in ids id = position_or_len (λ i. i == id) ids
