-- Members that are put to others in any order are those of their keys.
use Rattle.std.proofs.Common.{◌≡◌, ℕ, ◌+◌, ◌-◌, ◌<◌, ◌≤◌, List, [], ◌∷◌, length, Option, Some, None, is_some}
use Rattle.std.proofs.Common.{true, false, Ordering, Less, Greater, Ok, inl, inr, refl, sym, ap, ◌∙◌, subst, arith}
use Rattle.std.proofs.lemmas.Bool.{and_parts}
use Rattle.std.specs.Ordering.{nat_cmp, match_ordering}
use Rattle.std.specs.Cmp.Lexicographic.{slice_cmp}
use Rattle.json.specs.Token.{Token, begin_object, key}
use Rattle.json.specs.Json as json
use Rattle.json.specs.Json.{parse_map, read_key, value}
use Rattle.json.proofs.Grammar.{left, value-begin_object, skip_value-shorter, read_key-shorter, members_end, members_more}
use Rattle.serde_json.specs.Data.{Data, object, Members, no_members, member, put}
use Rattle.topo_script.specs.declared.keys.FormKey.{FormKey}
use Rattle.topo_script.specs.declared.keys.FormKey.TheVariants.{Due as DueKey}
use Rattle.topo_script.specs.declared.path.Key.{Key}
use Rattle.topo_script.specs.declared.path.JsonPath.{JsonPath}
use Rattle.topo_script.specs.Reads.{Read, name_of}
use Rattle.topo_script.specs.declared.slots.Slot.{Slot}
use Rattle.topo_script.specs.Slots.{members_of, is_before, are_behind, are_sorted, Fills, FillsOne, HoldsSlot, IsHeld, SpellsValue, SpellsOnly, MembersTo}
use Rattle.topo_script.specs.Tokens.{Spells}

-- ---- Keys in order

-- a member with the first key stands before one with the second, whichever comes first
record IsBefore (k l : FormKey) : Type 0 where
  pub front : (d e : Data) (ms : Members) → put (name_of k) d (member (name_of l) e ms) ≡ member (name_of k) d (member (name_of l) e ms)
  pub behind : (d e : Data) (ms : Members) → put (name_of l) d (member (name_of k) e ms) ≡ member (name_of k) e (put (name_of l) d ms)

at_front : {A : Type 0} (o : Ordering) (a b c : A) → match_ordering o true false false ≡ true → match_ordering o a b c ≡ a
at_front Less a b c h = refl
at_front _ a b c h = absurd cc

at_back : {A : Type 0} (o : Ordering) (a b c : A) → match_ordering o false false true ≡ true → match_ordering o a b c ≡ c
at_back Greater a b c h = refl
at_back _ a b c h = absurd cc

before : (k l : FormKey) → is_before k l ≡ true → IsBefore k l
before k l h =
    let both = and_parts _ _ h in record {
      front = λ d e ms. at_front (slice_cmp nat_cmp (name_of k) (name_of l)) _ _ _ both.0;
      behind = λ d e ms. at_back (slice_cmp nat_cmp (name_of l) (name_of k)) _ _ _ both.1;
    }

-- a key before the others goes to the front
pub put_front : (k : FormKey) (d : Data) (ks : List FormKey) (os : List (Option Data)) → are_behind k ks ≡ true
    → put (name_of k) d (members_of ks os) ≡ member (name_of k) d (members_of ks os)
put_front k d [] os behind = refl
put_front k d (l ∷ ls) [] behind = refl
put_front k d (l ∷ ls) (None ∷ os) behind = put_front k d ls os (and_parts (is_before k l) (are_behind k ls) behind).1
put_front k d (l ∷ ls) (Some e ∷ os) behind = (before k l (and_parts (is_before k l) (are_behind k ls) behind).0).front d e (members_of ls os)

-- the name of one of these keys goes behind a key that they come behind
name_behind : (k : FormKey) (name : List ℕ) (d : Data) (ks : List FormKey) (os ps : List (Option Data)) → Fills name d ks os ps → are_behind k ks ≡ true
    → (e : Data) (ms : Members) → put name d (member (name_of k) e ms) ≡ member (name_of k) e (put name d ms)
name_behind k name d (l ∷ ls) (o ∷ os) (p ∷ ps) (inl here) behind e ms =
    subst (λ n. put n d (member (name_of k) e ms) ≡ member (name_of k) e (put n d ms)) (sym here.0)
    ((before k l (and_parts (is_before k l) (are_behind k ls) behind).0).behind d e ms)
name_behind k name d (l ∷ ls) (o ∷ os) (p ∷ ps) (inr there) behind e ms =
    name_behind k name d ls os ps there.1 (and_parts (is_before k l) (are_behind k ls) behind).1 e ms
name_behind k name d _ _ _ fills behind e ms = absurd fills

pub fills_put : (name : List ℕ) (d : Data) (ks : List FormKey) (os ps : List (Option Data)) → are_sorted ks ≡ true → Fills name d ks os ps
    → put name d (members_of ks os) ≡ members_of ks ps
fills_put name d (k ∷ ks) (None ∷ os) (p ∷ ps) sorted (inl here) = rw (here.0, here.2, sym here.3)
    (put_front k d ks os (and_parts (are_behind k ks) (are_sorted ks) sorted).0)
fills_put name d (k ∷ ks) (Some e ∷ os) (p ∷ ps) sorted (inl here) = absurd cc
fills_put name d (k ∷ ks) (None ∷ os) (p ∷ ps) sorted (inr there) = rw (sym there.0)
    (fills_put name d ks os ps (and_parts (are_behind k ks) (are_sorted ks) sorted).1 there.1)
fills_put name d (k ∷ ks) (Some e ∷ os) (p ∷ ps) sorted (inr there) =
    let both = and_parts (are_behind k ks) (are_sorted ks) sorted in
    name_behind k name d ks os ps there.1 both.0 e (members_of ks os)
    ∙ ap (member (name_of k) e) (fills_put name d ks os ps both.1 there.1) ∙ ap (λ o. members_of (k ∷ ks) (o ∷ ps)) there.0
fills_put name d _ _ _ sorted fills = absurd fills

-- ---- Objects

pub value_shorter : {nesting : ℕ} {ts rest : List Token} {d : Data} → SpellsValue nesting ts d rest → length rest < length ts
value_shorter {nesting} {ts} {rest} v = skip_value-shorter nesting ts rest (ap left (v.begins nesting (omega arith)))

pub members_done : {nesting : ℕ} {ts rest : List Token} {old : Members} → read_key ts ≡ Some (None, rest) → MembersTo nesting ts old old rest
members_done {ts} {rest} e = record {
  written = json.no_members;
  begins = λ depth n d le. members_end (value depth) n ts rest le e;
  means = refl;
}

-- one member more
pub one_member : {nesting : ℕ} {ts mid rest : List Token} {name : List ℕ} {d : Data} {old ms : Members} (s : List Token)
    → ts ≡ key name ∷ s → SpellsValue nesting s d mid → MembersTo nesting mid (put name d old) ms rest → MembersTo nesting ts old ms rest
one_member {nesting} {ts} {mid} {name} s is v more =
    let named : read_key ts ≡ Some (Some name, s) = ap read_key is in
    let less = read_key-shorter ts (Some name) s named in
    let lesser = value_shorter v in record {
      written = json.member name v.written more.written;
      begins = λ depth n d le. members_more (value depth) n name ts s mid v.written (omega arith) named (v.begins depth d)
          ∙ ap (parse_map (json.member name v.written)) (more.begins depth (n - 1) d (omega arith));
      means = rw v.means more.means;
    }

pub object_spelled : {nesting : ℕ} {ts mid rest : List Token} (ms : Members) → ts ≡ begin_object ∷ mid → MembersTo nesting mid no_members ms rest
    → SpellsValue (nesting + 1) ts (object ms) rest
object_spelled {nesting} {mid} ms e more = record {
  written = json.object more.written;
  begins = λ depth le. ap (value depth) e ∙ value-begin_object depth mid (omega arith)
      ∙ ap (parse_map json.object) (more.begins (depth - 1) (length mid) (omega arith) (omega arith));
  means = rw more.means;
}

-- a value that a form reads
pub value_tokens : {A : Type 0} {inner nesting : ℕ} {form : JsonPath → Data → Read A} {ts rest : List Token} {a : A} (d : Data) → SpellsValue inner ts d rest
    → inner ≤ nesting → ((path : JsonPath) → form path d ≡ Ok a) → Spells nesting form ts a rest
value_tokens d v within read = record {
  written = v.written;
  spelled = d;
  begins = λ depth le. v.begins depth (omega arith);
  means = v.means;
  reads = read;
}

-- what a form reads is a value
pub tokens_value : {A : Type 0} {inner nesting : ℕ} {form : JsonPath → Data → Read A} {ts rest : List Token} {a : A} (s : Spells inner form ts a rest)
    → inner ≤ nesting → SpellsValue nesting ts s.spelled rest
tokens_value s within = record { written = s.written; begins = λ depth le. s.begins depth (omega arith); means = s.means }

-- a value that nests no deeper than this nests no deeper than more
pub value_deeper : {inner nesting : ℕ} {ts rest : List Token} {d : Data} → SpellsValue inner ts d rest → inner ≤ nesting → SpellsValue nesting ts d rest
value_deeper v within = record { written = v.written; begins = λ depth le. v.begins depth (omega arith); means = v.means }

-- ---- Slots

pub none_there : (keys : List FormKey) → members_of keys [] ≡ no_members
none_there [] = refl
none_there (k ∷ ks) = refl

pub none_more : (values : List (Option Data)) → ((keys : List FormKey) → members_of keys values ≡ no_members) → (keys : List FormKey)
    → members_of keys (None ∷ values) ≡ no_members
none_more values none [] = refl
none_more values none (k ∷ ks) = none ks

module _ {A R : Type 0} (form : JsonPath → Data → Read A) (holds : R → List (Option Data) → Type 0) where
  -- a value goes into a slot that was empty
  pub filled_here : {inner nesting : ℕ} {keys more : List FormKey} {k : FormKey} {ts mid after : List Token} {value : A} (rest : R) (found : Option A)
      → keys ≡ k ∷ more → ts ≡ key (name_of k) ∷ mid → is_some found ≡ false → Spells inner form mid value after → inner ≤ nesting → (os : List (Option Data))
      → HoldsSlot form holds found rest os → FillsOne nesting keys ts after os (λ ps. HoldsSlot form holds (Some value) rest ps)
  unfolding HoldsSlot
  filled_here rest (Some a) are named empty s within os held = absurd cc
  filled_here rest None are named empty s within [] held = absurd held
  filled_here rest None are named empty s within (Some d ∷ os) held = absurd held.0
  filled_here {keys} {more} {k} {mid = mid} rest None are named empty s within (None ∷ os) held = record {
    name = name_of k;
    behind = mid;
    named = named;
    spelled = s.spelled;
    values = Some s.spelled ∷ os;
    value = tokens_value s within;
    fills = subst (λ ks. Fills (name_of k) s.spelled ks (None ∷ os) (Some s.spelled ∷ os)) (sym are) (inl (refl, refl, refl, refl));
    held = (s.reads, held.1);
  }

  -- a value goes into one of the slots behind
  pub filled_behind : {inner nesting : ℕ} {keys more : List FormKey} {k : FormKey} {ts same after : List Token} {old : R} (new : R) (found : Option A)
      → keys ≡ k ∷ more → same ≡ ts → ((os : List (Option Data)) → holds old os → FillsOne inner more same after os (holds new)) → inner ≤ nesting
      → (os : List (Option Data)) → HoldsSlot form holds found old os → FillsOne nesting keys ts after os (λ ps. HoldsSlot form holds found new ps)
  unfolding HoldsSlot
  filled_behind new found are kept read within [] held = absurd held
  filled_behind {keys} {more} {k} new found are kept read within (o ∷ os) held =
      let f = read os held.1 in record {
        name = f.name;
        behind = f.behind;
        named = sym kept ∙ f.named;
        spelled = f.spelled;
        values = o ∷ f.values;
        value = value_deeper f.value within;
        fills = subst (λ ks. Fills f.name f.spelled ks (o ∷ os) (o ∷ f.values)) (sym are) (inr (refl, f.fills));
        held = (held.0, f.held);
      }

-- the first of the values is there, and the form reads it as `a`; the others follow
pub record IsDue {A : Type 0} (form : JsonPath → Data → Read A) (a : A) (os ps : List (Option Data)) : Type 0 where
  pub spelled : Data
  pub is : os ≡ Some spelled ∷ ps
  pub reads : (path : JsonPath) → form path spelled ≡ Ok a

-- the same, with what the slots behind hold
pub record Due {A R : Type 0} (form : JsonPath → Data → Read A) (holds : R → List (Option Data) → Type 0) (a : A) (r : R) (os : List (Option Data)) : Type 0 where
  pub values : List (Option Data)
  pub first : IsDue form a os values
  pub held : holds r values

module _ {A R : Type 0} (form : JsonPath → Data → Read A) (holds : R → List (Option Data) → Type 0) where
  due_found : {a : A} {r rest : R} (found : Option A) → found ≡ Some a → rest ≡ r → (os : List (Option Data)) → HoldsSlot form holds found rest os
      → Due form holds a r os
  unfolding HoldsSlot
  due_found None is same os held = absurd cc
  due_found (Some b) is same [] held = absurd held
  due_found (Some b) is same (None ∷ os) held = absurd held.0
  due_found {a} {r} (Some b) is same (Some d ∷ os) held =
      let here : b ≡ a = cc in record {
        values = os;
        first = record { spelled = d; is = refl; reads = λ path. held.0 path ∙ ap Ok here };
        held = subst (λ q. holds q os) same held.1;
      }

  -- a slot with a value, and those behind it
  pub due_held : {a : A} {r : R} {slot : Slot A R} {os : List (Option Data)} → (slot.found ≡ Some a) × (slot.rest ≡ r)
      → HoldsSlot form holds slot.found slot.rest os → Due form holds a r os
  due_held {slot} {os} e held = due_found slot.found e.0 e.1 os held

-- the first three of the values are there, with what the slots behind hold
pub record ThreeDue {A B C R : Type 0} (f : JsonPath → Data → Read A) (g : JsonPath → Data → Read B) (h : JsonPath → Data → Read C)
    (holds : R → List (Option Data) → Type 0) (a : A) (b : B) (c : C) (r : R) (os : List (Option Data)) : Type 0 where
  pub after_first : List (Option Data)
  pub after_second : List (Option Data)
  pub values : List (Option Data)
  pub first : IsDue f a os after_first
  pub second : IsDue g b after_first after_second
  pub third : IsDue h c after_second values
  pub held : holds r values

-- what a slot holds, and what those behind it hold
abbrev pub held_by : {A R : Type 0} → (JsonPath → Data → Read A) → (R → List (Option Data) → Type 0) → Slot A R → List (Option Data) → Type 0
held_by form holds slot os = HoldsSlot form holds slot.found slot.rest os

module _ {A B C R : Type 0} (f : JsonPath → Data → Read A) (g : JsonPath → Data → Read B) (h : JsonPath → Data → Read C) (holds : R → List (Option Data) → Type 0) where
  pub three_held : {a : A} {b : B} {c : C} {r : R} {slot : Slot A (Slot B (Slot C R))} {os : List (Option Data)}
      → (slot.found ≡ Some a) × (slot.rest.found ≡ Some b) × (slot.rest.rest.found ≡ Some c) × (slot.rest.rest.rest ≡ r)
      → held_by f (held_by g (held_by h holds)) slot os → ThreeDue f g h holds a b c r os
  three_held {slot} {os} e held =
      let one = due_found f (held_by g (held_by h holds)) slot.found e.0 refl os held in
      let two = due_found g (held_by h holds) slot.rest.found e.1 refl one.values one.held in
      let three = due_found h holds slot.rest.rest.found e.2 e.3 two.values two.held in record {
        after_first = one.values;
        after_second = two.values;
        values = three.values;
        first = one.first;
        second = two.first;
        third = three.first;
        held = three.held;
      }

-- the last slot
pub due_last : {A R : Type 0} {form : JsonPath → Data → Read A} {a : A} {r : R} {os : List (Option Data)} → Due form (λ q ps. ps ≡ []) a r os → IsDue form a os []
due_last {form} {a} {os} due = subst (IsDue form a os) due.held due.first

-- the third of three slots, where none is behind
pub last : {A B C R : Type 0} {f : JsonPath → Data → Read A} {g : JsonPath → Data → Read B} {h : JsonPath → Data → Read C} {a : A} {b : B} {c : C} {r : R}
    {os : List (Option Data)} (three : ThreeDue f g h (λ q ps. ps ≡ []) a b c r os) → IsDue h c three.after_second []
last {h} {c} three = subst (IsDue h c three.after_second) three.held three.third

-- one value more at the front
pub then : {A : Type 0} {form : JsonPath → Data → Read A} {a : A} {os ps qs : List (Option Data)} (due : IsDue form a os ps) → ps ≡ qs → os ≡ Some due.spelled ∷ qs
then due e = due.is ∙ ap (λ ps. Some due.spelled ∷ ps) e

-- an object with these values, which a form reads
pub object_tokens : {A : Type 0} {n nesting : ℕ} {form : JsonPath → Data → Read A} {ts rest : List Token} {a : A} {os : List (Option Data)}
    (keys : List FormKey) (values : List (Option Data)) → SpellsValue n ts (object (members_of keys os)) rest → n ≤ nesting → os ≡ values
    → ((path : JsonPath) → form path (object (members_of keys values)) ≡ Ok a) → Spells nesting form ts a rest
object_tokens {n} {ts} {rest} keys values v within are read =
    value_tokens (object (members_of keys values)) (subst (λ ps. SpellsValue n ts (object (members_of keys ps)) rest) are v) within read

-- an object with one member
pub only_spelled : {A : Type 0} {inner : ℕ} {form : JsonPath → Data → Read A} {ts rest : List Token} {a : A} {os : List (Option Data)} (nesting : ℕ) (k : Key)
    → SpellsValue inner ts (object (members_of (DueKey k ∷ []) os)) rest → inner ≤ nesting + 1 → IsDue form a os [] → SpellsOnly nesting form k ts a rest
only_spelled {inner = inner} {ts = ts} {rest} nesting k v within due =
    (due.spelled, value_deeper (subst (λ ps. SpellsValue inner ts (object (members_of (DueKey k ∷ []) ps)) rest) due.is v) within, due.reads)

-- ---- Slots that may be empty

-- the first of the values is what the form reads as `o`, if there is one; the others follow
pub record IsMaybe {A : Type 0} (form : JsonPath → Data → Read A) (o : Option A) (os ps : List (Option Data)) : Type 0 where
  pub spelled : Option Data
  pub is : os ≡ spelled ∷ ps
  pub read : IsHeld form o spelled

pub record Maybe {A R : Type 0} (form : JsonPath → Data → Read A) (holds : R → List (Option Data) → Type 0)
    (o : Option A) (r : R) (os : List (Option Data)) : Type 0 where
  pub values : List (Option Data)
  pub first : IsMaybe form o os values
  pub held : holds r values

module _ {A R : Type 0} (form : JsonPath → Data → Read A) (holds : R → List (Option Data) → Type 0) where
  maybe_found : {o : Option A} {r rest : R} (found : Option A) → found ≡ o → rest ≡ r → (os : List (Option Data)) → HoldsSlot form holds found rest os
      → Maybe form holds o r os
  unfolding HoldsSlot
  maybe_found found is same [] held = absurd held
  maybe_found found is same (d ∷ os) held = record {
    values = os;
    first = record { spelled = d; is = refl; read = subst (λ p. IsHeld form p d) is held.0 };
    held = subst (λ q. holds q os) same held.1;
  }

  -- a slot, and those behind it
  pub maybe_held : {o : Option A} {r : R} {slot : Slot A R} {os : List (Option Data)} → (slot.found ≡ o) × (slot.rest ≡ r)
      → HoldsSlot form holds slot.found slot.rest os → Maybe form holds o r os
  maybe_held {slot} {os} e held = maybe_found slot.found e.0 e.1 os held

-- one value more at the front, if there is one
pub maybe : {A : Type 0} {form : JsonPath → Data → Read A} {o : Option A} {os ps qs : List (Option Data)} (m : IsMaybe form o os ps) → ps ≡ qs → os ≡ m.spelled ∷ qs
maybe m e = m.is ∙ ap (λ ps. m.spelled ∷ ps) e
