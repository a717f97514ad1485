-- What is found in an object that has some of a list of keys.
use Rattle.std.proofs.Common.{◌≡◌, ℕ, Bool, true, ◌&&◌, List, [], ◌∷◌, Option, Some, None, Ordering, Less, Equal, Greater, Ok, refl, ap, sym, ◌∙◌}
use Rattle.std.proofs.lemmas.Bool.{and_parts}
use Rattle.std.specs.Ordering.{nat_cmp, match_ordering}
use Rattle.std.specs.Cmp.Lexicographic.{slice_cmp}
use Rattle.serde_json.specs.Data.{Data, object}
use Rattle.serde_json.specs.Find.{get}
use Rattle.topo_script.specs.declared.keys.FormKey.{FormKey}
use Rattle.topo_script.specs.declared.keys.FormKey.TheVariants.{Due}
use Rattle.topo_script.specs.declared.path.Key.{Key}
use Rattle.topo_script.specs.declared.path.JsonPath.{JsonPath}
use Rattle.topo_script.specs.Paths.{key_name}
use Rattle.topo_script.specs.Reads.{all_known, all_there, and_then, has_keys, is_known, name_of}
use Rattle.topo_script.specs.Slots.{members_of}

abbrev pub or_behind : Option Data → Option Data → Option Data
or_behind None more = more
or_behind (Some d) more = Some d

pub none_behind : (o : Option Data) → or_behind o None ≡ o
none_behind None = refl
none_behind (Some d) = refl

-- the value of the key with this name
abbrev pub value_at : List ℕ → List FormKey → List (Option Data) → Option Data
value_at name (k ∷ ks) (o ∷ os) =
    match_ordering (slice_cmp nat_cmp name (name_of k)) (value_at name ks os) (or_behind o (value_at name ks os)) (value_at name ks os)
value_at name _ _ = None

same_each : {A : Type 0} (o : Ordering) (a : A) → match_ordering o a a a ≡ a
same_each Less a = refl
same_each Equal a = refl
same_each Greater a = refl

pub found_at : (name : List ℕ) (ks : List FormKey) (os : List (Option Data)) → get name (object (members_of ks os)) ≡ value_at name ks os
found_at name [] os = refl
found_at name (k ∷ ks) [] = refl
found_at name (k ∷ ks) (None ∷ os) = found_at name ks os ∙ sym (same_each (slice_cmp nat_cmp name (name_of k)) (value_at name ks os))
found_at name (k ∷ ks) (Some d ∷ os) = ap (λ more. match_ordering (slice_cmp nat_cmp name (name_of k)) more (Some d) more) (found_at name ks os)

-- each of the last keys is one of the others
abbrev pub are_known : List FormKey → List FormKey → Bool
are_known keys [] = true
are_known keys (k ∷ ks) = is_known keys (name_of k) && are_known keys ks

known_members : (keys ks : List FormKey) (os : List (Option Data)) → are_known keys ks ≡ true → all_known keys (members_of ks os) ≡ true
known_members keys [] os known = refl
known_members keys (k ∷ ks) [] known = refl
known_members keys (k ∷ ks) (None ∷ os) known = known_members keys ks os (and_parts (is_known keys (name_of k)) (are_known keys ks) known).1
known_members keys (k ∷ ks) (Some d ∷ os) known =
    let parts = and_parts (is_known keys (name_of k)) (are_known keys ks) known in
    rw (parts.0, known_members keys ks os parts.1)

pub one_there : (path : JsonPath) (k : Key) (ks : List FormKey) (d value : Data) → get (key_name k) d ≡ Some value → all_there path ks d ≡ Ok tt
    → all_there path (Due k ∷ ks) d ≡ Ok tt
one_there path k ks d value found more = rw found more

pub keys_there : (path : JsonPath) (keys : List FormKey) (os : List (Option Data)) → are_known keys keys ≡ true
    → all_there path keys (object (members_of keys os)) ≡ Ok tt → has_keys path keys (object (members_of keys os)) ≡ Ok tt
unfolding has_keys and_then
keys_there path keys os known there = rw (known_members keys keys os known) there
