-- The compact text of a value is read as that value.
use Rattle.std.proofs.Common.{◌≡◌, ℕ, suc, ◌^◌, ◌<◌, ◌≤◌, List, [], ◌∷◌, map, Option, Some, option_map, option_and_then, refl, sym, ap, ◌∙◌, arith, append-nil}
use Rattle.std.specs.List.{AllByRecursion}
use Rattle.json.specs.Token.{Token}
use Rattle.json.specs.Json as json
use Rattle.json.specs.Tree as tree
use Rattle.json.specs.Tree.{HasNumbers, ItemsHaveNumbers, MembersHaveNumbers}
use Rattle.json.proofs.Printed.Decimals.{IsNumber-decimal}
use Rattle.json.proofs.Printed.Tokens.{tokens-print}
use Rattle.json.proofs.Printed.Trees.{ArePrintable-json_tokens, value-json_tokens}
use Rattle.serde_json.specs.Data.{Data, null, number, string, array, object, Items, no_items, item, Members, no_members, member, put}
use Rattle.serde_json.specs.Read.{read, max_depth, of_json, of_items, of_members}
use Rattle.serde_json.specs.View.{items_of}
use Rattle.serde_json.specs.Written.{outline, items_outline, members_outline, compact_text}
use Rattle.serde_json.proofs.Numbers.{number_of-decimal}
use Rattle.serde_json.proofs.Texts.{print-outline}
use Rattle.topo_script.specs.Pictures.{number_data, list_data}

-- the value is what its outline is read as, and nests at most n deep
pub record IsPlain (n : ℕ) (d : Data) : Type 0 where
  pub same : of_json (outline d) ≡ Some d
  pub numbers : HasNumbers (outline d)
  pub shallow : tree.depth (outline d) ≤ n

pub plain_number : (n k : ℕ) → k < 2 ^ 64 → IsPlain n (number_data k)
plain_number n k h = record { same = ap (option_map number) (number_of-decimal k h); numbers = IsNumber-decimal k h; shallow = omega arith }

pub plain_string : (n : ℕ) (s : List ℕ) → IsPlain n (string s)
plain_string n s = record { same = refl; numbers = tt; shallow = omega arith }

pub plain_null : (n : ℕ) → IsPlain n null
plain_null n = record { same = refl; numbers = tt; shallow = omega arith }

-- ---- Arrays

pub record ArePlainItems (n : ℕ) (ds : Items) : Type 0 where
  pub same : of_items (items_outline ds) ≡ Some ds
  pub numbers : ItemsHaveNumbers (items_outline ds)
  pub shallow : tree.items_depth (items_outline ds) ≤ n

pub no_plain_items : (n : ℕ) → ArePlainItems n no_items
no_plain_items n = record { same = refl; numbers = tt; shallow = omega arith }

pub one_plain_item : (n : ℕ) (d : Data) (ds : Items) → IsPlain n d → ArePlainItems n ds → ArePlainItems n (item d ds)
one_plain_item n d ds h hs = record {
  same = rw (h.same, hs.same);
  numbers = (h.numbers, hs.numbers);
  shallow = omega (arith, h.shallow, hs.shallow);
}

pub plain_array : (n : ℕ) (ds : Items) → ArePlainItems n ds → IsPlain (suc n) (array ds)
plain_array n ds hs = record { same = ap (option_map array) hs.same; numbers = hs.numbers; shallow = omega (arith, hs.shallow) }

plain_items : {X : Type 0} (n : ℕ) (f : X → Data) (xs : List X) → AllByRecursion (λ x. IsPlain n (f x)) xs → ArePlainItems n (items_of (map f xs))
plain_items n f [] h = no_plain_items n
plain_items n f (x ∷ xs) h = one_plain_item n (f x) (items_of (map f xs)) h.0 (plain_items n f xs h.1)

pub plain_list : {X : Type 0} (n : ℕ) (f : X → Data) (xs : List X) → AllByRecursion (λ x. IsPlain n (f x)) xs → IsPlain (suc n) (list_data f xs)
plain_list n f xs h = plain_array n (items_of (map f xs)) (plain_items n f xs h)

-- ---- Objects

-- the members, put into others one after another
abbrev pub put_all : Members → Members → Members
put_all no_members found = found
put_all (member k d ms) found = put_all ms (put k d found)

pub record ArePlainMembers (n : ℕ) (ms : Members) : Type 0 where
  pub same : (found : Members) → of_members (members_outline ms) found ≡ Some (put_all ms found)
  pub numbers : MembersHaveNumbers (members_outline ms)
  pub shallow : tree.members_depth (members_outline ms) ≤ n

pub no_plain_members : (n : ℕ) → ArePlainMembers n no_members
no_plain_members n = record { same = λ found. refl; numbers = tt; shallow = omega arith }

pub one_plain_member : (n : ℕ) (k : List ℕ) (d : Data) (ms : Members) → IsPlain n d → ArePlainMembers n ms → ArePlainMembers n (member k d ms)
one_plain_member n k d ms h hs = record {
  same = λ found. ap (option_and_then (λ e. of_members (members_outline ms) (put k e found))) h.same ∙ hs.same (put k d found);
  numbers = (h.numbers, hs.numbers);
  shallow = omega (arith, h.shallow, hs.shallow);
}

pub plain_object : (n : ℕ) (ms : Members) → put_all ms no_members ≡ ms → ArePlainMembers n ms → IsPlain (suc n) (object ms)
plain_object n ms sorted hs =
    record { same = ap (option_map object) (hs.same no_members ∙ ap (λ m. Some m) sorted); numbers = hs.numbers; shallow = omega (arith, hs.shallow) }

-- ---- The whole

abbrev whole : Option (json.Json × List Token) → Option Data
whole o = option_and_then of_json (option_and_then (λ p. json.if_last p.0 p.1) o)

pub read_back : (n : ℕ) (d : Data) → IsPlain n d → n ≤ 127 → read (compact_text d) ≡ Some d
read_back n d h small =
    let ts = tree.json_tokens (outline d) in
    ap (λ text. read text) (sym (print-outline d))
    ∙ ap whole (ap (json.value max_depth) (tokens-print ts (ArePrintable-json_tokens (outline d) h.numbers) ∙ sym (append-nil ts))
    ∙ value-json_tokens (outline d) max_depth [] (omega (arith, h.shallow)))
    ∙ h.same
