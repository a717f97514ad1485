-- The value of rows is read as those rows.
use Rattle.std.proofs.Common.{◌≡◌, ℕ, suc, ◌+◌, ◌^◌, ◌<◌, ◌≤◌, List, [], ◌∷◌, map, length, Some, Ok, refl, ap, ◌∙◌, arith, IsUtf8, lt-ltb, subst}
use Rattle.std.specs.List.{AllByRecursion}
use Rattle.serde_json.specs.Data.{Data}
use Rattle.serde_json.specs.Find.{get}
use Rattle.serde_json.specs.View.{items_of}
use Rattle.serde_json.specs.Written.{compact_text}
use Rattle.topo_core.specs.declared.darts.Sign.{Sign}
use Rattle.topo_core.specs.declared.darts.Sign.TheVariants.{LeftToRight, RightToLeft}
use Rattle.topo_core.specs.declared.rows.Rows.{Rows}
use Rattle.topo_core.specs.declared.rows.EdgeRow.{EdgeRow}
use Rattle.topo_core.specs.declared.rows.CrossRow.{CrossRow}
use Rattle.topo_script.specs.declared.path.Key.{Key}
use Rattle.topo_script.specs.declared.path.Key.TheVariants.{A, B, Crossed, Crossings, Edges, Id, Kind, Newcomer}
use Rattle.topo_script.specs.declared.path.Key.TheVariants.{NextCrossing, NextEdge, Rotations, Sign as SignKey}
use Rattle.topo_script.specs.declared.path.JsonPath.{JsonPath}
use Rattle.topo_script.specs.Paths.{key_name, member_of, element_of, whole}
use Rattle.topo_script.specs.Pictures.{number_data, list_data, sign_data, edge_data, crossing_data, rows_data, rows_text}
use Rattle.topo_script.specs.Ranges.{AreShort, EdgeFits, CrossingFits, RowsFit}
use Rattle.topo_script.specs.Reads.{Read, and_then, number_below, number_form, items_from, list_form, member_form, value_of}
use Rattle.topo_script.specs.RowForms.{sign_form, edge_form, crossing_form, rows_form, rows_of}
use Rattle.topo_script.proofs.FormKeys.{crossing_keys, edge_keys, rows_keys}
use Rattle.topo_script.proofs.Interface.{json_of-read, went, within}
use Rattle.topo_script.proofs.Texts.{IsPlain, plain_number, plain_string, plain_list, plain_object, no_plain_members, one_plain_member, read_back}

-- ---- The forms of values

pub short_back : (path : JsonPath) (n : ℕ) → n < 2 ^ 32 → number_form path (number_data n) ≡ Ok n
unfolding number_below and_then
short_back path n h = rw (lt-ltb n (2 ^ 32) h)

items_back : {X : Type 0} (form : JsonPath → Data → Read X) (f : X → Data) (path : JsonPath) (i : ℕ) (xs : List X)
    → AllByRecursion (λ x. (p : JsonPath) → form p (f x) ≡ Ok x) xs → items_from form path i (items_of (map f xs)) ≡ Ok xs
items_back form f path i [] h = refl
items_back {X = X} form f path i (x ∷ xs) h =
    went (form (element_of path i) (f x)) (λ (y : X). and_then (items_from form path (i + 1) (items_of (map f xs))) (λ ys. Ok (y ∷ ys))) x
    (h.0 (element_of path i))
    ∙ went _ (λ (ys : List X). Ok (x ∷ ys)) xs (items_back form f path (i + 1) xs h.1)

pub list_back : {X : Type 0} (form : JsonPath → Data → Read X) (f : X → Data) (path : JsonPath) (xs : List X)
    → AllByRecursion (λ x. (p : JsonPath) → form p (f x) ≡ Ok x) xs → list_form form path (list_data f xs) ≡ Ok xs
unfolding list_form and_then
list_back form f path xs h = items_back form f path 0 xs h

pub member_back : {A : Type 0} (form : JsonPath → Data → Read A) (path : JsonPath) (key : Key) (d found : Data) (x : A)
    → get (key_name key) d ≡ Some found → form (member_of path key) found ≡ Ok x → member_form form path key d ≡ Ok x
unfolding member_form and_then
member_back form path key d found x there h = rw there h

pub all_map : {X : Type 0} (P Q : X → Type 0) (xs : List X) → ((x : X) → P x → Q x) → AllByRecursion P xs → AllByRecursion Q xs
all_map P Q [] f h = tt
all_map P Q (x ∷ xs) f h = (f x h.0, all_map P Q xs f h.1)

pub shorts_back : (path : JsonPath) (ns : List ℕ) → AreShort ns → list_form number_form path (list_data number_data ns) ≡ Ok ns
shorts_back path ns h =
    list_back number_form number_data path ns
    (all_map (λ n. n < 2 ^ 32) (λ n. (p : JsonPath) → number_form p (number_data n) ≡ Ok n) ns (λ n k p. short_back p n k) h)

sign_back : (path : JsonPath) (s : Sign) → sign_form path (sign_data s) ≡ Ok s
unfolding sign_form
sign_back path LeftToRight = refl
sign_back path RightToLeft = refl

pub edge_back : (path : JsonPath) (row : EdgeRow) → EdgeFits row → edge_form path (edge_data row) ≡ Ok row
unfolding edge_form
edge_back path row h =
    went _ _ tt (edge_keys path _ _ _ _ _)
    ∙ went _ _ row.a (member_back number_form path A (edge_data row) _ row.a refl (short_back _ row.a h.a))
    ∙ went _ _ row.b (member_back number_form path B (edge_data row) _ row.b refl (short_back _ row.b h.b))
    ∙ went _ _ row.crossings (member_back (list_form number_form) path Crossings (edge_data row) _ row.crossings refl (shorts_back _ row.crossings h.crossings))
    ∙ went _ _ row.id (member_back number_form path Id (edge_data row) _ row.id refl (short_back _ row.id h.id))
    ∙ went _ _ row.kind (member_back number_form path Kind (edge_data row) _ row.kind refl (short_back _ row.kind h.kind))

pub crossing_back : (path : JsonPath) (x : CrossRow) → CrossingFits x → crossing_form path (crossing_data x) ≡ Ok x
unfolding crossing_form
crossing_back path x h =
    went _ _ tt (crossing_keys path _ _ _ _)
    ∙ went _ _ x.crossed (member_back number_form path Crossed (crossing_data x) _ x.crossed refl (short_back _ x.crossed h.crossed))
    ∙ went _ _ x.id (member_back number_form path Id (crossing_data x) _ x.id refl (short_back _ x.id h.id))
    ∙ went _ _ x.newcomer (member_back number_form path Newcomer (crossing_data x) _ x.newcomer refl (short_back _ x.newcomer h.newcomer))
    ∙ went _ _ x.sign (member_back sign_form path SignKey (crossing_data x) _ x.sign refl (sign_back _ x.sign))

pub rows_back : (path : JsonPath) (rows : Rows) → RowsFit rows → rows_form path (rows_data rows) ≡ Ok rows
unfolding rows_form
rows_back path rows h =
    let crossings = all_map CrossingFits (λ x. (p : JsonPath) → crossing_form p (crossing_data x) ≡ Ok x) rows.crossings
    (λ x k p. crossing_back p x k) h.crossings in
    let edges = all_map EdgeFits (λ row. (p : JsonPath) → edge_form p (edge_data row) ≡ Ok row) rows.edges (λ row k p. edge_back p row k) h.edges in
    let rotations = all_map AreShort (λ ns. (p : JsonPath) → list_form number_form p (list_data number_data ns) ≡ Ok ns) rows.rotations
    (λ ns k p. shorts_back p ns k) h.rotations in
    went _ _ tt (rows_keys path _ _ _ _ _)
    ∙ went _ _ rows.crossings (member_back (list_form crossing_form) path Crossings (rows_data rows) _ rows.crossings refl
    (list_back crossing_form crossing_data _ rows.crossings crossings))
    ∙ went _ _ rows.edges (member_back (list_form edge_form) path Edges (rows_data rows) _ rows.edges refl (list_back edge_form edge_data _ rows.edges edges))
    ∙ went _ _ rows.next_crossing
    (member_back number_form path NextCrossing (rows_data rows) _ rows.next_crossing refl (short_back _ rows.next_crossing h.next_crossing))
    ∙ went _ _ rows.next_edge (member_back number_form path NextEdge (rows_data rows) _ rows.next_edge refl (short_back _ rows.next_edge h.next_edge))
    ∙ went _ _ rows.rotations (member_back (list_form (list_form number_form)) path Rotations (rows_data rows) _ rows.rotations refl
    (list_back (list_form number_form) (list_data number_data) _ rows.rotations rotations))

-- ---- The texts of values

pub plain_short : (n k : ℕ) → k < 2 ^ 32 → IsPlain n (number_data k)
plain_short n k h = plain_number n k (omega arith)

pub plain_shorts : (n : ℕ) (ns : List ℕ) → AreShort ns → IsPlain (suc n) (list_data number_data ns)
plain_shorts n ns h = plain_list n number_data ns (all_map (λ k. k < 2 ^ 32) (λ k. IsPlain n (number_data k)) ns (λ k s. plain_short n k s) h)

plain_sign : (n : ℕ) (s : Sign) → IsPlain n (sign_data s)
plain_sign n LeftToRight = plain_string n _
plain_sign n RightToLeft = plain_string n _

plain_edge : (row : EdgeRow) → EdgeFits row → IsPlain 2 (edge_data row)
plain_edge row h = plain_object 1 _ refl
    (one_plain_member 1 _ _ _ (plain_short 1 row.a h.a)
    (one_plain_member 1 _ _ _ (plain_short 1 row.b h.b)
    (one_plain_member 1 _ _ _ (plain_shorts 0 row.crossings h.crossings)
    (one_plain_member 1 _ _ _ (plain_short 1 row.id h.id)
    (one_plain_member 1 _ _ _ (plain_short 1 row.kind h.kind) (no_plain_members 1))))))

plain_crossing : (x : CrossRow) → CrossingFits x → IsPlain 1 (crossing_data x)
plain_crossing x h = plain_object 0 _ refl
    (one_plain_member 0 _ _ _ (plain_short 0 x.crossed h.crossed)
    (one_plain_member 0 _ _ _ (plain_short 0 x.id h.id)
    (one_plain_member 0 _ _ _ (plain_short 0 x.newcomer h.newcomer)
    (one_plain_member 0 _ _ _ (plain_sign 0 x.sign) (no_plain_members 0)))))

pub deeper : (n m : ℕ) (d : Data) → n ≤ m → IsPlain n d → IsPlain m d
deeper n m d le h = record { same = h.same; numbers = h.numbers; shallow = omega (arith, h.shallow) }

pub plain_rows : (rows : Rows) → RowsFit rows → IsPlain 4 (rows_data rows)
plain_rows rows h = plain_object 3 _ refl
    (one_plain_member 3 _ _ _ (deeper 2 3 _ (omega arith)
    (plain_list 1 crossing_data rows.crossings (all_map CrossingFits (λ x. IsPlain 1 (crossing_data x)) rows.crossings plain_crossing h.crossings)))
    (one_plain_member 3 _ _ _ (plain_list 2 edge_data rows.edges (all_map EdgeFits (λ row. IsPlain 2 (edge_data row)) rows.edges plain_edge h.edges))
    (one_plain_member 3 _ _ _ (plain_short 3 rows.next_crossing h.next_crossing)
    (one_plain_member 3 _ _ _ (plain_short 3 rows.next_edge h.next_edge)
    (one_plain_member 3 _ _ _ (plain_list 2 (list_data number_data) rows.rotations
    (all_map AreShort (λ ns. IsPlain 2 (list_data number_data ns)) rows.rotations (λ ns k. plain_shorts 1 ns k) h.rotations)) (no_plain_members 3))))))

-- ---- The whole

pub text_value : (limit n : ℕ) (d : Data) → IsPlain n d → n ≤ 127 → IsUtf8 (compact_text d) → length (compact_text d) ≤ limit
    → value_of limit (compact_text d) ≡ Ok d
text_value limit n d h small utf8 short = within limit (compact_text d) (Some d) short (json_of-read (compact_text d) d utf8 (read_back n d h small))

pub rows_read_back : (rows : Rows) → RowsFit rows → IsUtf8 (rows_text rows) → length (rows_text rows) ≤ 268435456 → rows_of (rows_text rows) ≡ Ok rows
unfolding rows_of rows_text
rows_read_back rows h utf8 short =
    went _ _ (rows_data rows) (text_value 268435456 4 (rows_data rows) (plain_rows rows h) (omega arith) utf8 short) ∙ rows_back whole rows h

pub rows_text_read_back : (rows : Rows) (text : List ℕ) → text ≡ rows_text rows → IsUtf8 text → RowsFit rows → length text ≤ 268435456 → rows_of text ≡ Ok rows
rows_text_read_back rows text e utf8 h short =
    ap rows_of e ∙ rows_read_back rows h (subst IsUtf8 e utf8) (subst (λ (t : List ℕ). length t ≤ 268435456) e short)
