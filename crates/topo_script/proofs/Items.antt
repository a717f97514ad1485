-- Reading the elements of an array one after another.
use Rattle.std.proofs.Common.{◌≡◌, ℕ, ◌+◌, ◌<◌, List, [], ◌∷◌, ◌++◌, length, get_or, drop, Ok, Err, refl}
use Rattle.std.proofs.Common.{ap, sym, ◌∙◌, subst, append_assoc, add-one, drop-cons, append-nil, ◌≤◌, ap₂}
use Rattle.std.proofs.lemmas.List.{drop_all}
use Rattle.serde_json.specs.Data.{Data}
use Rattle.serde_json.specs.View.{view, items_view}
use Rattle.serde_json.specs.declared.value.Value.{Value}
use Rattle.topo_script.specs.declared.path.JsonPath.{JsonPath}
use Rattle.topo_script.specs.declared.fault.ScriptFault.{ScriptFault}
use Rattle.topo_script.specs.Paths.{element_of}
use Rattle.topo_script.specs.Reads.{Read, and_then, IsFirstFault, items_from}
use Rattle.topo_script.proofs.Steps.{stopped, went}

regrouped : {A : Type 0} (r : Read (List A)) (found : List A) (x : A)
    → and_then (and_then r (λ xs. Ok (x ∷ xs))) (λ rest. Ok (found ++ rest)) ≡ and_then r (λ rest. Ok ((found ++ x ∷ []) ++ rest))
unfolding and_then
regrouped (Ok xs) found x = ap (λ ys. Ok ys) (sym (append_assoc found (x ∷ []) xs))
regrouped (Err e) found x = refl

from_next : {A : Type 0} (form : JsonPath → Data → Read A) (path : JsonPath) (vs : List Value) (i : ℕ) (d : Value) → i < length vs
    → items_from form path i (items_view (drop i vs)) ≡ and_then (form (element_of path i) (view (get_or vs i d)))
    (λ x. and_then (items_from form path (i + 1) (items_view (drop (i + 1) vs))) (λ xs. Ok (x ∷ xs)))
from_next form path vs i d h = rw (drop-cons vs i d) (simp add-one)

pub one_more : {A : Type 0} (form : JsonPath → Data → Read A) (path : JsonPath) (vs : List Value) (i : ℕ) (d : Value) (found : List A) (x : A) → i < length vs
    → form (element_of path i) (view (get_or vs i d)) ≡ Ok x
    → and_then (items_from form path (i + 1) (items_view (drop (i + 1) vs))) (λ rest. Ok ((found ++ x ∷ []) ++ rest))
    ≡ and_then (items_from form path i (items_view (drop i vs))) (λ rest. Ok (found ++ rest))
one_more {A = A} form path vs i d found x h is =
    let next = λ (y : A). and_then (items_from form path (i + 1) (items_view (drop (i + 1) vs))) (λ xs. Ok (y ∷ xs)) in
    sym (ap (λ r. and_then r (λ rest. Ok (found ++ rest))) (from_next form path vs i d h ∙ went _ next x is)
    ∙ regrouped (items_from form path (i + 1) (items_view (drop (i + 1) vs))) found x)

pub item_refused : {A : Type 0} (form : JsonPath → Data → Read A) (path : JsonPath) (vs : List Value) (i : ℕ) (d : Value) (found : List A)
    (e : ScriptFault) → i < length vs
    → IsFirstFault (form (element_of path i) (view (get_or vs i d))) e
    → IsFirstFault (and_then (items_from form path i (items_view (drop i vs))) (λ rest. Ok (found ++ rest))) e
item_refused form path vs i d found e h is =
    stopped _ _ e (subst (λ r. IsFirstFault r e) (sym (from_next form path vs i d h)) (stopped _ _ e is))

pub none_yet : {A : Type 0} (r : Read (List A)) (found : List A) → found ≡ [] → and_then r (λ rest. Ok (found ++ rest)) ≡ r
unfolding and_then
none_yet (Ok xs) found e = rw e
none_yet (Err fault) found e = refl

none_left : {A : Type 0} (form : JsonPath → Data → Read A) (path : JsonPath) (i : ℕ) (vs : List Value) → vs ≡ [] → items_from form path i (items_view vs) ≡ Ok []
none_left form path i vs e = rw e

pub all_found : {A : Type 0} (form : JsonPath → Data → Read A) (path : JsonPath) (vs : List Value) (i : ℕ) (found : List A) → length vs ≤ i
    → and_then (items_from form path i (items_view (drop i vs))) (λ rest. Ok (found ++ rest)) ≡ Ok found
unfolding and_then
all_found form path vs i found h = rw (none_left form path i (drop i vs) (drop_all i vs h)) (ap (λ ys. Ok ys) (append-nil found))

pub placed : {A : Type 0} (form : JsonPath → Data → Read A) (path at_element : JsonPath) (vs : List Value) (i : ℕ) (d : Value) (r : Read A)
    → at_element ≡ element_of path i → d ≡ get_or vs i d → form at_element (view d) ≡ r → form (element_of path i) (view (get_or vs i d)) ≡ r
placed form path at_element vs i d r e is h = ap₂ (λ (p : JsonPath) (v : Value). form p (view v)) (sym e) (sym is) ∙ h

pub placed_fault : {A : Type 0} (form : JsonPath → Data → Read A) (path at_element : JsonPath) (vs : List Value) (i : ℕ) (d : Value) (e : ScriptFault)
    → at_element ≡ element_of path i → d ≡ get_or vs i d → IsFirstFault (form at_element (view d)) e
    → IsFirstFault (form (element_of path i) (view (get_or vs i d))) e
placed_fault form path at_element vs i d fault e is h = subst (λ r. IsFirstFault r fault) (ap₂ (λ (p : JsonPath) (v : Value). form p (view v)) e is) h
