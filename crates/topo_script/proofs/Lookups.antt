-- Reading what is found in a value.
use Rattle.std.proofs.Common.{◌≡◌, ℕ, List, Option, Some, None, Ok, Err, refl, ap, sym, ◌∙◌, subst, ◌<◌, nat_lt, Bool, true, false, if◌then◌else◌}
use borrow.Author.Tests.{ltb-true}
use Rattle.serde_json.specs.Data.{unsigned, Data, number, Items}
use Rattle.serde_json.specs.Find.{get, at, as_array}
use Rattle.topo_script.specs.declared.path.Key.{Key}
use Rattle.topo_script.specs.declared.path.JsonPath.{JsonPath}
use Rattle.topo_script.specs.declared.fault.ScriptFault.{ScriptFault}
use Rattle.topo_script.specs.declared.fault.ScriptFault.TheVariants.{BadShape, BadNumber}
use Rattle.topo_script.specs.Paths.{key_name, member_of, element_of}
use Rattle.topo_script.specs.Reads.{Read, and_then, due, Gives, member_form, element, list_form, items_from, number_below, has_key, member_or}

then_due : {A B : Type 0} (fault : ScriptFault) (o : Option A) (a : A) (next : A → Read B) → Some a ≡ o → and_then (due fault o) next ≡ next a
unfolding and_then
then_due fault o a next e = rw (sym e)

then_not_due : {A B : Type 0} (fault : ScriptFault) (o : Option A) (next : A → Read B) → None ≡ o → and_then (due fault o) next ≡ Err fault
unfolding and_then
then_not_due fault o next e = rw (sym e)

pub member_there : {A : Type 0} (form : JsonPath → Data → Read A) (path : JsonPath) {at_member : JsonPath} (key : Key) (d : Data) {found : Data} {name : List ℕ}
    (r : Read A) → name ≡ key_name key → at_member ≡ member_of path key → Some found ≡ get name d → Gives r (form at_member found)
    → Gives r (member_form form path key d)
unfolding member_form
member_there form path key d {found} r named placed there h =
    let e = then_due (BadShape (member_of path key)) (get (key_name key) d) found (form (member_of path key)) (there ∙ ap (λ n. get n d) named) in
    subst (Gives r) (sym e) (subst (λ p. Gives r (form p found)) placed h)

pub member_missing : {A : Type 0} (form : JsonPath → Data → Read A) (path : JsonPath) {at_member : JsonPath} (key : Key) (d : Data) {name : List ℕ}
    → name ≡ key_name key → at_member ≡ member_of path key → None ≡ get name d → member_form form path key d ≡ Err (BadShape at_member)
unfolding member_form
member_missing form path key d named placed missing =
    then_not_due (BadShape (member_of path key)) (get (key_name key) d) (form (member_of path key)) (missing ∙ ap (λ n. get n d) named)
    ∙ ap (λ p. Err (BadShape p)) (sym placed)

pub element_there : {A : Type 0} (form : JsonPath → Data → Read A) (path at_element : JsonPath) (i : ℕ) (d found : Data) (r : Read A)
    → at_element ≡ element_of path i → Some found ≡ at i d → Gives r (form at_element found) → Gives r (element form path i d)
unfolding element
element_there form path at_element i d found r placed there h =
    let e = then_due (BadShape path) (at i d) found (form (element_of path i)) there in
    subst (Gives r) (sym e) (subst (λ p. Gives r (form p found)) placed h)

pub element_missing : {A : Type 0} (form : JsonPath → Data → Read A) (path : JsonPath) (i : ℕ) (d : Data) → None ≡ at i d → element form path i d ≡ Err (BadShape path)
unfolding element
element_missing form path i d missing = then_not_due (BadShape path) (at i d) (form (element_of path i)) missing

pub list_there : {A : Type 0} (form : JsonPath → Data → Read A) (path : JsonPath) (d : Data) (items : Items) (r : Read (List A))
    → Some items ≡ as_array d → Gives r (items_from form path 0 items) → Gives r (list_form form path d)
unfolding list_form
list_there form path d items r there h = subst (Gives r) (sym (then_due (BadShape path) (as_array d) items (items_from form path 0) there)) h

pub no_list : {A : Type 0} (form : JsonPath → Data → Read A) (path : JsonPath) (d : Data) → None ≡ as_array d → list_form form path d ≡ Err (BadShape path)
unfolding list_form
no_list form path d missing = then_not_due (BadShape path) (as_array d) (items_from form path 0) missing

below_by : (bound m n : ℕ) (path : JsonPath) (b : Bool) → nat_lt m bound ≡ b → Ok n ≡ (if b then Ok m else Err (BadNumber path)) → n < bound
below_by bound m n path true e h = let same : n ≡ m = cc in rw same (ltb-true m bound e)
below_by bound m n path false e h = absurd cc

pub is_number_below : (bound : ℕ) (path : JsonPath) (d : Data) (n : ℕ) → Ok n ≡ number_below bound path d → n < bound
unfolding number_below and_then
is_number_below bound path (number (unsigned m)) n e = below_by bound m n path (nat_lt m bound) refl e
is_number_below bound path _ n e = absurd cc

pub member_or_there : {A : Type 0} (default : A) (form : JsonPath → Data → Read A) (path : JsonPath) (key : Key) (d : Data) (r : Read A)
    → true ≡ has_key key d → Gives r (member_form form path key d) → Gives r (member_or default form path key d)
unfolding member_or
member_or_there default form path key d r there h = rw (sym there) h

pub member_or_missing : {A : Type 0} (default : A) (form : JsonPath → Data → Read A) (path : JsonPath) (key : Key) (d : Data)
    → false ≡ has_key key d → member_or default form path key d ≡ Ok default
unfolding member_or
member_or_missing default form path key d missing = rw (sym missing)

pub member_read : {A : Type 0} (form : JsonPath → Data → Read A) (path : JsonPath) (key : Key) (d : Data) {found : Data} {a : A}
    → get (key_name key) d ≡ Some found → ((p : JsonPath) → form p found ≡ Ok a) → member_form form path key d ≡ Ok a
unfolding member_form and_then
member_read form path key d there h = rw there (h (member_of path key))

pub element_read : {A : Type 0} (form : JsonPath → Data → Read A) (path : JsonPath) (i : ℕ) (d : Data) {found : Data} {a : A}
    → at i d ≡ Some found → ((p : JsonPath) → form p found ≡ Ok a) → element form path i d ≡ Ok a
unfolding element and_then
element_read form path i d there h = rw there (h (element_of path i))
