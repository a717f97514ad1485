-- A chain of steps, each of which may find a fault.
use Rattle.std.proofs.Common.{◌≡◌, Ok, Err, refl, sym, subst, ◌∙◌}
use Rattle.topo_script.specs.declared.fault.ScriptFault.{ScriptFault}
use Rattle.topo_script.specs.declared.fault.ScriptFault.TheVariants.{Memory}
use Rattle.topo_script.specs.Reads.{Read, ◌>>=◌, and_then, both, all_three, IsFirstFault, Gives}

-- a step that finds something is followed by the next
pub went : {A B : Type 0} (found : Read A) (next : A → Read B) (a : A) → found ≡ Ok a → and_then found next ≡ next a
unfolding and_then
went found next a e = rw e

-- a fault of the first step is the fault of the chain
pub first_fault : {A B : Type 0} (found : Read A) (next : A → Read B) (e : ScriptFault) → found ≡ Err e → and_then found next ≡ Err e
unfolding and_then
first_fault found next e h = rw h

pub stopped : {A B : Type 0} (found : Read A) (next : A → Read B) (e : ScriptFault) → IsFirstFault found e → IsFirstFault (and_then found next) e
stopped found next Memory h = h
stopped found next e h = first_fault found next e h

pub gives_past : {A B : Type 0} (found : Read A) (next : A → Read B) (a : A) (r : Read B) → found ≡ Ok a → Gives r (next a) → Gives r (and_then found next)
unfolding and_then
gives_past found next a r is h = rw is h

-- an error that is the first fault
pub told : {A : Type 0} (found : Read A) (e : ScriptFault) → Err e ≡ found → IsFirstFault found e
told found Memory h = tt
told found e h = sym h

pub stops_at : {A B : Type 0} (found : Read A) (next : A → Read B) (e : ScriptFault) (r : Read B) → r ≡ Err e → IsFirstFault found e
    → Gives r (and_then found next)
stops_at found next e r is h = subst (λ q. Gives q (and_then found next)) (sym is) (stopped found next e h)

pub gives_same : {A : Type 0} (r found : Read A) → r ≡ found → Gives r found
gives_same (Ok a) found e = sym e
gives_same (Err fault) found e = told found fault e

-- ---- Two steps at once, and three

went_both : {A B D : Type 0} (a : Read A) (b : Read B) (next : A → B → Read D) → (both a b >>= λ p. next p.0 p.1) ≡ (a >>= λ x. b >>= λ y. next x y)
unfolding and_then
went_both (Ok x) (Ok y) next = refl
went_both (Ok x) (Err e) next = refl
went_both (Err e) b next = refl

went_three : {A B C D : Type 0} (a : Read A) (b : Read B) (c : Read C) (next : A → B → C → Read D)
    → (all_three a b c >>= λ p. next p.0 p.1 p.2) ≡ (a >>= λ x. b >>= λ y. c >>= λ z. next x y z)
unfolding and_then
went_three (Ok x) (Ok y) (Ok z) next = refl
went_three (Ok x) (Ok y) (Err e) next = refl
went_three (Ok x) (Err e) c next = refl
went_three (Err e) b c next = refl

pub went2 : {A B D : Type 0} (a : Read A) (b : Read B) (next : A → B → Read D) (x : A) (y : B) → both a b ≡ Ok (x, y)
    → (a >>= λ x. b >>= λ y. next x y) ≡ next x y
went2 a b next x y e = sym (went_both a b next) ∙ went (both a b) (λ p. next p.0 p.1) (x, y) e

pub went3 : {A B C D : Type 0} (a : Read A) (b : Read B) (c : Read C) (next : A → B → C → Read D) (x : A) (y : B) (z : C) → all_three a b c ≡ Ok (x, y, z)
    → (a >>= λ x. b >>= λ y. c >>= λ z. next x y z) ≡ next x y z
went3 a b c next x y z e = sym (went_three a b c next) ∙ went (all_three a b c) (λ p. next p.0 p.1 p.2) (x, y, z) e

pub gives_past2 : {A B D : Type 0} (a : Read A) (b : Read B) (next : A → B → Read D) (x : A) (y : B) (r : Read D) → both a b ≡ Ok (x, y) → Gives r (next x y)
    → Gives r (a >>= λ x. b >>= λ y. next x y)
gives_past2 a b next x y r e h = subst (Gives r) (sym (went2 a b next x y e)) h

pub gives_past3 : {A B C D : Type 0} (a : Read A) (b : Read B) (c : Read C) (next : A → B → C → Read D) (x : A) (y : B) (z : C) (r : Read D)
    → all_three a b c ≡ Ok (x, y, z)
    → Gives r (next x y z) → Gives r (a >>= λ x. b >>= λ y. c >>= λ z. next x y z)
gives_past3 a b c next x y z r e h = subst (Gives r) (sym (went3 a b c next x y z e)) h

pub stops_at2 : {A B D : Type 0} (a : Read A) (b : Read B) (next : A → B → Read D) (e : ScriptFault) (r : Read D) → r ≡ Err e → IsFirstFault (both a b) e
    → Gives r (a >>= λ x. b >>= λ y. next x y)
stops_at2 a b next e r is h = subst (Gives r) (went_both a b next) (stops_at (both a b) (λ p. next p.0 p.1) e r is h)

pub stops_at3 : {A B C D : Type 0} (a : Read A) (b : Read B) (c : Read C) (next : A → B → C → Read D) (e : ScriptFault) (r : Read D) → r ≡ Err e
    → IsFirstFault (all_three a b c) e
    → Gives r (a >>= λ x. b >>= λ y. c >>= λ z. next x y z)
stops_at3 a b c next e r is h = subst (Gives r) (went_three a b c next) (stops_at (all_three a b c) (λ p. next p.0 p.1 p.2) e r is h)
