-- Tokens that spell scripts.
use Rattle.std.proofs.Common.{◌≡◌, ℕ, ◌<◌, ◌≤◌, Bool, true, List, [], ◌∷◌, length, Option, Some, None, Ok, unwrap_or, refl, sym, ap, subst, ◌∙◌}
use Rattle.json.specs.Token.{Token}
use Rattle.serde_json.specs.Data.{Data, object}
use Rattle.serde_json.specs.Find.{get}
use Rattle.topo_core.specs.declared.rows.Rows.{Rows}
use Rattle.topo_script.specs.declared.keys.FormKey.{FormKey}
use Rattle.topo_script.specs.declared.keys.FormKey.TheVariants.{Due}
use Rattle.topo_script.specs.declared.keys.TheConstants.{SCRIPT_KEYS}
use Rattle.topo_script.specs.declared.path.Key.{Key}
use Rattle.topo_script.specs.declared.path.Key.TheVariants.{Limits, Prices, Start, Version, Workers}
use Rattle.topo_script.specs.declared.path.JsonPath.{JsonPath}
use Rattle.topo_script.specs.declared.script_forms.TheConstants.{MAX_WORKERS}
use Rattle.topo_script.specs.declared.scripts.LimitRows.{LimitRows}
use Rattle.topo_script.specs.declared.scripts.Script.{Script}
use Rattle.topo_script.specs.declared.slots.Slot.{Slot}
use Rattle.topo_script.specs.CallForms.{command_form}
use Rattle.topo_script.specs.Paths.{key_name, whole}
use Rattle.topo_script.specs.Reads.{Read, number_form, list_form, member_or}
use Rattle.topo_script.specs.Scripts.{greatest_limits, limits_form, nulls_of, price_form, prices_form, start_form, workers_form, script_form}
use Rattle.topo_script.specs.Slots.{members_of, IsHeld, SpellsValue}
use Rattle.topo_script.specs.Tokens.{Spells}
use Rattle.topo_script.specs.TokenParts.{ArePricesOf, AreSettings}
use Rattle.topo_script.proofs.Lookups.{member_read}
use Rattle.topo_script.proofs.Members.{found_at, keys_there, none_behind, one_there, or_behind, value_at}
use Rattle.topo_script.proofs.Objects.{IsDue, IsMaybe, due_held, held_by, maybe, maybe_held, object_tokens}
use Rattle.topo_script.proofs.Steps.{went}
use Rattle.topo_script.proofs.TokenReports.{prices_read, version_read}
use Rattle.topo_script.proofs.TokenStarts.{workers_read}

-- ---- Members that may be missing

-- what is read of such a member
abbrev pub AreRead : {A : Type 0} → (JsonPath → Data → Read A) → A → Option Data → A → Type 0
AreRead form default None a = default ≡ a
AreRead form default (Some d) a = (path : JsonPath) → form path d ≡ Ok a

optional_read : {A : Type 0} (form : JsonPath → Data → Read A) (default : A) (path : JsonPath) (k : Key) (d : Data) (o : Option Data) (a : A)
    → get (key_name k) d ≡ o → AreRead form default o a
    → member_or default form path k d ≡ Ok a
unfolding member_or
optional_read form default path k d None a there read = rw there (ap (λ x. Ok x) read)
optional_read form default path k d (Some found) a there read = rw there (member_read form path k d there read)

-- the same in an object with some of these keys
pub optional_found : {A : Type 0} (form : JsonPath → Data → Read A) (default : A) (path : JsonPath) (k : Key) (keys : List FormKey) (os : List (Option Data))
    (o : Option Data) (a : A) → value_at (key_name k) keys os ≡ or_behind o None → AreRead form default o a
    → member_or default form path k (object (members_of keys os)) ≡ Ok a
optional_found form default path k keys os o a there read =
    optional_read form default path k (object (members_of keys os)) o a (found_at (key_name k) keys os ∙ there ∙ none_behind o) read

pub or_default : {A : Type 0} (form : JsonPath → Data → Read A) (default : A) (o : Option A)
    (d : Option Data) → IsHeld form o d → AreRead form default d (unwrap_or o default)
or_default form default None None held = refl
or_default form default (Some a) (Some d) held = held
or_default form default _ _ held = absurd held

pub prices_or_none : (n : ℕ) (o : Option (List (Option ℕ))) (d : Option Data) (kept : List (Option ℕ)) → IsHeld (list_form (price_form true)) o d
    → (h : ArePricesOf n (unwrap_or o []) kept) → AreRead (prices_form h.0) [] d kept
prices_or_none n None None kept held h = sym h.4
prices_or_none n (Some ps) (Some d) kept held h = λ path. prices_read h.0 path d ps kept (held path) h.2 h.3 h.4
prices_or_none n _ _ kept held h = absurd held

-- ---- The limits, the prices and the start, which may be missing

-- what each of them is read as
pub record AreFront (l p s : Option Data) (nulls : Bool) (limits : LimitRows) (prices : List (Option ℕ)) (start : Option Rows) : Type 0 where
  pub of_limits : AreRead limits_form greatest_limits l limits
  pub of_prices : AreRead (prices_form nulls) [] p prices
  pub of_start : AreRead start_form None s start

-- what the slots of these and of the version hold, by what is read of it
pub record HasSettings {R : Type 0} (holds : R → List (Option Data) → Type 0) (os : List (Option Data)) (limits : LimitRows) (prices : List (Option ℕ))
    (start : Option Rows) (rest : R) : Type 0 where
  pub l : Option Data
  pub p : Option Data
  pub s : Option Data
  pub v : Data
  pub values : List (Option Data)
  pub is : os ≡ l ∷ p ∷ s ∷ Some v ∷ values
  pub held : holds rest values
  pub version : ℕ
  pub version_read : (path : JsonPath) → number_form path v ≡ Ok version
  pub nulls : Bool
  pub of_version : nulls_of version ≡ Ok nulls
  pub front : AreFront l p s nulls limits prices start

abbrev settings_slots : {R : Type 0} → (R → List (Option Data) → Type 0) → Slot LimitRows (Slot (List (Option ℕ)) (Slot (Option Rows) (Slot ℕ R)))
    → List (Option Data) → Type 0
settings_slots holds = held_by limits_form (held_by (list_form (price_form true)) (held_by start_form (held_by number_form holds)))

front_read : {os p1 p2 p3 : List (Option Data)} {l : Option LimitRows} {p : Option (List (Option ℕ))} {s : Option (Option Rows)} {limits : LimitRows}
    {prices : List (Option ℕ)} {start : Option Rows} (n : ℕ) (first : IsMaybe limits_form l os p1) (second : IsMaybe (list_form (price_form true)) p p1 p2)
    (third : IsMaybe start_form s p2 p3) (are : AreSettings l p s n limits prices start)
    → AreFront first.spelled second.spelled third.spelled are.of_prices.0 limits prices start
front_read {p = p} {prices = prices} n first second third are = record {
  of_limits = subst (AreRead limits_form greatest_limits first.spelled) (sym are.of_limits) (or_default limits_form greatest_limits _ first.spelled first.read);
  of_prices = prices_or_none n p second.spelled prices second.read are.of_prices;
  of_start = subst (AreRead start_form None third.spelled) (sym are.of_start) (or_default start_form None _ third.spelled third.read);
}

pub settings_held : {R : Type 0} (holds : R → List (Option Data) → Type 0) {slots : Slot LimitRows (Slot (List (Option ℕ)) (Slot (Option Rows) (Slot ℕ R)))}
    {os : List (Option Data)} {limits : LimitRows} {prices : List (Option ℕ)} {start : Option Rows} {rest : R}
    → (settings : (version : ℕ) × (slots.rest.rest.rest.found ≡ Some version)
    × AreSettings slots.found slots.rest.found slots.rest.rest.found version limits prices start)
    → slots.rest.rest.rest.rest ≡ rest → settings_slots holds slots os → HasSettings holds os limits prices start rest
settings_held holds {slots} {os} settings behind held =
    let l = maybe_held limits_form (held_by (list_form (price_form true)) (held_by start_form (held_by number_form holds))) {slot = slots} (refl, refl) held in
    let p = maybe_held (list_form (price_form true)) (held_by start_form (held_by number_form holds)) {slot = slots.rest} (refl, refl) l.held in
    let s = maybe_held start_form (held_by number_form holds) {slot = slots.rest.rest} (refl, refl) p.held in
    let v = due_held number_form holds {slot = slots.rest.rest.rest} (settings.1, behind) s.held in record {
      l = l.first.spelled;
      p = p.first.spelled;
      s = s.first.spelled;
      v = v.first.spelled;
      values = v.values;
      is = maybe l.first (maybe p.first (maybe s.first v.first.is));
      held = v.held;
      version = settings.0;
      version_read = v.first.reads;
      nulls = settings.2.of_prices.0;
      of_version = settings.2.of_prices.1;
      front = front_read settings.0 l.first p.first s.first settings.2;
    }

-- ---- Scripts

script_read : {x : Script} {n : ℕ} {l p s : Option Data} (v w : Data) {nulls : Bool} → nulls_of n ≡ Ok nulls
    → AreFront l p s nulls x.limits x.prices x.start → ((path : JsonPath) → number_form path v ≡ Ok n) → ((path : JsonPath) → workers_form path w ≡ Ok x.workers)
    → script_form (object (members_of SCRIPT_KEYS (l ∷ p ∷ s ∷ Some v ∷ Some w ∷ []))) ≡ Ok x
unfolding script_form
script_read {x} {n} {l} {p} {s} v w {nulls} of front version workers =
    let os : List (Option Data) = l ∷ p ∷ s ∷ Some v ∷ Some w ∷ [] in
    let d = object (members_of SCRIPT_KEYS os) in
    let has_version = found_at (key_name Version) SCRIPT_KEYS os in
    let has_workers = found_at (key_name Workers) SCRIPT_KEYS os in
    went _ _ nulls (version_read whole n nulls (members_of SCRIPT_KEYS os) v has_version version of)
    ∙ went _ _ tt (keys_there whole SCRIPT_KEYS os refl
    (one_there whole Version (Due Workers ∷ []) d v has_version (one_there whole Workers [] d w has_workers refl)))
    ∙ went _ _ x.limits (optional_found limits_form greatest_limits whole Limits SCRIPT_KEYS os l x.limits refl front.of_limits)
    ∙ went _ _ x.prices (optional_found (prices_form nulls) [] whole Prices SCRIPT_KEYS os p x.prices refl front.of_prices)
    ∙ went _ _ x.start (optional_found start_form None whole Start SCRIPT_KEYS os s x.start refl front.of_start)
    ∙ went _ _ x.workers (member_read workers_form whole Workers d has_workers workers)

pub script_tokens : {R : Type 0} {holds : R → List (Option Data) → Type 0} {r : R} {x : Script} {n : ℕ} {ts rest : List Token} {os : List (Option Data)}
    → SpellsValue n ts (object (members_of SCRIPT_KEYS os)) rest → n ≤ 5 → (read : HasSettings holds os x.limits x.prices x.start r)
    → IsDue (list_form (list_form command_form)) x.workers read.values [] → 0 < length x.workers → length x.workers ≤ MAX_WORKERS
    → Spells 5 (λ path. script_form) ts x rest
script_tokens v within read workers some few =
    object_tokens SCRIPT_KEYS (read.l ∷ read.p ∷ read.s ∷ Some read.v ∷ Some workers.spelled ∷ []) v within
    (read.is ∙ ap (λ q. read.l ∷ read.p ∷ read.s ∷ Some read.v ∷ q) workers.is)
    (λ path. script_read read.v workers.spelled read.of_version read.front read.version_read
    (λ p. workers_read p workers.spelled _ (workers.reads p) some few))
