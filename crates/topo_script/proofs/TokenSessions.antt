-- Tokens that spell openings of sessions.
use Rattle.std.proofs.Common.{◌≡◌, ℕ, ◌≤◌, Bool, List, [], ◌∷◌, Option, Some, None, Ok, refl, ap, ◌∙◌}
use Rattle.json.specs.Token.{Token}
use Rattle.serde_json.specs.Data.{Data, object}
use Rattle.topo_script.specs.declared.keys.TheConstants.{OPENING_KEYS}
use Rattle.topo_script.specs.declared.path.Key.TheVariants.{Limits, Prices, Start, Version}
use Rattle.topo_script.specs.declared.path.JsonPath.{JsonPath}
use Rattle.topo_script.specs.declared.sessions.Opening.{Opening}
use Rattle.topo_script.specs.Paths.{key_name}
use Rattle.topo_script.specs.Reads.{number_form}
use Rattle.topo_script.specs.Scripts.{greatest_limits, limits_form, nulls_of, prices_form, start_form}
use Rattle.topo_script.specs.Sessions.{opening_form}
use Rattle.topo_script.specs.Slots.{members_of, SpellsValue}
use Rattle.topo_script.specs.Tokens.{Spells}
use Rattle.topo_script.proofs.Members.{found_at, keys_there, one_there}
use Rattle.topo_script.proofs.Objects.{object_tokens}
use Rattle.topo_script.proofs.TokenReports.{version_read}
use Rattle.topo_script.proofs.TokenScripts.{AreFront, HasSettings, optional_found}
use Rattle.topo_script.proofs.Steps.{went}

opening_read : (path : JsonPath) {x : Opening} {n : ℕ} {l p s : Option Data} (v : Data) {nulls : Bool} → nulls_of n ≡ Ok nulls
    → AreFront l p s nulls x.limits x.prices x.start → ((p : JsonPath) → number_form p v ≡ Ok n)
    → opening_form path (object (members_of OPENING_KEYS (l ∷ p ∷ s ∷ Some v ∷ []))) ≡ Ok x
unfolding opening_form
opening_read path {x} {n} {l} {p} {s} v {nulls} of front version =
    let os : List (Option Data) = l ∷ p ∷ s ∷ Some v ∷ [] in
    let has_version = found_at (key_name Version) OPENING_KEYS os in
    went _ _ nulls (version_read path n nulls (members_of OPENING_KEYS os) v has_version version of)
    ∙ went _ _ tt (keys_there path OPENING_KEYS os refl (one_there path Version [] (object (members_of OPENING_KEYS os)) v has_version refl))
    ∙ went _ _ x.limits (optional_found limits_form greatest_limits path Limits OPENING_KEYS os l x.limits refl front.of_limits)
    ∙ went _ _ x.prices (optional_found (prices_form nulls) [] path Prices OPENING_KEYS os p x.prices refl front.of_prices)
    ∙ went _ _ x.start (optional_found start_form None path Start OPENING_KEYS os s x.start refl front.of_start)

pub opening_tokens : {R : Type 0} {r : R} {x : Opening} {n : ℕ} {ts rest : List Token} {os : List (Option Data)}
    → SpellsValue n ts (object (members_of OPENING_KEYS os)) rest → n ≤ 5 → HasSettings (λ q ps. ps ≡ []) os x.limits x.prices x.start r
    → Spells 5 opening_form ts x rest
opening_tokens v within read =
    object_tokens OPENING_KEYS (read.l ∷ read.p ∷ read.s ∷ Some read.v ∷ []) v within
    (read.is ∙ ap (λ q. read.l ∷ read.p ∷ read.s ∷ Some read.v ∷ q) read.held)
    (λ path. opening_read path read.v read.of_version read.front read.version_read)
