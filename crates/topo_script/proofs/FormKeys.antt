-- An object with all members of a form has its keys.
use Rattle.std.proofs.Common.{◌≡◌, [], ◌∷◌, Some, Ok, refl}
use Rattle.serde_json.specs.Data.{Data, object}
use Rattle.topo_script.specs.declared.keys.TheConstants.{CROSSING_KEYS, EDGE_KEYS, ENTRY_KEYS, GROWN_KEYS, INSERTED_KEYS, LIMITS_KEYS, REPORT_KEYS, ROWS_KEYS}
use Rattle.topo_script.specs.declared.path.JsonPath.{JsonPath}
use Rattle.topo_script.specs.Reads.{has_keys, and_then}
use Rattle.topo_script.specs.Slots.{members_of}

pub crossing_keys : (path : JsonPath) (crossed id newcomer sign : Data)
    → has_keys path CROSSING_KEYS (object (members_of CROSSING_KEYS (Some crossed ∷ Some id ∷ Some newcomer ∷ Some sign ∷ []))) ≡ Ok tt
unfolding has_keys and_then
crossing_keys path crossed id newcomer sign = refl

pub edge_keys : (path : JsonPath) (a b crossings id kind : Data)
    → has_keys path EDGE_KEYS (object (members_of EDGE_KEYS (Some a ∷ Some b ∷ Some crossings ∷ Some id ∷ Some kind ∷ []))) ≡ Ok tt
unfolding has_keys and_then
edge_keys path a b crossings id kind = refl

pub rows_keys : (path : JsonPath) (crossings edges next_crossing next_edge rotations : Data)
    → has_keys path ROWS_KEYS
    (object (members_of ROWS_KEYS (Some crossings ∷ Some edges ∷ Some next_crossing ∷ Some next_edge ∷ Some rotations ∷ []))) ≡ Ok tt
unfolding has_keys and_then
rows_keys path crossings edges next_crossing next_edge rotations = refl

pub limits_keys : (path : JsonPath) (crossings edges vertices : Data)
    → has_keys path LIMITS_KEYS (object (members_of LIMITS_KEYS (Some crossings ∷ Some edges ∷ Some vertices ∷ []))) ≡ Ok tt
unfolding has_keys and_then
limits_keys path crossings edges vertices = refl

pub grown_keys : (path : JsonPath) (edge vertex : Data) → has_keys path GROWN_KEYS (object (members_of GROWN_KEYS (Some edge ∷ Some vertex ∷ []))) ≡ Ok tt
unfolding has_keys and_then
grown_keys path edge vertex = refl

pub inserted_keys : (path : JsonPath) (crossed edge end price start : Data)
    → has_keys path INSERTED_KEYS (object (members_of INSERTED_KEYS (Some crossed ∷ Some edge ∷ Some end ∷ Some price ∷ Some start ∷ []))) ≡ Ok tt
unfolding has_keys and_then
inserted_keys path crossed edge end price start = refl

pub entry_keys : (path : JsonPath) (call caller reply : Data)
    → has_keys path ENTRY_KEYS (object (members_of ENTRY_KEYS (Some call ∷ Some caller ∷ Some reply ∷ []))) ≡ Ok tt
unfolding has_keys and_then
entry_keys path call caller reply = refl

pub report_keys : (path : JsonPath) (history limits picture prices start version : Data)
    → has_keys path REPORT_KEYS
    (object (members_of REPORT_KEYS (Some history ∷ Some limits ∷ Some picture ∷ Some prices ∷ Some start ∷ Some version ∷ []))) ≡ Ok tt
unfolding has_keys and_then
report_keys path history limits picture prices start version = refl
