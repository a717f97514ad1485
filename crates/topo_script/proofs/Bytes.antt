-- What bytes spell.
use Rattle.std.proofs.Common.{◌≡◌, ℕ, ◌<◌, ◌≤◌, Bool, true, false, List, length, Option, Some, None, Err, refl, IsUtf8, lt-ltb}
use Rattle.std.specs.Str.{is_utf8}
use Rattle.std.proofs.lemmas.Bool.{le-ltb}
use Rattle.std.proofs.lemmas.Str.{IsUtf8-from_is_utf8, is_utf8-from_IsUtf8}
use Rattle.serde_json.specs.Data.{Data}
use Rattle.serde_json.specs.Read.{read}
use Rattle.topo_script.specs.declared.fault.ScriptFault.TheVariants.{NotJson, TooLong}
use Rattle.topo_script.specs.Reads.{value_of, and_then, json_of, due}

pub too_long : (limit : ℕ) (bytes : List ℕ) → limit < length bytes → value_of limit bytes ≡ Err TooLong
unfolding value_of and_then
too_long limit bytes h = rw (lt-ltb limit (length bytes) h)

pub within : (limit : ℕ) (bytes : List ℕ) (o : Option Data) → length bytes ≤ limit → json_of bytes ≡ o → value_of limit bytes ≡ due NotJson o
unfolding value_of and_then
within limit bytes o h e = rw (le-ltb limit (length bytes) h, e)

pub json_of-read : (bytes : List ℕ) (d : Data) → IsUtf8 bytes → read bytes ≡ Some d → json_of bytes ≡ Some d
json_of-read bytes d utf8 e = rw (is_utf8-from_IsUtf8 bytes utf8, e)

none_by : (bytes : List ℕ) (b : Bool) → is_utf8 bytes ≡ b → (IsUtf8 bytes → read bytes ≡ None) → json_of bytes ≡ None
none_by bytes true e h = rw e (h (IsUtf8-from_is_utf8 bytes e))
none_by bytes false e h = rw e

pub json_of-none : (bytes : List ℕ) → (IsUtf8 bytes → read bytes ≡ None) → json_of bytes ≡ None
json_of-none bytes h = none_by bytes (is_utf8 bytes) refl h
