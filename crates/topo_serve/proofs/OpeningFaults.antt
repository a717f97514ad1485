-- Which faults a first line has that is the opening itself.
use Rattle.std.proofs.Common.{◌≡◌, ℕ, Bool, true, false, List, Option, Ok, Err, sym, subst}
use Rattle.std.specs.Prelude.{⊤, if◌then◌else◌}
use Rattle.serde_json.specs.Data.{Data}
use Rattle.topo_core.specs.declared.rows.Rows.{Rows}
use Rattle.topo_script.specs.declared.fault.ScriptFault.{ScriptFault}
use Rattle.topo_script.specs.declared.fault.ScriptFault.TheVariants.{Memory as NoMemory, NotJson, TooLong, BadShape, BadVersion, BadNumber}
use Rattle.topo_script.specs.declared.lines.Asked.{Asked as Asking}
use Rattle.topo_script.specs.declared.lines.Frame.TheVariants.{Opening, Bare}
use Rattle.topo_script.specs.declared.lines.Line.{Line}
use Rattle.topo_script.specs.declared.lines.LineId.{LineId}
use Rattle.topo_script.specs.declared.path.Key.TheVariants.{Call}
use Rattle.topo_script.specs.declared.scripts.LimitRows.{LimitRows}
use Rattle.topo_script.specs.declared.sessions.Opening.{Opening as Opened}
use Rattle.topo_script.specs.declared.sessions.Request.{Request}
use Rattle.topo_script.specs.declared.sessions.Request.TheVariants.{Open}
use Rattle.topo_script.specs.Paths.{whole}
use Rattle.topo_script.specs.Reads.{Read, ◌>>=◌, and_then, has_key, value_of}
use Rattle.topo_script.specs.Sessions.{bare_asked, envelope_asked, envelope_head, envelope_line, enveloped, is_opening, line_form, line_limit, line_of, line_or}
use Rattle.topo_script.specs.Sessions.{opened_form, opening_form, request_form}
use Rattle.topo_io.specs.declared.fault.RunFault.{RunFault}
use Rattle.topo_io.specs.declared.fault.RunFault.TheVariants.{Memory, Script, BadLimits, Price, Load}
use Rattle.topo_io.specs.Settings.{IsUnsound}
use Rattle.topo_session.specs.Answers.{IsBadOpening, IsFaultOfAsked}

abbrev pub IsOfOpening : RunFault → Type 0
IsOfOpening Memory = ⊤
IsOfOpening (Script fault) = ⊤
IsOfOpening BadLimits = ⊤
IsOfOpening (Price fault) = ⊤
IsOfOpening (Load fault) = ⊤
IsOfOpening _ = ⊥

unsound_of : (numbers : LimitRows) (prices : List (Option ℕ)) (start : Option Rows) (fault : RunFault) → IsUnsound numbers prices start fault
    → IsOfOpening fault
unsound_of numbers prices start Memory is = tt
unsound_of numbers prices start (Script fault) is = tt
unsound_of numbers prices start BadLimits is = tt
unsound_of numbers prices start (Price fault) is = tt
unsound_of numbers prices start (Load fault) is = tt
unsound_of numbers prices start _ is = absurd is

script_of : (script : ScriptFault) (fault : RunFault) → IsFaultOfAsked (Err script) fault → IsOfOpening fault
script_of script Memory is = tt
script_of NoMemory fault is = absurd is
script_of NotJson fault is = subst IsOfOpening (sym is) tt
script_of TooLong fault is = subst IsOfOpening (sym is) tt
script_of (BadShape path) fault is = subst IsOfOpening (sym is) tt
script_of BadVersion fault is = subst IsOfOpening (sym is) tt
script_of (BadNumber path) fault is = subst IsOfOpening (sym is) tt

-- what is read as an opening
open_of : (opening : Opened) (fault : RunFault) → IsFaultOfAsked (Ok (record { caller = 0; request = Open opening })) fault → IsOfOpening fault
open_of opening Memory is = tt
open_of opening fault is = unsound_of opening.limits opening.prices opening.start fault is

read_of : (read : Read Opened) (fault : RunFault)
    → IsFaultOfAsked ((read >>= λ (opening : Opened). Ok (Open opening)) >>= λ (request : Request). Ok (record { caller = 0; request = request })) fault
    → IsOfOpening fault
unfolding and_then
read_of (Ok opening) fault is = open_of opening fault is
read_of (Err script) fault is = script_of script fault is

-- a line in an envelope is not the opening itself
not_enveloped : (head : Read (Option LineId)) (asked : Read Asking) → (enveloped head asked).frame ≡ Opening → ⊥
not_enveloped (Ok id) asked is = cc
not_enveloped (Err fault) asked is = cc

-- which of three lines is the opening itself
by_frame : (is_enveloped opens : Bool) (line : Line) (asked other : Read Asking) (fault : RunFault) → (line.frame ≡ Opening → ⊥)
    → (IsFaultOfAsked asked fault → IsOfOpening fault)
    → (if is_enveloped then line else (if opens then record { frame = Opening; asked = asked } else record { frame = Bare; asked = other })).frame ≡ Opening
    → IsFaultOfAsked (if is_enveloped then line else (if opens then record { frame = Opening; asked = asked } else record { frame = Bare; asked = other })).asked fault
    → IsOfOpening fault
by_frame true opens line asked other fault not of frame is = absurd (not frame)
by_frame false true line asked other fault not of frame is = of is
by_frame false false line asked other fault not of frame is = cc

form_of : (d : Data) (fault : RunFault) → (line_form true d).frame ≡ Opening → IsFaultOfAsked (line_form true d).asked fault → IsOfOpening fault
unfolding line_form envelope_line bare_asked opened_form
form_of d fault frame is =
    by_frame (has_key Call d) (is_opening d) (envelope_line d) (bare_asked opened_form d) (bare_asked request_form d) fault
    (not_enveloped (envelope_head d) (envelope_asked d)) (read_of (opening_form whole d) fault) frame is

value_of_line : (read : Read Data) (fault : RunFault) → (line_or true read).frame ≡ Opening → IsFaultOfAsked (line_or true read).asked fault
    → IsOfOpening fault
value_of_line (Ok d) fault frame is = form_of d fault frame is
value_of_line (Err script) fault frame is = script_of script fault is

pub bad_opening : (bytes : List ℕ) (fault : RunFault) → IsBadOpening (line_of true bytes) fault → IsOfOpening fault
unfolding line_of
bad_opening bytes fault is = value_of_line (value_of (line_limit true bytes) bytes) fault is.frame is.is
