use Rattle.std.proofs.Common.{List, Option, length}
use Rattle.json.specs.Token.{Token}
use Rattle.serde_json.specs.Data.{Data, Members, no_members}
use Rattle.topo_script.specs.Slots.{MembersTo, members_of}
use Rattle.topo_script.proofs.slots.read_members.Given as goal

-- the slots hold the members so far, and those that are still to come are put to them
abbrev pub invariant-members : goal.invariant-members
invariant-members g l =
    (values : List (Option Data)) × g.S.Slots.holds l.slots values × ((ms : Members) (rest : List Token)
    → MembersTo g.S.Slots.nesting l.reader (members_of l.keys values) ms rest → MembersTo g.S.Slots.nesting l.initial.reader no_members ms rest)

abbrev pub decreases-members : goal.decreases-members
decreases-members g l = length l.reader
