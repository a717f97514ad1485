use Rattle.std.proofs.Common.{◌≡◌, map, take}
use Rattle.fezdrok_c.specs.Given.{meeting_item}
use Rattle.fezdrok_c.proofs.given.meeting_items.Given as goal

abbrev pub invariant-loop-meeting : goal.invariant-loop-meeting
invariant-loop-meeting l = l.items.items ≡ map meeting_item (take l.meeting-index l.meetings)
