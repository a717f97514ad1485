use Rattle.std.proofs.Common.{ap, length, None, sym, ◌∙◌}
use Rattle.indexmap.specs.Layout.{length-set_value_at}
use Rattle.topo_table.specs.Places.{entries, ids_of, present}
use Rattle.topo_table.proofs.PlaceLemmas.{Rises-from_increasing, below_same, ids_of-set_value_at, present-emptied, was_value, without_id-none}
use Rattle.topo_table.proofs.numbered.NumberedTable.remove.Goals as goal

pub returns-in_err-place-clause-entries : goal.returns-in_err-place-clause-entries
returns-in_err-place-clause-entries g c = sym (without_id-none c.args.id (entries c.args.self.now) c.in_err-place.ensures.none)

pub returns-clause-value : goal.returns-clause-value
returns-clause-value g c = sym (was_value c.args.self.now c.take.new.self c.take.new.self c.args.id c.in_ok-place.place c.in_ok-place.ensures.there
    c.in_ok-place.ensures.rise c.take.ensures.slots c.take.ensures.room c.take.result c.take.ensures.value)

pub returns-clause-entries : goal.returns-clause-entries
returns-clause-entries g c =
    let live = c.in_ok-place.ensures.there in
    ap present c.take.ensures.slots
    ∙ (present-emptied c.args.self.now.slots c.in_ok-place.place c.args.id live.value (Rises-from_increasing _ c.in_ok-place.ensures.rise) live.at).0

pub returns-clause-below : goal.returns-clause-below
returns-clause-below g c = λ limit below. below_same limit c.args.self.now.slots c.take.new.self.slots
    (ap ids_of c.take.ensures.slots ∙ ids_of-set_value_at c.args.self.now.slots c.in_ok-place.place _) below

pub returns-clause-count : goal.returns-clause-count
returns-clause-count g c = ap length c.take.ensures.slots ∙ length-set_value_at c.args.self.now.slots c.in_ok-place.place None
