use Rattle.std.proofs.Common.{ap, arith, length, List, refl, slice_index, ◌∙◌, ℕ}
use Rattle.topo_core.specs.declared.rows.CrossRow.{CrossRow}
use Rattle.topo_rows.proofs.flat.note_all.Goals as goal

pub note_blank-is_same-requires-clause-room : goal.note_blank-is_same-requires-clause-room
note_blank-is_same-requires-clause-room c =
    let long = c.deref_mut.ensures.len in
    let made = c.in_ok-resize.ensures.len in
    let same = ap (λ (cs : List CrossRow). length cs) c.as_slice.ensures in omega arith

pub note_blank-is_same-requires-clause-blank : goal.note_blank-is_same-requires-clause-blank
note_blank-is_same-requires-clause-blank c = λ i less.
    let long = c.deref_mut.ensures.len in
    let made = c.in_ok-resize.ensures.len in
    let none = c.clear.ensures.len in
    ap (λ (xs : List ℕ). slice_index xs i) c.deref_mut.ensures.value ∙ c.in_ok-resize.ensures.by_index.1 i 0 refl (omega arith) (omega arith)
