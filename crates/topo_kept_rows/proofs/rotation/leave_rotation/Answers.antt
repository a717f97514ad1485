use Rattle.std.proofs.Common.{◌∙◌, ap, sym}
use Rattle.std.specs.Prelude.{slice_get}
use Rattle.std.proofs.lemmas.Bool.{false≢true}
use Rattle.topo_kept_rows.proofs.rows.Rotating.{begins_still, first_goes}
use Rattle.topo_kept_rows.proofs.rotation.leave_rotation.Goals as goal

pub returns-then-begins_with : goal.returns-then-begins_with
returns-then-begins_with c =
    let head = ap (λ xs. slice_get xs 0) (sym c.as_slice.ensures.value) ∙ c.begins_with.ensures.head.0 c.if-begins_with.true in
    c.leave_first.ensures ∙ first_goes c.args.e c.args.ids.now.items (c.requires.once c.args.e) head

pub returns-else-begins_with : goal.returns-else-begins_with
returns-else-begins_with c =
    c.take_once.ensures
    ∙ begins_still c.args.e c.args.ids.now.items c.requires.least (λ head.
    false≢true (sym c.if-begins_with.false ∙ c.begins_with.ensures.head.1 (ap (λ xs. slice_get xs 0) c.as_slice.ensures.value ∙ head)))
