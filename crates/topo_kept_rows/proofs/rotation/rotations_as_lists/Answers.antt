use Rattle.std.proofs.Common.{◌≡◌, ◌∙◌, length, map-id, rules, sym}
use Rattle.std.proofs.lemmas.Iterator.Adapters.{YieldsList-from_vec}
use Rattle.std.proofs.lemmas.Iterator.Consumers.{YieldsList-end}
use Rattle.topo_kept_rows.proofs.rotation.rotations_as_lists.Goals as goal

pub returns : goal.returns
returns c =
    let h = c.into_iter-rotation-iterator.ensures.into_iter_gives in
    let len : c.into_iter-rotation-iterator.result.rest.len ≡ length c.into_vec-rotation-items.result.items = search rules in
    let t = YieldsList-end (YieldsList-from_vec {s = c.into_iter-rotation-iterator.result} c.into_vec-rotation-items.result.items h.0 len)
    c.loop-rotation.yielded c.loop-rotation.rotation-iterator c.loop-rotation.yielded_by c.next.result c.next.new.self c.in-None.is c.next.ensures.steps in
    c.loop-rotation.invariant ∙ sym (map-id c.loop-rotation.yielded) ∙ t.0 ∙ c.into_vec-rotation-items.ensures
