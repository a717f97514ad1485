use Rattle.std.proofs.Common.{◌≡◌, ap, arith, sym, ◌∙◌}
use Rattle.std.specs.Prelude.{◌==◌}
use Rattle.std.specs.List.{position_or_len, remove}
use Rattle.topo_kept_rows.proofs.rows.Rotating.{none_there, removed_once}
use Rattle.topo_kept_rows.proofs.rotation.take_once.Goals as goal

pub returns-then-place-len : goal.returns-then-place-len
returns-then-place-len c =
    let ids = c.args.ids.now.items in
    let place : c.place_of-place.result ≡ position_or_len (λ y. y == c.args.id) ids = c.place_of-place.ensures
    ∙ ap (position_or_len (λ y. y == c.args.id)) c.as_slice.ensures.value in
    c.remove.ensures.items ∙ ap (remove ids) place
    ∙ removed_once c.args.id ids c.requires (omega (arith, place, c.if-place-len.true, c.len.ensures, c.type_inv.ids))

pub returns-else-place-len : goal.returns-else-place-len
returns-else-place-len c =
    let ids = c.args.ids.now.items in
    let place : c.place_of-place.result ≡ position_or_len (λ y. y == c.args.id) ids = c.place_of-place.ensures
    ∙ ap (position_or_len (λ y. y == c.args.id)) c.as_slice.ensures.value in
    sym (none_there c.args.id ids (omega (arith, place, c.if-place-len.false, c.len.ensures, c.args.ids.now.ok.0)))
