use Rattle.std.proofs.Common.{ℕ, ◌≡◌, ◌∙◌, ap, arith, sym, drop, take, ◌++◌}
use Rattle.std.specs.Prelude.{◌==◌, fold, min}
use Rattle.std.specs.List.{position_or_len}
use Rattle.topo_kept_rows.proofs.rows.Leaving.{from_its_place}
use Rattle.topo_kept_rows.proofs.rotation.begin_at_least.Goals as goal

pub rotate_left-requires : goal.rotate_left-requires
rotate_left-requires c =
    let at = from_its_place c.args.ids.now c.in-Some.first.now (sym c.in-Some.ensures.value) in
    let place : c.place_of-place.result ≡ position_or_len (λ y. y == fold min c.in-Some.first.now c.args.ids.now) c.args.ids.now =
    c.place_of-place.ensures ∙ ap (λ (m : ℕ). position_or_len (λ y. y == m) c.args.ids.now) c.least_of-least.ensures in
    omega (arith, at.0, place)

pub returns-in-Some : goal.returns-in-Some
returns-in-Some c =
    let place : c.place_of-place.result ≡ position_or_len (λ y. y == fold min c.in-Some.first.now c.args.ids.now) c.args.ids.now =
    c.place_of-place.ensures ∙ ap (λ (m : ℕ). position_or_len (λ y. y == m) c.args.ids.now) c.least_of-least.ensures in
    c.rotate_left.ensures.after ∙ ap (λ (n : ℕ). drop n c.args.ids.now ++ take n c.args.ids.now) place
    ∙ (from_its_place c.args.ids.now c.in-Some.first.now (sym c.in-Some.ensures.value)).1
