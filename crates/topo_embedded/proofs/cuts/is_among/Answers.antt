use Rattle.std.proofs.Common.{◌≡◌, ◌-◌, arith, inl, inr, refl, sym, true, false, ◌∙◌}
use Rattle.std.specs.Prelude.{nat_lt, slice_index_or}
use Rattle.std.proofs.lemmas.Bool.{cases_lt}
use Rattle.std.proofs.lemmas.Bool.Decides.{nat_tests}
use Rattle.topo_embedded.proofs.halves.FaceWalks.{lies_before, lies_behind, on_path, out_inside}
use Rattle.topo_embedded.proofs.halves.OnSegments.{found_on, way_on}
use Rattle.topo_embedded.proofs.cuts.is_among.Goals as goal

pub is_at-requires : goal.is_at-requires
is_at-requires c = let (p, r, d, b) = c.requires in out_inside p r d.edge c.args.out c.args.path.now b.opened

pub returns-then-is_at : goal.returns-then-is_at
returns-then-is_at c = λ p r d b.
    let (way, is) = way_on c.args.half (slice_index_or c.args.path.now c.args.out 0) (sym c.is_at.ensures ∙ c.if-is_at.true) in
    sym (lies_behind p r d.edge c.args.out c.args.path.now b.opened d b.there c.args.half b.named refl c.args.out way
    (out_inside p r d.edge c.args.out c.args.path.now b.opened) is (omega arith))

pub is_at-requires-then-out-gt0 : goal.is_at-requires-then-out-gt0
is_at-requires-then-out-gt0 c = let (p, r, d, b) = c.requires in let inside = out_inside p r d.edge c.args.out c.args.path.now b.opened in omega (arith, inside)

pub returns-then-is_at-2 : goal.returns-then-is_at-2
returns-then-is_at-2 c = λ p r d b.
    let (way, is) = way_on c.args.half (slice_index_or c.args.path.now (c.args.out - 1) 0) (sym c.is_at-then-out-gt0.ensures ∙ c.if-is_at-2.true) in
    let inside = out_inside p r d.edge c.args.out c.args.path.now b.opened in
    let some = c.if-out-gt0.true in
    sym (lies_before p r d.edge c.args.out c.args.path.now b.opened d b.there c.args.half b.named refl (c.args.out - 1) way (omega (arith, inside)) is
    (omega (arith, some)))

pub returns : goal.returns
returns c = λ p r d b.
    let there = on_path p r d.edge c.args.out c.args.path.now b.opened d b.there c.args.half b.named refl in
    let at = found_on c.args.path.now c.args.half c.place_of.result there c.place_of.ensures in
    let (way, is) = way_on c.args.half (slice_index_or c.args.path.now c.place_of.result 0) at.on in
    elim (cases_lt c.place_of.result c.args.out) [
      | inl less ↦ (let before : nat_lt c.place_of.result c.args.out ≡ true = grind (arith, nat_tests) in before)
          ∙ sym (lies_before p r d.edge c.args.out c.args.path.now b.opened d b.there c.args.half b.named refl c.place_of.result way at.within is less)
      | inr past ↦ (let behind : nat_lt c.place_of.result c.args.out ≡ false = grind (arith, nat_tests) in behind)
          ∙ sym (lies_behind p r d.edge c.args.out c.args.path.now b.opened d b.there c.args.half b.named refl c.place_of.result way at.within is past)
    ]
