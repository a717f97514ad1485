use Rattle.std.proofs.Common.{◌≡◌, ◌<◌, ◌++◌, ◌∷◌, [], arith, get_or, length, List, refl, set, subst, sym, ℕ}
use Rattle.topo_kept_rows.proofs.Interface.{when_ok}
use Rattle.topo_table.specs.Places.{ids_in, place_in, values_in}
use Rattle.topo_embedded.specs.declared.padding.Crossed.{Crossed}
use Rattle.topo_embedded.specs.Padding.{IsPlaced}
use Rattle.topo_embedded.proofs.halves.KeptPaths.{ids_many, kept_on}
use Rattle.topo_embedded.proofs.inserting.Pads.{pad_more, padded_none, placed_within}
use Rattle.topo_embedded.proofs.padding.pad_some.Goals as goal

pub loop-i-init : goal.loop-i-init
loop-i-init c = record {
  padded = padded_none (ids_in c.args.paths.now) (values_in c.args.paths.now) c.args.crossed.now;
  kept = (refl, (refl, refl));
}

pub pad_path-requires : goal.pad_path-requires
pad_path-requires c =
    let cross : Crossed = c.index-crossed-i.result in
    let here : IsPlaced (ids_in c.args.paths.now) cross =
    subst (IsPlaced (ids_in c.args.paths.now)) (sym c.index-crossed-i.is) (c.requires c.loop-i.i c.index-crossed-i.result c.loop-i-test.true) in
    subst (λ (ids : List ℕ). IsPlaced ids cross) (sym c.loop-i.invariant.kept.0) here

pub loop-i-preserved : goal.loop-i-preserved
loop-i-preserved c =
    let cross : Crossed = c.index-crossed-i.result in
    let here : IsPlaced (ids_in c.args.paths.now) cross =
    subst (IsPlaced (ids_in c.args.paths.now)) (sym c.index-crossed-i.is) (c.requires c.loop-i.i c.index-crossed-i.result c.loop-i-test.true) in
    let ids = ids_in c.args.paths.now in
    let ok = when_ok c.pad_path.result (sym c.if-is_err.ensures.value) c.pad_path.ensures.ok in
    let some = when_ok c.pad_path.result (sym c.if-is_err.ensures.value) c.pad_path.ensures.some in
    record {
      padded = pad_more c.args.crossed.now c.loop-i.i cross c.loop-i.invariant.padded c.loop-i-test.true c.index-crossed-i.is
          (let less = placed_within ids cross.dart.edge here in
          let many = ids_many c.args.paths.now in omega arith)
          (subst (λ (ids : List ℕ). values_in c.pad_path.new.paths ≡ set (values_in c.loop-i.paths) (place_in ids cross.dart.edge)
          (get_or (values_in c.loop-i.paths) (place_in ids cross.dart.edge) [] ++ 0 ∷ [])) c.loop-i.invariant.kept.0 ok)
          (subst (λ (ids : List ℕ). 0 < length (get_or (values_in c.loop-i.paths) (place_in ids cross.dart.edge) [])) c.loop-i.invariant.kept.0 some);
      kept = kept_on c.args.paths.now c.loop-i.paths c.pad_path.new.paths c.loop-i.invariant.kept c.pad_path.ensures.same;
    }
