use Rattle.std.proofs.Common.{◌≡◌, ◌-◌, ◌+◌, ◌<◌, [], ap, refl, arith, get_or, length, List, set, subst, sym, take, ℕ, ◌∙◌}
use Rattle.std.proofs.lemmas.List.{take_all}
use Rattle.topo_table.specs.Places.{ids_in, place_in, values_in}
use Rattle.topo_embedded.specs.declared.padding.Crossed.{Crossed}
use Rattle.topo_embedded.specs.Padding.{ArePadded, IsPlaced}
use Rattle.topo_embedded.proofs.halves.KeptPaths.{ids_many, kept_on}
use Rattle.topo_embedded.proofs.inserting.Pads.{no_pads, pad_less, placed_within}
use Rattle.topo_embedded.proofs.padding.unpad.Goals as goal

pub loop-n-init : goal.loop-n-init
loop-n-init c = record {
  within = omega arith;
  padded = λ was p. grind (arith, take_all);
  kept = (refl, (refl, refl));
}

pub unpad_path-requires : goal.unpad_path-requires
unpad_path-requires c =
    let n : ℕ = c.loop-n.n - 1 in
    let less : n < length c.args.crossed.now = omega (arith, c.loop-n.invariant.within) in
    subst (λ (ids : List ℕ). IsPlaced ids c.index-crossed-n.result) (sym c.loop-n.invariant.kept.0)
    (subst (IsPlaced (ids_in c.args.paths.now)) (sym c.index-crossed-n.is) (c.requires n c.index-crossed-n.result less))

pub loop-n-preserved : goal.loop-n-preserved
loop-n-preserved c =
    let n : ℕ = c.loop-n.n - 1 in
    let more : c.loop-n.n ≡ n + 1 = omega arith in
    let less : n < length c.args.crossed.now = omega (arith, c.loop-n.invariant.within) in
    let cross : Crossed = c.index-crossed-n.result in
    let ids = ids_in c.args.paths.now in
    let same = c.loop-n.invariant.kept.0 in
    let shorter = c.unpad_path.ensures.path in
    let placed = placed_within ids cross.dart.edge
    (subst (IsPlaced ids) (sym c.index-crossed-n.is) (c.requires n c.index-crossed-n.result less)) in
    record {
      within = omega (arith, c.loop-n.invariant.within);
      padded = λ was p.
          let many : length (values_in c.args.paths.now) ≡ length was = p.as_many in
          let all = ids_many c.args.paths.now in
          pad_less c.args.crossed.now n cross shorter.path
          (subst (λ (k : ℕ). ArePadded ids (λ hs. hs) was (take k c.args.crossed.now) (values_in c.loop-n.paths)) more (c.loop-n.invariant.padded was p)) less
          c.index-crossed-n.is (omega (arith, placed, many, all))
          (shorter.put ∙ ap (λ (ids : List ℕ). set (values_in c.loop-n.paths) (place_in ids cross.dart.edge) shorter.path) same)
          (λ xs x held is. shorter.is xs x held
          (ap (λ (ids : List ℕ). get_or (values_in c.loop-n.paths) (place_in ids cross.dart.edge) []) same ∙ is));
      kept = kept_on c.args.paths.now c.loop-n.paths c.unpad_path.new.paths c.loop-n.invariant.kept c.unpad_path.ensures.same;
    }

pub returns-clause-paths : goal.returns-clause-paths
returns-clause-paths c = λ was p.
    let none : c.loop-n.n ≡ 0 = omega arith in
    no_pads (ids_in c.args.paths.now) was (values_in c.loop-n.paths) c.args.crossed.now
    (subst (λ (k : ℕ). ArePadded (ids_in c.args.paths.now) (λ hs. hs) was (take k c.args.crossed.now) (values_in c.loop-n.paths)) none
    (c.loop-n.invariant.padded was p))

pub returns-clause-same : goal.returns-clause-same
returns-clause-same c = c.loop-n.invariant.kept
