use Rattle.std.proofs.Common.{◌∙◌, ◌++◌, ◌∷◌, [], ap, arith, length, map, Some, subst, sym, ℕ}
use Rattle.std.proofs.lemmas.Option.{slice_get-get_or}
use Rattle.topo_rows.proofs.Interface.{begins_length}
use Rattle.topo_kept_rows.proofs.Interface.{ids_all, ids_more, ids_none}
use Rattle.topo_table.specs.Places.{AreBelow, present, values_in}
use Rattle.topo_embedded.specs.Making.{ArePathsOf}
use Rattle.topo_embedded.proofs.halves.KeptPaths.{values_pushed}
use Rattle.topo_embedded.proofs.halves.Listing.{path_fits, paths_more, paths_none}
use Rattle.topo_embedded.proofs.making.paths_of.Goals as goal

pub bounds-begins-place : goal.bounds-begins-place
bounds-begins-place c = let many = begins_length 0 c.args.edges.now in let same = ap length c.requires.begins in omega (arith, c.loop-place-test.true)

pub path_of-requires : goal.path_of-requires
path_of-requires c = grind (arith, slice_get-get_or, path_fits)

pub loop-place-init : goal.loop-place-init
loop-place-init c = record {
  made = paths_none c.args.edges.now c.args.begins.now c.args.halves.now (values_in c.reserve.new.self)
      (ap (λ slots. map (λ e. e.1) (present slots)) (c.reserve.ensures.same ∙ c.new-paths.ensures));
  noted = ids_none c.args.edges.now c.args.limit c.requires.rise c.reserve.new.self (c.reserve.ensures.same ∙ c.new-paths.ensures);
}

pub loop-place-preserved : goal.loop-place-preserved
loop-place-preserved c =
    let skipped = ap present c.reserve-in-loop-place.ensures.same ∙ c.skip_to.ensures.entries in
    record {
      made = paths_more c.loop-place.place c.index-edges-place.result c.in_ok-path.path c.loop-place.invariant.made
          (slice_get-get_or c.args.edges.now c.loop-place.place c.index-edges-place.result c.loop-place-test.true ∙ ap Some (sym c.index-edges-place.is))
          (grind arith) (values_pushed c.reserve-in-loop-place.new.self c.push.new.self _ c.in_ok-path.path c.push.ensures.entries
          ∙ ap (λ es. map (λ e. e.1) es ++ c.in_ok-path.path ∷ []) skipped);
      noted = ids_more c.args.edges.now c.args.limit c.requires.rise c.loop-place.place c.index-edges-place-in-loop-place.result c.loop-place.paths
          c.reserve-in-loop-place.new.self c.push.new.self c.in_ok-path.path c.loop-place-test.true c.loop-place.invariant.noted skipped
          (subst (AreBelow _) (sym c.reserve-in-loop-place.ensures.same) c.in_ok-skip_to.ensures.below) c.push.ensures.slots;
    }

pub returns-clause-paths : goal.returns-clause-paths
returns-clause-paths c = subst (λ ps. ArePathsOf c.args.edges.now c.args.begins.now c.args.halves.now (length c.args.edges.now) ps)
    (ap (λ es. map (λ e. e.1) es) (sym c.skip_to-2.ensures.entries))
    (subst (λ (k : ℕ). ArePathsOf c.args.edges.now c.args.begins.now c.args.halves.now k (values_in c.loop-place.paths))
    (omega arith) c.loop-place.invariant.made)

pub returns-clause-ids : goal.returns-clause-ids
returns-clause-ids c = ap (λ es. map (λ e. e.0) es) c.skip_to-2.ensures.entries
    ∙ (ids_all c.args.edges.now c.args.limit c.requires.rise c.loop-place.place c.loop-place.paths
    (omega (arith, c.loop-place-test.false)) c.loop-place.invariant.noted).1
