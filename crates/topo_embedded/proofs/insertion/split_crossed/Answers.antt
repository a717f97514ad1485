use Rattle.std.proofs.Common.{◌≡◌, ◌<◌, ◌+◌, ◌-◌, [], ap, arith, get_or, length, List, refl, set, subst, sym, ℕ, ◌∙◌}
use Rattle.topo_table.specs.Places.{ids_in, place_in, values_in}
use Rattle.topo_embedded.specs.declared.padding.Crossed.{Crossed}
use Rattle.topo_embedded.specs.Crossing.{AreSplitFrom, IsMarked, ids_of_edges}
use Rattle.topo_embedded.specs.Padding.{IsPlaced}
use Rattle.topo_embedded.proofs.guided.Going.{goes_further, goes_nowhere, goes_split}
use Rattle.topo_embedded.proofs.halves.KeptPaths.{kept_on}
use Rattle.topo_embedded.proofs.inserting.Splits.{IsHalfSplit, marked_alive, marked_here, marked_placed, same_many, split_all, split_more, split_none}
use Rattle.topo_embedded.proofs.insertion.split_crossed.Goals as goal

pub loop-n-init : goal.loop-n-init
loop-n-init g c = record {
  split = split_none g.p c.requires.0.formed c.args.segments.now c.requires.0.shows c.laws.ensures c.args.crossed.now (values_in c.args.paths.now)
      c.requires.0.marked c.requires.0.padded;
  kept = (refl, (refl, refl));
  bounds = goes_nowhere c.args.segments.now;
}

pub split-beyond-requires-clause-live : goal.split-beyond-requires-clause-live
split-beyond-requires-clause-live g c =
    let n : ℕ = c.loop-n.n - 1 in
    let cross : Crossed = c.index-crossed-n.result in
    let within = c.loop-n.invariant.split.within in
    let less : n < length c.loop-n.crossed = omega (arith, within) in
    let is : IsMarked g.p cross = subst (IsMarked g.p) (sym c.index-crossed-n.is) (c.loop-n.invariant.split.marked n cross less) in
    marked_alive g.p c.requires.0.formed c.args.segments.now c.requires.0.shows c.laws.ensures c.loop-n.segments c.args.crossed.now c.loop-n.crossed c.loop-n.n
    cross (values_in c.loop-n.paths) c.loop-n.invariant.split is

pub split-beyond-requires-clause-room : goal.split-beyond-requires-clause-room
split-beyond-requires-clause-room g c = grind (arith, same_many)

pub split_path-requires : goal.split_path-requires
split_path-requires g c =
    let n : ℕ = c.loop-n.n - 1 in
    let cross : Crossed = c.index-crossed-n.result in
    let within = c.loop-n.invariant.split.within in
    let less : n < length c.loop-n.crossed = omega (arith, within) in
    let is : IsMarked g.p cross = subst (IsMarked g.p) (sym c.index-crossed-n.is) (c.loop-n.invariant.split.marked n cross less) in
    subst (λ (ids : List ℕ). IsPlaced ids cross) (sym (c.loop-n.invariant.kept.0 ∙ c.requires.1.1))
    (marked_here g.p c.requires.0.formed c.args.segments.now c.requires.0.shows cross is)

pub loop-n-preserved : goal.loop-n-preserved
loop-n-preserved g c =
    let n : ℕ = c.loop-n.n - 1 in
    let cross : Crossed = c.index-crossed-n.result in
    let more : c.loop-n.n ≡ n + 1 = omega arith in
    let within = c.loop-n.invariant.split.within in
    let less : n < length c.loop-n.crossed = omega (arith, within) in
    let is : IsMarked g.p cross = subst (IsMarked g.p) (sym c.index-crossed-n.is) (c.loop-n.invariant.split.marked n cross less) in
    let placed = marked_placed g.p c.requires.0.formed c.args.segments.now c.requires.0.shows cross is in
    let ids : ids_in c.loop-n.paths ≡ ids_of_edges g.p.rows = c.loop-n.invariant.kept.0 ∙ c.requires.1.1 in
    let put = c.split_path.ensures.path in
    let done : IsHalfSplit c.loop-n.segments c.split-beyond.new.self cross.near c.split-beyond.result =
    record { edit = c.split-beyond.ensures.edit; grows = c.split-beyond.ensures.grows; label = c.split-beyond.ensures.label } in
    record {
      split = subst (λ (ps : List (List ℕ)). AreSplitFrom g.p c.args.segments.now c.split-beyond.new.self c.args.crossed.now
          (set c.loop-n.crossed n (record { dart = cross.dart; near = cross.near; beyond = c.split-beyond.result })) n ps)
          (sym (put.put ∙ ap (λ (ids : List ℕ). set (values_in c.loop-n.paths) (place_in ids cross.dart.edge) put.path) ids))
          (split_more g.p c.requires.0.formed c.args.segments.now c.requires.0.shows c.laws.ensures n cross put.path
          c.requires.0.once less c.index-crossed-n.is placed
          (subst (λ (k : ℕ). AreSplitFrom g.p c.args.segments.now c.loop-n.segments c.args.crossed.now c.loop-n.crossed k (values_in c.loop-n.paths)) more
          c.loop-n.invariant.split)
          done
          (λ xs ys h last is. put.is xs ys h last
          (ap (λ (ids : List ℕ). get_or (values_in c.loop-n.paths) (place_in ids cross.dart.edge) []) ids ∙ is)));
      kept = kept_on c.args.paths.now c.loop-n.paths c.split_path.new.paths c.loop-n.invariant.kept c.split_path.ensures.same;
      bounds = λ b. goes_further (c.loop-n.invariant.bounds b) (goes_split cross.near c.laws-in-loop-n.ensures
          (marked_alive g.p c.requires.0.formed c.args.segments.now c.requires.0.shows c.laws.ensures c.loop-n.segments c.args.crossed.now c.loop-n.crossed
          c.loop-n.n cross (values_in c.loop-n.paths) c.loop-n.invariant.split is) c.split-beyond.ensures.grows c.split-beyond.ensures.label
          c.split-beyond.ensures.faces b);
    }

pub returns-clause-split : goal.returns-clause-split
returns-clause-split g c =
    (split_all g.p c.requires.0.formed c.args.segments.now c.requires.0.shows c.laws.ensures c.loop-n.segments c.args.crossed.now c.loop-n.crossed c.loop-n.n
    (values_in c.loop-n.paths) (omega arith) c.loop-n.invariant.split).0

pub returns-clause-paths : goal.returns-clause-paths
returns-clause-paths g c =
    (split_all g.p c.requires.0.formed c.args.segments.now c.requires.0.shows c.laws.ensures c.loop-n.segments c.args.crossed.now c.loop-n.crossed c.loop-n.n
    (values_in c.loop-n.paths) (omega arith) c.loop-n.invariant.split).1

pub returns-clause-room : goal.returns-clause-room
returns-clause-room g c = grind (arith, same_many)

pub returns-clause-bounds : goal.returns-clause-bounds
returns-clause-bounds g c = c.loop-n.invariant.bounds

pub returns-clause-same : goal.returns-clause-same
returns-clause-same g c = c.loop-n.invariant.kept
