use Rattle.std.proofs.Common.{◌+◌, ◌∙◌, ap, arith, refl, sym}
use Rattle.std.specs.Prelude.{map}
use Rattle.std.proofs.lemmas.List.{take_all}
use Rattle.topo_core.specs.declared.darts.Dart.{Dart}
use Rattle.topo_table.proofs.Interface.{places_on}
use Rattle.topo_kept_rows.specs.Inserting.{crossed_path, repathed}
use Rattle.topo_kept_rows.specs.Keeping.{edges_of}
use Rattle.topo_kept_rows.proofs.rows.CrossedRows.{crossed_by_none, one_more, when_err, when_ok}
use Rattle.topo_kept_rows.proofs.insertion.cross_some.Goals as goal

pub loop-i-init : goal.loop-i-init
loop-i-init c = record { crossed = sym (crossed_by_none c.args.first (edges_of c.args.edges.now)); places = (refl, refl); own = c.requires.own }

pub returns-then-is_err-clause-crossed : goal.returns-then-is_err-clause-crossed
returns-then-is_err-clause-crossed c = when_err c.cross_edge.result (sym c.if-is_err.ensures.value) c.cross_edge.ensures.err ∙ c.loop-i.invariant.crossed

pub returns-then-is_err-clause-places : goal.returns-then-is_err-clause-places
returns-then-is_err-clause-places c = places_on c.args.edges.now c.loop-i.edges c.cross_edge.new.edges c.loop-i.invariant.places c.cross_edge.ensures.places

pub loop-i-preserved : goal.loop-i-preserved
loop-i-preserved c =
    let first = c.args.first in
    let darts = c.args.darts.now in
    let i = c.loop-i.i in
    let d = c.index-darts-i.result in
    let edges = edges_of c.loop-i.edges in
    record {
      crossed = one_more first i darts d (edges_of c.args.edges.now) edges
          (edges_of c.cross_edge.new.edges) c.loop-i-test.true c.requires.below c.requires.there
          c.loop-i.invariant.crossed
          (when_ok c.cross_edge.result (sym c.if-is_err.ensures.value) c.cross_edge.ensures.ok
          ∙ ap (λ e. map (repathed e (crossed_path first d.seg (first + i))) edges) c.number.ensures
          ∙ ap (λ (d : Dart). map (repathed d.edge (crossed_path first d.seg (first + i))) edges) c.index-darts-i.is);
      places = places_on c.args.edges.now c.loop-i.edges c.cross_edge.new.edges c.loop-i.invariant.places c.cross_edge.ensures.places;
      own = c.cross_edge.ensures.own;
    }

pub returns-clause-crossed : goal.returns-clause-crossed
returns-clause-crossed c = grind (arith, take_all)

pub returns-clause-places : goal.returns-clause-places
returns-clause-places c = c.loop-i.invariant.places
