use Rattle.std.proofs.Common.{◌≡◌, ◌-◌, ◌+◌, ◌∙◌, ap, arith, take}
use Rattle.std.specs.Prelude.{filter, map, nat_lt}
use Rattle.topo_table.proofs.Interface.{places_on}
use Rattle.topo_kept_rows.specs.Inserting.{crossed_by, repathed}
use Rattle.topo_kept_rows.specs.Keeping.{edges_of}
use Rattle.topo_kept_rows.proofs.rows.CrossedRows.{crossed_by_none, one_less}
use Rattle.topo_kept_rows.proofs.insertion.uncross.Goals as goal

pub loop-n-preserved : goal.loop-n-preserved
loop-n-preserved c =
    let first = c.args.first in
    let darts = c.args.darts.now in
    let n = c.loop-n.n - 1 in
    let d = c.index-darts-n.result in
    let edges = edges_of c.loop-n.edges in
    let more : c.loop-n.n ≡ n + 1 = omega arith in
    record {
      within = omega arith;
      crossed = λ was old is. one_less first n darts d was edges (edges_of c.uncross_edge.new.edges) (omega arith) old
          (c.loop-n.invariant.crossed was old is ∙ ap (λ m. map (crossed_by first (take m darts)) was) more)
          (c.uncross_edge.ensures.edges
          ∙ ap (λ e. map (repathed e (filter (λ x. nat_lt x (first + n)))) edges) c.number.ensures);
      places = places_on c.args.edges.now c.loop-n.edges c.uncross_edge.new.edges c.loop-n.invariant.places c.uncross_edge.ensures.places;
      own = c.uncross_edge.ensures.own;
    }

pub returns-clause-edges : goal.returns-clause-edges
returns-clause-edges c = λ was old is.
    let none : c.loop-n.n ≡ 0 = omega arith in
    c.loop-n.invariant.crossed was old is
    ∙ ap (λ m. map (crossed_by c.args.first (take m c.args.darts.now)) was) none
    ∙ crossed_by_none c.args.first was

pub returns-clause-places : goal.returns-clause-places
returns-clause-places c = c.loop-n.invariant.places
