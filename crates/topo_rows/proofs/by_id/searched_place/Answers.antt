use Rattle.std.proofs.Common.{◌≡◌, ◌+◌, ◌/◌, ◌∙◌, ap, arith, get_or, sym}
use Rattle.topo_rows.proofs.Finding.{finds_none, named_read, none_below, none_from, placed_read}
use Rattle.topo_rows.proofs.by_id.searched_place.Goals as goal
use Rattle.topo_rows.proofs.by_id.searched_place.Goals.{then-id, else-id}

pub loop-left-preserved : goal.loop-left-preserved
loop-left-preserved g c =
    let base = c.loop-left.base in
    let left = c.loop-left.left in
    let middle = base + left / 2 in
    let inside = c.loop-left.invariant.within in
    let read = ap g.T.Identified.id_of c.index-rows-middle.is in
    elim c.if-id.branch [
      | then-id w ↦ (let is = w.base-is in record {
        some = omega arith;
        within = omega arith;
        before = λ i x at named. omega (
          arith,
          none_below g.T.Identified.id_of c.args.rows.now c.args.id c.requires middle c.index-rows-middle.result
              (omega arith) (omega (arith, c.id.ensures, w.if-id.true)) i x at named,
        );
        behind = λ i x at named. omega (arith, c.loop-left.invariant.behind i x at named);
      })
      | else-id w ↦ (let is = w.base-is in record {
        some = omega arith;
        within = omega arith;
        before = λ i x at named. omega (arith, c.loop-left.invariant.before i x at named);
        behind = λ i x at named. omega (
          arith,
          none_from g.T.Identified.id_of c.args.rows.now c.args.id c.requires middle c.index-rows-middle.result
              (omega arith) (omega (arith, c.id.ensures, w.if-id.false)) i x at named,
        );
      })
    ]

pub returns-then-id-2 : goal.returns-then-id-2
returns-then-id-2 g c = grind (arith, placed_read)

pub returns-else-id-2 : goal.returns-else-id-2
returns-else-id-2 g c =
    finds_none g.T.Identified.id_of c.args.rows.now c.args.id c.requires (λ i x at named.
    let same : i ≡ c.loop-left.base =
    omega (arith, c.loop-left-test.false, c.loop-left.invariant.some, c.loop-left.invariant.before i x at named, c.loop-left.invariant.behind i x at named) in
    c.if-id-2.false (c.id-2.ensures ∙ ap g.T.Identified.id_of c.index-rows-base.is
    ∙ ap (λ k. g.T.Identified.id_of (get_or c.args.rows.now k c.index-rows-base.result)) (sym same)
    ∙ named_read g.T.Identified.id_of c.args.rows.now c.args.id c.requires i x c.index-rows-base.result at named))
