use Rattle.std.proofs.Common.{◌≡◌, ◌<◌, Some, ap, length, get_or, subst, sym, ◌∙◌}
use Rattle.topo_core.specs.declared.darts.Dart.{Dart}
use Rattle.topo_core.specs.Insertions.{IsInsertable}
use Rattle.topo_core.specs.Picture.{corner}
use Rattle.topo_core.specs.Routes.{IsSimpleRoute}
use Rattle.topo_embedded.specs.Crossing.{IsMarked, crossed_darts}
use Rattle.topo_embedded.specs.Halves.{RowsWithPaths, half_in}
use Rattle.topo_embedded.proofs.guided.Fitting.{corner_names}
use Rattle.topo_embedded.proofs.inserting.Routed.{inserted_formed}
use Rattle.topo_embedded.proofs.embedded.Embedded.insert.Goals as goal

pub invariant_of-self : goal.invariant_of-self
invariant_of-self c = (
  inserted_formed c.insert.result c.self.view_is c.self.invariant.0 c.requires.insertable c.insert.ensures.ok c.insert.ensures.err,
  c.insert.ensures.shows,
  c.insert.ensures.kept,
  c.insert.ensures.searches,
)

pub insert-requires-clause-ready : goal.insert-requires-clause-ready
insert-requires-clause-ready c =
    let u = c.args.ends.0 in
    let v = c.args.ends.1 in
    let route = c.args.route.now in
    let now = c.args.self.now in
    record {
      formed = c.self.invariant.0;
      shows = c.self.invariant.1;
      insertable = subst (λ (q : RowsWithPaths). IsInsertable q.rows u v c.args.kind route) (sym c.self.view_is) c.requires.insertable;
      simple = subst (λ (q : RowsWithPaths). IsSimpleRoute q.rows u v route) (sym c.self.view_is) c.requires.simple;
      marked = λ k d less. subst (λ (q : RowsWithPaths). IsMarked q (get_or c.deref_mut.result.now k d))
          (sym c.self.view_is) (subst (λ items. IsMarked c.args.self.now (get_or items k d)) (sym c.deref_mut.ensures.value)
          (c.in_ok-crossed.ensures.marked k d (subst (λ items. k < length items) c.deref_mut.ensures.value less)));
      darts = ap crossed_darts c.deref_mut.ensures.value ∙ c.in_ok-crossed.ensures.darts ∙ c.as_slice.ensures;
      starts = subst (λ (q : RowsWithPaths). (d : Dart) → corner q.rows u route.start ≡ Some d → c.in-Some.start ≡ half_in q d) (sym c.self.view_is)
          (corner_names now c.corner.result c.in-Some.start u route.start c.corner.ensures c.in-Some.is);
      ends = subst (λ (q : RowsWithPaths). (d : Dart) → corner q.rows v route.end ≡ Some d → c.in-Some-corner.end ≡ half_in q d) (sym c.self.view_is)
          (corner_names now c.corner-2.result c.in-Some-corner.end v route.end c.corner-2.ensures c.in-Some-corner.is);
    }
