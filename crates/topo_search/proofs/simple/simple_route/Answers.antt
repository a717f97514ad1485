use Rattle.std.proofs.Common.{◌≡◌, ◌∙◌, ap, refl, subst, sym}
use Rattle.std.specs.Prelude.{map}
use Rattle.topo_core.specs.Picture.{system}
use Rattle.topo_core.specs.Routes.{Crosses, MeetsFacesOnce}
use Rattle.topo_route.specs.Names.{dart_named}
use Rattle.topo_search.proofs.simple.simple_route.Goals as goal

pub returns : goal.returns
returns g c =
    let graph = g.W.FaceGraph.named c.args.graph.now in
    let from = dart_named graph c.in-Some.from in
    let to = dart_named graph c.in-Some-corner_at.to in
    let one : c.deref.result.now ≡ c.deref-2.result.now = c.deref.ensures.value ∙ sym c.deref-2.ensures.value in
    let crossed : map (dart_named graph) c.deref.result.now ≡ c.from_vec.result =
    ap (map (dart_named graph)) one ∙ sym c.in_ok-crossed.ensures ∙ sym c.from_vec.ensures in
    record {
      route = record {
        from = from;
        to = to;
        starts = c.in-Some.ensures.1;
        ends = c.in-Some-corner_at.ensures.1;
        walk = subst (λ ds. Crosses (system graph.rows) from ds to) crossed (c.if-not-is_simple.ensures.walk refl);
      };
      once = subst (λ ds. MeetsFacesOnce (system graph.rows) from ds) crossed (c.if-not-is_simple.ensures.once refl);
    }
