use Rattle.std.proofs.Common.{◌≡◌, ◌+◌, ◌∙◌, ℕ, ap, arith, refl, sym, true}
use Rattle.topo_core.specs.Cycles.{after}
use Rattle.topo_route.specs.Names.{dart_named, next_name}
use Rattle.topo_route.specs.Regions.{holds_edge}
use Rattle.topo_route.proofs.spreading.FaceWalks.{face_home, face_whole}
use Rattle.topo_route.proofs.surviving.Marking.{along_next, more_on, no_more}
use Rattle.topo_route.proofs.names.Rounds.{after-one}
use Rattle.topo_route.proofs.planned.seen.mark_face.Goals as goal

pub loop-steps-init : goal.loop-steps-init
loop-steps-init g c = record {
  of_rows = c.requires.of_rows;
  more = no_more c.args.region.now;
  place = refl;
  name = c.requires.name;
  along = λ j less. absurd (omega arith);
}

pub loop-steps-preserved : goal.loop-steps-preserved
loop-steps-preserved g c =
    let graph = c.args.graph.now in
    let named = g.W.FaceGraph.named graph in
    let dart = c.args.dart in
    let i = c.loop-steps._steps in
    let was = c.loop-steps.invariant in
    let marks = c.in_ok-mark_edge.ensures in
    let before = c.loop-steps.region in
    let now = c.mark_edge.new.region in
    let place : c.next_along-at.result ≡ after (next_name named) (i + 1) dart = c.next_along-at.ensures.next ∙ ap (next_name named) was.place
    ∙ sym (after-one (next_name named) i dart) in
    let along = along_next named dart i c.loop-steps.at before now marks.more was.place was.along marks.itself in
    record {
      of_rows = marks.of_rows;
      more = more_on was.more marks.more;
      place = place;
      name = c.next_along-at.ensures.name;
      along = along;
    }

pub returns-then-at-dart : goal.returns-then-at-dart
returns-then-at-dart g c =
    let graph = c.args.graph.now in
    let named = g.W.FaceGraph.named graph in
    let lawful = g.met.W.FaceGraph.lawful graph in
    let has = g.met.W.FaceGraph.has_names graph in
    let face = g.W.FaceGraph.face_of graph in
    let faces = g.W.FaceGraph.face_bound graph in
    let has_faces = g.met.W.FaceGraph.has_faces graph in
    let dart = c.args.dart in
    let i = c.loop-steps._steps in
    let was = c.loop-steps.invariant in
    let marks = c.in_ok-mark_edge.ensures in
    let before = c.loop-steps.region in
    let now = c.mark_edge.new.region in
    let place : c.next_along-at.result ≡ after (next_name named) (i + 1) dart = c.next_along-at.ensures.next ∙ ap (next_name named) was.place
    ∙ sym (after-one (next_name named) i dart) in
    let along = along_next named dart i c.loop-steps.at before now marks.more was.place was.along marks.itself in
    let P = λ (k : ℕ). holds_edge now (dart_named named k).edge ≡ true in
    record {
      of_rows = marks.of_rows;
      more = more_on was.more marks.more;
      round = face_home named lawful has face faces has_faces P dart c.requires.name (i + 1) along (omega arith) (sym place ∙ c.if-at-dart.true);
    }

pub returns : goal.returns
returns g c =
    let graph = c.args.graph.now in
    let named = g.W.FaceGraph.named graph in
    let lawful = g.met.W.FaceGraph.lawful graph in
    let has = g.met.W.FaceGraph.has_names graph in
    let face = g.W.FaceGraph.face_of graph in
    let faces = g.W.FaceGraph.face_bound graph in
    let has_faces = g.met.W.FaceGraph.has_faces graph in
    let was = c.loop-steps.invariant in
    let P = λ (k : ℕ). holds_edge c.loop-steps.region (dart_named named k).edge ≡ true in
    record {
      of_rows = was.of_rows;
      more = was.more;
      round = face_whole named lawful has face faces has_faces P c.args.dart c.requires.name c.loop-steps._steps was.along (omega arith);
    }
