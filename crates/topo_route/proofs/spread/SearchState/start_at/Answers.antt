use Rattle.std.proofs.Common.{◌≡◌, ◌<◌, ◌+◌, ◌^◌, ◌==◌, ◌||◌, ◌∙◌, ℕ, List, ap, arith, length, sym, subst, Some}
use Rattle.std.proofs.Math.ListN.{set}
use Rattle.std.specs.Prelude.{slice_index}
use Rattle.topo_core.specs.declared.darts.Dart.{Dart}
use Rattle.topo_core.specs.Picture.{corner}
use Rattle.topo_route.specs.PricedFaces.{heights_over}
use Rattle.topo_route.specs.declared.spread.SearchState.{SearchState}
use Rattle.topo_route.specs.FaceHeights.{dart_heights, with_name}
use Rattle.topo_route.specs.Names.{dart_named, height_of}
use Rattle.topo_route.specs.Settling.{is_waiting, item_of, number_at}
use Rattle.topo_route.specs.Searches.{priced_faces}
use Rattle.topo_route.proofs.spreading.Shown.{are_faces}
use Rattle.topo_route.proofs.spreading.Relaxing.{both_steps, no_step, renamed, started, started_zero}
use Rattle.topo_route.proofs.names.Names.{height_named}
use Rattle.topo_route.proofs.spreading.Settled.{of_face}
use Rattle.topo_route.proofs.plans.Tests.{before_all, before_past, before_some}
use Rattle.topo_route.proofs.spread.SearchState.start_at.Goals as goal
use Rattle.topo_route.proofs.spread.SearchState.start_at.Goals.{in-Some+then-get-gt0+in_ok-lower+in_ok-push, in-Some+else-get-gt0, in_default}

pub loop-position-init : goal.loop-position-init
loop-position-init g c =
    let seen = priced_faces g.W.FaceGraph g.F.PriceFn c.args.priced.now in
    let laws = are_faces g.W.FaceGraph g.F.PriceFn g.met.W.FaceGraph.lawful g.met.W.FaceGraph.has_names g.met.W.FaceGraph.has_faces c.args.priced.now in
    let now = c.args.self.now in
    record {
      relaxes = no_step seen laws c.args.v c.args.other.now now.heights now.names.items now.waiting c.args.least.now
          seen.named.size c.requires.costs c.requires.sums;
      ends = λ p d less. absurd (omega arith);
    }

pub loop-position-preserved : goal.loop-position-preserved
loop-position-preserved g c =
    let seen = priced_faces g.W.FaceGraph g.F.PriceFn c.args.priced.now in
    let laws = are_faces g.W.FaceGraph g.F.PriceFn g.met.W.FaceGraph.lawful g.met.W.FaceGraph.has_names g.met.W.FaceGraph.has_faces c.args.priced.now in
    let v = c.args.v in
    let others = c.args.other.now in
    let i = c.loop-position.position in
    let hs = c.loop-position.self.heights in
    let ns = c.loop-position.self.names.items in
    let ws = c.loop-position.self.waiting in
    let least = c.loop-position.least in
    let was = c.loop-position.invariant.relaxes in
    let Zero = λ (xs : List ℕ). (p : ℕ) (d : Dart) → p < i + 1 → corner seen.named.rows v p ≡ Some d → height_of seen.named (heights_over seen xs) d ≡ 0 in
    let heights = λ (labels : SearchState). labels.heights in
    let names = λ (labels : SearchState). labels.names.items in
    let waiting = λ (labels : SearchState). labels.waiting in
    elim c.match-corner_at.branch [
      | in-Some+then-get-gt0+in_ok-lower+in_ok-push w ↦
          let k = w.in-Some.corner in
          let short : k < 2 ^ 32 = omega arith in
          let label : w.face_at-face.result ≡ seen.face k = w.face_at-face.ensures.face in
          let hs_is : c.match-corner_at.self.heights ≡ set hs (seen.face k) 0 = ap heights w.self-is ∙ w.in_ok-lower.ensures.heights
          ∙ ap (λ (f : ℕ). set hs f 0) label in
          let ns_is : c.match-corner_at.self.names.items ≡ with_name hs (seen.face k) k ns = ap names w.self-is ∙ w.in_ok-lower.ensures.names
          ∙ ap (λ (f : ℕ). with_name hs f k ns) label in
          let added : (i : ℕ) → is_waiting w.push.new.self i ≡ (item_of k 0 == i || is_waiting ws i) = λ i.
          w.in_ok-push.ensures.waits i ∙ ap (λ (j : ℕ). j == i || is_waiting w.lower.new.self.waiting i) w.item_of.ensures
          ∙ ap (λ (ys : List ℕ). item_of k 0 == i || is_waiting ys i) w.in_ok-lower.ensures.waiting in
          let longer : length w.push.new.self ≡ length ws + 1 = w.in_ok-push.ensures.len ∙ ap (λ (ys : List ℕ). length ys + 1) w.in_ok-lower.ensures.waiting in
          let at : slice_index (heights_over seen hs) k ≡ slice_index hs w.face_at-face.result =
          of_face seen laws v hs ns was.costs k w.in-Some.ensures.0 ∙ ap (slice_index hs) (sym label) in
          let high : 0 < slice_index (heights_over seen hs) k = omega (arith, w.if-get-gt0.true, w.get.ensures) in
          let number : number_at others w.face_at-face.result ≡ number_at others (seen.face k) = ap (number_at others) label in
          record {
            relaxes = renamed seen laws v others c.match-corner_at.self.heights c.match-corner_at.self.names.items
                c.match-corner_at.self.waiting c.match-corner_at.least hs_is ns_is (ap waiting w.self-is) w.least-is
                (both_steps seen laws v others was
                (started seen laws v others hs ns ws w.push.new.self least w.lower.new.least i k was.costs was.sums
                w.in-Some.ensures.0 w.in-Some.ensures.1 high short
                (omega (arith, w.in_ok-lower.ensures.least)) added longer));
            ends = subst Zero (sym hs_is) (started_zero seen laws v others hs ns ws w.push.new.self least w.lower.new.least i
                k was.costs was.sums w.in-Some.ensures.0 w.in-Some.ensures.1 high short c.loop-position.invariant.ends);
          }
      | in-Some+else-get-gt0 w ↦
          let k = w.in-Some.corner in
          let label : w.face_at-face.result ≡ seen.face k = w.face_at-face.ensures.face in
          let at : slice_index (heights_over seen hs) k ≡ slice_index hs w.face_at-face.result =
          of_face seen laws v hs ns was.costs k w.in-Some.ensures.0 ∙ ap (slice_index hs) (sym label) in
          let height = height_named seen.named laws.names (heights_over seen hs) k w.in-Some.ensures.0 in
          record {
            relaxes = renamed seen laws v others c.match-corner_at.self.heights c.match-corner_at.self.names.items
                c.match-corner_at.self.waiting c.match-corner_at.least
                (ap heights w.self-is) (ap names w.self-is) (ap waiting w.self-is) w.least-is was;
            ends = subst Zero (sym (ap heights w.self-is))
                (before_some seen.named.rows v (λ p d. height_of seen.named (heights_over seen hs) d ≡ 0) i (dart_named seen.named k) w.in-Some.ensures.1
                (omega (arith, w.if-get-gt0.false, w.get.ensures)) c.loop-position.invariant.ends);
          }
      | in_default w ↦ record {
        relaxes = renamed seen laws v others c.match-corner_at.self.heights c.match-corner_at.self.names.items
            c.match-corner_at.self.waiting c.match-corner_at.least
            (ap heights w.self-is) (ap names w.self-is) (ap waiting w.self-is) w.least-is was;
        ends = subst Zero (sym (ap heights w.self-is))
            (before_past seen.named.rows v (λ p d. height_of seen.named (heights_over seen hs) d ≡ 0) i w.in_default.ensures c.loop-position.invariant.ends);
      }
    ]

pub returns-clause-ends : goal.returns-clause-ends
returns-clause-ends g c =
    let named = g.W.FaceGraph.named c.args.priced.now.graph.now in
    let face = g.W.FaceGraph.face_of c.args.priced.now.graph.now in
    let whole : c.loop-position.position ≡ c.degree-position-end.result = omega arith in
    before_all named.rows c.args.v (λ p d. height_of named (dart_heights named face c.loop-position.self.heights) d ≡ 0) c.loop-position.position
    (whole ∙ c.degree-position-end.ensures) c.loop-position.invariant.ends
