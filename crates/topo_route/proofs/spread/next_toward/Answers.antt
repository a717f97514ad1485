use Rattle.std.proofs.Common.{◌≡◌, ◌+◌, ◌<◌, ◌∙◌, ◌||◌, ◌==◌, ℕ, ap, arith, eq-eqb, length, refl, subst, sym, true}
use Rattle.std.specs.Prelude.{slice_index}
use Rattle.std.proofs.Math.Bool.{or-true}
use Rattle.topo_route.specs.FaceHeights.{dart_heights}
use Rattle.topo_route.specs.Names.{IsName}
use Rattle.topo_route.specs.Potentials.{bound_by}
use Rattle.topo_route.specs.Settling.{dart_of_item, is_waiting, item_of}
use Rattle.topo_route.proofs.spreading.FaceHeights.{height_by_face}
use Rattle.topo_route.proofs.spreading.Settled.{dart_of_own}
use Rattle.topo_route.proofs.spreading.Pending.{not_toward, other_height, passed_over}
use Rattle.topo_route.proofs.spread.next_toward.Goals as goal
use Rattle.topo_route.proofs.spread.next_toward.Goals.{else-item_of-item-via-then-item_of-item+else-is_near, else-item_of-item-via-else-item_of-item}

pub returns-then-is_near-clause-taken : goal.returns-then-is_near-clause-taken
returns-then-is_near-clause-taken g c =
    let named = g.W.FaceGraph.named c.args.graph.now in
    let face = g.W.FaceGraph.face_of c.args.graph.now in
    let has = g.met.W.FaceGraph.has_names c.args.graph.now in
    let item = c.in-Some.item in
    let dart = c.dart_of_item-dart.result in
    let heights = dart_heights named face c.args.heights.now in
    let was = c.loop-item.invariant in
    let waits : is_waiting c.loop-item.waiting item ≡ true = c.in-Some.ensures.waits item
    ∙ ap (λ b. b || is_waiting c.pop.new.self item) (eq-eqb item item refl) in
    let early : is_waiting c.args.waiting.now item ≡ true = was.left item waits in
    let name : IsName named dart = subst (IsName named) (sym c.dart_of_item-dart.ensures) (c.requires.names item early) in
    let label : c.face_at-face.result ≡ face dart = c.face_at-face.ensures.face in
    let within : face dart < length c.args.heights.now = omega (arith, label, c.face_at-face.ensures.within, c.requires.one_each) in
    let at : c.get-height.result ≡ slice_index heights dart = c.get-height.ensures ∙ ap (slice_index c.args.heights.now) label
    ∙ sym (height_by_face named face c.args.heights.now has dart name within) in
    let is : item_of dart (slice_index heights dart) ≡ item = ap (λ (h : ℕ). item_of dart h) (sym at) ∙ sym c.item_of.ensures ∙ c.if-item_of-item.true in
    record {
      name = name;
      pending = ap (is_waiting c.args.waiting.now) is ∙ early;
      height = at;
      others = λ k short l less ne. passed_over heights c.loop-item.waiting c.pop.new.self item c.in-Some.ensures.waits k
          (λ e. ne (sym (c.dart_of_item-dart.ensures ∙ ap dart_of_item e ∙ dart_of_own k (slice_index heights k) short))) ∙ was.same k short l less;
      len = omega (arith, was.len, c.in-Some.ensures.len);
    }

pub loop-item-preserved-else-item_of-item : goal.loop-item-preserved-else-item_of-item
loop-item-preserved-else-item_of-item g c =
    let named = g.W.FaceGraph.named c.args.graph.now in
    let face = g.W.FaceGraph.face_of c.args.graph.now in
    let has = g.met.W.FaceGraph.has_names c.args.graph.now in
    let item = c.in-Some.item in
    let dart = c.dart_of_item-dart.result in
    let height = c.get-height.result in
    let heights = dart_heights named face c.args.heights.now in
    let bound = λ (j : ℕ). bound_by c.args.guide.now (g.W.FaceGraph.potentials c.args.graph.now (face j)) in
    let was = c.loop-item.invariant in
    let waits : is_waiting c.loop-item.waiting item ≡ true = c.in-Some.ensures.waits item
    ∙ ap (λ b. b || is_waiting c.pop.new.self item) (eq-eqb item item refl) in
    let name : IsName named dart = subst (IsName named) (sym c.dart_of_item-dart.ensures) (c.requires.names item (was.left item waits)) in
    let label : c.face_at-face.result ≡ face dart = c.face_at-face.ensures.face in
    let within : face dart < length c.args.heights.now = omega (arith, label, c.face_at-face.ensures.within, c.requires.one_each) in
    let at : height ≡ slice_index heights dart = c.get-height.ensures ∙ ap (slice_index c.args.heights.now) label
    ∙ sym (height_by_face named face c.args.heights.now has dart name within) in
    let number : bound_by c.args.guide.now (g.W.FaceGraph.potentials c.args.graph.now c.face_at-face.result) ≡ bound dart =
    ap (λ (f : ℕ). bound_by c.args.guide.now (g.W.FaceGraph.potentials c.args.graph.now f)) label in
    record {
      same = λ k short l less. elim c.else-item_of-item.branch [
        | else-item_of-item-via-then-item_of-item+else-is_near w ↦
            let past : c.args.least < height + bound_by c.args.guide.now (g.W.FaceGraph.potentials c.args.graph.now c.face_at-face.result) = grind arith in
            not_toward heights c.loop-item.waiting c.pop.new.self item c.in-Some.ensures.waits bound c.args.least k short
            c.dart_of_item-dart.ensures at number past less ∙ was.same k short l less
        | else-item_of-item-via-else-item_of-item w ↦
            other_height heights c.loop-item.waiting c.pop.new.self item c.in-Some.ensures.waits dart height k short c.dart_of_item-dart.ensures at
            (λ e. w.if-item_of-item.false (c.item_of.ensures ∙ e)) ∙ was.same k short l less
      ];
      left = λ i w. was.left i (c.in-Some.ensures.waits i ∙ ap (λ b. item == i || b) w ∙ or-true (item == i));
      len = omega (arith, was.len, c.in-Some.ensures.len);
    }
