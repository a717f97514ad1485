use Rattle.std.proofs.Common.{◌≡◌, ◌+◌, ◌<◌, ◌∙◌, ◌||◌, ◌==◌, ℕ, ap, arith, eq-eqb, length, refl, subst, sym, true}
use Rattle.std.specs.Prelude.{slice_index}
use Rattle.std.proofs.Math.Bool.{or-true}
use Rattle.std.proofs.lemmas.Bool.{false≢true, lt-ltb}
use Rattle.topo_route.specs.FaceHeights.{dart_heights}
use Rattle.topo_route.specs.Names.{IsName}
use Rattle.topo_route.specs.Settling.{dart_of_item, is_waiting, item_of, number_at}
use Rattle.topo_route.proofs.spreading.FaceHeights.{height_by_face, number_by_name}
use Rattle.topo_route.proofs.spreading.Settled.{dart_of_own}
use Rattle.topo_route.proofs.spreading.Pending.{not_low, other_height, passed_over}
use Rattle.topo_route.proofs.spread.next_pending.Goals as goal
use Rattle.topo_route.proofs.spread.next_pending.Goals.{then-height-level, else-height-level}
use Rattle.topo_route.proofs.spread.next_pending.Goals.{else-is_low-via-then-is_low+else-item_of-item, else-is_low-via-else-is_low}

pub returns-then-item_of-item-clause-taken : goal.returns-then-item_of-item-clause-taken
returns-then-item_of-item-clause-taken g c =
    let named = g.W.FaceGraph.named c.args.graph.now in
    let face = g.W.FaceGraph.face_of c.args.graph.now in
    let has = g.met.W.FaceGraph.has_names c.args.graph.now in
    let item = c.in-Some.item in
    let dart = c.dart_of_item-dart.result in
    let heights = dart_heights named face c.args.heights.now in
    let was = c.loop-item.invariant in
    let waits : is_waiting c.loop-item.waiting item ≡ true = c.in-Some.ensures.waits item
    ∙ ap (λ b. b || is_waiting c.pop.new.self item) (eq-eqb item item refl) in
    let early : is_waiting c.args.waiting.now item ≡ true = was.left item waits in
    let name : IsName named dart = subst (IsName named) (sym c.dart_of_item-dart.ensures) (c.requires.names item early) in
    let label : c.face_at-face.result ≡ face dart = c.face_at-face.ensures.face in
    let within : face dart < length c.args.heights.now = omega (arith, label, c.face_at-face.ensures.within, c.requires.one_each) in
    let at : c.get-height.result ≡ slice_index heights dart = c.get-height.ensures ∙ ap (slice_index c.args.heights.now) label
    ∙ sym (height_by_face named face c.args.heights.now has dart name within) in
    let is : item_of dart (slice_index heights dart) ≡ item = ap (λ (h : ℕ). item_of dart h) (sym at) ∙ sym c.item_of.ensures ∙ c.if-item_of-item.true in
    record {
      name = name;
      pending = ap (is_waiting c.args.waiting.now) is ∙ early;
      height = at;
      others = λ k short l less ne. passed_over heights c.loop-item.waiting c.pop.new.self item c.in-Some.ensures.waits k
          (λ e. ne (sym (c.dart_of_item-dart.ensures ∙ ap dart_of_item e ∙ dart_of_own k (slice_index heights k) short))) ∙ was.same k short l less;
      len = omega (arith, was.len, c.in-Some.ensures.len);
    }

pub loop-item-preserved-else-is_low : goal.loop-item-preserved-else-is_low
loop-item-preserved-else-is_low g c =
    let named = g.W.FaceGraph.named c.args.graph.now in
    let face = g.W.FaceGraph.face_of c.args.graph.now in
    let has = g.met.W.FaceGraph.has_names c.args.graph.now in
    let item = c.in-Some.item in
    let dart = c.dart_of_item-dart.result in
    let height = c.get-height.result in
    let heights = dart_heights named face c.args.heights.now in
    let others = dart_heights named face c.args.other.now in
    let was = c.loop-item.invariant in
    let waits : is_waiting c.loop-item.waiting item ≡ true = c.in-Some.ensures.waits item
    ∙ ap (λ b. b || is_waiting c.pop.new.self item) (eq-eqb item item refl) in
    let name : IsName named dart = subst (IsName named) (sym c.dart_of_item-dart.ensures) (c.requires.names item (was.left item waits)) in
    let label : c.face_at-face.result ≡ face dart = c.face_at-face.ensures.face in
    let within : face dart < length c.args.heights.now = omega (arith, label, c.face_at-face.ensures.within, c.requires.one_each) in
    let at : height ≡ slice_index heights dart = c.get-height.ensures ∙ ap (slice_index c.args.heights.now) label
    ∙ sym (height_by_face named face c.args.heights.now has dart name within) in
    let number : number_at c.args.other.now c.face_at-face.result ≡ number_at others dart = ap (number_at c.args.other.now) label
    ∙ sym (number_by_name named face c.args.other.now has dart name) in
    record {
      same = λ k short l less. elim c.else-is_low.branch [
        | else-is_low-via-then-is_low+else-item_of-item w ↦
            other_height heights c.loop-item.waiting c.pop.new.self item c.in-Some.ensures.waits dart height k short c.dart_of_item-dart.ensures at
            (λ e. w.if-item_of-item.false (w.item_of.ensures ∙ e)) ∙ was.same k short l less
        | else-is_low-via-else-is_low w ↦ elim c.if-height-level.branch [
          | then-height-level t ↦ absurd (false≢true (sym w.if-is_low.false ∙ t.is_low-is ∙ lt-ltb height c.args.level t.if-height-level.true))
          | else-height-level t ↦
              let past : c.args.most < height + number_at c.args.other.now c.face_at-face.result = grind arith in
              not_low heights c.loop-item.waiting c.pop.new.self item c.in-Some.ensures.waits others c.args.most k short c.dart_of_item-dart.ensures at number
              t.if-height-level.false past less ∙ was.same k short l less
        ]
      ];
      left = λ i w. was.left i (c.in-Some.ensures.waits i ∙ ap (λ b. item == i || b) w ∙ or-true (item == i));
      len = omega (arith, was.len, c.in-Some.ensures.len);
    }
