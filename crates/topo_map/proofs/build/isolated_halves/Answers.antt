use Rattle.std.proofs.Common.{refl, ◌≡◌, ◌+◌, ◌*◌, ◌≤◌, ◌∷◌, ◌++◌, [], List, ℕ, ◌∙◌, ap, sym, subst, arith, length}
use Rattle.std.proofs.lemmas.List.{length-append}
use Rattle.topo_map.specs.Building.{AreAlone}
use Rattle.topo_map.specs.Segments.{label_in, room_of}
use Rattle.topo_map.specs.Rotation.{AreLabelled}
use Rattle.topo_map.proofs.FaceEdits.{blank_none, blank_more}
use Rattle.topo_map.proofs.Joining.{empty_alone, alone_more, none_held}
use Rattle.topo_map.proofs.Listing.{labelled_more}
use Rattle.topo_map.proofs.build.isolated_halves.Goals as goal

pub loop-segment-init : goal.loop-segment-init
loop-segment-init c = record {
  size = ap length c.in_ok-halves.ensures.items;
  alone = subst (λ (l : List ℕ). AreAlone c.reserve.new.segments l) (sym c.in_ok-halves.ensures.items)
      (empty_alone c.reserve.new.segments (c.in_ok-reserve.ensures.slots ∙ c.requires));
  labels = subst (λ (l : List ℕ). AreLabelled c.args.edges.now l (label_in c.reserve.new.segments)) (sym c.in_ok-halves.ensures.items)
      (λ a l. absurd (let w : ⊥ = omega (arith, l) in w));
  blank = blank_none c.reserve.new.segments (none_held c.reserve.new.segments (c.in_ok-reserve.ensures.slots ∙ c.requires));
  room = (let w : length c.args.edges.now ≤ room_of c.reserve.new.segments = c.in_ok-reserve.ensures.room in
      let v : length c.args.edges.now ≤ room_of c.reserve.new.segments + 0 = omega arith in v);
}

pub loop-segment-preserved : goal.loop-segment-preserved
loop-segment-preserved c =
    let old : List ℕ = c.loop-segment.halves.items in
    let x : ℕ = c.insert_isolated-half.result in
    let y : ℕ = c.twin.result in
    let new : List ℕ = c.push-in-loop-segment.new.self.items in
    let e : new ≡ (old ++ x ∷ []) ++ y ∷ [] = c.in_ok-push-2.ensures.items ∙ ap (λ (l : List ℕ). l ++ y ∷ []) c.in_ok-push.ensures.items in
    let l1 : length (old ++ x ∷ []) ≡ length old + 1 = length-append old (x ∷ []) in
    let l2 : length ((old ++ x ∷ []) ++ y ∷ []) ≡ length (old ++ x ∷ []) + 1 = length-append (old ++ x ∷ []) (y ∷ []) in
    let was : length old ≡ 2 * c.loop-segment.segment = c.loop-segment.invariant.size in
    let room : length c.args.edges.now ≤ room_of c.loop-segment.segments + c.loop-segment.segment = c.loop-segment.invariant.room in
    let less : room_of c.insert_isolated-half.new.segments + 1 ≡ room_of c.loop-segment.segments = c.insert_isolated-half.ensures.inserted.room in
    record {
      size = ap length e ∙ (let w : length ((old ++ x ∷ []) ++ y ∷ []) ≡ 2 * (c.loop-segment.segment + 1) = omega arith in w);
      alone = alone_more c.loop-segment.segments c.insert_isolated-half.new.segments old new x y c.loop-segment.invariant.alone
          c.insert_isolated-half.ensures.inserted c.twin.ensures e;
      labels = labelled_more c.args.edges.now c.loop-segment.segment e c.twin.ensures c.loop-segment.invariant.size refl
          c.loop-segment.invariant.alone.listed c.loop-segment.invariant.labels c.insert_isolated-half.ensures.label;
      blank = blank_more c.loop-segment.segments c.insert_isolated-half.new.segments x c.loop-segment.invariant.blank c.insert_isolated-half.ensures.inserted
          c.insert_isolated-half.ensures.faces;
      room = (let w : length c.args.edges.now ≤ room_of c.insert_isolated-half.new.segments + (c.loop-segment.segment + 1) = omega arith in w);
    }
