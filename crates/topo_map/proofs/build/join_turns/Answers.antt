use Rattle.std.proofs.Common.{◌≡◌, ◌<◌, ℕ, Bool, ◌∙◌, ap, sym, subst, arith, length}
use Rattle.std.proofs.lemmas.Grind.{get_or_default_zero}
use Rattle.topo_core.specs.Cycles.{map_of}
use Rattle.topo_map.specs.Segments.{holds}
use Rattle.topo_map.proofs.Joining.{joined_more, joined_all}
use Rattle.topo_map.proofs.build.join_turns.Goals as goal

pub link-requires-clause-from : goal.link-requires-clause-from
link-requires-clause-from c =
    let k : ℕ = c.loop-place.place in
    let lh : k < length c.args.halves.now = subst (λ (n : ℕ). k < n) (sym c.requires.same_length) c.loop-place-test.true in
    ap (holds c.loop-place.segments) (c.index-halves-place.is ∙ get_or_default_zero c.args.halves.now k _ lh) ∙ c.loop-place.invariant.joined.listed.alive k lh

pub link-requires-clause-to : goal.link-requires-clause-to
link-requires-clause-to c =
    let k : ℕ = c.loop-place.place in
    let lk : k < length c.args.turns.now = c.loop-place-test.true in
    let lt : map_of c.args.turns.now k < length c.args.halves.now =
    subst (λ (n : ℕ). map_of c.args.turns.now k < n) (sym c.requires.same_length) (c.requires.permutation.within k lk) in
    let e : c.index-halves-turns.result ≡ map_of c.args.halves.now (map_of c.args.turns.now k) = c.index-halves-turns.is
    ∙ get_or_default_zero c.args.halves.now (map_of c.args.turns.now k) _ lt in
    ap (holds c.loop-place.segments) e ∙ c.loop-place.invariant.joined.listed.alive (map_of c.args.turns.now k) lt

pub loop-place-preserved : goal.loop-place-preserved
loop-place-preserved c =
    let k : ℕ = c.loop-place.place in
    let lk : k < length c.args.turns.now = c.loop-place-test.true in
    let lh : k < length c.args.halves.now = subst (λ (n : ℕ). k < n) (sym c.requires.same_length) lk in
    let lt : map_of c.args.turns.now k < length c.args.halves.now =
    subst (λ (n : ℕ). map_of c.args.turns.now k < n) (sym c.requires.same_length) (c.requires.permutation.within k lk) in
    record {
      labels = c.link.ensures.edges ∙ c.loop-place.invariant.labels;
      blank = λ a h. ap (λ (l : ℕ → ℕ). l a) c.link.ensures.faces ∙ c.loop-place.invariant.blank a (ap (λ (p : ℕ → Bool). p a) (sym c.link.ensures.live) ∙ h);
      joined = joined_more c.index-halves-place.result c.index-halves-turns.result
          c.requires.permutation c.requires.same_length lk
          (c.index-halves-place.is ∙ get_or_default_zero c.args.halves.now k _ lh)
          (c.index-halves-turns.is ∙ get_or_default_zero c.args.halves.now (map_of c.args.turns.now k) _ lt)
          c.loop-place.invariant.joined c.link.ensures;
    }

pub returns-clause-joined : goal.returns-clause-joined
returns-clause-joined c =
    let e : c.loop-place.place ≡ length c.args.turns.now = omega arith in
    joined_all c.loop-place.segments c.args.halves.now c.args.turns.now c.loop-place.place c.requires.permutation c.requires.same_length e
    c.loop-place.invariant.joined
