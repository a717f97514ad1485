use Rattle.std.proofs.Common.{◌≡◌, sym, ◌∙◌, ap, arith, true, false}
use Rattle.std.proofs.lemmas.Bool.{eq-eqb}
use Rattle.topo_perm.proofs.Interface.{after_more}
use Rattle.topo_map.specs.Rotation.{half_limit, turn}
use Rattle.topo_map.proofs.Rounds.{whole_degree, out_more}
use Rattle.topo_map.proofs.Stored.{limit-is}
use Rattle.topo_map.proofs.embedding.Embedding.degree.Goals as goal

false_true : false ≡ true → ⊥
false_true e = cc

pub loop-steps-preserved : goal.loop-steps-preserved
loop-steps-preserved c =
    let f = turn c.args.self.now in
    record {
      place = c.turn-at-in-loop-steps.ensures.turn ∙ ap f c.loop-steps.invariant.place ∙ sym (after_more f c.loop-steps.steps c.args.h);
      live = c.turn-at-in-loop-steps.ensures.live;
      out = out_more f c.loop-steps.steps c.args.h c.loop-steps.at c.loop-steps.invariant.place (λ e. false_true (c.if-eq.ensures ∙ eq-eqb _ _ e))
          c.loop-steps.invariant.out;
    }

pub returns : goal.returns
returns c = whole_degree c.args.self.now half_limit c.loop-steps.steps c.args.h 4294967294 c.laws.ensures.slab.permutation
    (c.laws.ensures.within c.args.h c.requires)
    (let l : half_limit ≡ 4294967294 = limit-is in let e : c.loop-steps.steps ≡ half_limit = omega arith in e)
    (sym limit-is) c.loop-steps.invariant.out
