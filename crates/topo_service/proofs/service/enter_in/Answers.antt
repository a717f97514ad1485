use Rattle.std.proofs.Common.{◌≡◌, ◌++◌, ◌∷◌, [], ap, sym, subst, ◌∙◌, List}
use Rattle.topo_core.specs.declared.calls.Entry.{Entry}
use Rattle.topo_core.specs.History.{IsPrefix, IsVersion, versions}
use Rattle.topo_versions.specs.Names.{prices_named}
use Rattle.topo_service.specs.Passes.{entry_of, receipt_of}
use Rattle.topo_service.proofs.Versions.{begins_on, refused_due, versions_on}
use Rattle.topo_service.proofs.service.enter_in.Goals as goal

pub returns-clause-later : goal.returns-clause-later
returns-clause-later g c =
    let old = c.args.state.now.history in
    let e = entry_of c.pass.inside.number c.args.demand.call c.in_ok-receipt.field-0.receipt in
    let seen = c.args.pass.now.seen in
    let before : IsPrefix seen (versions old) =
    rw (← c.prefix.ensures.now, ← ap (λ p. p.seen) c.pass.view_is) (c.is_prefix_of.ensures.prefix c.if-not-is_prefix_of.false) in
    let after : c.share.result ≡ versions (old ++ e ∷ []) = c.share.ensures.same ∙ c.prefix-2.ensures.now ∙ ap versions c.in_ok-receipt.ensures.entered in
    subst (λ (l : List Entry). IsPrefix seen l) (sym after) (begins_on seen old e before)

pub returns-clause-answered : goal.returns-clause-answered
returns-clause-answered g c =
    let told = c.in_ok-receipt.field-0.receipt in
    let old = c.args.state.now.history in
    let n = c.pass.inside.number in
    let price = prices_named g.F.PriceFn.may_return g.K.ServiceBrand.closure in
    let start = g.K.ServiceBrand.start in
    let own : entry_of n c.args.demand.call told ≡ entry_of c.args.pass.now.number c.args.demand.call told = ap (λ p. entry_of p.number c.args.demand.call told) c.pass.view_is in
    let before : IsPrefix c.args.pass.now.seen (versions old) =
    rw (← c.prefix.ensures.now, ← ap (λ p. p.seen) c.pass.view_is) (c.is_prefix_of.ensures.prefix c.if-not-is_prefix_of.false) in
    let after = c.share.ensures.same ∙ c.prefix-2.ensures.now ∙ ap versions c.in_ok-receipt.ensures.entered in
    let receipts = c.push_reserved.ensures.items
    ∙ ap (λ rs. rs ++ receipt_of c.args.demand.call told ∷ []) (c.reserve.ensures.items ∙ ap (λ p. p.receipts) c.pass.view_is) in
    let later = subst (λ (l : List Entry). IsPrefix c.args.pass.now.seen l) (sym after)
    (begins_on c.args.pass.now.seen old (entry_of n c.args.demand.call told) before) in
    record {
      kept = record {
        reply = told;
        receipt = receipts;
        honest = record {
          no_memory = c.in_ok-receipt.ensures.no_memory;
          later = later;
          accepted = λ on. record {
            before = versions old;
            since = before;
            last = after ∙ versions_on old (entry_of n c.args.demand.call told) on ∙ ap (λ (x : Entry). versions old ++ x ∷ []) own;
          };
          refused = λ off. record {
            picture = c.call-made.new.self.picture.rows;
            replayed = subst (λ (es : List Entry). IsVersion price start.limits start.rows es c.call-made.new.self.picture.rows)
                (sym c.share.ensures.same) c.prefix-2.ensures.replayed;
            step = refused_due price start.limits c.args.state.now.picture.rows c.call-made.new.self.picture.rows c.args.demand.call told off
                c.in_ok-receipt.ensures.step;
          };
        };
      };
      told = c.in_ok-receipt.ensures.told;
    }
