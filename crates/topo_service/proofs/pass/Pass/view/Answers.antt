use Rattle.std.proofs.Common.{[], ap, rules, sym, ◌∙◌}
use Rattle.std.proofs.lemmas.List.{append-nil}
use Rattle.topo_service.specs.Passes.{PassState}
use Rattle.topo_service.proofs.pass.Pass.view.Goals as goal

pub returns-then-not-is_prefix_of-clause-only_seen : goal.returns-then-not-is_prefix_of-clause-only_seen
returns-then-not-is_prefix_of-clause-only_seen g c = record {
  number = search rules;
  receipts = search rules;
  later = ([], ap (λ (s : PassState). s.seen) c.self.view_is ∙ sym (append-nil c.args.self.now.seen));
}
