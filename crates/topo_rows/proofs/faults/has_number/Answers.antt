use Rattle.std.proofs.Common.{sym, ◌∙◌}
use Rattle.topo_rows.proofs.Sorting.{at_any, search_tells}
use Rattle.topo_rows.proofs.faults.has_number.Goals as goal

pub returns-then-numbers-expected : goal.returns-then-numbers-expected
returns-then-numbers-expected c = sym (at_any c.args.numbers.now c.args.expected c.args.x c.if-expected-numbers.true c.if-numbers-expected.true)

pub returns : goal.returns
returns c = c.is_ok.ensures.value ∙ search_tells c.args.numbers.now c.args.x c.binary_search.result c.requires c.binary_search.ensures.position
