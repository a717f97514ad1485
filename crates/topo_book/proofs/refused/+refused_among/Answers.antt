use Rattle.topo_book.proofs.RefusedCalls.{refused_among}
use Rattle.topo_book.proofs.refused.+refused_among.Goals as goal

pub returns-clause-was_refused : goal.returns-clause-was_refused
returns-clause-was_refused t c =
    refused_among c.args.entries.now c.entry-item.result c.args.call c.in-Refused.why c.refused_among.result c.in-len1-up.len_at_least c.entry-item.is
    c.in-Refused.is c.refused_among.ensures.was_refused
