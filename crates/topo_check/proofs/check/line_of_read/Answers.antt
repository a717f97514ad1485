use Rattle.std.proofs.Common.{rules}
use Rattle.topo_io.proofs.Interface.{read_so}
use Rattle.topo_check.proofs.check.line_of_read.Goals as goal

pub returns-in-Err-counts-clause-fault : goal.returns-in-Err-counts-clause-fault
returns-in-Err-counts-clause-fault c bytes gives = record {
  rows = c.in-Ok.rows;
  spelled = read_so c.in-Ok.is gives;
  limits = c.greatest_limits.result;
  greatest = c.greatest_limits.ensures;
  first = search rules;
}

pub returns-in-Ok-size_line-clause-line : goal.returns-in-Ok-size_line-clause-line
returns-in-Ok-size_line-clause-line c bytes gives = record {
  rows = c.in-Ok.rows;
  spelled = read_so c.in-Ok.is gives;
  limits = c.greatest_limits.result;
  greatest = c.greatest_limits.ensures;
  lawful = c.in-Ok-counts.ensures.lawful;
  counts = c.in-Ok-counts.counts;
  counted = c.in-Ok-counts.ensures.counts;
  told = c.in-Ok-size_line.ensures;
}
