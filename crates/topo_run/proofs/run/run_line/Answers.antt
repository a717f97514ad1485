use Rattle.std.proofs.Common.{rules}
use Rattle.topo_run.proofs.run.run_line.Goals as goal

pub returns-in_err-_limits-clause-fault : goal.returns-in_err-_limits-clause-fault
returns-in_err-_limits-clause-fault g c =
    let told = c.in_err-_limits.ensures.fault c.args.script.now.start in
    search rules
