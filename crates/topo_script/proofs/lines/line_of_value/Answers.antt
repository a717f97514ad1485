use Rattle.topo_script.proofs.LineLaws.{reads_value, reads_no_value}
use Rattle.topo_script.proofs.lines.line_of_value.Goals as goal

pub returns-in-Ok : goal.returns-in-Ok
returns-in-Ok c = reads_value c.args.first c.args.bytes.now c.line_from.result c.line_limit.ensures c.in-Ok.ensures c.line_from.ensures

pub returns-in-Err : goal.returns-in-Err
returns-in-Err c = reads_no_value c.args.first c.args.bytes.now c.in-Err.fault c.frame_without.ensures c.line_limit.ensures c.in-Err.ensures
