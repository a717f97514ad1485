use Rattle.topo_script.proofs.LineLaws.{reads_enveloped, reads_no_envelope}
use Rattle.topo_script.proofs.lines.read_envelope.Goals as goal

pub returns-in-Ok : goal.returns-in-Ok
returns-in-Ok c = reads_enveloped _ c.in-Ok.id c.read_asked.result c.in-Ok.ensures c.read_asked.ensures

pub returns-in-Err : goal.returns-in-Err
returns-in-Err c = reads_no_envelope _ c.in-Err.fault c.in-Err.ensures
