use Rattle.std.proofs.Common.{arith}
use Rattle.topo_script.specs.Paths.{whole}
use Rattle.topo_script.proofs.LineLaws.{request_bytes}
use Rattle.topo_script.proofs.lines.read_later.Goals as goal

pub returns-in-Some : goal.returns-in-Some
returns-in-Some c = request_bytes c.args.bytes.now c.in-Some.request c.bare_line.result c.line_limit.ensures
    (c.in-Some.ensures (omega arith) whole) c.bare_line.ensures
