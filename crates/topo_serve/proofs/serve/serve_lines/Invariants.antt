use Rattle.topo_serve.specs.Turns.{HasServed, streams}
use Rattle.topo_serve.proofs.serve.serve_lines.Given as goal

abbrev pub invariant-loop : goal.invariant-loop
invariant-loop g l = HasServed (streams (g.I.Read.remaining l.fn.reader) l.fn.ahead (g.O.Write.contents l.fn.writer))
    (streams (g.I.Read.remaining l.reader) l.ahead (g.O.Write.contents l.writer)) l.fn.session l.session
