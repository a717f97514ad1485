use Rattle.std.proofs.Common.{false, string_bytes}
use Rattle.topo_script.specs.Sessions.{line_of}
use Rattle.topo_io.proofs.Interface.{ok_so}
use Rattle.topo_session.proofs.Responding.{line_told}
use Rattle.topo_session.proofs.lines.answer_any.Goals as goal

pub returns-clause-answered : goal.returns-clause-answered
returns-clause-answered g c =
    ok_so c.framed.result _ _
    (λ text told. line_told c.read_line-frame.result.frame c.read_line-frame.result.asked (line_of false c.args.line.now) c.read_line-frame.ensures
    c.args.session.now c.respond-outcome.new.session string_bytes c.respond-outcome.result c.respond-outcome.ensures.answer
    c.respond-outcome.ensures.fault c.respond-outcome.ensures.left (string_bytes c.in_ok-text.text) (string_bytes text) c.in_ok-text.ensures told)
    c.framed.ensures
