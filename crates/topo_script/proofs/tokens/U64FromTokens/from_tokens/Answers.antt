use Rattle.std.proofs.Common.{◌^◌, arith}
use Rattle.topo_script.proofs.Spellings.{number_tokens}
use Rattle.topo_script.proofs.tokens.U64FromTokens.from_tokens.Goals as goal

pub returns : goal.returns
returns c = number_tokens (2 ^ 64) c.in_ok-number.number c.args.reader.now c.next_number.new.self c.in_ok-number.ensures (omega arith)
