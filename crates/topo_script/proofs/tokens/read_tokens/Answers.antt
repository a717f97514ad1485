use Rattle.std.proofs.Common.{◌≡◌, [], IsUtf8, rules}
use Rattle.topo_script.proofs.Spellings.{text_tokens}
use Rattle.topo_script.proofs.tokens.read_tokens.Goals as goal

pub returns-then-is_utf8 : goal.returns-then-is_utf8
returns-then-is_utf8 g c within path =
    let utf8 : IsUtf8 c.args.bytes.now = search rules in
    let ended : c.from_tokens.new.reader ≡ [] = search rules in
    text_tokens c.args.limit c.args.bytes.now c.if-bytes-limit.false utf8 c.new-reader.ensures c.in_ok-found.ensures ended within path
