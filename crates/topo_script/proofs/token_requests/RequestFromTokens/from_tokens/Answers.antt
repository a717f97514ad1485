use Rattle.std.proofs.Common.{◌∷◌, Some, sym, ap, ◌∙◌}
use Rattle.std.proofs.lemmas.Option.{IfSome_then}
use Rattle.json.specs.Token.{string as text_token}
use Rattle.topo_script.specs.declared.sessions.Request.TheVariants.{Carry}
use Rattle.topo_script.proofs.TokenRequests.{array_asked, keyed_asked, command_asked}
use Rattle.topo_script.proofs.token_requests.RequestFromTokens.from_tokens.Goals as goal

pub returns-then-not-is_at : goal.returns-then-not-is_at
returns-then-not-is_at c = IfSome_then c.token_keyed.result c.token_keyed.ensures (λ request s. keyed_asked s)

pub returns-in-Some : goal.returns-in-Some
returns-in-Some c =
    array_asked (Some (Carry c.in-Some.command)) c.command_after.new.reader c.in_ok-begin_array.ensures c.in_ok-word.ensures (command_asked c.in-Some.ensures)

pub returns : goal.returns
returns c =
    array_asked c.asked_after.result c.asked_after.new.reader c.in_ok-begin_array.ensures
    (c.in_ok-word.ensures ∙ ap (λ ts. text_token c.in_ok-word.word.now ∷ ts) (sym c.copy-begins.ensures)) c.asked_after.ensures
