use Rattle.std.proofs.Common.{◌^◌, ℕ, sym, subst}
use Rattle.std.proofs.lemmas.Option.{IfSome_then}
use Rattle.topo_script.specs.Tokens.{SpellsNumber}
use Rattle.topo_script.proofs.Spellings.{number_tokens}
use Rattle.topo_script.proofs.tokens.U32FromTokens.from_tokens.Goals as goal

pub returns : goal.returns
returns c =
    IfSome_then c.short.result c.short.ensures (λ n is. number_tokens (2 ^ 32) n c.args.reader.now c.next_number.new.self
    (subst (λ (m : ℕ). SpellsNumber c.args.reader.now m c.next_number.new.self) (sym is.0) c.in_ok-number.ensures) is.1)
