use Rattle.std.proofs.Common.{List, ◌++◌, length}
use Rattle.json.specs.Token.{Token}
use Rattle.topo_script.specs.Tokens.{SpellsItems}
use Rattle.topo_script.proofs.tokens.token_items.Given as goal

-- what is left to come is spelled behind what was found
abbrev pub invariant-items : goal.invariant-items
invariant-items g l =
    (xs : List g.row.T.Denot) (rest : List Token) → SpellsItems g.T.FromTokens.nesting g.T.FromTokens.form l.reader xs rest
    → SpellsItems g.T.FromTokens.nesting g.T.FromTokens.form l.initial.reader (l.found.items ++ xs) rest

abbrev pub decreases-items : goal.decreases-items
decreases-items g l = length l.reader
