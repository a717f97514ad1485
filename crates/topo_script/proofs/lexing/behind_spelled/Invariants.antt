use Rattle.topo_script.proofs.Letters.{AreSpelled}
use Rattle.topo_script.proofs.lexing.behind_spelled.Given as goal

-- the letters so far are spelled
abbrev pub invariant-loop-wanted : goal.invariant-loop-wanted
invariant-loop-wanted l = AreSpelled l.inside l.text l.wanted-index l.rest
