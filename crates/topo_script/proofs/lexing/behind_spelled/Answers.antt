use Rattle.std.proofs.Common.{arith}
use Rattle.std.proofs.lemmas.Option.{IfSome_then}
use Rattle.topo_script.proofs.Letters.{closed, letter_more, none_spelled}
use Rattle.topo_script.proofs.lexing.behind_spelled.Goals as goal

pub loop-wanted-init : goal.loop-wanted-init
loop-wanted-init c = none_spelled c.args.inside.now c.args.text.now

pub loop-wanted-preserved : goal.loop-wanted-preserved
loop-wanted-preserved c =
    letter_more c.args.inside.now c.args.text.now c.loop-wanted.rest.now c.in_ok-letter.more.now c.loop-wanted.wanted-index c.in_ok-letter.letter
    c.loop-wanted-test.true c.if-letter-wanted.false c.loop-wanted.invariant c.in_ok-letter.ensures

pub returns : goal.returns
returns c =
    IfSome_then c.behind.result c.behind.ensures
    (λ rest left. closed c.args.inside.now c.args.text.now c.loop-wanted.rest.now rest.now c.loop-wanted.wanted-index (omega arith) c.loop-wanted.invariant left)
