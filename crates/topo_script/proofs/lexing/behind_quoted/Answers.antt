use Rattle.std.proofs.Common.{◌∷◌, ◌++◌, ap, subst, ◌∙◌}
use Rattle.std.proofs.lemmas.Option.{IfSome_then}
use Rattle.topo_script.specs.Readers.{SpellsInside}
use Rattle.topo_script.proofs.Fronts.{text_front}
use Rattle.topo_script.proofs.Letters.{spelled_front}
use Rattle.topo_script.proofs.lexing.behind_quoted.Goals as goal

pub returns-in-Some : goal.returns-in-Some
returns-in-Some c =
    IfSome_then c.behind-in-Some.result c.behind-in-Some.ensures
    (λ rest closed. text_front c.args.text.now c.args.bytes.now rest.now c.requires
    (c.in_ok-inside.ensures ∙ ap (λ t. 34 ∷ t) (c.in-Some.ensures ∙ ap (λ t. c.args.text.now ++ t) closed)))

pub returns-in-None : goal.returns-in-None
returns-in-None c =
    IfSome_then c.behind_spelled.result c.behind_spelled.ensures
    (λ rest spells. spelled_front c.args.bytes.now c.in_ok-inside.inside.now c.args.text.now rest.now c.in_ok-inside.ensures
    (subst (λ t. SpellsInside c.in_ok-inside.inside.now t rest.now) c.as_bytes.ensures.value spells))
