use Rattle.std.proofs.Common.{◌≡◌, ◌∷◌, take, sym, ap, ◌∙◌, subst}
use Rattle.std.proofs.lemmas.Option.{IfSome_then}
use Rattle.json.specs.Print.{escape}
use Rattle.topo_script.proofs.Fronts.{plain_escape, text_front, text_split}
use Rattle.topo_script.proofs.Letters.{spelled_front}
use Rattle.topo_script.proofs.lexing.behind_text.Goals as goal

pub returns-in-Some : goal.returns-in-Some
returns-in-Some c =
    let inside = c.in_ok-inside.inside.now in
    let len = c.plain_len-len.result in
    text_front (take len inside) c.args.bytes.now c.in-Some.rest.now
    (subst (λ n. escape (take n inside) ≡ take n inside) (sym c.plain_len-len.ensures.value) (plain_escape inside))
    (c.in_ok-inside.ensures ∙ ap (λ t. 34 ∷ t) (text_split inside c.in-Some.rest.now len c.in-Some.ensures))

pub returns-in-None : goal.returns-in-None
returns-in-None c =
    IfSome_then c.behind_word.result c.behind_word.ensures
    (λ r spells. spelled_front c.args.bytes.now c.in_ok-inside.inside.now r.0.now r.1.now c.in_ok-inside.ensures spells)
