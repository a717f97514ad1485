use Rattle.std.proofs.Common.{◌≡◌, codes, refl, rules}
use Rattle.topo_core.specs.declared.darts.Way.TheVariants.{Forward, Back}
use Rattle.topo_script.specs.ReplyForms.{way_form}
use Rattle.topo_script.proofs.Spellings.{word_tokens}
use Rattle.topo_script.proofs.token_replies.WayFromTokens.from_tokens.Goals as goal

pub returns-then-bytes_are : goal.returns-then-bytes_are
unfolding way_form
returns-then-bytes_are c =
    let is : c.in_ok-text.text.now ≡ codes "forward" = search rules in
    word_tokens way_form (codes "forward") c.in_ok-text.text.now Forward c.args.reader.now c.next_text.new.self c.in_ok-text.ensures is (λ path. refl)

pub returns-then-bytes_are-2 : goal.returns-then-bytes_are-2
unfolding way_form
returns-then-bytes_are-2 c =
    let is : c.in_ok-text.text.now ≡ codes "back" = search rules in
    word_tokens way_form (codes "back") c.in_ok-text.text.now Back c.args.reader.now c.next_text.new.self c.in_ok-text.ensures is (λ path. refl)
