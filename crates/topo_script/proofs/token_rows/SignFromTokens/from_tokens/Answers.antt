use Rattle.std.proofs.Common.{◌≡◌, codes, refl, rules}
use Rattle.topo_core.specs.declared.darts.Sign.TheVariants.{LeftToRight, RightToLeft}
use Rattle.topo_script.specs.RowForms.{sign_form}
use Rattle.topo_script.proofs.Spellings.{word_tokens}
use Rattle.topo_script.proofs.token_rows.SignFromTokens.from_tokens.Goals as goal

pub returns-then-bytes_are : goal.returns-then-bytes_are
unfolding sign_form
returns-then-bytes_are c =
    let is : c.in_ok-text.text.now ≡ codes "ltr" = search rules in
    word_tokens sign_form (codes "ltr") c.in_ok-text.text.now LeftToRight c.args.reader.now c.next_text.new.self c.in_ok-text.ensures is (λ path. refl)

pub returns-then-bytes_are-2 : goal.returns-then-bytes_are-2
unfolding sign_form
returns-then-bytes_are-2 c =
    let is : c.in_ok-text.text.now ≡ codes "rtl" = search rules in
    word_tokens sign_form (codes "rtl") c.in_ok-text.text.now RightToLeft c.args.reader.now c.next_text.new.self c.in_ok-text.ensures is (λ path. refl)
