use Rattle.std.proofs.Common.{◌≡◌, codes, refl, rules}
use Rattle.topo_graph.specs.declared.Effort.TheVariants.{Quick, Default, Thorough}
use Rattle.topo_script.specs.Graphs.{effort_form}
use Rattle.topo_script.proofs.Spellings.{word_tokens}
use Rattle.topo_script.proofs.token_graphs.EffortFromTokens.from_tokens.Goals as goal

pub returns-then-bytes_are : goal.returns-then-bytes_are
unfolding effort_form
returns-then-bytes_are c =
    let is : c.in_ok-text.text.now ≡ codes "quick" = search rules in
    word_tokens effort_form (codes "quick") c.in_ok-text.text.now Quick c.args.reader.now c.next_text.new.self c.in_ok-text.ensures is (λ path. refl)

pub returns-then-bytes_are-2 : goal.returns-then-bytes_are-2
unfolding effort_form
returns-then-bytes_are-2 c =
    let is : c.in_ok-text.text.now ≡ codes "default" = search rules in
    word_tokens effort_form (codes "default") c.in_ok-text.text.now Default c.args.reader.now c.next_text.new.self c.in_ok-text.ensures is (λ path. refl)

pub returns-then-bytes_are-3 : goal.returns-then-bytes_are-3
unfolding effort_form
returns-then-bytes_are-3 c =
    let is : c.in_ok-text.text.now ≡ codes "thorough" = search rules in
    word_tokens effort_form (codes "thorough") c.in_ok-text.text.now Thorough c.args.reader.now c.next_text.new.self c.in_ok-text.ensures is (λ path. refl)
