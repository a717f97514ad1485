use Rattle.std.proofs.Common.{◌≡◌, codes, rules}
use Rattle.topo_script.proofs.TokenStarts.{seed_tokens}
use Rattle.topo_script.proofs.token_scripts.token_seed.Goals as goal

pub returns-then-bytes_are : goal.returns-then-bytes_are
returns-then-bytes_are c =
    let is : c.in_ok-text.text.now ≡ codes "seed" = search rules in
    seed_tokens c.in_ok-text.text.now c.args.reader.now c.next_text.new.self c.in_ok-text.ensures is
