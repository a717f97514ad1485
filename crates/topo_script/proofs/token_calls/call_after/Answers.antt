use Rattle.std.proofs.Common.{◌≡◌, codes, rules}
use Rattle.topo_script.proofs.TokenCalls.{for_word, grow_tokens, insert_tokens, delete_tokens}
use Rattle.topo_script.proofs.token_calls.call_after.Goals as goal

pub returns-in_ok-u : goal.returns-in_ok-u
returns-in_ok-u c =
    let is : c.args.word.now ≡ codes "grow" = search rules in
    for_word is (grow_tokens c.in_ok-u.ensures)

pub returns-in_ok-u-2 : goal.returns-in_ok-u-2
returns-in_ok-u-2 c =
    let is : c.args.word.now ≡ codes "insert" = search rules in
    for_word is (insert_tokens c.in_ok-u-2.ensures)

pub returns-in_ok-edge : goal.returns-in_ok-edge
returns-in_ok-edge c =
    let is : c.args.word.now ≡ codes "delete" = search rules in
    for_word is (delete_tokens c.in_ok-edge.ensures)
