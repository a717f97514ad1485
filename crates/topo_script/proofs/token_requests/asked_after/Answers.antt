use Rattle.std.proofs.Common.{◌≡◌, codes, rules}
use Rattle.topo_script.proofs.TokenRequests.{for_word, edge_asked, vertex_asked, undo_asked}
use Rattle.topo_script.proofs.token_requests.asked_after.Goals as goal

pub returns-in_ok-edge : goal.returns-in_ok-edge
returns-in_ok-edge c =
    let is : c.args.word.now ≡ codes "edge" = search rules in
    for_word is (edge_asked c.in_ok-edge.ensures)

pub returns-in_ok-vertex : goal.returns-in_ok-vertex
returns-in_ok-vertex c =
    let is : c.args.word.now ≡ codes "vertex" = search rules in
    for_word is (vertex_asked c.in_ok-vertex.ensures)

pub returns-in_ok-count : goal.returns-in_ok-count
returns-in_ok-count c =
    let is : c.args.word.now ≡ codes "undo" = search rules in
    for_word is (undo_asked c.in_ok-count.ensures)
