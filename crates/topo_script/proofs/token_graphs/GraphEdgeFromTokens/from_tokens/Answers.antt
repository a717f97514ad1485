use Rattle.std.proofs.Common.{◌<◌, arith}
use Rattle.topo_core.specs.declared.rows.TheConstants.{KINDS}
use Rattle.topo_script.proofs.TokenGraphs.{graph_edge_tokens}
use Rattle.topo_script.proofs.token_graphs.GraphEdgeFromTokens.from_tokens.Goals as goal

pub returns-then-kind-lt-KINDS : goal.returns-then-kind-lt-KINDS
returns-then-kind-lt-KINDS c =
    let few : c.in_ok-a.kind < KINDS = grind arith in
    graph_edge_tokens c.in_ok-begin_array.ensures c.in_ok-a.ensures few
