use Rattle.std.proofs.Common.{◌<◌, ◌≤◌, refl, ap, ◌∙◌, subst, true, unwrap_or, arith}
use Rattle.std.proofs.lemmas.List.{nil_from_length}
use Rattle.topo_script.specs.declared.graph_forms.TheConstants.{MAX_THREADS}
use Rattle.topo_script.specs.Graphs.{edge_form, effort_form}
use Rattle.topo_script.specs.Reads.{list_form, number_form}
use Rattle.topo_script.specs.Scripts.{price_form}
use Rattle.topo_script.specs.TokenParts.{ArePricesOf, unread_form}
use Rattle.topo_script.proofs.Objects.{due_held, due_last, maybe_held}
use Rattle.topo_script.proofs.TokenGraphs.{graph_tokens}
use Rattle.topo_script.proofs.token_graphs.GraphAskedFromTokens.from_tokens.Goals as goal

pub returns : goal.returns
returns c =
    let o = c.in_ok-slots.ensures in
    let edges = due_held (list_form edge_form) _ c.in_ok-edges.ensures o.held in
    let effort = maybe_held effort_form _ c.maybe-effort.ensures edges.held in
    let prices = maybe_held (list_form (price_form true)) _ c.maybe-prices.ensures effort.held in
    let progress = maybe_held unread_form _ c.maybe-progress.ensures prices.held in
    let seconds = maybe_held number_form _ c.maybe-seconds.ensures progress.held in
    let seed = maybe_held number_form _ c.maybe-seed.ensures seconds.held in
    let start = maybe_held unread_form _ c.maybe-start.ensures seed.held in
    let threads = maybe_held number_form _ c.maybe-threads.ensures start.held in
    let version = due_held number_form _ c.in_ok-version.ensures threads.held in
    let vertices = due_last (due_held number_form _ c.in_ok-vertices.ensures version.held) in
    let is = c.unwrap_or.ensures ∙ ap (unwrap_or c.maybe-prices.result.0) (nil_from_length _ c.new.ensures) in
    let kept = subst (λ ps. ArePricesOf c.in_ok-version.version ps c.in_ok-prices.prices) is c.in_ok-prices.ensures in
    let some : 0 < c.unwrap_or-threads.result = grind arith in
    let few : c.unwrap_or-threads.result ≤ MAX_THREADS = grind arith in
    graph_tokens o.value (omega arith) edges.first effort.first prices.first progress.first seconds.first seed.first start.first threads.first version.first
    vertices c.unwrap_or-2.ensures kept c.unwrap_or-3.ensures c.unwrap_or-threads.ensures some few refl refl
