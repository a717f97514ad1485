use Rattle.std.proofs.Common.{◌≤◌, max, arith}
use Rattle.std.proofs.Math.Nat.{max-le}
use Rattle.topo_script.proofs.Objects.{due_held, due_last, only_spelled}
use Rattle.topo_script.proofs.slots.read_only.Goals as goal

pub returns : goal.returns
returns g c =
    let o = c.in_ok-slots.ensures in
    let within : max g.T.FromTokens.nesting 0 ≤ g.T.FromTokens.nesting = max-le (omega arith) (omega arith) in
    only_spelled g.T.FromTokens.nesting c.args.key o.value (omega (arith, within)) (due_last (due_held g.T.FromTokens.form _ c.in_ok-value.ensures o.held))
