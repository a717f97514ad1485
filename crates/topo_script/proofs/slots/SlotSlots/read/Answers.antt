use Rattle.std.proofs.Common.{◌≡◌, ◌∷◌, rules, is_some, false}
use Rattle.std.proofs.lemmas.Option.{IfSome_then}
use Rattle.std.proofs.Math.Nat.{le-max_left, le-max_right}
use Rattle.json.specs.Token.{key}
use Rattle.topo_script.specs.Reads.{name_of}
use Rattle.topo_script.proofs.Objects.{filled_here, filled_behind}
use Rattle.topo_script.proofs.slots.SlotSlots.read.Goals as goal

pub returns-then-not-take_key : goal.returns-then-not-take_key
returns-then-not-take_key g c =
    let kept : c.take_key.new.self ≡ c.args.reader.now = search rules in
    IfSome_then c.read.result c.read.ensures (λ _ filled. filled_behind g.A.FromTokens.form g.R.Slots.holds _ c.args.self.now.found
    c.in_ok-known.ensures.cases.0 kept filled (le-max_right g.A.FromTokens.nesting g.R.Slots.nesting))

pub returns : goal.returns
returns g c =
    let named : c.args.reader.now ≡ key (name_of c.in_ok-known.known.now) ∷ c.take_key.new.self = search rules in
    let empty : is_some c.args.self.now.found ≡ false = search rules in
    filled_here g.A.FromTokens.form g.R.Slots.holds c.args.self.now.rest c.args.self.now.found c.in_ok-known.ensures.cases.0 named empty c.in_ok-value.ensures
    (le-max_left g.A.FromTokens.nesting g.R.Slots.nesting)
