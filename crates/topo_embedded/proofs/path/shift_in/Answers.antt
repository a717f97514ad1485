use Rattle.std.proofs.Common.{◌≡◌, arith, rules, ◌∙◌}
use Rattle.std.specs.List.{insert}
use Rattle.topo_embedded.proofs.inserting.Pads.{shifted_out}
use Rattle.topo_embedded.proofs.path.shift_in.Goals as goal

pub returns : goal.returns
returns c =
    let rest = c.pop-last.new.self.items in
    let put : c.insert.new.self.items ≡ insert rest c.args.at c.args.half = search rules in
    put ∙ shifted_out c.args.others.now.items rest c.pop-last.result _ c.args.half c.args.at c.pop-last.ensures.items
    (c.pop-last.ensures.value 0 (omega (arith, c.requires))) c.requires
