use Rattle.std.proofs.Common.{◌≡◌, arith, ◌∙◌, ap}
use Rattle.std.proofs.lemmas.Grind.{common_steps}
use Rattle.topo_core.specs.Cycles.{cycles_of}
use Rattle.topo_perm.proofs.Interface.{faces_of-list}
use Rattle.topo_rows.proofs.load.faces.Goals as goal

pub returns : goal.returns
returns c =
    let written : c.deref.result.now ≡ c.write_nexts.new.nexts = grind (arith, common_steps) in
    c.in_ok-count.ensures ∙ ap cycles_of written
    ∙ faces_of-list c.args.images.now c.write_nexts.new.nexts c.requires.permutation c.requires.even c.write_nexts.ensures.as_many c.write_nexts.ensures.next
