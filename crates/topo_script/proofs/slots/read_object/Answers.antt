use Rattle.std.proofs.lemmas.Option.{IfSome_then}
use Rattle.topo_script.specs.Slots.{members_of}
use Rattle.topo_script.proofs.Objects.{object_spelled}
use Rattle.topo_script.proofs.slots.read_object.Goals as goal

pub returns : goal.returns
returns g c =
    IfSome_then c.read_members.result c.read_members.ensures (λ slots m. record {
      values = m.values;
      held = m.held;
      value = object_spelled (members_of c.args.keys.now m.values) c.in_ok-begin_object.ensures m.members;
    })
