use Rattle.std.proofs.Common.{◌≡◌, arith, length, ◌∙◌, ap}
use Rattle.topo_core.specs.Cycles.{cycles_of, map_of}
use Rattle.topo_core.specs.Rotations.{faces_of}
use Rattle.topo_perm.proofs.permutations.Walks.{faces_of-list}
use Rattle.topo_perm.proofs.permutations.Counting.{euler_bound_all}
use Rattle.topo_perm.proofs.laws.euler.Goals as goal

pub returns-clause-faces : goal.returns-clause-faces
returns-clause-faces g c =
    c.in_ok-cycles-2.ensures ∙ ap cycles_of c.deref.ensures.value
    ∙ faces_of-list c.args.images.now c.loop-dart.faces.items c.requires.permutation c.requires.even (omega arith)
    (λ a la. c.loop-dart.invariant.next a (omega arith))

pub returns-clause-bound : goal.returns-clause-bound
returns-clause-bound g c =
    let faces : c.in_ok-cycles-2.field-0 ≡ faces_of c.args.images.now =
    c.in_ok-cycles-2.ensures ∙ ap cycles_of c.deref.ensures.value
    ∙ faces_of-list c.args.images.now c.loop-dart.faces.items c.requires.permutation c.requires.even (omega arith)
    (λ a la. c.loop-dart.invariant.next a (omega arith)) in
    omega (
      arith,
      faces,
      c.in_ok-cycles.ensures,
      euler_bound_all (map_of c.args.images.now) (length c.args.images.now) _ c.requires.permutation c.requires.even c.in_ok-components.ensures,
    )
