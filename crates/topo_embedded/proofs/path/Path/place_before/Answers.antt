use Rattle.std.proofs.Common.{arith, ◌≡◌, ◌<◌, ◌∷◌, ◌∙◌, ap, sym, List, ℕ}
use Rattle.topo_embedded.specs.Along.{halves_along}
use Rattle.topo_embedded.specs.Halves.{on_segment}
use Rattle.topo_embedded.proofs.halves.Blocks.{none_behind}
use Rattle.topo_embedded.proofs.path.Path.place_before.Goals as goal

pub returns-in-More-clause-none : goal.returns-in-More-clause-none
returns-in-More-clause-none c =
    let others = c.as_slice.result.now in
    let passed = c.min-passed.result in
    let path : c.in-More.field-0 ∷ others ≡ c.args.self.now =
    ap (λ (hs : List ℕ). c.in-More.field-0 ∷ hs) (c.as_slice.ensures.value ∙ ap (λ rest. rest.items) c.deref-in-More.ensures)
    ∙ ap halves_along (sym c.in-More.is) ∙ c.self.view_is in
    let less : passed < c.args.from = omega (arith, c.min-passed.ensures, c.if-from-gt0.true) in
    none_behind (on_segment c.args.half) c.in-More.field-0 others c.args.self.now c.args.from passed c.blocks_before.result path less
    c.blocks_before.ensures.within c.blocks_before.ensures.none
