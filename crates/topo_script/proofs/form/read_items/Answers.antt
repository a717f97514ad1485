use Rattle.std.proofs.Common.{◌≡◌, ◌++◌, ◌∷◌, [], Ok, sym, ap, ◌∙◌, subst, rules}
use Rattle.topo_script.specs.Reads.{IsFirstFault}
use Rattle.topo_script.proofs.Items.{one_more, item_refused, all_found, none_yet, placed, placed_fault}
use Rattle.topo_script.proofs.form.read_items.Goals as goal

pub loop-i-init : goal.loop-i-init
loop-i-init g c = none_yet _ c.new-found.result.items c.new-found.ensures.items

pub returns-in-Err : goal.returns-in-Err
returns-in-Err g c =
    let form = g.T.Form.form in
    subst (λ q. IsFirstFault q c.in-Err.fault) c.loop-i.invariant
    (item_refused form c.args.path c.args.items.now c.loop-i.i c.index-items-i.result c.loop-i.found.items c.in-Err.fault c.loop-i-test.true
    (placed_fault form c.args.path c.element.result c.args.items.now c.loop-i.i c.index-items-i.result c.in-Err.fault c.element.ensures c.index-items-i.is
    c.in-Err.ensures))

pub loop-i-preserved : goal.loop-i-preserved
loop-i-preserved g c =
    let form = g.T.Form.form in
    let e : c.push.new.self.items ≡ c.loop-i.found.items ++ c.in-Ok.value ∷ [] = search rules in
    rw e (one_more form c.args.path c.args.items.now c.loop-i.i c.index-items-i.result c.loop-i.found.items c.in-Ok.value c.loop-i-test.true
    (placed form c.args.path c.element.result c.args.items.now c.loop-i.i c.index-items-i.result (Ok c.in-Ok.value)
    c.element.ensures c.index-items-i.is c.in-Ok.ensures) ∙ c.loop-i.invariant)

pub returns : goal.returns
returns g c = sym c.loop-i.invariant ∙ all_found g.T.Form.form c.args.path c.args.items.now c.loop-i.i c.loop-i.found.items c.loop-i-test.false
    ∙ ap (λ xs. Ok xs) (sym c.from_vec.ensures)
