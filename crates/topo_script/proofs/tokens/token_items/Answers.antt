use Rattle.std.proofs.Common.{◌≡◌, ◌∷◌, [], ◌++◌, length, Some, sym, ap, ◌∙◌, subst, rules, arith, append-nil}
use Rattle.json.specs.Json.{after_end_array}
use Rattle.topo_script.specs.Tokens.{Spells, SpellsItems}
use Rattle.topo_script.proofs.Spellings.{tokens-shorter, spells-going, items_done, item_found}
use Rattle.topo_script.proofs.tokens.token_items.Goals as goal

pub items-init : goal.items-init
items-init g c xs rest h = subst (λ found. SpellsItems g.T.FromTokens.nesting g.T.FromTokens.form c.args.reader.now (found ++ xs) rest)
    (sym c.new-found.ensures.items) h

pub items-smaller : goal.items-smaller
items-smaller g c =
    let kept : c.take_end_array.new.self ≡ c.items.reader = search rules in
    let less = tokens-shorter g.T.FromTokens.nesting g.T.FromTokens.form c.take_end_array.new.self c.in_ok-item.item c.from_tokens.new.reader
    c.in_ok-item.ensures in
    omega (arith, less, ap length kept)

pub items-preserved : goal.items-preserved
items-preserved g c =
    let kept : c.take_end_array.new.self ≡ c.items.reader = search rules in
    let spelled = subst (λ ts. Spells g.T.FromTokens.nesting g.T.FromTokens.form ts c.in_ok-item.item c.from_tokens.new.reader) kept c.in_ok-item.ensures in
    let going = spells-going g.T.FromTokens.nesting g.T.FromTokens.form c.items.reader c.in_ok-item.item c.from_tokens.new.reader spelled in
    let pushed : c.push.new.self.items ≡ c.items.found.items ++ c.in_ok-item.item ∷ [] = search rules in
    item_found g.T.FromTokens.nesting g.T.FromTokens.form c.args.reader.now c.items.reader c.from_tokens.new.reader c.items.found.items c.push.new.self.items
    c.in_ok-item.item going spelled pushed c.items.invariant

pub returns : goal.returns
returns g c =
    let closed : after_end_array c.items.reader ≡ Some c.take_end_array.new.self = grind arith in
    subst (λ found. SpellsItems g.T.FromTokens.nesting g.T.FromTokens.form c.args.reader.now found c.take_end_array.new.self)
    (append-nil c.items.found.items ∙ sym c.from_vec.ensures)
    (c.items.invariant [] c.take_end_array.new.self (items_done g.T.FromTokens.nesting g.T.FromTokens.form c.items.reader c.take_end_array.new.self closed))
