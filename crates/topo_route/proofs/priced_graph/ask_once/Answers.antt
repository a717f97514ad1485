use Rattle.std.proofs.Common.{◌≡◌, ◌≢◌, ◌+◌, ◌-◌, ◌*◌, ◌<◌, ◌∷◌, ◌∙◌, [], List, None, ap, arith, length, length-append, subst, sym, ℕ}
use Rattle.std.specs.Prelude.{Option, slice_index_or}
use Rattle.topo_price.specs.Prices.{prices_of}
use Rattle.topo_route.specs.EachOnce.{AreAsked}
use Rattle.topo_route.specs.Names.{dart_named}
use Rattle.topo_route.specs.Numbers.{IsPriceAt, dart_of}
use Rattle.topo_route.proofs.names.Asking.{is_asked, is_known}
use Rattle.topo_route.proofs.names.Canonical.{lawful_shown, number_is, price_is_at}
use Rattle.topo_route.proofs.names.Numbers.{in_list}
use Rattle.topo_route.proofs.names.Prices.{by_answer}
use Rattle.topo_route.proofs.names.Segments.{at_end}
use Rattle.topo_route.proofs.priced_graph.ask_once.Goals as goal
use Rattle.topo_route.proofs.priced_graph.ask_once.Goals.{then-dart-gt0+else-before-edge, else-dart-gt0}

pub returns-then-before-edge-clause-asked : goal.returns-then-before-edge-clause-asked
returns-then-before-edge-clause-asked g c =
    let dual = c.args.dual.now in
    let lawful = lawful_shown (g.met.D.Dual.numbered dual) (g.met.D.FaceGraph.lawful dual) in
    let rows = g.D.Dual.shows dual in
    let same : (dart_of rows (2 * c.args.segment - 2)).edge ≡ (dart_of rows (2 * c.args.segment)).edge =
    omega (arith, c.edge_at-before.ensures, c.if-before-edge.true, c.edge_at-edge.ensures) in
    (is_known (prices_of (g.F.PriceFn.may_return c.args.tariff.now)) rows lawful c.args.asked.now c.args.segment c.requires.before
    (omega (arith, c.if-dart-gt0.true)) c.requires.within same).0

pub returns-then-before-edge-clause-price : goal.returns-then-before-edge-clause-price
returns-then-before-edge-clause-price g c =
    let dual = c.args.dual.now in
    let rows = g.D.Dual.shows dual in
    let price = prices_of (g.F.PriceFn.may_return c.args.tariff.now) in
    let asked = c.args.asked.now in
    let lawful = lawful_shown (g.met.D.Dual.numbered dual) (g.met.D.FaceGraph.lawful dual) in
    let same : (dart_of rows (2 * c.args.segment - 2)).edge ≡ (dart_of rows (2 * c.args.segment)).edge =
    omega (arith, c.edge_at-before.ensures, c.if-before-edge.true, c.edge_at-edge.ensures) in
    let known = is_known price rows lawful asked c.args.segment c.requires.before
    (omega (arith, c.if-dart-gt0.true)) c.requires.within same in
    let last : slice_index_or asked (length asked - 1) None ≡ c.price.result = ap (λ n. slice_index_or asked (n - 1) None) (sym c.count.ensures)
    ∙ in_list asked (c.count.result - 1) c.price.result None c.price.ensures in
    subst (IsPriceAt price rows (2 * c.args.segment)) last known.2

pub facts-requires : goal.facts-requires
facts-requires g c =
    let dual = c.args.dual.now in
    number_is (g.D.FaceGraph.named dual) (g.D.Dual.shows dual) (g.met.D.Dual.numbered dual) (g.met.D.FaceGraph.lawful dual)
    (2 * c.args.segment) c.requires.within

pub returns-clause-asked : goal.returns-clause-asked
returns-clause-asked g c =
    let dual = c.args.dual.now in
    let named = g.D.FaceGraph.named dual in
    let rows = g.D.Dual.shows dual in
    let numbered = g.met.D.Dual.numbered dual in
    let price = prices_of (g.F.PriceFn.may_return c.args.tariff.now) in
    let s = c.args.segment in
    let told = c.in_ok-ask.ensures.asked in
    let is = price_is_at named rows numbered (g.met.D.FaceGraph.lawful dual) price (2 * s) told.answer c.requires.within
    (by_answer price named.rows (dart_named named (2 * s)) c.facts.result told.answer c.facts.ensures told.price) in
    let other : 0 < s → (dart_of rows (2 * s - 2)).edge ≢ (dart_of rows (2 * s)).edge = elim c.if-dart-gt0.branch [
      | then-dart-gt0+else-before-edge w ↦ λ some same. absurd (omega (arith, same, w.edge_at-before.ensures, w.edge_at-edge.ensures, w.if-before-edge.false))
      | else-dart-gt0 w ↦ λ some same. absurd (omega (arith, some, w.if-dart-gt0.false))
    ] in
    subst (λ (xs : List (Option ℕ)). AreAsked price rows xs (s + 1)) (sym told.added)
    (is_asked price rows (lawful_shown numbered (g.met.D.FaceGraph.lawful dual)) c.args.asked.now s c.requires.before c.requires.within other told.answer is)

pub returns-clause-price : goal.returns-clause-price
returns-clause-price g c =
    let dual = c.args.dual.now in
    let named = g.D.FaceGraph.named dual in
    let rows = g.D.Dual.shows dual in
    let price = prices_of (g.F.PriceFn.may_return c.args.tariff.now) in
    let s = c.args.segment in
    let asked = c.args.asked.now in
    let xs = c.ask.new.self in
    let told = c.in_ok-ask.ensures.asked in
    let is = price_is_at named rows (g.met.D.Dual.numbered dual) (g.met.D.FaceGraph.lawful dual) price (2 * s) told.answer c.requires.within
    (by_answer price named.rows (dart_named named (2 * s)) c.facts.result told.answer c.facts.ensures told.price) in
    let long : length xs ≡ length asked + 1 = ap (λ (ys : List (Option ℕ)). length ys) told.added ∙ length-append asked (told.answer ∷ []) in
    let place : c.count-2.result - 1 ≡ length asked = omega (arith, c.count-2.ensures, long) in
    let at : slice_index_or xs (c.count-2.result - 1) None ≡ told.answer = ap (λ (i : ℕ). slice_index_or xs i None) place
    ∙ ap (λ (ys : List (Option ℕ)). slice_index_or ys (length asked) None) told.added ∙ at_end asked told.answer None in
    let last : told.answer ≡ c.price-2.result = sym at ∙ in_list xs (c.count-2.result - 1) c.price-2.result None c.price-2.ensures in
    subst (IsPriceAt price rows (2 * s)) last is
