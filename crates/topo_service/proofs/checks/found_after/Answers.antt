use Rattle.std.proofs.Common.{◌≡◌, ◌==◌, true, false, Some, sym, ap, ◌∙◌, arith}
use Rattle.std.specs.Prelude.{slice_get}
use Rattle.std.proofs.lemmas.Bool.Decides.{nat_tests}
use Rattle.std.proofs.lemmas.Option.{slice_get-get_or}
use Rattle.topo_service.proofs.Matching.{differs_here, found_one, found_other}
use Rattle.topo_service.proofs.checks.found_after.Goals as goal

pub returns-then-entry-number-clause-some : goal.returns-then-entry-number-clause-some
returns-then-entry-number-clause-some c es h =
    let e = c.args.entry.now in
    let ne = c.if-entry-number.true in
    let is : (e.caller == c.args.number) ≡ false = grind (arith, nat_tests, ne) in
    found_other e false is (λ off. absurd (cc off)) h

pub returns-then-k-receipts-clause-some : goal.returns-then-k-receipts-clause-some
returns-then-k-receipts-clause-some c es h =
    let e = c.args.entry.now in
    let eq = c.if-entry-number.false in
    let is : (e.caller == c.args.number) ≡ true = grind (arith, nat_tests, eq) in
    found_other e true is (λ _. c.if-k-receipts.true) h

pub returns-then-is_of-clause-some : goal.returns-then-is_of-clause-some
returns-then-is_of-clause-some c es h =
    let e = c.args.entry.now in
    let eq = c.if-entry-number.false in
    let is : (e.caller == c.args.number) ≡ true = grind (arith, nat_tests, eq) in
    found_one e is c.if-k-receipts.false c.index-receipts-k.is (c.is_of.ensures.0 c.if-is_of.true) h

pub returns-clause-none : goal.returns-clause-none
returns-clause-none c before after h =
    let e = c.args.entry.now in
    let r = c.index-receipts-k.result in
    let eq = c.if-entry-number.false in
    let is : (e.caller == c.args.number) ≡ true = grind (arith, nat_tests, eq) in
    let there : slice_get c.args.receipts.now c.args.k ≡ Some r = slice_get-get_or c.args.receipts.now c.args.k r c.if-k-receipts.false
    ∙ ap Some (sym c.index-receipts-k.is) in
    differs_here after e is c.if-k-receipts.false there
    (λ same. absurd (cc (c.is_of.ensures.1 same, c.if-is_of.false))) h
