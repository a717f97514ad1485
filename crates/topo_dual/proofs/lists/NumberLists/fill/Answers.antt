use Rattle.std.proofs.Common.{◌≡◌, ◌∙◌, arith, length, subst, sym}
use Rattle.topo_dual.specs.NumberedRows.{AreNumbersOf}
use Rattle.topo_dual.proofs.HalfNumbers.{halves_apart, halves_within, lists_are, numbers_are, written_over}
use Rattle.topo_dual.proofs.lists.NumberLists.fill.Goals as goal

pub write_numbers-requires-clause-apart : goal.write_numbers-requires-clause-apart
write_numbers-requires-clause-apart c =
    halves_apart c.args.embedded.now c.requires.lawful.embedding.well_formed c.size.result c.size.ensures.named c.as_slice-halves.result.now
    (c.as_slice-halves.ensures.value ∙ c.in_ok-fill_halves.ensures)

pub write_numbers-requires-clause-within : goal.write_numbers-requires-clause-within
write_numbers-requires-clause-within c = λ i less.
    let within = halves_within c.args.embedded.now c.requires.lawful.embedding.well_formed c.size.result c.size.ensures.named c.as_slice-halves.result.now
    (c.as_slice-halves.ensures.value ∙ c.in_ok-fill_halves.ensures) i less in
    let as_long : length c.deref_mut.result.now ≡ c.size.result = grind arith in
    omega (arith, within, as_long)

pub write_nexts-requires-clause-named : goal.write_nexts-requires-clause-named
write_nexts-requires-clause-named c =
    let written = c.write_numbers.new.numbers in
    let as_long : length written ≡ c.size.result = grind arith in
    let whole : c.resize.new.self.len ≡ length written = grind arith in
    subst (AreNumbersOf c.args.embedded.now c.as_slice-halves.result.now)
    (sym (c.as_slice.ensures.value ∙ written_over written c.resize.new.self.items c.resize.new.self.len whole))
    (numbers_are c.args.embedded.now c.requires.lawful.embedding.well_formed c.size.result c.size.ensures.named c.as_slice-halves.result.now
    (c.as_slice-halves.ensures.value ∙ c.in_ok-fill_halves.ensures)
    written as_long c.write_numbers.ensures (omega (arith, c.size.ensures.many)) c.requires.vertices)

pub returns : goal.returns
returns c =
    let written = c.write_numbers.new.numbers in
    let nexts = c.write_nexts.new.nexts in
    let as_long : length written ≡ c.size.result = grind arith in
    let whole : c.resize.new.self.len ≡ length written = grind arith in
    let as_many : length nexts ≡ length c.as_slice-halves.result.now = grind arith in
    let faces = c.fill_faces-self.new.faces in
    let labelled : length faces ≡ length c.as_slice-halves.result.now = grind arith in
    let every : c.resize-3.new.self.len ≡ length faces = grind arith in
    let all : c.resize-2.new.self.len ≡ length nexts = grind arith in
    lists_are
    (numbers_are c.args.embedded.now c.requires.lawful.embedding.well_formed c.size.result c.size.ensures.named c.as_slice-halves.result.now
    (c.as_slice-halves.ensures.value ∙ c.in_ok-fill_halves.ensures)
    written as_long c.write_numbers.ensures (omega (arith, c.size.ensures.many)) c.requires.vertices)
    as_many c.write_nexts.ensures labelled c.fill_faces-self.ensures c.as_slice-halves.ensures.value
    (written_over written c.resize.new.self.items c.resize.new.self.len whole) (written_over nexts c.resize-2.new.self.items c.resize-2.new.self.len all)
    (written_over faces c.resize-3.new.self.items c.resize-3.new.self.len every)
