use Rattle.std.proofs.Common.{rules, arith, ◌≡◌, ◌≤◌, ◌∙◌, [], length, sym}
use Rattle.std.proofs.lemmas.List.{drop_all}
use Rattle.std.specs.Io.KnownBytes.{Consumes, IsAtEnd}
use Rattle.topo_serve.proofs.TakingLaws.{part_ahead, part_over}
use Rattle.topo_serve.proofs.ahead.Ahead.take_part.Goals as goal

pub returns-then-self-len-clause-part : goal.returns-then-self-len-clause-part
returns-then-self-len-clause-part g c = part_ahead c.in_ok-part.ensures.parts

pub returns-then-branch-clause-part : goal.returns-then-branch-clause-part
returns-then-branch-clause-part g c =
    let at = c.self.inside.at in
    let items = c.self.inside.bytes.items in
    let within : length c.args.line.now.items ≤ c.args.most = search (rules, arith) in
    let past : length items ≤ at = search (rules, arith) in
    let none : c.args.self.now ≡ [] = sym c.self.view_is ∙ drop_all at items past in
    let consumed : Consumes (g.R.Read.remaining c.args.reader.now) (g.R.Read.remaining c.refill.new.reader) c.refill.new.self = search rules in
    let over : IsAtEnd (g.R.Read.remaining c.refill.new.reader) = search rules in
    let empty : c.refill.new.self ≡ [] = search rules in
    part_over within none consumed over empty
