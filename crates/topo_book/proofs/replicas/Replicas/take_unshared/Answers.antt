use Rattle.std.proofs.Common.{take, drop, suc}
use Rattle.std.specs.Prelude.{Contains}
use Rattle.std.proofs.lemmas.List.Elements.{All-append, All-contains_itself, All-drop, All-take}
use Rattle.topo_book.proofs.replicas.Replicas.take_unshared.Goals as goal

pub returns-in-Some-clause-rest : goal.returns-in-Some-clause-rest
returns-in-Some-clause-rest c =
    let old = c.self.inside.kept.items in
    let place = c.in-Some.place in
    let rest = All-append (Contains old) (take place old) (drop (suc place) old) (All-take (Contains old) place old (All-contains_itself old))
    (All-drop (Contains old) (suc place) old (All-contains_itself old)) in
    rw (← c.self.view_is, c.remove.ensures.items) rest

pub returns-in-None-clause-rest : goal.returns-in-None-clause-rest
returns-in-None-clause-rest c = All-contains_itself c.args.self.now
