use Rattle.std.proofs.Common.{[], ◌∷◌, List, ap, Some, ℕ, ◌∙◌}
use Rattle.indexmap.specs.IndexMap.{set_value_at}
use Rattle.topo_table.proofs.Interface.{is_empty}
use Rattle.topo_embedded.proofs.halves.KeptPaths.{ids_kept, path_put, path_taken, path_there}
use Rattle.topo_embedded.proofs.deletion.stand_in.Goals as goal

pub take-path-requires : goal.take-path-requires
take-path-requires c = (c.args.edge, c.in-Some.ensures.there)

pub put-requires : goal.put-requires
put-requires c = is_empty c.args.paths.now c.take-path.new.self c.take-path.new.self c.args.edge c.in-Some.place c.in-Some.ensures.there c.in-Some.ensures.rise
    c.take-path.ensures.slots c.take-path.ensures.room

pub unreachable-requires : goal.unreachable-requires
unreachable-requires c = path_there c.args.paths.now c.args.edge c.requires c.in-None.ensures.none

pub returns-clause-path : goal.returns-clause-path
returns-clause-path c = path_taken c.args.paths.now c.take-path.new.self c.put.new.self c.args.edge c.in-Some.place c.in-Some.ensures.there
    c.in-Some.ensures.rise
    c.take-path.ensures.slots c.take-path.ensures.room c.take-path.result c.take-path.ensures.value

pub returns-clause-paths : goal.returns-clause-paths
returns-clause-paths c = path_put c.args.paths.now c.take-path.new.self c.put.new.self c.args.edge c.in-Some.place c.in-Some.ensures.there
    c.in-Some.ensures.rise
    c.take-path.ensures.slots c.take-path.ensures.room c.take-path.result c.take-path.ensures.value (0 ∷ [])
    (c.put.ensures.slots ∙ ap (λ (hs : List ℕ). set_value_at c.take-path.new.self.slots c.in-Some.place (Some hs))
    (c.of.ensures ∙ ap (λ (h : ℕ). h ∷ []) c.numbered.ensures)) c.put.ensures.room

pub returns-clause-same : goal.returns-clause-same
returns-clause-same c = ids_kept c.args.paths.now c.take-path.new.self c.put.new.self c.args.edge c.in-Some.place c.in-Some.ensures.there c.in-Some.ensures.rise
    c.take-path.ensures.slots c.take-path.ensures.room c.take-path.result c.take-path.ensures.value _ c.put.ensures.slots c.put.ensures.room
