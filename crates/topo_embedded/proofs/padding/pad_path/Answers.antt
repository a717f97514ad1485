use Rattle.std.proofs.Common.{◌≡◌, ◌++◌, ◌∷◌, ◌<◌, [], ap, length, List, Some, subst, sym, true, ℕ, ◌∙◌}
use Rattle.topo_core.specs.Items.{has_id}
use Rattle.topo_table.specs.Places.{ids_in}
use Rattle.std.specs.Prelude.{map}
use Rattle.indexmap.specs.IndexMap.{set_value_at}
use Rattle.topo_table.specs.Places.{present}
use Rattle.topo_table.proofs.Interface.{is_back, is_empty}
use Rattle.topo_kept_rows.proofs.Interface.{err_more, ok_more, on_ok}
use Rattle.topo_embedded.specs.Paths.{IsPathAt, path_in}
use Rattle.topo_embedded.proofs.halves.KeptPaths.{ids_kept, path_put, path_taken, path_there}
use Rattle.topo_embedded.proofs.padding.pad_path.Goals as goal

pub take-path-requires : goal.take-path-requires
take-path-requires c = (c.number.result, c.in-Some.ensures.there)

pub put-requires : goal.put-requires
put-requires c = is_empty c.args.paths.now c.take-path.new.self c.take-path.new.self c.number.result c.in-Some.place c.in-Some.ensures.there
    c.in-Some.ensures.rise
    c.take-path.ensures.slots c.take-path.ensures.room

pub unreachable-requires : goal.unreachable-requires
unreachable-requires c = path_there c.args.paths.now c.number.result
    (subst (λ (e : ℕ). has_id (ids_in c.args.paths.now) e ≡ true) (sym c.number.ensures) c.requires) c.in-None.ensures.none

pub returns-clause-ok : goal.returns-clause-ok
returns-clause-ok c = ok_more c.push-done.result
    (λ ok. subst (λ (e : ℕ). IsPathAt c.args.paths.now c.put.new.self e (path_in c.args.paths.now e ++ 0 ∷ [])) c.number.ensures
    (path_put c.args.paths.now c.take-path.new.self c.put.new.self c.number.result c.in-Some.place c.in-Some.ensures.there c.in-Some.ensures.rise
    c.take-path.ensures.slots c.take-path.ensures.room c.take-path.result c.take-path.ensures.value (path_in c.args.paths.now c.number.result ++ 0 ∷ [])
    (c.put.ensures.slots ∙ ap (λ (hs : List ℕ). set_value_at c.take-path.new.self.slots c.in-Some.place (Some hs))
    (ok ∙ ap (λ (h : ℕ). c.take-path.result ++ h ∷ []) c.numbered.ensures
    ∙ ap (λ (hs : List ℕ). hs ++ 0 ∷ []) (path_taken c.args.paths.now c.take-path.new.self c.put.new.self c.number.result c.in-Some.place
    c.in-Some.ensures.there c.in-Some.ensures.rise
    c.take-path.ensures.slots c.take-path.ensures.room c.take-path.result c.take-path.ensures.value))) c.put.ensures.room))
    c.push-done.ensures.ok

pub returns-clause-some : goal.returns-clause-some
returns-clause-some c = on_ok c.push-done.result (subst (λ (e : ℕ). 0 < length (path_in c.args.paths.now e)) c.number.ensures
    (subst (λ (hs : List ℕ). 0 < length hs) (path_taken c.args.paths.now c.take-path.new.self c.put.new.self c.number.result c.in-Some.place
    c.in-Some.ensures.there c.in-Some.ensures.rise
    c.take-path.ensures.slots c.take-path.ensures.room c.take-path.result c.take-path.ensures.value) c.push-done.ensures.some))

pub returns-clause-err : goal.returns-clause-err
returns-clause-err c = err_more c.push-done.result
    (λ same. ap (λ slots. map (λ e. e.1) (present slots)) (is_back c.args.paths.now c.take-path.new.self c.put.new.self c.number.result c.in-Some.place
    c.in-Some.ensures.there c.in-Some.ensures.rise c.take-path.ensures.slots c.take-path.ensures.room c.take-path.result c.take-path.ensures.value
    (c.put.ensures.slots ∙ ap (λ (hs : List ℕ). set_value_at c.take-path.new.self.slots c.in-Some.place (Some hs)) same)))
    c.push-done.ensures.err

pub returns-clause-same : goal.returns-clause-same
returns-clause-same c = ids_kept c.args.paths.now c.take-path.new.self c.put.new.self c.number.result c.in-Some.place c.in-Some.ensures.there
    c.in-Some.ensures.rise
    c.take-path.ensures.slots c.take-path.ensures.room c.take-path.result c.take-path.ensures.value _ c.put.ensures.slots c.put.ensures.room
