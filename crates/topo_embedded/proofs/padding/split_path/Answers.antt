use Rattle.std.proofs.Common.{◌≡◌, ◌≤◌, ◌++◌, ◌∷◌, [], length, List, subst, sym, true, ℕ, ◌∙◌}
use Rattle.topo_core.specs.Items.{has_id}
use Rattle.topo_table.specs.Places.{ids_in}
use Rattle.topo_table.proofs.Interface.{is_empty}
use Rattle.topo_embedded.specs.Inserting.{piece}
use Rattle.topo_embedded.specs.Padding.{AreOff, IsOn}
use Rattle.topo_embedded.specs.Paths.{IsPathSo, path_in}
use Rattle.topo_embedded.proofs.halves.KeptPaths.{ids_kept, path_put, path_taken, path_there}
use Rattle.topo_embedded.proofs.padding.split_path.Goals as goal

pub take-path-requires : goal.take-path-requires
take-path-requires c = (c.number.result, c.in-Some.ensures.there)

pub put-requires : goal.put-requires
put-requires c = is_empty c.args.paths.now c.take-path.new.self c.take-path.new.self c.number.result c.in-Some.place c.in-Some.ensures.there
    c.in-Some.ensures.rise
    c.take-path.ensures.slots c.take-path.ensures.room

pub unreachable-requires : goal.unreachable-requires
unreachable-requires c = path_there c.args.paths.now c.number.result
    (subst (λ (e : ℕ). has_id (ids_in c.args.paths.now) e ≡ true) (sym c.number.ensures) c.requires) c.in-None.ensures.none

pub returns-clause-path : goal.returns-clause-path
returns-clause-path c = subst (λ (e : ℕ). IsPathSo c.args.paths.now c.put.new.self e
    (λ path. (xs ys : List ℕ) (h last : ℕ) → path_in c.args.paths.now e ≡ xs ++ h ∷ (ys ++ last ∷ []) → c.args.cross.now.dart.seg ≤ length xs
    → AreOff c.args.cross.now.near xs → IsOn c.args.cross.now.near h
    → path ≡ xs ++ (piece (record { dart = 0; near = c.args.cross.now.near; beyond = c.args.beyond }) h ++ ys))) c.number.ensures (record {
      path = c.put_beside.new.path;
      put = path_put c.args.paths.now c.take-path.new.self c.put.new.self c.number.result c.in-Some.place c.in-Some.ensures.there c.in-Some.ensures.rise
          c.take-path.ensures.slots c.take-path.ensures.room c.take-path.result c.take-path.ensures.value _ c.put.ensures.slots c.put.ensures.room;
      is = λ xs ys h last is. c.put_beside.ensures xs ys h last
          (path_taken c.args.paths.now c.take-path.new.self c.put.new.self c.number.result c.in-Some.place c.in-Some.ensures.there c.in-Some.ensures.rise
          c.take-path.ensures.slots c.take-path.ensures.room c.take-path.result c.take-path.ensures.value ∙ is);
    })

pub returns-clause-same : goal.returns-clause-same
returns-clause-same c = ids_kept c.args.paths.now c.take-path.new.self c.put.new.self c.number.result c.in-Some.place c.in-Some.ensures.there
    c.in-Some.ensures.rise
    c.take-path.ensures.slots c.take-path.ensures.room c.take-path.result c.take-path.ensures.value _ c.put.ensures.slots c.put.ensures.room
