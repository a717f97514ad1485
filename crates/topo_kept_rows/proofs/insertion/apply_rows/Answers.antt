use Rattle.std.proofs.Common.{arith, ◌≡◌, ◌+◌, [], ap, length, List, rules, subst, sym, true, ◌∙◌, ℕ}
use Rattle.std.specs.Prelude.{nat_lt, slice_index_or}
use Rattle.std.specs.List.{list_all}
use Rattle.std.specs.Vec.{vec_len}
use Rattle.std.proofs.lemmas.List.{take_at}
use Rattle.topo_core.specs.declared.rows.Rows.{Rows}
use Rattle.topo_core.specs.Changes.{shown}
use Rattle.topo_core.specs.Insertions.{IsInsertable}
use Rattle.topo_core.specs.Lawful.{IsWellFormed}
use Rattle.topo_kept_rows.specs.Keeping.{edges_of, rows_of}
use Rattle.topo_kept_rows.proofs.rows.Inserting.{crossings_old, darts_there, rotation_old, rows_made}
use Rattle.topo_kept_rows.proofs.rows.Keeping.{added_rows}
use Rattle.topo_kept_rows.proofs.insertion.apply_rows.Goals as goal

pub insert_lists-requires-clause-new : goal.insert_lists-requires-clause-new
insert_lists-requires-clause-new c =
    let rows : Rows = record {
      rotations = c.rows.inside.rotations;
      edges = edges_of c.rows.inside.edges;
      crossings = rows_of c.rows.inside.crossings;
      next_edge = c.rows.inside.next_edge;
      next_crossing = c.rows.inside.next_crossing;
    } in
    let formed = subst IsWellFormed (sym c.rows.view_is) c.requires.formed in
    let insertable = subst (λ (rows : Rows). IsInsertable rows c.args.u c.args.v c.args.kind c.args.route.now) (sym c.rows.view_is) c.requires.insertable in
    let lists : c.deref_mut.result.now ≡ rows.rotations = search rules in
    subst (λ xs. list_all (λ e. nat_lt e rows.next_edge) (slice_index_or xs c.args.u []) ≡ true) (sym lists)
    (rotation_old rows formed c.args.u insertable.u_there)

pub insert_lists-requires-clause-below : goal.insert_lists-requires-clause-below
insert_lists-requires-clause-below c = grind (arith, crossings_old)

pub insert_lists-requires-clause-there : goal.insert_lists-requires-clause-there
insert_lists-requires-clause-there c =
    let rows : Rows = record {
      rotations = c.rows.inside.rotations;
      edges = edges_of c.rows.inside.edges;
      crossings = rows_of c.rows.inside.crossings;
      next_edge = c.rows.inside.next_edge;
      next_crossing = c.rows.inside.next_crossing;
    } in
    let formed = subst IsWellFormed (sym c.rows.view_is) c.requires.formed in
    let insertable = subst (λ (rows : Rows). IsInsertable rows c.args.u c.args.v c.args.kind c.args.route.now) (sym c.rows.view_is) c.requires.insertable in
    darts_there rows formed c.args.u c.args.v c.args.kind c.args.route.now insertable

pub returns-clause-ok : goal.returns-clause-ok
returns-clause-ok c =
    let rows : Rows = record {
      rotations = c.rows.inside.rotations;
      edges = edges_of c.rows.inside.edges;
      crossings = rows_of c.rows.inside.crossings;
      next_edge = c.rows.inside.next_edge;
      next_crossing = c.rows.inside.next_crossing;
    } in
    let with_rotations : List (List ℕ) → Rows = λ rs. record {
      rotations = rs;
      edges = edges_of c.insert_lists.new.edges;
      crossings = rows_of c.insert_lists.new.crossings;
      next_edge = rows.next_edge + 1;
      next_crossing = rows.next_crossing + length c.as_slice-2.result.now;
    } in
    let long : length c.insert_lists.new.rotations ≡ vec_len c.as_vec_mut.result.now = c.insert_lists.auto.rotations ∙ c.deref_mut.ensures.len in
    let made : with_rotations c.insert_lists.new.rotations ≡ shown rows c.args.u c.args.v c.args.kind c.args.route.now =
    grind (arith, take_at, rows_made, added_rows) in
    ap with_rotations (take_at c.insert_lists.new.rotations _ _ long)
    ∙ made ∙ ap (λ (rows : Rows). shown rows c.args.u c.args.v c.args.kind c.args.route.now) c.rows.view_is
