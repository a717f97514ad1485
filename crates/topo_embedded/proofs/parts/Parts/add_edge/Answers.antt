use Rattle.std.proofs.Common.{arith, refl, ◌≡◌, Some, length, List, ap, subst, sym, ℕ, ◌∙◌}
use Rattle.topo_core.specs.declared.rows.Rows.{Rows}
use Rattle.std.proofs.lemmas.List.{length-map}
use Rattle.topo_core.specs.Changes.{shown}
use Rattle.topo_core.specs.Insertions.{IsInsertable}
use Rattle.topo_embedded.specs.declared.padding.Crossed.{Crossed}
use Rattle.topo_core.specs.Lawful.{IsWellFormed}
use Rattle.topo_core.specs.Picture.{edge_row}
use Rattle.topo_core.specs.declared.rows.EdgeRow.{EdgeRow}
use Rattle.topo_kept_rows.proofs.Interface.{on_err, when_err, when_ok}
use Rattle.topo_table.specs.Places.{ids_in, values_in}
use Rattle.topo_embedded.specs.Crossing.{ids_of_edges}
use Rattle.topo_embedded.specs.Halves.{RowsWithPaths, ShowsRows}
use Rattle.topo_embedded.specs.Padding.{ArePadded}
use Rattle.topo_embedded.specs.Paths.{AreForEdges}
use Rattle.topo_embedded.proofs.guided.Going.{goes_further, goes_same}
use Rattle.topo_embedded.proofs.guided.Fitting.{ComesFrom, searches_on, searches_same, shown_from}
use Rattle.topo_embedded.specs.KnownKinds.{IsNoted}
use Rattle.topo_embedded.proofs.growing.Grown.{kept_shows}
use Rattle.topo_embedded.proofs.halves.KeptPaths.{ids_shown, kept_ids, one_more_kept, values_pushed}
use Rattle.topo_embedded.proofs.inserting.Routed.{end_alive, inserted_parts, ready_now, start_alive}
use Rattle.topo_embedded.proofs.inserting.Splits.{all_placed_here}
use Rattle.topo_embedded.proofs.parts.Parts.add_edge.Goals as goal

pub make_room-requires-clause-few : goal.make_room-requires-clause-few
make_room-requires-clause-few g c =
    let many = length-map c.args.crossed.now (λ (d : Crossed). d.dart) in
    omega (arith, ap length c.requires.1.0.darts, c.requires.1.1.1.1.1)

pub make_room-requires-clause-placed : goal.make_room-requires-clause-placed
make_room-requires-clause-placed g c =
    let ready = c.requires.1.0 in
    all_placed_here g.p ready.formed c.args.self.now.segments ready.shows c.args.crossed.now ready.marked (ids_in c.args.self.now.paths)
    (c.requires.1.1.0.ids ∙ ap (λ (q : RowsWithPaths). ids_of_edges q.rows) (sym c.requires.0))

pub apply_rows-requires-clause-formed : goal.apply_rows-requires-clause-formed
apply_rows-requires-clause-formed g c = subst (λ (q : RowsWithPaths). IsWellFormed q.rows) c.requires.0 c.requires.1.0.formed

pub apply_rows-requires-clause-insertable : goal.apply_rows-requires-clause-insertable
apply_rows-requires-clause-insertable g c =
    subst (λ (q : RowsWithPaths). IsInsertable q.rows c.args.edge.0 c.args.edge.1 c.args.edge.2 c.args.route.now) c.requires.0 c.requires.1.0.insertable

pub apply_rows-requires-clause-crossings : goal.apply_rows-requires-clause-crossings
apply_rows-requires-clause-crossings g c = c.requires.1.1.1.1.1

pub unpad-requires : goal.unpad-requires
unpad-requires g c =
    let ready = c.requires.1.0 in
    all_placed_here g.p ready.formed c.args.self.now.segments ready.shows c.args.crossed.now ready.marked (ids_in c.make_room.new.paths)
    (c.make_room.ensures.ids ∙ c.requires.1.1.0.ids ∙ ap (λ (q : RowsWithPaths). ids_of_edges q.rows) (sym c.requires.0))

pub returns-then-is_err-clause-err : goal.returns-then-is_err-clause-err
returns-then-is_err-clause-err g c = when_err c.apply_rows.result (sym c.if-is_err.ensures.value) c.apply_rows.ensures.err

pub returns-then-is_err-clause-err_paths : goal.returns-then-is_err-clause-err_paths
returns-then-is_err-clause-err_paths g c = c.unpad.ensures.paths (values_in c.args.self.now.paths)
    (subst (λ (ids : List ℕ). ArePadded ids (λ hs. hs) (values_in c.args.self.now.paths) c.args.crossed.now (values_in c.make_room.new.paths))
    (sym c.make_room.ensures.ids) c.in_ok-line.ensures.padded)

pub returns-then-is_err-clause-shows : goal.returns-then-is_err-clause-shows
returns-then-is_err-clause-shows g c =
    let rows = when_err c.apply_rows.result (sym c.if-is_err.ensures.value) c.apply_rows.ensures.err in
    let back = c.unpad.ensures.paths (values_in c.args.self.now.paths)
    (subst (λ (ids : List ℕ). ArePadded ids (λ hs. hs) (values_in c.args.self.now.paths) c.args.crossed.now (values_in c.make_room.new.paths))
    (sym c.make_room.ensures.ids) c.in_ok-line.ensures.padded) in
    let seen : (let q : RowsWithPaths = record { rows = c.apply_rows.new.rows; paths = values_in c.unpad.new.paths } in q ≡ g.p) =
    ap (λ (rs : Rows). (let q : RowsWithPaths = record { rows = rs; paths = values_in c.unpad.new.paths } in q)) rows
    ∙ ap (λ (ps : List (List ℕ)). (let q : RowsWithPaths = record { rows = c.args.self.now.rows; paths = ps } in q)) back
    ∙ sym c.requires.0 in
    subst (λ (q : RowsWithPaths). ShowsRows q c.make_room.new.segments) (sym seen)
    (kept_shows g.p c.args.self.now.segments c.make_room.new.segments c.make_room.ensures.slots c.requires.1.0.shows)

pub returns-then-is_err-clause-kept : goal.returns-then-is_err-clause-kept
returns-then-is_err-clause-kept g c =
    subst (λ (rows : Rows). AreForEdges rows c.unpad.new.paths)
    (sym (when_err c.apply_rows.result (sym c.if-is_err.ensures.value) c.apply_rows.ensures.err))
    (kept_ids c.args.self.now.rows c.args.self.now.paths c.unpad.new.paths (c.unpad.ensures.same.0 ∙ c.make_room.ensures.ids)
    (c.unpad.ensures.same.1.0 ∙ c.make_room.ensures.places) c.requires.1.1.0)

pub add_route-requires : goal.add_route-requires
add_route-requires g c =
    let ready = c.requires.1.0 in
    let slots = c.make_room.ensures.slots in
    let ids = c.requires.1.1.0.ids ∙ ap (λ (q : RowsWithPaths). ids_of_edges q.rows) (sym c.requires.0) in
    let padded : ArePadded (ids_of_edges g.p.rows) (λ hs. hs) g.p.paths c.args.crossed.now (values_in c.make_room.new.paths) =
    subst (λ (ps : List (List ℕ)). ArePadded (ids_of_edges g.p.rows) (λ hs. hs) ps c.args.crossed.now (values_in c.make_room.new.paths))
    (ap (λ (q : RowsWithPaths). q.paths) (sym c.requires.0))
    (subst (λ (ids : List ℕ). ArePadded ids (λ hs. hs) (values_in c.args.self.now.paths) c.args.crossed.now (values_in c.make_room.new.paths)) ids
    c.in_ok-line.ensures.padded) in (
      ready_now ready c.make_room.new.segments slots (values_in c.make_room.new.paths) padded,
      (
        c.in_ok-line.ensures.room,
        (
          start_alive ready c.make_room.new.segments slots,
          (
            end_alive ready c.make_room.new.segments slots,
            (c.in_ok-line.ensures.line, c.make_room.ensures.ids ∙ ids),
          ),
        ),
      ),
    )

pub push-requires-clause-room : goal.push-requires-clause-room
push-requires-clause-room g c = let room = c.add_route.ensures.same.1.1 in let some = c.in_ok-line.ensures.path_room in omega (arith, room, some)

pub push-requires-clause-own : goal.push-requires-clause-own
push-requires-clause-own g c = c.next_edge-number.ensures
    ∙ sym (kept_ids c.args.self.now.rows c.args.self.now.paths c.add_route.new.paths (c.add_route.ensures.same.0 ∙ c.make_room.ensures.ids)
    (c.add_route.ensures.same.1.0 ∙ c.make_room.ensures.places) c.requires.1.1.0).count

pub returns-clause-ok : goal.returns-clause-ok
returns-clause-ok g c = when_ok c.apply_rows.result (sym c.if-is_err.ensures.value) c.apply_rows.ensures.ok

pub returns-clause-shows : goal.returns-clause-shows
returns-clause-shows g c =
    let ready = c.requires.1.0 in
    let rows : c.apply_rows.new.rows ≡ shown g.p.rows c.args.edge.0 c.args.edge.1 c.args.edge.2 c.args.route.now =
    when_ok c.apply_rows.result (sym c.if-is_err.ensures.value) c.apply_rows.ensures.ok
    ∙ ap (λ (q : RowsWithPaths). shown q.rows c.args.edge.0 c.args.edge.1 c.args.edge.2 c.args.route.now) (sym c.requires.0) in
    inserted_parts ready c.make_room.ensures.slots c.laws.ensures c.add_route.ensures.darts c.add_route.ensures.marked
    (c.next_edge-number.ensures ∙ ap (λ (q : RowsWithPaths). q.rows.next_edge) (sym c.requires.0)) c.add_route.ensures.routed rows c.add_route.ensures.paths
    (values_pushed c.add_route.new.paths c.push.new.self c.next_edge-number.result c.add_route.new.line c.push.ensures.entries)

pub returns-clause-kept : goal.returns-clause-kept
returns-clause-kept g c =
    let rows = c.args.self.now.rows in
    subst (λ (after : Rows). AreForEdges after c.push.new.self)
    (sym (when_ok c.apply_rows.result (sym c.if-is_err.ensures.value) c.apply_rows.ensures.ok))
    (one_more_kept (shown rows c.args.edge.0 c.args.edge.1 c.args.edge.2 c.args.route.now) c.push.new.self c.add_route.new.line c.next_edge-number.result
    (kept_ids rows c.args.self.now.paths c.add_route.new.paths (c.add_route.ensures.same.0 ∙ c.make_room.ensures.ids)
    (c.add_route.ensures.same.1.0 ∙ c.make_room.ensures.places) c.requires.1.1.0)
    c.next_edge-number.ensures (ids_shown rows c.args.edge.0 c.args.edge.1 c.args.edge.2 c.args.route.now) refl c.push.ensures.slots c.push.ensures.entries)

pub returns-in_err-line-clause-err_paths : goal.returns-in_err-line-clause-err_paths
returns-in_err-line-clause-err_paths g c = on_err c.from_residual.result c.in_err-line.ensures.err

pub returns-in_err-line-clause-kept : goal.returns-in_err-line-clause-kept
returns-in_err-line-clause-kept g c = kept_ids c.args.self.now.rows c.args.self.now.paths c.make_room.new.paths c.make_room.ensures.ids
    c.make_room.ensures.places c.requires.1.1.0

pub returns-in_err-line-clause-shows : goal.returns-in_err-line-clause-shows
returns-in_err-line-clause-shows g c =
    subst (λ ps. ShowsRows (record { rows = c.args.self.now.rows; paths = ps }) c.make_room.new.segments) (sym c.in_err-line.ensures.err)
    (subst (λ (q : RowsWithPaths). ShowsRows q c.make_room.new.segments) c.requires.0
    (kept_shows g.p c.args.self.now.segments c.make_room.new.segments c.make_room.ensures.slots c.requires.1.0.shows))

pub returns-in_err-line-clause-searches : goal.returns-in_err-line-clause-searches
returns-in_err-line-clause-searches g c = searches_same c.args.self.now _ refl c.make_room.ensures.slots c.make_room.ensures.labels refl refl c.requires.1.1.1.0

pub returns-then-is_err-clause-searches : goal.returns-then-is_err-clause-searches
returns-then-is_err-clause-searches g c = searches_same c.args.self.now _
    (when_err c.apply_rows.result (sym c.if-is_err.ensures.value) c.apply_rows.ensures.err) c.make_room.ensures.slots c.make_room.ensures.labels refl refl
    c.requires.1.1.1.0

pub note-requires : goal.note-requires
note-requires g c = c.requires.1.0.insertable.known

pub returns-clause-searches : goal.returns-clause-searches
returns-clause-searches g c =
    let rows = c.args.self.now.rows in
    let made = when_ok c.apply_rows.result (sym c.if-is_err.ensures.value) c.apply_rows.ensures.ok in
    searches_on c.args.self.now _ c.args.edge.2
    (subst (λ (q : RowsWithPaths). IsWellFormed q.rows) c.requires.0 c.requires.1.0.formed)
    (goes_further (goes_same c.args.self.now.segments c.make_room.new.segments c.args.self.now.bounds c.make_room.ensures.slots c.make_room.ensures.labels)
    c.add_route.ensures.bounds)
    (subst (λ (after : Rows). (e : ℕ) (row : EdgeRow) → edge_row after e ≡ Some row → ComesFrom rows c.args.edge.2 e row) (sym made)
    (shown_from rows c.args.edge.0 c.args.edge.1 c.args.edge.2 c.args.route.now))
    (ap (λ (after : Rows). after.next_edge) made)
    (subst (λ edge. IsNoted c.args.self.now.kinds c.note.new.self edge c.args.edge.2) c.next_edge-number.ensures c.note.ensures) c.requires.1.1.1.0
