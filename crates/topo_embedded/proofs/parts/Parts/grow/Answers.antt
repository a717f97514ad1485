use Rattle.std.proofs.Common.{◌≡◌, Some, ap, length, map, refl, subst, sym, ◌∙◌, ◌++◌, ◌∷◌, [], ℕ}
use Rattle.topo_core.specs.declared.rows.Rows.{Rows}
use Rattle.topo_map.specs.Rotation.{AddsLabel, edge_of, is_live}
use Rattle.topo_table.specs.Places.{present, values_in}
use Rattle.topo_core.specs.Picture.{edge_row}
use Rattle.topo_core.specs.declared.rows.EdgeRow.{EdgeRow}
use Rattle.topo_embedded.specs.Halves.{ShowsRows}
use Rattle.topo_embedded.specs.Parts.{with_paths}
use Rattle.topo_embedded.specs.Paths.{AreForEdges}
use Rattle.topo_embedded.proofs.guided.Going.{goes_further, goes_hung, goes_same}
use Rattle.topo_embedded.proofs.guided.Fitting.{ComesFrom, grown_from, searches_on, searches_same}
use Rattle.topo_embedded.specs.KnownKinds.{IsNoted}
use Rattle.topo_embedded.proofs.growing.Grown.{IsCornerNamed, IsHung, corner_alive, grown_parts, kept_shows}
use Rattle.topo_embedded.proofs.halves.KeptPaths.{ids_grown, kept_same, one_more_kept, values_pushed}
use Rattle.topo_embedded.proofs.parts.Parts.grow.Goals as goal

pub hang-half-requires-clause-live : goal.hang-half-requires-clause-live
hang-half-requires-clause-live c =
    let at : IsCornerNamed (with_paths c.args.self.now) c.args.u c.args.position c.args.named =
    record { formed = c.requires.formed; vertex = c.requires.vertex; position = c.requires.position; names = c.requires.named } in
    corner_alive at c.reserve.new.self c.in_ok-reserve.ensures.same c.requires.shows

pub push-requires-clause-own : goal.push-requires-clause-own
push-requires-clause-own c = c.next_edge-edge.ensures ∙ sym (ap length c.reserve-2.ensures.same ∙ c.requires.kept.count)

pub returns-clause-shows : goal.returns-clause-shows
returns-clause-shows c =
    let at : IsCornerNamed (with_paths c.args.self.now) c.args.u c.args.position c.args.named =
    record { formed = c.requires.formed; vertex = c.requires.vertex; position = c.requires.position; names = c.requires.named } in
    let hung : IsHung c.reserve.new.self c.hang-half.new.self c.args.named c.hang-half.result c.args.self.now.rows.next_edge = record {
      whole = c.laws.ensures;
      edit = c.hang-half.ensures.edit;
      grows = c.hang-half.ensures.grows;
      label = subst
          (λ (edge : ℕ). AddsLabel (is_live c.reserve.new.self) (edge_of c.reserve.new.self) (edge_of c.hang-half.new.self) c.hang-half.result edge)
          c.next_edge-edge.ensures c.hang-half.ensures.label;
    } in
    grown_parts at c.args.kind c.requires.known c.requires.shows c.in_ok-reserve.ensures.same hung c.in_ok-grow_rows.ensures.ok c.of.ensures
    (values_pushed c.reserve-2.new.self c.push.new.self c.next_edge-edge.result c.of.result c.push.ensures.entries
    ∙ ap (λ slots. map (λ e. e.1) (present slots) ++ c.of.result ∷ []) c.reserve-2.ensures.same)

pub returns-clause-kept : goal.returns-clause-kept
returns-clause-kept c =
    let rows = c.args.self.now.rows in
    let was = kept_same rows c.args.self.now.paths c.reserve-2.new.self c.reserve-2.ensures.same c.requires.kept in
    subst (λ (after : Rows). AreForEdges after c.push.new.self) (sym c.in_ok-grow_rows.ensures.ok)
    (one_more_kept _ c.push.new.self c.of.result c.next_edge-edge.result was c.next_edge-edge.ensures
    (ids_grown rows c.args.u c.args.position c.args.kind) refl c.push.ensures.slots c.push.ensures.entries)

pub returns-in_err-reserve-clause-shows : goal.returns-in_err-reserve-clause-shows
returns-in_err-reserve-clause-shows c =
    kept_shows (with_paths c.args.self.now) c.args.self.now.segments c.reserve.new.self c.in_err-reserve.ensures.same c.requires.shows

pub returns-in_err-reserve-clause-searches : goal.returns-in_err-reserve-clause-searches
returns-in_err-reserve-clause-searches c = searches_same c.args.self.now _ refl c.in_err-reserve.ensures.same
    c.in_err-reserve.ensures.same_labels refl refl c.requires.searches

pub returns-in_err-reserve-2-clause-shows : goal.returns-in_err-reserve-2-clause-shows
returns-in_err-reserve-2-clause-shows c =
    subst (λ ps. ShowsRows (record { rows = c.args.self.now.rows; paths = ps }) c.reserve.new.self)
    (sym (ap (λ slots. map (λ e. e.1) (present slots)) c.in_err-reserve-2.ensures.same))
    (kept_shows (with_paths c.args.self.now) c.args.self.now.segments c.reserve.new.self c.in_ok-reserve.ensures.same c.requires.shows)

pub returns-in_err-reserve-2-clause-searches : goal.returns-in_err-reserve-2-clause-searches
returns-in_err-reserve-2-clause-searches c = searches_same c.args.self.now _ refl c.in_ok-reserve.ensures.same
    c.in_ok-reserve.ensures.same_labels refl refl c.requires.searches

pub returns-in_err-grow_rows-clause-shows : goal.returns-in_err-grow_rows-clause-shows
returns-in_err-grow_rows-clause-shows c =
    subst (λ rows. ShowsRows (record { rows = rows; paths = values_in c.reserve-2.new.self }) c.reserve.new.self) (sym c.in_err-grow_rows.ensures.err)
    (subst (λ ps. ShowsRows (record { rows = c.args.self.now.rows; paths = ps }) c.reserve.new.self)
    (sym (ap (λ slots. map (λ e. e.1) (present slots)) c.reserve-2.ensures.same))
    (kept_shows (with_paths c.args.self.now) c.args.self.now.segments c.reserve.new.self c.in_ok-reserve.ensures.same c.requires.shows))

pub returns-in_err-grow_rows-clause-searches : goal.returns-in_err-grow_rows-clause-searches
returns-in_err-grow_rows-clause-searches c =
    searches_same c.args.self.now _ c.in_err-grow_rows.ensures.err c.in_ok-reserve.ensures.same c.in_ok-reserve.ensures.same_labels refl refl
    c.requires.searches

pub returns-clause-searches : goal.returns-clause-searches
returns-clause-searches c =
    let rows = c.args.self.now.rows in
    let before = c.args.self.now.bounds in
    searches_on c.args.self.now _ c.args.kind c.requires.formed
    (goes_further (goes_same c.args.self.now.segments c.reserve.new.self before c.in_ok-reserve.ensures.same c.in_ok-reserve.ensures.same_labels)
    (goes_hung c.laws.ensures c.hang-half.ensures.grows c.hang-half.ensures.label before c.args.named c.hang-half.ensures.faces))
    (subst (λ (after : Rows). (e : ℕ) (row : EdgeRow) → edge_row after e ≡ Some row → ComesFrom rows c.args.kind e row) (sym c.in_ok-grow_rows.ensures.ok)
    (grown_from rows c.args.u c.args.position c.args.kind))
    (ap (λ (after : Rows). after.next_edge) c.in_ok-grow_rows.ensures.ok)
    (subst (λ edge. IsNoted c.args.self.now.kinds c.note.new.self edge c.args.kind) c.next_edge-edge.ensures c.note.ensures) c.requires.searches
