use Rattle.std.proofs.Common.{◌∙◌, [], ◌∷◌, ap, length, refl, subst, sym, List, set, ℕ}
use Rattle.std.specs.Prelude.{◌==◌, slice_index_or}
use Rattle.std.specs.List.{position_or_len}
use Rattle.topo_kept_rows.proofs.Interface.{edges_climb}
use Rattle.topo_table.specs.Places.{ids_in, values_in}
use Rattle.topo_table.proofs.Interface.{below_same}
use Rattle.topo_embedded.specs.Opening.{IsOpened, IsSmoothedTo, mids_of}
use Rattle.topo_embedded.proofs.deleting.SmoothedPath.{handed_out, opened_here, shows_left}
use Rattle.topo_embedded.proofs.halves.KeptPaths.{id_among, ids_left, place_in_rows, place_known, places_many, values_left}
use Rattle.topo_embedded.proofs.deletion.delete_lists.Goals as goal

pub stand_in-path-requires : goal.stand_in-path-requires
stand_in-path-requires g c = id_among g.rows (ids_in c.args.paths.now) c.args.edge c.requires.1.1.1.ids c.requires.1.0

pub open_path-requires : goal.open_path-requires
open_path-requires g c = (
  c.stand_in-path.ensures.same.0 ∙ c.requires.1.1.1.ids,
  (
    c.args.edge,
    handed_out g.rows c.args.edge (values_in c.args.paths.now) c.args.segments.now c.requires.0 c.requires.1.0 c.requires.1.1.0 c.laws.ensures
        g.rows.edges (position_or_len (λ row. row.id == c.args.edge) g.rows.edges) refl
        (place_known g.rows c.requires.0.embedding.well_formed.paths c.args.edge c.requires.1.0) (0 ∷ []) [] c.stand_in-path.result
        (values_in c.stand_in-path.new.paths) (c.stand_in-path.ensures.path
        ∙ ap (λ (n : ℕ). slice_index_or (values_in c.args.paths.now) n []) (place_in_rows g.rows
        (ids_in c.args.paths.now) c.args.edge c.requires.1.1.1.ids)) (c.stand_in-path.ensures.paths
        ∙ ap (λ (n : ℕ). set (values_in c.args.paths.now) n (0 ∷ [])) (place_in_rows g.rows (ids_in c.args.paths.now) c.args.edge c.requires.1.1.1.ids)),
  ),
)

pub smooth_path-requires : goal.smooth_path-requires
smooth_path-requires g c = (
  c.stand_in-path.ensures.same.0 ∙ c.requires.1.1.1.ids,
  (
    c.args.edge,
    subst (λ (ls : List (List ℕ)). IsOpened g.rows ls c.args.edge (mids_of c.open_path.new.path) c.open_path.new.segments) (sym (c.stand_in-path.ensures.paths
        ∙ ap (λ (n : ℕ). set (values_in c.args.paths.now) n (0 ∷ [])) (place_in_rows g.rows (ids_in c.args.paths.now) c.args.edge c.requires.1.1.1.ids)))
        (opened_here g.rows c.args.edge (values_in c.args.paths.now) c.args.segments.now c.requires.0 c.requires.1.0 c.requires.1.1.0 c.laws.ensures
        g.rows.edges (position_or_len (λ row. row.id == c.args.edge) g.rows.edges) refl
        (place_known g.rows c.requires.0.embedding.well_formed.paths c.args.edge c.requires.1.0) (0 ∷ []) [] c.stand_in-path.result
        (values_in c.stand_in-path.new.paths) (c.stand_in-path.ensures.path
        ∙ ap (λ (n : ℕ). slice_index_or (values_in c.args.paths.now) n []) (place_in_rows g.rows
        (ids_in c.args.paths.now) c.args.edge c.requires.1.1.1.ids)) (c.stand_in-path.ensures.paths
        ∙ ap (λ (n : ℕ). set (values_in c.args.paths.now) n (0 ∷ [])) (place_in_rows g.rows (ids_in c.args.paths.now) c.args.edge c.requires.1.1.1.ids))
        c.open_path.new.segments c.open_path.new.path (mids_of c.open_path.new.path) c.open_path.ensures refl),
  ),
)

pub returns-clause-shows : goal.returns-clause-shows
returns-clause-shows g c =
    let same = c.smooth_path.ensures.same.0 ∙ c.stand_in-path.ensures.same.0 ∙ c.requires.1.1.1.ids in
    shows_left g.rows c.args.edge (values_in c.args.paths.now) c.args.segments.now c.requires.0 c.requires.1.0 c.requires.1.1.0 c.laws.ensures
    g.rows.edges (position_or_len (λ row. row.id == c.args.edge) g.rows.edges) refl
    (place_known g.rows c.requires.0.embedding.well_formed.paths c.args.edge c.requires.1.0) (0 ∷ []) [] c.stand_in-path.result
    (values_in c.stand_in-path.new.paths) (c.stand_in-path.ensures.path
    ∙ ap (λ (n : ℕ). slice_index_or (values_in c.args.paths.now) n []) (place_in_rows g.rows
    (ids_in c.args.paths.now) c.args.edge c.requires.1.1.1.ids)) (c.stand_in-path.ensures.paths
    ∙ ap (λ (n : ℕ). set (values_in c.args.paths.now) n (0 ∷ [])) (place_in_rows g.rows (ids_in c.args.paths.now) c.args.edge c.requires.1.1.1.ids))
    c.open_path.new.segments c.open_path.new.path (mids_of c.open_path.new.path) c.open_path.ensures refl
    c.smooth_path.new.segments (values_in c.smooth_path.new.paths)
    (subst (λ (ls : List (List ℕ)). (e : ℕ) (o : IsOpened g.rows ls e (mids_of c.open_path.new.path) c.open_path.new.segments)
    → IsSmoothedTo (record { rows = g.rows; paths = o.set_out.paths }) e o.before c.open_path.new.segments (mids_of c.open_path.new.path)
    (length (mids_of c.open_path.new.path)) c.smooth_path.new.segments (values_in c.smooth_path.new.paths)) (c.stand_in-path.ensures.paths
    ∙ ap (λ (n : ℕ). set (values_in c.args.paths.now) n (0 ∷ [])) (place_in_rows g.rows
    (ids_in c.args.paths.now) c.args.edge c.requires.1.1.1.ids)) c.smooth_path.ensures.smoothed)
    (values_in c.remove.new.self)
    (values_left g.rows c.smooth_path.new.paths c.remove.new.self c.args.edge same c.remove.ensures.entries
    (edges_climb g.rows c.requires.0.embedding.well_formed c.args.edge) c.requires.1.0)

pub returns-clause-kept : goal.returns-clause-kept
returns-clause-kept g c = record {
  ids = ids_left g.rows c.smooth_path.new.paths c.remove.new.self c.args.edge
      (c.smooth_path.ensures.same.0 ∙ c.stand_in-path.ensures.same.0 ∙ c.requires.1.1.1.ids) c.remove.ensures.entries;
  below = c.remove.ensures.below g.rows.next_edge (below_same g.rows.next_edge c.args.paths.now.slots c.smooth_path.new.paths.slots
      (c.smooth_path.ensures.same.1.0 ∙ c.stand_in-path.ensures.same.1.0) c.requires.1.1.1.below);
  count = c.remove.ensures.count
      ∙ places_many c.args.paths.now c.smooth_path.new.paths (c.smooth_path.ensures.same.1.0 ∙ c.stand_in-path.ensures.same.1.0) ∙ c.requires.1.1.1.count;
}
