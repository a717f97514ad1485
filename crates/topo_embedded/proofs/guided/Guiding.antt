-- Potentials of the faces, by the darts of the rows that their halves show.
use Rattle.std.proofs.Common.{◌≡◌, ℕ, ◌≤◌, true, refl, sym, ap, subst, ◌∙◌, arith}
use Rattle.topo_core.specs.declared.rows.EdgeRow.{EdgeRow}
use Rattle.topo_core.specs.Lawful.{IsWellFormed}
use Rattle.topo_core.specs.Picture.{edge_at, edge_row}
use Rattle.topo_core.specs.Rotations.{twin}
use Rattle.topo_core.proofs.Interface.{edge_at_row, edge_of_dart, some_of}
use Rattle.topo_map.specs.Rotation.{Rotation, edge_of, face_of, is_live}
use Rattle.topo_route.specs.Names.{IsName, Named, dart_named, twin_name}
use Rattle.topo_route.specs.Potentials.{AreConsistent, AreWithin}
use Rattle.topo_route.specs.declared.guided.potentials.Potentials.{Potentials}
use Rattle.topo_embedded.specs.Bounds.{AreConsistentOn, BoundsState, FitsRows, at_face, floor_of}
use Rattle.topo_embedded.specs.Halves.{RowsWithPaths, ShowsRows, half_in}
use Rattle.topo_embedded.specs.Walking.{named_in}
use Rattle.topo_embedded.proofs.halves.Apart.{twin_in_path}
use Rattle.topo_embedded.proofs.halves.LabelledFaces.{are_live}

within_more : (s t : ℕ) (p q : Potentials) → s ≤ t → AreWithin s p q → AreWithin t p q
within_more s t p q more low = record {
  first = omega (arith, more, low.first);
  second = omega (arith, more, low.second);
  third = omega (arith, more, low.third);
  fourth = omega (arith, more, low.fourth);
}

module _ (p : RowsWithPaths) (good : IsWellFormed p.rows) (r : Rotation) (shows : ShowsRows p r) (b : BoundsState) (slope : ℕ → ℕ)
    (consistent : AreConsistentOn b slope r) (fits : FitsRows p.rows b slope) (size : ℕ) where
  abbrev g : Named
  g = named_in p size

  abbrev At : ℕ → ℕ → ℕ → Type 0
  At s k j = AreWithin s (at_face b (face_of r k)) (at_face b (face_of r j))

  near : (k : ℕ) → IsName g k → At (floor_of b (edge_at p.rows (dart_named g k).edge).kind) k (twin_name g k)
  near k l =
      let d = dart_named g k in
      let h : half_in p d ≡ k = l.is in
      let alive : is_live r k ≡ true = subst (λ j. is_live r j ≡ true) h
      (are_live p good r shows (half_in p d) (record { dart = d; there = l.there; is = refl })) in
      let label : edge_of r k ≡ d.edge = ap (edge_of r) (sym h) ∙ shows.labels d l.there in
      let (row, found) = some_of (edge_row p.rows d.edge) (edge_of_dart p.rows good d l.there) in
      let is : edge_at p.rows d.edge ≡ row = edge_at_row p.rows d.edge row found in
      let low : slope d.edge ≤ floor_of b (edge_at p.rows d.edge).kind =
      subst (λ (w : EdgeRow). slope d.edge ≤ floor_of b w.kind) (sym is) (fits.fits d.edge row found) in
      let back : twin k ≡ twin_name g k = ap twin (sym h) ∙ twin_in_path p d in
      within_more (slope d.edge) (floor_of b (edge_at p.rows d.edge).kind) (at_face b (face_of r k)) (at_face b (face_of r (twin_name g k))) low
      (subst (At (slope d.edge) k) back (subst (λ e. At (slope e) k (twin k)) label (consistent k alive)))

  pub consistent_names : AreConsistent g (face_of r) (at_face b) (floor_of b)
  consistent_names = record { consistent = near }
