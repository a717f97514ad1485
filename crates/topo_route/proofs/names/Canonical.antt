-- The numbers in canonical order as names.
use Rattle.std.proofs.Common.{◌≡◌, ℕ, ◌<◌, Some, length, sym, ap, subst, ◌∙◌, arith}
use Rattle.std.specs.Prelude.{◌↔◌, Option, MatchOption, None}
use Rattle.topo_core.specs.Cycles.{SameCycle}
use Rattle.topo_core.specs.Rotations.{twin}
use Rattle.topo_core.specs.declared.rows.Rows.{Rows}
use Rattle.std.specs.declared.cmp.Ordering.TheVariants.{Less}
use Rattle.topo_core.specs.Darts.{dart_cmp, dart_twin}
use Rattle.topo_core.specs.Lawful.{Lawful}
use Rattle.topo_core.specs.Picture.{corner, darts, index_of, system}
use Rattle.topo_core.specs.Routes.{Pricing}
use Rattle.topo_core.specs.Systems.{SameFace, face_step}
use Rattle.topo_core.proofs.Interface.{index_apart, index_twin, number_order, order_number}
use Rattle.topo_route.specs.Names.{IsName, IsNamed, Named, canonical, dart_named, next_name, twin_name}
use Rattle.topo_route.specs.Numbers.{IsPriceAt, IsPriceFor, dart_of, next_of}
use Rattle.topo_route.proofs.names.Names.{dart_of_name, name_below, name_is}
use Rattle.topo_route.proofs.names.Numbers.{dart_in, face_of_numbers, next_number, number_below, number_of, numbers_of_face}

module _ (rows : Rows) (lawful : Lawful rows) where
  pub canonical_named : IsNamed (canonical rows)
  canonical_named = record { within = number_below rows lawful; apart = index_apart rows lawful.embedding.well_formed.paths }

  -- the names are the numbers below the count of darts
  pub canonical_is : (k : ℕ) → k < length (darts rows) → IsName (canonical rows) k
  canonical_is k l = subst (IsName (canonical rows)) (number_of rows lawful k l)
      (name_is (canonical rows) canonical_named (dart_of rows k) (dart_in rows lawful k l))

  pub canonical_below : (k : ℕ) → IsName (canonical rows) k → k < length (darts rows)
  canonical_below = name_below (canonical rows) canonical_named

  pub canonical_dart : (k : ℕ) → k < length (darts rows) → dart_named (canonical rows) k ≡ dart_of rows k
  canonical_dart k l =
      ap (dart_named (canonical rows)) (sym (number_of rows lawful k l))
      ∙ dart_of_name (canonical rows) canonical_named (dart_of rows k) (dart_in rows lawful k l)

  pub canonical_next : (k : ℕ) → k < length (darts rows) → next_name (canonical rows) k ≡ next_of rows k
  canonical_next k l =
      ap (λ d. index_of rows (face_step (system rows) d)) (canonical_dart k l) ∙ sym (next_number rows lawful (dart_of rows k) (dart_in rows lawful k l))
      ∙ ap (next_of rows) (number_of rows lawful k l)

  pub canonical_twin : (k : ℕ) → k < length (darts rows) → twin_name (canonical rows) k ≡ twin k
  canonical_twin k l =
      ap (λ d. index_of rows (dart_twin d)) (canonical_dart k l) ∙ index_twin rows (dart_of rows k) (dart_in rows lawful k l)
      ∙ ap twin (number_of rows lawful k l)

  -- the faces of the numbers are those of the darts
  pub canonical_face : (i j : ℕ) → i < length (darts rows) → j < length (darts rows) → SameCycle (next_of rows) i j
      ↔ SameFace (system rows) (dart_named (canonical rows) i) (dart_named (canonical rows) j)
  canonical_face i j li lj =
      let here = canonical_dart i li in
      let there = canonical_dart j lj in (
        λ same. subst (λ d. SameFace (system rows) d (dart_named (canonical rows) j)) (sym here)
            (subst (SameFace (system rows) (dart_of rows i)) (sym there) (face_of_numbers rows lawful i j li lj same)),
        λ same. subst (SameCycle (next_of rows) i) (number_of rows lawful j lj)
            (numbers_of_face rows lawful i (dart_of rows j) li
            (subst (SameFace (system rows) (dart_of rows i)) there (subst (λ d. SameFace (system rows) d (dart_named (canonical rows) j)) here same))),
      )

  -- the order of the numbers is that of the darts
  pub canonical_order : (i j : ℕ) → IsName (canonical rows) i → IsName (canonical rows) j
      → (i < j → dart_cmp (dart_named (canonical rows) i) (dart_named (canonical rows) j) ≡ Less)
      × (dart_cmp (dart_named (canonical rows) i) (dart_named (canonical rows) j) ≡ Less → i < j)
  canonical_order i j ni nj = grind (arith, number_order, order_number)

-- ---- A picture whose names are the numbers

pub lawful_shown : {g : Named} {rows : Rows} → g ≡ canonical rows → Lawful g.rows → Lawful rows
lawful_shown numbered lawful = subst (λ (n : Named). Lawful n.rows) numbered lawful

module _ (g : Named) (rows : Rows) (numbered : g ≡ canonical rows) (lawful : Lawful g.rows) where
  shown : Lawful rows
  shown = lawful_shown numbered lawful

  pub number_is : (k : ℕ) → k < length (darts rows) → IsName g k
  number_is k l = subst (λ n. IsName n k) (sym numbered) (canonical_is rows shown k l)

  pub is_number : (k : ℕ) → IsName g k → k < length (darts rows)
  is_number k name = canonical_below rows shown k (subst (λ n. IsName n k) numbered name)

  pub next_is_number : (k : ℕ) → k < length (darts rows) → next_name g k ≡ next_of rows k
  next_is_number k l = subst (λ n. next_name n k ≡ next_of rows k) (sym numbered) (canonical_next rows shown k l)

  pub twin_is_number : (k : ℕ) → k < length (darts rows) → twin_name g k ≡ twin k
  twin_is_number k l = subst (λ n. twin_name n k ≡ twin k) (sym numbered) (canonical_twin rows shown k l)

  pub dart_is_number : (k : ℕ) → k < length (darts rows) → dart_named g k ≡ dart_of rows k
  dart_is_number k l = subst (λ n. dart_named n k ≡ dart_of rows k) (sym numbered) (canonical_dart rows shown k l)

  pub face_is_cycle : (i j : ℕ) → i < length (darts rows) → j < length (darts rows) → SameCycle (next_of rows) i j
      ↔ SameFace (system g.rows) (dart_named g i) (dart_named g j)
  face_is_cycle i j li lj = subst (λ (n : Named). SameCycle (next_of rows) i j ↔ SameFace (system n.rows) (dart_named n i) (dart_named n j)) (sym numbered)
      (canonical_face rows shown i j li lj)

  pub price_is_at : (price : Pricing) (k : ℕ) (answer : Option ℕ) → k < length (darts rows) → IsPriceFor price g.rows (dart_named g k) answer
      → IsPriceAt price rows k answer
  price_is_at price k answer l asked =
      subst (λ d. IsPriceFor price rows d answer) (dart_is_number k l) (subst (λ (n : Named). IsPriceFor price n.rows (dart_named g k) answer) numbered asked)

  pub corner_is_number : (v p : ℕ) (result : Option ℕ)
      → MatchOption result (corner g.rows v p ≡ None) (λ c. IsName g c × (corner g.rows v p ≡ Some (dart_named g c)))
      → MatchOption result (corner rows v p ≡ None) (λ c. (c < length (darts rows)) × (corner rows v p ≡ Some (dart_of rows c)))
  corner_is_number v p (Some c) (name, at) =
      let l = is_number c name in
      (l, subst (λ (n : Named). corner n.rows v p ≡ Some (dart_named g c)) numbered at ∙ ap (λ d. Some d) (dart_is_number c l))
  corner_is_number v p None at = subst (λ (n : Named). corner n.rows v p ≡ None) numbered at
