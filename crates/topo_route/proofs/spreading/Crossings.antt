-- A dart of the face in hand is crossed backwards, and lowers the face of its twin.
use Rattle.std.proofs.Common.{◌≡◌, ℕ, ◌+◌, ◌*◌, ◌^◌, ◌<◌, ◌≤◌, ◌||◌, ◌==◌, ◌∙◌, List, length, arith, ap, refl, sym, subst}
use Rattle.std.specs.Prelude.{min, slice_index}
use Rattle.std.proofs.Math.ListN.{set}
use Rattle.topo_core.specs.Routes.{KeepsPromise, Price, Pricing, Reaches}
use Rattle.topo_core.proofs.Interface.{single_price}
use Rattle.topo_route.specs.FaceHeights.{with_name}
use Rattle.topo_route.specs.Names.{IsName, Named, dart_named, twin_name}
use Rattle.topo_route.specs.PricedFaces.{AreFaces, PricedFaces, heights_over}
use Rattle.topo_route.specs.Settling.{AreFaceCosts, IsCrossed, IsReached, Spreads, is_waiting, item_of, reached}
use Rattle.topo_route.proofs.spreading.FaceHeights.{face_lowered, face_other, one_height}
use Rattle.topo_route.proofs.spreading.Reaching.{reaches_twin}
use Rattle.topo_route.proofs.spreading.Settled.{has_face, lowered_costs, lowered_waits, near_dart}

module _ (seen : PricedFaces) (laws : AreFaces seen) (v reach : ℕ)
    (heights names waiting : List ℕ) (d other p : ℕ)
    (costs : AreFaceCosts seen v heights names) (in_hand : IsReached seen.named (heights_over seen heights) d) (promise : KeepsPromise seen.price)
    (asked : Price seen.price seen.named.rows (dart_named seen.named d) p) (is : other ≡ twin_name seen.named d)
    (there : IsName seen.named other) (low : slice_index (heights_over seen heights) d + p < min (slice_index (heights_over seen heights) other) reach) where
  abbrev x : ℕ
  x = slice_index (heights_over seen heights) d + p

  abbrev after : List ℕ
  after = heights_over seen (set heights (seen.face other) x)

  walk : Reaches seen.price seen.named.rows v (dart_named seen.named other) x
  walk =
      let here = slice_index (heights_over seen heights) d in
      let order : p + here ≡ x = omega arith in
      let over = reaches_twin seen.price seen.named laws.lawful laws.names v d here p in_hand.0 asked (costs.costs.costs d in_hand.0 in_hand.1) in
      subst (λ k. Reaches seen.price seen.named.rows v (dart_named seen.named k) x) (sym is)
      (subst (λ m. Reaches seen.price seen.named.rows v (dart_named seen.named (twin_name seen.named d)) m) order over)

  near : x ≤ 1000 * reached heights + 1000
  near = omega (arith, promise.at_most asked.facts p asked.asked, near_dart seen laws v heights names costs d in_hand.0 in_hand.1)

  inside : seen.face other < length heights
  inside = has_face laws.labels costs other there

  pub twin_costs : AreFaceCosts seen v (set heights (seen.face other) x) (with_name heights (seen.face other) other names)
  twin_costs = lowered_costs seen laws v heights names costs other x there (omega arith) walk near

  -- the twin waits
  pub twin_waits : (top : ℕ → ℕ) (waiting' : List ℕ) → other < 2 ^ 32 → ((i : ℕ) → is_waiting waiting' i ≡ (item_of other x == i || is_waiting waiting i))
      → Spreads seen v top reach heights names waiting d
      → Spreads seen v top reach (set heights (seen.face other) x) (with_name heights (seen.face other) other names) waiting' d
  twin_waits top waiting' short added spreads =
      lowered_waits seen laws v heights names costs other x there (omega arith)
      walk near top reach waiting waiting' d short spreads added

  -- it is of another face
  pub twin_same : slice_index after d ≡ slice_index (heights_over seen heights) d
  twin_same = face_other seen.named laws.names seen.face heights other x inside d
      (λ l e. omega (arith, one_height seen.named seen.face heights laws.names d other in_hand.0 there e))

  pub is_crossed : (nearer : ℕ) → IsCrossed seen.price seen.named nearer after d
  is_crossed nearer q priced =
      let same = single_price seen.price seen.named.rows promise (dart_named seen.named d) q p priced asked in
      let now : slice_index after (twin_name seen.named d) ≡ x = ap (slice_index after) (sym is)
      ∙ face_lowered seen.named laws.names seen.face heights other x inside other there refl in
      let kept = twin_same in
      omega arith

-- the twin is so low that no price lowers it as far as the bound
pub crossed_already : (price : Pricing) (g : Named) (bound : ℕ) (heights : List ℕ) (d other : ℕ) → KeepsPromise price → other ≡ twin_name g d
    → min (slice_index heights other) bound ≤ slice_index heights d + 1
    → IsCrossed price g bound heights d
crossed_already price g bound heights d other promise is low p asked = grind arith

-- and nor does its own price
pub crossed_low : {price : Pricing} (g : Named) (bound : ℕ) (heights : List ℕ) (d : ℕ) {other q : ℕ} → KeepsPromise price
    → Price price g.rows (dart_named g d) q → other ≡ twin_name g d → min (slice_index heights other) bound ≤ slice_index heights d + q
    → IsCrossed price g bound heights d
crossed_low {price} g bound heights d {other} {q} promise priced is low p asked =
    let same = single_price price g.rows promise (dart_named g d) p q asked priced in
    let there : slice_index heights other ≡ slice_index heights (twin_name g d) = ap (slice_index heights) is in
    omega arith
