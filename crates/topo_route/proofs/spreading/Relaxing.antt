-- Steps of a search: a twin whose face is lowered and waits, and the face that is put down.
use Rattle.std.proofs.Common.{◌≡◌, ◌≢◌, ℕ, ◌+◌, ◌^◌, ◌<◌, ◌≤◌, ◌||◌, ◌==◌, List, [], length, Some, inl, inr, refl, sym, ap, subst, ◌∙◌, arith}
use Rattle.std.specs.Prelude.{min, slice_index}
use Rattle.std.proofs.Math.ListN.{set}
use Rattle.std.proofs.lemmas.Bool.{cases_lt}
use Rattle.topo_core.specs.declared.darts.Dart.{Dart}
use Rattle.topo_core.specs.Cycles.{after}
use Rattle.topo_core.specs.Picture.{corner}
use Rattle.topo_core.specs.Routes.{KeepsPromise, Price, Reaches}
use Rattle.topo_route.specs.FaceHeights.{with_name}
use Rattle.topo_route.specs.Names.{IsName, dart_named, height_of, next_name, twin_name}
use Rattle.topo_route.specs.PricedFaces.{AreFaces, PricedFaces, heights_over}
use Rattle.topo_route.specs.Searches.{AreLeft}
use Rattle.topo_route.specs.Settling.{AreFaceCosts, AreLowered, AreSums, IsCrossed, IsReached}
use Rattle.topo_route.specs.Settling.{Relaxes, Spreads, is_pending, is_waiting, item_of, number_at, reach_of}
use Rattle.topo_route.proofs.spreading.Crossings.{twin_costs, twin_waits}
use Rattle.topo_route.proofs.spreading.FaceHeights.{face_less, face_lowered, one_height}
use Rattle.topo_route.proofs.spreading.FaceWalks.{face_after, next_face}
use Rattle.topo_route.proofs.names.Names.{after_is, height_named, name_below, next_is}
use Rattle.topo_route.proofs.spreading.Settled.{has_face, lowered_costs, lowered_waits, narrowed, of_face, passed_effort, put_down, taken_up}
use Rattle.topo_route.proofs.spreading.Sums.{sums_lowered}
use Rattle.topo_route.proofs.plans.Tests.{before_some}

module _ (seen : PricedFaces) (laws : AreFaces seen) (v : ℕ)
    (others : List ℕ) where
  -- one step after another
  pub both_steps : {hs ns ws : List ℕ} {l d : ℕ} {hs' ns' ws' : List ℕ} {l' d' : ℕ} {hs'' ns'' ws'' : List ℕ} {l'' d'' : ℕ}
      → Relaxes seen v others hs ns ws l d hs' ns' ws' l' d'
      → Relaxes seen v others hs' ns' ws' l' d' hs'' ns'' ws'' l'' d'' → Relaxes seen v others hs ns ws l d hs'' ns'' ws'' l'' d''
  both_steps one two = record {
    spreads = λ top s. two.spreads top (one.spreads top s);
    costs = two.costs;
    sums = two.sums;
    less = omega (arith, one.less, two.less);
    falls = omega (arith, one.falls, two.falls);
    lower = λ k. omega (arith, one.lower k, two.lower k);
  }

  -- none at all
  pub no_step : (heights names waiting : List ℕ) (least d : ℕ) → AreFaceCosts seen v heights names
      → AreSums seen.named (heights_over seen heights) (heights_over seen others) least
      → Relaxes seen v others heights names waiting least d heights names waiting least d
  no_step heights names waiting least d costs sums = record {
    spreads = λ top s. s;
    costs = costs;
    sums = sums;
    less = omega arith;
    falls = omega arith;
    lower = λ k. omega arith;
  }

  -- a face is lowered and waits
  lowered_relaxes : {heights names waiting waiting' : List ℕ} {least lower t : ℕ} (x d : ℕ)
      → AreSums seen.named (heights_over seen heights) (heights_over seen others) least → IsName seen.named t → AreFaceCosts seen v heights names
      → x < slice_index (heights_over seen heights) t → AreFaceCosts seen v (set heights (seen.face t) x) (with_name heights (seen.face t) t names)
      → lower ≡ min least (x + number_at others (seen.face t)) → length waiting' ≡ length waiting + 1
      → ((top : ℕ → ℕ) → Spreads seen v top (reach_of least) heights names waiting d
      → Spreads seen v top (reach_of least) (set heights (seen.face t) x) (with_name heights (seen.face t) t names) waiting' d)
      → Relaxes seen v others heights names waiting least d (set heights (seen.face t) x) (with_name heights (seen.face t) t names) waiting' lower d
  lowered_relaxes {heights} {names} {waiting} {waiting'} {least} {lower} {t} x d sums there costs low now is longer waits =
      let within = has_face laws.labels costs t there in
      let at = of_face seen laws v heights names costs t there in
      let less = passed_effort heights waiting (seen.face t) x within (omega arith) in
      record {
        spreads = λ top s. narrowed seen v (set heights (seen.face t) x) (with_name heights (seen.face t) t names) waiting' top top (reach_of least)
            (reach_of lower) d (waits top s) (λ k. omega arith) (omega arith);
        costs = now;
        sums = sums_lowered laws.names seen.face heights others x there within (omega arith) sums is;
        less = omega arith;
        falls = omega arith;
        lower = λ k. face_less seen.named laws.names seen.face heights t x within there (omega arith) k;
      }

  -- the twin of a dart, by its name
  pub record IsTwin (d other : ℕ) : Type 0 where
    pub is : other ≡ twin_name seen.named d
    pub there : IsName seen.named other
    pub short : other < 2 ^ 32

  -- the face of the twin of a dart of the face in hand
  pub twin_relaxes : {heights names waiting waiting' : List ℕ} {least lower d other p : ℕ}
      → AreSums seen.named (heights_over seen heights) (heights_over seen others) least → AreFaceCosts seen v heights names
      → IsReached seen.named (heights_over seen heights) d → KeepsPromise seen.price → Price seen.price seen.named.rows (dart_named seen.named d) p → IsTwin d other
      → slice_index (heights_over seen heights) d + p < min (slice_index (heights_over seen heights) other) (reach_of least)
      → lower ≡ min least (slice_index (heights_over seen heights) d + p + number_at others (seen.face other))
      → ((i : ℕ) → is_waiting waiting' i ≡ (item_of other (slice_index (heights_over seen heights) d + p) == i || is_waiting waiting i))
      → length waiting' ≡ length waiting + 1
      → Relaxes seen v others heights names waiting least d (set heights (seen.face other) (slice_index (heights_over seen heights) d + p))
      (with_name heights (seen.face other) other names) waiting' lower d
  twin_relaxes {heights} {names} {waiting} {waiting'} {least} {lower} {d} {other} {p} sums costs in_hand promise asked twin low least_is added longer =
      lowered_relaxes (slice_index (heights_over seen heights) d + p) d sums twin.there costs (omega arith)
      (twin_costs seen laws v (reach_of least) heights names waiting d other p costs in_hand promise asked twin.is twin.there low)
      least_is longer
      (λ top s. twin_waits seen laws v (reach_of least)
      heights names waiting d other p costs in_hand promise asked twin.is twin.there low top waiting' twin.short added s)

  -- ---- Round the face in hand

  -- crossed darts stay crossed while heights and the reach fall, where their own heights do not
  pub still_crossed : (heights heights' : List ℕ) (reach reach' k : ℕ) → AreLowered heights heights' → reach' ≤ reach
      → slice_index heights' k ≡ slice_index heights k → IsCrossed seen.price seen.named reach heights k → IsCrossed seen.price seen.named reach' heights' k
  still_crossed heights heights' reach reach' k lower less same crossed p asked = let was = crossed p asked in omega (arith, lower (twin_name seen.named k))

  -- a dart that the walk meets has the height of the face
  pub at_height : (heights : List ℕ) (n d at h : ℕ) → IsName seen.named d → IsName seen.named at → at ≡ after (next_name seen.named) n d
      → slice_index (heights_over seen heights) d ≡ h
      → slice_index (heights_over seen heights) at ≡ h
  at_height heights n d at h there here place is =
      one_height seen.named seen.face heights laws.names at d here there
      (ap seen.face place ∙ face_after seen.named laws.lawful laws.names seen.face seen.faces laws.labels n d there) ∙ is

  -- heights and the least sum have fallen, but a dart is as high as the one in hand was
  pub record FallElsewhere (heights heights' : List ℕ) (least least' d at : ℕ) : Type 0 where
    pub lower : AreLowered (heights_over seen heights) (heights_over seen heights')
    pub less : least' ≤ least
    pub same : slice_index (heights_over seen heights') at ≡ slice_index (heights_over seen heights) d

  -- one more dart of the face has been crossed, and their heights are what they were
  pub crossed_on : {heights heights' : List ℕ} {least least' : ℕ} (n : ℕ) {d at : ℕ} → IsName seen.named d → at ≡ after (next_name seen.named) n d
      → FallElsewhere heights heights' least least' d at
      → ((j : ℕ) → j < n → IsCrossed seen.price seen.named (reach_of least) (heights_over seen heights) (after (next_name seen.named) j d))
      → IsCrossed seen.price seen.named (reach_of least') (heights_over seen heights') at
      → (j : ℕ) → j < n + 1 → IsCrossed seen.price seen.named (reach_of least') (heights_over seen heights') (after (next_name seen.named) j d)
  crossed_on {heights} {heights'} {least} {least'} n {d} {at} there place falls so_far here j within = elim (cases_lt j n) [
    | inr last ↦ let is : n ≡ j = omega arith in
        subst (IsCrossed seen.price seen.named (reach_of least') (heights_over seen heights')) (place ∙ ap (λ i. after (next_name seen.named) i d) is) here
    | inl earlier ↦
        let k = after (next_name seen.named) j d in
        let l = after_is seen.named laws.lawful laws.names j d there in
        let e = face_after seen.named laws.lawful laws.names seen.face seen.faces laws.labels j d there in
        let at_there = subst (IsName seen.named) (sym place) (after_is seen.named laws.lawful laws.names n d there) in
        let at_face : seen.face k ≡ seen.face at = e ∙ sym (ap seen.face place ∙ face_after seen.named laws.lawful laws.names seen.face seen.faces laws.labels n d there) in
        still_crossed (heights_over seen heights) (heights_over seen heights') (reach_of least) (reach_of least') k falls.lower (omega (arith, falls.less))
        (one_height seen.named seen.face heights' laws.names k at l at_there at_face ∙ falls.same
        ∙ sym (one_height seen.named seen.face heights laws.names k d l there e)) (so_far j earlier)
  ]

  -- another dart of the face may be said to be in hand
  hand_over : (top : ℕ → ℕ) (reach : ℕ) (heights names waiting : List ℕ) (d at : ℕ) → IsName seen.named at → seen.face at ≡ seen.face d
      → Spreads seen v top reach heights names waiting d
      → Spreads seen v top reach heights names waiting at
  hand_over top reach heights names waiting d at there same spreads = record {
    costs = spreads.costs;
    others = λ k l ne less idle. spreads.others k l (λ within e. ne (name_below seen.named laws.names at there) (e ∙ sym same)) less idle;
    reached_waits = spreads.reached_waits;
  }

  pub same_hand : {hs ns ws : List ℕ} {l : ℕ} {hs' ns' ws' : List ℕ} {l' : ℕ} (d at : ℕ) → IsName seen.named d → IsName seen.named at → seen.face at ≡ seen.face d
      → Relaxes seen v others hs ns ws l at hs' ns' ws' l' at
      → Relaxes seen v others hs ns ws l d hs' ns' ws' l' d
  same_hand {hs} {ns} {ws} {l} {hs'} {ns'} {ws'} {l'} d at there here same relaxes = record {
    spreads = λ top s. hand_over top (reach_of l') hs' ns' ws' at d there (sym same)
        (relaxes.spreads top (hand_over top (reach_of l) hs ns ws d at here same s));
    costs = relaxes.costs;
    sums = relaxes.sums;
    less = relaxes.less;
    falls = relaxes.falls;
    lower = relaxes.lower;
  }

  -- the face in hand is settled
  pub put_down_relaxes : (heights names waiting : List ℕ) (least d : ℕ) → IsName seen.named d → AreFaceCosts seen v heights names
      → AreSums seen.named (heights_over seen heights) (heights_over seen others) least
      → ((k : ℕ) → IsName seen.named k → seen.face k ≡ seen.face d → IsCrossed seen.price seen.named (reach_of least) (heights_over seen heights) k)
      → Relaxes seen v others heights names waiting least d heights names waiting least seen.named.size
  put_down_relaxes heights names waiting least d there costs sums crossed = record {
    spreads = λ top s. put_down seen laws v heights names costs top (reach_of least) waiting d there s (λ k l e. (
      omega (
        arith,
        one_height seen.named seen.face heights laws.names (next_name seen.named k) k (next_is seen.named laws.lawful laws.names k l) l
            (next_face seen.named laws.lawful laws.names seen.face seen.faces laws.labels k l),
      ),
      crossed k l e,
    ));
    costs = costs;
    sums = sums;
    less = omega arith;
    falls = omega arith;
    lower = λ k. omega arith;
  }

  -- ---- The start

  -- a corner of the end gets height 0 and waits
  module _ (heights names waiting waiting' : List ℕ) (least lower i c : ℕ) (costs : AreFaceCosts seen v heights names)
      (sums : AreSums seen.named (heights_over seen heights) (heights_over seen others) least) (there : IsName seen.named c)
      (at : corner seen.named.rows v i ≡ Some (dart_named seen.named c)) (high : 0 < slice_index (heights_over seen heights) c) (short : c < 2 ^ 32) where
    pub started : lower ≡ min least (number_at others (seen.face c)) → ((i : ℕ) → is_waiting waiting' i ≡ (item_of c 0 == i || is_waiting waiting i))
        → length waiting' ≡ length waiting + 1
        → Relaxes seen v others heights names waiting least seen.named.size (set heights (seen.face c) 0)
        (with_name heights (seen.face c) c names) waiting' lower seen.named.size
    started is added longer =
        let walk : Reaches seen.price seen.named.rows v (dart_named seen.named c) 0 =
        record { crossed = []; position = i; to = dart_named seen.named c; ends = at; walk = record { steps = 0; leads = refl }; cost = refl } in
        lowered_relaxes 0 seen.named.size sums there costs high
        (lowered_costs seen laws v heights names costs c 0 there high walk (omega arith)) (omega arith) longer
        (λ top s. lowered_waits seen laws v heights names costs c 0 there high walk (omega arith) top (reach_of least)
        waiting waiting' seen.named.size short s added)

    pub started_zero : ((p : ℕ) (d : Dart) → p < i → corner seen.named.rows v p ≡ Some d → height_of seen.named (heights_over seen heights) d ≡ 0)
        → (p : ℕ) (d : Dart) → p < i + 1 → corner seen.named.rows v p ≡ Some d → height_of seen.named (heights_over seen (set heights (seen.face c) 0)) d ≡ 0
    started_zero before =
        let within = has_face laws.labels costs c there in
        before_some seen.named.rows v (λ p d. height_of seen.named (heights_over seen (set heights (seen.face c) 0)) d ≡ 0) i (dart_named seen.named c) at
        (height_named seen.named laws.names (heights_over seen (set heights (seen.face c) 0)) c there
        ∙ face_lowered seen.named laws.names seen.face heights c 0 within c there refl)
        (λ p d l here. let was = before p d l here in
        let less = face_less seen.named laws.names seen.face heights c 0 within there (omega arith) (seen.named.name d) in omega arith)

  -- a face is taken from those that wait, and relaxed
  pub taken_relaxes : (top lower : ℕ → ℕ) {hs ns ws after : List ℕ} {l d : ℕ} {hs' ns' ws' : List ℕ} {l' : ℕ} → seen.named.size < 2 ^ 32
      → ((j k : ℕ) → IsName seen.named j → IsName seen.named k → seen.face j ≡ seen.face k → top j ≡ top k)
      → Spreads seen v top (reach_of l) hs ns ws seen.named.size → IsName seen.named d
      → ((k : ℕ) → k < 2 ^ 32 → IsName seen.named k → slice_index (heights_over seen hs) k < top k → k ≢ d
      → is_pending (heights_over seen hs) after k ≡ is_pending (heights_over seen hs) ws k)
      → AreLeft ws after → Relaxes seen v others hs ns after l d hs' ns' ws' l' seen.named.size
      → ((k : ℕ) → lower k ≤ top k)
      → Spreads seen v lower (reach_of l') hs' ns' ws' seen.named.size
  taken_relaxes top lower {hs} {ns} {ws} {after} {l} {d} {hs'} {ns'} {ws'} {l'} small even spreads there same fewer relaxes low =
      narrowed seen v hs' ns' ws' top lower (reach_of l') (reach_of l') seen.named.size
      (relaxes.spreads top (taken_up seen v hs ns ws laws.names small top (reach_of l) even spreads after d there same fewer)) low (omega arith)

  -- what it leads to, by another name
  pub renamed : {hs ns ws : List ℕ} {l d : ℕ} {hs' ns' ws' : List ℕ} {l' d' : ℕ} (hs'' ns'' ws'' : List ℕ) (l'' : ℕ) → hs'' ≡ hs' → ns'' ≡ ns'
      → ws'' ≡ ws' → l'' ≡ l'
      → Relaxes seen v others hs ns ws l d hs' ns' ws' l' d' → Relaxes seen v others hs ns ws l d hs'' ns'' ws'' l'' d'
  renamed {hs} {ns} {ws} {l} {d} {hs'} {ns'} {ws'} {l'} {d'} hs'' ns'' ws'' l'' h n w m relaxes =
      subst (λ (x : List ℕ). Relaxes seen v others hs ns ws l d x ns'' ws'' l'' d') (sym h)
      (subst (λ (x : List ℕ). Relaxes seen v others hs ns ws l d hs' x ws'' l'' d') (sym n)
      (subst (λ (x : List ℕ). Relaxes seen v others hs ns ws l d hs' ns' x l'' d') (sym w)
      (subst (λ (x : ℕ). Relaxes seen v others hs ns ws l d hs' ns' ws' x d') (sym m) relaxes)))
