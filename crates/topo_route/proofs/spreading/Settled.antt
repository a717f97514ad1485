-- How heights spread: faces are lowered, wait and are settled, said of darts by their names.
use Rattle.std.proofs.Common.{◌≡◌, ◌≢◌, ℕ, ◌+◌, ◌*◌, ◌^◌, ◌<◌, ◌≤◌, ◌||◌, ◌==◌, ◌++◌, ◌∷◌, [], Bool, true, false, cond, List}
use Rattle.std.proofs.Common.{length, inl, inr, refl, sym, ap, subst, ◌∙◌, arith, get_or-set_same, get_or-set_other}
use Rattle.std.specs.Prelude.{slice_index, sum_by}
use Rattle.std.proofs.Math.ListN.{set}
use Rattle.std.proofs.lemmas.Bool.{cases_Bool, cases_eq, cases_lt, eqb-true, eq-eqb, ne_eqb, false≢true}
use Rattle.std.proofs.lemmas.List.{length-set}
use Rattle.std.proofs.lemmas.List.Sums.{sum_by-set}
use Rattle.topo_core.specs.Routes.{Pricing, Reaches, unreached}
use Rattle.topo_core.proofs.Interface.{either}
use Rattle.topo_route.specs.FaceHeights.{AreLabelled, with_name}
use Rattle.topo_route.specs.Names.{HasFaces, IsName, IsNamed, Named, dart_named, height_of, next_name, twin_name}
use Rattle.topo_route.specs.Plans.{IsZeroAt}
use Rattle.topo_route.specs.PricedFaces.{AreFaces, PricedFaces, heights_over}
use Rattle.topo_route.specs.Searches.{AreLeft, NoneWaits}
use Rattle.topo_route.specs.Settling.{AreCosts, AreFaceCosts, AreLowered, IsReached, IsSettled}
use Rattle.topo_route.specs.Settling.{Spreads, dart_of_item, effort, is_pending, is_waiting, item_of, reached}
use Rattle.topo_route.proofs.spreading.FaceHeights.{dart_capped, face_less, face_lowered, face_other, height_by_face, one_for_each, one_height, reached_named}
use Rattle.topo_route.proofs.spreading.Listed.{lists_added}
use Rattle.topo_route.proofs.spreading.FaceWalks.{crosses_from}
use Rattle.topo_route.proofs.spreading.Fits.{counts, reached_within}
use Rattle.topo_route.proofs.names.Names.{name_below}

counts_reached : (h : ℕ) → h ≢ unreached → counts h ≡ 1
counts_reached h ne = ap (λ (b : Bool). cond {A = ℕ} b 0 1) (ne_eqb h unreached ne)

counts_unreached : (h : ℕ) → h ≡ unreached → counts h ≡ 0
counts_unreached h e = ap (λ (b : Bool). cond {A = ℕ} b 0 1) (eq-eqb h unreached e)

pub either_false : (a b : Bool) → (a || b) ≡ false → (a ≡ false) × (b ≡ false)
either_false true b e = cc
either_false false b e = (refl, e)

-- ---- Items

-- an item is that of its dart
pub dart_of_own : (d h : ℕ) → d < 2 ^ 32 → dart_of_item (item_of d h) ≡ d
dart_of_own d h short = omega arith

-- ---- One height lowered

module _ (heights : List ℕ) (t x : ℕ) (within : t < length heights) where
  abbrev lowered : List ℕ
  lowered = set heights t x

  pub lowered_there : slice_index lowered t ≡ x
  lowered_there = get_or-set_same heights t x 0 within

  pub lowered_other : (k : ℕ) → k ≢ t → slice_index lowered k ≡ slice_index heights k
  lowered_other k ne = get_or-set_other heights t k x 0 ne

  pub lowered_less : (k : ℕ) → x ≤ slice_index heights t → slice_index lowered k ≤ slice_index heights k
  lowered_less k low = grind (arith, cases_eq, lowered_there, lowered_other)

  pub lowered_sum : sum_by (λ h. h) lowered + slice_index heights t ≡ sum_by (λ h. h) heights + x
  lowered_sum = sum_by-set (λ h. h) heights t x 0 within

  -- the darts that were reached are, and t
  pub lowered_reached : x ≢ unreached → reached lowered + counts (slice_index heights t) ≡ reached heights + 1
  lowered_reached some = let e = sum_by-set counts heights t x 0 within in let one = counts_reached x some in omega arith

  pub lowered_more : x ≢ unreached → reached heights ≤ reached lowered
  lowered_more some = let e = lowered_reached some in grind (arith, cases_eq, counts_unreached, counts_reached)

-- ---- Faces and their labels

-- labels have a height for each dart's face
pub has_face : {seen : PricedFaces} {v : ℕ} {heights names : List ℕ} → HasFaces seen.named seen.face seen.faces → AreFaceCosts seen v heights names → (k : ℕ)
    → IsName seen.named k → seen.face k < length heights
has_face has_faces costs k l = omega (arith, costs.labelled.one_each, has_faces.within k l)

module _ (seen : PricedFaces) (laws : AreFaces seen) (v : ℕ) (heights names : List ℕ)
    (costs : AreFaceCosts seen v heights names) where
  abbrev of_darts : List ℕ
  of_darts = heights_over seen heights

  pub of_face : (k : ℕ) → IsName seen.named k → slice_index of_darts k ≡ slice_index heights (seen.face k)
  of_face k l = height_by_face seen.named seen.face heights laws.names k l (has_face laws.labels costs k l)

  -- a dart is no higher than 1000 for each face that has been reached
  pub near_dart : (k : ℕ) → IsName seen.named k → slice_index of_darts k ≢ unreached → slice_index of_darts k ≤ 1000 * reached heights
  near_dart k l some = let is = of_face k l in let near = costs.bounded (seen.face k) (laws.labels.within k l) (λ e. some (is ∙ e)) in omega arith

  module _ (t x : ℕ) (there : IsName seen.named t) (low : x < slice_index of_darts t) (walk : Reaches seen.price seen.named.rows v (dart_named seen.named t) x)
      (near : x ≤ 1000 * reached heights + 1000) where
    abbrev heights' : List ℕ
    heights' = set heights (seen.face t) x

    abbrev after : List ℕ
    after = heights_over seen heights'

    inside : seen.face t < length heights
    inside = has_face laws.labels costs t there

    some : x ≢ unreached
    some e = let cap = costs.costs.capped t in omega arith

    low_face : x < slice_index heights (seen.face t)
    low_face = omega (arith, of_face t there)

    pub face_near : (f : ℕ) → f < seen.faces → slice_index heights' f ≢ unreached → slice_index heights' f ≤ 1000 * reached heights'
    face_near f l = grind
        (arith, cases_eq, inside, low_face, lowered_there, lowered_other, lowered_more, some, lowered_reached, counts_unreached, costs.bounded f l)

    face_capped : (f : ℕ) → slice_index heights' f ≤ unreached
    face_capped f = let cap = costs.capped f in let less = lowered_less heights (seen.face t) x inside f (omega (arith, low_face)) in omega arith

    labelled_anew : AreLabelled seen.named seen.face seen.faces heights' (names ++ t ∷ [])
    labelled_anew =
        let lists = lists_added names t in
        let was = costs.labelled in record {
          few = was.few;
          one_each = length-set heights (seen.face t) x ∙ was.one_each;
          named = λ k h. elim (lists.came k h) [
            | inl is ↦ subst (IsName seen.named) (sym is) there
            | inr earlier ↦ was.named k earlier
          ];
          inside = λ f l reached. elim (cases_eq f (seen.face t)) [
            | inl e ↦ (t, lists.itself, sym e)
            | inr ne ↦
                let (k, h, is) = was.inside f l (λ e. reached (lowered_other heights (seen.face t) x inside f ne ∙ e)) in
                (k, lists.stays k h, is)
          ];
        }

    labelled_again : slice_index heights (seen.face t) ≢ unreached → AreLabelled seen.named seen.face seen.faces heights' names
    labelled_again again =
        let was = costs.labelled in record {
          few = was.few;
          one_each = length-set heights (seen.face t) x ∙ was.one_each;
          named = was.named;
          inside = λ f l reached. elim (cases_eq f (seen.face t)) [
            | inl e ↦ was.inside f l (λ z. again (ap (slice_index heights) (sym e) ∙ z))
            | inr ne ↦ was.inside f l (λ e. reached (lowered_other heights (seen.face t) x inside f ne ∙ e))
          ];
        }

    labelled : AreLabelled seen.named seen.face seen.faces heights' (with_name heights (seen.face t) t names)
    labelled =
        let Labelled = λ (b : Bool). AreLabelled seen.named seen.face seen.faces heights' (cond {A = List ℕ} b (names ++ t ∷ []) names) in
        elim (cases_Bool (slice_index heights (seen.face t) == unreached)) [
          | inl anew ↦ subst Labelled (sym anew) labelled_anew
          | inr again ↦ subst Labelled (sym again) (labelled_again (λ e. false≢true (sym again ∙ eq-eqb (slice_index heights (seen.face t)) unreached e)))
        ]

    -- darts that were reached are
    pub lowered_stays : (k : ℕ) → slice_index of_darts k ≢ unreached → slice_index after k ≢ unreached
    lowered_stays k was now = let less = face_less seen.named laws.names seen.face heights t x inside there (omega arith) k in let cap = costs.costs.capped k in was (omega arith)

    -- each dart of the face reaches the target at the cost at which one of them does
    walk_of_face : (k : ℕ) → IsName seen.named k → seen.face k ≡ seen.face t → Reaches seen.price seen.named.rows v (dart_named seen.named k) x
    walk_of_face k l e = let same = laws.labels.one k t l there e in record {
      crossed = walk.crossed;
      position = walk.position;
      to = walk.to;
      ends = walk.ends;
      walk = crosses_from seen.named.rows (dart_named seen.named k) (dart_named seen.named t) walk.crossed walk.to same walk.walk;
      cost = walk.cost;
    }

    dart_costs : AreCosts seen.price seen.named v after
    dart_costs = record {
      one_each = one_for_each seen.named seen.face heights';
      named = reached_named seen.named seen.face heights';
      capped = dart_capped seen.named seen.face heights' face_capped;
      costs = λ k l reached. elim (cases_eq (seen.face k) (seen.face t)) [
        | inl e ↦ subst (Reaches seen.price seen.named.rows v (dart_named seen.named k)) (sym (face_lowered seen.named laws.names seen.face heights t x inside k l e))
            (walk_of_face k l e)
        | inr ne ↦
            let same = face_other seen.named laws.names seen.face heights t x inside k (λ l. ne) in
            subst (Reaches seen.price seen.named.rows v (dart_named seen.named k)) (sym same) (costs.costs.costs k l (λ e. reached (same ∙ e)))
      ];
      bounded = λ k l reached.
          let within = labelled.one_each in
          let is = height_by_face seen.named seen.face heights' laws.names k l (omega (arith, laws.labels.within k l)) in
          let near' = face_near (seen.face k) (laws.labels.within k l) (λ e. reached (is ∙ e)) in
          let most = reached_within heights' in
          let few = costs.labelled.few in omega arith;
    }

    -- a lower cost keeps heights costs
    pub lowered_costs : AreFaceCosts seen v heights' (with_name heights (seen.face t) t names)
    lowered_costs = record { labelled = labelled; capped = face_capped; bounded = face_near; costs = dart_costs }

    pub lowered_settled : (bound k : ℕ) → (IsName seen.named k → seen.face k ≢ seen.face t) → IsSettled seen.price seen.named bound of_darts k
        → IsSettled seen.price seen.named bound after k
    lowered_settled bound k ne (next, crossed) =
        let same = face_other seen.named laws.names seen.face heights t x inside k ne in (
          (let less = face_less seen.named laws.names seen.face heights t x inside there (omega arith) (next_name seen.named k) in omega arith),
          (λ p e. let bound = crossed p e in let less = face_less seen.named laws.names seen.face heights t x inside there (omega arith) (twin_name seen.named k) in omega arith),
        )

    -- the face is lowered, and its dart t waits
    pub lowered_waits : (top : ℕ → ℕ) (reach : ℕ) (waiting waiting' : List ℕ) (in_hand : ℕ) → t < 2 ^ 32
        → Spreads seen v top reach heights names waiting in_hand
        → ((i : ℕ) → is_waiting waiting' i ≡ (item_of t x == i || is_waiting waiting i))
        → Spreads seen v top reach heights' (with_name heights (seen.face t) t names) waiting' in_hand
    lowered_waits top reach waiting waiting' in_hand short spreads added = record {
      costs = lowered_costs;
      others = λ k l ne less idle.
          let own : is_waiting waiting' (item_of t x) ≡ true = added (item_of t x)
          ∙ ap (λ b. b || is_waiting waiting (item_of t x)) (eq-eqb (item_of t x) (item_of t x) refl) in
          let here = face_lowered seen.named laws.names seen.face heights t x inside t there refl in
          let apart : seen.face k ≢ seen.face t = λ e. false≢true (sym (idle t there (sym e)) ∙ ap (λ h. is_waiting waiting' (item_of t h)) here ∙ own) in
          let same = face_other seen.named laws.names seen.face heights t x inside k (λ l. apart) in
          lowered_settled reach k (λ l. apart) (spreads.others k l ne (omega arith) (λ j lj e.
          let still = face_other seen.named laws.names seen.face heights t x inside j (λ l. λ c. apart (sym e ∙ c)) in
          let item = item_of j (slice_index of_darts j) in
          (either_false (item_of t x == item) (is_waiting waiting item)
          (sym (added item) ∙ ap (λ h. is_waiting waiting' (item_of j h)) (sym still) ∙ idle j lj e)).1));
      reached_waits = λ item waits. elim (either (item_of t x == item) (is_waiting waiting item) (sym (added item) ∙ waits)) [
        | inl here ↦
            let is : t ≡ dart_of_item item = sym (dart_of_own t x short) ∙ ap dart_of_item (eqb-true (item_of t x) item here) in (
              subst (IsName seen.named) is there,
              subst (λ j. slice_index after j ≢ unreached) is (λ e. some (sym (face_lowered seen.named laws.names seen.face heights t x inside t there refl) ∙ e)),
            )
        | inr before ↦ let was = spreads.reached_waits item before in (was.0, lowered_stays (dart_of_item item) was.1)
      ];
    }

  -- the face in hand is settled
  pub put_down : (top : ℕ → ℕ) (reach : ℕ) (waiting : List ℕ) (d : ℕ) → IsName seen.named d → Spreads seen v top reach heights names waiting d
      → ((k : ℕ) → IsName seen.named k → seen.face k ≡ seen.face d → IsSettled seen.price seen.named reach of_darts k)
      → Spreads seen v top reach heights names waiting seen.named.size
  put_down top reach waiting d there spreads settled = record {
    costs = spreads.costs;
    others = λ k l ne less idle. elim (cases_eq (seen.face k) (seen.face d)) [
      | inl e ↦ settled k l e
      | inr other ↦ spreads.others k l (λ within. other) less idle
    ];
    reached_waits = spreads.reached_waits;
  }

-- what is settled is settled as far as a lower reach
pub settled_nearer : (price : Pricing) (g : Named) (reach nearer : ℕ) (heights : List ℕ) (k : ℕ) → nearer ≤ reach → IsSettled price g reach heights k
    → IsSettled price g nearer heights k
settled_nearer price g reach nearer heights k near (face, crossed) = (face, λ p asked. let climb = crossed p asked in omega arith)

module _ (seen : PricedFaces) (v : ℕ) (heights names waiting : List ℕ) where
  abbrev high : List ℕ
  high = heights_over seen heights

  -- lower tops and a lower reach
  pub narrowed : (top lower : ℕ → ℕ) (reach nearer : ℕ) (in_hand : ℕ) → Spreads seen v top reach heights names waiting in_hand
      → ((k : ℕ) → lower k ≤ top k) → nearer ≤ reach → Spreads seen v lower nearer heights names waiting in_hand
  narrowed top lower reach nearer in_hand spreads low near = record {
    costs = spreads.costs;
    others = λ k l ne less idle. settled_nearer seen.price seen.named reach nearer high k near (spreads.others k l ne (omega (arith, low k)) idle);
    reached_waits = spreads.reached_waits;
  }

  -- what waits is of darts, and has been reached
  pub waits_named : (top : ℕ → ℕ) (reach : ℕ) (in_hand : ℕ) → Spreads seen v top reach heights names waiting in_hand → (item : ℕ)
      → is_waiting waiting item ≡ true → IsName seen.named (dart_of_item item)
  waits_named top reach in_hand spreads item waits = (spreads.reached_waits item waits).0

  pub taken_reached : (top : ℕ → ℕ) (reach : ℕ) (in_hand d : ℕ) → d < 2 ^ 32 → Spreads seen v top reach heights names waiting in_hand
      → is_pending high waiting d ≡ true → IsReached seen.named high d
  taken_reached top reach in_hand d short spreads pending =
      subst (IsReached seen.named high) (dart_of_own d (slice_index high d) short) (spreads.reached_waits (item_of d (slice_index high d)) pending)

  -- tops that are the same for the darts of a face
  module _ (has : IsNamed seen.named) (small : seen.named.size < 2 ^ 32) (top : ℕ → ℕ) (reach : ℕ)
      (even : (j k : ℕ) → IsName seen.named j → IsName seen.named k → seen.face j ≡ seen.face k → top j ≡ top k)
      (spreads : Spreads seen v top reach heights names waiting seen.named.size) where
    below_top : (j k : ℕ) → IsName seen.named j → IsName seen.named k → seen.face j ≡ seen.face k → slice_index high k < top k → slice_index high j < top j
    below_top j k lj lk e less = omega (arith, one_height seen.named seen.face heights has j k lj lk e, even j k lj lk e)

    -- a face is taken from those that wait
    pub taken_up : (left : List ℕ) (d : ℕ) → IsName seen.named d
        → ((k : ℕ) → k < 2 ^ 32 → IsName seen.named k → slice_index high k < top k → k ≢ d → is_pending high left k ≡ is_pending high waiting k)
        → AreLeft waiting left → Spreads seen v top reach heights names left d
    taken_up left d there same fewer = record {
      costs = spreads.costs;
      others = λ k l ne less idle.
          let within = name_below seen.named has d there in
          spreads.others k l (λ none. absurd (omega arith)) less (λ j lj e.
          let below = name_below seen.named has j lj in
          sym (same j (omega arith) lj (below_top j k lj l e less) (λ is. ne within (sym e ∙ ap seen.face is))) ∙ idle j lj e);
      reached_waits = λ item waits. spreads.reached_waits item (fewer item waits);
    }

    -- none waits with its height, so all below their tops are settled
    pub all_settled : NoneWaits seen.named high top waiting
        → (k : ℕ) → IsName seen.named k → slice_index high k < top k → IsSettled seen.price seen.named reach high k
    all_settled none k l less =
        spreads.others k l (λ none. absurd (omega arith)) less
        (λ j lj e. let below = name_below seen.named has j lj in none j (omega arith) lj (below_top j k lj l e less))

    -- and whatever is left of it still spreads
    pub emptied : (left : List ℕ) → NoneWaits seen.named high top waiting → AreLeft waiting left
        → Spreads seen v top reach heights names left seen.named.size
    emptied left none fewer = record {
      costs = spreads.costs;
      others = λ k l ne less idle. all_settled none k l less;
      reached_waits = λ item waits. spreads.reached_waits item (fewer item waits);
    }

-- what is not reached is settled
pub every_settled : (price : Pricing) (g : Named) (v : ℕ) (heights : List ℕ) → AreCosts price g v heights
    → ((k : ℕ) → IsName g k → slice_index heights k < unreached → IsSettled price g unreached heights k) → (k : ℕ) → IsName g k
    → IsSettled price g unreached heights k
every_settled price g v heights costs settled k l = elim (cases_lt (slice_index heights k) unreached) [
  | inl less ↦ settled k l less
  | inr high ↦ ((let cap = costs.capped (next_name g k) in omega arith), (λ p e. let cap = costs.capped (twin_name g k) in omega arith))
]

-- lower heights meet the target where higher ones did
pub meets_lower : (g : Named) (v : ℕ) (before after : List ℕ) → AreLowered before after → IsZeroAt g.rows v (height_of g before)
    → IsZeroAt g.rows v (height_of g after)
meets_lower g v before after lower meets p c at = omega (arith, lower (g.name c), meets p c at)

-- a step falls
pub passed_effort : (heights waiting : List ℕ) (t x : ℕ) → t < length heights → x < slice_index heights t
    → effort (set heights t x) waiting < effort heights waiting
passed_effort heights waiting t x within low = let e = lowered_sum heights t x within in omega arith
