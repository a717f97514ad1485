-- A search from both ends: its steps, and what it knows where it ends.
use Rattle.std.proofs.Common.{◌≡◌, ℕ, ◌+◌, ◌-◌, ◌^◌, ◌<◌, ◌≤◌, List, [], length, replicate, inl, inr, ap, refl, sym, subst, arith, ◌∙◌}
use Rattle.std.specs.Prelude.{max, min, slice_index}
use Rattle.std.proofs.lemmas.Bool.{cases_lt, false≢true}
use Rattle.std.proofs.lemmas.List.{get_or-replicate, get_or_past, length-replicate}
use Rattle.topo_core.specs.Items.{has_id}
use Rattle.topo_core.specs.Lawful.{Lawful}
use Rattle.topo_core.specs.Routes.{HasNoRoute, IsPricedRoute, KeepsPromise, Pricing, unreached}
use Rattle.topo_route.specs.Descents.{AreHeightsFor, HasNoStart}
use Rattle.topo_route.specs.Meeting.{HasMet, Meets, SpreadsBoth}
use Rattle.topo_route.specs.Names.{IsName, IsNamed, Named, dart_named, height_of}
use Rattle.topo_route.specs.Plans.{IsZeroAt}
use Rattle.topo_route.specs.PricedFaces.{AreFaces, PricedFaces, heights_over}
use Rattle.topo_route.specs.Settling.{AreCosts, AreFaceCosts, AreLowered, AreSums, IsSettled, Relaxes}
use Rattle.topo_route.specs.Settling.{Spreads, SpreadsTo, is_waiting, number_at, reach_of, top_of}
use Rattle.topo_route.proofs.spreading.FaceHeights.{dart_capped, height_by_face, one_for_each, reached_named}
use Rattle.topo_route.proofs.meeting.Meeting.{for_met, for_none}
use Rattle.topo_route.proofs.names.Names.{name_below, name_is}
use Rattle.topo_route.proofs.names.Numbers.{corner_below}
use Rattle.topo_route.proofs.spreading.Settled.{meets_lower, narrowed, settled_nearer}
use Rattle.topo_route.proofs.spreading.Sums.{number_within, sums_swapped}
use Rattle.topo_route.proofs.meeting.Turned.{joined}
use Rattle.topo_route.proofs.spreading.Unreached.{none_from_u, none_from_v}

module _ (seen : PricedFaces) (laws : AreFaces seen) (u v : ℕ) where
  nearer : (w l l' : ℕ) (heights names waiting : List ℕ) → l' ≤ l → SpreadsTo seen w (reach_of l) heights names waiting
      → SpreadsTo seen w (reach_of l') heights names waiting
  nearer w l l' heights names waiting less spreads = narrowed seen w heights names waiting (λ k. reach_of l) (λ k. reach_of l') (reach_of l)
      (reach_of l') seen.named.size spreads (λ k. omega arith) (omega arith)

  -- ---- The start

  module _ (heights names : List ℕ) (few : seen.faces < 2 ^ 32) (blank : heights ≡ replicate seen.faces unreached) (none : names ≡ []) where
    blank_face : (f : ℕ) → f < seen.faces → slice_index heights f ≡ unreached
    blank_face f l = ap (λ (xs : List ℕ). slice_index xs f) blank ∙ get_or-replicate seen.faces f unreached 0 l

    one_each : length heights ≡ seen.faces
    one_each = ap length blank ∙ length-replicate seen.faces unreached

    face_capped : (f : ℕ) → slice_index heights f ≤ unreached
    face_capped f = elim (cases_lt f seen.faces) [
      | inl l ↦ omega (arith, blank_face f l)
      | inr past ↦ omega (arith, get_or_past heights f 0 (omega (arith, one_each)))
    ]

    blank_dart : (k : ℕ) → IsName seen.named k → slice_index (heights_over seen heights) k ≡ unreached
    blank_dart k l = height_by_face seen.named seen.face heights laws.names k l (omega (arith, one_each, laws.labels.within k l)) ∙ blank_face (seen.face k) (laws.labels.within k l)

    pub blank_costs : (w : ℕ) → AreFaceCosts seen w heights names
    blank_costs w = record {
      labelled = record {
        few = few;
        one_each = one_each;
        named = λ k h. absurd (false≢true (sym (ap (λ (ks : List ℕ). has_id ks k) none) ∙ h));
        inside = λ f l some. absurd (some (blank_face f l));
      };
      capped = face_capped;
      bounded = λ f l some. absurd (some (blank_face f l));
      costs = record {
        one_each = one_for_each seen.named seen.face heights;
        named = reached_named seen.named seen.face heights;
        capped = dart_capped seen.named seen.face heights face_capped;
        costs = λ k l some. absurd (some (blank_dart k l));
        bounded = λ k l some. absurd (some (blank_dart k l));
      };
    }

    pub blank_spreads : (w reach : ℕ) (waiting : List ℕ) → waiting ≡ [] → Spreads seen w (λ k. unreached) reach heights names waiting seen.named.size
    blank_spreads w reach waiting empty = record {
      costs = blank_costs w;
      others = λ k l ne less idle. absurd (omega (arith, blank_dart k l));
      reached_waits = λ item waits. absurd (false≢true (sym (ap (λ (xs : List ℕ). is_waiting xs item) empty) ∙ waits));
    }

    -- there are no sums yet
    pub blank_sums : (others : List ℕ) → AreSums seen.named (heights_over seen heights) (heights_over seen others) unreached
    blank_sums others = record { sums = λ k l. omega (arith, blank_dart k l); attained = λ some. absurd (some refl) }

  -- no face is reached, and none waits
  pub record IsBlank (heights names waiting : List ℕ) : Type 0 where
    pub heights_are : heights ≡ replicate seen.faces unreached
    pub none_named : names ≡ []
    pub none_waits : waiting ≡ []

  -- the corners of v are reached, and then those of u
  pub started_both : {blank names none others names' coming heights on_names waiting distances back_names coming' : List ℕ} {l l' l'' : ℕ} → seen.faces < 2 ^ 32
      → IsBlank blank names none → IsBlank others names' coming
      → Relaxes seen v others blank names none l seen.named.size heights on_names waiting l' seen.named.size
      → IsZeroAt seen.named.rows v (height_of seen.named (heights_over seen heights))
      → Relaxes seen u heights others names' coming l' seen.named.size distances back_names coming' l'' seen.named.size
      → IsZeroAt seen.named.rows u (height_of seen.named (heights_over seen distances))
      → SpreadsBoth seen u v heights on_names waiting distances back_names coming' l''
  started_both {blank} {names} {none} {others} {names'} {coming} {heights} {on_names} {waiting} {distances} {back_names} {coming'} {l} {l'} {l''} few
      empty empty' on at_target back at_start = record {
        on = narrowed seen v heights on_names waiting (λ k. unreached) (λ k. reach_of l'') (reach_of l') (reach_of l'') seen.named.size
            (on.spreads (λ k. unreached) (blank_spreads blank names few empty.heights_are empty.none_named v (reach_of l) none empty.none_waits))
            (λ k. omega arith) (omega (arith, back.less));
        back = narrowed seen u distances back_names coming' (λ k. unreached) (λ k. reach_of l'') (reach_of l'') (reach_of l'') seen.named.size
            (back.spreads (λ k. unreached) (blank_spreads others names' few empty'.heights_are empty'.none_named u (reach_of l') coming empty'.none_waits))
            (λ k. omega arith) (omega arith);
        sums = sums_swapped seen.named laws.names (heights_over seen distances) (heights_over seen heights) l'' (one_for_each seen.named seen.face distances)
            (one_for_each seen.named seen.face heights) back.sums;
        at_target = at_target;
        at_start = at_start;
      }

  -- ---- A step of either end

  module _ {heights names waiting distances names' coming : List ℕ} {least : ℕ}
      (both : SpreadsBoth seen u v heights names waiting distances names' coming least) where
    pub stepped_on : (heights' names'' waiting' : List ℕ) (least' : ℕ) → SpreadsTo seen v (reach_of least') heights' names'' waiting'
        → AreSums seen.named (heights_over seen heights') (heights_over seen distances) least' → least' ≤ least
        → AreLowered (heights_over seen heights) (heights_over seen heights')
        → SpreadsBoth seen u v heights' names'' waiting' distances names' coming least'
    stepped_on heights' names'' waiting' least' on sums less lower = record {
      on = on;
      back = nearer u least least' distances names' coming less both.back;
      sums = sums;
      at_target = meets_lower seen.named v (heights_over seen heights) (heights_over seen heights') lower both.at_target;
      at_start = both.at_start;
    }

    pub stepped_back : (distances' names'' coming' : List ℕ) (least' : ℕ) → SpreadsTo seen u (reach_of least') distances' names'' coming'
        → AreSums seen.named (heights_over seen distances') (heights_over seen heights) least' → least' ≤ least
        → AreLowered (heights_over seen distances) (heights_over seen distances')
        → SpreadsBoth seen u v heights names waiting distances' names'' coming' least'
    stepped_back distances' names'' coming' least' back sums less lower = record {
      on = nearer v least least' heights names waiting less both.on;
      back = back;
      sums = sums_swapped seen.named laws.names (heights_over seen distances') (heights_over seen heights) least' (one_for_each seen.named seen.face distances')
          (one_for_each seen.named seen.face heights) sums;
      at_target = both.at_target;
      at_start = meets_lower seen.named u (heights_over seen distances) (heights_over seen distances') lower both.at_start;
    }

    pub back_sums : AreSums seen.named (heights_over seen distances) (heights_over seen heights) least
    back_sums = sums_swapped seen.named laws.names (heights_over seen heights) (heights_over seen distances) least (one_for_each seen.named seen.face heights)
        (one_for_each seen.named seen.face distances) both.sums

module _ (price : Pricing) (g : Named) (lawful : Lawful g.rows) (has : IsNamed g) (u v : ℕ) where
  -- ---- The end

  module _ (promise : KeepsPromise price) (heights distances : List ℕ) (first level second above least : ℕ) (on : AreCosts price g v heights)
      (back : AreCosts price g u distances)
      (at_target : IsZeroAt g.rows v (height_of g heights)) (at_start : IsZeroAt g.rows u (height_of g distances)) (sums : AreSums g heights distances least)
      (positive : 0 < level) (within : level ≤ max 1 (min first 18446744073709551614)) (less : second ≤ first) (lesser : least ≤ second)
      (in_range : first ≤ unreached) (is : above ≡ min level (max second 1))
      (near : (k : ℕ) → IsName g k → slice_index distances k < reach_of first - level → IsSettled price g (reach_of second) distances k)
      (known : (k : ℕ) → IsName g k → slice_index heights k < top_of above (min 18446744073709551614 least) distances k
      → IsSettled price g (reach_of least) heights k) where
    in_list : (k : ℕ) → IsName g k → number_at distances k ≡ slice_index distances k
    in_list k l = number_within distances k (omega (arith, name_below g has k l, back.one_each))

    -- a height or distance that is reached is small
    bounded : (w : ℕ) (hs : List ℕ) → AreCosts price g w hs → (k : ℕ) → IsName g k → slice_index hs k < unreached → slice_index hs k ≤ 4294967296000
    bounded w hs costs k l less = costs.bounded k l (λ e. omega arith)

    met : least < unreached → Meets price g u v heights distances (min above (max least 1)) least
    met some = record {
      heights_cost = on;
      distances_cost = back;
      at_target = at_target;
      at_start = at_start;
      positive = omega arith;
      within = omega arith;
      some = some;
      sums = λ k l. omega (arith, sums.sums k l, in_list k l);
      below = λ k l low. settled_nearer price g (reach_of least) (least + 1) heights k (omega arith) (known k l (omega arith));
      along = λ k l low. settled_nearer price g (reach_of least) (least + 1) heights k (omega arith) (known k l (omega (arith, in_list k l)));
      near = λ k l low. settled_nearer price g (reach_of second) (least + 1) distances k (omega arith) (near k l (omega arith));
      route =
          let (k, l, at) = sums.attained (λ e. omega arith) in
          let same : slice_index distances k + slice_index heights k ≡ least = omega (arith, sums.sums k l, in_list k l) in
          let (r, priced) = joined price g lawful has u v (dart_named g k) (slice_index distances k) (slice_index heights k) l.there
          (back.costs k l (λ e. omega (arith, in_list k l))) (on.costs k l (λ e. omega (arith, in_list k l))) in
          (r, subst (IsPricedRoute price g.rows u v r) same priced);
    }

    -- no dart is reached from both ends
    apart : least ≡ unreached → (k : ℕ) → IsName g k → unreached ≤ slice_index heights k + slice_index distances k
    apart e k l = omega (arith, sums.sums k l, in_list k l)

    no_start : least ≡ unreached → HasNoStart g u heights
    no_start e p c at =
        let l = name_is g has c (corner_below g.rows lawful u p c at) in
        omega (arith, apart e (g.name c) l, at_start p c at, on.capped (g.name c))

    no_target : least ≡ unreached → HasNoStart g v distances
    no_target e p c at =
        let l = name_is g has c (corner_below g.rows lawful v p c at) in
        omega (arith, apart e (g.name c) l, at_target p c at, back.capped (g.name c))

    none : least ≡ unreached → HasNoRoute price g.rows u v
    none e = elim (cases_lt level 4294967296001) [
      | inl low ↦ none_from_u price g lawful has promise u v distances back at_start
          (λ k l some. settled_nearer price g (reach_of second) unreached distances k (omega arith)
          (near k l (omega (arith, bounded u distances back k l some)))) (no_target e)
      | inr high ↦ none_from_v price g lawful has promise u v heights on at_target
          (λ k l some. settled_nearer price g (reach_of least) unreached heights k (omega arith) (known k l (omega (arith, bounded v heights on k l some))))
          (no_start e)
    ]

    pub for_both : AreHeightsFor price g u v heights
    for_both = elim (cases_lt least unreached) [
      | inl some ↦ for_met price g lawful has u v heights distances (min above (max least 1)) least (met some)
      | inr high ↦ for_none price g u v heights on.one_each (none (omega arith)) (no_start (omega arith))
    ]

    pub has_met : (last : ℕ) → last ≡ min above (max least 1) → HasMet price g u v heights distances last least
    has_met last e = record {
      meets = λ some. subst (λ n. Meets price g u v heights distances n least) (sym e) (met some);
      within = λ more. omega arith;
    }
