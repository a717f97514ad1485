-- A certificate bounds the cost of every route, and a route that is first by its heights is first.
use Rattle.std.proofs.Common.{◌≡◌, ◌≢◌, ℕ, zero, suc, ◌+◌, ◌^◌, ◌≤◌, ◌<◌, true, List, [], ◌∷◌, length, Some, refl, sym, ap, subst, ◌∙◌, arith, inl, inr}
use Rattle.std.specs.Prelude.{◌⊎◌, Option}
use Rattle.std.proofs.Math.Bridge.{le_prop}
use Rattle.std.specs.Ordering.{nat_cmp, ordering_then}
use Rattle.std.specs.Cmp.Lexicographic.{slice_cmp}
use Rattle.std.specs.declared.cmp.Ordering.{Ordering}
use Rattle.std.specs.declared.cmp.Ordering.TheVariants.{Less, Equal, Greater}
use Rattle.std.proofs.lemmas.Bool.Decides.{nat_tests}
use Rattle.std.proofs.lemmas.Bool.{cases_eq}
use Rattle.topo_core.specs.declared.darts.Dart.{Dart}
use Rattle.topo_core.specs.declared.rows.Rows.{Rows}
use Rattle.topo_core.specs.declared.rows.EdgeRow.{EdgeRow}
use Rattle.topo_core.specs.declared.rows.Facts.{Facts}
use Rattle.topo_core.specs.declared.routes.Route.{Route}
use Rattle.topo_core.specs.Darts.{dart_twin, dart_cmp}
use Rattle.topo_core.specs.Cycles.{after}
use Rattle.topo_core.specs.Systems.{System, SameFace, face_step, has_dart}
use Rattle.topo_core.specs.Picture.{darts, corner, edge_at, system}
use Rattle.topo_core.specs.Routes.{Pricing, Price, Costs, Crosses, IsRoute, IsPricedRoute, IsFirst, IsCertificate, KeepsPromise, AreFactsOf, route_cmp}
use Rattle.topo_core.specs.RouteLaws.{IsTight, TakesFirstDarts, arrival, IsFirstByHeights}
use Rattle.topo_core.proofs.numbering.DartOrder.{dart_cmp_equal, dart_cmp_self, nat_cmp_self}
use Rattle.topo_core.specs.declared.rows.TheConstants.{KINDS}

-- ---- Comparisons

split_order : (o : Ordering) → o ≢ Greater → (o ≡ Less) ⊎ (o ≡ Equal)
split_order Less h = inl refl
split_order Equal h = inr refl
split_order Greater h = absurd (h refl)

-- the same list compares equal
same_lists : (xs : List Dart) → slice_cmp dart_cmp xs xs ≡ Equal
same_lists [] = refl
same_lists (x ∷ xs) = ap (λ o. ordering_then o (slice_cmp dart_cmp xs xs)) (dart_cmp_self x) ∙ same_lists xs

pub not_above : (m n : ℕ) → m ≤ n → nat_cmp m n ≢ Greater
not_above m n h e = grind (arith, nat_tests)

not_below : (m n : ℕ) → (n < m → ⊥) → m ≤ n
not_below m n h = omega arith

pub start_before : (p q : ℕ) (rest : Ordering) → p < q → ordering_then (nat_cmp p q) rest ≢ Greater
start_before p q rest h e = grind (arith, nat_tests)

-- ---- Heights that certify

-- A system whose faces stay among the darts, with heights that are even along faces and climb no crossing by more than its price.
module _ (price : Pricing) (rows : Rows) (s : System) (ds : List Dart) (height : Dart → ℕ)
    (closed : (d : Dart) → has_dart ds d ≡ true → has_dart ds (face_step s d) ≡ true)
    (twins : (d : Dart) → has_dart ds d ≡ true → has_dart ds (dart_twin d) ≡ true)
    (even : (d : Dart) → has_dart ds d ≡ true → height (face_step s d) ≡ height d)
    (gentle : (d : Dart) (p : ℕ) → has_dart ds d ≡ true → Price price rows d p → height d ≤ p + height (dart_twin d)) where
  along_in : (k : ℕ) (c : Dart) → has_dart ds c ≡ true → has_dart ds (after (face_step s) k c) ≡ true
  along_in zero c h = h
  along_in (suc k) c h = closed (after (face_step s) k c) (along_in k c h)

  along_even : (k : ℕ) (c : Dart) → has_dart ds c ≡ true → height (after (face_step s) k c) ≡ height c
  along_even zero c h = refl
  along_even (suc k) c h = even (after (face_step s) k c) (along_in k c h) ∙ along_even k c h

  -- one face has one height
  pub face_height : (c d : Dart) → has_dart ds c ≡ true → SameFace s c d → height d ≡ height c
  face_height c d h f = sym (ap height f.leads) ∙ along_even f.steps c h

  pub face_in : (c d : Dart) → has_dart ds c ≡ true → SameFace s c d → has_dart ds d ≡ true
  face_in c d h f = subst (λ x. has_dart ds x ≡ true) f.leads (along_in f.steps c h)

  -- no walk to a corner of height 0 costs less than the height of the face where it starts
  pub height_bounds : (xs : List Dart) (c d : Dart) (n : ℕ) → has_dart ds c ≡ true → Crosses s c xs d → Costs price rows xs n → height d ≡ 0 → height c ≤ n
  height_bounds [] c d n h walk cost zero_there = let e = face_height c d h walk in omega arith
  height_bounds (x ∷ xs) c d n h walk cost zero_there =
      let e = face_height c x h walk.0 in
      let there = face_in c x h walk.0 in
      let climb = gentle x cost.0 there cost.2 in
      let rest = height_bounds xs (dart_twin x) d cost.1 (twins x there) walk.1 cost.3 zero_there in
      grind (arith, cost)

  -- what holds of the first dart of a walk that costs just the height of the face where it starts
  record Descends (c x : Dart) (xs : List Dart) (m : ℕ) : Type 0 where
    is_in : has_dart ds x ≡ true
    cost : ℕ
    asked : Price price rows x cost
    drop : height x ≡ cost + height (dart_twin x)
    later : height (dart_twin x) ≡ m

  descends : (x : Dart) (xs : List Dart) (c d : Dart) (n : ℕ) → has_dart ds c ≡ true → Crosses s c (x ∷ xs) d → (cost : Costs price rows (x ∷ xs) n)
      → height d ≡ 0 → height c ≡ n → Descends c x xs cost.1
  descends x xs c d n h walk cost zero_there same =
      let e = face_height c x h walk.0 in
      let there = face_in c x h walk.0 in
      let climb = gentle x cost.0 there cost.2 in
      grind (arith, height_bounds)

  -- a walk across these darts from c down to height 0, which costs n
  pub record ComesDown (c : Dart) (xs : List Dart) (n : ℕ) : Type 0 where
    pub to : Dart
    pub walk : Crosses s c xs to
    pub cost : Costs price rows xs n
    pub down : height to ≡ 0

  -- a walk across the first tight darts comes before each other walk of the same cost from the same face, or is that walk
  compare_walks : ((d : Dart) (p : ℕ) → Price price rows d p → 1 ≤ p) → (xs ys : List Dart) {c : Dart} {n : ℕ} → has_dart ds c ≡ true
      → ComesDown c xs n → ComesDown c ys n → height c ≡ n → ((x : Dart) → has_dart ds x ≡ true → has_dart (darts rows) x ≡ true) → s ≡ system rows
      → TakesFirstDarts price rows height c xs → (slice_cmp dart_cmp xs ys ≡ Less) ⊎ (xs ≡ ys)
  compare_walks positive [] [] h mine other same known is first = inr refl
  compare_walks positive [] (y ∷ ys) h mine other same known is first = inl refl
  compare_walks positive (x ∷ xs) [] h mine other same known is first =
      let paid = mine.cost in
      let free = other.cost in
      let one = positive x paid.0 paid.2 in
      grind (arith, paid, free)
  compare_walks positive (x ∷ xs) (y ∷ ys) {c} {n} h mine other same known is first =
      let cost = mine.cost in
      let cost' = other.cost in
      let here = descends x xs c mine.to n h mine.walk cost mine.down same in
      let there = descends y ys c other.to n h other.walk cost' other.down same in
      let tight : IsTight price rows height y = record { cost = there.cost; asked = there.asked; drop = there.drop } in
      let before = first.0 y (known y there.is_in) (subst (λ t. SameFace t c y) is other.walk.0) tight in
      by_order (split_order (dart_cmp x y) before) here there
      (λ ys' m walk paid same_cost. compare_walks positive xs ys' (twins x here.is_in)
      (record { to = mine.to; walk = mine.walk.1; cost = subst (Costs price rows xs) (sym same_cost) cost.3; down = mine.down })
      (record { to = other.to; walk = walk; cost = paid; down = other.down }) (here.later ∙ sym same_cost) known is first.1) where
        by_order : (dart_cmp x y ≡ Less) ⊎ (dart_cmp x y ≡ Equal) → Descends c x xs mine.cost.1 → Descends c y ys other.cost.1
            → ((ys' : List Dart) (m : ℕ) → Crosses s (dart_twin x) ys' other.to → Costs price rows ys' m → m ≡ mine.cost.1
            → (slice_cmp dart_cmp xs ys' ≡ Less) ⊎ (xs ≡ ys'))
            → (slice_cmp dart_cmp (x ∷ xs) (y ∷ ys) ≡ Less) ⊎ ((x ∷ xs) ≡ (y ∷ ys))
        by_order (inl less) here there rest = inl (ap (λ o. ordering_then o (slice_cmp dart_cmp xs ys)) less)
        by_order (inr equal) here there rest =
            let one_dart : x ≡ y = dart_cmp_equal x y equal in
            let one_cost : other.cost.1 ≡ mine.cost.1 = sym there.later ∙ ap (λ z. height (dart_twin z)) (sym one_dart) ∙ here.later in
            elim (rest ys other.cost.1 (subst (λ z. Crosses s (dart_twin z) ys other.to) (sym one_dart) other.walk.1) other.cost.3 one_cost) [
              | inl less ↦ inl (ap (λ o. ordering_then o (slice_cmp dart_cmp xs ys)) equal ∙ less)
              | inr lists ↦ inr (ap (λ z. z ∷ xs) one_dart ∙ ap (λ zs. y ∷ zs) lists)
            ]

-- the walk ends in the face where it arrives
arrives : (s : System) (xs : List Dart) (c d : Dart) → Crosses s c xs d → SameFace s (arrival c xs) d
arrives s [] c d walk = walk
arrives s (x ∷ xs) c d walk = arrives s xs (dart_twin x) d walk.1

pub same_some : {X : Type 0} (o : Option X) (x y : X) → o ≡ Some x → o ≡ Some y → x ≡ y
same_some o x y here there = cc

-- ---- Routes

-- A certificate on the darts of a picture whose faces stay among its darts, and the corners of u too.
pub record Certified (price : Pricing) (rows : Rows) (u v : ℕ) (height : Dart → ℕ) : Type 0 where
  pub closed : (d : Dart) → has_dart (darts rows) d ≡ true → has_dart (darts rows) (face_step (system rows) d) ≡ true
  pub twins : (d : Dart) → has_dart (darts rows) d ≡ true → has_dart (darts rows) (dart_twin d) ≡ true
  pub corners : (p : ℕ) (c : Dart) → corner rows u p ≡ Some c → has_dart (darts rows) c ≡ true
  pub certificate : IsCertificate price rows v height

module _ (price : Pricing) (rows : Rows) (u v : ℕ) (height : Dart → ℕ) (known : Certified price rows u v height) where
  walk_bound : (r : Route) (n : ℕ) → (route : IsRoute rows u v r) → Costs price rows r.crossed n → height route.from ≤ n
  walk_bound r n route cost =
      height_bounds price rows (system rows) (darts rows) height known.closed known.twins known.certificate.even known.certificate.gentle
      r.crossed route.from route.to n (known.corners r.start route.from route.starts) route.walk cost (known.certificate.target r.end route.to route.ends)

  -- no route costs less than the height of the corner where it starts
  pub route_bound : (r : Route) (n : ℕ) (c : Dart) → IsPricedRoute price rows u v r n → corner rows u r.start ≡ Some c → height c ≤ n
  route_bound r n c priced starts = grind (arith, walk_bound, same_some)

  module _ (positive : (d : Dart) (p : ℕ) → Price price rows d p → 1 ≤ p) (r : Route) (n : ℕ) (by_heights : IsFirstByHeights price rows u v height r n) where
    -- a route of cost n starts at height n
    start_height : (other : Route) → (priced : IsPricedRoute price rows u v other n) → height priced.route.from ≡ n
    start_height other priced = grind (arith, walk_bound)

    not_earlier : (other : Route) → IsPricedRoute price rows u v other n → r.start ≤ other.start
    not_earlier other priced =
        not_below r.start other.start (λ before. by_heights.first_start other.start priced.route.from before priced.route.starts (start_height other priced))

    abbrev mine : IsRoute rows u v r
    mine = by_heights.priced.route

    -- from one start corner: the crossed darts decide, and then the end
    from_one_start : (other : Route) → IsPricedRoute price rows u v other n → r.start ≡ other.start → route_cmp r other ≢ Greater
    from_one_start other priced starts = by_walks walks where
      one_from : priced.route.from ≡ mine.from
      one_from = same_some (corner rows u other.start) priced.route.from mine.from priced.route.starts (ap (corner rows u) (sym starts) ∙ mine.starts)

      other_walk : Crosses (system rows) mine.from other.crossed priced.route.to
      other_walk = subst (λ c. Crosses (system rows) c other.crossed priced.route.to) one_from priced.route.walk

      walks : (slice_cmp dart_cmp r.crossed other.crossed ≡ Less) ⊎ (r.crossed ≡ other.crossed)
      walks = compare_walks price rows (system rows) (darts rows) height known.closed known.twins known.certificate.even known.certificate.gentle positive
          r.crossed other.crossed (known.corners r.start mine.from mine.starts)
          (record { to = mine.to; walk = mine.walk; cost = by_heights.priced.cost; down = known.certificate.target r.end mine.to mine.ends })
          (record { to = priced.route.to; walk = other_walk; cost = priced.cost; down = known.certificate.target other.end priced.route.to priced.route.ends })
          (start_height r by_heights.priced) (λ x h. h) refl by_heights.first_darts

      equal_starts : nat_cmp r.start other.start ≡ Equal
      equal_starts = subst (λ p. nat_cmp r.start p ≡ Equal) starts (nat_cmp_self r.start)

      ends_first : r.crossed ≡ other.crossed → r.end ≤ other.end
      ends_first lists = not_below r.end other.end (λ before. by_heights.first_end other.end priced.route.to before priced.route.ends
          (subst (λ xs. SameFace (system rows) (arrival mine.from xs) priced.route.to) (sym lists)
          (arrives (system rows) other.crossed mine.from priced.route.to other_walk)))

      by_walks : (slice_cmp dart_cmp r.crossed other.crossed ≡ Less) ⊎ (r.crossed ≡ other.crossed) → route_cmp r other ≢ Greater
      by_walks (inl less) e = grind (arith, equal_starts)
      by_walks (inr lists) e = grind (arith, same_lists, equal_starts, not_above, ends_first)

    -- a route that is first by its heights is first
    pub first_by_heights : IsFirst price rows u v r n
    first_by_heights = record {
      is_least = record {
        priced = by_heights.priced;
        least = λ other m priced.
            let below = by_heights.least_height other.start priced.route.from priced.route.starts in
            let above = walk_bound other m priced.route priced.cost in
            omega arith;
      };
      first = λ other priced. elim (cases_eq r.start other.start) [
        | inl starts ↦ from_one_start other priced starts
        | inr apart ↦ let at_most = not_earlier other priced in
            start_before r.start other.start (ordering_then (slice_cmp dart_cmp r.crossed other.crossed) (nat_cmp r.end other.end)) (omega arith)
      ];
    }

-- ---- Costs

-- a walk of prices at least 1 costs at least the number of darts that it crosses
pub length-le-cost : (price : Pricing) (rows : Rows) → ((d : Dart) (p : ℕ) → Price price rows d p → 1 ≤ p) → (ds : List Dart) (n : ℕ)
    → Costs price rows ds n → length ds ≤ n
length-le-cost price rows positive [] n cost = omega arith
length-le-cost price rows positive (d ∷ ds) n cost =
    let one = positive d cost.0 cost.2 in
    let rest = length-le-cost price rows positive ds cost.1 cost.3 in
    grind (arith, cost)

-- where an edge has one price, a walk has one cost
pub one_cost : (price : Pricing) (rows : Rows) → ((d : Dart) (p q : ℕ) → Price price rows d p → Price price rows d q → p ≡ q) → (ds : List Dart) (m n : ℕ)
    → Costs price rows ds m → Costs price rows ds n → m ≡ n
one_cost price rows same [] m n a b = a ∙ sym b
one_cost price rows same (d ∷ ds) m n a b =
    let first = same d a.0 b.0 a.2 b.2 in
    let rest = one_cost price rows same ds a.1 b.1 a.3 b.3 in
    cc

-- ---- Facts

abbrev facts : (id a b kind : ℕ) → id < 2 ^ 32 → a < 2 ^ 32 → b < 2 ^ 32 → kind < KINDS → Facts
facts id a b kind id_in a_in b_in kind_in =
    record { id = id; a = a; b = b; kind = kind; id_in_range = id_in; a_in_range = a_in; b_in_range = b_in; known_kind = kind_in }

-- facts are told apart by their four numbers alone
module _ (a b kind : ℕ) (a_in : a < 2 ^ 32) (b_in : b < 2 ^ 32) (kind_in : kind < KINDS) where
  facts_by_id : (m n : ℕ) → m ≡ n → (p : m < 2 ^ 32) (q : n < 2 ^ 32)
      → facts m a b kind p a_in b_in kind_in ≡ facts n a b kind q a_in b_in kind_in
  facts_by_id m n e = let P : ℕ → Type 0 = λ n. (p : m < 2 ^ 32) (q : n < 2 ^ 32)
      → facts m a b kind p a_in b_in kind_in ≡ facts n a b kind q a_in b_in kind_in in
      subst P e (λ p q. ap (λ (x : m < 2 ^ 32). facts m a b kind x a_in b_in kind_in) (le_prop p q))

module _ (id b kind : ℕ) (id_in : id < 2 ^ 32) (b_in : b < 2 ^ 32) (kind_in : kind < KINDS) where
  facts_by_a : (m n : ℕ) → m ≡ n → (p : m < 2 ^ 32) (q : n < 2 ^ 32)
      → facts id m b kind id_in p b_in kind_in ≡ facts id n b kind id_in q b_in kind_in
  facts_by_a m n e = let P : ℕ → Type 0 = λ n. (p : m < 2 ^ 32) (q : n < 2 ^ 32)
      → facts id m b kind id_in p b_in kind_in ≡ facts id n b kind id_in q b_in kind_in in
      subst P e (λ p q. ap (λ (x : m < 2 ^ 32). facts id m b kind id_in x b_in kind_in) (le_prop p q))

module _ (id a kind : ℕ) (id_in : id < 2 ^ 32) (a_in : a < 2 ^ 32) (kind_in : kind < KINDS) where
  facts_by_b : (m n : ℕ) → m ≡ n → (p : m < 2 ^ 32) (q : n < 2 ^ 32)
      → facts id a m kind id_in a_in p kind_in ≡ facts id a n kind id_in a_in q kind_in
  facts_by_b m n e = let P : ℕ → Type 0 = λ n. (p : m < 2 ^ 32) (q : n < 2 ^ 32)
      → facts id a m kind id_in a_in p kind_in ≡ facts id a n kind id_in a_in q kind_in in
      subst P e (λ p q. ap (λ (x : m < 2 ^ 32). facts id a m kind id_in a_in x kind_in) (le_prop p q))

module _ (id a b : ℕ) (id_in : id < 2 ^ 32) (a_in : a < 2 ^ 32) (b_in : b < 2 ^ 32) where
  facts_by_kind : (m n : ℕ) → m ≡ n → (p : m < KINDS) (q : n < KINDS)
      → facts id a b m id_in a_in b_in p ≡ facts id a b n id_in a_in b_in q
  facts_by_kind m n e = let P : ℕ → Type 0 = λ n. (p : m < KINDS) (q : n < KINDS) → facts id a b m id_in a_in b_in p ≡ facts id a b n id_in a_in b_in q in
      subst P e (λ p q. ap (λ (x : m < KINDS). facts id a b m id_in a_in b_in x) (le_prop p q))

-- facts of one row are the same
pub one_facts : (row : EdgeRow) (f g : Facts) → AreFactsOf row f → AreFactsOf row g → f ≡ g
one_facts row f g is_f is_g =
    facts_by_id f.a f.b f.kind f.a_in_range f.b_in_range f.known_kind f.id g.id (is_f.id ∙ sym is_g.id) f.id_in_range g.id_in_range
    ∙ facts_by_a g.id f.b f.kind g.id_in_range f.b_in_range f.known_kind f.a g.a (is_f.a ∙ sym is_g.a) f.a_in_range g.a_in_range
    ∙ facts_by_b g.id g.a f.kind g.id_in_range g.a_in_range f.known_kind f.b g.b (is_f.b ∙ sym is_g.b) f.b_in_range g.b_in_range
    ∙ facts_by_kind g.id g.a g.b g.id_in_range g.a_in_range g.b_in_range f.kind g.kind (is_f.kind ∙ sym is_g.kind) f.known_kind g.known_kind

-- so the price of an edge is one
pub single_price : (price : Pricing) (rows : Rows) → KeepsPromise price → (d : Dart) (p q : ℕ) → Price price rows d p → Price price rows d q → p ≡ q
single_price price rows promise d p q a b =
    promise.single a.facts p q a.asked (subst (λ f. price f q) (one_facts (edge_at rows d.edge) b.facts a.facts b.known a.known) b.asked)
