-- The last entries spare what a search has seen, and then its route is the first on the picture of now.
use Rattle.std.proofs.Common.{◌≡◌, ◌≢◌, ℕ, ◌+◌, ◌-◌, ◌≤◌, Bool, true, false, List, [], ◌∷◌, ◌++◌, length}
use Rattle.std.proofs.Common.{take, refl, sym, subst, ap, arith, append_assoc, length-append, ◌∙◌}
use Rattle.std.specs.Prelude.{All, if◌then◌else◌, not, slice_index_or}
use Rattle.std.proofs.Math.Seq.{take-length}
use Rattle.std.specs.List.{list_all}
use Rattle.std.proofs.lemmas.List.Sums.{AllPass-from_list_all}
use Rattle.std.proofs.lemmas.List.{append-nil, take_more}
use Rattle.std.proofs.lemmas.List.Elements.{All-head, All-nil, All-push, All-tail, All-weaker, filter-append}
use Rattle.topo_core.specs.declared.calls.Entry.{Entry}
use Rattle.topo_core.specs.declared.darts.Dart.{Dart}
use Rattle.topo_core.specs.declared.limits.Limits.{Limits}
use Rattle.topo_core.specs.declared.routes.Route.{Route}
use Rattle.topo_core.specs.declared.rows.Rows.{Rows}
use Rattle.topo_core.specs.History.{IsPrefix, IsVersion, Replays, is_accepted, versions}
use Rattle.topo_core.specs.Lawful.{Lawful}
use Rattle.topo_core.specs.Routes.{IsFirst, Pricing}
use Rattle.topo_core.proofs.Interface.{versions_replay}
use Rattle.topo_rows.specs.Shown.{IsPicture}
use Rattle.topo_route.specs.Regions.{AllSpare, IsFirstWhileKept, IsKept, IsRegionOf, RegionState, Spares, holds_edge}
use Rattle.topo_route.proofs.Interface.{spared}
use Rattle.topo_book.specs.Books.{ReplaysLawfully}
use Rattle.topo_book.specs.Sparing.{HaveSpared}
use Rattle.topo_book.proofs.Histories.{last_lawful, replays}
use Rattle.topo_book.proofs.ReplicaLaws.{one_replay}

-- ---- Entries one by one, from the last

-- the last one apart
pub last_apart : (entries : List Entry) (entry : Entry) → 1 ≤ length entries → entry ≡ slice_index_or entries (length entries - 1) entry
    → entries ≡ take (length entries - 1) entries ++ entry ∷ []
last_apart entries entry some last = ends (length entries - 1) (omega (arith, some)) last where
  ends : (i : ℕ) → length entries ≡ i + 1 → entry ≡ slice_index_or entries i entry → entries ≡ take i entries ++ entry ∷ []
  ends i is at = sym (take-length entries) ∙ ap (λ n. take n entries) is ∙ take_more entries i entry (omega (arith, is))
      ∙ ap (λ e. take i entries ++ e ∷ []) (sym at)

-- darts that all pass the test lie on no edge of the region
pub crosses_none : (region : RegionState) (crossed : List Dart) → list_all (λ d. not (holds_edge region d.edge)) crossed ≡ true
    → All (λ d. holds_edge region d.edge ≡ false) crossed
crosses_none region crossed passed = All-weaker (λ (d : Dart). not (holds_edge region d.edge) ≡ true) (λ (d : Dart). holds_edge region d.edge ≡ false)
    (λ d. off (holds_edge region d.edge)) crossed
    (AllPass-from_list_all (λ (d : Dart). not (holds_edge region d.edge)) crossed passed) where
      off : (b : Bool) → not b ≡ true → b ≡ false
      off true is = cc
      off false is = refl

module _ (before : Rows) (region : RegionState) where
  abbrev pub spare : Entry → Type 0
  spare entry = Spares before region entry.call entry.reply

  -- none of them
  pub none_spared : (entries : List Entry) → HaveSpared before region entries 0
  none_spared entries = record { older = entries; recent = []; parts = sym (append-nil entries); count = refl; spare = All-nil spare }

  -- one more at the end
  pub last_spared : (entries older : List Entry) (entry : Entry) (left : ℕ) → entries ≡ older ++ entry ∷ [] → spare entry → HaveSpared before region older left
      → HaveSpared before region entries (if is_accepted entry.reply then left + 1 else left)
  last_spared entries older entry left is one others = record {
    older = others.older;
    recent = others.recent ++ entry ∷ [];
    parts = is ∙ ap (λ es. es ++ entry ∷ []) others.parts ∙ append_assoc others.older others.recent (entry ∷ []);
    count = counted (is_accepted entry.reply) refl;
    spare = All-push spare others.recent entry others.spare one;
  } where
    more : versions (others.recent ++ entry ∷ []) ≡ versions others.recent ++ versions (entry ∷ [])
    more = filter-append (λ (x : Entry). is_accepted x.reply) others.recent (entry ∷ [])

    counted : (b : Bool) → is_accepted entry.reply ≡ b → length (versions (others.recent ++ entry ∷ [])) ≡ (if is_accepted entry.reply then left + 1 else left)
    counted true on = rw (more, on) (omega (arith, length-append (versions others.recent) (entry ∷ []), others.count))
    counted false off = rw (more, off) (omega (arith, length-append (versions others.recent) [], others.count))

  -- the last entry, of which so many more are accepted
  pub ended_spared : (entries : List Entry) (entry : Entry) (accepted : ℕ) {left : ℕ} {b : Bool} → 1 ≤ length entries
      → entry ≡ slice_index_or entries (length entries - 1) entry → accepted ≢ 0
      → b ≡ is_accepted entry.reply → left ≡ (if b then accepted - 1 else accepted) → spare entry
      → HaveSpared before region (take (length entries - 1) entries) left
      → HaveSpared before region entries accepted
  ended_spared entries entry accepted {left} {b} some last more kind less one others =
      subst (HaveSpared before region entries) (counts b kind less) (last_spared entries (take (length entries - 1) entries) entry left (last_apart entries entry some last) one others) where
        counts : (b : Bool) → b ≡ is_accepted entry.reply → left ≡ (if b then accepted - 1 else accepted)
            → (if is_accepted entry.reply then left + 1 else left) ≡ accepted
        counts true kind less = rw (← kind) (omega (arith, less, more))
        counts false kind less = rw (← kind) less

-- ---- What has been kept

module _ (price : Pricing) (limits : Limits) where
  -- a lawful replay in two parts
  pub parted : (older recent : List Entry) (p q : Rows) → ReplaysLawfully price limits p (older ++ recent) q
      → (middle : Rows) × ReplaysLawfully price limits p older middle × ReplaysLawfully price limits middle recent q
  parted [] recent p q way = (p, (refl, first_lawful recent p q way), way) where
    first_lawful : (entries : List Entry) (p q : Rows) → ReplaysLawfully price limits p entries q → IsPicture limits p
    first_lawful [] p q way = way.1
    first_lawful (entry ∷ entries) p q way = way.1
  parted (entry ∷ older) recent p q way =
      let rest = parted older recent way.0 q way.3 in
      (rest.0, (way.0, way.1, way.2, rest.1), rest.2)

  -- entries that spare the region keep it
  kept : (before : Rows) (region : RegionState) → Lawful before → IsRegionOf before region → (entries : List Entry) (p q : Rows) → IsKept before p region
      → AllSpare before region entries
      → ReplaysLawfully price limits p entries q → IsKept before q region
  kept before region lawful is [] p q so_far all way = subst (λ (r : Rows). IsKept before r region) (sym way.0) so_far
  kept before region lawful is (entry ∷ entries) p q so_far all way =
      let next : IsKept before way.0 region = spared price limits entry.call entry.reply lawful way.1.lawful is so_far way.2
      (All-head (spare before region) entry entries all) in
      kept before region lawful is entries way.0 q next (All-tail (spare before region) entry entries all) way.3

-- as many items at the front are the same ones
pub front : (xs ys more rest : List Entry) → xs ++ more ≡ ys ++ rest → length more ≡ length rest → xs ≡ ys
front [] [] more rest same long = refl
front [] (y ∷ ys) more rest same long = absurd (omega (arith, ap length same, length-append ys rest, long))
front (x ∷ xs) [] more rest same long = absurd (omega (arith, ap length same, length-append xs more, long))
front (x ∷ xs) (y ∷ ys) more rest same long =
    let first : x ≡ y = cc in
    let others : xs ++ more ≡ ys ++ rest = cc in
    cc_cons first (front xs ys more rest others long) where
      cc_cons : x ≡ y → xs ≡ ys → x ∷ xs ≡ y ∷ ys
      cc_cons p q = rw (p, q) refl

-- A route that was the first while the region is kept, found after the first accepted entries, is the first on the picture of
-- now, where the entries since have spared the region.
pub outlives : (price : Pricing) (limits : Limits) (start before now : Rows) (history entries : List Entry) (region : RegionState) (u v : ℕ) (r : Route)
    (p accepted : ℕ)
    → ReplaysLawfully price limits start history now → IsVersion price limits start entries before → IsPrefix entries (versions history)
    → length (versions history) ≡ length entries + accepted → HaveSpared before region history accepted → Lawful before → IsRegionOf before region
    → IsFirstWhileKept price before u v region r p → IsFirst price now u v r p
outlives price limits start before now history entries region u v r p accepted way was begins count since lawful is first =
    first now (last_lawful price limits history start now way).lawful is_kept where
      split : versions history ≡ versions since.older ++ versions since.recent
      split = ap versions since.parts ∙ filter-append (λ (x : Entry). is_accepted x.reply) since.older since.recent

      same : entries ≡ versions since.older
      same = front entries (versions since.older) begins.0 (versions since.recent) (sym begins.1 ∙ split)
          (omega (arith, count, since.count, ap length begins.1, length-append entries begins.0))

      two : (middle : Rows) × ReplaysLawfully price limits start since.older middle × ReplaysLawfully price limits middle since.recent now
      two = parted price limits since.older since.recent start now (subst (λ es. ReplaysLawfully price limits start es now) since.parts way)

      middle_is : two.0 ≡ before
      middle_is = one_replay price limits entries start two.0 before
          (subst (λ es. Replays price limits start es two.0) (sym same)
          (versions_replay price limits since.older start two.0 (replays price limits since.older start two.0 two.1))) was.replayed

      is_kept : IsKept before now region
      is_kept = kept price limits before region lawful is since.recent before now itself since.spare
          (subst (λ (m : Rows). ReplaysLawfully price limits m since.recent now) middle_is two.2) where
            itself : IsKept before before region
            itself = record { edges = λ e held. refl; crossings = λ e x held there. refl; rotations = λ w held. refl }
