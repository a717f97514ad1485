-- Slabs that are built from a list of turns.
use Rattle.std.proofs.Common.{◌≡◌, ◌≢◌, ℕ, zero, suc, ◌+◌, ◌/◌, ◌%◌, ◌<◌, Bool, true, false, inl, inr, refl, sym, ◌∙◌}
use Rattle.std.proofs.Common.{ap, subst, arith, List, [], ◌∷◌, ◌++◌, length, Option, None, is_some, slice_index_or}
use Rattle.std.proofs.lemmas.Bool.{cases_Bool, cases_eq}
use Rattle.slab.specs.Slab.{Slab}
use Rattle.topo_core.specs.Cycles.{map_of, IsPermutation}
use Rattle.topo_core.specs.Rotations.{twin, face_next}
use Rattle.topo_perm.specs.Renumbering.{RenumbersTurn}
use Rattle.topo_perm.specs.Live.{IsSlab, live_segments}
use Rattle.topo_perm.proofs.Interface.{HasBefore, before_of, renumbered_connected, renumbered_cycles, renumbered_faces, segments_grow}
use Rattle.topo_map.specs.Rotation.{half_limit, IsMadeFrom, IsWhole}
use Rattle.topo_map.specs.Segments.{written, holds, next_in, before_in, nexts, befores, view_of, IsKept, Rewires, IsInserted}
use Rattle.topo_map.specs.Building.{IsListed, AreAlone, AreJoinedBelow, IsJoined}
use Rattle.topo_map.specs.declared.segments.Segment.{Segment}
use Rattle.topo_map.proofs.Maps.{written-at, written-else}
use Rattle.topo_map.proofs.Slots.{live_at}
use Rattle.topo_map.proofs.Kept.{free_turn}
use Rattle.topo_map.proofs.Stored.{true_false}
use Rattle.topo_map.proofs.Listing.{listed_more, listed_none}
use Rattle.topo_map.proofs.Steps.{whole, same_twin}

-- ---- Segments by themselves

none-live : (s : Slab Segment) → s.slots ≡ [] → (a : ℕ) → holds s a ≡ false
none-live s e a = live_at nexts s a ∙ ap (λ (l : List (Option Segment)). is_some (slice_index_or l (a / 2) None)) e

pub none_held : (s : Slab Segment) → s.slots ≡ [] → (a : ℕ) → holds s a ≡ true → ⊥
none_held s e a h = true_false (sym h ∙ none-live s e a)

pub empty_alone : (s : Slab Segment) → s.slots ≡ [] → AreAlone s []
empty_alone s e = record {
  kept = record {
    inverse = record {
      back = λ a. ap (before_in s) (free_turn nexts s a (none-live s e a)) ∙ free_turn befores s a (none-live s e a);
      onward = λ a. ap (next_in s) (free_turn befores s a (none-live s e a)) ∙ free_turn nexts s a (none-live s e a);
    };
    within = λ a h. absurd (true_false (sym h ∙ none-live s e a));
  };
  listed = listed_none (holds s) (none-live s e);
}

-- what is not live fixed, all numbers turn to themselves
still : (s : Slab Segment) → IsKept s → IsSlab (holds s) (λ a. a) half_limit
still s k = record {
  permutation = record { within = λ a l. l; apart = λ a b la lb e. e };
  even = (whole s k).slab.even;
  twins = λ a l. same_twin s a;
  free = λ a l e. refl;
}

one_more : (s s' : Slab Segment) (x : ℕ) → IsKept s → IsInserted s s' x → live_segments (holds s') half_limit ≡ live_segments (holds s) half_limit + 1
one_more s s' x k i =
    segments_grow (holds s) (holds s') (λ a. a) (λ a. a) half_limit x (record { before = still s k; after = still s' i.kept; within = i.within; adds = i.live })

pub alone_more : (s s' : Slab Segment) (hs new : List ℕ) (x y : ℕ) → AreAlone s hs → IsInserted s s' x → y ≡ twin x → new ≡ (hs ++ x ∷ []) ++ y ∷ []
    → AreAlone s' new
alone_more s s' hs new x y k i ey en = record {
  kept = i.kept;
  listed = listed_more new y (one_more s s' x k.kept i) k.kept.within i.kept.within k.listed i.live ey en;
}

-- ---- Turns

half-apart : (live : ℕ → Bool) (hs : List ℕ) (a b : ℕ) → IsListed live hs → a < length hs → b < length hs → a ≢ b → map_of hs a ≢ map_of hs b
half-apart live hs a b k la lb ne e = ne (sym (k.returns a la) ∙ ap k.place e ∙ k.returns b lb)

pub joined_more : {s s' : Slab Segment} {hs ts : List ℕ} {k : ℕ} (from to : ℕ) → IsPermutation (map_of ts) (length ts) → length hs ≡ length ts → k < length ts
    → from ≡ map_of hs k → to ≡ map_of hs (map_of ts k) → AreJoinedBelow s hs ts k → Rewires s s' (written (next_in s) from to) (written (before_in s) to from)
    → AreJoinedBelow s' hs ts (k + 1)
joined_more {s} {hs} {ts} {k} from to p el lk ef et j r =
    let small : (a : ℕ) → a < length ts → a < length hs = λ a l. subst (λ (n : ℕ). a < n) (sym el) l in
    record {
      listed = subst (λ (l : ℕ → Bool). IsListed l hs) (sym r.live) j.listed;
      within = λ a h. j.within a (ap (λ (l : ℕ → Bool). l a) (sym r.live) ∙ h);
      next = λ a l. ap (λ (f : ℕ → ℕ). f (map_of hs a)) r.next ∙ elim (cases_eq a k) [
        | inl e ↦ written-at (next_in s) from to (map_of hs a) (ap (map_of hs) e ∙ sym ef) ∙ et ∙ sym (ap (λ (n : ℕ). map_of hs (map_of ts n)) e)
        | inr ne ↦
            let la : a < k = omega arith in
            let lt : a < length ts = omega arith in
            written-else (next_in s) from to (map_of hs a) (λ w. half-apart (holds s) hs a k j.listed (small a lt) (small k lk) ne (w ∙ ef)) ∙ j.next a la
      ];
      before = λ a l. ap (λ (f : ℕ → ℕ). f (map_of hs (map_of ts a))) r.before ∙ elim (cases_eq a k) [
        | inl e ↦ written-at (before_in s) to from (map_of hs (map_of ts a)) (ap (λ (n : ℕ). map_of hs (map_of ts n)) e ∙ sym et) ∙ ef ∙ sym (ap (map_of hs) e)
        | inr ne ↦
            let la : a < k = omega arith in
            let lt : a < length ts = omega arith in
            written-else (before_in s) to from (map_of hs (map_of ts a))
            (λ w. half-apart (holds s) hs (map_of ts a) (map_of ts k) j.listed (small (map_of ts a) (p.within a lt)) (small (map_of ts k) (p.within k lk))
            (λ v. ne (p.apart a k lt lk v)) (w ∙ et)) ∙ j.before a la
      ];
    }

joined_back : (s : Slab Segment) (hs ts : List ℕ) → IsPermutation (map_of ts) (length ts) → length hs ≡ length ts → AreJoinedBelow s hs ts (length ts) → (y : ℕ)
    → before_in s (next_in s y) ≡ y
joined_back s hs ts p el j y = elim (cases_Bool (holds s y)) [
  | inr f ↦ ap (before_in s) (free_turn nexts s y f) ∙ free_turn befores s y f
  | inl t ↦
      let a : ℕ = j.listed.place y in
      let la : a < length ts = subst (λ (n : ℕ). a < n) el (j.listed.place_within y t) in
      let e : map_of hs a ≡ y = j.listed.place_returns y t in
      ap (λ (v : ℕ). before_in s (next_in s v)) (sym e) ∙ ap (before_in s) (j.next a la) ∙ j.before a la ∙ e
]

joined_onward : (s : Slab Segment) (hs ts : List ℕ) → IsPermutation (map_of ts) (length ts) → length hs ≡ length ts → AreJoinedBelow s hs ts (length ts)
    → (y : ℕ) → next_in s (before_in s y) ≡ y
joined_onward s hs ts p el j y = elim (cases_Bool (holds s y)) [
  | inr f ↦ ap (next_in s) (free_turn befores s y f) ∙ free_turn nexts s y f
  | inl t ↦
      let b : ℕ = j.listed.place y in
      let lb : b < length ts = subst (λ (n : ℕ). b < n) el (j.listed.place_within y t) in
      let q : HasBefore (map_of ts) (length ts) b = before_of (map_of ts) (length ts) b p lb in
      let e : map_of hs (map_of ts q.place) ≡ y = ap (map_of hs) q.leads ∙ j.listed.place_returns y t in
      ap (λ (v : ℕ). next_in s (before_in s v)) (sym e) ∙ ap (next_in s) (j.before q.place q.within) ∙ j.next q.place q.within ∙ e
]

pub joined_all : (s : Slab Segment) (hs ts : List ℕ) (k : ℕ) → IsPermutation (map_of ts) (length ts) → length hs ≡ length ts → k ≡ length ts
    → AreJoinedBelow s hs ts k → IsJoined s hs ts
joined_all s hs ts k p el ek j =
    let w : AreJoinedBelow s hs ts (length ts) = subst (λ (n : ℕ). AreJoinedBelow s hs ts n) ek j in
    record {
      kept = record {
        inverse = record { back = joined_back s hs ts p el w; onward = joined_onward s hs ts p el w };
        within = w.within;
      };
      listed = w.listed;
      next = w.next;
    }

renumbered : (s : Slab Segment) (hs ts : List ℕ) → IsPermutation (map_of ts) (length ts) → length hs ≡ length ts → (j : IsJoined s hs ts)
    → RenumbersTurn (map_of hs) j.listed.place (map_of ts) (next_in s) (length ts) (holds s) half_limit
renumbered s hs ts p el j =
    let small : (a : ℕ) → a < length ts → a < length hs = λ a l. subst (λ (n : ℕ). a < n) (sym el) l in
    let w : IsWhole (holds s) (next_in s) = whole s j.kept in
    record {
      turn = grind arith;
      even = subst (λ (n : ℕ). n % 2 ≡ 0) el j.listed.even;
      after_even = w.slab.even;
      twins = record { each = λ a l. j.listed.twins a (small a l) };
    }

-- what is built shows the list
pub made_from : (s : Slab Segment) (hs ts : List ℕ) → IsPermutation (map_of ts) (length ts) → length hs ≡ length ts → IsJoined s hs ts
    → IsMadeFrom ts hs (view_of s)
made_from s hs ts p el j =
    let h : ℕ → ℕ = map_of hs in
    let b : ℕ → ℕ = j.listed.place in
    let f : ℕ → ℕ = map_of ts in
    let g : ℕ → ℕ = next_in s in
    let n : ℕ = length ts in
    let r : RenumbersTurn h b f g n (holds s) half_limit = renumbered s hs ts p el j in
    record {
      same_length = el;
      place_of = b;
      renumbers = r;
      points_all = sym (renumbered_cycles h b f g n (holds s) half_limit r.turn);
      segments_all = j.listed.counted ∙ el;
      faces_all = sym (renumbered_cycles h b (face_next f) (face_next g) n (holds s) half_limit (renumbered_faces h b f g n (holds s) half_limit r));
      embedding = whole s j.kept;
      connected = λ all. (renumbered_connected h b f g n (holds s) half_limit r).0 (λ a d la ld t u. all a d la ld);
    }

-- ---- One segment

two_places : (a : ℕ) → a < 2 → map_of (0 ∷ 1 ∷ []) a ≡ a
two_places zero l = refl
two_places (suc zero) l = refl
two_places (suc (suc a)) l = absurd (let w : ⊥ = omega arith in w)

pub seed_made : (s s' : Slab Segment) (x : ℕ) → s.slots ≡ [] → IsInserted s s' x → IsMadeFrom (0 ∷ 1 ∷ []) (x ∷ twin x ∷ []) (view_of s')
seed_made s s' x e i =
    let hs : List ℕ = x ∷ twin x ∷ [] in
    let ts : List ℕ = 0 ∷ 1 ∷ [] in
    let k : AreAlone s' hs = alone_more s s' [] hs x (twin x) (empty_alone s e) i refl refl in
    let p : IsPermutation (map_of ts) 2 = grind (arith, two_places) in
    made_from s' hs ts p refl (record {
      kept = k.kept;
      listed = k.listed;
      next = λ a l. ap (λ (f : ℕ → ℕ). f (map_of hs a)) i.next ∙ free_turn nexts s (map_of hs a) (none-live s e (map_of hs a))
          ∙ ap (map_of hs) (sym (two_places a l));
    })
