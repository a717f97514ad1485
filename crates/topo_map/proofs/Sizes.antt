-- How many segments a slab holds, and for how many more it has place.
use Rattle.std.proofs.Common.{◌≡◌, ℕ, zero, suc, ◌+◌, ◌-◌, ◌*◌, ◌/◌, ◌<◌, ◌≤◌, Bool, cond, inl, inr, refl, sym, ◌∙◌, ap, subst}
use Rattle.std.proofs.Common.{arith, add-one, List, Option, None, is_some, length, nat_le, min, take, count_by, slice_index_or}
use Rattle.std.proofs.Math.ListN.{get_or-eq_default}
use Rattle.std.proofs.lemmas.List.{take_all}
use Rattle.std.proofs.lemmas.Bool.{cases_Bool, cases_lt, cond-true, cond-false, leb-true}
use Rattle.std.proofs.lemmas.List.Sums.{count_by-le-length, count_by_more_no, count_by_more_yes}
use Rattle.slab.specs.Slab.{Slab, slab_len}
use Rattle.topo_core.specs.Cycles.{count_below}
use Rattle.topo_core.proofs.Interface.{count_below-same}
use Rattle.topo_perm.specs.Live.{live_segments}
use Rattle.topo_perm.proofs.Interface.{count_below_more}
use Rattle.topo_map.specs.Rotation.{half_limit}
use Rattle.topo_map.specs.Segments.{holds, nexts, limit_of, room_of}
use Rattle.topo_map.specs.declared.segments.Segment.{Segment}
use Rattle.topo_map.proofs.Slots.{live_at}
use Rattle.topo_map.proofs.Stored.{limit-is}

slot_is : List (Option Segment) → ℕ → Bool
slot_is slots i = is_some (slice_index_or slots i None)

-- one slot more
taken_more : (slots : List (Option Segment)) (k : ℕ) → count_by is_some (take k slots) ≡ count_below (slot_is slots) k
    → count_by is_some (take (k + 1) slots) ≡ count_below (slot_is slots) (k + 1)
unfolding slot_is
taken_more slots k before = elim (cases_lt k (length slots)) [
  | inl l ↦ grind (arith, count_by_more_yes, count_by_more_no, count_below_more, cases_Bool)
  | inr l ↦ grind (arith, take_all, get_or-eq_default, count_below_more)
]

-- the first k slots
taken : (slots : List (Option Segment)) (k : ℕ) → count_by is_some (take k slots) ≡ count_below (slot_is slots) k
taken slots zero = refl
taken slots (suc k) = subst (λ (m : ℕ). count_by is_some (take m slots) ≡ count_below (slot_is slots) m) (add-one k) (taken_more slots k (taken slots k))

counted : (s : Slab Segment) → length s.slots ≤ half_limit / 2 → slab_len s ≡ live_segments (holds s) half_limit
unfolding slot_is
counted s few =
    let n : ℕ = half_limit / 2 in
    let at : (a : ℕ) → holds s (2 * a) ≡ slot_is s.slots a = λ a. live_at nexts s (2 * a) ∙ ap (slot_is s.slots) (let e : 2 * a / 2 ≡ a = omega arith in e) in
    ap (count_by is_some) (sym (take_all n s.slots few)) ∙ taken s.slots n ∙ count_below-same (slot_is s.slots) (λ i. holds s (2 * i)) n (λ a l. sym (at a))

place : (cap len limit : ℕ) → len ≤ cap → limit ≡ 4294967294 → 2 * min cap 2147483647 < limit
    → 2 * min cap 2147483647 ≡ 2 * (len + cond (nat_le cap 2147483647) (cap - len) 0)
place cap len limit l e below = grind (arith, cases_Bool, len, cond-true, leb-true, cond-false)

-- below the greatest limit of all, the limit is that of what is held and of the room
pub limit_whole : (s : Slab Segment) → length s.slots ≤ s.capacity → limit_of s < half_limit → limit_of s ≡ 2 * (live_segments (holds s) half_limit + room_of s)
limit_whole s all below =
    let few : slab_len s ≤ length s.slots = count_by-le-length is_some s.slots in
    let most : half_limit ≡ 4294967294 = limit-is in
    place s.capacity (slab_len s) half_limit (omega arith) most below ∙ ap (λ (n : ℕ). 2 * (n + room_of s)) (counted s (omega arith))
