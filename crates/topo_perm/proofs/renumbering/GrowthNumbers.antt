-- A growth under other numbers: where a segment is hung in a slab that renumbers the system, it renumbers the system with one segment more.
use Rattle.std.proofs.Common.{◌≡◌, ℕ, suc, ◌%◌, ◌<◌, nat_lt, Bool, true, false, cond, ◌⊎◌, refl, sym, ◌∙◌, ap, arith}
use Rattle.std.proofs.lemmas.Bool.{cases_Bool, cases_eq, cond-true, cond-false, false≢true, lt-ltb, ltb-true}
use Rattle.topo_core.specs.Cycles.{IsPermutation}
use Rattle.topo_core.specs.Rotations.{twin}
use Rattle.topo_core.specs.Edits.{IsHang}
use Rattle.topo_perm.specs.Joins.{AddsSegment}
use Rattle.topo_perm.specs.Live.{IsSlab}
use Rattle.topo_perm.specs.Renumbering.{RenumbersTurn}
use Rattle.topo_perm.specs.RenumberedEdits.{IsAlive, RenumbersSlab, extended}
use Rattle.topo_perm.specs.Runs.{Turning, IsStep}
use Rattle.topo_perm.specs.Runs.Edit.{Hang}
use Rattle.topo_perm.proofs.permutations.Walks.{twin-cases, twin-within}
use Rattle.topo_perm.proofs.renumbering.EditNumbers.{extended-here, extended-other, hang_numbers}
use Rattle.topo_perm.proofs.renumbering.Composing.{slab_of_turn, turn_of_slab}

-- g turns the darts of f and two more, m and suc m, the first of them before c and the second by itself
pub record IsGrowth (f g : ℕ → ℕ) (m c : ℕ) : Type 0 where
  pub before : IsPermutation f m
  pub after : IsPermutation g (suc (suc m))
  pub even : m % 2 ≡ 0
  pub corner : c < m
  pub starts : g m ≡ c
  pub alone : g (suc m) ≡ suc m
  pub old : (a : ℕ) → a < m → (g a ≡ f a) ⊎ ((g a ≡ m) × (c ≡ f a))

-- the darts of f, and the two others by themselves
abbrev below : ℕ → ℕ → Bool
below m a = nat_lt a m

abbrev with_room : (ℕ → ℕ) → ℕ → ℕ → ℕ
with_room f m a = cond (nat_lt a m) (f a) a

not_below : (m a : ℕ) → m < suc a → nat_lt a m ≡ false
not_below m a l = grind (arith, cases_Bool, ltb-true)

room_old : (f : ℕ → ℕ) (m a : ℕ) → a < m → with_room f m a ≡ f a
room_old f m a l = cond-true _ _ _ (lt-ltb a m l)

room_new : (f : ℕ → ℕ) (m a : ℕ) → m < suc a → with_room f m a ≡ a
room_new f m a l = cond-false _ _ _ (not_below m a l)

-- below m, or one of the two others
parts : (m a : ℕ) → a < suc (suc m) → (a < m) ⊎ ((a ≡ m) ⊎ (a ≡ suc m))
parts m a l = grind (arith, cases_Bool, ltb-true, cases_eq, false≢true, lt-ltb)

twin_new : (m : ℕ) → m % 2 ≡ 0 → twin m ≡ suc m
twin_new m e = omega (arith, twin-cases m)

twin_of_new : (m : ℕ) → m % 2 ≡ 0 → twin (suc m) ≡ m
twin_of_new m e = omega (arith, twin-cases (suc m))

-- the slab v renumbers the grown system: the old darts keep their halves, and the new one has y
pub record IsGrowthUnder (g : ℕ → ℕ) (m : ℕ) (nu : ℕ → ℕ) (v : Turning) (limit y : ℕ) : Type 0 where
  pub number : ℕ → ℕ
  pub back_number : ℕ → ℕ
  pub renumbers : RenumbersTurn number back_number g v.turn (suc (suc m)) v.live limit
  pub old_number : (d : ℕ) → d < m → number d ≡ nu d
  pub new_number : number m ≡ y

module _ {f g : ℕ → ℕ} {m c : ℕ} (o : IsGrowth f g m c) where
  abbrev n : ℕ
  n = suc (suc m)

  abbrev room : ℕ → ℕ
  room = with_room f m

  room_permutation : IsPermutation room n
  room_permutation = grind (arith, parts, room_old, room_new, cases_Bool, ltb-true, cond-false, false≢true, lt-ltb)

  room_slab : IsSlab (below m) room n
  room_slab = grind (arith, room_permutation, parts, lt-ltb, twin-within, below, twin_new, not_below, twin_of_new, cond-false)

  hang : IsHang room g n c m
  hang = grind (arith, room_new, twin_new, parts, room_old)

  grows : AddsSegment (below m) (λ a. true) n m
  grows = grind (arith, not_below, below, twin_new, parts, lt-ltb)

  module _ {nu back : ℕ → ℕ} {limit : ℕ} {u v : Turning} (y : ℕ) (r : RenumbersTurn nu back f u.turn m u.live limit) (slab : IsSlab u.live u.turn limit)
      (step : IsStep limit u (Hang (nu c) y) v) where
    whole : RenumbersSlab nu back (λ _. true) f m u.live u.turn limit
    whole = slab_of_turn nu back f u.turn m u.live limit r slab

    inside : (a : ℕ) → IsAlive (below m) n a → IsAlive (λ _. true) m a
    inside a at = record { within = ltb-true a m at.alive; alive = refl }

    outside : (a : ℕ) → IsAlive (λ _. true) m a → IsAlive (below m) n a
    outside a at = record { within = (let k = at.within in omega arith); alive = lt-ltb a m at.within }

    with_place : RenumbersSlab nu back (below m) room n u.live u.turn limit
    with_place = record {
      before = room_slab;
      after = slab;
      into = record {
        there = λ a at. whole.into.there a (inside a at);
        returns = λ a at. whole.into.returns a (inside a at);
        twins = λ a at. whole.into.twins a (inside a at);
      };
      from = record {
        there = λ z zt. outside (back z) (whole.from.there z zt);
        returns = λ z zt. whole.from.returns z zt;
        twins = λ z zt. whole.from.twins z zt;
      };
      turns = λ a at. whole.turns a (inside a at) ∙ ap nu (sym (room_old f m a (inside a at).within));
    }

    pub growth_numbers : IsGrowthUnder g m nu v limit y
    growth_numbers = record {
      number = extended nu m y;
      back_number = extended back y m;
      renumbers = turn_of_slab (extended nu m y) (extended back y m) g v.turn n (λ _. true) v.live limit (λ a la. refl)
          (hang_numbers with_place
          (record { within = omega arith; within_other = step.0.within; adds = grows; adds_other = step.0.adds })
          (outside c (record { within = o.corner; alive = refl })) o.after step.0.permutation hang step.2);
      old_number = λ d ld. extended-other nu m y d (λ e. omega (arith, e, ld)) (λ e. let w : d ≡ suc m = e ∙ twin_new m o.even in omega (arith, w, ld));
      new_number = extended-here nu m y;
    }
