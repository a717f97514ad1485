-- Slabs whose live darts stand for one another: the way back, one numbering after another, and slabs of which all darts are live.
use Rattle.std.proofs.Common.{arith, ◌≡◌, ℕ, ◌<◌, Bool, true, refl, sym, ◌∙◌, ap}
use Rattle.std.proofs.lemmas.Bool.{false≢true}
use Rattle.topo_core.specs.Rotations.{twin}
use Rattle.topo_perm.specs.Live.{IsSlab}
use Rattle.topo_perm.specs.Renumbering.{RenumbersTurn}
use Rattle.topo_perm.specs.RenumberedEdits.{IsAlive, IsInto, RenumbersSlab}
use Rattle.topo_perm.proofs.permutations.Walks.{twin-within}
use Rattle.topo_perm.proofs.renumbering.EditNumbers.{alive_turn}

-- ---- The way back, and one after another

pub back_numbers : (h back : ℕ → ℕ) (live : ℕ → Bool) (f : ℕ → ℕ) (n : ℕ) (live' : ℕ → Bool) (g : ℕ → ℕ) (m : ℕ) → RenumbersSlab h back live f n live' g m
    → RenumbersSlab back h live' g m live f n
back_numbers h back live f n live' g m r = record {
  before = r.after;
  after = r.before;
  into = r.from;
  from = r.into;
  turns = λ y yt.
      let home : IsAlive live n (back y) = r.from.there y yt in
      sym (r.into.returns (f (back y)) (alive_turn live f n (back y) r.before home)) ∙ ap back (sym (r.turns (back y) home) ∙ ap g (r.from.returns y yt));
}

into_into : {h back h' back' : ℕ → ℕ} {live : ℕ → Bool} {n : ℕ} {live' : ℕ → Bool} {m : ℕ} {live'' : ℕ → Bool} {l : ℕ} → IsInto h back live n live' m
    → IsInto h' back' live' m live'' l → IsInto (λ a. h' (h a)) (λ y. back (back' y)) live n live'' l
into_into i j = grind arith

pub composed_numbers : {h back h' back' : ℕ → ℕ} {live : ℕ → Bool} {f : ℕ → ℕ} {n : ℕ} {live' : ℕ → Bool} {g : ℕ → ℕ} {m : ℕ} {live'' : ℕ → Bool} {k : ℕ → ℕ}
    {l : ℕ} → RenumbersSlab h back live f n live' g m → RenumbersSlab h' back' live' g m live'' k l
    → RenumbersSlab (λ a. h' (h a)) (λ y. back (back' y)) live f n live'' k l
composed_numbers {h} {back} {h'} {back'} {live} {n} {live'} {m} {live''} {l} r s = record {
  before = r.before;
  after = s.after;
  into = into_into r.into s.into;
  from = into_into s.from r.from;
  turns = λ a at. s.turns (h a) (r.into.there a at) ∙ ap h' (r.turns a at);
}

-- ---- Where all darts of the first slab are live

pub slab_of_turn : (h back f g : ℕ → ℕ) (n : ℕ) (live : ℕ → Bool) (m : ℕ) → RenumbersTurn h back f g n live m → IsSlab live g m
    → RenumbersSlab h back (λ _. true) f n live g m
slab_of_turn h back f g n live m r s = record {
  before = record { permutation = r.turn.before; even = r.even; twins = λ a la. refl; free = λ a la e. absurd (false≢true (sym e)) };
  after = s;
  into = grind arith;
  from = record {
    there = λ y yt. record { within = r.turn.numbers.back_within y yt.within yt.alive; alive = refl };
    returns = λ y yt. r.turn.numbers.back_returns y yt.within yt.alive;
    twins = λ y yt.
        let lb : back y < n = r.turn.numbers.back_within y yt.within yt.alive in
        ap back (ap twin (sym (r.turn.numbers.back_returns y yt.within yt.alive)) ∙ r.twins.each (back y) lb)
        ∙ r.turn.numbers.returns (twin (back y)) (twin-within n (back y) r.even lb);
  };
  turns = λ a at. r.turn.map.each a at.within;
}

pub turn_of_slab : (h back f g : ℕ → ℕ) (n : ℕ) (old live : ℕ → Bool) (m : ℕ) → ((a : ℕ) → a < n → old a ≡ true) → RenumbersSlab h back old f n live g m
    → RenumbersTurn h back f g n live m
turn_of_slab h back f g n old live m all r = record {
  turn = record {
    before = r.before.permutation;
    after = r.after.permutation;
    numbers = record {
      within = λ a la. (r.into.there a (record { within = la; alive = all a la })).within;
      alive = λ a la. (r.into.there a (record { within = la; alive = all a la })).alive;
      returns = λ a la. r.into.returns a (record { within = la; alive = all a la });
      back_within = λ y ly h. (r.from.there y (record { within = ly; alive = h })).within;
      back_returns = λ y ly h. r.from.returns y (record { within = ly; alive = h });
    };
    map = record { each = λ a la. r.turns a (record { within = la; alive = all a la }) };
  };
  even = r.before.even;
  after_even = r.after.even;
  twins = record { each = λ a la. sym (r.into.twins a (record { within = la; alive = all a la })) };
}
