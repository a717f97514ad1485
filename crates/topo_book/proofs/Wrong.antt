-- Where a list of entries stops being legal.
use Rattle.std.proofs.Common.{◌≡◌, ℕ, zero, suc, ◌+◌, List, [], ◌∷◌, ◌++◌, Some, sym, subst, ap, take, add-one}
use Rattle.std.specs.Prelude.{slice_get}
use Rattle.topo_core.specs.declared.rows.Rows.{Rows}
use Rattle.topo_core.specs.declared.limits.Limits.{Limits}
use Rattle.topo_core.specs.declared.calls.Entry.{Entry}
use Rattle.topo_core.specs.Routes.{Pricing}
use Rattle.topo_core.specs.Steps.{Step}
use Rattle.topo_core.specs.History.{IsLegal, Replays}
use Rattle.topo_core.proofs.Interface.{one_step, replays_on}
use Rattle.topo_book.specs.Books.{IsDue}
use Rattle.topo_book.specs.Faults.{IsFirstWrong}

pub take_one_more : (entries : List Entry) (i : ℕ) (entry : Entry) → slice_get entries i ≡ Some entry → take (suc i) entries ≡ take i entries ++ entry ∷ []
take_one_more [] i entry there = cc
take_one_more (first ∷ entries) zero entry there = let same : first ≡ entry = cc in ap (λ e. e ∷ []) same
take_one_more (first ∷ entries) (suc i) entry there = ap (λ es. first ∷ es) (take_one_more entries i entry there)

module _ (price : Pricing) (limits : Limits) where
  -- the entries up to place i lead on by the step of entry i
  pub replays_more : (entries : List Entry) (i : ℕ) (p q next : Rows) (entry : Entry) → Replays price limits p (take i entries) q
      → slice_get entries i ≡ Some entry
      → Step price limits q entry.call entry.reply next → Replays price limits p (take (i + 1) entries) next
  replays_more entries i p q next entry before there step =
      rw add-one (subst (λ (es : List Entry). Replays price limits p es next) (sym (take_one_more entries i entry there))
      (replays_on price limits (take i entries) p q next entry before step))

  -- in a legal list each entry is a step from where those before it lead
  pub legal_at : (entries : List Entry) (i : ℕ) (p q r : Rows) (entry : Entry) → Replays price limits p entries r → Replays price limits p (take i entries) q
      → slice_get entries i ≡ Some entry
      → (next : Rows) × Step price limits q entry.call entry.reply next
  legal_at [] i p q r entry way before there = cc
  legal_at (first ∷ entries) zero p q r entry way before there =
      let same : first ≡ entry = cc in (
        way.0,
        subst (λ (e : Entry). Step price limits q e.call e.reply way.0) same (subst (λ (s : Rows). Step price limits s first.call first.reply way.0)
            (sym before) way.1),
      )
  legal_at (first ∷ entries) (suc i) p q r entry way before there =
      let same = one_step price limits p first.call first.reply first.reply way.0 before.0 way.1 before.1 in
      legal_at entries i way.0 q r entry way.2 (subst (λ (s : Rows). Replays price limits s (take i entries) q) (sym same.1) before.2) there

  -- a list with a wrong reply is not legal
  pub not_legal : (start : Rows) (entries : List Entry) (i : ℕ) → IsFirstWrong price limits start entries i → IsLegal price limits start entries → ⊥
  not_legal start entries i fault legal =
      let step = legal_at entries i start fault.picture legal.0 fault.entry legal.1 fault.before fault.there in
      fault.wrong step.0 step.1

  -- an entry whose reply is not due is wrong
  pub wrong_reply : (start : Rows) (entries : List Entry) (i : ℕ) (picture : Rows) (entry : Entry) → Replays price limits start (take i entries) picture
      → slice_get entries i ≡ Some entry → (IsDue price limits picture entry.call entry.reply → ⊥) → IsFirstWrong price limits start entries i
  wrong_reply start entries i picture entry before there wrong = record {
    picture = picture;
    before = before;
    entry = entry;
    there = there;
    wrong = λ next step. wrong (next, step);
  }
