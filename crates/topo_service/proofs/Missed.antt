-- What a pass has missed, and how it is carried out on its own version.
use Rattle.std.proofs.Common.{◌≡◌, ◌+◌, ℕ, zero, suc, List, [], ◌∷◌, ◌++◌, Some, length, take, drop}
use Rattle.std.proofs.Common.{refl, ap, sym, subst, ◌∙◌, arith, append_assoc, length-append, add-one}
use Rattle.std.proofs.Common.{Result, Ok, Err, OnOk, true}
use Rattle.std.specs.Prelude.{is_ok, slice_get}
use Rattle.std.proofs.Math.Seq.{take-append-add}
use Rattle.std.proofs.lemmas.List.{append-nil, take-append-drop}
use Rattle.std.proofs.lemmas.List.Elements.{filter-append}
use Rattle.topo_core.specs.declared.calls.Entry.{Entry}
use Rattle.topo_core.specs.declared.limits.Limits.{Limits}
use Rattle.topo_core.specs.History.{IsPrefix, Replays, is_accepted, versions}
use Rattle.topo_core.specs.Routes.{Pricing}
use Rattle.topo_core.specs.Steps.{Step}
use Rattle.topo_core.proofs.Interface.{replays_on}
use Rattle.topo_book.proofs.Interface.{front, legal_at, take_one_more}
use Rattle.topo_book.specs.Books.{IsDue}
use Rattle.topo_rows.specs.Shown.{IsPicture, Shown}
use Rattle.topo_versions.specs.Versions.{AreLegal, IsVersionFrom}
use Rattle.topo_service.proofs.Versions.{versions_length}

-- ---- Accepted entries at the end of a history

pub begins_itself : (entries : List Entry) → IsPrefix entries entries
begins_itself entries = ([], sym (append-nil entries))

-- where a history is known up to some of its accepted entries, those behind are the others
pub learnt : (history all known from missed : List Entry) (place : ℕ) → all ≡ versions history → IsPrefix known all → known ≡ from ++ missed
    → length known + length (versions (drop place history)) ≡ length all
    → all ≡ from ++ (missed ++ versions (drop place history))
learnt history all known from missed place is begins parts count =
    is ∙ split ∙ ap (λ es. es ++ later) (sym same ∙ parts) ∙ append_assoc from missed later where
      later : List Entry
      later = versions (drop place history)

      split : versions history ≡ versions (take place history) ++ later
      split = ap versions (sym (take-append-drop place history))
          ∙ filter-append (λ (x : Entry). is_accepted x.reply) (take place history) (drop place history)

      same : known ≡ versions (take place history)
      same = front known (versions (take place history)) begins.0 later (sym begins.1 ∙ is ∙ split)
          (omega (arith, count, ap length begins.1, length-append known begins.0))

-- what holds where a call does not fail
pub if_ok : {A E P : Type 0} (r : Result A E) → is_ok r ≡ true → OnOk r P → P
if_ok (Ok x) h p = p
if_ok (Err e) h p = cc

-- ---- Entries that are carried out one by one

-- what begins a list of accepted entries is one
accepted_front : (xs ys : List Entry) → versions (xs ++ ys) ≡ xs ++ ys → versions xs ≡ xs
accepted_front xs ys all =
    let split = filter-append (λ (x : Entry). is_accepted x.reply) xs ys in
    front (versions xs) xs (versions ys) ys (sym split ∙ all)
    (omega (arith, versions_length xs, versions_length ys, ap length (sym split ∙ all), length-append (versions xs) (versions ys), length-append xs ys))

module _ (price : Pricing) (start : Shown) (before entries : List Entry) (legal : AreLegal price start (before ++ entries)) (i : ℕ) (entry : Entry)
    (picture : Shown)
    (stands : IsVersionFrom price start (before ++ take i entries) picture)
    (there : slice_get entries i ≡ Some entry) where
  -- the reply of the next one is due
  pub due : IsDue price picture.limits picture.rows entry.call entry.reply
  due =
      let way = legal_at price start.limits (before ++ entries) (length before + i) start.rows picture.rows legal.0 entry legal.1.replayed
      (subst (λ (es : List Entry). Replays price start.limits start.rows es picture.rows) (sym (take-append-add before entries i)) stands.replayed.replayed)
      (behind before (length before + i) refl) in
      subst (λ (l : Limits). IsDue price l picture.rows entry.call entry.reply) (sym stands.same_limits) way where
        behind : (first : List Entry) (k : ℕ) → k ≡ length first + i → slice_get (first ++ entries) k ≡ Some entry
        behind [] k is = let same : i ≡ k = omega (arith, is) in subst (λ (n : ℕ). slice_get entries n ≡ Some entry) same there
        behind (e ∷ first) zero is = absurd (omega (arith, is))
        behind (e ∷ first) (suc k) is = let less : k ≡ length first + i = omega (arith, is) in behind first k less

  -- once it is carried out, the picture stands after it
  pub one_further : (next : Shown) → Step price picture.limits picture.rows entry.call entry.reply next.rows → next.limits ≡ picture.limits
      → IsPicture next.limits next.rows
      → IsVersionFrom price start (before ++ take (i + 1) entries) next
  one_further next step same good =
      let longer : before ++ take (i + 1) entries ≡ (before ++ take i entries) ++ entry ∷ [] = rw add-one (
      ap (λ es. before ++ es) (take_one_more entries i entry there) ∙ sym (append_assoc before (take i entries) (entry ∷ []))
      ) in
      let all : (before ++ take (i + 1) entries) ++ drop (i + 1) entries ≡ before ++ entries =
      append_assoc before (take (i + 1) entries) (drop (i + 1) entries) ∙ ap (λ es. before ++ es) (take-append-drop (i + 1) entries) in
      record {
        replayed = record {
          accepted = accepted_front (before ++ take (i + 1) entries) (drop (i + 1) entries) (ap versions all ∙ legal.1.accepted ∙ sym all);
          replayed = subst (λ (es : List Entry). Replays price start.limits start.rows es next.rows) (sym longer)
              (replays_on price start.limits (before ++ take i entries) start.rows picture.rows next.rows entry stands.replayed.replayed
              (subst (λ (l : Limits). Step price l picture.rows entry.call entry.reply next.rows) stands.same_limits step));
        };
        same_limits = same ∙ stands.same_limits;
        lawful = good;
      }
