-- Passes that have carried lists out, and whose receipts are the whole history, make a run of the lists.
use Rattle.std.proofs.Common.{◌≡◌, ℕ, zero, suc, ◌+◌, ◌<◌, ◌⊎◌, List, [], ◌∷◌, ◌++◌, All, Option, Result, Ok, Err, IfOk, map, length}
use Rattle.std.proofs.Common.{take, get_or, slice_index_or, refl, sym, ap, subst, ◌∙◌, inl, inr, arith, length-append}
use Rattle.std.proofs.lemmas.List.{get_or_append_left, get_or-append-add, length-map, take_all}
use Rattle.std.proofs.lemmas.Option.{slice_get_within}
use Rattle.topo_core.specs.declared.rows.Rows.{Rows}
use Rattle.topo_core.specs.declared.limits.Limits.{Limits}
use Rattle.topo_core.specs.declared.calls.Call.{Call}
use Rattle.topo_core.specs.declared.calls.Command.{Command}
use Rattle.topo_core.specs.declared.calls.Entry.{Entry}
use Rattle.topo_core.specs.Items.{IsIn}
use Rattle.topo_core.specs.Routes.{Pricing}
use Rattle.topo_core.specs.History.{IsRun, Replays, call_of, entries_of}
use Rattle.topo_rows.specs.Shown.{Shown}
use Rattle.topo_service.specs.declared.pass.Receipt.{Receipt}
use Rattle.topo_service.specs.declared.workers.WorkerEnd.{WorkerEnd}
use Rattle.topo_service.specs.declared.workers.WorkerEnd.TheVariants.{Done}
use Rattle.topo_service.specs.Commands.{HasDone, HasEnded}
use Rattle.topo_service.specs.Faults.{HasDifference}
use Rattle.topo_service.specs.Passes.{PassState}
use Rattle.topo_service.specs.Receipts.{AreWhole, HasNumber, receipt_in, receipts_due}
use Rattle.topo_service.proofs.Interface.{number_at}
use Rattle.topo_price.specs.Prices.{Asking, prices_of}
use Rattle.topo_io.specs.Settings.{AnswersPrices, priced}
use Rattle.topo_io.proofs.Interface.{run_so}
use Rattle.topo_run.specs.Working.{AreOpened, HasWorked, HaveWorked}

abbrev no_pass : PassState
no_pass = record { number = 0; receipts = []; seen = [] }

abbrev call_in : Receipt → Call
call_in receipt = receipt.call

-- ---- A run

calls_of_receipts : (entries : List Entry) → map call_in (map receipt_in entries) ≡ map (λ entry. entry.call) entries
calls_of_receipts [] = refl
calls_of_receipts (entry ∷ entries) = ap (λ (calls : List Call). entry.call ∷ calls) (calls_of_receipts entries)

-- the place of a pass with a number
place_of : (n : ℕ) (passes : List PassState) → HasNumber n passes → (i : ℕ) × (i < length passes) × ((get_or passes i no_pass).number ≡ n)
place_of n [] h = absurd h
place_of n (pass ∷ passes) (inl here) = (0, omega arith, here)
place_of n (pass ∷ passes) (inr later) =
    let (i, below, is) = place_of n passes later in
    (suc i, omega arith, is)

calls_at : (lists : List (List Command)) (passes : List PassState) (history : List Entry) → HaveWorked lists passes → AreWhole history passes
    → (c : ℕ) → c < length lists → map (λ entry. entry.call) (entries_of c history) ≡ map call_of (slice_index_or lists c [])
calls_at lists passes history worked whole c below =
    let pass = get_or passes c no_pass in
    let is = worked.each c no_pass below in
    let own : receipts_due pass.number history ≡ pass.receipts = whole.own c no_pass (omega (arith, worked.count)) in
    sym (calls_of_receipts (entries_of c history)) ∙ ap (λ (n : ℕ). map call_in (receipts_due n history)) (sym is.is_numbered) ∙ ap (map call_in) own ∙ is.calls

caller_at : (lists : List (List Command)) (passes : List PassState) (history : List Entry) → HaveWorked lists passes → AreWhole history passes
    → (entry : Entry) → IsIn entry history → entry.caller < length lists
caller_at lists passes history worked whole entry there =
    let (i, below, is) = place_of entry.caller passes (whole.callers entry there) in
    let in_lists : i < length lists = omega (arith, worked.count) in
    omega (arith, (worked.each i no_pass in_lists).is_numbered, is)

pub run_of_passes : (price : Pricing) (limits : Limits) (p q : Rows) (lists : List (List Command)) (passes : List PassState) (history : List Entry)
    → HaveWorked lists passes
    → AreWhole history passes → Replays price limits p history q → IsRun price limits p lists history q
run_of_passes price limits p q lists passes history worked whole replayed = record {
  replayed = replayed;
  calls = calls_at lists passes history worked whole;
  callers = caller_at lists passes history worked whole;
}

-- no pass is missing
pub has_number : (lists : List (List Command)) (passes : List PassState) (n : ℕ) → HaveWorked lists passes → n < length passes → HasNumber n passes
has_number lists passes n worked below = number_at n passes n no_pass below (worked.each n no_pass (omega (arith, worked.count))).is_numbered

-- ---- A receipt that differs

-- the place of a pass
place_in : (pass : PassState) (passes : List PassState) → IsIn pass passes → (i : ℕ) × (i < length passes) × (get_or passes i no_pass ≡ pass)
place_in pass [] h = absurd h
place_in pass (other ∷ passes) (inl here) = (0, omega arith, sym here)
place_in pass (other ∷ passes) (inr later) =
    let (i, below, is) = place_in pass passes later in
    (suc i, omega arith, is)

-- a pass that has worked has as many receipts as its list has commands
receipts_worked : (number : ℕ) (list : List Command) (pass : PassState) → HasWorked number list pass → length pass.receipts ≡ length list
receipts_worked number list pass worked =
    omega (arith, length-map pass.receipts call_in, length-map list call_of, ap length worked.calls)

-- it is one of a command of the lists
pub differing : (lists : List (List Command)) (passes : List PassState) (history : List Entry) (number k : ℕ) → HaveWorked lists passes
    → HasDifference history passes number k → (number < length lists) × (k < length (slice_index_or lists number []))
differing lists passes history number k worked found =
    let (i, below, is) = place_in found.pass passes found.there in
    let one : HasWorked i (slice_index_or lists i []) found.pass =
    subst (λ (pass : PassState). HasWorked i (slice_index_or lists i []) pass) is (worked.each i no_pass (omega (arith, worked.count))) in
    let here : i ≡ number = sym one.is_numbered ∙ found.is_numbered in
    let own : HasWorked number (slice_index_or lists number []) found.pass =
    subst (λ (n : ℕ). HasWorked n (slice_index_or lists n []) found.pass) here one in
    let within : k < length found.pass.receipts = slice_get_within found.pass.receipts k found.differs.receipt found.differs.there in
    (omega (arith, worked.count, here), omega (arith, receipts_worked number (slice_index_or lists number []) found.pass own))

-- ---- Passes that were opened

-- a place in a list with one more element is before the last, or the last
place_cases : (i n : ℕ) → i < n + 1 → (i < n) ⊎ (i ≡ n + 0)
place_cases zero zero h = inr refl
place_cases zero (suc n) h = inl (omega arith)
place_cases (suc i) zero h = absurd (omega arith)
place_cases (suc i) (suc n) h = elim (place_cases i n (omega arith)) [ inl e ↦ inl (omega arith) | inr e ↦ inr (omega arith) ]

pub opened_push : (passes : List PassState) (pass : PassState) → AreOpened passes → pass.number ≡ length passes → pass.receipts ≡ []
    → AreOpened (passes ++ pass ∷ [])
opened_push passes pass opened number receipts i d below = elim (place_cases i (length passes) (omega (arith, length-append passes (pass ∷ [])))) [
  | inl before ↦ rw (get_or_append_left passes (pass ∷ []) d i before) (opened i d before)
  | inr last ↦ rw (last, get_or-append-add passes (pass ∷ []) 0 d) (omega (arith, number), receipts)
]

-- ---- Workers

done_so : (price : Pricing) (start : Shown) (old new : PassState) (list : List Command) (end : WorkerEnd) → end ≡ Done → HasEnded price start old new list end → HasDone price start old new list (length list)
done_so price start old new list end is ended = subst (λ (e : WorkerEnd). HasEnded price start old new list e) is ended

worked_one : (price : Pricing) (start : Shown) (i : ℕ) (old new : PassState) (list : List Command) → old.number ≡ i → old.receipts ≡ [] → HasDone price start old new list (length list)
    → HasWorked i list new
worked_one price start i old new list number none done = record {
  is_numbered = done.same_number ∙ number;
  calls = ap (map call_in) (done.receipts ∙ ap (λ (rs : List Receipt). rs ++ done.gained) none) ∙ done.calls
      ∙ ap (map call_of) (take_all (length list) list (omega arith));
}

pub all_worked : (price : Pricing) (start : Shown) (old new : List PassState) (lists : List (List Command)) (ends : List WorkerEnd) → AreOpened old → length old ≡ length lists
    → length new ≡ length lists
    → length ends ≡ length lists → All (λ end. end ≡ Done) ends
    → ((i : ℕ) (p : PassState) (e : WorkerEnd) → i < length lists → HasEnded price start (get_or old i p) (get_or new i p) (slice_index_or lists i []) (get_or ends i e))
    → HaveWorked lists new
all_worked price start old new lists ends opened as_many still one_each done ended = record {
  count = still;
  each = λ i p below.
      let open_pass = opened i p (omega (arith, as_many)) in
      worked_one price start i (get_or old i p) (get_or new i p) (slice_index_or lists i []) open_pass.0 open_pass.1
      (done_so price start (get_or old i p) (get_or new i p) (slice_index_or lists i []) (get_or ends i Done) (done i Done (omega (arith, one_each)))
      (ended i p Done below));
}

pub take_before : (passes rest : List PassState) (n : ℕ) → n ≡ length passes → take n (passes ++ rest) ≡ passes
take_before [] rest zero is = refl
take_before [] rest (suc n) is = absurd (omega arith)
take_before (pass ∷ passes) rest zero is = absurd (omega arith)
take_before (pass ∷ passes) rest (suc n) is = ap (λ (ps : List PassState). pass ∷ ps) (take_before passes rest n (omega arith))

-- ---- The end of a service

-- what a service that was closed has made of the lists
pub served : {F : Type 0} (answers : F → Asking) {closure own : F} {first start : Shown} {picture : Rows} {lists : List (List Command)}
    {passes : List PassState} {history : List Entry} → closure ≡ own → first ≡ start → HaveWorked lists passes → AreWhole history passes
    → Replays (prices_of (answers closure)) first.limits first.rows history picture
    → IsRun (prices_of (answers own)) start.limits start.rows lists history picture
served {F} answers {closure} {own} {start} {picture} {lists} {passes} {history} same_closure same_start worked whole replayed =
    let begun : Replays (prices_of (answers closure)) start.limits start.rows history picture =
    subst (λ (s : Shown). Replays (prices_of (answers closure)) s.limits s.rows history picture) same_start replayed in
    let asked : Replays (prices_of (answers own)) start.limits start.rows history picture =
    subst (λ (f : F). Replays (prices_of (answers f)) start.limits start.rows history picture) same_closure begun in
    run_of_passes (prices_of (answers own)) start.limits start.rows picture lists passes history worked whole asked

-- what holds of a result's value and follows from two facts of it
pub ok_both : {A E : Type 0} (r : Result A E) (P Q R : A → Type 0) → ((a : A) → P a → Q a → R a) → IfOk r P → IfOk r Q → IfOk r R
ok_both (Ok a) P Q R f p q = f a p q
ok_both (Err e) P Q R f p q = p

-- ---- Prices

-- a run of copies of the lists, at the prices that a closure answers, is one of the lists at the script's prices, where it
-- answers those
pub own_run : {answers : Asking} {prices : List (Option ℕ)} {limits : Limits} {p q : Rows} {lists copies : List (List Command)} {history : List Entry}
    → AnswersPrices answers prices → copies ≡ lists → IsRun (prices_of answers) limits p copies history q → IsRun (priced prices) limits p lists history q
own_run {answers} {prices} {limits} {p} {q} {copies} {history} own same run =
    subst (λ (ls : List (List Command)). IsRun (priced prices) limits p ls history q) same
    (run_so (prices_of answers) (priced prices) own.only own.each limits p copies history q run)
