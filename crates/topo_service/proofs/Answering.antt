-- Receipts that are honest, as the passes that have them see more.
use Rattle.std.proofs.Common.{◌≡◌, ◌<◌, ◌+◌, ℕ, List, [], ◌∷◌, ◌++◌, length, map, take}
use Rattle.std.proofs.Common.{refl, ap, sym, subst, ◌∙◌, arith, append_assoc, length-append, add-one, true, false, Result, Ok, Err, OnErr, OnOk}
use Rattle.std.specs.Prelude.{is_err, slice_index_or}
use Rattle.std.proofs.Math.Seq.{take-suc}
use Rattle.std.proofs.lemmas.List.{append-nil, map-append}
use Rattle.topo_core.specs.declared.calls.Call.{Call}
use Rattle.topo_core.specs.declared.calls.Command.{Command}
use Rattle.topo_core.specs.declared.calls.Entry.{Entry}
use Rattle.topo_core.specs.History.{IsPrefix, call_of}
use Rattle.topo_core.specs.Routes.{Pricing}
use Rattle.topo_rows.specs.Shown.{Shown}
use Rattle.topo_service.specs.declared.pass.Receipt.{Receipt}
use Rattle.topo_service.specs.Answers.{AreHonest, HasOnlySeen, HasReceiptOf, IsHonest}
use Rattle.topo_service.specs.Commands.{HasDone}
use Rattle.topo_service.specs.Passes.{PassState, receipt_of}
use Rattle.topo_service.proofs.Missed.{begins_itself}

-- ---- Entries that were seen

pub begins_further : (less known seen : List Entry) → IsPrefix less known → IsPrefix known seen → IsPrefix less seen
begins_further less known seen (more, is) (rest, then) =
    (more ++ rest, then ∙ ap (λ (es : List Entry). es ++ rest) is ∙ append_assoc less more rest)

-- ---- One receipt

honest_since : (price : Pricing) (start : Shown) (number : ℕ) (less known seen : List Entry) (receipt : Receipt) → IsPrefix less known
    → IsHonest price start number known seen receipt → IsHonest price start number less seen receipt
honest_since price start number less known seen receipt before is = record {
  no_memory = is.no_memory;
  later = begins_further less known seen before is.later;
  accepted = λ on. record {
    before = (is.accepted on).before;
    since = begins_further less known (is.accepted on).before before (is.accepted on).since;
    last = (is.accepted on).last;
  };
  refused = is.refused;
}

-- a receipt after what was seen meanwhile
pub has_later : (price : Pricing) (start : Shown) (old mid new : PassState) (call : Call) → HasOnlySeen old mid
    → HasReceiptOf price start mid new call → HasReceiptOf price start old new call
has_later price start old mid new call seen has = record {
  reply = has.reply;
  receipt = has.receipt ∙ ap (λ (rs : List Receipt). rs ++ receipt_of call has.reply ∷ []) seen.receipts;
  honest = honest_since price start old.number old.seen mid.seen new.seen (receipt_of call has.reply) seen.later
      (subst (λ (n : ℕ). IsHonest price start n mid.seen new.seen (receipt_of call has.reply)) seen.number has.honest);
}

pub seen_further : (old mid new : PassState) → HasOnlySeen old mid → HasOnlySeen mid new → HasOnlySeen old new
seen_further old mid new first second = record {
  number = second.number ∙ first.number;
  receipts = second.receipts ∙ first.receipts;
  later = begins_further old.seen mid.seen new.seen first.later second.later;
}

-- the same of a call that may have been out of memory
pub then_receipt : {A E : Type 0} (price : Pricing) (start : Shown) (old mid new : PassState) (call : Call) (r : Result A E) → HasOnlySeen old mid
    → OnOk r (HasReceiptOf price start mid new call) → OnOk r (HasReceiptOf price start old new call)
then_receipt price start old mid new call (Ok a) seen has = has_later price start old mid new call seen has
then_receipt price start old mid new call (Err e) seen has = tt

-- ---- Receipts one after another

honest_still : (price : Pricing) (start : Shown) (number : ℕ) (known seen more : List Entry) (receipts : List Receipt)
    → AreHonest price start number known receipts seen → IsPrefix seen more → AreHonest price start number known receipts more
honest_still price start number known seen more [] before later = begins_further known seen more before later
honest_still price start number known seen more (receipt ∷ receipts) (after, is, are) later =
    (after, is, honest_still price start number after seen more receipts are later)

honest_on : (price : Pricing) (start : Shown) (number : ℕ) (known seen more : List Entry) (receipts : List Receipt) (last : Receipt)
    → AreHonest price start number known receipts seen → IsHonest price start number seen more last
    → AreHonest price start number known (receipts ++ last ∷ []) more
honest_on price start number known seen more [] last before is =
    (more, honest_since price start number known seen more last before is, begins_itself more)
honest_on price start number known seen more (receipt ∷ receipts) last (after, one, are) is =
    (after, one, honest_on price start number after seen more receipts last are is)

-- ---- A list of commands

pub none_done : (price : Pricing) (start : Shown) (pass : PassState) (list : List Command) → HasDone price start pass pass list 0
none_done price start pass list = record {
  same_number = refl;
  gained = [];
  receipts = sym (append-nil pass.receipts);
  count = refl;
  calls = refl;
  replies = begins_itself pass.seen;
  seen = begins_itself pass.seen;
}

-- the calls of one command more
pub calls_on : (list : List Command) (n : ℕ) (d : Command) → n < length list
    → map call_of (take (n + 1) list) ≡ map call_of (take n list) ++ call_of (slice_index_or list n d) ∷ []
calls_on list n d below =
    rw add-one (ap (map call_of) (take-suc list n d below) ∙ map-append call_of (take n list) (slice_index_or list n d ∷ []))

-- one call more was answered
one_done : (price : Pricing) (start : Shown) (old mid new : PassState) (list : List Command) (n : ℕ) (call : Call)
    → HasDone price start old mid list n → HasReceiptOf price start mid new call → new.number ≡ mid.number
    → map call_of (take (n + 1) list) ≡ map call_of (take n list) ++ call ∷ [] → HasDone price start old new list (n + 1)
one_done price start old mid new list n call done has number one =
    let last = receipt_of call has.reply in
    let honest = subst (λ (k : ℕ). IsHonest price start k mid.seen new.seen last) done.same_number has.honest in
    record {
      same_number = number ∙ done.same_number;
      gained = done.gained ++ last ∷ [];
      receipts = has.receipt ∙ ap (λ (rs : List Receipt). rs ++ last ∷ []) done.receipts ∙ append_assoc old.receipts done.gained (last ∷ []);
      count = omega (arith, length-append done.gained (last ∷ []), done.count);
      calls = map-append (λ (r : Receipt). r.call) done.gained (last ∷ []) ∙ ap (λ (cs : List Call). cs ++ call ∷ []) done.calls ∙ sym one;
      replies = honest_on price start old.number old.seen mid.seen new.seen done.gained last done.replies honest;
      seen = begins_further old.seen mid.seen new.seen done.seen has.honest.later;
    }

pub one_made : {A E : Type 0} (price : Pricing) (start : Shown) (old mid new : PassState) (list : List Command) (n : ℕ) (call : Call) (r : Result A E)
    → HasDone price start old mid list n → OnOk r (HasReceiptOf price start mid new call) → is_err r ≡ false → new.number ≡ mid.number
    → map call_of (take (n + 1) list) ≡ map call_of (take n list) ++ call ∷ [] → HasDone price start old new list (n + 1)
one_made price start old mid new list n call (Ok a) done has made number one = one_done price start old mid new list n call done has number one
one_made price start old mid new list n call (Err e) done has made number one = cc

-- none more was
still_done : (price : Pricing) (start : Shown) (old mid new : PassState) (list : List Command) (n : ℕ) → HasDone price start old mid list n
    → new.receipts ≡ mid.receipts → new.number ≡ mid.number → IsPrefix mid.seen new.seen → HasDone price start old new list n
still_done price start old mid new list n done receipts number later = record {
  same_number = number ∙ done.same_number;
  gained = done.gained;
  receipts = receipts ∙ done.receipts;
  count = done.count;
  calls = done.calls;
  replies = honest_still price start old.number old.seen mid.seen new.seen done.gained done.replies later;
  seen = begins_further old.seen mid.seen new.seen done.seen later;
}

pub none_made : {A E : Type 0} (price : Pricing) (start : Shown) (old mid new : PassState) (list : List Command) (n : ℕ) (r : Result A E)
    → HasDone price start old mid list n → OnErr r (new.receipts ≡ mid.receipts) → is_err r ≡ true → new.number ≡ mid.number
    → IsPrefix mid.seen new.seen → HasDone price start old new list n
none_made price start old mid new list n (Err e) done receipts failed number later = still_done price start old mid new list n done receipts number later
none_made price start old mid new list n (Ok a) done receipts failed number later = cc

-- the same of equal passes
pub receipt_of_same : {T E : Type 0} (price : Pricing) (start : Shown) (a b old new : PassState) (call : Call) (r : Result T E) → a ≡ old → b ≡ new
    → OnOk r (HasReceiptOf price start a b call) → OnOk r (HasReceiptOf price start old new call)
receipt_of_same price start a b old new call r first second made =
    subst (λ (s : PassState). OnOk r (HasReceiptOf price start s new call)) first (subst (λ (s : PassState). OnOk r (HasReceiptOf price start a s call)) second made)
