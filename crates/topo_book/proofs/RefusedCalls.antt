-- A call that was refused, and after which no entry is accepted, is refused alike.
use Rattle.std.proofs.Common.{◌≡◌, ◌-◌, ◌≤◌, true, false, List, [], ◌∷◌, ◌++◌, length, take, refl, sym, subst, ap, append_assoc, ◌∙◌, IfSome, Option, None, Some}
use Rattle.std.specs.Prelude.{slice_index_or}
use Rattle.std.proofs.lemmas.List.Elements.{filter-append}
use Rattle.topo_core.specs.declared.calls.Call.{Call}
use Rattle.topo_core.specs.declared.calls.Entry.{Entry}
use Rattle.topo_core.specs.declared.calls.Refusal.{Refusal}
use Rattle.topo_core.specs.declared.calls.Reply.{Reply}
use Rattle.topo_core.specs.declared.calls.Reply.TheVariants.{Deleted, Grown, Inserted as Put, Refused}
use Rattle.topo_core.specs.declared.limits.Limits.{Limits}
use Rattle.topo_core.specs.declared.rows.Rows.{Rows}
use Rattle.topo_core.specs.History.{is_accepted, versions}
use Rattle.topo_core.specs.Routes.{Pricing}
use Rattle.topo_core.specs.Steps.{IsRefused, Step}
use Rattle.topo_price.specs.Prices.{Asking, prices_of}
use Rattle.topo_book.specs.Books.{BookState, IsDue, IsDueIn, IsLegalBook, ReplaysLawfully}
use Rattle.topo_book.specs.RefusedCalls.{WasRefused}
use Rattle.topo_book.proofs.Outliving.{last_apart, parted}

-- a refused entry is no version, and an accepted one is
left_out : (entry : Entry) (entries : List Entry) → is_accepted entry.reply ≡ false → versions (entry ∷ entries) ≡ versions entries
left_out entry entries off = rw (off) refl

left_in : (entry : Entry) (entries : List Entry) → is_accepted entry.reply ≡ true → versions (entry ∷ entries) ≡ entry ∷ versions entries
left_in entry entries on = rw (on) refl

-- the last entry refuses the call
pub refused_last : (entries : List Entry) (entry : Entry) (call : Call) (why : Refusal) → 1 ≤ length entries
    → entry ≡ slice_index_or entries (length entries - 1) entry → entry.call ≡ call → entry.reply ≡ Refused why → WasRefused entries call why
refused_last entries entry call why some last same refused = record {
  older = take (length entries - 1) entries;
  entry = entry;
  later = [];
  parts = last_apart entries entry some last;
  same_call = same;
  refused = refused;
  none_accepted = refl;
}

-- or one before it does, and the last one is refused
refused_before : (entries : List Entry) (entry : Entry) (call : Call) (why other : Refusal) → 1 ≤ length entries
    → entry ≡ slice_index_or entries (length entries - 1) entry → entry.reply ≡ Refused other
    → WasRefused (take (length entries - 1) entries) call why → WasRefused entries call why
refused_before entries entry call why other some last refused was = record {
  older = was.older;
  entry = was.entry;
  later = was.later ++ entry ∷ [];
  parts = last_apart entries entry some last ∙ ap (λ es. es ++ entry ∷ []) was.parts ∙ append_assoc was.older (was.entry ∷ was.later) (entry ∷ []);
  same_call = was.same_call;
  refused = was.refused;
  none_accepted = filter-append (λ (x : Entry). is_accepted x.reply) was.later (entry ∷ []) ∙ ap (λ es. es ++ versions (entry ∷ [])) was.none_accepted
      ∙ left_out entry [] (ap is_accepted refused);
}

pub refused_among : (entries : List Entry) (entry : Entry) (call : Call) (other : Refusal) (found : Option Refusal) → 1 ≤ length entries
    → entry ≡ slice_index_or entries (length entries - 1) entry → entry.reply ≡ Refused other
    → IfSome found (WasRefused (take (length entries - 1) entries) call) → IfSome found (WasRefused entries call)
refused_among entries entry call other None some last refused was = tt
refused_among entries entry call other (Some why) some last refused was = refused_before entries entry call why other some last refused was

module _ (price : Pricing) (limits : Limits) where
  -- entries of which none is accepted leave the picture
  stays : (entries : List Entry) (p q : Rows) → versions entries ≡ [] → ReplaysLawfully price limits p entries q → q ≡ p
  stays [] p q none way = way.0
  stays (entry ∷ entries) p q none way = by_reply (λ others. stays entries way.0 q others way.3) entry.reply refl where
    accepted : is_accepted entry.reply ≡ true → q ≡ p
    accepted on = let some : entry ∷ versions entries ≡ [] = sym (left_in entry entries on) ∙ none in cc

    by_reply : (versions entries ≡ [] → q ≡ way.0) → (reply : Reply) → entry.reply ≡ reply → q ≡ p
    by_reply later (Refused why) is =
        later (sym (left_out entry entries (ap is_accepted is)) ∙ none) ∙ (subst (λ r. Step price limits p entry.call r way.0) is way.2).1
    by_reply later (Grown vertex edge) is = accepted (ap is_accepted is)
    by_reply later (Put made) is = accepted (ap is_accepted is)
    by_reply later (Deleted edge) is = accepted (ap is_accepted is)

  -- so a call that was refused is refused on the last picture
  pub refused_still : (entries : List Entry) (p q : Rows) (call : Call) (why : Refusal) → ReplaysLawfully price limits p entries q
      → WasRefused entries call why → IsDue price limits q call (Refused why)
  refused_still entries p q call why way was =
      let two = parted price limits was.older (was.entry ∷ was.later) p q (subst (λ es. ReplaysLawfully price limits p es q) was.parts way) in
      let there = two.2 in
      let step = subst (λ c. Step price limits two.0 c (Refused why) there.0) was.same_call
      (subst (λ r. Step price limits two.0 was.entry.call r there.0) was.refused there.2) in
      let same : q ≡ two.0 = stays was.later there.0 q was.none_accepted there.3 ∙ step.1 in
      (q, (subst (λ r. IsRefused price limits r call why) (sym same) step.0, refl))

-- and so by a book
pub refused_by_book : {F : Type 0} (answers : F → Asking) (book : BookState F) (call : Call) (found : Option Refusal) → IsLegalBook answers book
    → IfSome found (WasRefused book.history call) → IfSome found (λ why. IsDueIn answers book call (Refused why))
refused_by_book answers book call None legal was = tt
refused_by_book answers book call (Some why) legal was =
    let price = prices_of (answers book.tariff) in
    subst (λ limits. IsDue price limits book.picture.rows call (Refused why)) (sym legal.same_limits)
    (refused_still price book.start.limits book.history book.start.rows book.picture.rows call why legal.on_the_way was)
