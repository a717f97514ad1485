-- Histories that grow at their end, and the books that keep them.
use Rattle.std.proofs.Common.{◌≡◌, List, [], ◌∷◌, ◌++◌, Option, Some, None, IfSome, Result, Ok, Err, OnOk, OnErr, false, true, refl, sym, subst, ◌∙◌}
use Rattle.std.specs.Prelude.{is_err}
use Rattle.topo_core.specs.declared.rows.Rows.{Rows}
use Rattle.topo_core.specs.declared.limits.Limits.{Limits}
use Rattle.topo_core.specs.declared.calls.Entry.{Entry}
use Rattle.topo_core.specs.Routes.{Pricing}
use Rattle.topo_core.specs.Steps.{Step}
use Rattle.topo_core.specs.History.{Replays}
use Rattle.topo_price.specs.Prices.{Asking, prices_of}
use Rattle.topo_rows.specs.Shown.{Shown, IsPicture}
use Rattle.topo_book.specs.Books.{BookState, CanFollow, IsBook, IsLegalBook, IsNext, NextState, ReplaysLawfully, picture_after}

module _ (price : Pricing) (limits : Limits) where
  pub replays : (entries : List Entry) (p q : Rows) → ReplaysLawfully price limits p entries q → Replays price limits p entries q
  replays [] p q way = way.0
  replays (entry ∷ entries) p q way = (way.0, way.2, replays entries way.0 q way.3)

  -- the last picture is lawful
  pub last_lawful : (entries : List Entry) (p q : Rows) → ReplaysLawfully price limits p entries q → IsPicture limits q
  last_lawful [] p q way = subst (IsPicture limits) (sym way.0) way.1
  last_lawful (entry ∷ entries) p q way = last_lawful entries way.0 q way.3

  -- one step more
  pub steps_on : (entries : List Entry) (p q next : Rows) (entry : Entry) → ReplaysLawfully price limits p entries q
      → Step price limits q entry.call entry.reply next → IsPicture limits next
      → ReplaysLawfully price limits p (entries ++ entry ∷ []) next
  steps_on [] p q next entry way step good = (next, way.1, subst (λ (r : Rows). Step price limits r entry.call entry.reply next) way.0 step, (refl, good))
  steps_on (first ∷ entries) p q next entry way step good = (way.0, way.1, way.2, steps_on entries way.0 q next entry way.3 step good)

module _ (price : Pricing) (start picture : Shown) (history : List Entry) (book : IsBook price start history picture) where
  pub book_replays : Replays price start.limits start.rows history picture.rows
  book_replays = replays price start.limits history start.rows picture.rows book.replayed

  pub book_lawful : IsPicture picture.limits picture.rows
  book_lawful = subst (λ (limits : Limits). IsPicture limits picture.rows) (sym book.same_limits)
      (last_lawful price start.limits history start.rows picture.rows book.replayed)

  -- a step makes a book of a book
  pub book_steps : (next : Shown) (entry : Entry) → Step price picture.limits picture.rows entry.call entry.reply next.rows → next.limits ≡ picture.limits
      → IsPicture next.limits next.rows
      → IsBook price start (history ++ entry ∷ []) next
  book_steps next entry step limits good =
      let same = limits ∙ book.same_limits in
      record {
        same_limits = same;
        replayed = steps_on price start.limits history start.rows picture.rows next.rows entry book.replayed
            (subst (λ (l : Limits). Step price l picture.rows entry.call entry.reply next.rows) book.same_limits step)
            (subst (λ (l : Limits). IsPicture l next.rows) same good);
      }

-- so a book is legal
pub is_legal : {F : Type 0} (answers : F → Asking) (book : BookState F)
    → IsBook (prices_of (answers book.tariff)) book.start book.history book.picture → IsLegalBook answers book
is_legal answers book is = record {
  replayed = book_replays (prices_of (answers book.tariff)) book.start book.picture book.history is;
  on_the_way = is.replayed;
  lawful = book_lawful (prices_of (answers book.tariff)) book.start book.picture book.history is;
  same_limits = is.same_limits;
}

-- what holds where a call does not fail
pub on_ok : {A E P : Type 0} (r : Result A E) → is_err r ≡ false → OnOk r P → P
on_ok (Ok x) h p = p
on_ok (Err e) h p = cc

-- what follows where a call does not fail
pub on_ok_so : {A E P Q : Type 0} (r : Result A E) → (P → Q) → OnOk r P → OnOk r Q
on_ok_so (Ok x) f p = f p
on_ok_so (Err e) f p = p

-- what holds where a call fails
pub on_err : {A E P : Type 0} (r : Result A E) → is_err r ≡ true → OnErr r P → P
on_err (Ok x) h p = cc
on_err (Err e) h p = p

-- what was made ready makes a book of a book
pub book_follows : {F : Type 0} (price : Pricing) (book : BookState F) (next : NextState) → IsBook price book.start book.history book.picture
    → IsNext next.entry next.picture
    → CanFollow price book next → IsBook price book.start (book.history ++ next.entry ∷ []) (picture_after next.picture book.picture)
book_follows price book next is_book is_next follows =
    book_steps price book.start book.picture book.history is_book (picture_after next.picture book.picture) next.entry follows.step follows.same_limits
    (lawful_after next.picture is_next.lawful) where
      lawful_after : (after : Option Shown) → IfSome after (λ p. IsPicture p.limits p.rows)
          → IsPicture (picture_after after book.picture).limits (picture_after after book.picture).rows
      lawful_after (Some p) good = good
      lawful_after None good = book_lawful price book.start book.picture book.history is_book
