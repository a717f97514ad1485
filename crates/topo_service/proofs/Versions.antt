-- The accepted entries of a history are a version.
use Rattle.std.proofs.Common.{◌≡◌, ◌≤◌, Bool, true, false, List, [], ◌∷◌, ◌++◌, Option, Some, None, IfSome, length}
use Rattle.std.proofs.Common.{refl, ap, sym, subst, ◌∙◌, arith, append_assoc, length-append, if◌then◌else◌, Bor}
use Rattle.std.specs.Prelude.{is_some}
use Rattle.std.specs.Option.{option_copied}
use Rattle.std.proofs.lemmas.List.{append-nil}
use Rattle.std.proofs.lemmas.List.Elements.{filter-append}
use Rattle.topo_core.specs.declared.rows.Rows.{Rows}
use Rattle.topo_core.specs.declared.limits.Limits.{Limits}
use Rattle.topo_core.specs.declared.calls.Call.{Call}
use Rattle.topo_core.specs.declared.calls.Call.TheVariants.{Grow, Insert, Delete}
use Rattle.topo_core.specs.declared.calls.Entry.{Entry}
use Rattle.topo_core.specs.declared.calls.Reply.{Reply}
use Rattle.topo_core.specs.declared.calls.Reply.TheVariants.{Grown, Inserted as Put, Deleted, Refused}
use Rattle.topo_core.specs.Routes.{Pricing}
use Rattle.topo_core.specs.Steps.{Step}
use Rattle.topo_core.specs.History.{IsPrefix, IsVersion, Replays, is_accepted, versions}
use Rattle.topo_core.proofs.Interface.{replays_on, versions_replay}
use Rattle.topo_book.specs.Books.{BookState, CanFollow, IsSameBook, IsUnchanged, NextState, picture_after}
use Rattle.topo_price.specs.Prices.{Asking, prices_of}
use Rattle.topo_versions.specs.Names.{prices_named}
use Rattle.topo_rows.specs.Shown.{IsPicture, Shown}
use Rattle.topo_versions.specs.Versions.{IsVersionFrom}

versions_again : (es : List Entry) → versions (versions es) ≡ versions es
versions_again [] = refl
versions_again (e ∷ es) = by_reply (is_accepted e.reply) refl (versions_again es) where
  by_reply : (b : Bool) → is_accepted e.reply ≡ b → versions (versions es) ≡ versions es → versions (versions (e ∷ es)) ≡ versions (e ∷ es)
  by_reply true on rest = rw (on, on) (ap (λ l. e ∷ l) rest)
  by_reply false off rest = rw off rest

pub is_version : (price : Pricing) (limits : Limits) (start picture : Rows) (history : List Entry) → Replays price limits start history picture
    → IsVersion price limits start (versions history) picture
is_version price limits start picture history way =
    record { accepted = versions_again history; replayed = versions_replay price limits history start picture way }

-- the versions of a history with one entry more
pub versions_go_on : (es : List Entry) (e : Entry) → versions (es ++ e ∷ []) ≡ (if is_accepted e.reply then versions es ++ e ∷ [] else versions es)
versions_go_on es e = filter-append (λ (x : Entry). is_accepted x.reply) es (e ∷ []) ∙ by_reply (is_accepted e.reply) refl where
  by_reply : (b : Bool) → is_accepted e.reply ≡ b → versions es ++ versions (e ∷ []) ≡ (if is_accepted e.reply then versions es ++ e ∷ [] else versions es)
  by_reply true on = rw on refl
  by_reply false off = rw off (append-nil (versions es))

pub versions_on : (es : List Entry) (e : Entry) → is_accepted e.reply ≡ true → versions (es ++ e ∷ []) ≡ versions es ++ e ∷ []
versions_on es e on = versions_go_on es e ∙ by_test on where
  by_test : is_accepted e.reply ≡ true → (if is_accepted e.reply then versions es ++ e ∷ [] else versions es) ≡ versions es ++ e ∷ []
  by_test on = rw on refl

-- a reply that refuses a call leaves the picture, so it is the one due there
pub refused_due : (price : Pricing) (limits : Limits) (p q : Rows) (call : Call) (reply : Reply) → is_accepted reply ≡ false
    → Step price limits p call reply q → Step price limits q call reply q
refused_due price limits p q (Grow u position kind) (Refused why) off step =
    subst (λ (r : Rows). Step price limits r (Grow u position kind) (Refused why) q) (sym step.1) step
refused_due price limits p q (Insert u v kind) (Refused why) off step =
    subst (λ (r : Rows). Step price limits r (Insert u v kind) (Refused why) q) (sym step.1) step
refused_due price limits p q (Delete e) (Refused why) off step =
    subst (λ (r : Rows). Step price limits r (Delete e) (Refused why) q) (sym step.1) step
refused_due price limits p q call (Grown vertex edge) off step = cc
refused_due price limits p q call (Put made) off step = cc
refused_due price limits p q call (Deleted edge) off step = cc

-- what begins the versions begins them with one entry more
pub begins_on : (seen es : List Entry) (e : Entry) → IsPrefix seen (versions es) → IsPrefix seen (versions (es ++ e ∷ []))
begins_on seen es e (more, is) = by_reply (is_accepted e.reply) refl where
  by_reply : (b : Bool) → is_accepted e.reply ≡ b → IsPrefix seen (versions (es ++ e ∷ []))
  by_reply true on = (more ++ e ∷ [], versions_on es e on ∙ ap (λ l. l ++ e ∷ []) is ∙ append_assoc seen more (e ∷ []))
  by_reply false off = (more, versions_go_on es e ∙ rw off is)

-- a beginning is no longer than the whole
pub begins_length : (seen whole : List Entry) → IsPrefix seen whole → length seen ≤ length whole
begins_length seen whole (more, is) = omega (arith, ap length is, length-append seen more)

-- versions are at most as many as entries
pub versions_length : (es : List Entry) → length (versions es) ≤ length es
versions_length [] = omega arith
versions_length (e ∷ es) = by_reply (is_accepted e.reply) refl (versions_length es) where
  by_reply : (b : Bool) → is_accepted e.reply ≡ b → length (versions es) ≤ length es → length (versions (e ∷ es)) ≤ length (e ∷ es)
  by_reply true on rest = rw on (omega (arith, rest))
  by_reply false off rest = rw off (omega (arith, rest))

-- a picture that is lent is lawful where what was lent is
pub copied_lawful : (lent : Option (Bor Shown)) → IfSome lent (λ p. IsPicture p.now.limits p.now.rows)
    → IfSome (option_copied lent) (λ p. IsPicture p.limits p.rows)
copied_lawful None _ = tt
copied_lawful (Some p) lawful = lawful

pub copied_there : (lent : Option (Bor Shown)) → is_some lent ≡ is_some (option_copied lent)
copied_there None = refl
copied_there (Some p) = refl

-- a replay with one accepted entry more is a version, one step on
version_on : (price : Pricing) (start : Shown) (history : List Entry) (picture : Shown) {next : Shown} (entry : Entry)
    → Replays price start.limits start.rows history picture.rows
    → is_accepted entry.reply ≡ true → Step price start.limits picture.rows entry.call entry.reply next.rows → next.limits ≡ start.limits
    → IsPicture next.limits next.rows
    → IsVersionFrom price start (versions history ++ entry ∷ []) next
version_on price start history picture {next} entry way on step same good = record {
  replayed = record {
    accepted = versions_on (versions history) entry on ∙ ap (λ l. l ++ entry ∷ []) (versions_again history);
    replayed = replays_on price start.limits (versions history) start.rows picture.rows next.rows entry
        (versions_replay price start.limits history start.rows picture.rows way) step;
  };
  same_limits = same;
  lawful = good;
}

module _ {F : Type 0} (answers : F → Asking) (closure : Option F) (start : Shown) (old new : BookState F) (next : NextState) (named : closure ≡ Some old.tariff)
    (from : old.start ≡ start)
    (unchanged : IsUnchanged old new) (same_book : IsSameBook old new) (limits : old.picture.limits ≡ old.start.limits)
    (ready : CanFollow (prices_of (answers new.tariff)) new next) where
  -- what was made ready is a step from the picture before, by the prices that are named
  old_step : Step (prices_of (answers old.tariff)) old.start.limits old.picture.rows next.entry.call next.entry.reply
      (picture_after next.picture old.picture).rows
  old_step =
      let call = next.entry.call in
      let reply = next.entry.reply in
      let one = subst (λ (t : F). Step (prices_of (answers t)) new.picture.limits new.picture.rows call reply (picture_after next.picture new.picture).rows)
      same_book.0 ready.step in
      let two = subst (λ (s : Shown). Step (prices_of (answers old.tariff)) s.limits s.rows call reply (picture_after next.picture s).rows) unchanged.1 one in
      subst (λ (l : Limits). Step (prices_of (answers old.tariff)) l old.picture.rows call reply (picture_after next.picture old.picture).rows) limits two

  pub named_step : Step (prices_named answers closure) start.limits old.picture.rows next.entry.call next.entry.reply
      (picture_after next.picture old.picture).rows
  named_step =
      subst (λ (o : Option F). Step (prices_named answers o) start.limits old.picture.rows next.entry.call next.entry.reply
      (picture_after next.picture old.picture).rows) (sym named)
      (subst (λ (s : Shown). Step (prices_of (answers old.tariff)) s.limits old.picture.rows next.entry.call next.entry.reply
      (picture_after next.picture old.picture).rows) from old_step)

  -- and where it is accepted, the versions and its entry lead to its picture
  pub version_ready : Replays (prices_of (answers old.tariff)) old.start.limits old.start.rows old.history old.picture.rows → (picture : Shown)
      → next.picture ≡ Some picture
      → is_accepted next.entry.reply ≡ true → IsPicture picture.limits picture.rows
      → IsVersionFrom (prices_named answers closure) start (versions old.history ++ next.entry ∷ []) picture
  version_ready way picture is on good =
      let price = prices_of (answers old.tariff) in
      let step = subst (λ (o : Option Shown). Step price old.start.limits old.picture.rows next.entry.call next.entry.reply (picture_after o old.picture).rows)
      is old_step in
      let same : picture.limits ≡ old.start.limits = sym (ap (λ (o : Option Shown). (picture_after o new.picture).limits) is) ∙ ready.same_limits
      ∙ ap (λ (s : Shown). s.limits) unchanged.1 ∙ limits in
      let there = version_on price old.start old.history old.picture next.entry way on step same good in
      subst (λ (o : Option F). IsVersionFrom (prices_named answers o) start (versions old.history ++ next.entry ∷ []) picture) (sym named)
      (subst (λ (s : Shown). IsVersionFrom price s (versions old.history ++ next.entry ∷ []) picture) from there)

-- the same of each picture that there is
pub if_some : {A : Type 0} (P : A → Type 0) (o : Option A) → ((x : A) → o ≡ Some x → P x) → IfSome o P
if_some P (Some x) f = f x refl
if_some P None f = tt
