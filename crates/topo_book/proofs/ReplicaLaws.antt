-- Replicas: what they are when a history grows, when they are carried on, and when they are up to date.
use Rattle.std.proofs.Common.{◌≡◌, ◌≤◌, ◌+◌, ℕ, Bool, true, false, List, [], ◌∷◌, ◌++◌, length}
use Rattle.std.proofs.Common.{take, drop, None, Option, Some, sym, subst, ap, arith, length-append, add-one, ◌∙◌}
use Rattle.std.specs.Prelude.{All, Contains, IfSome, if◌then◌else◌, slice_get}
use Rattle.std.specs.Arc.{arc_value}
use Rattle.std.proofs.lemmas.List.{length-take-le, take-append-le, take-take}
use Rattle.std.proofs.lemmas.List.Elements.{All-contains, All-drop, All-push, All-weaker}
use Rattle.std.proofs.Math.Seq.{take-length}
use Rattle.topo_core.specs.declared.rows.Rows.{Rows}
use Rattle.topo_core.specs.declared.limits.Limits.{Limits}
use Rattle.topo_core.specs.declared.calls.Entry.{Entry}
use Rattle.topo_core.specs.Routes.{Pricing}
use Rattle.topo_core.specs.Steps.{Step}
use Rattle.topo_core.specs.History.{Replays}
use Rattle.topo_core.proofs.Interface.{one_step}
use Rattle.topo_rows.specs.Shown.{IsPicture, Shown}
use Rattle.topo_book.specs.declared.replicas.Replica.{Replica}
use Rattle.topo_book.specs.Books.{IsBook, IsDue, IsReplica}
use Rattle.topo_book.specs.Replicas.{AreReplicas, IsBookWith}
use Rattle.topo_book.proofs.Histories.{book_lawful, book_replays, book_steps}
use Rattle.topo_book.proofs.Wrong.{legal_at, take_one_more}

-- a list of entries has one replay
pub one_replay : (price : Pricing) (limits : Limits) (entries : List Entry) (p q r : Rows) → Replays price limits p entries q
    → Replays price limits p entries r → q ≡ r
one_replay price limits [] p q r way other = way ∙ sym other
one_replay price limits (entry ∷ entries) p q r way other =
    let same = one_step price limits p entry.call entry.reply entry.reply way.0 other.0 way.1 other.1 in
    one_replay price limits entries way.0 q r way.2 (subst (λ (s : Rows). Replays price limits s entries r) (sym same.1) other.2)

module _ (price : Pricing) (start : Shown) (history : List Entry) where
  -- the picture of a book stands after all entries
  pub whole : (picture : Shown) → IsBook price start history picture → IsReplica price start history (length history) picture
  whole picture book = record {
    there = omega arith;
    stands = subst (λ (h : List Entry). IsBook price start h picture) (sym (take-length history)) book;
  }

  -- a replica is lawful
  pub replica_lawful : (entries : ℕ) (picture : Shown) → IsReplica price start history entries picture → IsPicture picture.limits picture.rows
  replica_lawful entries picture replica = book_lawful price start picture (take entries history) replica.stands

  -- a replica stays one when the history grows
  pub longer : (entry : Entry) (entries : ℕ) (picture : Shown) → IsReplica price start history entries picture
      → IsReplica price start (history ++ entry ∷ []) entries picture
  longer entry entries picture replica = record {
    there = simp length-append (omega (arith, replica.there));
    stands = subst (λ (h : List Entry). IsBook price start h picture) (sym (take-append-le entries history (entry ∷ []) replica.there)) replica.stands;
  }

  pub some_longer : (entry : Entry) (behind : Option Replica) → IfSome behind (λ r. IsReplica price start history r.entries (arc_value r.picture))
      → IfSome behind (λ r. IsReplica price start (history ++ entry ∷ []) r.entries (arc_value r.picture))
  some_longer entry (Some r) is = longer entry r.entries (arc_value r.picture) is
  some_longer entry None is = is

  -- a replica stays one when entries behind it are taken back
  pub shorter : (kept entries : ℕ) (picture : Shown) → entries ≤ kept → kept ≤ length history → IsReplica price start history entries picture
      → IsReplica price start (take kept history) entries picture
  shorter kept entries picture before there replica = record {
    there = rw (length-take-le kept history there) before;
    stands = subst (λ (h : List Entry). IsBook price start h picture) (sym (take-take entries kept history before)) replica.stands;
  }

  -- the reply of the entry behind a replica is the one due
  pub due_at : (now : Shown) → IsBook price start history now → (i : ℕ) (entry : Entry) (picture : Shown) → IsReplica price start history i picture
      → slice_get history i ≡ Some entry
      → IsDue price picture.limits picture.rows entry.call entry.reply
  due_at now book i entry picture replica there =
      let way = legal_at price start.limits history i start.rows picture.rows now.rows entry (book_replays price start now history book)
      (book_replays price start picture (take i history) replica.stands) there in
      subst (λ (l : Limits). IsDue price l picture.rows entry.call entry.reply) (sym replica.stands.same_limits) way

  -- by that entry it stands after one more
  pub one_on : (i : ℕ) (entry : Entry) (picture next : Shown) → IsReplica price start history i picture → slice_get history i ≡ Some entry
      → i + 1 ≤ length history
      → Step price picture.limits picture.rows entry.call entry.reply next.rows → next.limits ≡ picture.limits → IsPicture next.limits next.rows
      → IsReplica price start history (i + 1) next
  one_on i entry picture next replica there fits step limits good = record {
    there = fits;
    stands = rw add-one (subst (λ (h : List Entry). IsBook price start h next) (sym (take_one_more history i entry there))
        (book_steps price start picture (take i history) replica.stands next entry step limits good));
  }

  -- a replica that stands after all entries is the picture of the book
  pub up_to_date : (now : Shown) → IsBook price start history now → (picture : Shown) → IsReplica price start history (length history) picture → picture ≡ now
  up_to_date now book picture replica =
      let stands = subst (λ (h : List Entry). IsBook price start h picture) (take-length history) replica.stands in
      let limits = stands.same_limits ∙ sym book.same_limits in
      let rows = one_replay price start.limits history start.rows picture.rows now.rows (book_replays price start picture history stands)
      (book_replays price start now history book) in
      same_shown picture now limits rows where
        same_shown : (a b : Shown) → a.limits ≡ b.limits → a.rows ≡ b.rows → a ≡ b
        same_shown a b l r = ap (λ (x : Limits). (let s : Shown = record { limits = x; rows = a.rows } in s)) l
            ∙ ap (λ (x : Rows). (let s : Shown = record { limits = b.limits; rows = x } in s)) r

  -- ---- Lists of replicas

  pub all_longer : (entry : Entry) (replicas : List Replica) → AreReplicas price start history replicas
      → AreReplicas price start (history ++ entry ∷ []) replicas
  all_longer entry = All-weaker (λ (r : Replica). IsReplica price start history r.entries (arc_value r.picture))
      (λ (r : Replica). IsReplica price start (history ++ entry ∷ []) r.entries (arc_value r.picture))
      (λ r. longer entry r.entries (arc_value r.picture))

  -- the list after one more is kept, and perhaps the first is dropped
  pub all_kept : (b : Bool) (replicas : List Replica) (replica : Replica) → AreReplicas price start history replicas
      → IsReplica price start history replica.entries (arc_value replica.picture)
      → AreReplicas price start history ((if b then replicas else drop 1 replicas) ++ replica ∷ [])
  all_kept b replicas replica all is = All-push P (if b then replicas else drop 1 replicas) replica (some b) is where
    P : Replica → Type 0
    P = λ r. IsReplica price start history r.entries (arc_value r.picture)

    some : (b : Bool) → All P (if b then replicas else drop 1 replicas)
    some true = all
    some false = All-drop P 1 replicas all

  -- those that are left when one is taken
  pub all_left : (replicas left : List Replica) → AreReplicas price start history replicas → All (Contains replicas) left → AreReplicas price start history left
  all_left replicas left all among =
      λ k d before. All-contains (λ (r : Replica). IsReplica price start history r.entries (arc_value r.picture)) replicas _ all (among k d before)

-- ---- Books with the replicas that they keep

module _ {price : Pricing} {start : Shown} {history : List Entry} {picture : Shown} {kept : List Replica} {behind : Option Replica}
    (book : IsBookWith price start history picture kept behind) where
  -- when some of the replicas are dropped
  pub book_left : (left : List Replica) → All (Contains kept) left → IsBookWith price start history picture left behind
  book_left left among = record { book = book.book; replicas = all_left price start history kept left book.replicas among; follower = book.follower }

  -- when one more is kept
  pub book_kept : (b : Bool) (replica : Replica) → IsReplica price start history replica.entries (arc_value replica.picture)
      → IsBookWith price start history picture ((if b then kept else drop 1 kept) ++ replica ∷ []) behind
  book_kept b replica is = record { book = book.book; replicas = all_kept price start history b kept replica book.replicas is; follower = book.follower }

  -- when an entry comes after the others
  pub book_on : (entry : Entry) (next : Shown) → IsBook price start (history ++ entry ∷ []) next
      → IsBookWith price start (history ++ entry ∷ []) next kept behind
  book_on entry next is = record {
    book = is;
    replicas = all_longer price start history entry kept book.replicas;
    follower = some_longer price start history entry behind book.follower;
  }

  -- the picture before that entry
  pub before_entry : (entry : Entry) → IsReplica price start (history ++ entry ∷ []) (length history) picture
  before_entry entry = longer price start history entry (length history) picture (whole price start history picture book.book)
