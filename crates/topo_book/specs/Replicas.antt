-- A book with the replicas that it keeps.
use Rattle.std.specs.Prelude.{List, All, Option, IfSome}
use Rattle.std.specs.Arc.{arc_value}
use Rattle.topo_core.specs.declared.calls.Entry.{Entry}
use Rattle.topo_core.specs.Routes.{Pricing}
use Rattle.topo_price.specs.Prices.{Asking}
use Rattle.topo_rows.specs.Shown.{Shown}
use Rattle.topo_book.specs.Books.{BookState, IsBook, IsReplica, StandsAfter}
use Rattle.topo_book.specs.declared.replicas.Replica.{Replica}

-- the replica stands after the first entries of the book's history, as many as it says
abbrev pub IsReplicaOf : {F : Type 0} → (F → Asking) → BookState F → Replica → Type 0
IsReplicaOf answers book replica = StandsAfter answers book replica.entries (arc_value replica.picture)

-- each stands after the first entries of the history, as many as it says
abbrev pub AreReplicas : Pricing → Shown → List Entry → List Replica → Type 0
AreReplicas price start history replicas = All (λ r. IsReplica price start history r.entries (arc_value r.picture)) replicas

-- the history leads from the start to the picture, and the replicas are of that history, also the one that follows
pub record IsBookWith (price : Pricing) (start : Shown) (history : List Entry) (picture : Shown) (kept : List Replica) (behind : Option Replica) : Type 0 where
  pub book : IsBook price start history picture
  pub replicas : AreReplicas price start history kept
  pub follower : IfSome behind (λ r. IsReplica price start history r.entries (arc_value r.picture))
