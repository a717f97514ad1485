use Rattle.std.proofs.Common.{length}
use Rattle.std.specs.Prelude.{nat_lt}
use Rattle.topo_book.specs.declared.replicas.TheConstants.{MAX_REPLICAS}
use Rattle.topo_book.proofs.ReplicaLaws.{book_kept, book_left}
use Rattle.topo_book.proofs.book.Book.take_current_replica.Goals as goal

pub invariant_of-self : goal.invariant_of-self
invariant_of-self g c = book_left c.self.invariant _ c.take_unshared.ensures.rest

pub invariant_of-self-2 : goal.invariant_of-self-2
invariant_of-self-2 g c = book_left c.self.invariant _ c.take_unshared.ensures.rest

pub invariant_of-self-then-is_err : goal.invariant_of-self-then-is_err
invariant_of-self-then-is_err g c =
    let left = book_left c.self.invariant c.take_unshared.new.self c.take_unshared.ensures.rest in
    rw c.keep.ensures (book_kept left (nat_lt (length c.take_unshared.new.self) MAX_REPLICAS) c.bring_up_to_date.new.replica c.bring_up_to_date.ensures.stands)

pub invariant_of-self-else-is_err : goal.invariant_of-self-else-is_err
invariant_of-self-else-is_err g c = book_left c.self.invariant _ c.take_unshared.ensures.rest
