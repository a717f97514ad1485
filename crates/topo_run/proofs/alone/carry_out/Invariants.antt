use Rattle.std.proofs.Common.{take}
use Rattle.topo_book.specs.Books.{IsSameBook}
use Rattle.topo_run.specs.Working.{HasEntered}
use Rattle.topo_run.proofs.alone.carry_out.Given as goal

abbrev pub invariant-loop-index : goal.invariant-loop-index
invariant-loop-index g l = record {
  entered : HasEntered (take l.index l.list) l.book.history;
  same_book : IsSameBook l.initial.book l.book;
}
