use Rattle.std.proofs.lemmas.Bool.{false≢true}
use Rattle.topo_book.proofs.steps.passes.Goals as goal

pub returns-in-Err : goal.returns-in-Err
returns-in-Err g c never = elim (false≢true never) [ ]
