-- A failed change of rows with their embedding leaves the rows.
use Rattle.std.proofs.Common.{◌≡◌, ap, Result, Ok, Err, OnErr}
use Rattle.topo_embedded.specs.Halves.{RowsWithPaths}

pub rows_left : {A E : Type 0} (r : Result A E) (new old : RowsWithPaths) → OnErr r (new ≡ old) → OnErr r (new.rows ≡ old.rows)
rows_left (Ok done) new old same = tt
rows_left (Err why) new old same = ap (λ (p : RowsWithPaths). p.rows) same
