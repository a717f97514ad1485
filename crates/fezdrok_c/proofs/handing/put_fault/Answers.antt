use Rattle.std.proofs.Common.{◌≡◌, ℕ, List, [], ◌∷◌, ◌++◌, ap, arith, codes, decimal, inr}
use Rattle.std.proofs.lemmas.Fmt.{decimal-digits_of}
use Rattle.topo_io.specs.declared.fault.RunFault.TheVariants.{Memory}
use Rattle.topo_io.specs.Statuses.{fault_line}
use Rattle.fezdrok_c.proofs.handing.put_fault.Goals as goal

eight : decimal 8 ≡ 56 ∷ []
eight = decimal-digits_of 8 (omega arith) (omega arith)

line : fault_line Memory ≡ codes "planar: 8 Memory\n"
line = ap (λ (n : List ℕ). codes "planar: " ++ ((n ++ (codes " " ++ codes "Memory")) ++ 10 ∷ [])) eight

pub returns-in-Err : goal.returns-in-Err
returns-in-Err c = inr (rw line c.put-in-Err.ensures)
