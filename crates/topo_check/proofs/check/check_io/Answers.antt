use Rattle.std.proofs.Common.{List, rules, subst, ℕ, IfErr}
use Rattle.std.proofs.KnownBytes.{Keeps-refl}
use Rattle.topo_script.specs.Reads.{Gives}
use Rattle.topo_script.specs.RowForms.{rows_of}
use Rattle.topo_io.proofs.Interface.{err_by, err_so, ok_by}
use Rattle.topo_check.specs.Checks.{IsUnlawful}
use Rattle.topo_check.proofs.Telling.{check_fails, check_unwritten, checked}
use Rattle.topo_check.proofs.check.check_io.Goals as goal

pub returns-in_err-line-clause-fault : goal.returns-in_err-line-clause-fault
returns-in_err-line-clause-fault g c =
    let gives = subst (λ (bs : List ℕ). Gives c.read_rows-read.result (rows_of bs)) c.as_slice.ensures.value c.read_rows-read.ensures in
    let unlawful = c.in_err-line.ensures.fault c.in_ok-bytes.bytes.items gives in
    let told : IfErr c.from_residual-in_err-line.result (IsUnlawful c.in_ok-bytes.bytes.items) = search rules in
    err_so c.from_residual-in_err-line.result _ _
    (λ fault is. check_fails _ _ _ _ c.in_ok-bytes.bytes.items c.in_ok-bytes.ensures.read fault is (Keeps-refl _)) told

pub returns-clause-done : goal.returns-clause-done
returns-clause-done g c =
    let gives = subst (λ (bs : List ℕ). Gives c.read_rows-read.result (rows_of bs)) c.as_slice.ensures.value c.read_rows-read.ensures in
    let told = c.in_ok-line.ensures.line c.in_ok-bytes.bytes.items gives in
    ok_by c.write_text.result _ _ (λ written. checked _ _ _ _ c.in_ok-bytes.bytes.items c.in_ok-bytes.ensures.read _ _ told c.as_str.ensures.value written)
    c.write_text.ensures.all

pub returns-clause-fault : goal.returns-clause-fault
returns-clause-fault g c =
    let gives = subst (λ (bs : List ℕ). Gives c.read_rows-read.result (rows_of bs)) c.as_slice.ensures.value c.read_rows-read.ensures in
    let told = c.in_ok-line.ensures.line c.in_ok-bytes.bytes.items gives in
    err_by c.write_text.result _ _ _ (λ fault part is. check_unwritten _ _ _ _ c.in_ok-bytes.bytes.items c.in_ok-bytes.ensures.read fault _ _ told
    c.as_str.ensures.value part is) c.write_text.ensures.part
    c.write_text.ensures.err
