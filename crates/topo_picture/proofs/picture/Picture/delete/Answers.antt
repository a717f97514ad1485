use Rattle.std.proofs.Common.{◌≡◌, ◌⊎◌, ℕ, true, None, is_some, inl, inr, Result, Ok, Err, OnErr}
use Rattle.topo_core.specs.declared.calls.Refusal.{Refusal}
use Rattle.topo_core.specs.declared.calls.Refusal.TheVariants.{Cut, NoEdge}
use Rattle.topo_core.specs.declared.rows.Rows.{Rows}
use Rattle.topo_core.specs.Changes.{IsCut}
use Rattle.topo_core.specs.Picture.{edge_row}
use Rattle.topo_picture.specs.Undoing.{IsShownOn}
use Rattle.topo_picture.proofs.DeletedPicture.{shown_no_cut, shown_there, undone_rows}
use Rattle.topo_picture.proofs.picture.Picture.delete.Goals as goal

-- an edge that may not go was not shown last
may_go : (p rows : Rows) (e : ℕ) (why : Refusal) → IsShownOn p rows e
    → ((why ≡ NoEdge) × (edge_row rows e ≡ None)) ⊎ ((i : ℕ) × (why ≡ Cut i) × (is_some (edge_row rows e) ≡ true) × IsCut rows e i) → ⊥
may_go p rows e why last (inl none) = shown_there p rows e last none.1
may_go p rows e why last (inr cut) = shown_no_cut p rows e cut.0 last cut.3

on_err : {A E : Type 0} (P : Type 0) (r : Result A E) → P → OnErr r P
on_err P (Ok x) h = tt
on_err P (Err e) h = h

pub returns-in_err-admit_deletion-clause-can_undo : goal.returns-in_err-admit_deletion-clause-can_undo
returns-in_err-admit_deletion-clause-can_undo c =
    on_err ((p : Rows) → IsShownOn p c.args.self.now.rows c.args.edge → ⊥) c.from_residual.result
    (λ p last. may_go p c.args.self.now.rows c.args.edge _ last c.in_err-admit_deletion.ensures.refused)

pub returns-clause-undoes : goal.returns-clause-undoes
returns-clause-undoes c p last = undone_rows p c.args.self.now.rows c.delete_known.new.self.rows c.args.edge last c.delete_known.ensures.without
