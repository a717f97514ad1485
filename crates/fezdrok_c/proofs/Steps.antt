-- What the walks of the exports that reach through a pointer share.
pub use Rattle.std.proofs.Common.{List, [], ap, length, refl, w32, w64, w8, ℕ, ◌++◌, ◌∷◌}
pub use Rattle.std.proofs.raw_atomic.Walks.{proved}
pub use base.Fml.{Incl-refl, fat, flent, flft, ftrue}
pub use base.Fraction.{full_share}
pub use base.Logic.{emp, ex_i, id⊢, sep}
pub use borrow.Table.OneValue.{part_in, part_out}
pub use contract.BorrowLft.{◌⊑◌}
pub use contract.Monad.{fact, fact_i}
pub use contract.Running.{tables}
pub use denote.Builtin.{u32, u8, unit}
pub use denote.Exit.{yes}
pub use denote.Laws.{Is, shows}
pub use denote.Lend.{LentAgain, comes_back, lends_again, lends_ref, ref_back}
pub use denote.Memory.{lone, mem, part_at}
pub use denote.Param.NoDrop.{glues}
pub use denote.Plain.{uint_Lawful, uint_Makes, uint_Tells, uint_vals}
pub use denote.RawPtr.{Ptr, RawPtr, block_ptr, in_a_block, lies_at, rawptr_Tells, rawptr_vals, room_at}
pub use denote.Ref.{MutRef, ShrRef, mut_Tells, mut_vals, shr_Tells, shr_vals}
pub use denote.Signature.{plain, shr_ref_to, shr_slice_of}
pub use denote.Slice.{ShrSlice, shr_slice_Tells, shr_slice_vals}
pub use denote.Steps.{heard, nothing, only, owned, peeks}
pub use denote.Triple.Call.{calls_at}
pub use denote.Triple.Clauses.{Lasts, lasts}
pub use denote.Triple.Entry.{on_entry}
pub use denote.Triple.Spec.{triple_of}
pub use denote.Triple.Table.{framed}
pub use denote.Triple.Walked.{Goes-dropped, Goes-ref, Stays, ends_at, stay_dropped, stay_ref, walk_of}
pub use mathlib.Core.List.{not-mem-nil}
pub use mir.Syntax.{named}
pub use mir.Val.{Fits, Val, vptr, vunit}
pub use prog.Wp.{WpFn}
pub use types.ByLocal.{alloc_all, env, free_all, get, lands_as, look_at, pass_all, sets, sets_last, through}
pub use types.Kit.{ !, at_ret, await, done, drop, feq_i, feq_l, fsplit, group, join, keep, later, move, pick, prop, qed, raw, regoal, some, split, suffices, use0, use1, use2, use3, ‵, ◌$◌, ◌∵◌, ◌⊛◌}
pub use types.Run.{addr, and_then, assigns, blocks, enter, exec, first, init, load, look, no_more, of_opd, returns, stop, unit_lit}
pub use types.SemTy.{Body}
pub use types.Tokens.{lft_end, lft_new}
