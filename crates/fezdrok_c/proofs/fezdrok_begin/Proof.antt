-- A session is made, and moved into the room.
use Rattle.fezdrok_c.proofs.Steps.{ !, Fits, Goes-dropped, Goes-ref, Incl-refl, Is, Lasts, LentAgain, List, MutRef, Ptr, RawPtr, ShrSlice, Stays, Val, WpFn, [], addr, alloc_all, and_then, assigns, await, block_ptr, calls_at, comes_back, done, emp, ends_at, enter, ex_i, fact, fact_i, feq_i, flft, framed, free_all, fsplit, ftrue, full_share, get, glues, group, heard, id⊢, in_a_block, init, join, keep, lands_as, lasts, later, lends_again, length, lft_end, lft_new, look_at, move, mut_Tells, mut_vals, named, no_more, nothing, of_opd, part_at, part_in, pass_all, peeks, pick, plain, prop, proved, qed, raw, rawptr_Tells, rawptr_vals, refl, regoal, returns, room_at, sep, sets, shows, shr_slice_Tells, shr_slice_of, shr_slice_vals, some, split, stay_dropped, stay_ref, stop, suffices, tables, through, triple_of, u8, unit_lit, use0, use1, use2, use3, vunit, w64, walk_of, yes, ‵, ℕ, ◌$◌, ◌++◌, ◌∵◌, ◌∷◌, ◌⊑◌, ◌⊛◌}
use Rattle.std.specs.contracts.alloc.Global.{the_row as A}
use Rattle.std.proofs.alloc.Global.TheLaws as heap
use Rattle.topo_price.specs.contracts.tariff.PriceTablePriceFn.TheImpl as price
use Rattle.topo_price.proofs.tariff.PriceTablePriceFn.TheImpl.Met as price_met
use Rattle.topo_io.specs.contracts.tables.PriceTableFromTable.TheImpl as from
use Rattle.topo_io.proofs.tables.PriceTableFromTable.TheImpl.Met as from_met
use Rattle.fezdrok_c.proofs.Tables.{drops, laws_of_T}
use Rattle.fezdrok_c.proofs.Tables.{laws_of_S}
use Rattle.fezdrok_c.specs.Blocks.{S, T, Held as Session, begun, is_held}
use Rattle.fezdrok_c.specs.Sessions.{IsBegun}
use Rattle.fezdrok_c.specs.contracts.handle.Text.{the_row as R3}
use Rattle.fezdrok_c.specs.contracts.fezdrok_begin as f
use Rattle.fezdrok_c.proofs.fezdrok_begin.Statement.{statement}
use Rattle.fezdrok_c.proofs.fezdrok_begin.Code as code
use Rattle.fezdrok_c.specs.contracts.handle.begin as g
use Rattle.fezdrok_c.proofs.handle.begin.Met.{met}

abbrev stayed : Stays f.ended.signature.params f.ended.kept
stayed = (stay_dropped _ yes, (stay_dropped _ yes, (stay_dropped _ yes, (stay_ref (1 ∷ []) tt (plain (λ _. R3)), (stay_ref (2 ∷ []) tt (plain (λ _. u8)), tt)))))

pub fezdrok_begin_spec : {M : Type 1} → statement M
unfolding Rattle.fezdrok_c.proofs.Destruct++none.drop.Code.code
fezdrok_begin_spec {M} 𝓤 𝓛 𝓜 𝓡 wired =
    let c = f.clauses 𝓛 𝓜.mem 𝓡.returns in let W = walk_of 𝓛 f.ended stayed c in let 𝓣 = tables 𝓤 𝓛.H 𝓜 𝓡 𝓡.env in
    proved 𝓛 f.ended stayed c 𝓜 𝓡 (Goes-dropped 𝓛 3 (plain (λ _. A)) yes (λ κs x w. refl), (Goes-dropped 𝓛 3 (plain (λ _. RawPtr)) yes (λ κs x w. refl), (Goes-dropped 𝓛 3 (shr_slice_of (0 ∷ []) tt (plain (λ _. u8))) yes (λ κs x w. refl), (Goes-ref 𝓛 3 1 tt (plain (λ _. R3)), (Goes-ref 𝓛 3 2 tt (plain (λ _. u8)), tt)))))
    f.Key.name code.function (code.unfolded 𝓤 𝓛.H 𝓜 𝓡 wired)
    (λ κs. ((λ h. heap.lowers.lowered h ∷ []), (rawptr_vals, (shr_slice_vals, (mut_vals, (mut_vals, tt)))))) (λ κs. (heap.lowers.val_is, (rawptr_Tells, (shr_slice_Tells (named 0) κs.0 u8, (mut_Tells (named 1) κs.1.0 R3, (mut_Tells (named 2) κs.1.1.0 u8, tt)))))) (λ κs qs bounds a _ are.
    let h = a.0 in let hs : List Val = heap.lowers.lowered h ∷ [] in let line2 = a.1.1.0 in let text = a.1.1.1.0 in let status = a.1.1.1.1.0 in
    let ok2 : Unit {0} × (Unit {0} × (Fits w64 (length line2.now) × Unit {0})) = (tt, (tt, (record { fits = are.1.1.0.0.1.0 }, tt))) in
    let y : Ptr → W.Ghost = λ p. ((κs, qs, bounds, (h, (p, (line2, (text, (status, tt))))), (hs, (rawptr_vals p, ((shr_slice_vals line2), ((mut_vals text), ((mut_vals status), tt)))))), tt) in
    qed 𝓛 (((‵ (flft κs.0 qs.0) ⊛ ‵ (flft κs.1.0 qs.1.0) ⊛ ‵ (flft κs.1.1.0 qs.1.1.0) ⊛ ‵ ftrue) ⊛ ‵ (A.own_val h hs) ⊛ ‵ (RawPtr.own_val a.1.0 (rawptr_vals a.1.0)) ⊛ ‵ ((ShrSlice (named 0) κs.0 u8).own_val line2 (shr_slice_vals line2)) ⊛ ‵ ((MutRef (named 1) κs.1.0 R3).own_val text (mut_vals text)) ⊛ ‵ ((MutRef (named 2) κs.1.1.0 u8).own_val status (mut_vals status)) ⊛ ‵ ftrue) ∷ ‵ (room_at S a.1.0) ∷ []) ∵
    move ! (1 ∷ []) $ in_a_block ! a.1.0 (λ p. room_at S p) (id⊢ 𝓤 _) (λ b o e.
    regoal ! (λ p. prop (WpFn 𝓤 𝓛.H 𝓣.C 𝓣.Λ code.function (hs ++ (rawptr_vals p ++ ((shr_slice_vals line2) ++ ((mut_vals text) ++ ((mut_vals status) ++ ([])))))) (W.post (y p)))) e refl $
    move ! (1 ∷ []) $ split ! $ split ! $ move ! (1 ∷ []) $ split ! $ move ! (1 ∷ []) $ split ! $ move ! (4 ∷ []) $ split ! $ move ! (1 ∷ []) $ split ! $ move ! (1 ∷ []) $ split ! $ move ! (1 ∷ []) $ split ! $ move ! (1 ∷ []) $ split ! $ keep ! (10 ∷ 5 ∷ 3 ∷ 2 ∷ 0 ∷ 9 ∷ 8 ∷ 6 ∷ []) $
    enter ! _ _ _ _ _ $ alloc_all ! (λ l. pass_all ! refl (((heap.the_row_laws.lawful 𝓛).typed h hs are.0).0, ((tt, tt), (ok2, ((tt, tt), ((tt, tt), tt))))) $
    sets ! (of_opd ! (get ! refl)) refl (tt, tt) $
    sets ! (addr ! (through ! refl (stop !))) refl (tt, tt) $
    sets ! (addr ! (through ! refl (stop !))) refl (tt, tt) $
    lft_new ! tt (λ β3.
    move ! (4 ∷ 7 ∷ []) $
    use2 𝓛 (later (some (λ (ε3 : ℕ). ‵ ((MutRef (named 1) (β3 ∷ []) R3).own_val (record text { ghost_name = ε3 }) (mut_vals text)) ⊛ ‵ (LentAgain R3 κs.1.0 (β3 ∷ []) qs.1.0 text.ghost_name text.ref_ptr.0 text.ref_ptr.1 ε3 text.now))))
    (lends_again 𝓛 R3 (named 1) κs.1.0 (β3 ∷ []) qs.1.0 text.ghost_name text.ref_ptr.0 text.ref_ptr.1 (named 1) text.now) $ await ! tt $ pick ! (λ ε3. split ! $
    lft_new ! tt (λ β4.
    move ! (7 ∷ 9 ∷ []) $
    use2 𝓛 (later (some (λ (ε4 : ℕ). ‵ ((MutRef (named 2) (β4 ∷ []) u8).own_val (record status { ghost_name = ε4 }) (mut_vals status)) ⊛ ‵ (LentAgain u8 κs.1.1.0 (β4 ∷ []) qs.1.1.0 status.ghost_name status.ref_ptr.0 status.ref_ptr.1 ε4 status.now))))
    (lends_again 𝓛 u8 (named 2) κs.1.1.0 (β4 ∷ []) qs.1.1.0 status.ghost_name status.ref_ptr.0 status.ref_ptr.1 (named 2) status.now) $ await ! tt $ pick ! (λ ε4. split ! $
    let G = triple_of 𝓛 (g.signature T from.ghosts from.dict price.ghosts price.dict drops) (g.spec T from.ghosts from.dict price.ghosts price.dict drops 𝓛 𝓜.mem 𝓡.returns) in
    let z : G.Ghost = (((κs.0, (β3 ∷ [], (β4 ∷ [], ([], tt)))), (qs.0, (full_share, (full_share, (full_share, tt)))), tt, (h, (line2, (record text { ghost_name = ε3 }, (record status { ghost_name = ε4 }, tt)))), (hs, ((shr_slice_vals line2), ((mut_vals text), ((mut_vals status), tt))))), tt) in
    nothing ! $ move ! (1 ∷ 0 ∷ []) $ join ! $ move ! (3 ∷ 0 ∷ []) $ join ! $ move ! (7 ∷ 0 ∷ []) $ join ! $ move ! (6 ∷ 0 ∷ []) $ join ! $ nothing ! $ use0 𝓛 (‵ (flft [] full_share)) (𝓛.lfts.lft-nil full_share) $ join ! $ move ! (3 ∷ 0 ∷ []) $ join ! $ move ! (4 ∷ 0 ∷ []) $ join ! $ move ! (5 ∷ 0 ∷ []) $ join ! $ join ! $ nothing ! $ use0 𝓛 (raw (fact 𝓤 ([] ⊑ T.lives))) (fact_i 𝓤 ([] ⊑ T.lives) (emp 𝓤) (Incl-refl [])) $ join ! $ move ! (1 ∷ 0 ∷ []) $ use2 𝓛 (raw (G.pre z)) (id⊢ 𝓤 _) $
    calls_at ! (framed 𝓤 𝓛.H 𝓜 (tables 𝓤 𝓛.H 𝓜 𝓡 𝓡.env)) G (met 𝓤 𝓛 𝓜 𝓡 (code.calls-fezdrok_c::handle::begin 𝓡.env wired) T laws_of_T from.ghosts from.dict price.ghosts price.dict drops (from_met.passed 𝓡.env (code.calls-topo_io::tables::PriceTableFromTable::from_table 𝓡.env wired) M 𝓤 𝓛 𝓜 𝓡) (price_met.passed 𝓡.env (code.calls-topo_price::tariff::PriceTablePriceFn::price 𝓡.env wired) (code.calls-topo_price::tariff::PriceTablePriceFn::price_of_kind 𝓡.env wired) M 𝓤 𝓛 𝓜 𝓡) (glues "fezdrok_c::Destruct++none::drop" 𝓡.env (code.calls-fezdrok_c::Destruct++none::drop 𝓡.env wired) T laws_of_T M 𝓤 𝓛 𝓜 𝓡)) z
    (and_then ! (get ! refl) (and_then ! (get ! refl) (and_then ! (get ! refl) (and_then ! (get ! refl) (no_more !))))) (λ v.
    use1 𝓛 (later (some (λ (s : Session). ((‵ (flft (κs.0) qs.0) ⊛ ‵ (flft (β3 ∷ []) full_share) ⊛ ‵ (flft (β4 ∷ []) full_share) ⊛ ‵ (flft ([]) full_share) ⊛ ‵ ftrue) ⊛ ‵ (S.own_val s (v ∷ []))) ⊛
    some (λ (ws : Lasts (g.ended T from.ghosts from.dict price.ghosts price.dict drops) z.0.0 z.0.3). ‵ (lasts (g.ended T from.ghosts from.dict price.ghosts price.dict drops) z.0.0 z.0.3 ws) ⊛ raw (fact 𝓤 (IsBegun line2.now s ws.1.1.0 ws.1.1.1.0)))))) (id⊢ 𝓤 _) $ await ! tt $ pick ! (λ s.
    split ! $ split ! $ split ! $ move ! (1 ∷ []) $ split ! $ move ! (1 ∷ []) $ split ! $ move ! (1 ∷ []) $ split ! $ move ! (3 ∷ []) $ lft_end ! tt $ move ! (3 ∷ []) $ lft_end ! tt $ move ! (6 ∷ []) $ pick ! (λ ws. split ! $
    move ! (1 ∷ []) $ heard ! _ (λ told.
    fsplit ! $ move ! (1 ∷ []) $ fsplit ! $ move ! (1 ∷ []) $ fsplit ! $ fsplit ! $ move ! (2 ∷ []) $ fsplit ! $ fsplit ! $ move ! (8 ∷ 14 ∷ 3 ∷ []) $ use3 𝓛 (later (‵ ((MutRef (named 1) κs.1.0 R3).own_val (record text { now = ws.1.1.0 }) (mut_vals text)) ⊛ ‵ (flft κs.1.0 qs.1.0))) (comes_back 𝓛 R3 (named 1) κs.1.0 (β3 ∷ []) qs.1.0 text.ghost_name text.ref_ptr.0 text.ref_ptr.1 ε3 text.now ws.1.1.0) $ await ! tt $ split ! $
    move ! (8 ∷ 13 ∷ 2 ∷ []) $ use3 𝓛 (later (‵ ((MutRef (named 2) κs.1.1.0 u8).own_val (record status { now = ws.1.1.1.0 }) (mut_vals status)) ⊛ ‵ (flft κs.1.1.0 qs.1.1.0))) (comes_back 𝓛 u8 (named 2) κs.1.1.0 (β4 ∷ []) qs.1.1.0 status.ghost_name status.ref_ptr.0 status.ref_ptr.1 ε4 status.now ws.1.1.1.0) $ await ! tt $ split ! $
    move ! (12 ∷ []) $ peeks ! S (Is S) (shows 𝓛 S) s (v ∷ []) (λ its. let typed = ((laws_of_S.lawful 𝓛).typed s (v ∷ []) its).0 in lands_as ! refl refl typed $
    assigns ! (of_opd ! (get ! refl)) (through ! refl (stop !)) (init ! 13 refl typed) $ sets ! (of_opd ! (unit_lit !)) refl (tt, tt) $ returns ! (look_at ! 0 refl) $ free_all ! refl $
    keep ! (13 ∷ 0 ∷ 3 ∷ 1 ∷ 12 ∷ 4 ∷ 2 ∷ []) $
    use2 𝓛 (‵ (part_at S full_share s b o)) (part_in 𝓛 S refl full_share s b o v) $
    use0 𝓛 (raw (fact 𝓤 (IsBegun line2.now s ws.1.1.0 ws.1.1.1.0))) (fact_i 𝓤 (IsBegun line2.now s ws.1.1.0 ws.1.1.1.0) (emp 𝓤) told) $ move ! (1 ∷ 0 ∷ []) $ join ! $
    use1 𝓛 (raw (begun 𝓛 (block_ptr b o) line2.now ws.1.1.0 ws.1.1.1.0)) (ex_i 𝓤 (λ (new : Session). sep 𝓤 (is_held 𝓛 (block_ptr b o) new) (fact 𝓤 (IsBegun line2.now new ws.1.1.0 ws.1.1.1.0))) s) $
    suffices ! _ (ends_at 𝓛 f.ended stayed c (y (block_ptr b o)) vunit tt (tt, (tt, (tt, (ws.1.1.0, (ws.1.1.1.0, tt))))) (tt, (tt, (tt, (tt, (tt, tt)))))) $
    feq_i ! _ (vunit ∷ []) _ refl $ nothing ! $ move ! (7 ∷ 0 ∷ []) $ join ! $ move ! (6 ∷ 0 ∷ []) $ join ! $ move ! (5 ∷ 0 ∷ []) $ join ! $ nothing ! $ move ! (5 ∷ 0 ∷ []) $ join ! $ move ! (4 ∷ 0 ∷ []) $ join ! $ nothing ! $ join ! $ nothing ! $ join ! $ nothing ! $ join ! $ move ! (1 ∷ 0 ∷ 2 ∷ []) $
    group ! 3 $ done !))))))))))))
