-- The session is lent from where it lies for a lifetime of the call's, and lies there again afterwards, as the call left it.
use Rattle.fezdrok_c.proofs.Steps.{ !, Body, Fits, Goes-dropped, Goes-ref, Incl-refl, Is, Lasts, LentAgain, MutRef, Ptr, RawPtr, ShrSlice, Stays, WpFn, [], addr, alloc_all, and_then, at_ret, await, block_ptr, blocks, calls_at, comes_back, done, emp, ends_at, enter, env, ex_i, exec, fact, fact_i, first, flent, flft, framed, free_all, fsplit, ftrue, full_share, get, glues, group, heard, id⊢, in_a_block, join, keep, lands_as, lasts, later, lends_again, lends_ref, length, lft_end, lft_new, lies_at, look_at, mem, move, mut_Tells, mut_vals, named, no_more, not-mem-nil, nothing, of_opd, part_at, pass_all, peeks, pick, plain, prop, proved, qed, raw, rawptr_Tells, rawptr_vals, ref_back, refl, regoal, returns, sep, sets, sets_last, shows, shr_slice_Tells, shr_slice_of, shr_slice_vals, some, split, stay_dropped, stay_ref, stop, suffices, tables, through, triple_of, u8, uint_Lawful, use0, use1, use2, use3, vptr, w64, w8, walk_of, yes, ‵, ℕ, ◌$◌, ◌++◌, ◌∵◌, ◌∷◌, ◌⊑◌, ◌⊛◌}
use Rattle.topo_price.specs.contracts.tariff.PriceTablePriceFn.TheImpl as price
use Rattle.topo_price.proofs.tariff.PriceTablePriceFn.TheImpl.Met as price_met
use Rattle.topo_io.specs.contracts.tables.PriceTableFromTable.TheImpl as from
use Rattle.topo_io.proofs.tables.PriceTableFromTable.TheImpl.Met as from_met
use Rattle.fezdrok_c.proofs.Tables.{drops, laws_of_T}
use Rattle.fezdrok_c.specs.Blocks.{P, T, Sought as Session, is_search, search_answered}
use Rattle.fezdrok_c.specs.Searches.{IsSearchAnswered}
use Rattle.fezdrok_c.specs.contracts.handle.Text.{the_row as R2}
use Rattle.fezdrok_c.specs.contracts.fezdrok_search_answer as f
use Rattle.fezdrok_c.proofs.fezdrok_search_answer.Statement.{statement}
use Rattle.fezdrok_c.proofs.fezdrok_search_answer.Code as code
use Rattle.fezdrok_c.specs.contracts.searching.answer_search as g
use Rattle.fezdrok_c.proofs.searching.answer_search.Met.{met}

abbrev stayed : Stays f.ended.signature.params f.ended.kept
stayed = (stay_dropped _ yes, (stay_dropped _ yes, (stay_ref (1 ∷ []) tt (plain (λ _. R2)), tt)))

pub fezdrok_search_answer_spec : {M : Type 1} → statement M
unfolding Rattle.fezdrok_c.proofs.Destruct++none.drop.Code.code
fezdrok_search_answer_spec {M} 𝓤 𝓛 𝓜 𝓡 wired =
    let c = f.clauses 𝓛 𝓜.mem 𝓡.returns in let W = walk_of 𝓛 f.ended stayed c in let 𝓣 = tables 𝓤 𝓛.H 𝓜 𝓡 𝓡.env in
    proved 𝓛 f.ended stayed c 𝓜 𝓡 (Goes-dropped 𝓛 2 (plain (λ _. RawPtr)) yes (λ κs x w. refl), (Goes-dropped 𝓛 2 (shr_slice_of (0 ∷ []) tt (plain (λ _. u8))) yes (λ κs x w. refl), (Goes-ref 𝓛 2 1 tt (plain (λ _. R2)), tt)))
    f.Key.name code.function (code.unfolded 𝓤 𝓛.H 𝓜 𝓡 wired)
    (λ κs. (rawptr_vals, (shr_slice_vals, (mut_vals, tt)))) (λ κs. (rawptr_Tells, (shr_slice_Tells (named 0) κs.0 u8, (mut_Tells (named 1) κs.1.0 R2, tt)))) (λ κs qs bounds a held are.
    let line1 = a.1.0 in let text = a.1.1.0 in
    let ok1 : Unit {0} × (Unit {0} × (Fits w64 (length line1.now) × Unit {0})) = (tt, (tt, (record { fits = are.1.0.0.1.0 }, tt))) in
    let y : Ptr → W.Ghost = λ p. ((κs, qs, bounds, (p, (line1, (text, tt))), (rawptr_vals p, ((shr_slice_vals line1), ((mut_vals text), tt)))), held) in
    qed 𝓛 (((‵ (flft κs.0 qs.0) ⊛ ‵ (flft κs.1.0 qs.1.0) ⊛ ‵ ftrue) ⊛ ‵ (RawPtr.own_val a.0 (rawptr_vals a.0)) ⊛ ‵ ((ShrSlice (named 0) κs.0 u8).own_val line1 (shr_slice_vals line1)) ⊛ ‵ ((MutRef (named 1) κs.1.0 R2).own_val text (mut_vals text)) ⊛ ‵ ftrue) ∷ ‵ (lies_at P full_share a.0 held) ∷ []) ∵
    move ! (1 ∷ []) $ in_a_block ! a.0 (λ p. lies_at P full_share p held) (id⊢ 𝓤 _) (λ b o e.
    regoal ! (λ p. prop (WpFn 𝓤 𝓛.H 𝓣.C 𝓣.Λ code.function (rawptr_vals p ++ ((shr_slice_vals line1) ++ ((mut_vals text) ++ ([])))) (W.post (y p)))) e refl $
    move ! (1 ∷ []) $ split ! $ split ! $ move ! (1 ∷ []) $ split ! $ move ! (3 ∷ []) $ split ! $ move ! (1 ∷ []) $ split ! $ move ! (1 ∷ []) $ split ! $ keep ! (7 ∷ 2 ∷ 0 ∷ 6 ∷ 4 ∷ []) $
    enter ! _ _ _ _ _ $ alloc_all ! (λ l. pass_all ! refl ((tt, tt), (ok1, ((tt, tt), tt))) $
    first ! $ blocks ! $ sets ! (of_opd ! (get ! refl)) refl (tt, tt) $ sets ! (of_opd ! (get ! refl)) refl (tt, tt) $ sets_last ! (addr ! (through ! refl (stop !))) refl (tt, tt) $
    exec ! 𝓣.C 𝓣.Λ (env code.Mir.locals l) code.Mir.t-2 (at_ret _ (W.post (y (block_ptr b o)))) $
    sets ! (of_opd ! (get ! refl)) refl (tt, tt) $
    sets ! (of_opd ! (get ! refl)) refl ok1 $
    sets ! (addr ! (through ! refl (stop !))) refl (tt, tt) $
    lft_new ! tt (λ α.
    move ! (1 ∷ []) $
    use1 𝓛 (later (some (λ (δ : ℕ). ‵ ((MutRef (named 0) (α ∷ []) P).own_val (record { ref_ptr = (b, o); ghost_name = δ; now = held }) (vptr b o ∷ [])) ⊛ ‵ (flent (α ∷ []) (Body (mem P) b o δ)))))
    (lends_ref 𝓛 P (named 0) (α ∷ []) held b o) $ await ! tt $ pick ! (λ δ. split ! $
    lft_new ! tt (λ β2.
    move ! (5 ∷ 7 ∷ []) $
    use2 𝓛 (later (some (λ (ε2 : ℕ). ‵ ((MutRef (named 1) (β2 ∷ []) R2).own_val (record text { ghost_name = ε2 }) (mut_vals text)) ⊛ ‵ (LentAgain R2 κs.1.0 (β2 ∷ []) qs.1.0 text.ghost_name text.ref_ptr.0 text.ref_ptr.1 ε2 text.now))))
    (lends_again 𝓛 R2 (named 1) κs.1.0 (β2 ∷ []) qs.1.0 text.ghost_name text.ref_ptr.0 text.ref_ptr.1 (named 1) text.now) $ await ! tt $ pick ! (λ ε2. split ! $
    let G = triple_of 𝓛 (g.signature T from.ghosts from.dict price.ghosts price.dict drops) (g.spec T from.ghosts from.dict price.ghosts price.dict drops 𝓛 𝓜.mem 𝓡.returns) in
    let z : G.Ghost = (((α ∷ [], (κs.0, (β2 ∷ [], ([], tt)))), (full_share, (qs.0, (full_share, (full_share, tt)))), ((λ x m. absurd (not-mem-nil m)), tt), (record { ref_ptr = (b, o); ghost_name = δ; now = held }, (line1, (record text { ghost_name = ε2 }, tt))), (vptr b o ∷ [], ((shr_slice_vals line1), ((mut_vals text), tt)))), tt) in
    nothing ! $ move ! (1 ∷ 0 ∷ []) $ join ! $ move ! (6 ∷ 0 ∷ []) $ join ! $ move ! (3 ∷ 0 ∷ []) $ join ! $ nothing ! $ use0 𝓛 (‵ (flft [] full_share)) (𝓛.lfts.lft-nil full_share) $ join ! $ move ! (3 ∷ 0 ∷ []) $ join ! $ move ! (5 ∷ 0 ∷ []) $ join ! $ move ! (4 ∷ 0 ∷ []) $ join ! $ join ! $ nothing ! $ use0 𝓛 (raw (fact 𝓤 ([] ⊑ T.lives))) (fact_i 𝓤 ([] ⊑ T.lives) (emp 𝓤) (Incl-refl [])) $ join ! $ move ! (1 ∷ 0 ∷ []) $ use2 𝓛 (raw (G.pre z)) (id⊢ 𝓤 _) $
    calls_at ! (framed 𝓤 𝓛.H 𝓜 (tables 𝓤 𝓛.H 𝓜 𝓡 𝓡.env)) G (met 𝓤 𝓛 𝓜 𝓡 (code.calls-fezdrok_c::searching::answer_search 𝓡.env wired) T laws_of_T from.ghosts from.dict price.ghosts price.dict drops (from_met.passed 𝓡.env (code.calls-topo_io::tables::PriceTableFromTable::from_table 𝓡.env wired) M 𝓤 𝓛 𝓜 𝓡) (price_met.passed 𝓡.env (code.calls-topo_price::tariff::PriceTablePriceFn::price 𝓡.env wired) (code.calls-topo_price::tariff::PriceTablePriceFn::price_of_kind 𝓡.env wired) M 𝓤 𝓛 𝓜 𝓡) (glues "fezdrok_c::Destruct++none::drop" 𝓡.env (code.calls-fezdrok_c::Destruct++none::drop 𝓡.env wired) T laws_of_T M 𝓤 𝓛 𝓜 𝓡)) z
    (and_then ! (get ! refl) (and_then ! (get ! refl) (and_then ! (get ! refl) (no_more !)))) (λ v.
    use1 𝓛 (later (some (λ (n : ℕ). ((‵ (flft (α ∷ []) full_share) ⊛ ‵ (flft (κs.0) qs.0) ⊛ ‵ (flft (β2 ∷ []) full_share) ⊛ ‵ (flft ([]) full_share) ⊛ ‵ ftrue) ⊛ ‵ (u8.own_val n (v ∷ []))) ⊛
    some (λ (ws : Lasts (g.ended T from.ghosts from.dict price.ghosts price.dict drops) z.0.0 z.0.3). ‵ (lasts (g.ended T from.ghosts from.dict price.ghosts price.dict drops) z.0.0 z.0.3 ws) ⊛ raw (fact 𝓤 (IsSearchAnswered held line1.now n ws.0 ws.1.1.0)))))) (id⊢ 𝓤 _) $ await ! tt $ pick ! (λ n.
    split ! $ split ! $ split ! $ move ! (1 ∷ []) $ split ! $ move ! (1 ∷ []) $ split ! $ move ! (1 ∷ []) $ split ! $ move ! (4 ∷ []) $ lft_end ! tt $ move ! (3 ∷ []) $ lft_end ! tt $ move ! (6 ∷ []) $ pick ! (λ ws. split ! $
    move ! (1 ∷ []) $ heard ! _ (λ told.
    fsplit ! $ fsplit ! $ move ! (2 ∷ []) $ fsplit ! $ move ! (1 ∷ []) $ fsplit ! $ fsplit ! $ move ! (6 ∷ 12 ∷ 0 ∷ []) $ use3 𝓛 (later (‵ ((MutRef (named 1) κs.1.0 R2).own_val (record text { now = ws.1.1.0 }) (mut_vals text)) ⊛ ‵ (flft κs.1.0 qs.1.0))) (comes_back 𝓛 R2 (named 1) κs.1.0 (β2 ∷ []) qs.1.0 text.ghost_name text.ref_ptr.0 text.ref_ptr.1 ε2 text.now ws.1.1.0) $ await ! tt $ split ! $
    move ! (7 ∷ 12 ∷ 5 ∷ []) $ use3 𝓛 (later (‵ (part_at P full_share ws.0 b o))) (ref_back 𝓛 P (α ∷ []) δ ws.0 b o) $ await ! tt $
    move ! (10 ∷ []) $ peeks ! u8 (Is u8) (shows 𝓛 u8) n (v ∷ []) (λ is. lands_as ! refl refl ((uint_Lawful 𝓛 w8).typed n _ is).0 $ returns ! (look_at ! 0 refl) $ free_all ! refl $
    keep ! (1 ∷ 2 ∷ 10 ∷ 3 ∷ 0 ∷ []) $
    use0 𝓛 (raw (fact 𝓤 (IsSearchAnswered held line1.now n ws.0 ws.1.1.0))) (fact_i 𝓤 (IsSearchAnswered held line1.now n ws.0 ws.1.1.0) (emp 𝓤) told) $ move ! (1 ∷ 0 ∷ []) $ join ! $
    use1 𝓛 (raw (search_answered 𝓛 (block_ptr b o) held line1.now n ws.1.1.0)) (ex_i 𝓤 (λ (new : Session). sep 𝓤 (is_search 𝓛 (block_ptr b o) new) (fact 𝓤 (IsSearchAnswered held line1.now n new ws.1.1.0))) ws.0) $
    nothing ! $ move ! (4 ∷ 0 ∷ []) $ join ! $ move ! (3 ∷ 0 ∷ []) $ join ! $ nothing ! $ move ! (3 ∷ 0 ∷ []) $ join ! $ nothing ! $ join ! $ nothing ! $ join ! $ move ! (1 ∷ 0 ∷ 3 ∷ []) $
    suffices ! _ (ends_at 𝓛 f.ended stayed c (y (block_ptr b o)) v n (tt, (tt, (ws.1.1.0, tt))) (tt, (tt, (tt, tt)))) $
    group ! 3 $ done !))))))))))))
