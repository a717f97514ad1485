-- The handle is moved out of the block, which is room again.
use Rattle.fezdrok_c.proofs.Steps.{ !, Goes-dropped, Incl-refl, Is, Lasts, Ptr, RawPtr, Stays, Val, WpFn, [], alloc_all, and_then, ap, await, block_ptr, calls_at, done, drop, emp, ends_at, enter, fact, fact_i, fat, feq_i, feq_l, flft, framed, free_all, ftrue, full_share, get, glues, group, id⊢, in_a_block, join, lands_as, lasts, later, lies_at, load, lone, look, look_at, move, no_more, nothing, of_opd, on_entry, only, part_out, pass_all, peeks, pick, plain, prop, proved, qed, raw, rawptr_Tells, rawptr_vals, refl, regoal, returns, room_at, sets, shows, some, split, stay_dropped, stop, suffices, tables, through, triple_of, unit, unit_lit, use0, use1, use2, vunit, walk_of, yes, ‵, ◌$◌, ◌∵◌, ◌∷◌, ◌⊑◌, ◌⊛◌}
use Rattle.topo_price.specs.contracts.tariff.PriceTablePriceFn.TheImpl as price
use Rattle.topo_price.proofs.tariff.PriceTablePriceFn.TheImpl.Met as price_met
use Rattle.topo_io.specs.contracts.tables.PriceTableFromTable.TheImpl as from
use Rattle.topo_io.proofs.tables.PriceTableFromTable.TheImpl.Met as from_met
use Rattle.fezdrok_c.proofs.Tables.{drops, laws_of_P, laws_of_T}
use Rattle.fezdrok_c.specs.Blocks.{P, T}
use Rattle.fezdrok_c.specs.contracts.fezdrok_search_end as f
use Rattle.fezdrok_c.proofs.fezdrok_search_end.Statement.{statement}
use Rattle.fezdrok_c.proofs.fezdrok_search_end.Code as code
use Rattle.fezdrok_c.specs.contracts.searching.shut_search as g
use Rattle.fezdrok_c.proofs.searching.shut_search.Met.{met}

abbrev stayed : Stays f.ended.signature.params f.ended.kept
stayed = (stay_dropped _ yes, tt)

pub fezdrok_search_end_spec : {M : Type 1} → statement M
unfolding Rattle.fezdrok_c.proofs.Destruct++none.drop.Code.code
fezdrok_search_end_spec {M} 𝓤 𝓛 𝓜 𝓡 wired =
    let c = f.clauses 𝓛 𝓜.mem 𝓡.returns in let W = walk_of 𝓛 f.ended stayed c in let 𝓣 = tables 𝓤 𝓛.H 𝓜 𝓡 𝓡.env in
    proved 𝓛 f.ended stayed c 𝓜 𝓡 (Goes-dropped 𝓛 0 (plain (λ _. RawPtr)) yes (λ κs x w. refl), tt)
    f.Key.name code.function (code.unfolded 𝓤 𝓛.H 𝓜 𝓡 wired)
    (λ κs. (rawptr_vals, tt)) (λ κs. (rawptr_Tells, tt)) (λ κs qs bounds a held are.
    let y : Ptr → W.Ghost = λ p. ((κs, qs, bounds, (p, tt), (rawptr_vals p, tt)), held) in
    qed 𝓛 (raw (on_entry 𝓛 f.signature κs qs a (y a.0).0.4) ∷ ‵ (lies_at P full_share a.0 held) ∷ []) ∵
    drop ! $ in_a_block ! a.0 (λ p. lies_at P full_share p held) (id⊢ 𝓤 _) (λ b o e.
    regoal ! (λ p. prop (WpFn 𝓤 𝓛.H 𝓣.C 𝓣.Λ code.function (rawptr_vals p) (W.post (y p)))) e refl $
    use1 𝓛 (some (λ (v : Val). ‵ (fat full_share (lone P.mir) b o v) ⊛ ‵ (P.own_val held (v ∷ [])))) (part_out 𝓛 P refl full_share held b o) $ pick ! (λ v. split ! $
    move ! (1 ∷ []) $ peeks ! P (Is P) (shows 𝓛 P) held (v ∷ []) (λ is. let typed = ((laws_of_P.lawful 𝓛).typed held (v ∷ []) is).0 in
    enter ! _ _ _ _ _ $ alloc_all ! (λ l. pass_all ! refl ((tt, tt), tt) $
    sets ! (of_opd ! (get ! refl)) refl (tt, tt) $ sets ! (of_opd ! (load ! (through ! refl (stop !)) (look ! 1 refl))) refl typed $
    let G = triple_of 𝓛 (g.signature T from.ghosts from.dict price.ghosts price.dict drops) (g.spec T from.ghosts from.dict price.ghosts price.dict drops 𝓛 𝓜.mem 𝓡.returns) in
    let z : G.Ghost = ((([], tt), (full_share, tt), tt, (held, tt), (v ∷ [], tt)), tt) in
    nothing ! $ move ! (1 ∷ 0 ∷ []) $ join ! $
    nothing ! $ use0 𝓛 (‵ (flft [] full_share)) (𝓛.lfts.lft-nil full_share) $ join ! $ join ! $
    nothing ! $ use0 𝓛 (raw (fact 𝓤 ([] ⊑ T.lives))) (fact_i 𝓤 ([] ⊑ T.lives) (emp 𝓤) (Incl-refl [])) $ join ! $
    move ! (1 ∷ 0 ∷ []) $ use2 𝓛 (raw (G.pre z)) (id⊢ 𝓤 _) $
    calls_at ! (framed 𝓤 𝓛.H 𝓜 (tables 𝓤 𝓛.H 𝓜 𝓡 𝓡.env)) G (met 𝓤 𝓛 𝓜 𝓡 (code.calls-fezdrok_c::searching::shut_search 𝓡.env wired) T laws_of_T from.ghosts from.dict price.ghosts price.dict drops (from_met.passed 𝓡.env (code.calls-topo_io::tables::PriceTableFromTable::from_table 𝓡.env wired) M 𝓤 𝓛 𝓜 𝓡) (price_met.passed 𝓡.env (code.calls-topo_price::tariff::PriceTablePriceFn::price 𝓡.env wired) (code.calls-topo_price::tariff::PriceTablePriceFn::price_of_kind 𝓡.env wired) M 𝓤 𝓛 𝓜 𝓡) (glues "fezdrok_c::Destruct++none::drop" 𝓡.env (code.calls-fezdrok_c::Destruct++none::drop 𝓡.env wired) T laws_of_T M 𝓤 𝓛 𝓜 𝓡)) z
    (and_then ! (get ! refl) (no_more !)) (λ u.
    use1 𝓛 (later (some (λ (r : Unit {0}). ((‵ (flft [] full_share) ⊛ ‵ ftrue) ⊛ ‵ (unit.own_val r (u ∷ []))) ⊛ some (λ (ws : Lasts (g.ended T from.ghosts from.dict price.ghosts price.dict drops) z.0.0 z.0.3). ‵ (lasts (g.ended T from.ghosts from.dict price.ghosts price.dict drops) z.0.0 z.0.3 ws) ⊛ ‵ ftrue)))) (id⊢ 𝓤 _) $
    await ! tt $ pick ! (λ r. split ! $ split ! $ drop ! $ feq_l ! (λ is_unit. drop ! $ lands_as ! (ap only is_unit) refl (tt, tt) $
    sets ! (of_opd ! (unit_lit !)) refl (tt, tt) $ returns ! (look_at ! 0 refl) $ free_all ! refl $
    use1 𝓛 (‵ (room_at P (block_ptr b o))) (𝓛.laws.at_room (lone P.mir) b o v) $
    suffices ! _ (ends_at 𝓛 f.ended stayed c (y (block_ptr b o)) vunit tt (tt, tt) (tt, tt)) $
    feq_i ! _ (vunit ∷ []) _ refl $ nothing ! $ nothing ! $ join ! $ nothing ! $ group ! 3 $ done !))))))))
