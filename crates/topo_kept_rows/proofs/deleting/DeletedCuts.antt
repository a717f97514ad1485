-- The first segment of an edge with one face on both sides is the first without which the picture falls apart; where there is none, it stays whole.
use Rattle.std.proofs.Common.{◌≡◌, ◌≢◌, ℕ, zero, suc, ◌+◌, ◌-◌, ◌/◌, ◌<◌, ◌≤◌, ◌==◌, Bool, true, false, ◌&&◌}
use Rattle.std.proofs.Common.{not, List, [], ◌∷◌, length, ◌⊎◌, inl, inr, refl, sym, ◌∙◌, ap, subst, arith}
use Rattle.std.specs.Prelude.{Option, Some, is_some, nat_lt}
use Rattle.std.specs.List.{list_any}
use Rattle.std.proofs.lemmas.Bool.{cases_Bool, eq-eqb, false≢true, lt-ltb, ltb-true, ne_eqb}
use Rattle.topo_core.specs.declared.darts.Dart.{Dart}
use Rattle.topo_core.specs.declared.darts.Way.{Way}
use Rattle.topo_core.specs.declared.darts.Way.TheVariants.{Forward, Back}
use Rattle.topo_core.specs.declared.rows.EdgeRow.{EdgeRow}
use Rattle.topo_core.specs.declared.rows.Rows.{Rows}
use Rattle.topo_core.specs.Cycles.{IsPermutation, SameCycle, is_met, cycle_count, map_of}
use Rattle.topo_core.specs.Rotations.{Joined, face_next, twin}
use Rattle.topo_core.specs.Systems.{Connected, darts_in, has_dart, turn}
use Rattle.topo_core.specs.Picture.{darts, edge_at, edge_row, end_dart, face_count, index_of, rotation, system, turn_images}
use Rattle.topo_core.specs.Changes.{HasOneFace, IsCut, IsLocalCut, opened, without}
use Rattle.topo_core.specs.Lawful.{IsWellFormed}
use Rattle.topo_core.specs.Deletions.{HidesTurns}
use Rattle.topo_core.specs.Openings.{JoinsOpened, is_opened, opened_turn}
use Rattle.topo_core.proofs.Interface.{SameCycle-is_met, SameCycle-sym, bares, darts_connected, is_met-SameCycle, joins_opened, numbers_connected, rest_face_darts, rest_face_numbers, search_below}
use Rattle.topo_perm.specs.Cuts.{IsElsewhere}
use Rattle.topo_perm.specs.Edits.{IsApart}
use Rattle.topo_perm.specs.Joins.{IsConnectedAmong}
use Rattle.topo_perm.proofs.Interface.{DeletionStep, HaveTwoFaces, IsOpening, SmoothsTo, deletion_step, face_next-permutation, left_after, parted, put_back, smoothed_connected, smoothed_faces}
use Rattle.topo_perm.proofs.Interface.{smoothed_out_back, twin-twin, twin-within}
use Rattle.topo_kept_rows.proofs.deleting.DeletedOpening.{back_alone, left_dart, count, faces_shut, first_half, forward_alone, is_opening}
use Rattle.topo_kept_rows.proofs.deleting.DeletedOpening.{left_turn, off_left, off_segment, opened_by, other_half, segment_in, turns_on}
use Rattle.topo_kept_rows.proofs.inserting.InsertedNumbers.{number_less}
use Rattle.topo_rows.proofs.Interface.{bare_points}

abbrev is_bare : List ℕ → Bool
is_bare around = length around == 0

-- where the ends of an edge may be alone
pub record EndFacts (q : Rows) (e : ℕ) (row : EdgeRow) (p : Rows) : Type 0 where
  pub a_there : row.a < length q.rotations
  pub b_there : row.b < length q.rotations
  pub a_dart : end_dart q row.a e ≡ record { edge = e; seg = 0; way = Forward }
  pub b_dart : end_dart q row.b e ≡ record { edge = e; seg = length (edge_at q e).crossings; way = Back }
  pub alone : (v : ℕ) → (row.a ≡ v) ⊎ (row.b ≡ v) → turn (system q) (end_dart q v e) ≡ end_dart q v e → rotation q v ≡ e ∷ []
  pub only : (v : ℕ) → v < length q.rotations → rotation q v ≡ e ∷ [] → ((row.a ≡ v) ⊎ (row.b ≡ v)) × (turn (system q) (end_dart q v e) ≡ end_dart q v e)
  pub bare_without : (v : ℕ) → v < length q.rotations → rotation q v ≡ e ∷ [] → list_any is_bare p.rotations ≡ true
  pub full_without : ((v : ℕ) → v < length q.rotations → rotation q v ≢ []) → ((v : ℕ) → v < length q.rotations → rotation q v ≢ e ∷ [])
      → list_any is_bare p.rotations ≡ false

module _ (q : Rows) (e : ℕ) (row : EdgeRow) (good : IsWellFormed q) (known : edge_row q e ≡ Some row) (p : Rows) (good_p : IsWellFormed p)
    (hides : HidesTurns q e p) (ends : EndFacts q e row p)
    (connected : Connected (system q)) (genus : cycle_count (map_of (turn_images q)) (length (turn_images q))
    + cycle_count (face_next (map_of (turn_images q))) (length (turn_images q)) ≡ length (turn_images q) / 2 + 2)
    (name onto : ℕ → ℕ) (c : SmoothsTo (opened_by q e row good known p hides (count q e row good known p hides)) (length (turn_images q))
    (left_after (first_half q e row good known p hides) (count q e row good known p hides)) (map_of (turn_images p)) (length (turn_images p)) name onto) where
  abbrev final : ℕ
  final = length (edge_at q e).crossings

  abbrev size : ℕ
  size = length (turn_images q)

  abbrev half : ℕ → ℕ
  half = first_half q e row good known p hides

  abbrev at : ℕ → ℕ → ℕ
  at i = opened_turn q e i

  abbrev seg : ℕ → Way → Dart
  seg i way = record { edge = e; seg = i; way = way }

  o : IsOpening at size half (final + 1)
  o = is_opening q e row good known p hides connected genus

  not_less : (i : ℕ) → nat_lt i i ≡ false
  not_less i = elim (cases_Bool (nat_lt i i)) [ inl t ↦ absurd (let l : i < i = ltb-true i i t in omega arith) | inr u ↦ u ]

  still_in : (i : ℕ) (way : Way) → is_opened e i (seg i way) ≡ false
  still_in i way = ap (λ (b : Bool). b && nat_lt i i) (eq-eqb e e refl) ∙ not_less i

  other_in : (i : ℕ) (d : Dart) → d.edge ≢ e → is_opened e i d ≡ false
  other_in i d ne = ap (λ (b : Bool). b && nat_lt d.seg i) (ne_eqb d.edge e ne)

  out_now : (i : ℕ) (way : Way) → is_opened e (i + 1) (seg i way) ≡ true
  out_now i way = ap (λ (b : Bool). b && nat_lt i (i + 1)) (eq-eqb e e refl) ∙ lt-ltb i (i + 1) (omega arith)

  -- ---- One face, on darts and on numbers

  one_face : (i : ℕ) → i ≤ final → HasOneFace q e i → SameCycle (face_next (at i)) (half i) (twin (half i))
  one_face i hi s = subst (λ (v : ℕ). SameCycle (face_next (at i)) (half i) v) (sym (other_half q e row good known p hides i hi))
      (rest_face_numbers q good.paths good.crossings good.rotations (is_opened e i) (λ d. refl) (seg i Forward) (seg i Back)
      (record { here = segment_in q e row good known p hides i Forward hi; stays = still_in i Forward }) s)

  has_one_face : (i : ℕ) → i ≤ final → SameCycle (face_next (at i)) (half i) (twin (half i)) → HasOneFace q e i
  has_one_face i hi s = rest_face_darts q good.paths good.crossings good.rotations (is_opened e i) (λ d. refl) (seg i Forward) (seg i Back)
      (record { here = segment_in q e row good known p hides i Forward hi; stays = still_in i Forward })
      (record { here = segment_in q e row good known p hides i Back hi; stays = still_in i Back })
      (subst (λ (v : ℕ). SameCycle (face_next (at i)) (half i) v) (other_half q e row good known p hides i hi) s)

  -- an end that is alone has one face round it
  alone_first : turn (system q) (seg 0 Forward) ≡ seg 0 Forward → HasOneFace q e 0
  alone_first w =
      let h0 : 0 ≤ final = omega arith in
      let lh : half 0 < size = number_less q good (seg 0 Forward) (segment_in q e row good known p hides 0 Forward h0) in
      let fixed : at 0 (half 0) ≡ half 0 = left_turn q e row good known p hides 0 0 Forward (omega arith) h0 ∙ ap (index_of q) w in
      let faces : IsPermutation (face_next (at 0)) size = face_next-permutation (at 0) size (o.permutation 0) o.even in
      has_one_face 0 h0 (SameCycle-sym (face_next (at 0)) size faces (twin (half 0)) (half 0) (twin-within size (half 0) o.even lh)
      (record { steps = 1; leads = ap (at 0) (twin-twin (half 0)) ∙ fixed }))

  alone_last : turn (system q) (seg final Back) ≡ seg final Back → HasOneFace q e final
  alone_last w =
      let hk : final ≤ final = omega arith in
      let far : twin (half final) ≡ index_of q (seg final Back) = other_half q e row good known p hides final hk in
      has_one_face final hk
      (record { steps = 1; leads = ap (at final) far ∙ left_turn q e row good known p hides final final Back hk hk ∙ ap (index_of q) w ∙ sym far })

  -- ---- Where no segment has one face

  full : (v : ℕ) → v < length q.rotations → rotation q v ≢ []
  full = (bares q good.crossings good.rotations e 0).full connected.no_bare_point

  only_first : (v : ℕ) → v < length q.rotations → rotation q v ≡ e ∷ [] → row.a ≡ v → HasOneFace q e 0
  only_first v lv w same = alone_first (let t = (ends.only v lv w).1 in let d : end_dart q v e ≡ seg 0 Forward = ap (λ (u : ℕ). end_dart q u e) (sym same)
      ∙ ends.a_dart in ap (turn (system q)) (sym d) ∙ t ∙ d)

  only_last : (v : ℕ) → v < length q.rotations → rotation q v ≡ e ∷ [] → row.b ≡ v → HasOneFace q e final
  only_last v lv w same = alone_last (let t = (ends.only v lv w).1 in let d : end_dart q v e ≡ seg final Back = ap (λ (u : ℕ). end_dart q u e) (sym same)
      ∙ ends.b_dart in ap (turn (system q)) (sym d) ∙ t ∙ d)

  pub record Whole : Type 0 where
    pub connected_without : Connected (system p)
    pub faces : face_count p + (final + 1) ≡ face_count q

  pub whole : ((i : ℕ) → i ≤ final → HasOneFace q e i → ⊥) → Whole
  whole none =
      let two : HaveTwoFaces at half (final + 1) = λ j lj s. none j (let k = lj in omega arith) (has_one_face j (let k = lj in omega arith) s) in
      let st : DeletionStep at size half (final + 1) = deletion_step at size half (final + 1) o (final + 1) (omega arith) two in
      let others : (v : ℕ) → v < length q.rotations → rotation q v ≢ e ∷ [] = λ v lv w. elim (ends.only v lv w).0 [
        | inl same ↦ none 0 (omega arith) (only_first v lv w same)
        | inr same ↦ none final (omega arith) (only_last v lv w same)
      ] in
      record {
        connected_without = record {
          no_bare_point = bare_points p ∙ ends.full_without full others;
          joined = darts_connected p good_p.paths good_p.crossings good_p.rotations (smoothed_connected c st.connected);
        };
        faces = (let below = smoothed_faces c in
            let shut = faces_shut q e row good known p hides in let f = st.faces in omega arith);
      }

  -- ---- The first segment with one face

  -- an end of the segment is a vertex with no other edge, or darts of other edges at its two ends are parted
  abbrev IsBareOrParted : ℕ → Type 0
  IsBareOrParted i = ((v : ℕ) × (v < length q.rotations) × (rotation q v ≡ e ∷ []) × (is_opened e (i + 1) (end_dart q v e) ≡ true))
      ⊎ ((b : Dart) × (d : Dart) × (has_dart (darts q) b ≡ true) × (b.edge ≢ e) × (has_dart (darts q) d ≡ true) × (d.edge ≢ e)
      × (Joined (at (suc i)) twin (index_of q b) (index_of q d) → ⊥))

  elsewhere : (d : Dart) → has_dart (darts q) d ≡ true → d.edge ≢ e → (i : ℕ) → i ≤ final → IsElsewhere size (half i) (index_of q d)
  elsewhere d h ne i hi =
      let far : IsApart size (index_of q d) (half i) = off_segment q e row good known p hides d h ne i hi in
      record { within = far.within; not_self = far.not_self; not_twin = far.not_twin }

  bare_end : (v i : ℕ) (way : Way) → v < length q.rotations → (row.a ≡ v) ⊎ (row.b ≡ v) → end_dart q v e ≡ seg i way → turn (system q) (seg i way) ≡ seg i way
      → IsBareOrParted i
  bare_end v i way lv is d alone = inl (v, lv, ends.alone v is (ap (turn (system q)) d ∙ alone ∙ sym d), ap (is_opened e (i + 1)) d ∙ out_now i way)

  one_face_parts : (i : ℕ) → i ≤ final → HasOneFace q e i → ((j : ℕ) → j < i → HasOneFace q e j → ⊥) → IsBareOrParted i
  one_face_parts i hi one before =
      let st : DeletionStep at size half i =
      deletion_step at size half (final + 1) o i (omega (arith, hi)) (λ j lj s. before j lj (has_one_face j (omega (arith, hi, lj)) s)) in
      elim (turns_on q e row good known p hides i Forward hi) [
        | inr alone ↦
            let zero_is : i ≡ 0 = forward_alone q e row good known p hides i hi alone in
            bare_end row.a i Forward ends.a_there (inl refl) (ends.a_dart ∙ ap (λ (j : ℕ). seg j Forward) (sym zero_is)) alone
        | inl on ↦ elim (turns_on q e row good known p hides i Back hi) [
          | inr alone ↦
              let last_is : i ≡ final = back_alone q e row good known p hides i hi alone in
              bare_end row.b i Back ends.b_there (inr refl) (ends.b_dart ∙ ap (λ (j : ℕ). seg j Back) (sym last_is)) alone
          | inl back ↦
              let at_a : at i (half i) ≡ index_of q on.to = left_turn q e row good known p hides i i Forward (omega arith) hi ∙ ap (index_of q) on.leads in
              let at_b : at i (twin (half i)) ≡ index_of q back.to = ap (at i) (other_half q e row good known p hides i hi)
              ∙ left_turn q e row good known p hides i i Back (omega arith) hi ∙ ap (index_of q) back.leads in
              inr (
                on.to,
                back.to,
                on.there,
                on.other,
                back.there,
                back.other,
                parted o (omega (arith, hi)) st (one_face i hi one) (elsewhere on.to on.there on.other i hi) (elsewhere back.to back.there back.other i hi)
                    (record { steps = 1; leads = at_a }) (record { steps = 1; leads = at_b }),
              )
        ]
      ]

  -- segments put back one after another
  put_all_back : (k i : ℕ) → i + k ≤ final + 1 → (b d : Dart) → has_dart (darts q) b ≡ true → b.edge ≢ e → has_dart (darts q) d ≡ true → d.edge ≢ e
      → Joined (at (i + k)) twin (index_of q b) (index_of q d) → Joined (at i) twin (index_of q b) (index_of q d)
  put_all_back zero i h b d hb nb hd nd j = subst (λ (w : ℕ). Joined (at w) twin (index_of q b) (index_of q d)) (let w : i + 0 ≡ i = omega arith in w) j
  put_all_back (suc k) i h b d hb nb hd nd j =
      let same : i + suc k ≡ suc (i + k) = omega arith in
      let less : i + k < final + 1 = omega (arith, h, same) in
      let hi : i + k ≤ final = omega (arith, less) in
      put_all_back k i (omega (arith, less)) b d hb nb hd nd
      (put_back o (i + k) less (elsewhere b hb nb (i + k) hi) (elsewhere d hd nd (i + k) hi)
      (subst (λ (w : ℕ). Joined (at w) twin (index_of q b) (index_of q d)) same j))

  joins : (i : ℕ) → JoinsOpened q e i
  joins i = joins_opened q good.paths good.crossings good.rotations e i

  -- a dart that is left stands in the opened system
  stands_left : (i : ℕ) (d : Dart) → has_dart (darts q) d ≡ true → is_opened e i d ≡ false → has_dart (darts_in (opened q e i)) d ≡ true
  stands_left i d h stays = (joins i).left d ∙ ap (λ (b : Bool). b && not (is_opened e i d)) h ∙ ap not stays

  left_stands : (i : ℕ) (d : Dart) → has_dart (darts_in (opened q e i)) d ≡ true → (has_dart (darts q) d ≡ true) × (is_opened e i d ≡ false)
  left_stands i d h = both (has_dart (darts q) d) (is_opened e i d) (sym ((joins i).left d) ∙ h) where
    both : (a b : Bool) → (a && not b) ≡ true → (a ≡ true) × (b ≡ false)
    both true false w = (refl, refl)
    both true true w = absurd (false≢true w)
    both false b w = absurd (false≢true w)

  -- the picture falls apart when the segment and those before it are out
  apart_after : (i : ℕ) → IsBareOrParted i → Connected (opened q e (i + 1)) → ⊥
  apart_after i (inl (v, lv, only, out)) whole_left =
      false≢true (sym whole_left.no_bare_point ∙ (bares q good.crossings good.rotations e (i + 1)).alone v lv only out)
  apart_after i (inr (b, d, hb, nb, hd, nd, parts)) whole_left =
      let sb : is_opened e (i + 1) b ≡ false = other_in (i + 1) b nb in
      let sd : is_opened e (i + 1) d ≡ false = other_in (i + 1) d nd in
      parts (subst (λ (w : ℕ). Joined (at w) twin (index_of q b) (index_of q d)) (let w : i + 1 ≡ suc i = omega arith in w)
      (((joins (i + 1)).joined b d hb sb hd sd).0 (whole_left.joined b d (stands_left (i + 1) b hb sb) (stands_left (i + 1) d hd sd))))

  -- and so does the picture without the edge
  falls_apart : (i : ℕ) → i ≤ final → IsBareOrParted i → Connected (system p) → ⊥
  falls_apart i hi (inl (v, lv, only, out)) whole_p = false≢true (sym whole_p.no_bare_point ∙ bare_points p ∙ ends.bare_without v lv only)
  falls_apart i hi (inr (b, d, hb, nb, hd, nd, parts)) whole_p =
      let above : IsConnectedAmong (left_after half (final + 1)) (at (final + 1)) size = smoothed_out_back c
      (numbers_connected p good_p.paths good_p.crossings good_p.rotations whole_p.joined) in
      let all : final + 1 ≤ final + 1 = omega arith in
      let joined : Joined (at (final + 1)) twin (index_of q b) (index_of q d) =
      above (index_of q b) (index_of q d) (number_less q good b hb) (number_less q good d hd)
      (off_left q e row good known p hides b hb nb (final + 1) all) (off_left q e row good known p hides d hd nd (final + 1) all) in
      let sum : suc i + (final - i) ≡ final + 1 = omega (arith, hi) in
      parts (put_all_back (final - i) (suc i)
      (omega (arith, hi)) b d hb nb hd nd (subst (λ (w : ℕ). Joined (at w) twin (index_of q b) (index_of q d)) (sym sum) joined))

  -- before that it is whole
  whole_before : (i : ℕ) → i ≤ final → ((j : ℕ) → j < i → HasOneFace q e j → ⊥) → (j : ℕ) → j < i → Connected (opened q e (j + 1))
  whole_before i hi before j lj =
      let st : DeletionStep at size half (j + 1) = deletion_step at size half (final + 1) o (j + 1) (omega (arith, hi, lj))
      (λ k lk s. before k (omega (arith, lj, lk)) (has_one_face k (omega (arith, hi, lj, lk)) s)) in
      record {
        no_bare_point = (bares q good.crossings good.rotations e (j + 1)).kept full (λ v lv only. elim (ends.only v lv only).0 [
          | inl same ↦ absurd (before 0 (omega (arith, lj)) (only_first v lv only same))
          | inr same ↦ ap (is_opened e (j + 1)) (ap (λ (u : ℕ). end_dart q u e) (sym same) ∙ ends.b_dart) ∙ kept_last j (omega (arith, hi, lj))
        ]);
        joined = λ b d hb hd.
            let (bq, bs) = left_stands (j + 1) b hb in
            let (dq, ds) = left_stands (j + 1) d hd in
            ((joins (j + 1)).joined b d bq bs dq ds).1 (st.connected (index_of q b) (index_of q d) (number_less q good b bq) (number_less q good d dq)
            (left_number (j + 1) (omega (arith, hi, lj)) b bq bs) (left_number (j + 1) (omega (arith, hi, lj)) d dq ds));
      } where
        kept_last : (j : ℕ) → j < final → is_opened e (j + 1) (seg final Back) ≡ false
        kept_last j less = grind (arith, cases_Bool, ltb-true, eq-eqb)

        left_number : (i : ℕ) → i ≤ final + 1 → (d : Dart) → has_dart (darts q) d ≡ true → is_opened e i d ≡ false → left_after half i (index_of q d) ≡ true
        left_number i hi d h stays = left_dart q e row good known p hides i hi d h stays

  -- the first segment with one face is the cut
  pub local_cut_is_cut : (i : ℕ) → (Connected (system (without q e)) → Connected (system p)) → IsLocalCut q e i → IsCut q e i
  local_cut_is_cut i same cut =
      let which : IsBareOrParted i = one_face_parts i cut.on_path cut.one_face cut.two_faces_before in
      record {
        falls_apart = λ w. falls_apart i cut.on_path which (same w);
        apart_after = apart_after i which;
        whole_before = whole_before i cut.on_path cut.two_faces_before;
      }

  -- ---- A cut by faces, or none

  same_face_test : (i : ℕ) → i ≤ final → (is_met (face_next (at i)) size (half i) (twin (half i)) ≡ true → HasOneFace q e i)
      × (is_met (face_next (at i)) size (half i) (twin (half i)) ≡ false → HasOneFace q e i → ⊥)
  same_face_test i hi = (
    λ w. has_one_face i hi (is_met-SameCycle (face_next (at i)) size (half i) (twin (half i)) w),
    λ w s. false≢true (sym w ∙ SameCycle-is_met (face_next (at i)) size (face_next-permutation (at i) size (o.permutation i) o.even) (half i) (twin (half i))
        (number_less q good (seg i Forward) (segment_in q e row good known p hides i Forward hi)) (one_face i hi s)),
  )

  pub local_or_none : ((i : ℕ) × IsLocalCut q e i) ⊎ ((i : ℕ) → i ≤ final → HasOneFace q e i → ⊥)
  local_or_none = elim (search_below (λ i. is_met (face_next (at i)) size (half i) (twin (half i))) (final + 1)) [
    | inl w ↦
        let hi : w.0 ≤ final = (let k = w.1 in omega arith) in
        inl (
          w.0,
          record {
            there = ap (λ (row : Option EdgeRow). is_some row) known;
            on_path = hi;
            one_face = (same_face_test w.0 hi).0 w.2.here;
            two_faces_before = λ j lj s. (same_face_test j (omega (arith, hi, lj))).1 (w.2.before j lj) s;
          },
        )
    | inr none ↦ inr (λ i hi s. (same_face_test i hi).1 (none i (omega (arith, hi))) s)
  ]
