-- A system whose segments are drawn with points of degree two on them: it has the faces and the connections of the system itself.
use Rattle.std.proofs.Common.{arith, ◌≡◌, ℕ, zero, suc, ◌%◌, ◌<◌, Bool, true, false, List, [], ◌∷◌, ◌⊎◌, inl, inr, sym, ◌∙◌, ap, subst}
use Rattle.std.proofs.lemmas.Bool.{cases_Bool, false≢true}
use Rattle.topo_core.specs.Cycles.{IsPermutation, SameCycle, after, cycle_count, is_met}
use Rattle.topo_core.specs.Rotations.{Joined, Move, along, face_next, twin}
use Rattle.topo_core.specs.Rotations.Move.{Turn, Cross}
use Rattle.topo_core.proofs.Interface.{SameCycle-is_met, SameCycle-refl, SameCycle-step, SameCycle-trans, is_met-SameCycle, same_tests}
use Rattle.topo_perm.specs.Joins.{IsConnectedAmong}
use Rattle.topo_perm.specs.Live.{IsSlab, live_cycle_count}
use Rattle.topo_perm.proofs.edits.Cuts.{Joined-back}
use Rattle.topo_perm.proofs.permutations.Live.{live_class_count-carries}
use Rattle.topo_perm.proofs.permutations.Faces.{twin-twin}
use Rattle.topo_perm.proofs.permutations.Walks.{Joined-crossed, Joined-refl, Joined-trans, Joined-turned, face_next-permutation, twin-within}
use Rattle.topo_perm.proofs.permutations.Exchange.{is_met-equivalence}

-- the live darts of t are those of f under their names, and darts at points of degree two on the segments of f. `onto` gives each the dart of f that it is part
-- of
pub record SmoothsTo (t : ℕ → ℕ) (n : ℕ) (live : ℕ → Bool) (f : ℕ → ℕ) (m : ℕ) (name onto : ℕ → ℕ) : Type 0 where
  pub slab : IsSlab live t n
  pub turn : IsPermutation f m
  pub even : m % 2 ≡ 0
  pub within : (d : ℕ) → d < m → name d < n
  pub alive : (d : ℕ) → d < m → live (name d) ≡ true
  pub onto_within : (y : ℕ) → y < n → live y ≡ true → onto y < m
  pub returns : (d : ℕ) → d < m → onto (name d) ≡ d
  pub twins : (y : ℕ) → y < n → live y ≡ true → onto (twin y) ≡ twin (onto y)
  -- a dart at a point of degree two turns to the other one there
  pub turns : (y : ℕ) → y < n → live y ≡ true → (onto (t y) ≡ f (onto y)) ⊎ (onto (t y) ≡ twin (onto y))
  pub named_turns : (d : ℕ) → d < m → t (name d) ≡ name (f d)
  -- along its face a dart of f leads over its parts to the next dart
  pub parts : (y : ℕ) → y < n → live y ≡ true → SameCycle (face_next t) (name (onto y)) y
  pub forth : (d : ℕ) → d < m → SameCycle (face_next t) (name d) (name (face_next f d))

module _ {t : ℕ → ℕ} {n : ℕ} {live : ℕ → Bool} {f : ℕ → ℕ} {m : ℕ} {name onto : ℕ → ℕ} (c : SmoothsTo t n live f m name onto) where
  faces_t : IsPermutation (face_next t) n
  faces_t = face_next-permutation t n c.slab.permutation c.slab.even

  faces_f : IsPermutation (face_next f) m
  faces_f = face_next-permutation f m c.turn c.even

  -- ---- What is live stays live

  live_turn : (y : ℕ) → y < n → live y ≡ true → live (t y) ≡ true
  live_turn y ly h = grind (arith, cases_Bool, false≢true)

  live_twin : (y : ℕ) → y < n → live y ≡ true → live (twin y) ≡ true
  live_twin y ly h = c.slab.twins y ly ∙ h

  live_next : (y : ℕ) → y < n → live y ≡ true → live (face_next t y) ≡ true
  live_next y ly h = live_turn (twin y) (twin-within n y c.slab.even ly) (live_twin y ly h)

  -- ---- Faces

  -- one step along a face: the same dart of f, or the next along its face
  face_step_onto : (y : ℕ) → y < n → live y ≡ true → (onto (face_next t y) ≡ face_next f (onto y)) ⊎ (onto (face_next t y) ≡ onto y)
  face_step_onto y ly h =
      let lt : twin y < n = twin-within n y c.slab.even ly in
      let at : onto (twin y) ≡ twin (onto y) = c.twins y ly h in
      grind (arith, live_twin, twin-twin)

  record IsOnFace (a y : ℕ) : Type 0 where
    inside : y < n
    alive : live y ≡ true
    same : SameCycle (face_next f) a (onto y)

  on_face : (a : ℕ) (k y : ℕ) → IsOnFace a y → IsOnFace a (after (face_next t) k y)
  on_face a zero y h = h
  on_face a (suc k) y h =
      let r : IsOnFace a (after (face_next t) k y) = on_face a k y h in
      let z : ℕ = after (face_next t) k y in
      record {
        inside = faces_t.within z r.inside;
        alive = live_next z r.inside r.alive;
        same = elim (face_step_onto z r.inside r.alive) [
          | inl e ↦ subst (λ (w : ℕ). SameCycle (face_next f) a w) (sym e) (SameCycle-step (face_next f) a (onto z) r.same)
          | inr e ↦ subst (λ (w : ℕ). SameCycle (face_next f) a w) (sym e) r.same
        ];
      }

  down : (y z : ℕ) → y < n → live y ≡ true → SameCycle (face_next t) y z → SameCycle (face_next f) (onto y) (onto z)
  down y z ly h s = subst (λ (w : ℕ). SameCycle (face_next f) (onto y) (onto w)) s.leads
      (on_face (onto y) s.steps y (record { inside = ly; alive = h; same = SameCycle-refl (face_next f) (onto y) })).same

  up_steps : (k a : ℕ) → a < m → SameCycle (face_next t) (name a) (name (after (face_next f) k a)) × (after (face_next f) k a < m)
  up_steps zero a la = (SameCycle-refl (face_next t) (name a), la)
  up_steps (suc k) a la =
      let (s, l) = up_steps k a la in (
        SameCycle-trans (face_next t) (name a) (name (after (face_next f) k a))
            (name (face_next f (after (face_next f) k a))) s (c.forth (after (face_next f) k a) l),
        faces_f.within (after (face_next f) k a) l,
      )

  up : (a b : ℕ) → a < m → SameCycle (face_next f) a b → SameCycle (face_next t) (name a) (name b)
  up a b la s = subst (λ (w : ℕ). SameCycle (face_next t) (name a) (name w)) s.leads (up_steps s.steps a la).0

  -- a face with a live dart has live ones only
  dead_steps : (k y : ℕ) → y < n → live y ≡ false → (live (after (face_next t) k y) ≡ false) × (after (face_next t) k y < n)
  dead_steps zero y ly h = (h, ly)
  dead_steps (suc k) y ly h =
      let (dead, l) = dead_steps k y ly h in
      let z : ℕ = after (face_next t) k y in
      let lt : twin z < n = twin-within n z c.slab.even l in
      let dt : live (twin z) ≡ false = c.slab.twins z l ∙ dead in
      (ap live (c.slab.free (twin z) lt dt) ∙ dt, faces_t.within z l)

  pub smoothed_faces : cycle_count (face_next f) m ≡ live_cycle_count live (face_next t) n
  smoothed_faces = live_class_count-carries name (is_met (face_next f) m) m live (is_met (face_next t) n) n (is_met-equivalence (face_next f) m faces_f)
      (is_met-equivalence (face_next t) n faces_t) (record {
        within = c.within;
        alive = c.alive;
        same = λ a b la lb. same_tests (is_met (face_next t) n (name a) (name b)) (is_met (face_next f) m a b)
            (λ w. SameCycle-is_met (face_next f) m faces_f a b la
            (subst (λ (v : ℕ). SameCycle (face_next f) v b) (c.returns a la) (subst (λ (v : ℕ). SameCycle (face_next f) (onto (name a)) v) (c.returns b lb)
            (down (name a) (name b) (c.within a la) (c.alive a la) (is_met-SameCycle (face_next t) n (name a) (name b) w)))))
            (λ w. SameCycle-is_met (face_next t) n faces_t (name a) (name b) (c.within a la) (up a b la (is_met-SameCycle (face_next f) m a b w)));
        from = onto;
        from_within = c.onto_within;
        meets = λ y ly h. SameCycle-is_met (face_next t) n faces_t (name (onto y)) y (c.within (onto y) (c.onto_within y ly h)) (c.parts y ly h);
        apart = λ y z ly lz h w. grind (arith, cases_Bool, is_met-SameCycle, false≢true, dead_steps);
      })

  -- ---- Connections

  record IsJoinedTo (a y : ℕ) : Type 0 where
    inside : y < n
    alive : live y ≡ true
    joined : Joined f twin a (onto y)

  joined_along : (a : ℕ) (ms : List Move) (y : ℕ) → IsJoinedTo a y → IsJoinedTo a (along t twin ms y)
  joined_along a [] y h = h
  joined_along a (Turn ∷ ms) y h =
      let r : IsJoinedTo a (along t twin ms y) = joined_along a ms y h in
      let z : ℕ = along t twin ms y in
      record {
        inside = c.slab.permutation.within z r.inside;
        alive = live_turn z r.inside r.alive;
        joined = elim (c.turns z r.inside r.alive) [
          | inl e ↦ subst (λ (w : ℕ). Joined f twin a w) (sym e) (Joined-turned f twin a (onto z) r.joined)
          | inr e ↦ subst (λ (w : ℕ). Joined f twin a w) (sym e) (Joined-crossed f twin a (onto z) r.joined)
        ];
      }
  joined_along a (Cross ∷ ms) y h =
      let r : IsJoinedTo a (along t twin ms y) = joined_along a ms y h in
      let z : ℕ = along t twin ms y in
      record {
        inside = twin-within n z c.slab.even r.inside;
        alive = live_twin z r.inside r.alive;
        joined = subst (λ (w : ℕ). Joined f twin a w) (sym (c.twins z r.inside r.alive)) (Joined-crossed f twin a (onto z) r.joined);
      }

  -- what hangs together above does so below
  pub smoothed_connected : IsConnectedAmong live t n → (a b : ℕ) → a < m → b < m → Joined f twin a b
  smoothed_connected h a b la lb =
      let j : Joined t twin (name a) (name b) = h (name a) (name b) (c.within a la) (c.within b lb) (c.alive a la) (c.alive b lb) in
      let r : IsJoinedTo a (along t twin j.moves (name a)) = joined_along a j.moves (name a)
      (record { inside = c.within a la; alive = c.alive a la; joined = subst (λ (w : ℕ). Joined f twin a w) (sym (c.returns a la)) (Joined-refl f twin a) }) in
      subst (λ (w : ℕ). Joined f twin a w) (ap onto j.leads ∙ c.returns b lb) r.joined

  -- ---- And back

  -- the two ends of a segment are joined above
  twin_above : (d : ℕ) → d < m → Joined t twin (name d) (name (twin d))
  twin_above d ld =
      let lt : twin d < m = twin-within m d c.even ld in
      let on : Joined t twin (name d) (name (face_next f d)) = Joined-SameCycle-faces (name d) (name (face_next f d)) (c.forth d ld) in
      let back : Joined t twin (name (twin d)) (name (face_next f d)) = subst (λ (w : ℕ). Joined t twin (name (twin d)) w) (c.named_turns (twin d) lt)
      (Joined-turned t twin (name (twin d)) (name (twin d)) (Joined-refl t twin (name (twin d)))) in
      Joined-trans t twin (name d) (name (face_next f d))
      (name (twin d)) on (Joined-back t n c.slab.permutation c.slab.even (name (twin d)) (name (face_next f d)) (c.within (twin d) lt) back) where
        steps_joined : (k a : ℕ) → Joined t twin a (after (face_next t) k a)
        steps_joined zero a = Joined-refl t twin a
        steps_joined (suc k) a = Joined-turned t twin a (twin (after (face_next t) k a)) (Joined-crossed t twin a (after (face_next t) k a) (steps_joined k a))

        Joined-SameCycle-faces : (a b : ℕ) → SameCycle (face_next t) a b → Joined t twin a b
        Joined-SameCycle-faces a b s = subst (λ (w : ℕ). Joined t twin a w) s.leads (steps_joined s.steps a)

  face_joined : (k a : ℕ) → Joined t twin a (after (face_next t) k a)
  face_joined zero a = Joined-refl t twin a
  face_joined (suc k) a = Joined-turned t twin a (twin (after (face_next t) k a)) (Joined-crossed t twin a (after (face_next t) k a) (face_joined k a))

  named_along : (ms : List Move) (a : ℕ) → a < m → Joined t twin (name a) (name (along f twin ms a)) × (along f twin ms a < m)
  named_along [] a la = (Joined-refl t twin (name a), la)
  named_along (Turn ∷ ms) a la =
      let (j, l) = named_along ms a la in
      let z : ℕ = along f twin ms a in
      (subst (λ (w : ℕ). Joined t twin (name a) w) (c.named_turns z l) (Joined-turned t twin (name a) (name z) j), c.turn.within z l)
  named_along (Cross ∷ ms) a la =
      let (j, l) = named_along ms a la in
      let z : ℕ = along f twin ms a in
      (Joined-trans t twin (name a) (name z) (name (twin z)) j (twin_above z l), twin-within m z c.even l)

  -- what hangs together below does so above
  pub smoothed_out_back : ((a b : ℕ) → a < m → b < m → Joined f twin a b) → IsConnectedAmong live t n
  smoothed_out_back h y z ly lz wy wz =
      let ay : onto y < m = c.onto_within y ly wy in
      let az : onto z < m = c.onto_within z lz wz in
      let j : Joined f twin (onto y) (onto z) = h (onto y) (onto z) ay az in
      let middle : Joined t twin (name (onto y)) (name (onto z)) =
      subst (λ (w : ℕ). Joined t twin (name (onto y)) (name w)) j.leads (named_along j.moves (onto y) ay).0 in
      let to_y : Joined t twin (name (onto y)) y =
      subst (λ (w : ℕ). Joined t twin (name (onto y)) w) (c.parts y ly wy).leads (face_joined (c.parts y ly wy).steps (name (onto y))) in
      let to_z : Joined t twin (name (onto z)) z =
      subst (λ (w : ℕ). Joined t twin (name (onto z)) w) (c.parts z lz wz).leads (face_joined (c.parts z lz wz).steps (name (onto z))) in
      Joined-trans t twin y (name (onto y)) z (Joined-back t n c.slab.permutation c.slab.even (name (onto y)) y (c.within (onto y) ay) to_y)
      (Joined-trans t twin (name (onto y)) (name (onto z)) z middle to_z)
