-- Walks along faces: steps add up, and a walk may start anywhere in its first face.
use Rattle.std.proofs.Common.{◌≡◌, ℕ, zero, suc, ◌+◌, ◌<◌, ◌≤◌, List, [], ◌∷◌, refl, sym, ap, subst, ◌∙◌, arith}
use Rattle.topo_core.specs.declared.darts.Dart.{Dart}
use Rattle.topo_core.specs.declared.rows.Rows.{Rows}
use Rattle.topo_core.specs.Cycles.{SameCycle, after}
use Rattle.topo_core.specs.Picture.{system}
use Rattle.topo_core.specs.Routes.{Crosses}
use Rattle.topo_core.specs.Systems.{SameFace, face_step}
use Rattle.topo_core.specs.Lawful.{Lawful}
use Rattle.topo_route.specs.Names.{HasFaces, IsName, IsNamed, Named, dart_named, next_name}
use Rattle.topo_route.proofs.names.Names.{after_is, back_round, face_of_names, names_of_face, next_is, round_names}
use Rattle.topo_route.proofs.names.Rounds.{round_home}

after_sum : {X : Type 0} (f : X → X) (k m : ℕ) (a : X) → after f (k + m) a ≡ after f k (after f m a)
after_sum f zero m a = let e : 0 + m ≡ m = omega arith in ap (λ n. after f n a) e
after_sum f (suc k) m a = let e : suc k + m ≡ suc (k + m) = omega arith in ap (λ n. after f n a) e ∙ ap f (after_sum f k m a)

same_through : {X : Type 0} (f : X → X) (a b c : X) → SameCycle f a b → SameCycle f b c → SameCycle f a c
same_through f a b c g h = record {
  steps = h.steps + g.steps;
  leads = after_sum f h.steps g.steps a ∙ ap (after f h.steps) g.leads ∙ h.leads;
}

-- a walk may start anywhere in its first face
pub crosses_from : (rows : Rows) (c d : Dart) (xs : List Dart) (to : Dart) → SameFace (system rows) c d → Crosses (system rows) d xs to
    → Crosses (system rows) c xs to
crosses_from rows c d [] to same walk = same_through (face_step (system rows)) c d to same walk
crosses_from rows c d (x ∷ xs) to same walk = (same_through (face_step (system rows)) c d x same walk.0, walk.1)

-- ---- SearchState of faces

module _ (g : Named) (lawful : Lawful g.rows) (has : IsNamed g) (face : ℕ → ℕ) (faces : ℕ) (has_faces : HasFaces g face faces) where
  -- the next dart has the same label
  pub next_face : (k : ℕ) → IsName g k → face (next_name g k) ≡ face k
  next_face k l =
      let next = next_is g lawful has k l in
      let back = back_round g lawful has k (next_name g k) l (record { steps = 1; leads = refl }) in
      has_faces.same (next_name g k) k next l (face_of_names g lawful has (next_name g k) k next back)

  pub face_after : (j k : ℕ) → IsName g k → face (after (next_name g) j k) ≡ face k
  face_after zero k l = refl
  face_after (suc j) k l = next_face (after (next_name g) j k) (after_is g lawful has j k l) ∙ face_after j k l

  -- a dart with the same label is met on the way round
  face_round : (d k : ℕ) → IsName g d → IsName g k → face k ≡ face d → SameCycle (next_name g) d k
  face_round d k there l e = subst (SameCycle (next_name g) d) l.is (names_of_face g lawful has d (dart_named g k) there (has_faces.one d k there l (sym e)))

  module _ (P : ℕ → Type 0) (d : ℕ) (there : IsName g d) (n : ℕ) (along : (j : ℕ) → j < n → P (after (next_name g) j d)) where
    -- what holds of as many darts as there may be names, one after another, holds of all darts of the face
    pub face_whole : g.size ≤ n → (k : ℕ) → IsName g k → face k ≡ face d → P k
    face_whole many k l e = round_names g lawful has P d there (λ j less. along j (omega arith)) k (face_round d k there l e)

    -- and so does what holds until the walk has come home
    pub face_home : 0 < n → after (next_name g) n d ≡ d → (k : ℕ) → IsName g k → face k ≡ face d → P k
    face_home some home k l e = round_home (next_name g) P d n some home along k (face_round d k there l e)
