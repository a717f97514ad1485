-- Rotation systems on numbers: 2i and 2i + 1 are the two darts of segment i, and f turns to the next dart clockwise at a point.
-- The points are the cycles of f, the faces those of f after the twin.
use Rattle.std.specs.Prelude.{◌≡◌, ℕ, ◌+◌, ◌-◌, ◌/◌, ◌%◌, ◌<◌, ◌==◌, Bool, true, cond, List, [], ◌∷◌, length}
use Rattle.topo_core.specs.Cycles.{map_of, cycle_count, class_count}

-- the other dart of the segment
abbrev pub twin : ℕ → ℕ
twin d = cond (d % 2 == 0) (d + 1) (d - 1)

-- the next dart along the face on the left of d
abbrev pub face_next : (ℕ → ℕ) → ℕ → ℕ
face_next f d = f (twin d)

-- ---- Connectedness

-- a step at a point, or a step along a segment
pub data Move : Type 0 where
  Turn : Move
  Cross : Move

abbrev pub moved : {X : Type 0} → (X → X) → (X → X) → Move → X → X
moved f other Turn d = f d
moved f other Cross d = other d

-- where moves lead from d, the last of them standing first
abbrev pub along : {X : Type 0} → (X → X) → (X → X) → List Move → X → X
along f other [] d = d
along f other (m ∷ ms) d = moved f other m (along f other ms d)

-- b is reached from a by turns f and steps to the other end
pub record Joined {X : Type 0} (f other : X → X) (a b : X) : Type 0 where
  pub moves : List Move
  pub leads : along f other moves a ≡ b

-- any two darts are joined
abbrev pub IsConnected : List ℕ → Type 0
IsConnected p = (a b : ℕ) → a < length p → b < length p → Joined (map_of p) twin a b

-- ---- The four numbers of Euler's formula; the points are `cycles_of p`, and the segments half the length

-- how many faces
abbrev pub faces_of : List ℕ → ℕ
faces_of p = cycle_count (face_next (map_of p)) (length p)

-- c is the number of classes that R has on the numbers below n, by any test for R
pub record IsClassCount (R : ℕ → ℕ → Type 0) (n c : ℕ) : Type 0 where
  pub test : ℕ → ℕ → Bool
  pub sound : (a b : ℕ) → a < n → b < n → test a b ≡ true → R a b
  pub complete : (a b : ℕ) → a < n → b < n → R a b → test a b ≡ true
  pub count : class_count test n ≡ c

-- how many components
abbrev pub IsComponentCount : List ℕ → ℕ → Type 0
IsComponentCount p c = IsClassCount (Joined (map_of p) twin) (length p) c

-- ---- Rotation systems in which some segments are not crossed

-- the other dart of the segment, where the segment is one of s; the dart itself elsewhere
abbrev pub partly : (ℕ → Bool) → ℕ → ℕ
partly s d = cond (s (d / 2)) (twin d) d

-- the next dart round a face, where the segments of s alone are crossed
abbrev pub face_by : (ℕ → ℕ) → (ℕ → Bool) → ℕ → ℕ
face_by f s d = f (partly s d)
