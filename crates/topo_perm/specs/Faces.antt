-- Which darts lie in one face after an edit.
use Rattle.std.specs.Prelude.{◌≢◌, ℕ, ◌<◌}
use Rattle.topo_core.specs.Cycles.{SameCycle}
use Rattle.topo_core.specs.Rotations.{twin, face_next}
use Rattle.topo_perm.specs.Edits.{IsApart, IsAllowedHang, IsAllowedChord, IsAllowedSplit, IsAllowedUnchord, IsAllowedSmooth}

-- darts in one face stay in one face
abbrev pub HangKeepsFaces : Type 0
HangKeepsFaces = (f g : ℕ → ℕ) (n c x a b : ℕ) → IsAllowedHang f g n c x → a < n → SameCycle (face_next f) a b → SameCycle (face_next g) a b

-- both sides of the new segment lie in the face of the corner
abbrev pub HangSides : Type 0
HangSides = (f g : ℕ → ℕ) (n c x : ℕ) → IsAllowedHang f g n c x → SameCycle (face_next g) x (twin x) × SameCycle (face_next g) x c

abbrev pub SplitKeepsFaces : Type 0
SplitKeepsFaces = (f g : ℕ → ℕ) (n h x a b : ℕ) → IsAllowedSplit f g n h x → IsApart n a x → SameCycle (face_next f) a b → SameCycle (face_next g) a b

-- the new segment goes on along both faces of the old one
abbrev pub SplitSides : Type 0
SplitSides = (f g : ℕ → ℕ) (n h x : ℕ) → IsAllowedSplit f g n h x → SameCycle (face_next g) h x × SameCycle (face_next g) (twin x) (twin h)

-- darts in one face stay in one face, but for the face that the chord parts
abbrev pub ChordKeepsFaces : Type 0
ChordKeepsFaces = (f g : ℕ → ℕ) (n c d x a b : ℕ) → IsAllowedChord f g n c d x → IsApart n a x → ¬ SameCycle (face_next f) a c → SameCycle (face_next f) a b
    → SameCycle (face_next g) a b

-- with two different corners, the new segment has the corner that it leads to in the face on its one side, the one that it leaves in the face on its other, and
-- these are two
abbrev pub ChordSides : Type 0
ChordSides = (f g : ℕ → ℕ) (n c d x : ℕ) → IsAllowedChord f g n c d x → c ≢ d → SameCycle (face_next g) x d × SameCycle (face_next g) (twin x) c
    × ¬ SameCycle (face_next g) x (twin x)

-- the two faces at a segment that goes become one, and no other is parted
abbrev pub UnchordKeepsFaces : Type 0
UnchordKeepsFaces = (f g : ℕ → ℕ) (n h a b : ℕ) → IsAllowedUnchord f g n h → IsApart n a h → IsApart n b h → SameCycle (face_next f) a b
    → SameCycle (face_next g) a b

abbrev pub SmoothKeepsFaces : Type 0
SmoothKeepsFaces = (f g : ℕ → ℕ) (n x a b : ℕ) → IsAllowedSmooth f g n x → IsApart n a x → IsApart n b x → SameCycle (face_next f) a b
    → SameCycle (face_next g) a b
