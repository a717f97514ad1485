-- Labels of faces: two live darts have one label exactly where they lie in one face. What an edit does to them.
use Rattle.std.specs.Prelude.{◌≡◌, ◌≢◌, ◌⊎◌, ℕ, ◌<◌, Bool, true}
use Rattle.topo_core.specs.Cycles.{SameCycle}
use Rattle.topo_core.specs.Rotations.{twin, face_next}
use Rattle.topo_perm.specs.Edits.{IsAllowedHang, IsAllowedChord, IsAllowedSplit, IsAllowedSmooth, IsAllowedUnchord}
use Rattle.topo_perm.specs.Joins.{AddsSegment}

pub record LabelsFaces (live : ℕ → Bool) (f label : ℕ → ℕ) : Type 0 where
  pub same_face : (a b : ℕ) → live a ≡ true → live b ≡ true → label a ≡ label b → SameCycle (face_next f) a b
  pub same_label : (a b : ℕ) → live a ≡ true → live b ≡ true → SameCycle (face_next f) a b → label a ≡ label b

-- the segment of x is live in the second and not in the first, and all live darts are below n
pub record AddsBelow (live live' : ℕ → Bool) (n x : ℕ) : Type 0 where
  pub below : (a : ℕ) → live a ≡ true → a < n
  pub below_after : (a : ℕ) → live' a ≡ true → a < n
  pub adds : AddsSegment live live' n x

-- what is live keeps its label
abbrev pub AreKept : (ℕ → Bool) → (ℕ → ℕ) → (ℕ → ℕ) → Type 0
AreKept live old new = (a : ℕ) → live a ≡ true → new a ≡ old a

-- both sides of a new segment that hangs lie in the face of the corner
abbrev pub HangLabels : Type 0
HangLabels = (live live' : ℕ → Bool) (f g l l' : ℕ → ℕ) (n c x : ℕ) → AddsBelow live live' n x → live c ≡ true → IsAllowedHang f g n c x → LabelsFaces live f l
    → AreKept live l l' → l' x ≡ l c → l' (twin x) ≡ l c → LabelsFaces live' g l'

-- each half of a new segment goes on along the face of the one that was split
abbrev pub SplitLabels : Type 0
SplitLabels = (live live' : ℕ → Bool) (f g l l' : ℕ → ℕ) (n h x : ℕ) → AddsBelow live live' n x → live h ≡ true → live (twin h) ≡ true
    → IsAllowedSplit f g n h x → LabelsFaces live f l
    → AreKept live l l' → l' x ≡ l h → l' (twin x) ≡ l (twin h) → LabelsFaces live' g l'

-- what is left keeps its labels
abbrev pub SmoothLabels : Type 0
SmoothLabels = (live live' : ℕ → Bool) (f g l l' : ℕ → ℕ) (n x : ℕ) → AddsBelow live' live n x → IsAllowedSmooth f g n x → LabelsFaces live f l
    → AreKept live' l l' → LabelsFaces live' g l'

-- the whole face of y, on one side of the new segment, has a new label, and all else the old ones
pub record ArePartLabels (live live' : ℕ → Bool) (g l l' : ℕ → ℕ) (c y new : ℕ) : Type 0 where
  pub free : (a : ℕ) → live a ≡ true → l a ≢ new
  pub anew : (a : ℕ) → live' a ≡ true → SameCycle (face_next g) a y → l' a ≡ new
  pub kept : (a : ℕ) → live a ≡ true → ¬ SameCycle (face_next g) a y → l' a ≡ l a
  pub other_side : l' (twin y) ≡ l c

-- either side of a chord between two corners may have the new label
abbrev pub ChordLabels : Type 0
ChordLabels = (live live' : ℕ → Bool) (f g l l' : ℕ → ℕ) (n c d x y new : ℕ) → AddsBelow live live' n x → live c ≡ true → live d ≡ true → c ≢ d
    → IsAllowedChord f g n c d x → LabelsFaces live f l
    → (y ≡ x) ⊎ (y ≡ twin x) → ArePartLabels live live' g l l' c y new → LabelsFaces live' g l'

-- the darts of the face of y, on one side of the segment that goes, have the label of the other side, and all else the old ones
pub record AreJoinedLabels (live' : ℕ → Bool) (f l l' : ℕ → ℕ) (y : ℕ) : Type 0 where
  pub anew : (a : ℕ) → live' a ≡ true → SameCycle (face_next f) a y → l' a ≡ l (twin y)
  pub kept : (a : ℕ) → live' a ≡ true → ¬ SameCycle (face_next f) a y → l' a ≡ l a

-- either of the two faces may take the label of the other
abbrev pub UnchordLabels : Type 0
UnchordLabels = (live live' : ℕ → Bool) (f g l l' : ℕ → ℕ) (n h y : ℕ) → AddsBelow live' live n h → IsAllowedUnchord f g n h → LabelsFaces live f l
    → (y ≡ h) ⊎ (y ≡ twin h) → AreJoinedLabels live' f l l' y → LabelsFaces live' g l'
