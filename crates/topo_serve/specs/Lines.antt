-- Lines of a text.
use Rattle.std.specs.Prelude.{◌≡◌, ◌≢◌, ◌==◌, ℕ, List, [], ◌∷◌, ◌++◌, if◌then◌else◌, ⊤}

-- the bytes before the first line feed: all of them, where there is none
abbrev pub first_line : List ℕ → List ℕ
first_line [] = []
first_line (b ∷ bs) = if b == 10 then [] else b ∷ first_line bs

-- a byte before the first of the lines; a line of its own, where there is none
abbrev pub before_first : ℕ → List (List ℕ) → List (List ℕ)
before_first b [] = (b ∷ []) ∷ []
before_first b (line ∷ lines) = (b ∷ line) ∷ lines

-- The lines of a text, without their line feeds. What stands behind the last line feed is a line too, if it is not empty.
abbrev pub lines_of : List ℕ → List (List ℕ)
lines_of [] = []
lines_of (b ∷ bs) = if b == 10 then [] ∷ lines_of bs else before_first b (lines_of bs)

-- the text of lines, each with its line feed
abbrev pub closed : List (List ℕ) → List ℕ
closed [] = []
closed (line ∷ lines) = line ++ 10 ∷ closed lines

-- there is no line feed
abbrev pub IsPlain : List ℕ → Type 0
IsPlain [] = ⊤
IsPlain (b ∷ bs) = (b ≢ 10) × IsPlain bs

abbrev pub ArePlain : List (List ℕ) → Type 0
ArePlain [] = ⊤
ArePlain (line ∷ lines) = IsPlain line × ArePlain lines

-- the text begins with these lines, each with its line feed
pub record BeginsWith (text : List ℕ) (lines : List (List ℕ)) : Type 0 where
  pub plain : ArePlain lines
  pub rest : List ℕ
  pub joined : text ≡ closed lines ++ rest
