-- What is taken of a reader, behind bytes that were read ahead.
use Rattle.std.specs.Prelude.{◌≡◌, ◌≤◌, ◌+◌, ℕ, List, [], ◌∷◌, ◌++◌, Option, length, take, true, false, Bool, ⊤}
use Rattle.std.specs.Io.KnownBytes.{Consumes, IsAtEnd}
use Rattle.topo_serve.specs.Lines.{IsPlain}
use Rattle.topo_serve.specs.declared.ahead.Part.{Part}
use Rattle.topo_serve.specs.declared.ahead.Part.TheVariants.{Feed, More, End}

-- some bytes are read
pub record Consumed (old_left new_left : Option (List ℕ)) : Type 0 where
  pub read : List ℕ
  pub consumed : Consumes old_left new_left read

-- what is read has no line feed
pub record ReadsNoFeed (old_left new_left : Option (List ℕ)) : Type 0 where
  pub read : List ℕ
  pub consumed : Consumes old_left new_left read
  pub plain : IsPlain read

-- what is ahead and what is read begins with what is taken; the rest is ahead from now on
pub record Takes (old_left new_left : Option (List ℕ)) (old_ahead new_ahead taken : List ℕ) : Type 0 where
  pub read : List ℕ
  pub consumed : Consumes old_left new_left read
  pub parted : old_ahead ++ read ≡ taken ++ new_ahead

-- nothing is ahead, and nothing is left to be read
abbrev pub IsOver : Option (List ℕ) → List ℕ → Type 0
IsOver left ahead = IsAtEnd left × (ahead ≡ [])

-- what is taken behind a part of a line
abbrev pub feed_of : Part → List ℕ
feed_of Feed = 10 ∷ []
feed_of More = []
feed_of End = []

-- where a part ends, by what is left to be read and what is ahead from then on
abbrev pub EndsBy : Part → Option (List ℕ) → List ℕ → Type 0
EndsBy Feed left ahead = ⊤
EndsBy More left ahead = ahead ≡ []
EndsBy End left ahead = IsOver left ahead

-- A part of a line is taken, and its line feed where it ends there. Of the line at most so many bytes are kept. The part and
-- what is ahead behind it are from one call of read.
pub record TakesPart (most : ℕ) (old_left new_left : Option (List ℕ)) (old_ahead new_ahead old_line new_line : List ℕ) (part : Part) : Type 0 where
  pub more : List ℕ
  pub plain : IsPlain more
  pub takes : Takes old_left new_left old_ahead new_ahead (more ++ feed_of part)
  pub kept : new_line ≡ take most (old_line ++ more)
  pub ended : EndsBy part new_left new_ahead
  pub few : length ((more ++ feed_of part) ++ new_ahead) ≤ 8192

-- the line feed of a line, or none at the end
abbrev pub feed_if : Bool → List ℕ
feed_if true = 10 ∷ []
feed_if false = []

abbrev pub OverUnless : Bool → Option (List ℕ) → List ℕ → Type 0
OverUnless true left ahead = ⊤
OverUnless false left ahead = IsOver left ahead

-- A line is taken, with its line feed, or up to the end where it has none. Of the line at most so many bytes are kept.
pub record TakesLine (most : ℕ) (old_left new_left : Option (List ℕ)) (old_ahead new_ahead kept : List ℕ) (has_feed : Bool) : Type 0 where
  pub line : List ℕ
  pub plain : IsPlain line
  pub takes : Takes old_left new_left old_ahead new_ahead (line ++ feed_if has_feed)
  pub is_kept : kept ≡ take most line
  pub over : OverUnless has_feed new_left new_ahead

-- where a part of what is ahead ends, by what is ahead from then on
abbrev pub EndsAhead : Part → List ℕ → Type 0
EndsAhead Feed ahead = ⊤
EndsAhead More ahead = ahead ≡ []
EndsAhead End ahead = ⊥

-- a part of what is ahead is taken, with its line feed if it has one
pub record PartsAhead (most : ℕ) (old_ahead new_ahead old_line new_line : List ℕ) (part : Part) : Type 0 where
  pub more : List ℕ
  pub plain : IsPlain more
  pub parted : old_ahead ≡ (more ++ feed_of part) ++ new_ahead
  pub kept : new_line ≡ take most (old_line ++ more)
  pub ended : EndsAhead part new_ahead
  pub few : length ((more ++ feed_of part) ++ new_ahead) ≤ 8192

abbrev pub EndsFirst : ℕ → Part → List ℕ → Option (List ℕ) → List ℕ → Type 0
EndsFirst most Feed kept left ahead = ⊤
EndsFirst most More kept left ahead = length kept ≡ most
EndsFirst most End kept left ahead = IsOver left ahead

-- The first line is taken, with its line feed, or up to the end, or further than so many bytes. Of the line at most so many
-- bytes are kept, and no more than these and those of one call of read are read.
pub record TakesFirst (most : ℕ) (old_left new_left : Option (List ℕ)) (old_ahead new_ahead kept : List ℕ) (part : Part) : Type 0 where
  pub line : List ℕ
  pub plain : IsPlain line
  pub takes : Takes old_left new_left old_ahead new_ahead (line ++ feed_of part)
  pub is_kept : kept ≡ take most line
  pub ends : EndsFirst most part kept new_left new_ahead
  pub few : length takes.read ≤ most + 8192
