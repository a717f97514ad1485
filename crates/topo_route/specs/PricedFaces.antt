-- What a search sees of a picture with prices.
use Rattle.std.specs.Prelude.{ℕ, List, Option}
use Rattle.topo_core.specs.Lawful.{Lawful}
use Rattle.topo_core.specs.Routes.{Pricing}
use Rattle.topo_route.specs.FaceHeights.{dart_heights}
use Rattle.topo_route.specs.Names.{HasFaces, IsNamed, Named}

-- what crossing costs, the prices that are kept, the names of the darts, the labels of their faces, and a number that these are below
pub record PricedFaces : Type 1 where
  pub price : Pricing
  pub kept : List (Option ℕ)
  pub named : Named
  pub face : ℕ → ℕ
  pub faces : ℕ

-- what is true of each: the picture is lawful, each dart has a name of its own, and two have one label just where they lie in one face
pub record AreFaces (seen : PricedFaces) : Type 0 where
  pub lawful : Lawful seen.named.rows
  pub names : IsNamed seen.named
  pub labels : HasFaces seen.named seen.face seen.faces

-- the heights of darts by their names, from those of their faces by their labels
abbrev pub heights_over : PricedFaces → List ℕ → List ℕ
heights_over seen heights = dart_heights seen.named seen.face heights
