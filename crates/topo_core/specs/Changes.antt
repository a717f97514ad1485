-- What an insertion, a deletion and a growth make of a picture's rows.
use Rattle.std.specs.Prelude.{◌≡◌, ℕ, zero, suc, ◌+◌, ◌<◌, ◌≤◌, ◌==◌, nat_lt, min, ◌&&◌, not, List, [], ◌∷◌, ◌++◌}
use Rattle.std.specs.Prelude.{map, filter, fold, length, take, drop, slice_index_or, slice_set, insert, is_some, true}
use Rattle.std.specs.List.{enumerate_from, position_or_len}
use Rattle.topo_core.specs.declared.darts.Dart.{Dart}
use Rattle.topo_core.specs.declared.darts.Way.{Way}
use Rattle.topo_core.specs.declared.darts.Way.TheVariants.{Forward, Back}
use Rattle.topo_core.specs.declared.darts.Sign.{Sign}
use Rattle.topo_core.specs.declared.darts.Sign.TheVariants.{LeftToRight, RightToLeft}
use Rattle.topo_core.specs.declared.rows.Rows.{Rows}
use Rattle.topo_core.specs.declared.rows.EdgeRow.{EdgeRow}
use Rattle.topo_core.specs.declared.rows.CrossRow.{CrossRow}
use Rattle.topo_core.specs.declared.routes.Route.{Route}
use Rattle.topo_core.specs.Items.{has_id}
use Rattle.topo_core.specs.Systems.{System, SameFace, Connected, bypassed}
use Rattle.topo_core.specs.Picture.{edge_at, edge_row, system}

-- ---- A new edge in a rotation

-- the list with e in the corner at position p: as entry p, and at position 0 as the last one
abbrev pub put_in : ℕ → ℕ → List ℕ → List ℕ
put_in zero e around = around ++ e ∷ []
put_in (suc p) e around = insert around (suc p) e

-- the rotations with e in the corner at position p of v
abbrev pub with_end : List (List ℕ) → ℕ → ℕ → ℕ → List (List ℕ)
with_end rotations v p e = slice_set rotations v (put_in p e (slice_index_or rotations v []))

-- ---- Insertion

-- the crossed darts with the ids of their crossings
abbrev pub numbered : Rows → Route → List (ℕ × Dart)
numbered rows r = enumerate_from rows.next_crossing r.crossed

-- the new crossings on segment s of edge e
abbrev pub new_on : Rows → Route → ℕ → ℕ → List ℕ
new_on rows r e s = map (λ x. x.0) (filter (λ x. x.1.edge == e && x.1.seg == s) (numbered rows r))

-- a path from segment s on, with the new crossings of each old segment put between its ends
abbrev pub woven : (ℕ → List ℕ) → ℕ → List ℕ → List ℕ
woven new s [] = new s
woven new s (x ∷ xs) = new s ++ (x ∷ woven new (s + 1) xs)

abbrev pub crossed_row : Rows → Route → EdgeRow → EdgeRow
crossed_row rows r row = record row { crossings = woven (new_on rows r row.id) 0 row.crossings }

abbrev pub sign_of : Way → Sign
sign_of Forward = LeftToRight
sign_of Back = RightToLeft

abbrev pub new_crossing : ℕ → ℕ × Dart → CrossRow
new_crossing f x = record { id = x.0; crossed = x.1.edge; newcomer = f; sign = sign_of x.1.way }

-- the picture with a new edge from u to v shown along the route
abbrev pub shown : Rows → ℕ → ℕ → ℕ → Route → Rows
shown rows u v kind r = let f = rows.next_edge in record {
  rotations = with_end (with_end rows.rotations u r.start f) v r.end f;
  edges = map (crossed_row rows r) rows.edges ++ record { id = f; a = u; b = v; kind = kind; crossings = map (λ x. x.0) (numbered rows r) } ∷ [];
  crossings = rows.crossings ++ map (new_crossing f) (numbered rows r);
  next_edge = f + 1;
  next_crossing = rows.next_crossing + length r.crossed;
}

-- ---- Growth

-- the picture with a new vertex on a new edge f that starts at position p of u
abbrev pub grown : Rows → ℕ → ℕ → ℕ → Rows
grown rows u p kind = let f = rows.next_edge in record {
  rotations = with_end rows.rotations u p f ++ (f ∷ []) ∷ [];
  edges = rows.edges ++ record { id = f; a = u; b = length rows.rotations; kind = kind; crossings = [] } ∷ [];
  crossings = rows.crossings;
  next_edge = f + 1;
  next_crossing = rows.next_crossing;
}

-- ---- Deletion

-- the same cycle, listed from x on
abbrev pub listed_from : ℕ → List ℕ → List ℕ
listed_from x around = let i = position_or_len (λ y. y == x) around in drop i around ++ take i around

-- the same cycle, listed from its least id on
abbrev pub from_least : List ℕ → List ℕ
from_least [] = []
from_least (x ∷ xs) = listed_from (fold min x xs) (x ∷ xs)

-- the row without these crossings
abbrev pub uncrossed_row : List ℕ → EdgeRow → EdgeRow
uncrossed_row gone row = record row { crossings = filter (λ x. not (has_id gone x)) row.crossings }

-- the picture without edge e and its crossings
abbrev pub without : Rows → ℕ → Rows
without rows e = let gone = (edge_at rows e).crossings in record {
  rotations = map (λ around. from_least (filter (λ f. not (f == e)) around)) rows.rotations;
  edges = map (uncrossed_row gone) (filter (λ row. not (row.id == e)) rows.edges);
  crossings = filter (λ x. not (has_id gone x.id)) rows.crossings;
  next_edge = rows.next_edge;
  next_crossing = rows.next_crossing;
}

-- ---- Cuts

-- the system without the darts of the first n segments of e
abbrev pub opened : Rows → ℕ → ℕ → System
opened rows e n = bypassed (λ d. d.edge == e && nat_lt d.seg n) (system rows)

-- a cut, by connectedness: the picture falls apart without e, and first when the segments of e up to i are out
pub record IsCut (rows : Rows) (e i : ℕ) : Type 0 where
  pub falls_apart : Connected (system (without rows e)) → ⊥
  pub apart_after : Connected (opened rows e (i + 1)) → ⊥
  pub whole_before : (j : ℕ) → j < i → Connected (opened rows e (j + 1))

-- segment i of e has one face on both sides when the segments before it are out
abbrev pub HasOneFace : Rows → ℕ → ℕ → Type 0
HasOneFace rows e i = SameFace (opened rows e i) (record { edge = e; seg = i; way = Forward }) (record { edge = e; seg = i; way = Back })

-- a cut, by faces: e is there, and its segment i is the first with one face on both sides when the segments before it are out
pub record IsLocalCut (rows : Rows) (e i : ℕ) : Type 0 where
  pub there : is_some (edge_row rows e) ≡ true
  pub on_path : i ≤ length (edge_at rows e).crossings
  pub one_face : HasOneFace rows e i
  pub two_faces_before : (j : ℕ) → j < i → HasOneFace rows e j → ⊥
