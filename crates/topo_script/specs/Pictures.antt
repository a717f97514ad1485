-- The JSON value of a picture's rows, and its text.
use Rattle.std.specs.Prelude.{ℕ, List, map, codes}
use Rattle.serde_json.specs.Data.{Data, number, unsigned, string, array, object, no_members, member}
use Rattle.serde_json.specs.View.{items_of}
use Rattle.serde_json.specs.Written.{compact_text}
use Rattle.topo_core.specs.declared.darts.Sign.{Sign}
use Rattle.topo_core.specs.declared.darts.Sign.TheVariants.{LeftToRight, RightToLeft}
use Rattle.topo_core.specs.declared.rows.Rows.{Rows}
use Rattle.topo_core.specs.declared.rows.EdgeRow.{EdgeRow}
use Rattle.topo_core.specs.declared.rows.CrossRow.{CrossRow}
use Rattle.topo_graph.specs.declared.parts.Part.{Part}

abbrev pub number_data : ℕ → Data
number_data n = number (unsigned n)

-- an array of the values of the items
abbrev pub list_data : {X : Type 0} → (X → Data) → List X → Data
list_data item xs = array (items_of (map item xs))

abbrev pub sign_data : Sign → Data
sign_data LeftToRight = string (codes "ltr")
sign_data RightToLeft = string (codes "rtl")

abbrev pub edge_data : EdgeRow → Data
edge_data row = object
    (member (codes "a") (number_data row.a)
    (member (codes "b") (number_data row.b)
    (member (codes "crossings") (list_data number_data row.crossings)
    (member (codes "id") (number_data row.id)
    (member (codes "kind") (number_data row.kind) no_members)))))

abbrev pub crossing_data : CrossRow → Data
crossing_data x = object
    (member (codes "crossed") (number_data x.crossed)
    (member (codes "id") (number_data x.id)
    (member (codes "newcomer") (number_data x.newcomer)
    (member (codes "sign") (sign_data x.sign) no_members))))

abbrev pub rows_data : Rows → Data
rows_data rows = object
    (member (codes "crossings") (list_data crossing_data rows.crossings)
    (member (codes "edges") (list_data edge_data rows.edges)
    (member (codes "next_crossing") (number_data rows.next_crossing)
    (member (codes "next_edge") (number_data rows.next_edge)
    (member (codes "rotations") (list_data (list_data number_data) rows.rotations) no_members)))))

-- a picture that shows a part of a graph
abbrev pub part_data : Part → Data
part_data part = object
    (member (codes "edges") (list_data number_data part.edges)
    (member (codes "picture") (rows_data part.rows)
    (member (codes "vertices") (list_data number_data part.vertices) no_members)))

-- the text of rows: no space, and keys in the order of their bytes
unfoldable pub rows_text : Rows → List ℕ
rows_text rows = compact_text (rows_data rows)
