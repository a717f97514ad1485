-- The form of a picture's rows.
use Rattle.std.specs.Prelude.{ℕ, List, codes, if◌then◌else◌, Ok, Err}
use Rattle.serde_json.specs.Data.{Data}
use Rattle.topo_core.specs.declared.darts.Sign.{Sign}
use Rattle.topo_core.specs.declared.darts.Sign.TheVariants.{LeftToRight, RightToLeft}
use Rattle.topo_core.specs.declared.rows.Rows.{Rows}
use Rattle.topo_core.specs.declared.rows.EdgeRow.{EdgeRow}
use Rattle.topo_core.specs.declared.rows.CrossRow.{CrossRow}
use Rattle.topo_script.specs.declared.keys.TheConstants.{CROSSING_KEYS, EDGE_KEYS, ROWS_KEYS}
use Rattle.topo_script.specs.declared.path.Key.TheVariants.{A, B, Crossed, Crossings, Edges, Id, Kind, Newcomer}
use Rattle.topo_script.specs.declared.path.Key.TheVariants.{NextCrossing, NextEdge, Rotations, Sign as SignKey}
use Rattle.topo_script.specs.declared.path.JsonPath.{JsonPath}
use Rattle.topo_script.specs.declared.fault.ScriptFault.TheVariants.{BadShape}
use Rattle.topo_script.specs.Paths.{whole}
use Rattle.topo_script.specs.Reads.{Read, ◌>>=◌, number_form, is_text, list_form, has_keys, member_form, value_of}

unfoldable pub sign_form : JsonPath → Data → Read Sign
sign_form path d = if is_text (codes "ltr") d then Ok LeftToRight else (if is_text (codes "rtl") d then Ok RightToLeft else Err (BadShape path))

unfoldable pub edge_form : JsonPath → Data → Read EdgeRow
edge_form path d = do
  _ ← has_keys path EDGE_KEYS d
  a ← member_form number_form path A d
  b ← member_form number_form path B d
  crossings ← member_form (list_form number_form) path Crossings d
  id ← member_form number_form path Id d
  kind ← member_form number_form path Kind d
  Ok (record { id = id; a = a; b = b; kind = kind; crossings = crossings })

unfoldable pub crossing_form : JsonPath → Data → Read CrossRow
crossing_form path d = do
  _ ← has_keys path CROSSING_KEYS d
  crossed ← member_form number_form path Crossed d
  id ← member_form number_form path Id d
  newcomer ← member_form number_form path Newcomer d
  sign ← member_form sign_form path SignKey d
  Ok (record { id = id; crossed = crossed; newcomer = newcomer; sign = sign })

unfoldable pub rows_form : JsonPath → Data → Read Rows
rows_form path d = do
  _ ← has_keys path ROWS_KEYS d
  crossings ← member_form (list_form crossing_form) path Crossings d
  edges ← member_form (list_form edge_form) path Edges d
  next_crossing ← member_form number_form path NextCrossing d
  next_edge ← member_form number_form path NextEdge d
  rotations ← member_form (list_form (list_form number_form)) path Rotations d
  Ok (record { rotations = rotations; edges = edges; crossings = crossings; next_edge = next_edge; next_crossing = next_crossing })

-- the rows that bytes spell, or their first fault
unfoldable pub rows_of : List ℕ → Read Rows
rows_of bytes = do
  d ← value_of 268435456 bytes
  rows_form whole d
