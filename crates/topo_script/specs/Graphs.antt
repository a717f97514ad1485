-- The form of a graph of which pictures with few crossings are wanted.
use Rattle.std.specs.Prelude.{ℕ, ◌==◌, ◌&&◌, nat_lt, nat_le, Bool, false, List, [], codes, Option, Some, None, if◌then◌else◌, Ok, Err}
use Rattle.serde_json.specs.Data.{Data}
use Rattle.serde_json.specs.Find.{as_bool}
use Rattle.topo_core.specs.declared.rows.TheConstants.{KINDS}
use Rattle.topo_graph.specs.declared.GraphEdge.{GraphEdge}
use Rattle.topo_graph.specs.declared.parts.Part.{Part}
use Rattle.topo_script.specs.declared.fault.ScriptFault.TheVariants.{BadNumber, BadShape}
use Rattle.topo_graph.specs.declared.Effort.{Effort}
use Rattle.topo_graph.specs.declared.Effort.TheVariants.{Quick, Default, Thorough}
use Rattle.topo_script.specs.declared.graphs.GraphAsked.{GraphAsked}
use Rattle.topo_script.specs.declared.graphs.GraphStart.{GraphStart}
use Rattle.topo_script.specs.declared.graph_forms.TheConstants.{MAX_THREADS}
use Rattle.topo_script.specs.declared.keys.TheConstants.{ANSWER_KEYS, GRAPH_KEYS, PART_KEYS}
use Rattle.topo_script.specs.declared.path.Key.TheVariants.{Edges, Effort as EffortKey, Lonely, Parts, Picture}
use Rattle.topo_script.specs.declared.path.Key.TheVariants.{Prices, Progress, Seconds, Seed, Start, Threads, Vertices}
use Rattle.topo_script.specs.declared.path.JsonPath.{JsonPath}
use Rattle.topo_script.specs.Paths.{element_of, whole}
use Rattle.topo_script.specs.Reads.{Read, ◌>>=◌, due, passes, number_form, is_text, element, element_count, list_form, has_keys, member_form, member_or, value_of}
use Rattle.topo_script.specs.RowForms.{rows_form}
use Rattle.topo_script.specs.Scripts.{nulls_in, prices_form, some_price}

-- two ends and a kind
unfoldable pub edge_form : JsonPath → Data → Read GraphEdge
edge_form path d = do
  _ ← passes (BadShape path) (element_count d == 3)
  a ← element number_form path 0 d
  b ← element number_form path 1 d
  kind ← element number_form path 2 d
  _ ← passes (BadNumber (element_of path 2)) (nat_lt kind KINDS)
  Ok (record { a = a; b = b; kind = kind })

unfoldable pub effort_form : JsonPath → Data → Read Effort
effort_form path d =
    if is_text (codes "quick") d then Ok Quick else (
    if is_text (codes "default") d then Ok Default else (
    if is_text (codes "thorough") d then Ok Thorough else
    Err (BadShape path)))

unfoldable pub truth_form : JsonPath → Data → Read Bool
truth_form path d = due (BadShape path) (as_bool d)

-- 1 to 16
unfoldable pub threads_form : JsonPath → Data → Read ℕ
threads_form path d = do
  threads ← number_form path d
  _ ← passes (BadNumber path) (nat_lt 0 threads && nat_le threads MAX_THREADS)
  Ok threads

-- a picture of a component, with the graph's edges and vertices
unfoldable pub part_form : JsonPath → Data → Read Part
part_form path d = do
  _ ← has_keys path PART_KEYS d
  edges ← member_form (list_form number_form) path Edges d
  rows ← member_form rows_form path Picture d
  vertices ← member_form (list_form number_form) path Vertices d
  Ok (record { rows = rows; vertices = vertices; edges = edges })

-- an answer of before: what it says of its pictures, beside these, is not looked at
unfoldable pub answer_form : JsonPath → Data → Read GraphStart
answer_form path d = do
  _ ← has_keys path ANSWER_KEYS d
  lonely ← member_form (list_form number_form) path Lonely d
  parts ← member_form (list_form part_form) path Parts d
  Ok (record { parts = parts; lonely = lonely })

unfoldable pub some_answer : JsonPath → Data → Read (Option GraphStart)
some_answer path d = do
  start ← answer_form path d
  Ok (Some start)

unfoldable pub graph_form : Data → Read GraphAsked
graph_form d = do
  nulls ← nulls_in whole d
  _ ← has_keys whole GRAPH_KEYS d
  edges ← member_form (list_form edge_form) whole Edges d
  effort ← member_or Default effort_form whole EffortKey d
  prices ← member_or [] (prices_form nulls) whole Prices d
  progress ← member_or false truth_form whole Progress d
  seconds ← member_or None some_price whole Seconds d
  seed ← member_or 1 number_form whole Seed d
  start ← member_or None some_answer whole Start d
  threads ← member_or 1 threads_form whole Threads d
  vertices ← member_form number_form whole Vertices d
  Ok (record {
    vertices = vertices;
    edges = edges;
    prices = prices;
    effort = effort;
    progress = progress;
    seconds = seconds;
    seed = seed;
    start = start;
    threads = threads;
  })

-- the graph that bytes spell, or their first fault
unfoldable pub graph_of : List ℕ → Read GraphAsked
graph_of bytes = value_of 268435456 bytes >>= λ d. graph_form d
