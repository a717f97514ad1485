-- Places in a text, and the names of keys.
use Rattle.std.specs.Prelude.{ℕ, List, [], ◌++◌, codes, decimal, Option, Some, None, is_none, if◌then◌else◌}
use Rattle.topo_script.specs.declared.path.Key.{Key}
use Rattle.topo_script.specs.declared.path.Key.TheVariants.{A, B, Call, Caller, Cost, Crossed, Crossings, Deleted, Edge, Edges, Effort, End, History}
use Rattle.topo_script.specs.declared.path.Key.TheVariants.{Id, Kind, Limits, Lonely, Newcomer, NextCrossing, NextEdge, Open, Parts, Picture, Planarize, Price, Prices}
use Rattle.topo_script.specs.declared.path.Key.TheVariants.{Progress, Refused, Reopen, Reply, Rotations, Seconds, Seed, Sign, Start, Threads, Tries, Version, Vertex, Vertices, Workers}
use Rattle.topo_script.specs.declared.path.Step.{Step}
use Rattle.topo_script.specs.declared.path.Step.TheVariants.{Member, Element}
use Rattle.topo_script.specs.declared.path.JsonPath.{JsonPath}

-- a key as it stands in a text
abbrev pub key_name : Key → List ℕ
key_name A = codes "a"
key_name B = codes "b"
key_name Call = codes "call"
key_name Caller = codes "caller"
key_name Cost = codes "cost"
key_name Crossed = codes "crossed"
key_name Crossings = codes "crossings"
key_name Deleted = codes "deleted"
key_name Edge = codes "edge"
key_name Edges = codes "edges"
key_name Effort = codes "effort"
key_name End = codes "end"
key_name History = codes "history"
key_name Id = codes "id"
key_name Kind = codes "kind"
key_name Limits = codes "limits"
key_name Lonely = codes "lonely"
key_name Newcomer = codes "newcomer"
key_name NextCrossing = codes "next_crossing"
key_name NextEdge = codes "next_edge"
key_name Open = codes "open"
key_name Parts = codes "parts"
key_name Picture = codes "picture"
key_name Planarize = codes "planarize"
key_name Price = codes "price"
key_name Prices = codes "prices"
key_name Progress = codes "progress"
key_name Refused = codes "refused"
key_name Reopen = codes "reopen"
key_name Reply = codes "reply"
key_name Rotations = codes "rotations"
key_name Seconds = codes "seconds"
key_name Seed = codes "seed"
key_name Sign = codes "sign"
key_name Start = codes "start"
key_name Threads = codes "threads"
key_name Tries = codes "tries"
key_name Version = codes "version"
key_name Vertex = codes "vertex"
key_name Vertices = codes "vertices"
key_name Workers = codes "workers"

-- the whole text
abbrev pub whole : JsonPath
whole = record { first = None; second = None; third = None; fourth = None; fifth = None; sixth = None; seventh = None; eighth = None }

-- one step further: the first place that is free takes it
unfoldable pub under : JsonPath → Step → JsonPath
under path step =
    if is_none path.first then record path { first = Some step } else (
    if is_none path.second then record path { second = Some step } else (
    if is_none path.third then record path { third = Some step } else (
    if is_none path.fourth then record path { fourth = Some step } else (
    if is_none path.fifth then record path { fifth = Some step } else (
    if is_none path.sixth then record path { sixth = Some step } else (
    if is_none path.seventh then record path { seventh = Some step } else
    record path { eighth = Some step }))))))

abbrev pub member_of : JsonPath → Key → JsonPath
member_of path key = under path (Member key)

abbrev pub element_of : JsonPath → ℕ → JsonPath
element_of path i = under path (Element i)

-- a step as it is printed, where there is one
abbrev pub step_text : Option Step → List ℕ
step_text None = []
step_text (Some (Member key)) = codes "/" ++ key_name key
step_text (Some (Element i)) = codes "/" ++ decimal i

abbrev pub three_text : Option Step → Option Step → Option Step → List ℕ
three_text a b c = step_text a ++ (step_text b ++ step_text c)

-- a path as it is printed
abbrev pub path_text : JsonPath → List ℕ
path_text path = codes "$" ++ (three_text path.first path.second path.third ++ (three_text path.fourth path.fifth path.sixth
    ++ (step_text path.seventh ++ step_text path.eighth)))
