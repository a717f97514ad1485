-- Numbers that fit their types. Rust's types say so of every value that a program holds.
use Rattle.std.specs.Prelude.{ℕ, ◌<◌, ◌^◌, List, Option, Some, None, ⊤}
use Rattle.std.specs.List.{AllByRecursion}
use Rattle.topo_core.specs.declared.calls.Call.{Call}
use Rattle.topo_core.specs.declared.calls.Call.TheVariants.{Grow, Insert, Delete}
use Rattle.topo_core.specs.declared.calls.Entry.{Entry}
use Rattle.topo_core.specs.declared.calls.Reply.{Reply}
use Rattle.topo_core.specs.declared.calls.Reply.TheVariants.{Grown, Inserted, Deleted, Refused}
use Rattle.topo_core.specs.declared.calls.Refusal.{Refusal}
use Rattle.topo_core.specs.declared.calls.Refusal.TheVariants.{NoVertex, SameEnds, NoPosition, NoEdge, BadKind, Cut, Full, Memory, NoRoute}
use Rattle.topo_core.specs.declared.darts.Dart.{Dart}
use Rattle.topo_core.specs.declared.routes.Inserted.{Inserted as Made}
use Rattle.topo_script.specs.declared.scripts.LimitRows.{LimitRows}
use Rattle.topo_script.specs.declared.reports.Report.{Report}
use Rattle.topo_core.specs.declared.rows.Rows.{Rows}
use Rattle.topo_core.specs.declared.rows.EdgeRow.{EdgeRow}
use Rattle.topo_core.specs.declared.rows.CrossRow.{CrossRow}

abbrev pub AreShort : List ℕ → Type 0
AreShort ns = AllByRecursion (λ n. n < 2 ^ 32) ns

pub record EdgeFits (row : EdgeRow) : Type 0 where
  pub id : row.id < 2 ^ 32
  pub a : row.a < 2 ^ 32
  pub b : row.b < 2 ^ 32
  pub kind : row.kind < 2 ^ 32
  pub crossings : AreShort row.crossings

pub record CrossingFits (x : CrossRow) : Type 0 where
  pub id : x.id < 2 ^ 32
  pub crossed : x.crossed < 2 ^ 32
  pub newcomer : x.newcomer < 2 ^ 32

pub record RowsFit (rows : Rows) : Type 0 where
  pub rotations : AllByRecursion AreShort rows.rotations
  pub edges : AllByRecursion EdgeFits rows.edges
  pub crossings : AllByRecursion CrossingFits rows.crossings
  pub next_edge : rows.next_edge < 2 ^ 32
  pub next_crossing : rows.next_crossing < 2 ^ 32

pub record LimitsFit (limits : LimitRows) : Type 0 where
  pub vertices : limits.vertices < 2 ^ 32
  pub edges : limits.edges < 2 ^ 32
  pub crossings : limits.crossings < 2 ^ 32

abbrev pub PriceFits : Option ℕ → Type 0
PriceFits None = ⊤
PriceFits (Some price) = price < 2 ^ 32

abbrev pub CallFits : Call → Type 0
CallFits (Grow u position kind) = (u < 2 ^ 32) × (position < 2 ^ 32) × (kind < 2 ^ 32)
CallFits (Insert u v kind) = (u < 2 ^ 32) × (v < 2 ^ 32) × (kind < 2 ^ 32)
CallFits (Delete edge) = edge < 2 ^ 32

pub record DartFits (d : Dart) : Type 0 where
  pub edge : d.edge < 2 ^ 32
  pub seg : d.seg < 2 ^ 32

pub record InsertedFits (made : Made) : Type 0 where
  pub id : made.id < 2 ^ 32
  pub start : made.route.start < 2 ^ 32
  pub crossed : AllByRecursion DartFits made.route.crossed
  pub end : made.route.end < 2 ^ 32
  pub price : made.price < 2 ^ 64

-- out of memory is no refusal that a history has
abbrev pub RefusalFits : Refusal → Type 0
RefusalFits NoVertex = ⊤
RefusalFits SameEnds = ⊤
RefusalFits NoPosition = ⊤
RefusalFits NoEdge = ⊤
RefusalFits BadKind = ⊤
RefusalFits (Cut segment) = segment < 2 ^ 32
RefusalFits Full = ⊤
RefusalFits Memory = ⊥
RefusalFits NoRoute = ⊤

abbrev pub ReplyFits : Reply → Type 0
ReplyFits (Grown vertex edge) = (vertex < 2 ^ 32) × (edge < 2 ^ 32)
ReplyFits (Inserted made) = InsertedFits made
ReplyFits (Deleted edge) = edge < 2 ^ 32
ReplyFits (Refused why) = RefusalFits why

pub record EntryFits (entry : Entry) : Type 0 where
  pub caller : entry.caller < 2 ^ 32
  pub call : CallFits entry.call
  pub reply : ReplyFits entry.reply

pub record ReportFits (r : Report) : Type 0 where
  pub limits : LimitsFit r.limits
  pub prices : AllByRecursion PriceFits r.prices
  pub start : RowsFit r.start
  pub history : AllByRecursion EntryFits r.history
  pub picture : RowsFit r.picture
