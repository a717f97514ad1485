use Rattle.std.proofs.Common.{◌≡◌, ◌≤◌, List, [], ℕ, length, take, vec_len}
use Rattle.topo_serve.specs.Lines.{IsPlain}
use Rattle.topo_serve.specs.Taking.{Takes}
use Rattle.topo_serve.proofs.ahead.Ahead.take_first.Given as goal

abbrev pub invariant-loop : goal.invariant-loop
invariant-loop g l = (so_far : List ℕ) × IsPlain so_far × Takes (g.R.Read.remaining l.fn.reader) (g.R.Read.remaining l.reader) l.fn.self l.self so_far
    × (l.line.items ≡ take l.most so_far) × (vec_len l.line ≤ l.most) × (length so_far ≤ l.most) × (l.fn.self ≡ [] → l.self ≡ [])
