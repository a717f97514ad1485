use Rattle.std.proofs.Common.{sym, ◌∙◌}
use Rattle.std.proofs.lemmas.Option.{IfSome_then}
use Rattle.topo_script.proofs.Fronts.{colon_front}
use Rattle.topo_script.proofs.lexing.behind_colon.Goals as goal

pub returns : goal.returns
returns c = IfSome_then c.behind.result c.behind.ensures (λ rest e. sym c.behind_gap.ensures ∙ colon_front c.behind_gap.result.now rest.now e)
