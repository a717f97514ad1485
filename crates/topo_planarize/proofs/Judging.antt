-- What was found and shows a graph is an answer.
use Rattle.std.proofs.Common.{◌≡◌, ℕ, List, Option, Result, Ok, Err, IfOk, subst, sym}
use Rattle.topo_core.specs.declared.limits.Limits.{Limits}
use Rattle.topo_script.specs.Scripts.{greatest_limits}
use Rattle.topo_graph.specs.Graphs.{Drawn}
use Rattle.topo_io.specs.declared.fault.RunFault.{RunFault}
use Rattle.topo_io.specs.Limiting.{AreLimits}
use Rattle.topo_shown.specs.Planarizations.{Shows}
use Rattle.topo_graph.specs.declared.parts.Part.{Part}
use Rattle.topo_planarize.specs.Answers.{IsAnswerOf, total_cost, total_crossings}
use Rattle.topo_planarize.specs.declared.answers.Answer.{Answer}

module _ (graph : Drawn) (prices : List (Option ℕ)) (limits : Limits) where
  pub same_shows : (parts told : List Part) (others kept : List ℕ) → told ≡ parts → kept ≡ others → Shows limits graph prices parts others
      → Shows limits graph prices told kept
  same_shows parts told others kept same also shows =
      subst (λ (ps : List Part). Shows limits graph prices ps kept) (sym same) (subst (λ (os : List ℕ). Shows limits graph prices parts os) (sym also) shows)

  pub judged_so : (parts : List Part) (others : List ℕ) (made : List Part) (kept : List ℕ) → AreLimits greatest_limits limits
      → Shows limits graph prices parts others → made ≡ parts → kept ≡ others → (r : Result Answer RunFault)
      → IfOk r (λ answer. (answer.parts ≡ made) × (answer.lonely ≡ kept))
      → IfOk r (λ answer. answer.cost ≡ total_cost prices answer.parts) → IfOk r (λ answer. answer.crossings ≡ total_crossings answer.parts)
      → IfOk r (IsAnswerOf graph prices)
  judged_so parts others made kept greatest shows same also (Ok answer) told cost crossings = record {
    limits = limits;
    greatest = greatest;
    shows = same_shows made answer.parts kept answer.lonely told.0 told.1 (same_shows parts made others kept same also shows);
    cost = cost;
    crossings = crossings;
  }
  judged_so parts others made kept greatest shows same also (Err fault) told cost crossings = tt
