use Rattle.std.specs.Prelude.{length, None}
use Rattle.std.proofs.Common.{◌≡◌, ℕ, List, [], ◌∷◌, ap, refl, subst, lit≤, arith, inl, inr}
use Rattle.topo_core.specs.declared.calls.Call.{Call}
use Rattle.topo_core.specs.declared.calls.Call.TheVariants.{Delete, Grow, Insert}
use Rattle.topo_core.specs.declared.calls.Entry.{Entry}
use Rattle.topo_core.specs.declared.limits.Limits.{Limits}
use Rattle.topo_core.specs.declared.rows.Rows.{Rows}
use Rattle.topo_core.specs.Changes.{grown}
use Rattle.topo_cases.specs.Evidence.{after_two, by_kind, growth, insertion, refusal, two_callers}
use Rattle.topo_core.specs.History.{Replays}
use Rattle.topo_core.specs.Pictures.{back, seed}
use Rattle.topo_core.specs.Routes.{Pricing}
use Rattle.topo_core.specs.Steps.{grow_refusal, insert_refusal}
use Rattle.topo_cases.proofs.Computed.{Passes, Planned, first_by_tests}
use Rattle.topo_core.proofs.Interface.{one_step}
use Rattle.topo_cases.proofs.step_cases.no_histories.Goals as goal

abbrev beside_grown : Planned
beside_grown = record { prices = []; heights = 0 ∷ 0 ∷ 0 ∷ 0 ∷ []; crossed = []; start = 0; end = 0; from = back 0 0; to = back 1 0 }

passes : Passes (grown seed 1 0 0) 1 2 beside_grown
passes = record {
  starts = refl;
  ends = refl;
  closed = refl;
  twins = refl;
  corners = refl;
  even = refl;
  gentle = refl;
  target = refl;
  walk = refl;
  priced = refl;
  least_height = refl;
  first_start = refl;
  first_darts = refl;
  arrival_held = refl;
  first_end = refl;
}

grows : (wide : Limits) → wide.vertices ≡ 65536 → wide.edges ≡ 65536 → grow_refusal wide seed 1 0 0 ≡ None
grows wide vertices edges = rw (vertices, edges) refl

joins : (wide : Limits) → wide.edges ≡ 65536 → insert_refusal wide (grown seed 1 0 0) 1 2 0 ≡ None
joins wide edges = rw edges refl

-- entries lead to one picture
one_end : (price : Pricing) (limits : Limits) (entries : List Entry) (p q r : Rows) → Replays price limits p entries q
    → Replays price limits p entries r → q ≡ r
one_end price limits [] p q r way other = cc
one_end price limits (entry ∷ entries) p q r way other =
    let same = one_step price limits p entry.call entry.reply entry.reply way.0 other.0 way.1 other.1 in
    one_end price limits entries other.0 q r (subst (λ (next : Rows). Replays price limits next entries q) same.1 way.2) other.2

-- what a call asks for, as a number
abbrev kind_of_call : Call → ℕ
kind_of_call (Grow u position kind) = 0
kind_of_call (Insert u v kind) = 1
kind_of_call (Delete e) = 2

abbrev first_call : List Call → ℕ
first_call [] = 3
first_call (call ∷ calls) = kind_of_call call

pub returns : goal.returns
returns c =
    let wide = c.args.wide in
    let grow = grows wide c.requires.vertices c.requires.edges in
    let join = joins wide c.requires.edges in
    let crossings = c.requires.crossings in
    let first = first_by_tests (grown seed 1 0 0) 1 2 beside_grown passes in
    let whole : Replays (by_kind []) wide seed two_callers after_two =
    (grown seed 1 0 0, (grow, refl, refl, refl), (grown seed 1 0 0, (inl refl, refl), (after_two, (join, first, omega arith, refl, refl), refl))) in
    let accepted : Replays (by_kind []) wide seed (growth ∷ insertion ∷ []) after_two =
    (grown seed 1 0 0, (grow, refl, refl, refl), (after_two, (join, first, omega arith, refl, refl), refl)) in record {
      elsewhere = λ way. let h = ap (λ (rows : Rows). rows.next_edge) (one_end (by_kind []) wide two_callers seed after_two seed whole way) in omega arith;
      unanswered = λ legal. let h = legal.1.1.1 in omega arith;
      out_of_order = λ legal. let h = legal.1.1.3 in omega arith;
      nothing_done = λ way. let h = ap (λ (rows : Rows). rows.next_edge) way in omega arith;
      with_refusal = λ version. let h = ap length version.accepted in omega arith;
      other_version = λ version. let h = ap (λ (rows : Rows). rows.next_edge)
          (one_end (by_kind []) wide (growth ∷ insertion ∷ []) seed after_two (grown seed 1 0 0) accepted version.replayed) in omega arith;
      without_beginning = λ version. let h = version.replayed.1.3 in omega arith;
      exchanged = λ run. let h : 0 ≡ 1 = ap first_call (run.calls 0 (lit≤ tt)) in omega arith;
      unlisted = λ run. let h = run.callers refusal (inr (inl refl)) in omega arith;
      unfinished = λ run. let h = ap length (run.calls 0 (lit≤ tt)) in omega arith;
      other_end = λ run. let h =
          ap (λ (rows : Rows). rows.next_edge) (one_end (by_kind []) wide two_callers seed after_two seed whole run.replayed) in omega arith;
    }
