use Rattle.std.specs.Prelude.{map, slice_index_or, None, Option, Some, unwrap_or}
use Rattle.std.proofs.Common.{◌≡◌, ◌∙◌, ap, [], ◌∷◌, ℕ, zero, suc, ◌<◌, refl, sym, subst, lit≤, arith, inl, inr}
use Rattle.topo_core.specs.declared.calls.Entry.{Entry}
use Rattle.topo_core.specs.declared.calls.Refusal.TheVariants.{NoVertex, SameEnds}
use Rattle.topo_core.specs.declared.calls.Reply.TheVariants.{Refused}
use Rattle.topo_core.specs.Changes.{grown}
use Rattle.topo_cases.specs.Evidence.{after_two, insertion, refusal, two_callers, two_lists}
use Rattle.topo_core.specs.History.{call_of, entries_of}
use Rattle.topo_core.specs.Items.{IsIn}
use Rattle.topo_core.specs.Pictures.{back, seed}
use Rattle.topo_cases.proofs.Computed.{first_by_tests, Passes, Planned}
use Rattle.topo_core.specs.Steps.{grow_refusal, insert_refusal}
use Rattle.topo_core.specs.declared.limits.Limits.{Limits}
use Rattle.topo_cases.proofs.evidence.history.Goals as goal

-- both vertices are corners of the one face
abbrev beside_grown : Planned
beside_grown = record { prices = []; heights = 0 ∷ 0 ∷ 0 ∷ 0 ∷ []; crossed = []; start = 0; end = 0; from = back 0 0; to = back 1 0 }

passes : Passes (grown seed 1 0 0) 1 2 beside_grown
passes = record {
  starts = refl;
  ends = refl;
  closed = refl;
  twins = refl;
  corners = refl;
  even = refl;
  gentle = refl;
  target = refl;
  walk = refl;
  priced = refl;
  least_height = refl;
  first_start = refl;
  first_darts = refl;
  arrival_held = refl;
  first_end = refl;
}

below_two : (entry : Entry) → IsIn entry two_callers → entry.caller < 2
below_two entry (inl e) = subst (λ (x : Entry). x.caller < 2) (sym e) (lit≤ tt)
below_two entry (inr (inl e)) = subst (λ (x : Entry). x.caller < 2) (sym e) (lit≤ tt)
below_two entry (inr (inr (inl e))) = subst (λ (x : Entry). x.caller < 2) (sym e) (lit≤ tt)
below_two entry (inr (inr (inr h))) = absurd h

grows : (wide : Limits) → wide.vertices ≡ 65536 → wide.edges ≡ 65536 → grow_refusal wide seed 1 0 0 ≡ None
grows wide vertices edges = rw (vertices, edges) refl

joins : (wide : Limits) → wide.edges ≡ 65536 → insert_refusal wide (grown seed 1 0 0) 1 2 0 ≡ None
joins wide edges = rw edges refl

pub returns : goal.returns
returns c =
    let grow = grows c.args.wide c.requires.vertices c.requires.edges in
    let join = joins c.args.wide c.requires.edges in
    let first = first_by_tests (grown seed 1 0 0) 1 2 beside_grown passes in record {
      step = (grow, refl, refl, refl);
      replayed = (grown seed 1 0 0, (grow, refl, refl, refl), (grown seed 1 0 0, (inl refl, refl), (after_two, (join, first, omega arith, refl, refl), refl)));
      accepted = refl;
      version = record { accepted = refl; replayed = (grown seed 1 0 0, (grow, refl, refl, refl), (after_two, (join, first, omega arith, refl, refl), refl)) };
      agrees = record { entry = insertion; there = refl; same_call = refl; same_reply = refl };
      differs = λ agrees. let wrong : Refused SameEnds ≡ Refused NoVertex = ap (λ (o : Option Entry). (unwrap_or o refusal).reply) agrees.there
          ∙ agrees.same_reply in cc;
      no_more = λ agrees. let wrong : None ≡ Some agrees.entry = agrees.there in cc;
      run = grind (arith, by_caller, below_two);
    } where
      by_caller : (c : ℕ) → c < 2 → map (λ entry. entry.call) (entries_of c two_callers) ≡ map call_of (slice_index_or two_lists c [])
      by_caller zero below = refl
      by_caller (suc zero) below = refl
      by_caller (suc (suc c)) below = absurd (omega arith)
