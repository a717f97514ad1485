use Rattle.std.proofs.Common.{◌≡◌, ◌≤◌, ℕ, zero, suc, slice_index_or, [], ◌∷◌, refl, sym, subst, ◌∙◌, lit≤, arith}
use Rattle.topo_core.specs.declared.darts.Dart.{Dart}
use Rattle.topo_core.specs.declared.rows.Facts.{Facts}
use Rattle.topo_cases.specs.Evidence.{by_kind, route}
use Rattle.topo_cases.specs.FalseCases.{there_and_back, uneven}
use Rattle.topo_core.specs.Picture.{corner, system}
use Rattle.topo_core.specs.Pictures.{back, barrier, bipyramid, forward}
use Rattle.topo_core.specs.Routes.{IsSimpleRoute, KeepsPromise, Price}
use Rattle.topo_core.specs.Systems.{SameFace}
use Rattle.topo_core.proofs.Interface.{same_some}
use Rattle.topo_cases.proofs.Computed.{Passes, Planned, first_by_tests}
use Rattle.topo_core.proofs.Interface.{least_is_simple}
use Rattle.topo_cases.proofs.false_cases.no_certificate.Goals as goal
use Rattle.topo_core.specs.declared.rows.TheConstants.{MAX_PRICE}

-- the facts of edge 1 of the triangle, and what crossing it costs
abbrev side : Facts
side = record { id = 1; a = 1; b = 2; kind = 2; id_in_range = lit≤ tt; a_in_range = lit≤ tt; b_in_range = lit≤ tt; known_kind = lit≤ tt }

side_price : Price uneven bipyramid (back 1 0) 2
side_price = record { facts = side; known = record { id = refl; a = refl; b = refl; kind = refl }; asked = (refl, lit≤ tt) }

within : (kind : ℕ) → slice_index_or (1 ∷ 5 ∷ 2 ∷ 9 ∷ []) kind 1 ≤ MAX_PRICE
within zero = lit≤ tt
within (suc zero) = lit≤ tt
within (suc (suc zero)) = lit≤ tt
within (suc (suc (suc zero))) = lit≤ tt
within (suc (suc (suc (suc kind)))) = lit≤ tt

kept : KeepsPromise uneven
kept = record {
  positive = λ facts n asked. asked.1;
  at_most = λ facts n asked. let same = asked.0 in let most = within facts.kind in omega arith;
  single = λ facts m n one other. one.0 ∙ sym other.0;
}

low : (kind : ℕ) → slice_index_or (1 ∷ 9 ∷ []) kind 1 ≤ MAX_PRICE
low zero = lit≤ tt
low (suc zero) = lit≤ tt
low (suc (suc kind)) = lit≤ tt

kept_past : KeepsPromise (by_kind (1 ∷ 9 ∷ []))
kept_past = record {
  positive = λ facts n asked. asked.1;
  at_most = λ facts n asked. let same = asked.0 in let most = low facts.kind in omega arith;
  single = λ facts m n one other. one.0 ∙ sym other.0;
}

abbrev past : Planned
past = record {
  prices = 1 ∷ 9 ∷ [];
  heights = 2 ∷ 1 ∷ 0 ∷ 1 ∷ 1 ∷ 2 ∷ 0 ∷ 1 ∷ 0 ∷ 2 ∷ 1 ∷ 1 ∷ 2 ∷ 2 ∷ 0 ∷ 0 ∷ [];
  crossed = forward 0 0 ∷ back 0 1 ∷ [];
  start = 0;
  end = 0;
  from = back 4 0;
  to = back 5 0;
}

past_passes : Passes barrier 4 5 past
past_passes = record {
  starts = refl;
  ends = refl;
  closed = refl;
  twins = refl;
  corners = refl;
  even = refl;
  gentle = refl;
  target = refl;
  walk = refl;
  priced = refl;
  least_height = refl;
  first_start = refl;
  first_darts = refl;
  arrival_held = refl;
  first_end = refl;
}

simple : IsSimpleRoute barrier 4 5 (route 0 (forward 0 0 ∷ back 0 1 ∷ []) 0)
simple = least_is_simple (by_kind (1 ∷ 9 ∷ [])) kept_past barrier (record { paths = refl; crossings = refl; rotations = refl }) 4 5
    (route 0 (forward 0 0 ∷ back 0 1 ∷ []) 0) 2 (first_by_tests barrier 4 5 past past_passes).is_least

-- crossing edge 1 again leads back to the face at the start
returns_there : (c : Dart) → forward 5 0 ≡ c → SameFace (system bipyramid) c (back 1 0)
returns_there c same = subst (λ x. SameFace (system bipyramid) x (back 1 0)) same (record { steps = 1; leads = refl })

not_simple : IsSimpleRoute bipyramid 3 4 there_and_back → ⊥
not_simple simple = simple.once.0.1.0
    (returns_there simple.route.from (same_some (corner bipyramid 3 2) (forward 5 0) simple.route.from refl simple.route.starts))

pub returns : goal.returns
returns c = record {
  steep = λ certificate. let h = certificate.gentle (back 1 0) 2 refl side_price in omega arith;
  not_even = λ certificate. let h = certificate.even (back 0 0) refl in omega arith;
  high_target = λ certificate. let h = certificate.target 0 (forward 6 0) refl in omega arith;
  lowest = record { even = λ d known. refl; gentle = λ d p known price. omega arith; target = λ p c at. refl };
  simple = simple;
  leads = record {
    from = forward 5 0;
    to = forward 7 0;
    starts = refl;
    ends = refl;
    walk = (record { steps = 1; leads = refl }, (record { steps = 0; leads = refl }, (record { steps = 0; leads = refl }, record { steps = 2; leads = refl })));
  };
  not_simple = not_simple;
  kept = kept;
  kept_by_none = record { positive = λ facts n asked. absurd asked; at_most = λ facts n asked. absurd asked; single = λ facts m n one other. absurd one };
  not_free = λ promise. let h = promise.positive side 0 refl in omega arith;
  not_too_dear = λ promise. let h = promise.at_most side 1001 refl in omega arith;
  not_two = λ promise. let h = promise.single side 1 2 (lit≤ tt, lit≤ tt) (lit≤ tt, lit≤ tt) in omega arith;
}
