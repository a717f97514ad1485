-- One price for each segment.
use Rattle.std.proofs.Common.{◌≡◌, ℕ, zero, suc, ◌+◌, ◌*◌, ◌/◌, ◌%◌, ◌<◌, List, [], ◌∷◌, ◌++◌, length}
use Rattle.std.proofs.Common.{Some, None, inl, inr, refl, sym, ap, subst, ◌∙◌, arith, length-append}
use Rattle.std.specs.Prelude.{Option, slice_index_or}
use Rattle.std.proofs.lemmas.Bool.{cases_eq}
use Rattle.topo_core.specs.declared.darts.Dart.{Dart}
use Rattle.topo_core.specs.declared.rows.Rows.{Rows}
use Rattle.topo_core.specs.Lawful.{Lawful}
use Rattle.topo_core.specs.Picture.{darts, edge_at}
use Rattle.topo_core.specs.Rotations.{twin}
use Rattle.topo_core.specs.Routes.{AreFactsOf, KeepsPromise, Price, Pricing}
use Rattle.topo_core.proofs.Interface.{even_images, images_length}
use Rattle.topo_route.specs.Names.{canonical, dart_named}
use Rattle.topo_route.specs.Numbers.{IsPriceAt, IsPriceFor, dart_of}
use Rattle.topo_route.specs.Settling.{ArePrices, ArePricesOf}
use Rattle.topo_route.proofs.names.Canonical.{canonical_below, canonical_dart}
use Rattle.topo_route.proofs.names.Numbers.{twin_cases, twin_dart}

-- the prices of an edge are those of its darts
price_along : (price : Pricing) (rows : Rows) (d e : Dart) (p : ℕ) → d.edge ≡ e.edge → Price price rows d p → Price price rows e p
price_along price rows d e p same asked =
    record { facts = asked.facts; known = subst (λ x. AreFactsOf (edge_at rows x) asked.facts) same asked.known; asked = asked.asked }

pub answer_along : (price : Pricing) (rows : Rows) (d e : Dart) (answer : Option ℕ) → d.edge ≡ e.edge → IsPriceFor price rows d answer
    → IsPriceFor price rows e answer
answer_along price rows d e (Some p) same asked = price_along price rows d e p same asked
answer_along price rows d e None same none = λ p asked. none p (price_along price rows e d p (sym same) asked)

pub at_end : {X : Type 0} (xs : List X) (x d : X) → slice_index_or (xs ++ x ∷ []) (length xs) d ≡ x
at_end [] x d = refl
at_end (y ∷ xs) x d = at_end xs x d

pub before_end : {X : Type 0} (xs : List X) (x d : X) (i : ℕ) → i < length xs → slice_index_or (xs ++ x ∷ []) i d ≡ slice_index_or xs i d
before_end [] x d i l = absurd (omega arith)
before_end (y ∷ xs) x d zero l = refl
before_end (y ∷ xs) x d (suc i) l = before_end xs x d i (omega arith)

-- one price more
pub next_price : (price : Pricing) (rows : Rows) (prices : List (Option ℕ)) (s : ℕ) (answer : Option ℕ) → ArePricesOf price rows prices s
    → IsPriceAt price rows (2 * s) answer → KeepsPromise price
    → ArePricesOf price rows (prices ++ answer ∷ []) (s + 1)
next_price price rows prices s answer are is promise = record {
  one_each = length-append prices (answer ∷ []) ∙ ap (λ n. n + 1) are.one_each;
  right = λ t l. elim (cases_eq t s) [
    | inl e ↦
        let at : slice_index_or (prices ++ answer ∷ []) t None ≡ answer = ap (λ i. slice_index_or (prices ++ answer ∷ []) i None) (e ∙ sym are.one_each)
        ∙ at_end prices answer None in
        subst (IsPriceAt price rows (2 * t)) (sym at) (subst (λ i. IsPriceAt price rows (2 * i) answer) (sym e) is)
    | inr ne ↦ grind (arith, before_end)
  ];
  promise = λ l. promise;
}

-- the prices of all segments
pub all_prices : (price : Pricing) (rows : Rows) → Lawful rows → (prices : List (Option ℕ)) (s : ℕ) → s ≡ length (darts rows) / 2
    → ArePricesOf price rows prices s → ArePrices price (canonical rows) prices
all_prices price rows lawful prices s whole are =
    let even : length (darts rows) % 2 ≡ 0 = ap (λ n. n % 2) (sym (images_length rows)) ∙ even_images rows in
    record {
      right = λ k name kept.
          let l = canonical_below rows lawful k name in
          let is = ap (λ d. d.edge) (sym (canonical_dart rows lawful k l)) in
          let first = 2 * (k / 2) in
          let in_first : first < length (darts rows) = omega arith in
          let along : (dart_of rows first).edge ≡ (dart_of rows k).edge = elim (cases_eq k first) [
            | inl e ↦ ap (λ i. (dart_of rows i).edge) (sym e)
            | inr ne ↦
                let twins : k ≡ twin first = omega (arith, twin_cases first) in
                sym (ap (λ d. d.edge) (ap (dart_of rows) twins ∙ twin_dart rows lawful first in_first))
          ] in
          answer_along price rows (dart_of rows first) (dart_named (canonical rows) k) (slice_index_or prices (k / 2) None) (along ∙ is)
          (are.right (k / 2) (omega arith));
      promise = λ l. are.promise (omega arith);
    }
