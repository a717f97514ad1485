-- Joined darts, and connectedness by computing what moves reach.
use Rattle.std.proofs.Common.{◌≡◌, ◌&&◌, ◌||◌, ap, Bool, cond, false, List, refl, subst, suc, sym, true, zero, ℕ, [], ◌++◌, ◌∙◌, ◌∷◌}
use Rattle.std.specs.List.{list_all}
use Rattle.std.proofs.lemmas.Bool.{cond_both}
use Rattle.topo_core.specs.declared.darts.Dart.{Dart}
use Rattle.topo_core.specs.Darts.{dart_twin, same_dart}
use Rattle.topo_core.specs.Lawful.{IsEmbedding}
use Rattle.topo_core.specs.Picture.{system}
use Rattle.topo_core.specs.Pictures.{seed}
use Rattle.topo_core.specs.Rotations.{along, moved, Cross, Joined, Move, Turn}
use Rattle.topo_core.specs.Systems.{darts_in, has_dart, System, turn}
use Rattle.topo_core.proofs.numbering.DartLaws.{for_each, same_dart_true}
use Rattle.topo_core.proofs.numbering.Members.{left_true, or_second, right_true}

-- ---- Moves one after another

-- the moves of ns, and then those of ms
along-append : {X : Type 0} (f other : X → X) (ms ns : List Move) (d : X) → along f other (ms ++ ns) d ≡ along f other ms (along f other ns d)
along-append f other [] ns d = refl
along-append f other (m ∷ ms) ns d = ap (moved f other m) (along-append f other ms ns d)

-- each dart is joined to itself
pub joined_self : {X : Type 0} (f other : X → X) (a : X) → Joined f other a a
joined_self f other a = record { moves = []; leads = refl }

-- a dart is joined to what one move makes of it
pub joined_move : {X : Type 0} (f other : X → X) (m : Move) (a : X) → Joined f other a (moved f other m a)
joined_move f other m a = record { moves = m ∷ []; leads = refl }

-- joined by way of b
pub joined_through : {X : Type 0} (f other : X → X) (a b c : X) → Joined f other a b → Joined f other b c → Joined f other a c
joined_through f other a b c first second = record {
  moves = second.moves ++ first.moves;
  leads = along-append f other second.moves first.moves a ∙ ap (along f other second.moves) first.leads ∙ second.leads;
}

-- ---- What is reached from darts, and from where darts are reached

abbrev add : Dart → List Dart → List Dart
add d ds = cond (has_dart ds d) ds (d ∷ ds)

-- the neighbours of darts, added to a list
abbrev add_neighbours : System → List Dart → List Dart → List Dart
add_neighbours s [] ds = ds
add_neighbours s (c ∷ cs) ds = add_neighbours s cs (add (turn s c) (add (dart_twin c) ds))

-- what is reached from the darts in n rounds
abbrev reached_in : System → ℕ → List Dart → List Dart
reached_in s zero ds = ds
reached_in s (suc n) ds = reached_in s n (add_neighbours s ds ds)

-- those of cs with a neighbour in the list, added to it one by one
abbrev add_sources : System → List Dart → List Dart → List Dart
add_sources s [] ds = ds
add_sources s (c ∷ cs) ds = add_sources s cs (cond (has_dart ds (turn s c) || has_dart ds (dart_twin c)) (add c ds) ds)

-- from which darts of the system the list is reached in n rounds
abbrev reaching_in : System → ℕ → List Dart → List Dart
reaching_in s zero ds = ds
reaching_in s (suc n) ds = reaching_in s n (add_sources s (darts_in s) ds)

-- a dart of the list is joined to d, where each of them is and d is in the list
abbrev AllFrom : (Dart → Type 0) → List Dart → Type 0
AllFrom P [] = Unit {0}
AllFrom P (d ∷ ds) = P d × AllFrom P ds

add_keeps : (P : Dart → Type 0) (d : Dart) (ds : List Dart) → P d → AllFrom P ds → AllFrom P (add d ds)
add_keeps P d ds h all = cond_both (has_dart ds d) ds (d ∷ ds) (AllFrom P) (λ _. all) (λ _. (h, all))

all_from_at : (P : Dart → Type 0) (ds : List Dart) (d : Dart) → AllFrom P ds → has_dart ds d ≡ true → P d
all_from_at P [] d all h = cc
all_from_at P (x ∷ ds) d all h =
    let by_test : (b : Bool) → same_dart d x ≡ b → P d = λ b. elim b as (λ b. same_dart d x ≡ b → P d) [
      | true ↦ (λ passes. subst P (sym (same_dart_true d x passes)) all.0)
      | false ↦ (λ fails. all_from_at P ds d all.1 (or_second (same_dart d x) (has_dart ds d) fails h))
    ] in by_test (same_dart d x) refl

module _ (s : System) (root : Dart) where
  abbrev From : Dart → Type 0
  From d = Joined (turn s) dart_twin root d

  abbrev To : Dart → Type 0
  To d = Joined (turn s) dart_twin d root

  neighbours_from : (cs ds : List Dart) → AllFrom From cs → AllFrom From ds → AllFrom From (add_neighbours s cs ds)
  neighbours_from [] ds here all = all
  neighbours_from (d ∷ cs) ds here all =
      neighbours_from cs (add (turn s d) (add (dart_twin d) ds)) here.1
      (add_keeps From (turn s d) (add (dart_twin d) ds) (joined_through (turn s) dart_twin root d (turn s d) here.0 (joined_move (turn s) dart_twin Turn d))
      (add_keeps From (dart_twin d) ds (joined_through (turn s) dart_twin root d (dart_twin d) here.0 (joined_move (turn s) dart_twin Cross d)) all))

  reached_from : (n : ℕ) (ds : List Dart) → AllFrom From ds → AllFrom From (reached_in s n ds)
  reached_from zero ds all = all
  reached_from (suc n) ds all = reached_from n (add_neighbours s ds ds) (neighbours_from ds ds all all)

  source_to : (c : Dart) (ds : List Dart) → AllFrom To ds → (has_dart ds (turn s c) || has_dart ds (dart_twin c)) ≡ true → To c
  source_to c ds all h =
      let by_test : (b : Bool) → has_dart ds (turn s c) ≡ b → To c = λ b. elim b as (λ b. has_dart ds (turn s c) ≡ b → To c) [
        | true ↦ (λ e. joined_through (turn s) dart_twin c (turn s c) root (joined_move (turn s) dart_twin Turn c) (all_from_at To ds (turn s c) all e))
        | false ↦ (λ e. joined_through (turn s) dart_twin c (dart_twin c) root (joined_move (turn s) dart_twin Cross c)
            (all_from_at To ds (dart_twin c) all (or_second (has_dart ds (turn s c)) (has_dart ds (dart_twin c)) e h)))
      ] in by_test (has_dart ds (turn s c)) refl

  sources_to : (cs ds : List Dart) → AllFrom To ds → AllFrom To (add_sources s cs ds)
  sources_to [] ds all = all
  sources_to (c ∷ cs) ds all =
      sources_to cs (cond (has_dart ds (turn s c) || has_dart ds (dart_twin c)) (add c ds) ds)
      (cond_both (has_dart ds (turn s c) || has_dart ds (dart_twin c)) (add c ds) ds (AllFrom To)
      (λ h. add_keeps To c ds (source_to c ds all h) all) (λ _. all))

  reaching_to : (n : ℕ) (ds : List Dart) → AllFrom To ds → AllFrom To (reaching_in s n ds)
  reaching_to zero ds all = all
  reaching_to (suc n) ds all = reaching_to n (add_sources s (darts_in s) ds) (sources_to (darts_in s) ds all)

  -- what n rounds reach is joined from the root
  pub joined_from_root : (n : ℕ) (d : Dart) → has_dart (reached_in s n (root ∷ [])) d ≡ true → Joined (turn s) dart_twin root d
  joined_from_root n d h = all_from_at From (reached_in s n (root ∷ [])) d (reached_from n (root ∷ []) (joined_self (turn s) dart_twin root, tt)) h

  -- and what reaches the root in n rounds is joined to it
  pub joined_to_root : (n : ℕ) (d : Dart) → has_dart (reaching_in s n (root ∷ [])) d ≡ true → Joined (turn s) dart_twin d root
  joined_to_root n d h = all_from_at To (reaching_in s n (root ∷ [])) d (reaching_to n (root ∷ []) (joined_self (turn s) dart_twin root, tt)) h

-- the darts of a list, all of them in another one
abbrev all_in : List Dart → List Dart → Bool
all_in ds cs = list_all (has_dart cs) ds

-- n rounds lead from the root to each dart of the list, and from each of them to the root
abbrev spreads_from : System → ℕ → List Dart → Bool
spreads_from s n [] = true
spreads_from s n (root ∷ ds) = all_in (root ∷ ds) (reached_in s n (root ∷ [])) && all_in (root ∷ ds) (reaching_in s n (root ∷ []))

-- n rounds lead from the first dart of the system to each, and from each to the first
abbrev pub spreads_in : System → ℕ → Bool
spreads_in s n = spreads_from s n (darts_in s)

spread_joins : (s : System) (n : ℕ) (ds : List Dart) → spreads_from s n ds ≡ true → (c d : Dart) → has_dart ds c ≡ true → has_dart ds d ≡ true
    → Joined (turn s) dart_twin c d
spread_joins s n [] reached c d from to = cc
spread_joins s n (root ∷ ds) reached c d from to =
    joined_through (turn s) dart_twin c root d
    (joined_to_root s root n c (for_each (has_dart (reaching_in s n (root ∷ []))) (root ∷ ds) (right_true _ _ reached) c from))
    (joined_from_root s root n d (for_each (has_dart (reached_in s n (root ∷ []))) (root ∷ ds) (left_true _ _ reached) d to))

-- a system in which n rounds lead everywhere is connected
pub connected_by_spread : (s : System) (n : ℕ) → spreads_in s n ≡ true → (c d : Dart) → has_dart (darts_in s) c ≡ true → has_dart (darts_in s) d ≡ true
    → Joined (turn s) dart_twin c d
connected_by_spread s n reached c d from to = spread_joins s n (darts_in s) reached c d from to

-- two vertices with an edge between them are an embedding
pub seed_is_embedding : IsEmbedding seed
seed_is_embedding = record {
  well_formed = record { paths = refl; crossings = refl; rotations = refl };
  connected = record { no_bare_point = refl; joined = connected_by_spread (system seed) 2 refl };
}
