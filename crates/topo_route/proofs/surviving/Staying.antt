-- Regions that stay where they are, and moves one after the other.
use Rattle.std.proofs.Common.{◌≡◌, ℕ, Bool, true, false, ◌&&◌, Some, inl, inr, refl, sym, ap, subst, ◌∙◌}
use Rattle.std.specs.Prelude.{Option, None, option_map}
use Rattle.std.proofs.lemmas.Bool.{cases_Bool, false≢true}
use Rattle.std.proofs.lemmas.Iterator.Adapters.{option_map_id}
use Rattle.topo_core.specs.declared.darts.Dart.{Dart}
use Rattle.topo_core.specs.declared.rows.Rows.{Rows}
use Rattle.topo_core.specs.declared.routes.Route.{Route}
use Rattle.topo_core.specs.Darts.{dart_twin}
use Rattle.topo_core.specs.Lawful.{Lawful}
use Rattle.topo_core.specs.Picture.{corner, darts, edge_at}
use Rattle.topo_core.specs.RouteLaws.{IsFirstByHeights}
use Rattle.topo_core.specs.Routes.{IsCertificate, Pricing}
use Rattle.topo_core.specs.Systems.{has_dart}
use Rattle.topo_core.proofs.Interface.{left_true, right_true}
use Rattle.topo_route.specs.Surviving.{CoversSearch, IsRegion, IsSameEdge, KeepsEnds, KeepsFaces, Renaming, followed, unmoved}
use Rattle.topo_route.proofs.names.Numbers.{corner_below, face_stays}

-- ---- A picture and itself

-- nothing has moved, and all faces are kept
pub keeps_faces : (rows : Rows) (inside : Dart → Bool) → IsRegion rows inside → KeepsFaces rows rows (unmoved inside)
keeps_faces rows inside region = record {
  of_before = region.of_rows;
  of_after = region.of_rows;
  there = λ d h. (h, refl);
  here = λ e h. (h, refl);
  round = region.round;
  step = λ d h. refl;
  twin_kept = λ d h. refl;
  twin_moves = λ d h l. refl;
  order = λ c d h l. refl;
  edge = λ d h. refl;
  same_edge = λ d h. record { id = refl; a = refl; b = refl; kind = refl };
}

-- and all corners
pub keeps_ends : (rows : Rows) (inside : Dart → Bool) (u v start : ℕ) → KeepsEnds rows rows (unmoved inside) u v start
keeps_ends rows inside u v start = record {
  target = λ q. sym (option_map_id (corner rows v q));
  starts = λ q before. sym (option_map_id (corner rows u q));
  behind = λ q c at h. (q, at);
}

-- all darts are a region
pub whole_region : (rows : Rows) → Lawful rows → IsRegion rows (has_dart (darts rows))
whole_region rows lawful = record { of_rows = λ d h. h; round = face_stays rows lawful }

-- which covers each search
pub covers_whole : (price : Pricing) (rows : Rows) → Lawful rows → (u v : ℕ) (height : Dart → ℕ) (r : Route) (p : ℕ) → IsCertificate price rows v height
    → IsFirstByHeights price rows u v height r p
    → CoversSearch price rows (unmoved (has_dart (darts rows))) u v height r p
covers_whole price rows lawful u v height r p certificate first = record {
  certificate = certificate;
  first = first;
  near = λ d there low. there;
  target = λ q c at. corner_below rows lawful v q c at;
  starts = λ q c before at. corner_below rows lawful u q c at;
}

-- ---- Moved on

both_true : (a b : Bool) → a ≡ true → b ≡ true → (a && b) ≡ true
both_true a b h l = ap (λ x. x && b) h ∙ l

option_map_twice : {A B C : Type 0} (f : A → B) (h : B → C) (o : Option A) → option_map h (option_map f o) ≡ option_map (λ x. h (f x)) o
option_map_twice f h (Some x) = refl
option_map_twice f h None = refl

-- a test that holds only where another does
test_within : (a b : Bool) → a ≡ false → (b ≡ true → a ≡ true) → b ≡ false
test_within a true h l = absurd (false≢true (sym h ∙ l refl))
test_within a false h l = refl

same_edge_on : (old mid new : Rows) (i j : ℕ) → j ≡ i → IsSameEdge (edge_at old i) (edge_at mid i) → IsSameEdge (edge_at mid j) (edge_at new j)
    → IsSameEdge (edge_at old i) (edge_at new i)
same_edge_on old mid new i j e first second =
    let on = subst (λ k. IsSameEdge (edge_at mid k) (edge_at new k)) e second in
    record { id = on.id ∙ first.id; a = on.a ∙ first.a; b = on.b ∙ first.b; kind = on.kind ∙ first.kind }

module _ (old mid new : Rows) (m on : Renaming) (keeps : KeepsFaces old mid m) (keeps_on : KeepsFaces mid new on)
    (within : (d : Dart) → m.kept d ≡ true → on.inside d ≡ true) where
  abbrev Inside : Dart → Type 0
  Inside d = m.inside d ≡ true

  -- a dart inside has moved to one that moves on
  moves_on : (d : Dart) → Inside d → on.inside (m.move d) ≡ true
  moves_on d h = within (m.move d) (keeps.there d h).0

  came_from : (d : Dart) → Inside d → on.back (on.move (m.move d)) ≡ m.move d
  came_from d h = (keeps_on.there (m.move d) (moves_on d h)).1

  there_on : (d : Dart) → Inside d → ((followed m on).kept (on.move (m.move d)) ≡ true) × (m.back (on.back (on.move (m.move d))) ≡ d)
  there_on d h = (
    both_true (on.kept (on.move (m.move d))) (m.kept (on.back (on.move (m.move d)))) (keeps_on.there (m.move d) (moves_on d h)).0 (ap m.kept (came_from d h)
        ∙ (keeps.there d h).0),
    ap m.back (came_from d h) ∙ (keeps.there d h).1,
  )

  here_on : (e : Dart) → (followed m on).kept e ≡ true → (m.inside (m.back (on.back e)) ≡ true) × (on.move (m.move (m.back (on.back e))) ≡ e)
  here_on e h =
      let last = left_true (on.kept e) (m.kept (on.back e)) h in
      let first = right_true (on.kept e) (m.kept (on.back e)) h in
      ((keeps.here (on.back e) first).0, ap on.move (keeps.here (on.back e) first).1 ∙ (keeps_on.here e last).1)

  -- the twin of a dart that moves on is kept where it was
  twin_kept_on : (d : Dart) → on.inside d ≡ true → (followed m on).kept (dart_twin (on.move d)) ≡ m.kept (dart_twin d)
  twin_kept_on d h =
      let t = dart_twin d in
      let e = dart_twin (on.move d) in
      elim (cases_Bool (on.inside t)) [
        | inl l ↦
            let home : on.back e ≡ t = ap on.back (sym (keeps_on.twin_moves d h l)) ∙ (keeps_on.there t l).1 in
            ap (λ x. x && m.kept (on.back e)) (keeps_on.twin_kept d h ∙ l) ∙ ap m.kept home
        | inr l ↦ ap (λ x. x && m.kept (on.back e)) (keeps_on.twin_kept d h ∙ l) ∙ sym (test_within (on.inside t) (m.kept t) l (within t))
      ]

  -- faces that are kept and kept on
  pub kept_on : KeepsFaces old new (followed m on)
  kept_on = record {
    of_before = keeps.of_before;
    of_after = λ e h. keeps_on.of_after e (left_true (on.kept e) (m.kept (on.back e)) h);
    there = there_on;
    here = here_on;
    round = keeps.round;
    step = λ d h. keeps_on.step (m.move d) (moves_on d h) ∙ ap on.move (keeps.step d h);
    twin_kept = λ d h. twin_kept_on (m.move d) (moves_on d h) ∙ keeps.twin_kept d h;
    twin_moves = λ d h l.
        let twin = keeps.twin_moves d h l in
        ap on.move twin ∙ keeps_on.twin_moves (m.move d) (moves_on d h) (ap on.inside (sym twin) ∙ moves_on (dart_twin d) l);
    order = λ c d h l. keeps_on.order (m.move c) (m.move d) (moves_on c h) (moves_on d l) ∙ keeps.order c d h l;
    edge = λ d h. keeps_on.edge (m.move d) (moves_on d h) ∙ keeps.edge d h;
    same_edge = λ d h. same_edge_on old mid new d.edge (m.move d).edge (keeps.edge d h) (keeps.same_edge d h) (keeps_on.same_edge (m.move d) (moves_on d h));
  }

-- corners that are kept and kept on
pub kept_ends_on : (old mid new : Rows) (m on : Renaming) (u v start : ℕ) → KeepsEnds old mid m u v start → KeepsEnds mid new on u v start
    → KeepsEnds old new (followed m on) u v start
kept_ends_on old mid new m on u v start ends ends_on = record {
  target = λ q. ends_on.target q ∙ ap (option_map on.move) (ends.target q) ∙ option_map_twice m.move on.move (corner old v q);
  starts = λ q before. ends_on.starts q before ∙ ap (option_map on.move) (ends.starts q before) ∙ option_map_twice m.move on.move (corner old u q);
  behind = λ q c at h.
      let (place, at_place) = ends_on.behind q c at (left_true (on.kept c) (m.kept (on.back c)) h) in
      ends.behind place (on.back c) at_place (right_true (on.kept c) (m.kept (on.back c)) h);
}
