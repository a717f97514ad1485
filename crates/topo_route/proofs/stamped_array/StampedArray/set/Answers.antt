use Rattle.std.proofs.Common.{◌≡◌, ◌<◌, ◌∙◌, List, ℕ, ap, arith, length}
use Rattle.std.proofs.Math.ListN.{set}
use Rattle.topo_route.specs.Settling.{number_at}
use Rattle.topo_route.specs.StampedArrays.{AreWords, read_all}
use Rattle.topo_route.proofs.spreading.Blank.{all_long, beside_others, beside_there, written_beside, written_number}
use Rattle.topo_route.proofs.stamped_array.StampedArray.set.Goals as goal

-- a place of the list is one of its words
within : (base span len : ℕ) (words : List ℕ) (beside : ℕ → ℕ) (list : List ℕ) (place : ℕ) → AreWords base span len words
    → read_all base span len words beside ≡ list → place < length list → place < len
within base span len words beside list place are is inside =
    omega (arith, inside, all_long base span len words beside are.as_many, ap (λ (xs : List ℕ). length xs) is)

pub index_mut-requires : goal.index_mut-requires
index_mut-requires c =
    let are = (c.widen.ensures.same c.self.inside.len c.self.invariant.0).are in
    let inside = within c.self.inside.base c.self.inside.span c.self.inside.len c.self.inside.words.items (number_at c.self.inside.wide.items) c.args.self.now
    c.args.place c.self.invariant.0 c.self.view_is c.requires in
    omega (arith, inside, are.as_many, c.widen.new.words.ok.0)

pub index_mut-requires-2 : goal.index_mut-requires-2
index_mut-requires-2 c =
    let inside = within c.self.inside.base c.self.inside.span c.self.inside.len c.self.inside.words.items (number_at c.self.inside.wide.items) c.args.self.now
    c.args.place c.self.invariant.0 c.self.view_is c.requires in
    omega (arith, inside, c.in_ok-grow_beside.ensures.long, c.grow_beside.new.wide.ok.0)

pub index_mut-requires-3 : goal.index_mut-requires-3
index_mut-requires-3 c =
    let inside = within c.self.inside.base c.self.inside.span c.self.inside.len c.self.inside.words.items (number_at c.self.inside.wide.items) c.args.self.now
    c.args.place c.self.invariant.0 c.self.view_is c.requires in
    omega (arith, inside, c.self.invariant.0.as_many, c.self.inside.words.ok.0)

pub returns-then-number-clause-written : goal.returns-then-number-clause-written
returns-then-number-clause-written c =
    let len = c.self.inside.len in
    let beside = number_at c.self.inside.wide.items in
    let told = c.widen.ensures.same len c.self.invariant.0 in
    written_number c.widen.new.base c.widen.new.span len c.widen.new.words.items beside c.args.place c.args.number c.widen.ensures.fits
    ∙ ap (λ (xs : List ℕ). set xs c.args.place c.args.number) (told.reads beside ∙ c.self.view_is)

pub returns-clause-written : goal.returns-clause-written
returns-clause-written c =
    let len = c.self.inside.len in
    let before = number_at c.self.inside.wide.items in
    let wide = c.grow_beside.new.wide.items in
    let inside = within c.self.inside.base c.self.inside.span len c.self.inside.words.items before c.args.self.now
    c.args.place c.self.invariant.0 c.self.view_is c.requires in
    written_beside c.self.inside.base c.self.inside.span len c.self.inside.words.items before (number_at (set wide c.args.place c.args.number))
    c.args.place c.args.number c.self.invariant.0.room (beside_there wide c.args.place c.args.number (omega (arith, inside, c.in_ok-grow_beside.ensures.long)))
    (λ j other. beside_others wide c.args.place c.args.number j other ∙ c.grow_beside.ensures.same j)
    ∙ ap (λ (xs : List ℕ). set xs c.args.place c.args.number) c.self.view_is
