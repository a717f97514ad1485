use Rattle.std.proofs.Common.{◌≡◌, ℕ, List, sym, ◌∙◌, subst, length}
use Rattle.topo_map.specs.Building.{IsJoined}
use Rattle.topo_map.specs.Rotation.{AreLabelled}
use Rattle.topo_map.proofs.Joining.{made_from}
use Rattle.topo_map.proofs.FaceEdits.{joined_painted}
use Rattle.topo_map.proofs.embedding.Embedding.from_turns.Goals as goal

pub returns-clause-made : goal.returns-clause-made
returns-clause-made c =
    let hs : List ℕ = c.in_ok-halves.halves.items in
    let e : length hs ≡ length c.args.turns.now = c.in_ok-halves.ensures.length ∙ sym c.requires.two_each in
    let j : IsJoined c.join_turns.new.segments hs c.args.turns.now =
    subst (λ (l : List ℕ). IsJoined c.join_turns.new.segments l c.args.turns.now) c.deref.ensures.value c.join_turns.ensures.joined in
    made_from c.label_faces-unused.new.segments hs c.args.turns.now c.requires.permutation e
    (joined_painted c.join_turns.new.segments c.label_faces-unused.new.segments hs c.args.turns.now _ j c.label_faces-unused.ensures.same)

pub returns-clause-labels : goal.returns-clause-labels
returns-clause-labels c = subst (λ (f : ℕ → ℕ). AreLabelled c.args.edges.now c.in_ok-halves.halves.items f)
    (sym (c.label_faces-unused.ensures.same.edges ∙ c.join_turns.ensures.labels)) c.in_ok-halves.ensures.labels
