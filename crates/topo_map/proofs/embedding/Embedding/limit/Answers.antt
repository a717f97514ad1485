use Rattle.std.proofs.Common.{◌≡◌, ℕ, ◌+◌, ◌*◌, ◌<◌, ap, sym, ◌∙◌, subst}
use Rattle.topo_perm.specs.Live.{live_segments}
use Rattle.topo_map.specs.Rotation.{Rotation, is_live, half_limit}
use Rattle.topo_map.proofs.Stored.{below_limit}
use Rattle.topo_map.proofs.Sizes.{limit_whole}
use Rattle.topo_map.proofs.embedding.Embedding.limit.Goals as goal

pub returns-clause-above : goal.returns-clause-above
returns-clause-above c a h = subst (λ (n : ℕ). a < n) (sym c.limit.ensures.value)
    (below_limit c.self.inside.segments a c.self.invariant.kept c.limit.ensures.slots (ap (λ (r : Rotation). is_live r a) c.self.view_is ∙ h))

pub returns-clause-size : goal.returns-clause-size
returns-clause-size c small = subst (λ (r : Rotation). c.limit.result ≡ 2 * (live_segments (is_live r) half_limit + r.room)) c.self.view_is
    (c.limit.ensures.value ∙ limit_whole c.self.inside.segments c.limit.ensures.slots (subst (λ (n : ℕ). n < half_limit) c.limit.ensures.value small))
