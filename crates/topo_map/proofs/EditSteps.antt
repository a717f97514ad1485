-- Each edit of an embedding is a step of a run of edits.
use Rattle.std.specs.Prelude.{◌≡◌, ◌≢◌, ℕ, true}
use Rattle.topo_core.specs.Edits.{IsChord, IsHang, IsSmooth, IsSplit, IsUnchord}
use Rattle.topo_core.specs.Rotations.{twin}
use Rattle.topo_perm.specs.RenumberedEdits.{IsAlive}
use Rattle.topo_perm.specs.Runs.{Comes, Goes, IsStep}
use Rattle.topo_perm.specs.Runs.Edit.{Chord, Hang, Smooth, Split, Unchord}
use Rattle.topo_map.specs.Rotation.{Grows, IsEmbedding, Rotation, Shrinks, half_limit, is_live, turn, turning_of}

pub live_half : (r : Rotation) (h : ℕ) → IsEmbedding r → is_live r h ≡ true → IsAlive (is_live r) half_limit h
live_half r h whole alive = record { within = whole.within h alive; alive = alive }

pub comes : (old new : Rotation) (x : ℕ) → Grows old new x → Comes half_limit (turning_of old) x (turning_of new)
comes old new x g = record { within = g.within; adds = g.live; permutation = g.embedding.slab.permutation }

pub goes : (old new : Rotation) (x : ℕ) → IsEmbedding old → is_live old x ≡ true → Shrinks old new x → Goes half_limit (turning_of old) x (turning_of new)
goes old new x whole alive s = record { there = live_half old x whole alive; takes = s.live; permutation = s.embedding.slab.permutation }

pub hang_step : (old new : Rotation) (c x : ℕ) → IsEmbedding old → is_live old c ≡ true → IsHang (turn old) (turn new) half_limit c x → Grows old new x
    → IsStep half_limit (turning_of old) (Hang c x) (turning_of new)
hang_step old new c x whole alive edit g = (comes old new x g, live_half old c whole alive, edit)

pub chord_step : (old new : Rotation) (c d x : ℕ) → IsEmbedding old → is_live old c ≡ true → is_live old d ≡ true
    → IsChord (turn old) (turn new) half_limit c d x → Grows old new x
    → IsStep half_limit (turning_of old) (Chord c d x) (turning_of new)
chord_step old new c d x whole alive alive_end edit g = (comes old new x g, (live_half old c whole alive, live_half old d whole alive_end), edit)

pub split_step : (old new : Rotation) (h x : ℕ) → IsEmbedding old → is_live old h ≡ true → IsSplit (turn old) (turn new) half_limit h x → Grows old new x
    → IsStep half_limit (turning_of old) (Split h x) (turning_of new)
split_step old new h x whole alive edit g = (comes old new x g, live_half old h whole alive, edit)

pub unchord_step : (old new : Rotation) (h : ℕ) → IsEmbedding old → is_live old h ≡ true → IsUnchord (turn old) (turn new) half_limit h → Shrinks old new h
    → IsStep half_limit (turning_of old) (Unchord h) (turning_of new)
unchord_step old new h whole alive edit s = (goes old new h whole alive s, edit)

pub smooth_step : (old new : Rotation) (x : ℕ) → IsEmbedding old → is_live old x ≡ true → turn old x ≢ twin x → IsSmooth (turn old) (turn new) half_limit x
    → Shrinks old new x → IsStep half_limit (turning_of old) (Smooth x) (turning_of new)
smooth_step old new x whole alive two edit s = (goes old new x whole alive s, two, edit)
