-- What each edit does to the counts of live points, segments and faces, and that all holds together.
use Rattle.std.proofs.Common.{◌≡◌, ℕ, ◌+◌, Bool, true, sym}
use Rattle.topo_core.specs.Rotations.{face_next}
use Rattle.topo_perm.specs.Edits.{IsAllowedHang, IsAllowedChord, IsAllowedUnchord, IsAllowedSplit, IsAllowedSmooth}
use Rattle.topo_perm.specs.Joins.{AddsSegment, IsConnectedAmong}
use Rattle.topo_perm.specs.Live.{IsSlab, live_cycle_count}
use Rattle.topo_perm.specs.LiveEdits.{GrowsSlab, ShrinksSlab}
use Rattle.topo_perm.proofs.Interface.{chord_connects, chord_keeps_slab, chord_live_faces, chord_live_points, hang_connects, hang_keeps_slab, hang_live_faces, hang_live_points, smooth_connects}
use Rattle.topo_perm.proofs.Interface.{smooth_keeps_slab, smooth_live_faces, smooth_live_points, split_connects, split_keeps_slab, split_live_faces, split_live_points, unchord_connects}
use Rattle.topo_perm.proofs.Interface.{unchord_keeps_slab, unchord_live_faces, unchord_live_points}
use Rattle.topo_map.specs.Rotation.{IsWhole, half_limit}

-- so many points and faces more
pub record More (live live' : ℕ → Bool) (f g : ℕ → ℕ) (p q : ℕ) : Type 0 where
  pub points : live_cycle_count live' g half_limit ≡ live_cycle_count live f half_limit + p
  pub faces : live_cycle_count live' (face_next g) half_limit ≡ live_cycle_count live (face_next f) half_limit + q
  pub connected : IsConnectedAmong live f half_limit → IsConnectedAmong live' g half_limit

pub record Fewer (live live' : ℕ → Bool) (f g : ℕ → ℕ) (p q : ℕ) : Type 0 where
  pub points : live_cycle_count live' g half_limit + p ≡ live_cycle_count live f half_limit
  pub faces : live_cycle_count live' (face_next g) half_limit + q ≡ live_cycle_count live (face_next f) half_limit
  pub connected : IsConnectedAmong live f half_limit → IsConnectedAmong live' g half_limit

pub hang_more : (live live' : ℕ → Bool) (f g : ℕ → ℕ) (c x : ℕ) → IsWhole live f → AddsSegment live live' half_limit x → live c ≡ true
    → IsAllowedHang f g half_limit c x → More live live' f g 1 0
hang_more live live' f g c x w t alive k =
    let s : IsSlab live' g half_limit = hang_keeps_slab live live' f g half_limit c x w.slab t alive k in
    let e : GrowsSlab live live' f g half_limit x = record { before = w.slab; after = s; within = k.turns.within; adds = t } in
    record {
      points = hang_live_points live live' f g half_limit c x e k;
      faces = hang_live_faces live live' f g half_limit c x e k;
      connected = hang_connects f g live live' half_limit c x k t alive;
    }

pub chord_more : {live live' : ℕ → Bool} {f g : ℕ → ℕ} {c d x : ℕ} → IsWhole live f → AddsSegment live live' half_limit x → live c ≡ true → live d ≡ true
    → IsAllowedChord f g half_limit c d x → More live live' f g 0 1
chord_more {live} {live'} {f} {g} {c} {d} {x} w t alive alive_d k =
    let s : IsSlab live' g half_limit = chord_keeps_slab live live' f g half_limit c d x w.slab t alive alive_d k in
    let e : GrowsSlab live live' f g half_limit x = record { before = w.slab; after = s; within = k.turns.within; adds = t } in
    record {
      points = chord_live_points live live' f g half_limit c d x e k;
      faces = chord_live_faces live live' f g half_limit c d x e k;
      connected = chord_connects f g live live' half_limit c d x k t alive;
    }

pub split_more : (live live' : ℕ → Bool) (f g : ℕ → ℕ) (h x : ℕ) → IsWhole live f → AddsSegment live live' half_limit x → live h ≡ true
    → IsAllowedSplit f g half_limit h x → More live live' f g 1 0
split_more live live' f g h x w t alive k =
    let s : IsSlab live' g half_limit = split_keeps_slab live live' f g half_limit h x w.slab t alive k in
    let e : GrowsSlab live live' f g half_limit x = record { before = w.slab; after = s; within = k.turns.within; adds = t } in
    record {
      points = split_live_points live live' f g half_limit h x e k;
      faces = split_live_faces live live' f g half_limit h x e k;
      connected = split_connects f g live live' half_limit h x k t alive;
    }

pub unchord_fewer : (live live' : ℕ → Bool) (f g : ℕ → ℕ) (h : ℕ) → IsWhole live f → AddsSegment live' live half_limit h → IsAllowedUnchord f g half_limit h
    → Fewer live live' f g 0 1
unchord_fewer live live' f g h w t k =
    let s : IsSlab live' g half_limit = unchord_keeps_slab live live' f g half_limit h w.slab t k in
    let e : ShrinksSlab live live' f g half_limit h = record { before = w.slab; after = s; within = k.turns.within; takes = t } in
    record {
      points = sym (unchord_live_points live live' f g half_limit h e k);
      faces = sym (unchord_live_faces live live' f g half_limit h e k);
      connected = unchord_connects f g live live' half_limit h k t;
    }

pub smooth_fewer : (live live' : ℕ → Bool) (f g : ℕ → ℕ) (x : ℕ) → IsWhole live f → AddsSegment live' live half_limit x → IsAllowedSmooth f g half_limit x
    → Fewer live live' f g 1 0
smooth_fewer live live' f g x w t k =
    let s : IsSlab live' g half_limit = smooth_keeps_slab live live' f g half_limit x w.slab t k in
    let e : ShrinksSlab live live' f g half_limit x = record { before = w.slab; after = s; within = k.turns.within; takes = t } in
    record {
      points = sym (smooth_live_points live live' f g half_limit x e k);
      faces = sym (smooth_live_faces live live' f g half_limit x e k);
      connected = smooth_connects f g live live' half_limit x k t;
    }
