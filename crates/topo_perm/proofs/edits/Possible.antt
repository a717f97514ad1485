-- Each edit can be made where its conditions hold: a turn after it.
use Rattle.std.proofs.Common.{arith, ℕ}
use Rattle.topo_core.specs.Rotations.{twin}
use Rattle.topo_perm.specs.Edits.{IsApart, HangIsPossible, ChordIsPossible, UnchordIsPossible, SplitIsPossible, SmoothIsPossible}
use Rattle.topo_core.proofs.Interface.{after-within}
use Rattle.topo_perm.proofs.permutations.Walks.{face_next-permutation}
use Rattle.topo_perm.proofs.permutations.Splitting.{without}
use Rattle.topo_perm.proofs.edits.EditCounts.{put, far_apart}
use Rattle.topo_perm.proofs.edits.Allowed.{hang_allowed, chord_put, chord_allowed, unchord_allowed, split_allowed, smooth_allowed}

pub hang_is_possible : HangIsPossible
hang_is_possible f n c x h even lx room k = record { turn = put f x c; edit = hang_allowed f n c x (record { permutation = h; even = even }) lx room k }

pub chord_is_possible : ChordIsPossible
chord_is_possible f n c d x h even lx room k one =
    let far = far_apart f n c d x h even k room one in
    let m : IsApart n d x = grind (arith, after-within, face_next-permutation) in
    let g : ℕ → ℕ = put (put f x c) (twin x) d in
    record { turn = g; edit = chord_allowed f g n c d x (chord_put f n c d x (record { permutation = h; even = even }) lx room k m) one }

pub unchord_is_possible : UnchordIsPossible
unchord_is_possible f n h hf even lh two not_alone =
    record { turn = without (without f h) (twin h); edit = unchord_allowed f n h (record { permutation = hf; even = even }) lh two not_alone }

pub split_is_possible : SplitIsPossible
split_is_possible f n h x hf even lx room s =
    record {
      turn = put (without (put f (twin x) (twin h)) (twin h)) x (twin h);
      edit = split_allowed f n h x (record { permutation = hf; even = even }) lx room s;
    }

pub smooth_is_possible : SmoothIsPossible
smooth_is_possible f n x hf even lx back na nl =
    record { turn = without (put (without f x) (f x) (twin x)) (twin x); edit = smooth_allowed f n x (record { permutation = hf; even = even }) lx back na nl }
