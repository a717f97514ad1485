-- What the writes of each edit make of the turn is the edit.
use Rattle.std.proofs.Common.{arith, ◌≡◌, ◌≢◌, ℕ, ◌%◌, ◌<◌, refl, sym, ◌∙◌, ap}
use Rattle.topo_core.specs.Cycles.{IsPermutation, SameCycle}
use Rattle.topo_core.specs.Rotations.{twin, face_next}
use Rattle.topo_core.specs.Edits.{IsChord, IsIsolated, IsUnchord}
use Rattle.topo_perm.specs.Edits.{AreTurns, IsApart, IsAllowedHang, IsAllowedChord, IsAllowedUnchord, IsAllowedSplit, IsAllowedSmooth, IsPutBefore, IsSmoothing}
use Rattle.topo_perm.proofs.permutations.Walks.{twin-within}
use Rattle.topo_perm.proofs.permutations.Faces.{twin-twin, twin-apart, twin-other}
use Rattle.topo_perm.proofs.permutations.Splitting.{without, without-self, without-onward, without-elsewhere, without-bypass, bypassed-permutation}
use Rattle.topo_perm.proofs.edits.EditCounts.{put, put-self, put-led, put-elsewhere, put-is, put_permutation}
use Rattle.topo_perm.proofs.edits.EditCounts.{put_before, smoothing_permutation, smoothing_smooth}

-- f turns the darts below n, which are those of n / 2 segments
pub record AreDarts (f : ℕ → ℕ) (n : ℕ) : Type 0 where
  pub permutation : IsPermutation f n
  pub even : n % 2 ≡ 0

pub hang_allowed : (f : ℕ → ℕ) (n c x : ℕ) → AreDarts f n → x < n → IsIsolated f x → IsApart n c x → IsAllowedHang f (put f x c) n c x
hang_allowed f n c x h lx room k =
    let w : IsPutBefore f (put f x c) n x c = put-is f n x c room.this k.not_self in
    grind (arith, put_permutation, put, put_before)

-- a chord, whether or not its corners lie in one face
pub record IsChordPut (f g : ℕ → ℕ) (n c d x : ℕ) : Type 0 where
  pub turns : AreTurns f g n x
  pub corner : IsApart n c x
  pub edit : IsChord f g n c d x

pub chord_put : (f : ℕ → ℕ) (n c d x : ℕ) → AreDarts f n → x < n → IsIsolated f x → IsApart n c x → IsApart n d x
    → IsChordPut f (put (put f x c) (twin x) d) n c d x
chord_put f n c d x h lx room k m =
    let lt : twin x < n = twin-within n x h.even lx in
    let ld : d < n = m.within in
    let far : d ≢ twin x = m.not_twin in
    let half : ℕ → ℕ = put f x c in
    let g : ℕ → ℕ = put half (twin x) d in
    let w : IsPutBefore f half n x c = put-is f n x c room.this k.not_self in
    let hh : IsPermutation half n = put_permutation f half n x c h.permutation lx k.within k.not_self w in
    let alone : half (twin x) ≡ twin x = put-elsewhere f x c (twin x) (twin-other x) (λ e. k.not_twin (sym e ∙ room.other)) ∙ room.other in
    let v : IsPutBefore half g n (twin x) d = put-is half n (twin x) d alone far in
    record {
      turns = record { before = h.permutation; after = put_permutation half g n (twin x) d hh lt ld far v; even = h.even; within = lx };
      corner = k;
      edit = record {
        room = room;
        half = half;
        start = put_before f half n x c h.permutation lx k.within k.not_self w;
        end = put_before half g n (twin x) d hh lt ld far v;
      };
    }

pub chord_allowed : (f g : ℕ → ℕ) (n c d x : ℕ) → IsChordPut f g n c d x → SameCycle (face_next f) c d → IsAllowedChord f g n c d x
chord_allowed f g n c d x w one = record { turns = w.turns; corner = w.corner; one_face = one; edit = w.edit }

pub unchord_made : (f : ℕ → ℕ) (n h : ℕ) → IsUnchord f (without (without f h) (twin h)) n h
unchord_made f n h = record { half = without f h; first = without-bypass f n h; second = without-bypass (without f h) n (twin h) }

pub unchord_allowed : (f : ℕ → ℕ) (n h : ℕ) → AreDarts f n → h < n → ¬ SameCycle (face_next f) h (twin h) → (f h ≡ twin h → f (twin h) ≢ h)
    → IsAllowedUnchord f (without (without f h) (twin h)) n h
unchord_allowed f n h d lh two not_alone =
    let half : ℕ → ℕ = without f h in
    let hh : IsPermutation half n = bypassed-permutation f half n h d.permutation lh (without-bypass f n h) in
    record {
      turns = record {
        before = d.permutation;
        after = bypassed-permutation half (without half (twin h)) n (twin h) hh (twin-within n h d.even lh)
            (without-bypass half n (twin h));
        even = d.even;
        within = lh;
      };
      two_faces = two;
      not_alone = not_alone;
      edit = unchord_made f n h;
    }

pub split_allowed : (f : ℕ → ℕ) (n h x : ℕ) → AreDarts f n → x < n → IsIsolated f x → IsApart n h x
    → IsAllowedSplit f (put (without (put f (twin x) (twin h)) (twin h)) x (twin h)) n h x
split_allowed f n h x d lx room s =
    let t : ℕ = twin h in
    let y : ℕ = twin x in
    let lt : t < n = twin-within n h d.even s.within in
    let ly : y < n = twin-within n x d.even lx in
    let tx : t ≢ x = λ w. s.not_twin (sym (twin-twin h) ∙ ap twin w) in
    let ty : t ≢ y = λ w. s.not_self (twin-apart h x w) in
    let yx : y ≢ x = twin-other x in
    let f1 : ℕ → ℕ = put f y t in
    let h1 : IsPermutation f1 n = put_permutation f f1 n y t d.permutation ly lt ty (put-is f n y t room.other ty) in
    let f2 : ℕ → ℕ = without f1 t in
    let h2 : IsPermutation f2 n = bypassed-permutation f1 f2 n t h1 lt (without-bypass f1 n t) in
    let f2t : f2 t ≡ t = without-self f1 t t refl in
    let f1x : f1 x ≡ x = put-elsewhere f y t x (λ w. yx (sym w)) (λ w. tx (sym w ∙ room.this)) ∙ room.this in
    let f2x : f2 x ≡ x = without-elsewhere f1 t x (λ w. tx (sym w)) (λ w. tx (sym w ∙ f1x)) ∙ f1x in
    let f2y : f2 y ≡ f1 t = without-onward f1 t y (λ w. ty (sym w)) (put-self f y t y refl) in
    let g : ℕ → ℕ = put f2 x t in
    record {
      turns = record { before = d.permutation; after = put_permutation f2 g n x t h2 lx lt tx (put-is f2 n x t f2x tx); even = d.even; within = lx };
      segment = s;
      edit = record {
        isolated = room;
        point_there = put-self f2 x t x refl;
        point_back = put-led f2 x t t tx f2t;
        leads_on = λ more.
            let at : f2 y ≡ f t = f2y ∙ put-elsewhere f y t t ty more in
            put-elsewhere f2 x t y yx (λ w. more (sym at ∙ w)) ∙ at;
        leads_itself = λ alone.
            let at : f2 y ≡ y = f2y ∙ put-led f y t t ty alone in
            put-elsewhere f2 x t y yx (λ w. ty (sym w ∙ at)) ∙ at;
        led_to = λ a la nt met.
            let nx : a ≢ x = λ w. tx (sym met ∙ ap f w ∙ room.this) in
            let ny : a ≢ y = λ w. ty (sym met ∙ ap f w ∙ room.other) in
            let at1 : f1 a ≡ y = put-led f y t a ny met in
            let at2 : f2 a ≡ y = without-elsewhere f1 t a nt (λ w. ty (sym w ∙ at1)) ∙ at1 in
            put-elsewhere f2 x t a nx (λ w. ty (sym w ∙ at2)) ∙ at2;
        elsewhere = λ a la nx ny nt ne.
            let at1 : f1 a ≡ f a = put-elsewhere f y t a ny ne in
            let at2 : f2 a ≡ f a = without-elsewhere f1 t a nt (λ w. ne (sym at1 ∙ w)) ∙ at1 in
            put-elsewhere f2 x t a nx (λ w. ne (sym at2 ∙ w)) ∙ at2;
      };
    }

pub smooth_allowed : (f : ℕ → ℕ) (n x : ℕ) → AreDarts f n → x < n → f (f x) ≡ x → f x ≢ x → f x ≢ twin x
    → IsAllowedSmooth f (without (put (without f x) (f x) (twin x)) (twin x)) n x
smooth_allowed f n x d lx back na nl =
    let hf : IsPermutation f n = d.permutation in
    let even : n % 2 ≡ 0 = d.even in
    let t : ℕ = f x in
    let y : ℕ = twin x in
    let lt : t < n = hf.within x lx in
    let ly : y < n = twin-within n x even lx in
    let yx : y ≢ x = twin-other x in
    let ty : t ≢ y = nl in
    let f1 : ℕ → ℕ = without f x in
    let f2 : ℕ → ℕ = put f1 t y in
    let g : ℕ → ℕ = without f2 y in
    let to_x : (a : ℕ) → a < n → f a ≡ x → a ≡ t = λ a la w. hf.apart a t la lt (w ∙ sym back) in
    let f1x : f1 x ≡ x = without-self f x x refl in
    let f2x : f2 x ≡ x = put-elsewhere f1 t y x (λ v. na (sym v)) (λ v. yx (sym v ∙ f1x)) ∙ f1x in
    let f1y : f1 y ≡ f y = without-elsewhere f x y yx (λ w. ty (sym (to_x y ly w))) in
    let gt : g t ≡ f2 y = without-onward f2 y t ty (put-self f1 t y t refl) in
    let e : IsSmoothing f g n x = record {
      point_back = back;
      isolated = record { this = without-elsewhere f2 y x (λ v. yx (sym v)) (λ v. yx (sym v ∙ f2x)) ∙ f2x; other = without-self f2 y y refl };
      leads_on = λ more. gt ∙ put-elsewhere f1 t y y (λ v. ty (sym v)) (λ v. more (sym f1y ∙ v)) ∙ f1y;
      leads_itself = λ alone. gt ∙ put-led f1 t y y (λ v. ty (sym v)) (f1y ∙ alone);
      led_to = λ a la ny met.
          let nx : a ≢ x = λ v. ty (sym (ap f v) ∙ met) in
          let nt : a ≢ t = λ v. yx (sym met ∙ ap f v ∙ back) in
          let at1 : f1 a ≡ y = without-elsewhere f x a nx (λ v. yx (sym met ∙ v)) ∙ met in
          let at2 : f2 a ≡ t = put-led f1 t y a nt at1 in
          without-elsewhere f2 y a ny (λ v. ty (sym at2 ∙ v)) ∙ at2;
      elsewhere = λ a la nx ny nt ne.
          let at1 : f1 a ≡ f a = without-elsewhere f x a nx (λ v. nt (to_x a la v)) in
          let at2 : f2 a ≡ f a = put-elsewhere f1 t y a nt (λ v. ne (sym at1 ∙ v)) ∙ at1 in
          without-elsewhere f2 y a ny (λ v. ne (sym at2 ∙ v)) ∙ at2;
    } in
    record {
      turns = record { before = hf; after = smoothing_permutation f g n x hf even lx na nl e; even = even; within = lx };
      not_alone = na;
      not_loop = nl;
      edit = smoothing_smooth f g n x hf even lx na nl e;
    }
