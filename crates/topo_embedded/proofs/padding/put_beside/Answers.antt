use Rattle.std.proofs.Common.{◌≡◌, ◌≢◌, ◌++◌, ◌∷◌, ◌+◌, [], List, ap, arith, drop, get_or, length, length-append, rules, sym, take, ℕ, ◌∙◌}
use Rattle.std.proofs.Math.Seq.{get_or-append_seam}
use Rattle.topo_embedded.specs.Padding.{shifted}
use Rattle.topo_embedded.proofs.halves.OnSegments.{place_from}
use Rattle.topo_embedded.proofs.inserting.Pads.{put_ahead, put_behind}
use Rattle.topo_embedded.proofs.padding.put_beside.Goals as goal

pub returns-then-eq : goal.returns-then-eq
returns-then-eq c = λ xs ys h last is behind off on.
    let at : c.place_from-at.result ≡ length xs = place_from xs (ys ++ last ∷ []) h is c.place_from-at.ensures (omega (arith, behind)) off on in
    let same : c.at.result ≡ c.args.cross.now.near = search rules in
    let here : c.at.result ≡ h = c.at.ensures ∙ ap (λ (p : List ℕ). get_or p c.place_from-at.result 0) is
    ∙ ap (λ (k : ℕ). get_or (xs ++ h ∷ (ys ++ last ∷ [])) k 0) at ∙ get_or-append_seam xs h (ys ++ last ∷ []) 0 in
    put_ahead c.args.cross.now.near c.args.beyond xs ys h last c.place_from-at.result is at (sym here ∙ same) c.shift_in.ensures

pub returns-else-eq : goal.returns-else-eq
returns-else-eq c = λ xs ys h last is behind off on.
    let at : c.place_from-at.result ≡ length xs = place_from xs (ys ++ last ∷ []) h is c.place_from-at.ensures (omega (arith, behind)) off on in
    let other : c.at.result ≢ c.args.cross.now.near = (λ e. search (rules, e)) in
    let here : c.at.result ≡ h = c.at.ensures ∙ ap (λ (p : List ℕ). get_or p c.place_from-at.result 0) is
    ∙ ap (λ (k : ℕ). get_or (xs ++ h ∷ (ys ++ last ∷ [])) k 0) at ∙ get_or-append_seam xs h (ys ++ last ∷ []) 0 in
    put_behind c.args.cross.now.near c.args.beyond xs ys h last c.place_from-at.result is at (λ e. other (here ∙ e)) on
    (c.shift_in-else-eq.ensures
    ∙ ap (λ (b : ℕ). take c.place_from-at.result c.args.path.now ++ shifted b (drop c.place_from-at.result c.args.path.now)) c.twin.ensures)

pub returns-else-at-len : goal.returns-else-at-len
returns-else-at-len c = λ xs ys h last is behind off on.
    let at : c.place_from-at.result ≡ length xs = place_from xs (ys ++ last ∷ []) h is c.place_from-at.ensures (omega (arith, behind)) off on in
    let many : length c.args.path.now ≡ length xs + length (h ∷ (ys ++ last ∷ [])) = ap (λ (p : List ℕ). length p) is
    ∙ length-append xs (h ∷ (ys ++ last ∷ [])) in
    absurd (omega (arith, at, many, c.if-at-len.false, c.len.ensures.len))
