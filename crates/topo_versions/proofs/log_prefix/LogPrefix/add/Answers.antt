use Rattle.std.proofs.Common.{◌≡◌, sym, ◌∙◌, ap, length}
use Rattle.topo_versions.proofs.Adding.{adds_moves}
use Rattle.topo_versions.proofs.log_prefix.LogPrefix.add.Goals as goal

pub compare_exchange-found-requires : goal.compare_exchange-found-requires
compare_exchange-found-requires g c =
    let h = c.args.log_length.now.word_is in
    let offer = c.plain-offer.ensures in
    let pen = c.no_pen-pen.ensures in
    let same = c.again-seen.ensures in
    let book = ap (λ s. s.book) same ∙ c.self.invariant.1 ∙ sym (ap (λ w. w.book) h) in
    let log = c.again-seen.result.log in
    let long : length log ≡ c.self.inside.len = ap (λ s. length s.log) same ∙ sym c.self.invariant.0 in (
      ap (λ w. w.tracked) h,
      book,
      pen.0 ∙ book,
      offer.0,
      rw (ap (λ w. w.key) h, pen.1, offer.1, offer.3) (adds_moves log c.args.entry.now c.self.inside.len long),
    )
