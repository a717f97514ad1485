use Rattle.std.proofs.Common.{◌∙◌, ◌≤◌, ap, arith, length, sym, take}
use Rattle.topo_serve.proofs.LineLaws.{ahead_all, ahead_fed, few_ahead, lent, none_ahead, part_plain}
use Rattle.topo_serve.proofs.ahead.Ahead.take_ahead.Goals as goal

pub returns-then-has_feed-clause-parts : goal.returns-then-has_feed-clause-parts
returns-then-has_feed-clause-parts c =
    let shown = c.deref.result.now in
    let at = c.self.inside.at in
    let n = c.line_len-n.result in
    let parted = sym c.self.view_is ∙ ahead_fed c.self.inside.bytes.items shown at n c.deref.ensures.value c.line_len-n.ensures.len c.if-has_feed.true in
    let few : length c.self.inside.bytes.items ≤ 8192 = omega (arith, c.self.invariant.1, c.deref.ensures.len, ap length c.deref.ensures.value) in
    record {
      more = take n (lent shown at);
      plain = part_plain (lent shown at) n c.line_len-n.ensures.len;
      parted = parted;
      kept = c.in_ok-keep.ensures.kept;
      ended = tt;
      few = few_ahead _ at c.self.inside.bytes.items _ c.self.view_is parted few;
    }

pub returns-else-has_feed-clause-parts : goal.returns-else-has_feed-clause-parts
returns-else-has_feed-clause-parts c =
    let shown = c.deref.result.now in
    let at = c.self.inside.at in
    let n = c.line_len-n.result in
    let parted = sym c.self.view_is ∙ ahead_all c.self.inside.bytes.items shown at n c.deref.ensures.value (omega
    (arith, c.self.invariant.0, c.deref.ensures.len)) c.line_len-n.ensures.len c.if-has_feed.false in
    let few : length c.self.inside.bytes.items ≤ 8192 = omega (arith, c.self.invariant.1, c.deref.ensures.len, ap length c.deref.ensures.value) in
    record {
      more = take n (lent shown at);
      plain = part_plain (lent shown at) n c.line_len-n.ensures.len;
      parted = parted;
      kept = c.in_ok-keep.ensures.kept;
      ended = none_ahead c.self.inside.bytes.items shown at n c.deref.ensures.value c.if-has_feed.false;
      few = few_ahead _ at c.self.inside.bytes.items _ c.self.view_is parted few;
    }
