use Rattle.fezdrok_c.proofs.Places.{one_more}
use Rattle.fezdrok_c.specs.Given.{end_item}
use Rattle.fezdrok_c.proofs.given.end_items.Goals as goal

pub loop-place-preserved : goal.loop-place-preserved
loop-place-preserved c =
    one_more (end_item c.args.edges.now c.args.ends.now) c.loop-place.place c.loop-place.items.items c.push.new.self.items c.end_item.result
    c.in_ok-push.ensures.items c.end_item.ensures c.loop-place.invariant
