use Rattle.fezdrok_c.proofs.Losing.{lost_so}
use Rattle.fezdrok_c.proofs.typed.carry.Goals as goal

pub returns-clause-lost : goal.returns-clause-lost
returns-clause-lost g c =
    lost_so c.args.caller c.args.call c.in_ok-reply.reply c.args.session.now c.enter.new.session c.reply_given.result c.in_ok-reply.ensures.entered
