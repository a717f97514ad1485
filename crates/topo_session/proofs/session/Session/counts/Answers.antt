use Rattle.std.proofs.Common.{subst}
use Rattle.topo_picture.specs.Totals.{AreCountsOf}
use Rattle.topo_rows.specs.Shown.{Shown}
use Rattle.topo_session.specs.Standings.{Standing}
use Rattle.topo_session.proofs.session.Session.counts.Goals as goal

pub returns : goal.returns
returns g c =
    subst (λ (s : Standing). AreCountsOf s.picture c.counts.result) c.self.view_is
    (subst (λ (p : Shown). AreCountsOf p.rows c.counts.result) c.picture.ensures.picture c.counts.ensures)
