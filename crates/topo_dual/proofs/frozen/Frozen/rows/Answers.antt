use Rattle.topo_rows.specs.Recovering.{lawful_again}
use Rattle.topo_dual.proofs.frozen.Frozen.rows.Goals as goal

pub returns-clause-lawful : goal.returns-clause-lawful
returns-clause-lawful c = lawful_again c.args.self.now.rows c.args.self.now.lawful
