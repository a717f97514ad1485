-- Where one end has been searched whole and the other was not reached: there is no route.
use Rattle.std.proofs.Common.{ℕ, ◌<◌, List}
use Rattle.std.specs.Prelude.{slice_index}
use Rattle.topo_core.specs.Lawful.{Lawful}
use Rattle.topo_core.specs.Routes.{HasNoRoute, KeepsPromise, Pricing, unreached}
use Rattle.topo_route.specs.Descents.{HasNoStart}
use Rattle.topo_route.specs.Names.{IsName, IsNamed, Named, height_of}
use Rattle.topo_route.specs.Plans.{IsZeroAt}
use Rattle.topo_route.specs.Settling.{AreCosts, IsSettled}
use Rattle.topo_route.proofs.meeting.Descending.{no_route}
use Rattle.topo_route.proofs.spreading.Reaching.{are_heights}
use Rattle.topo_route.proofs.spreading.Settled.{every_settled}
use Rattle.topo_route.proofs.meeting.Turned.{none_turned}

module _ (price : Pricing) (g : Named) (lawful : Lawful g.rows) (has : IsNamed g) (promise : KeepsPromise price) (u v : ℕ) where
  -- all that leads to v is settled, and no corner of u is reached
  pub none_from_v : (heights : List ℕ) → AreCosts price g v heights → IsZeroAt g.rows v (height_of g heights)
      → ((k : ℕ) → IsName g k → slice_index heights k < unreached → IsSettled price g unreached heights k) → HasNoStart g u heights
      → HasNoRoute price g.rows u v
  none_from_v heights costs meets settled =
      no_route price g lawful v heights
      (are_heights price g lawful has v unreached heights costs.capped meets (every_settled price g v heights costs settled) promise costs) u

module _ (price : Pricing) (g : Named) (lawful : Lawful g.rows) (has : IsNamed g) (promise : KeepsPromise price) (u v : ℕ) where
  -- all that leads to u is settled, and no corner of v is reached
  pub none_from_u : (distances : List ℕ) → AreCosts price g u distances → IsZeroAt g.rows u (height_of g distances)
      → ((k : ℕ) → IsName g k → slice_index distances k < unreached → IsSettled price g unreached distances k) → HasNoStart g v distances
      → HasNoRoute price g.rows u v
  none_from_u distances costs meets settled none =
      none_turned price g lawful has u v (none_from_v price g lawful has promise v u distances costs meets settled none)
