use Rattle.topo_route.proofs.surviving.Staying.{covers_whole, whole_region}
use Rattle.topo_route.proofs.planned.laws.pictures_cover_searches.Goals as goal

pub returns : goal.returns
returns g c rows u v height r p lawful certificate first =
    (whole_region rows lawful, covers_whole g.P.Prices.price rows lawful u v height r p certificate first)
