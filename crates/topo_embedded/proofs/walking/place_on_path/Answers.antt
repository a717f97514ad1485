use Rattle.std.proofs.Common.{◌≢◌, arith, rules, ◌∙◌}
use Rattle.std.specs.Prelude.{slice_index_or}
use Rattle.topo_embedded.proofs.halves.OnSegments.{found_on, way_back}
use Rattle.topo_embedded.proofs.walking.place_on_path.Goals as goal

pub at-requires : goal.at-requires
at-requires c = (found_on c.args.path.now c.args.half c.place_of-seg.result c.requires.there c.place_of-seg.ensures).within

pub overflow_cast-result : goal.overflow_cast-result
overflow_cast-result c =
    let within = (found_on c.args.path.now c.args.half c.place_of-seg.result c.requires.there c.place_of-seg.ensures).within in
    let few = c.requires.few in
    omega (arith, within, few)

pub overflow_cast-result-else-eq : goal.overflow_cast-result-else-eq
overflow_cast-result-else-eq c =
    let within = (found_on c.args.path.now c.args.half c.place_of-seg.result c.requires.there c.place_of-seg.ensures).within in
    let few = c.requires.few in
    omega (arith, within, few)

pub returns-then-eq-clause-within : goal.returns-then-eq-clause-within
returns-then-eq-clause-within c = (found_on c.args.path.now c.args.half c.place_of-seg.result c.requires.there c.place_of-seg.ensures).within

pub returns-else-eq-clause-within : goal.returns-else-eq-clause-within
returns-else-eq-clause-within c = (found_on c.args.path.now c.args.half c.place_of-seg.result c.requires.there c.place_of-seg.ensures).within

pub returns-else-eq-clause-found : goal.returns-else-eq-clause-found
returns-else-eq-clause-found c =
    let on = (found_on c.args.path.now c.args.half c.place_of-seg.result c.requires.there c.place_of-seg.ensures).on in
    let other : c.at.result ≢ c.args.half = (λ e. search (rules, e)) in
    way_back c.args.half (slice_index_or c.args.path.now c.place_of-seg.result 0) on (λ e. other (c.at.ensures ∙ e))
