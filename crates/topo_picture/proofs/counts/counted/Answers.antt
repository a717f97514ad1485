use Rattle.std.proofs.Common.{arith}
use Rattle.topo_picture.proofs.Totals.{counted, counts_are}
use Rattle.topo_picture.proofs.counts.counted.Goals as goal

pub overflow_cast-vertices : goal.overflow_cast-vertices
overflow_cast-vertices c =
    let h = c.requires.1 in
    let size = counted h.limits c.requires.0 h.picture in
    grind arith

pub overflow_cast-crossings : goal.overflow_cast-crossings
overflow_cast-crossings c =
    let h = c.requires.1 in
    let size = counted h.limits c.requires.0 h.picture in
    grind arith

pub overflow_cast-edges : goal.overflow_cast-edges
overflow_cast-edges c =
    let h = c.requires.1 in
    let size = counted h.limits c.requires.0 h.picture in
    grind arith

pub overflow_mul-segments : goal.overflow_mul-segments
overflow_mul-segments c =
    let h = c.requires.1 in
    let size = counted h.limits c.requires.0 h.picture in
    grind arith

pub overflow_add-segments : goal.overflow_add-segments
overflow_add-segments c =
    let h = c.requires.1 in
    let size = counted h.limits c.requires.0 h.picture in
    grind arith

pub overflow_add-result : goal.overflow_add-result
overflow_add-result c =
    let h = c.requires.1 in
    let size = counted h.limits c.requires.0 h.picture in
    grind arith

pub overflow_add-result-2 : goal.overflow_add-result-2
overflow_add-result-2 c =
    let h = c.requires.1 in
    let size = counted h.limits c.requires.0 h.picture in
    grind arith

pub overflow_sub-result : goal.overflow_sub-result
overflow_sub-result c =
    let h = c.requires.1 in
    let size = counted h.limits c.requires.0 h.picture in
    grind arith

pub returns : goal.returns
returns c = λ rows h.
    counts_are rows c.args.vertices c.args.crossings c.args.edges (counted h.limits rows h.picture) h.vertices_are h.crossings_are h.edges_are
