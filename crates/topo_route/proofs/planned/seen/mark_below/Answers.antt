use Rattle.std.proofs.Common.{◌+◌, ◌≡◌, ◌<◌, ◌∙◌, ℕ, List, ap, arith, length, map, subst, sym, true}
use Rattle.std.specs.Prelude.{slice_index}
use Rattle.std.proofs.lemmas.List.{get_or-map, length-map}
use Rattle.topo_core.specs.Items.{has_id}
use Rattle.topo_route.specs.Regions.{IsRegionOf, RegionState}
use Rattle.topo_route.specs.Seen.{HoldsMore}
use Rattle.topo_route.proofs.surviving.Marking.{HoldsFirst, holds_below, holds_next, listed_face, listed_index, more_on, no_more}
use Rattle.topo_route.proofs.planned.seen.mark_below.Goals as goal
use Rattle.topo_route.proofs.planned.seen.mark_below.Goals.{then-get-bound+in_ok-mark_face, else-get-bound}

pub face_at-requires : goal.face_at-requires
face_at-requires g c =
    let names = c.as_slice-names.result.now in
    let dart = slice_index names c.loop-i.i in
    c.requires.labelled.named dart
    (subst (λ (ks : List ℕ). has_id ks dart ≡ true) c.as_slice-names.ensures.value (listed_index names c.loop-i.i c.loop-i-test.true))

pub mark_face-requires-clause-name : goal.mark_face-requires-clause-name
mark_face-requires-clause-name g c =
    let names = c.as_slice-names.result.now in
    let dart = slice_index names c.loop-i.i in
    c.requires.labelled.named dart
    (subst (λ (ks : List ℕ). has_id ks dart ≡ true) c.as_slice-names.ensures.value (listed_index names c.loop-i.i c.loop-i-test.true))

pub loop-i-preserved : goal.loop-i-preserved
loop-i-preserved g c =
    let named = g.W.FaceGraph.named c.args.graph.now in
    let face_of = g.W.FaceGraph.face_of c.args.graph.now in
    let heights = c.args.labels.now.heights in
    let names = c.as_slice-names.result.now in
    let places = map face_of c.args.labels.now.names.items in
    let i = c.loop-i.i in
    let before = c.loop-i.region in
    let invariant = c.loop-i.invariant in
    let at : slice_index places i ≡ face_of (slice_index names i) =
    ap (λ (ks : List ℕ). slice_index (map face_of ks) i) (sym c.as_slice-names.ensures.value) ∙ get_or-map face_of names i 0 0 c.loop-i-test.true in
    let OfRows = λ (r : RegionState). IsRegionOf named.rows r in
    let More = λ (r : RegionState). HoldsMore c.args.region.now r in
    let First = λ (r : RegionState). HoldsFirst named face_of heights c.args.bound places (i + 1) r in
    elim c.if-get-bound.branch [
      | then-get-bound+in_ok-mark_face w ↦
          let marks = w.in_ok-mark_face.ensures in
          record {
            of_rows = subst OfRows (sym w.region-is) marks.of_rows;
            more = subst More (sym w.region-is) (more_on invariant.more marks.more);
            first = subst First (sym w.region-is)
                (holds_next named face_of heights c.args.bound places i marks.more invariant.first (λ low k l e. marks.round k l (e ∙ at)));
          }
      | else-get-bound w ↦ record {
        of_rows = subst OfRows (sym w.region-is) invariant.of_rows;
        more = subst More (sym w.region-is) invariant.more;
        first = subst First (sym w.region-is) (holds_next named face_of heights c.args.bound places i (no_more before) invariant.first
            (λ low.
            let low = subst (λ (f : ℕ). slice_index heights f < c.args.bound) (at ∙ sym c.face_at.ensures.face) low in
            absurd (omega (arith, low, c.get.ensures, w.if-get-bound.false))));
      }
    ]

pub returns : goal.returns
returns g c =
    let graph = c.args.graph.now in
    let named = g.W.FaceGraph.named graph in
    let has = g.met.W.FaceGraph.has_names graph in
    let face = g.W.FaceGraph.face_of graph in
    let has_faces = g.met.W.FaceGraph.has_faces graph in
    let heights = c.args.labels.now.heights in
    let names = c.args.labels.now.names.items in
    let places = map face names in
    let labelled = c.requires.labelled in
    let whole : c.loop-i.i ≡ length places =
    omega (arith, length-map names face, ap (λ (ks : List ℕ). length ks) c.as_slice-names.ensures.value, c.loop-i-test.false, c.loop-i.auto.i-end) in
    record {
      of_rows = c.loop-i.invariant.of_rows;
      more = c.loop-i.invariant.more;
      below = holds_below has has_faces heights c.args.bound places c.loop-i.region labelled.one_each (omega (arith, c.ranges.bound.fits))
          (λ f within some.
          let (k, listed, is) = labelled.inside f (omega (arith, within, labelled.one_each)) some in
          subst (λ (f : ℕ). has_id places f ≡ true) is (listed_face face names k listed))
          (subst (λ n. HoldsFirst named face heights c.args.bound places n c.loop-i.region) whole c.loop-i.invariant.first);
    }
