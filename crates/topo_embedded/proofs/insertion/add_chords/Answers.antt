use Rattle.std.proofs.Common.{◌≡◌, ◌<◌, ◌+◌, ◌-◌, List, ap, arith, length, subst, sym, true, ℕ, ◌∙◌}
use Rattle.topo_core.specs.Edits.{IsChord}
use Rattle.topo_core.specs.Rotations.{twin}
use Rattle.topo_map.specs.Rotation.{half_limit, is_live, turn}
use Rattle.topo_embedded.specs.declared.padding.Crossed.{Crossed}
use Rattle.topo_embedded.specs.Crossing.{AreChordsAdded, AreChordsAddedFrom}
use Rattle.topo_embedded.proofs.guided.Going.{goes_further, goes_nowhere}
use Rattle.topo_embedded.proofs.inserting.AddedChords.{chords_last, chords_more, chords_none}
use Rattle.topo_embedded.proofs.insertion.add_chords.Goals as goal

pub loop-n-init : goal.loop-n-init
loop-n-init c = record {
  added = chords_none c.args.segments.now c.args.crossed.now c.args.new.end c.args.new.edge c.args.line.now c.laws.ensures c.requires.end
      c.requires.room c.requires.line;
  bounds = goes_nowhere c.args.segments.now c.args.bounds.now;
}

pub chord-requires-clause-live : goal.chord-requires-clause-live
chord-requires-clause-live c =
    let n : ℕ = c.loop-n.n - 1 in
    let cross : Crossed = c.index-crossed-n.result in
    let within = c.loop-n.invariant.added.within in
    let less : n < length c.args.crossed.now = omega (arith, within) in
    let alive : is_live c.args.segments.now (twin cross.near) ≡ true =
    subst (λ (b : Crossed). is_live c.args.segments.now (twin b.near) ≡ true) (sym c.index-crossed-n.is) (c.requires.alive n cross less).0 in
    ap (is_live c.loop-n.segments) c.twin.ensures ∙ c.loop-n.invariant.added.stays (twin cross.near) alive

pub loop-n-preserved : goal.loop-n-preserved
loop-n-preserved c =
    let n : ℕ = c.loop-n.n - 1 in
    let cross : Crossed = c.index-crossed-n.result in
    let more : c.loop-n.n ≡ n + 1 = omega arith in
    let within = c.loop-n.invariant.added.within in
    let less : n < length c.args.crossed.now = omega (arith, within) in
    let alive : is_live c.args.segments.now (twin cross.near) ≡ true =
    subst (λ (b : Crossed). is_live c.args.segments.now (twin b.near) ≡ true) (sym c.index-crossed-n.is) (c.requires.alive n cross less).0 in
    let beyond : is_live c.args.segments.now cross.beyond ≡ true =
    subst (λ (b : Crossed). is_live c.args.segments.now b.beyond ≡ true) (sym c.index-crossed-n.is) (c.requires.alive n cross less).1 in
    record {
      added =
          subst (λ (line : List ℕ). AreChordsAddedFrom c.args.segments.now c.chord.new.segments c.args.crossed.now n cross.beyond c.args.new.end c.args.new.edge line)
          (sym c.set.ensures)
          (chords_more c.args.segments.now c.loop-n.segments c.chord.new.segments c.args.crossed.now c.args.new.end c.args.new.edge c.loop-n.line c.chord.result n
          cross less c.index-crossed-n.is alive beyond
          (subst (λ (k : ℕ). AreChordsAddedFrom c.args.segments.now c.loop-n.segments c.args.crossed.now k c.loop-n.to c.args.new.end c.args.new.edge c.loop-n.line)
          more c.loop-n.invariant.added)
          (subst (λ (h : ℕ). IsChord (turn c.loop-n.segments) (turn c.chord.new.segments) half_limit h c.loop-n.to c.chord.result)
          c.twin.ensures c.chord.ensures.edit)
          c.chord.ensures.grows c.chord.ensures.label);
      bounds = goes_further c.loop-n.invariant.bounds c.chord.ensures.bounds;
    }

pub returns-clause-added : goal.returns-clause-added
returns-clause-added c =
    subst (λ (line : List ℕ). AreChordsAdded c.args.segments.now c.chord-2.new.segments c.args.crossed.now c.args.new.start c.args.new.end c.args.new.edge line)
    (sym c.set-2.ensures)
    (chords_last c.args.segments.now c.loop-n.segments c.chord-2.new.segments c.args.crossed.now c.args.new.end
    c.args.new.edge c.loop-n.line c.chord-2.result c.loop-n.n
    c.loop-n.to c.args.new.start (omega arith) c.requires.start c.loop-n.invariant.added c.chord-2.ensures.edit c.chord-2.ensures.grows c.chord-2.ensures.label)

pub returns-clause-bounds : goal.returns-clause-bounds
returns-clause-bounds c = goes_further c.loop-n.invariant.bounds c.chord-2.ensures.bounds

pub chord-requires-2-clause-live : goal.chord-requires-2-clause-live
chord-requires-2-clause-live c = c.loop-n.invariant.added.stays c.args.new.start c.requires.start
