use Rattle.std.proofs.Common.{◌≡◌, ◌-◌, ◌∙◌, ap, arith, length, ℕ}
use Rattle.std.specs.Prelude.{slice_index_or}
use Rattle.topo_embedded.proofs.deleting.OpenedPath.{as_long, opened_none, read_behind_live, read_known, read_last}
use Rattle.topo_embedded.proofs.deleting.OpenedPath.{read_live, read_more, read_twin_live, some_segments}
use Rattle.topo_table.specs.Places.{values_in}
use Rattle.topo_embedded.proofs.deletion.open_path.Goals as goal

pub overflow_sub-last : goal.overflow_sub-last
overflow_sub-last g c = omega (arith, c.len-last.ensures.some)

pub loop-i-init : goal.loop-i-init
loop-i-init g c = λ e o. opened_none g.rows (values_in c.args.paths.now) e c.args.path.now c.args.segments.now o

pub at-half-requires : goal.at-half-requires
at-half-requires g c = omega (
  arith,
  c.loop-i-test.true,
  c.len-last.ensures.len,
  as_long g.rows (values_in c.args.paths.now) c.args.path.now c.args.segments.now c.requires.1 c.loop-i.i c.loop-i.segments c.loop-i.path c.loop-i.invariant,
)

pub at-requires : goal.at-requires
at-requires g c = omega (
  arith,
  c.loop-i-test.true,
  c.len-last.ensures.len,
  as_long g.rows (values_in c.args.paths.now) c.args.path.now c.args.segments.now c.requires.1 c.loop-i.i c.loop-i.segments c.loop-i.path c.loop-i.invariant,
)

pub midpoint-mid-requires : goal.midpoint-mid-requires
midpoint-mid-requires g c = (
  c.requires.0,
  (
    read_twin_live g.rows (values_in c.args.paths.now) c.args.path.now c.args.segments.now c.requires.1 c.loop-i.i c.loop-i.segments c.loop-i.path
        c.loop-i.invariant c.at-half.result (omega (arith, c.loop-i-test.true, c.len-last.ensures.len)) c.at-half.ensures,
    (
      read_behind_live g.rows (values_in c.args.paths.now) c.args.path.now c.args.segments.now c.requires.1 c.loop-i.i c.loop-i.segments c.loop-i.path
          c.loop-i.invariant c.at-half.result (omega (arith, c.loop-i-test.true, c.len-last.ensures.len)) c.at-half.ensures c.at.result c.at.ensures,
      read_known g.rows (values_in c.args.paths.now) c.args.path.now c.args.segments.now c.requires.1 c.loop-i.i c.loop-i.segments c.loop-i.path
          c.loop-i.invariant c.at-half.result (omega (arith, c.loop-i-test.true, c.len-last.ensures.len)) c.at-half.ensures,
    ),
  ),
)

pub set-requires : goal.set-requires
set-requires g c = omega (
  arith,
  c.loop-i-test.true,
  c.len-last.ensures.len,
  as_long g.rows (values_in c.args.paths.now) c.args.path.now c.args.segments.now c.requires.1 c.loop-i.i c.loop-i.segments c.loop-i.path c.loop-i.invariant,
)

pub unchord-requires : goal.unchord-requires
unchord-requires g c =
    read_live g.rows (values_in c.args.paths.now) c.args.path.now c.args.segments.now c.requires.1 c.loop-i.i c.loop-i.segments c.loop-i.path c.loop-i.invariant
    c.at-half.result (omega (arith, c.loop-i-test.true, c.len-last.ensures.len)) c.at-half.ensures

pub loop-i-preserved : goal.loop-i-preserved
loop-i-preserved g c =
    read_more g.rows (values_in c.args.paths.now) c.args.path.now c.args.segments.now c.requires.1 c.loop-i.i c.loop-i.segments c.loop-i.path c.loop-i.invariant
    c.at-half.result (omega (arith, c.loop-i-test.true, c.len-last.ensures.len))
    c.at-half.ensures c.at.ensures c.midpoint-mid.ensures
    c.unchord.new.self c.unchord.ensures.edit c.unchord.ensures.shrinks c.unchord.ensures.labels c.set.ensures

pub at-requires-2 : goal.at-requires-2
at-requires-2 g c = omega (
  arith,
  c.len-last.ensures.len,
  c.len-last.ensures.some,
  as_long g.rows (values_in c.args.paths.now) c.args.path.now c.args.segments.now c.requires.1 c.loop-i.i c.loop-i.segments c.loop-i.path c.loop-i.invariant,
)

pub unchord-requires-2 : goal.unchord-requires-2
unchord-requires-2 g c =
    let end : c.loop-i.i ≡ length c.args.path.now - 1 = omega (arith, c.loop-i-test.false, c.loop-i.auto.i-end, c.len-last.ensures.len) in
    read_live g.rows (values_in c.args.paths.now) c.args.path.now c.args.segments.now c.requires.1 c.loop-i.i c.loop-i.segments c.loop-i.path c.loop-i.invariant
    c.at-2.result (omega (arith, end, some_segments g.rows (values_in c.args.paths.now) c.args.path.now c.args.segments.now c.requires.1))
    (c.at-2.ensures ∙ ap (λ (n : ℕ). slice_index_or c.loop-i.path n 0)
    (let last : c.len-last.result - 1 ≡ c.loop-i.i = omega (arith, end, c.len-last.ensures.len) in last))

pub returns : goal.returns
returns g c =
    let end : c.loop-i.i ≡ length c.args.path.now - 1 = omega (arith, c.loop-i-test.false, c.loop-i.auto.i-end, c.len-last.ensures.len) in
    read_last g.rows (values_in c.args.paths.now) c.args.path.now c.args.segments.now c.requires.1 c.loop-i.i c.loop-i.segments c.loop-i.path c.loop-i.invariant
    end c.at-2.result (c.at-2.ensures
    ∙ ap (λ (n : ℕ). slice_index_or c.loop-i.path n 0) (let last : c.len-last.result - 1 ≡ c.loop-i.i = omega (arith, end, c.len-last.ensures.len) in last))
    c.unchord-2.new.self c.unchord-2.ensures.edit c.unchord-2.ensures.shrinks c.unchord-2.ensures.labels
