use Rattle.std.proofs.Common.{◌≡◌, length, Some, None, sym, ap, ◌∙◌, subst, rules, arith}
use Rattle.json.specs.Json.{read_key}
use Rattle.topo_script.specs.Slots.{MembersTo}
use Rattle.topo_script.proofs.Objects.{fills_put, members_done, one_member, value_shorter}
use Rattle.topo_script.proofs.slots.read_members.Goals as goal

pub members-smaller : goal.members-smaller
members-smaller g c =
    let kept : c.take_end_object.new.self ≡ c.members.reader = search rules in
    let f = c.in_ok-read.ensures c.members.invariant.0 c.members.invariant.1 in
    omega (arith, value_shorter f.value, ap length f.named, ap length kept)

pub members-preserved : goal.members-preserved
members-preserved g c =
    let kept : c.take_end_object.new.self ≡ c.members.reader = search rules in
    let before = c.members.invariant in
    let f = c.in_ok-read.ensures before.0 before.1 in (
      f.values,
      f.held,
      λ ms rest more. before.2 ms rest (one_member f.behind (sym kept ∙ f.named) f.value
          (subst (λ old. MembersTo g.S.Slots.nesting c.read.new.reader old ms rest)
          (sym (fills_put f.name f.spelled c.args.keys.now before.0 f.values c.requires f.fills)) more)),
    )

pub returns : goal.returns
returns g c =
    let closed : read_key c.members.reader ≡ Some (None, c.take_end_object.new.self) = search rules in
    let all = c.members.invariant in
    record { values = all.0; held = all.1; members = all.2 _ _ (members_done closed) }
