use Rattle.std.proofs.Common.{◌≡◌, ◌∷◌, ◌++◌, [], Bool, List, IfSome, if◌then◌else◌, ap, sym, subst, ◌∙◌}
use Rattle.std.specs.Prelude.{Option}
use Rattle.std.specs.Arc.{arc_value}
use Rattle.topo_core.specs.declared.calls.Entry.{Entry}
use Rattle.topo_rows.specs.Shown.{Shown}
use Rattle.topo_versions.specs.Names.{prices_named}
use Rattle.topo_versions.specs.Versions.{AreLegal, IsVersionFrom}
use Rattle.topo_service.proofs.locked_state.show.Goals as goal

pub add-requires-clause-follows : goal.add-requires-clause-follows
add-requires-clause-follows g c =
    let price = prices_named g.F.PriceFn.may_return g.K.ServiceBrand.closure in
    let start = g.K.ServiceBrand.start in
    let before = c.args.prefix.now in
    let next = c.args.next.now in
    let version : IsVersionFrom price start (before ++ next.entry ∷ []) (arc_value c.in-Some.picture.now) =
    subst (λ (o : Option Shown). IfSome o (λ (p : Shown). IsVersionFrom price start (before ++ next.entry ∷ []) p)) (sym c.in-Some.ensures.picture)
    c.requires.follows in
    subst (λ (e : Entry). AreLegal price start (before ++ e ∷ [])) (sym c.entry.ensures.entry) ((arc_value c.in-Some.picture.now).rows, version.replayed)

pub publish-requires : goal.publish-requires
publish-requires g c =
    let price = prices_named g.F.PriceFn.may_return g.K.ServiceBrand.closure in
    let start = g.K.ServiceBrand.start in
    let before = c.args.prefix.now in
    let next = c.args.next.now in
    let version : IsVersionFrom price start (before ++ next.entry ∷ []) (arc_value c.in-Some.picture.now) =
    subst (λ (o : Option Shown). IfSome o (λ (p : Shown). IsVersionFrom price start (before ++ next.entry ∷ []) p)) (sym c.in-Some.ensures.picture)
    c.requires.follows in
    let added : c.add.new.self ≡ before ++ next.entry ∷ [] = c.if-not-add.ensures ∙ ap (λ (e : Entry). before ++ e ∷ []) c.entry.ensures.entry in
    let shared = subst (λ (p : Shown). IsVersionFrom price start (before ++ next.entry ∷ []) p) (sym c.in_ok-share.ensures) version in
    record { follows = subst (λ (es : List Entry). IsVersionFrom price start es (arc_value c.in_ok-share.share)) (sym added) shared }

pub returns-clause-prefix : goal.returns-clause-prefix
returns-clause-prefix g c =
    let before = c.args.prefix.now in
    let entry = c.args.next.now.entry in
    c.if-not-add.ensures ∙ ap (λ (e : Entry). before ++ e ∷ []) c.entry.ensures.entry
    ∙ ap (λ (b : Bool). if b then before ++ entry ∷ [] else before) c.in-Some.ensures.accepted
