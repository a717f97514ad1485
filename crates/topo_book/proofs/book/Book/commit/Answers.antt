use Rattle.std.proofs.Common.{ap, arith, sym, subst, ◌∙◌, ◌∷◌, ◌++◌, [], length, Option}
use Rattle.std.specs.Prelude.{nat_lt, option_map}
use Rattle.std.specs.Arc.{arc_value}
use Rattle.topo_rows.specs.Shown.{Shown}
use Rattle.topo_price.specs.Prices.{prices_of}
use Rattle.topo_book.specs.declared.replicas.TheConstants.{MAX_REPLICAS}
use Rattle.topo_book.specs.Books.{BookState, CanFollow, IsBook, IsReplica, picture_after}
use Rattle.topo_book.proofs.Histories.{book_follows}
use Rattle.topo_book.proofs.ReplicaLaws.{before_entry, book_kept, book_on}
use Rattle.topo_book.proofs.book.Book.commit.Goals as goal

pub invariant_of-self : goal.invariant_of-self
invariant_of-self g c =
    let f = c.self.inside in
    let n = c.args.next in
    let price = prices_of (g.F.PriceFn.may_return (arc_value f.tariff)) in
    let follows = subst (λ (b : BookState _). CanFollow (prices_of (g.F.PriceFn.may_return b.tariff)) b n) (sym c.self.view_is) c.requires in
    let after = book_follows price _ n c.self.invariant.book c.into_parts-entry.ensures.next follows in
    let same = ap (λ (o : Option Shown). picture_after o (arc_value f.picture))
    (sym c.into_parts-entry.ensures.picture ∙ ap (option_map arc_value) c.in-Some.is) in
    let there = subst (λ (p : Shown). IsBook price f.start (f.history.items ++ n.entry ∷ []) p) same after in
    let before = subst (λ k. IsReplica price f.start (f.history.items ++ n.entry ∷ []) k (arc_value f.picture)) (omega (arith, f.history.ok))
    (before_entry c.self.invariant n.entry) in
    let book = book_on c.self.invariant n.entry (arc_value c.in-Some.picture) there in
    let kept = book_kept book (nat_lt (length f.replicas) MAX_REPLICAS) (record { picture = f.picture; entries = c.len-entries.result }) before in
    rw (c.push_reserved.ensures.items, c.into_parts-entry.ensures.entry, c.replace-before.ensures.after, c.keep.ensures, c.replace-before.ensures.value) kept

pub invariant_of-self-in_default : goal.invariant_of-self-in_default
invariant_of-self-in_default g c =
    let f = c.self.inside in
    let n = c.args.next in
    let price = prices_of (g.F.PriceFn.may_return (arc_value f.tariff)) in
    let follows = subst (λ (b : BookState _). CanFollow (prices_of (g.F.PriceFn.may_return b.tariff)) b n) (sym c.self.view_is) c.requires in
    let after = book_follows price _ n c.self.invariant.book c.into_parts-entry.ensures.next follows in
    let same = ap (λ (o : Option Shown). picture_after o (arc_value f.picture))
    (sym c.into_parts-entry.ensures.picture ∙ ap (option_map arc_value) c.in_default.is) in
    let there = subst (λ (p : Shown). IsBook price f.start (f.history.items ++ n.entry ∷ []) p) same after in
    rw (c.push_reserved.ensures.items, c.into_parts-entry.ensures.entry) (book_on c.self.invariant n.entry (arc_value f.picture) there)
