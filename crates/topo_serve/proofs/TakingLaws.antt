-- Laws of what is taken of a reader.
use Rattle.std.proofs.Common.{◌≡◌, ℕ, List, [], ◌++◌, Option, take, ◌≤◌, ◌+◌, length, length-append, arith, true, false, sym, ap, subst, ◌∙◌, append_assoc, append-nil}
use Rattle.std.specs.Io.KnownBytes.{Consumes, IsAtEnd, Keeps}
use Rattle.std.proofs.lemmas.List.{take_all}
use Rattle.std.proofs.KnownBytes.{Consumes-kept, Consumes-nil, Consumes-trans}
use Rattle.topo_serve.specs.Lines.{IsPlain}
use Rattle.topo_serve.specs.declared.ahead.Part.{Part}
use Rattle.topo_serve.specs.declared.ahead.Part.TheVariants.{End, Feed, More}
use Rattle.topo_serve.specs.Taking.{Consumed, EndsAhead, EndsBy, EndsFirst, PartsAhead, ReadsNoFeed, Takes, TakesFirst, TakesLine, TakesPart, feed_of}
use Rattle.topo_serve.proofs.LineLaws.{plain_append, take_more}

pub consumed_trans : (a b c : Option (List ℕ)) → Consumed a b → Consumed b c → Consumed a c
consumed_trans a b c p q = record { read = p.read ++ q.read; consumed = Consumes-trans a b c p.read q.read p.consumed q.consumed }

pub takes_consumed : (a b : Option (List ℕ)) (old new taken : List ℕ) → Takes a b old new taken → Consumed a b
takes_consumed a b old new taken t = record { read = t.read; consumed = t.consumed }

pub takes_none : (a : Option (List ℕ)) (ahead : List ℕ) → Takes a a ahead ahead []
takes_none a ahead = record { read = []; consumed = Consumes-nil a; parted = append-nil ahead }

-- no more is read than is taken and ahead
pub read_within : (a b : Option (List ℕ)) (old new taken : List ℕ) (n : ℕ) (t : Takes a b old new taken) → length (taken ++ new) ≤ n → length t.read ≤ n
read_within a b old new taken n t few = omega (arith, few, ap length t.parted, length-append old t.read)

pub takes_trans : (a b c : Option (List ℕ)) (old mid new x y : List ℕ) → Takes a b old mid x → Takes b c mid new y → Takes a c old new (x ++ y)
takes_trans a b c old mid new x y p q = record {
  read = p.read ++ q.read;
  consumed = Consumes-trans a b c p.read q.read p.consumed q.consumed;
  parted =
      sym (append_assoc old p.read q.read) ∙ ap (λ (t : List ℕ). t ++ q.read) p.parted ∙ append_assoc x mid q.read ∙ ap (λ (t : List ℕ). x ++ t) q.parted
      ∙ sym (append_assoc x y new);
}

-- ---- What has no line feed

-- all that was read was taken, where nothing was ahead before and nothing is ahead now
pub no_feed : (a b c : Option (List ℕ)) (old ahead taken : List ℕ) → Takes a b old ahead taken → old ≡ [] → ahead ≡ [] → IsPlain taken → Keeps b c
    → ReadsNoFeed a c
no_feed a b c old ahead taken t none empty plain kept = record {
  read = t.read;
  consumed = Consumes-kept a b c t.read t.consumed kept;
  plain = subst IsPlain (sym (ap (λ (o : List ℕ). o ++ t.read) (sym none) ∙ t.parted ∙ ap (λ (o : List ℕ). taken ++ o) empty ∙ append-nil taken)) plain;
}

-- ---- The last part of a line

pub part_over : {most : ℕ} {a b : Option (List ℕ)} {old new line : List ℕ} → length line ≤ most → old ≡ [] → Consumes a b new → IsAtEnd b → new ≡ []
    → TakesPart most a b old new line line End
part_over {most} {new} {line} within none consumed over empty = record {
  more = [];
  plain = tt;
  takes = record { read = new; consumed = consumed; parted = ap (λ (t : List ℕ). t ++ new) none };
  kept = sym (ap (take most) (append-nil line) ∙ take_all most line within);
  ended = (over, empty);
  few = omega (arith, ap length empty);
}

ends_by : (part : Part) (left : Option (List ℕ)) (ahead : List ℕ) → EndsAhead part ahead → EndsBy part left ahead
ends_by Feed left ahead is = tt
ends_by More left ahead is = is
ends_by End left ahead is = absurd is

-- a part of what is ahead, where nothing is read
pub part_ahead : {most : ℕ} {left : Option (List ℕ)} {old new line after : List ℕ} {part : Part} → PartsAhead most old new line after part
    → TakesPart most left left old new line after part
part_ahead {left} {old} {new} {part} p = record {
  more = p.more;
  plain = p.plain;
  takes = record { read = []; consumed = Consumes-nil left; parted = append-nil old ∙ p.parted };
  kept = p.kept;
  ended = ends_by part left new p.ended;
  few = p.few;
}

-- ---- Parts of a line

-- a part behind what was taken of the line so far
pub record GoesOn (most : ℕ) (old_left left : Option (List ℕ)) (old_ahead ahead line : List ℕ) (so_far : List ℕ) : Type 0 where
  pub plain : IsPlain so_far
  pub takes : Takes old_left left old_ahead ahead so_far
  pub kept : line ≡ take most so_far

module _ (most : ℕ) (a b c : Option (List ℕ)) (old mid new line after so_far : List ℕ) (is : GoesOn most a b old mid line so_far) (part : Part)
    (p : TakesPart most b c mid new line after part) where
  all_plain : IsPlain (so_far ++ p.more)
  all_plain = plain_append so_far p.more is.plain p.plain

  all_kept : after ≡ take most (so_far ++ p.more)
  all_kept = p.kept ∙ ap (λ (t : List ℕ). take most (t ++ p.more)) is.kept ∙ take_more most so_far p.more

  all_taken : Takes a c old new ((so_far ++ p.more) ++ feed_of part)
  all_taken = subst (Takes a c old new) (sym (append_assoc so_far p.more (feed_of part)))
      (takes_trans a b c old mid new so_far (p.more ++ feed_of part) is.takes p.takes)

  pub line_fed : part ≡ Feed → TakesLine most a c old new after true
  line_fed fed = record {
    line = so_far ++ p.more;
    plain = all_plain;
    takes = subst (λ (q : Part). Takes a c old new ((so_far ++ p.more) ++ feed_of q)) fed all_taken;
    is_kept = all_kept;
    over = tt;
  }

  pub line_over : part ≡ End → TakesLine most a c old new after false
  line_over ended = record {
    line = so_far ++ p.more;
    plain = all_plain;
    takes = subst (λ (q : Part). Takes a c old new ((so_far ++ p.more) ++ feed_of q)) ended all_taken;
    is_kept = all_kept;
    over = subst (λ (q : Part). EndsBy q c new) ended p.ended;
  }

  pub line_on : part ≡ More → GoesOn most a c old new after (so_far ++ p.more)
  line_on more = record {
    plain = all_plain;
    takes = subst (Takes a c old new) (append-nil (so_far ++ p.more))
        (subst (λ (q : Part). Takes a c old new ((so_far ++ p.more) ++ feed_of q)) more all_taken);
    kept = all_kept;
  }

  all_few : length so_far ≤ most → length (((so_far ++ p.more) ++ feed_of part) ++ new) ≤ most + 8192
  all_few short = omega (
    arith,
    short,
    p.few,
    length-append ((so_far ++ p.more) ++ feed_of part) new,
    length-append (so_far ++ p.more) (feed_of part),
    length-append so_far p.more,
    length-append (p.more ++ feed_of part) new,
    length-append p.more (feed_of part),
  )

  first_ends : (q : Part) → part ≡ q → length so_far ≤ most → EndsFirst most q after c new → TakesFirst most a c old new after q
  first_ends q is short ends =
      let takes = subst (λ (q : Part). Takes a c old new ((so_far ++ p.more) ++ feed_of q)) is all_taken in
      let few = subst (λ (q : Part). length (((so_far ++ p.more) ++ feed_of q) ++ new) ≤ most + 8192) is (all_few short) in
      record {
        line = so_far ++ p.more;
        plain = all_plain;
        takes = takes;
        is_kept = all_kept;
        ends = ends;
        few = read_within a c old new ((so_far ++ p.more) ++ feed_of q) (most + 8192) takes few;
      }

  pub first_fed : part ≡ Feed → length so_far ≤ most → TakesFirst most a c old new after Feed
  first_fed is short = first_ends Feed is short tt

  pub first_long : part ≡ More → length so_far ≤ most → length after ≡ most → TakesFirst most a c old new after More
  first_long is short whole = first_ends More is short whole

  pub first_over : part ≡ End → length so_far ≤ most → TakesFirst most a c old new after End
  first_over is short = first_ends End is short (subst (λ (q : Part). EndsBy q c new) is p.ended)
