-- Laws of sessions.
use Rattle.std.proofs.Common.{◌≡◌, ◌==◌, ℕ, Bool, true, false, List, [], ◌∷◌, ◌++◌, Option, None, Some, take}
use Rattle.std.proofs.Common.{length, suc, inl, inr, refl, sym, ap, subst, ◌∙◌, append_assoc, append-nil}
use Rattle.std.specs.Io.KnownBytes.{Appends, Consumes, Keeps}
use Rattle.std.proofs.KnownBytes.{Appends-nil, Appends-trans, Consumes-trans}
use Rattle.std.proofs.lemmas.Bool.{false≢true}
use Rattle.topo_script.specs.declared.lines.Line.{Line}
use Rattle.topo_io.specs.declared.fault.RunFault.{RunFault}
use Rattle.topo_io.specs.declared.fault.RunFault.TheVariants.{Memory, ReadFault, WriteFault}
use Rattle.topo_session.specs.Answers.{AnswersLine}
use Rattle.topo_session.specs.Standings.{Standing}
use Rattle.topo_serve.specs.Lines.{IsPlain, closed, lines_of}
use Rattle.topo_serve.specs.Sessions.{AreAnswered, AreRead}
use Rattle.topo_serve.specs.Taking.{IsOver, OverUnless, Takes, TakesLine, feed_if}
use Rattle.topo_serve.specs.Turns.{AnswerFailsBy, HasServed, IsAnsweredBy, IsCutBy, IsTurn, LineFailsBy, LinesFailBy, OfLine}
use Rattle.topo_serve.specs.Turns.{ServesAll, ServesPart, ServesSome, Stays, Stops, Streams, TurnFailsBy}
use Rattle.topo_serve.proofs.AnswerLaws.{answered_snoc}
use Rattle.topo_serve.proofs.LineLaws.{closed_snoc, line_alone, lines_closed, plain_snoc}
use Rattle.topo_serve.proofs.KeptLines.{line_kept}
use Rattle.topo_serve.proofs.TakingLaws.{takes_none, takes_trans}

-- ---- Known bytes

pub keeps_appends : (a b c : Option (List ℕ)) (bs : List ℕ) → Appends a b bs → Keeps b c → Appends a c bs
keeps_appends None b c bs p q = tt
keeps_appends (Some x) None c bs p q = absurd p
keeps_appends (Some x) (Some y) None bs p q = absurd q
keeps_appends (Some x) (Some y) (Some z) bs p q = q ∙ p

-- ---- Turns

pub served_none : (at : Streams) (from : Option Standing) → HasServed at at from from
served_none at from = record {
  lines = [];
  plain = tt;
  takes = takes_none at.left at.ahead;
  texts = [];
  answered = refl;
  written = Appends-nil at.held;
}

module _ (old mid new : Streams) (from now : Option Standing) (is : HasServed old mid from now) where
  -- a line is taken behind the others
  taken_more : (taken : List ℕ) → Takes mid.left new.left mid.ahead new.ahead taken → Takes old.left new.left old.ahead new.ahead (closed is.lines ++ taken)
  taken_more taken takes = takes_trans old.left mid.left new.left old.ahead mid.ahead new.ahead (closed is.lines) taken is.takes takes

  pub turn_on : (to : Option Standing) → IsTurn mid new now to true → HasServed old new from to
  turn_on to turn = record {
    lines = is.lines ++ turn.line ∷ [];
    plain = plain_snoc is.lines turn.line is.plain turn.plain;
    takes = subst (Takes old.left new.left old.ahead new.ahead) (sym (closed_snoc is.lines turn.line)) (taken_more (turn.line ++ 10 ∷ []) turn.takes);
    texts = is.texts ++ turn.told.text ∷ [];
    answered = answered_snoc turn.line turn.told.text is.lines is.texts from now to is.answered turn.told.answers;
    written = subst (Appends old.held new.held) (sym (closed_snoc is.texts turn.told.text))
        (Appends-trans old.held mid.held new.held _ _ is.written turn.told.written);
  }

  -- all lines, where what is taken is all
  all_lines : (last : List ℕ) (t : Takes old.left new.left old.ahead new.ahead (closed is.lines ++ last)) → new.ahead ≡ []
      → lines_of (old.ahead ++ t.read) ≡ is.lines ++ lines_of last
  all_lines last t empty =
      ap lines_of (t.parted ∙ ap (λ (e : List ℕ). (closed is.lines ++ last) ++ e) empty ∙ append-nil (closed is.lines ++ last))
      ∙ lines_closed is.lines last is.plain

  -- the turn at the end of the input
  ends_with : (to : Option Standing) (line : List ℕ) → IsPlain line → Takes mid.left new.left mid.ahead new.ahead (line ++ []) → IsOver new.left new.ahead
      → OfLine false line (IsAnsweredBy line mid.held new.held now to) (Stays mid.held new.held now to) → ServesAll old new from
  ends_with to [] plain takes over told =
      let t = taken_more [] takes in
      record {
        read = t.read;
        consumed = t.consumed;
        whole = over.0;
        texts = is.texts;
        to = now;
        answered = subst (λ (ls : List (List ℕ)). AreAnswered ls is.texts from now)
            (sym (all_lines [] t over.1 ∙ append-nil is.lines)) is.answered;
        written = keeps_appends old.held mid.held new.held (closed is.texts) is.written told.1;
      }
  ends_with to (b ∷ line) plain takes over told =
      let t = taken_more ((b ∷ line) ++ []) takes in
      let alone : lines_of ((b ∷ line) ++ []) ≡ (b ∷ line) ∷ [] = ap lines_of (append-nil (b ∷ line)) ∙ line_alone b line plain in
      let all = all_lines ((b ∷ line) ++ []) t over.1 ∙ ap (λ (ls : List (List ℕ)). is.lines ++ ls) alone in
      record {
        read = t.read;
        consumed = t.consumed;
        whole = over.0;
        texts = is.texts ++ told.text ∷ [];
        to = to;
        answered =
            subst (λ (ls : List (List ℕ)). AreAnswered ls (is.texts ++ told.text ∷ []) from to) (sym all)
            (answered_snoc (b ∷ line) told.text is.lines is.texts from now to is.answered told.answers);
        written = subst (Appends old.held new.held) (sym (closed_snoc is.texts told.text))
            (Appends-trans old.held mid.held new.held _ _ is.written told.written);
      }

  pub turn_last : (to : Option Standing) → IsTurn mid new now to false → ServesAll old new from
  turn_last to turn = ends_with to turn.line turn.plain turn.takes turn.over turn.told

  -- ---- Faults

  -- lines were answered, and then only read
  stops : Stops mid new → ServesSome old new from
  stops stop =
      let read = is.takes.read ++ stop.0.read in
      record {
        read = read;
        consumed = Consumes-trans old.left mid.left new.left is.takes.read stop.0.read is.takes.consumed stop.0.consumed;
        lines = is.lines;
        are_read = inl (record {
          plain = is.plain;
          rest = mid.ahead ++ stop.0.read;
          joined =
              sym (append_assoc old.ahead is.takes.read stop.0.read) ∙ ap (λ (t : List ℕ). t ++ stop.0.read) is.takes.parted
              ∙ append_assoc (closed is.lines) mid.ahead stop.0.read;
        });
        texts = is.texts;
        to = now;
        answered = is.answered;
        written = keeps_appends old.held mid.held new.held (closed is.texts) is.written stop.1;
      }

  -- the last answer is cut, of a line that was read
  cut_off : (line : List ℕ) (read : List ℕ) → Consumes old.left new.left read → AreRead (old.ahead ++ read) new.left (is.lines ++ line ∷ [])
      → IsCutBy line mid.held new.held now → ServesPart old new from
  cut_off line read consumed are_read cut = record {
    read = read;
    consumed = consumed;
    lines = is.lines ++ line ∷ [];
    are_read = are_read;
    texts = is.texts ++ cut.text ∷ [];
    to = cut.new;
    answered = answered_snoc line cut.text is.lines is.texts from now cut.new is.answered cut.answers;
    written = record {
      given = is.texts;
      last = cut.text;
      are_texts = refl;
      part = cut.written.part;
      rest = cut.written.rest;
      split = cut.written.split;
      appended = Appends-trans old.held mid.held new.held _ _ is.written cut.written.appended;
    };
  }

  breaks : (has_feed : Bool) (line : List ℕ) → IsPlain line → Takes mid.left new.left mid.ahead new.ahead (line ++ feed_if has_feed)
      → OverUnless has_feed new.left new.ahead
      → OfLine has_feed line (IsCutBy line mid.held new.held now) ⊥ → ServesPart old new from
  breaks true line plain takes over told =
      let t = taken_more (line ++ 10 ∷ []) takes in
      cut_off line t.read t.consumed
      (inl (record {
        plain = plain_snoc is.lines line is.plain plain;
        rest = new.ahead;
        joined = t.parted ∙ ap (λ (c : List ℕ). c ++ new.ahead) (sym (closed_snoc is.lines line));
      }))
      told
  breaks false [] plain takes over told = absurd told
  breaks false (b ∷ line) plain takes over told =
      let t = taken_more ((b ∷ line) ++ []) takes in
      let alone : lines_of ((b ∷ line) ++ []) ≡ (b ∷ line) ∷ [] = ap lines_of (append-nil (b ∷ line)) ∙ line_alone b line plain in
      let all = all_lines ((b ∷ line) ++ []) t over.1 ∙ ap (λ (ls : List (List ℕ)). is.lines ++ ls) alone in
      cut_off (b ∷ line) t.read t.consumed (inr (over.0, sym all)) told

  pub turn_fails : (fault : RunFault) → TurnFailsBy fault mid new now → LinesFailBy fault old new from
  turn_fails Memory fails = stops fails
  turn_fails ReadFault fails = stops fails
  turn_fails WriteFault fails = breaks fails.has_feed fails.line fails.plain fails.takes fails.over fails.told
  turn_fails _ fails = absurd fails

-- ---- One turn, of what was kept of its line

pub of_fed : (has_feed : Bool) (line : List ℕ) (some none : Type 0) → has_feed ≡ true → some → OfLine has_feed line some none
of_fed true line some none is s = s
of_fed false line some none is s = absurd (false≢true is)

pub of_some : (has_feed : Bool) (line : List ℕ) (some none : Type 0) → (line ≡ [] → ⊥) → some → OfLine has_feed line some none
of_some true line some none not s = s
of_some false [] some none not s = absurd (not refl)
of_some false (b ∷ line) some none not s = s

pub of_none : (has_feed : Bool) (line : List ℕ) (some none : Type 0) → has_feed ≡ false → line ≡ [] → none → OfLine has_feed line some none
of_none has_feed line some none unfed empty n = rw (unfed, empty) n

of_kept : (n : ℕ) (has_feed : Bool) (line kept : List ℕ) (some other none : Type 0) → kept ≡ take (suc n) line → (some → other) → OfLine has_feed kept some none
    → OfLine has_feed line other none
of_kept n true line kept some other none is f told = f told
of_kept n false [] kept some other none is f told = rw is at told
of_kept n false (b ∷ line) kept some other none is f told = f (rw is at told)

module _ (old new : Streams) (from : Option Standing) (has_feed : Bool) (kept : List ℕ)
    (t : TakesLine 268435457 old.left new.left old.ahead new.ahead kept has_feed) where
  answered_kept : (to : Option Standing) → IsAnsweredBy kept old.held new.held from to → IsAnsweredBy t.line old.held new.held from to
  answered_kept to a = record {
    text = a.text;
    answers = subst (λ (l : Line). AnswersLine l a.text from to) (line_kept false t.line kept t.is_kept) a.answers;
    written = a.written;
  }

  cut_kept : IsCutBy kept old.held new.held from → IsCutBy t.line old.held new.held from
  cut_kept a = record {
    text = a.text;
    new = a.new;
    answers = subst (λ (l : Line). AnswersLine l a.text from a.new) (line_kept false t.line kept t.is_kept) a.answers;
    written = a.written;
  }

  pub turn_made : (to : Option Standing) → OfLine has_feed kept (IsAnsweredBy kept old.held new.held from to) (Stays old.held new.held from to)
      → IsTurn old new from to has_feed
  turn_made to told = record {
    line = t.line;
    plain = t.plain;
    takes = t.takes;
    over = t.over;
    told = of_kept 268435456 has_feed t.line kept _ _ _ t.is_kept (answered_kept to) told;
  }

  pub turn_told : (fault : RunFault) → LineFailsBy fault has_feed kept old.held new.held from → TurnFailsBy fault old new from
  turn_told Memory is = (record { read = t.takes.read; consumed = t.takes.consumed }, is)
  turn_told WriteFault is = record {
    has_feed = has_feed;
    line = t.line;
    plain = t.plain;
    takes = t.takes;
    over = t.over;
    told = of_kept 268435456 has_feed t.line kept _ _ _ t.is_kept cut_kept is;
  }
  turn_told _ is = absurd is

pub line_fails : (fault : RunFault) (has_feed : Bool) (line : List ℕ) (old_held new_held : Option (List ℕ))
    (from : Option Standing)
    → ((some : Type 0) → some → OfLine has_feed line some ⊥) → AnswerFailsBy fault line old_held new_held from
    → LineFailsBy fault has_feed line old_held new_held from
line_fails Memory has_feed line oh nh from of is = is
line_fails WriteFault has_feed line oh nh from of is = of _ is
line_fails _ has_feed line oh nh from of is = absurd is

pub not_empty : (line : List ℕ) (test : Bool) → test ≡ (length line == 0) → test ≡ false → line ≡ [] → ⊥
not_empty [] test is unmet none = false≢true (sym unmet ∙ is)
not_empty (b ∷ line) test is unmet none = absurd cc
