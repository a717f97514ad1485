-- The first line of a session, and the session behind it.
use Rattle.std.proofs.Common.{◌≡◌, ℕ, Bool, true, false, List, [], ◌∷◌, ◌++◌, Option, None, Err, take, length, ◌<◌, ◌≤◌}
use Rattle.std.proofs.Common.{inl, inr, refl, sym, ap, subst, ◌∙◌, arith, append_assoc, append-nil, length-append, ltb-true}
use Rattle.std.specs.Io.KnownBytes.{Appends, Keeps}
use Rattle.std.proofs.KnownBytes.{Appends-trans, Consumes-trans}
use Rattle.topo_script.specs.declared.fault.ScriptFault.TheVariants.{NotJson, TooLong}
use Rattle.topo_script.specs.declared.lines.Frame.TheVariants.{Opening}
use Rattle.topo_script.specs.declared.lines.Line.{Line}
use Rattle.topo_script.specs.Sessions.{line_limit, line_of}
use Rattle.topo_io.specs.declared.fault.RunFault.{RunFault}
use Rattle.topo_io.specs.declared.fault.RunFault.TheVariants.{Memory, Script, BadLimits, Price, Load, Graph, NoSeat, Mismatch}
use Rattle.topo_io.specs.declared.fault.RunFault.TheVariants.{WrongReply, WrongPicture, ReadFault, WriteFault}
use Rattle.topo_io.specs.Reading.{IsOfReading}
use Rattle.topo_session.specs.Answers.{AnswersFirst, IsBadOpening}
use Rattle.topo_session.specs.Standings.{Standing}
use Rattle.topo_session.proofs.Interface.{line_legal}
use Rattle.topo_serve.specs.declared.ahead.Part.{Part}
use Rattle.topo_serve.specs.declared.ahead.Part.TheVariants.{More}
use Rattle.topo_serve.specs.Lines.{IsPlain, closed, first_line, lines_of}
use Rattle.topo_serve.specs.Sessions.{AreAnswered, AreRead, IsCutShort, IsFirstRead, IsPartlyServed, IsServed, IsSession, OpensNone, ServeFailsBy}
use Rattle.topo_serve.specs.Taking.{OverUnless, ReadsNoFeed, Takes, TakesFirst, feed_if}
use Rattle.topo_serve.specs.Turns.{Begins, BeginsPart, FirstFailsBy, FirstLineFailsBy, IsBegunBy, IsPartlyBegunBy, LinesFailBy}
use Rattle.topo_serve.specs.Turns.{ServesAll, ServesPart, ServesSome, Streams}
use Rattle.topo_serve.proofs.AnswerLaws.{answered_legal}
use Rattle.topo_serve.proofs.OpeningFaults.{bad_opening}
use Rattle.topo_serve.proofs.KeptLines.{json_none, kept_long, line_kept, value_long, value_none}
use Rattle.topo_serve.proofs.LineLaws.{first_behind, first_of_line, first_of_plain, line_alone, line_then}

-- ---- First lines

-- a first line that is too long
line_long : (bytes : List ℕ) → 268435456 < length bytes → line_of true bytes ≡ record { frame = Opening; asked = Err TooLong }
unfolding line_of line_limit
line_long bytes long = rw (value_long 268435456 bytes long) refl

-- a first line without bytes
line_empty : line_of true [] ≡ record { frame = Opening; asked = Err NotJson }
unfolding line_of line_limit
line_empty = rw (value_none 268435456 [] json_none refl) refl

not_empty_line : (line : Line) (text : List ℕ) (to : Option Standing) → line ≡ record { frame = Opening; asked = Err NotJson }
    → AnswersFirst line text to → ⊥
not_empty_line line text to is first = rw is at (first.opens (ap (λ (l : Line). l.frame) is))

-- ---- A first line that is no opening

module _ (old_left new_left : Option (List ℕ)) (ahead line : List ℕ) (plain : IsPlain line) where
  -- the first line of what was read
  first_read : (has_feed : Bool) (t : Takes old_left new_left [] ahead (line ++ feed_if has_feed)) → OverUnless has_feed new_left ahead
      → first_line t.read ≡ line
  first_read true t over = ap first_line (t.parted ∙ append_assoc line (10 ∷ []) ahead) ∙ first_of_line line ahead plain
  first_read false t over =
      ap first_line (t.parted ∙ ap (λ (e : List ℕ). (line ++ []) ++ e) over.1 ∙ append-nil (line ++ []) ∙ append-nil line) ∙ first_of_plain line plain

  first_whole : (has_feed : Bool) (t : Takes old_left new_left [] ahead (line ++ feed_if has_feed)) → OverUnless has_feed new_left ahead
      → IsFirstRead t.read new_left
  first_whole true t over = inl (record {
    plain = (subst IsPlain (sym (first_read true t over)) plain, tt);
    rest = ahead;
    joined = t.parted ∙ ap (λ (l : List ℕ). (l ++ 10 ∷ []) ++ ahead) (sym (first_read true t over));
  })
  first_whole false t over = inr (inl over.0)

  pub line_none : (fault : RunFault) (has_feed : Bool) (t : Takes old_left new_left [] ahead (line ++ feed_if has_feed)) → length t.read ≤ 268443649
      → OverUnless has_feed new_left ahead → IsBadOpening (line_of true line) fault
      → OpensNone old_left new_left fault
  line_none fault has_feed t few over first = record {
    input = t.read;
    consumed = t.consumed;
    whole = first_whole has_feed t over;
    first = subst (λ (l : List ℕ). IsBadOpening (line_of true l) fault) (sym (first_read has_feed t over)) first;
    few = few;
  }

  pub long_none : (t : Takes old_left new_left [] ahead (line ++ [])) → length t.read ≤ 268443649 → 268435456 < length line
      → OpensNone old_left new_left (Script TooLong)
  long_none t few long =
      let first : first_line t.read ≡ line ++ first_line ahead = ap first_line (t.parted ∙ append_assoc line [] ahead) ∙ first_behind line ahead plain in
      let longer : 268435456 < length (first_line t.read) = omega (arith, ap length first, length-append line (first_line ahead)) in
      let is = line_long (first_line t.read) longer in
      record {
        input = t.read;
        consumed = t.consumed;
        whole = inr (inr longer);
        first = subst (λ (l : Line). IsBadOpening l (Script TooLong)) (sym is) (record { frame = refl; is = refl });
        few = few;
      }

-- as much is read, whatever says that nothing was ahead
read_same : (a b : Option (List ℕ)) (old ahead taken : List ℕ) (n : ℕ) → old ≡ [] → (t : Takes a b old ahead taken) (u : Takes a b [] ahead taken)
    → length t.read ≤ n → length u.read ≤ n
read_same a b old ahead taken n none t u few = omega (arith, few, ap length none, ap length t.parted, ap length u.parted, length-append old t.read)

pub first_so : (old_left new_left : Option (List ℕ)) (old ahead kept : List ℕ) (part q : Part) → part ≡ q
    → TakesFirst 268435457 old_left new_left old ahead kept part
    → TakesFirst 268435457 old_left new_left old ahead kept q
first_so ol nl old ahead kept part q is t = subst (TakesFirst 268435457 ol nl old ahead kept) is t

-- what is told of a first line that is taken so
module _ (old_left new_left old_held new_held : Option (List ℕ)) (old ahead kept : List ℕ) (none : old ≡ []) where
  abbrev from : Streams
  from = record { left = old_left; ahead = old; held = old_held }

  abbrev to : Streams
  to = record { left = new_left; ahead = ahead; held = new_held }

  -- a first line that reaches further than a line may
  pub first_long : (part : Part) → part ≡ More → TakesFirst 268435457 old_left new_left old ahead kept part → OpensNone old_left new_left (Script TooLong)
  first_long part is t =
      let u = subst (λ (q : Part). TakesFirst 268435457 old_left new_left old ahead kept q) is t in
      let takes = subst (λ (o : List ℕ). Takes old_left new_left o ahead (u.line ++ [])) none u.takes in
      long_none old_left new_left ahead u.line u.plain takes (read_same old_left new_left old ahead (u.line ++ []) 268443649 none u.takes takes u.few)
      (kept_long 268435457 268435456 kept u.line u.is_kept u.ends (ltb-true 268435456 268435457 refl))

  module _ (has_feed : Bool) (line : List ℕ) (plain : IsPlain line) (takes : Takes old_left new_left old ahead (line ++ feed_if has_feed))
      (over : OverUnless has_feed new_left ahead)
      (is_kept : kept ≡ take 268435457 line)
      (few : length takes.read ≤ 268443649) where
    taken : Takes old_left new_left [] ahead (line ++ feed_if has_feed)
    taken = subst (λ (o : List ℕ). Takes old_left new_left o ahead (line ++ feed_if has_feed)) none takes

    few_taken : length taken.read ≤ 268443649
    few_taken = read_same old_left new_left old ahead (line ++ feed_if has_feed) 268443649 none takes taken few

    pub begins_so : (session : Option Standing) → IsBegunBy kept old_held new_held session → Begins from to session has_feed
    begins_so session is = record {
      line = line;
      plain = plain;
      takes = taken;
      over = over;
      text = is.text;
      answers = subst (λ (l : Line). AnswersFirst l is.text session) (line_kept true line kept is_kept) is.answers;
      written = is.written;
    }

    begins_part : IsPartlyBegunBy kept old_held new_held → BeginsPart from to
    begins_part is = record {
      has_feed = has_feed;
      line = line;
      plain = plain;
      takes = taken;
      over = over;
      text = is.text;
      to = is.to;
      answers = subst (λ (l : Line). AnswersFirst l is.text is.to) (line_kept true line kept is_kept) is.answers;
      written = is.written;
    }

    bad : (fault : RunFault) → IsBadOpening (line_of true kept) fault × Keeps old_held new_held
        → OpensNone old_left new_left fault × Keeps old_held new_held
    bad fault is = (
      line_none old_left new_left ahead line plain fault has_feed taken few_taken over
          (subst (λ (l : Line). IsBadOpening l fault) (line_kept true line kept is_kept) is.0),
      is.1,
    )

    -- what is told of the answer is told of the first line
    pub first_told : (fault : RunFault) → FirstLineFailsBy fault kept old_held new_held → FirstFailsBy fault from to
    first_told Memory is = is
    first_told WriteFault is = begins_part is
    first_told ReadFault is = absurd (bad_opening kept ReadFault is.0)
    first_told (Script fault) is = bad (Script fault) is
    first_told BadLimits is = bad BadLimits is
    first_told (Price fault) is = bad (Price fault) is
    first_told (Load fault) is = bad (Load fault) is
    first_told (Graph fault) is = bad (Graph fault) is
    first_told NoSeat is = bad NoSeat is
    first_told (Mismatch list i) is = bad (Mismatch list i) is
    first_told (WrongReply i) is = bad (WrongReply i) is
    first_told WrongPicture is = bad WrongPicture is

-- a first line that could not be read
pub reading_fails : (fault : RunFault) (old new : Streams) → IsOfReading fault → (fault ≡ ReadFault → ReadsNoFeed old.left new.left)
    → Keeps old.held new.held → FirstFailsBy fault old new
reading_fails Memory old new of none kept = kept
reading_fails ReadFault old new of none kept = (none refl, kept)
reading_fails _ old new of none kept = absurd of

-- ---- The session behind the first line

module _ (old mid new : Streams) (begun : Option Standing) where
  session_of : (has_feed : Bool) (b : Begins old mid begun has_feed) (others answers : List (List ℕ)) (to : Option Standing)
      → AreAnswered others answers begun to → IsSession (b.line ∷ others) (b.text ∷ answers)
  session_of has_feed b others answers to answered = record {
    first = b.line;
    others = others;
    is_first = refl;
    text = b.text;
    answers = answers;
    are_texts = refl;
    begun = begun;
    begins = b.answers;
    standing = to;
    answered = answered;
    legal = answered_legal others answers begun to answered (line_legal (line_of true b.line) b.text None begun b.answers.answers tt);
  }

  -- what was read behind a first line that has a line feed
  fed_text : (b : Begins old mid begun true) (read : List ℕ) → b.takes.read ++ read ≡ b.line ++ 10 ∷ (mid.ahead ++ read)
  fed_text b read =
      ap (λ (t : List ℕ). t ++ read) (b.takes.parted ∙ append_assoc b.line (10 ∷ []) mid.ahead) ∙ append_assoc b.line (10 ∷ mid.ahead) read

  fed_lines : (b : Begins old mid begun true) (read : List ℕ) → lines_of (b.takes.read ++ read) ≡ b.line ∷ lines_of (mid.ahead ++ read)
  fed_lines b read = ap lines_of (fed_text b read) ∙ line_then b.line (mid.ahead ++ read) b.plain

  -- a first line without a line feed is all that was read
  only_line : (line text : List ℕ) → IsPlain line → AnswersFirst (line_of true line) text begun → lines_of line ≡ line ∷ []
  only_line [] text plain answers = absurd (not_empty_line (line_of true []) text begun line_empty answers)
  only_line (c ∷ line) text plain answers = line_alone c line plain

  only_lines : (b : Begins old mid begun false) → lines_of b.takes.read ≡ b.line ∷ []
  only_lines b =
      ap lines_of (b.takes.parted ∙ ap (λ (e : List ℕ). (b.line ++ []) ++ e) b.over.1 ∙ append-nil (b.line ++ []) ∙ append-nil b.line)
      ∙ only_line b.line b.text b.plain b.answers

  written_first : (text : List ℕ) (texts : List (List ℕ)) → Appends old.held mid.held (text ++ 10 ∷ []) → Appends mid.held new.held (closed texts)
      → Appends old.held new.held (closed (text ∷ texts))
  written_first text texts p q =
      subst (Appends old.held new.held) (append_assoc text (10 ∷ []) (closed texts)) (Appends-trans old.held mid.held new.held _ _ p q)

  pub served : Begins old mid begun true → ServesAll mid new begun → IsServed old.left new.left old.held new.held
  served b is = record {
    input = b.takes.read ++ is.read;
    consumed = Consumes-trans old.left mid.left new.left _ _ b.takes.consumed is.consumed;
    whole = is.whole;
    texts = b.text ∷ is.texts;
    session =
        subst (λ (ls : List (List ℕ)). IsSession ls (b.text ∷ is.texts)) (sym (fed_lines b is.read))
        (session_of true b (lines_of (mid.ahead ++ is.read)) is.texts is.to is.answered);
    written = written_first b.text is.texts b.written is.written;
  }

  more_read : (b : Begins old mid begun true) (read : List ℕ) (lines : List (List ℕ)) → AreRead (mid.ahead ++ read) new.left lines
      → AreRead (b.takes.read ++ read) new.left (b.line ∷ lines)
  more_read b read lines (inl begins) = inl (record {
    plain = (b.plain, begins.plain);
    rest = begins.rest;
    joined = fed_text b read ∙ ap (λ (t : List ℕ). b.line ++ 10 ∷ t) begins.joined ∙ sym (append_assoc b.line (10 ∷ closed lines) begins.rest);
  })
  more_read b read lines (inr whole) = inr (whole.0, ap (λ (ls : List (List ℕ)). b.line ∷ ls) whole.1 ∙ sym (fed_lines b read))

  cut_short : Begins old mid begun true → ServesSome mid new begun → IsCutShort old.left new.left old.held new.held
  cut_short b rest = record {
    input = b.takes.read ++ rest.read;
    consumed = Consumes-trans old.left mid.left new.left _ _ b.takes.consumed rest.consumed;
    lines = b.line ∷ rest.lines;
    are_read = more_read b rest.read rest.lines rest.are_read;
    texts = b.text ∷ rest.texts;
    session = session_of true b rest.lines rest.texts rest.to rest.answered;
    written = written_first b.text rest.texts b.written rest.written;
  }

  cut_later : Begins old mid begun true → ServesPart mid new begun → IsPartlyServed old.left new.left old.held new.held
  cut_later b rest = record {
    input = b.takes.read ++ rest.read;
    consumed = Consumes-trans old.left mid.left new.left _ _ b.takes.consumed rest.consumed;
    lines = b.line ∷ rest.lines;
    are_read = more_read b rest.read rest.lines rest.are_read;
    texts = b.text ∷ rest.texts;
    session = session_of true b rest.lines rest.texts rest.to rest.answered;
    written = record {
      given = b.text ∷ rest.written.given;
      last = rest.written.last;
      are_texts = ap (λ (ts : List (List ℕ)). b.text ∷ ts) rest.written.are_texts;
      part = rest.written.part;
      rest = rest.written.rest;
      split = rest.written.split;
      appended =
          subst (Appends old.held new.held) (append_assoc b.text (10 ∷ []) (closed rest.written.given ++ rest.written.part)
          ∙ sym (append_assoc b.text (10 ∷ closed rest.written.given) rest.written.part))
          (Appends-trans old.held mid.held new.held _ _ b.written rest.written.appended);
    };
  }

  -- lines behind the first one, until a fault
  pub then_fails : (fault : RunFault) → Begins old mid begun true → LinesFailBy fault mid new begun
      → ServeFailsBy fault old.left new.left old.held new.held
  then_fails Memory b is = inr (cut_short b is)
  then_fails ReadFault b is = inr (cut_short b is)
  then_fails WriteFault b is = cut_later b is
  then_fails _ b is = absurd is

-- the first line is all that there is
pub served_one : (old new : Streams) (begun : Option Standing) → Begins old new begun false → IsServed old.left new.left old.held new.held
served_one old new begun b = record {
  input = b.takes.read;
  consumed = b.takes.consumed;
  whole = b.over.0;
  texts = b.text ∷ [];
  session =
      subst (λ (ls : List (List ℕ)). IsSession ls (b.text ∷ [])) (sym (only_lines old new new begun b))
      (session_of old new new begun false b [] [] begun refl);
  written = b.written;
}

-- of the answer to the first line only a part is written
module _ (old new : Streams) (is : BeginsPart old new) where
  first_line_read : (has_feed : Bool) (t : Takes old.left new.left [] new.ahead (is.line ++ feed_if has_feed)) → OverUnless has_feed new.left new.ahead
      → AreRead t.read new.left (is.line ∷ [])
  first_line_read true t over = inl (record { plain = (is.plain, tt); rest = new.ahead; joined = t.parted })
  first_line_read false t over = inr (
    over.0,
    sym (
        ap lines_of (t.parted ∙ ap (λ (e : List ℕ). (is.line ++ []) ++ e) over.1 ∙ append-nil (is.line ++ []) ∙ append-nil is.line)
        ∙ only_line old new new is.to is.line is.text is.plain is.answers),
  )

  cut_first : IsPartlyServed old.left new.left old.held new.held
  cut_first = record {
    input = is.takes.read;
    consumed = is.takes.consumed;
    lines = is.line ∷ [];
    are_read = first_line_read is.has_feed is.takes is.over;
    texts = is.text ∷ [];
    session = record {
      first = is.line;
      others = [];
      is_first = refl;
      text = is.text;
      answers = [];
      are_texts = refl;
      begun = is.to;
      begins = is.answers;
      standing = is.to;
      answered = refl;
      legal = line_legal (line_of true is.line) is.text None is.to is.answers.answers tt;
    };
    written = record {
      given = [];
      last = is.text;
      are_texts = refl;
      part = is.written.part;
      rest = is.written.rest;
      split = is.written.split;
      appended = is.written.appended;
    };
  }

-- the first line fails
pub first_fails : (fault : RunFault) (old new : Streams) → FirstFailsBy fault old new → ServeFailsBy fault old.left new.left old.held new.held
first_fails Memory old new is = inl is
first_fails ReadFault old new is = inl is
first_fails WriteFault old new is = cut_first old new is
first_fails (Script fault) old new is = is
first_fails BadLimits old new is = is
first_fails (Price fault) old new is = is
first_fails (Load fault) old new is = is
first_fails (Graph fault) old new is = bad_opening (first_line is.0.input) (Graph fault) is.0.first
first_fails NoSeat old new is = bad_opening (first_line is.0.input) NoSeat is.0.first
first_fails (Mismatch list i) old new is = bad_opening (first_line is.0.input) (Mismatch list i) is.0.first
first_fails (WrongReply i) old new is = bad_opening (first_line is.0.input) (WrongReply i) is.0.first
first_fails WrongPicture old new is = bad_opening (first_line is.0.input) WrongPicture is.0.first
