-- What is told of bytes is told of what was read and written.
use Rattle.std.proofs.Common.{◌≡◌, ◌⊎◌, ℕ, List, Ok, Option, inl, inr}
use Rattle.std.specs.Io.KnownBytes.{Appends, Keeps}
use Rattle.topo_script.specs.Graphs.{graph_of}
use Rattle.topo_script.specs.declared.graphs.GraphAsked.{GraphAsked}
use Rattle.topo_io.specs.declared.fault.RunFault.{RunFault}
use Rattle.topo_io.specs.declared.fault.RunFault.TheVariants.{Memory, Script, Price, Graph}
use Rattle.topo_io.specs.Reading.{IsRead, ReaderState}
use Rattle.topo_io.specs.Writing.{AppendsPart, IsOfWriting}
use Rattle.topo_io.proofs.Interface.{appends_so, by_writing, part_so}
use Rattle.topo_planarize.specs.Answers.{HasNoAnswer}
use Rattle.topo_planarize.specs.Planarizing.{HasNone, IsPlanarized, IsPlanarizedBy, IsUnplanarized, PlanarizeFailsBy, ReadsNone, TellsOfGraph, TellsOfRead}
use Rattle.topo_planarize.specs.Ways.{TellsWay}

module _ (old_told new_told : Option (List ℕ)) where
  -- a graph that was read, and has no answer
  pub unplanarized : (bytes : List ℕ) (asked : GraphAsked) → graph_of bytes ≡ Ok asked → TellsWay asked.progress old_told new_told → (fault : RunFault)
      → HasNoAnswer asked fault → IsUnplanarized bytes fault old_told new_told
  unplanarized bytes asked is way Memory none = inr (record { asked = asked; spelled = is; way = way })
  unplanarized bytes asked is way (Price fault) none = record { asked = asked; spelled = is; none = none; way = way }
  unplanarized bytes asked is way (Graph fault) none = record { asked = asked; spelled = is; none = none; way = way }
  unplanarized bytes asked is way _ none = absurd none

  module _ (old_held new_held : Option (List ℕ)) where
    pub planarized : (old_left new_left : Option (List ℕ)) (bytes : List ℕ) (read : IsRead 268435456 old_left new_left bytes) (line text : List ℕ)
        → IsPlanarizedBy bytes line old_told new_told → text ≡ line → Appends old_held new_held text
        → IsPlanarized old_left new_left old_held new_held old_told new_told
    planarized old_left new_left bytes read line text told same written = record {
      asked = told.asked;
      spelled = record { input = bytes; read = read; spelled = told.spelled };
      answer = told.answer;
      answers = told.answers;
      written = appends_so old_held new_held line _ told.line_is (appends_so old_held new_held text line same written);
      way = told.way;
    }

    module _ (old new : ReaderState) (bytes : List ℕ) (read : IsRead 268435456 old.left new.left bytes) where
      reads_none : (fault : RunFault) → HasNone bytes fault old_told new_told → ReadsNone old.left new.left old_told new_told fault
      reads_none fault is = record {
        asked = is.asked;
        spelled = record { input = bytes; read = read; spelled = is.spelled };
        none = is.none;
        way = is.way;
      }

      tells_of_read : Keeps old_told new_told ⊎ TellsOfGraph bytes old_told new_told → Keeps old_told new_told ⊎ TellsOfRead old.left new.left old_told new_told
      tells_of_read (inl kept) = inl kept
      tells_of_read (inr is) = inr (record { asked = is.asked; spelled = record { input = bytes; read = read; spelled = is.spelled }; way = is.way })

      pub planarize_fails : (fault : RunFault) → IsUnplanarized bytes fault old_told new_told → Keeps old_held new_held
          → PlanarizeFailsBy fault old new old_held new_held old_told new_told
      planarize_fails Memory is kept = (kept, tells_of_read is)
      planarize_fails (Script fault) is kept = (record { input = bytes; read = read; first = is.0 }, kept, is.1)
      planarize_fails (Price fault) is kept = (reads_none (Price fault) is, kept)
      planarize_fails (Graph fault) is kept = (reads_none (Graph fault) is, kept)
      planarize_fails _ is kept = absurd is

      pub planarize_unwritten : (fault : RunFault) (line text : List ℕ) → IsPlanarizedBy bytes line old_told new_told → text ≡ line
          → AppendsPart old_held new_held text → IsOfWriting fault → PlanarizeFailsBy fault old new old_held new_held old_told new_told
      planarize_unwritten fault line text told same written is = by_writing (λ f. PlanarizeFailsBy f old new old_held new_held old_told new_told) fault is (record {
        asked = told.asked;
        spelled = record { input = bytes; read = read; spelled = told.spelled };
        answer = told.answer;
        answers = told.answers;
        written = part_so old_held new_held line _ told.line_is (part_so old_held new_held text line same written);
        way = told.way;
      })
