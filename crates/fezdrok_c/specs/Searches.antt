-- What a search is answered from C: a status, and a text that lies in the search until its next call.
use Rattle.std.specs.Prelude.{◌≡◌, ◌≢◌, ◌⊎◌, ℕ, List, [], Option, None, Some, Ok, bytes_eq, codes, if◌then◌else◌, ⊤}
use Rattle.serde_json.specs.Written.{compact_text}
use Rattle.topo_script.specs.Graphs.{graph_of}
use Rattle.topo_script.specs.Reads.{IsFirstFault}
use Rattle.topo_script.specs.declared.graphs.GraphAsked.{GraphAsked}
use Rattle.topo_planarize.specs.Answers.{HasNoAnswer, IsAnswerOf, IsOfSearch, Sought, StartsWell, answer_data, drawn}
use Rattle.topo_planarize.specs.declared.answers.Answer.{Answer}
use Rattle.topo_session.specs.Texts.{fault_text}
use Rattle.topo_io.specs.declared.fault.RunFault.{RunFault}
use Rattle.topo_io.specs.declared.fault.RunFault.TheVariants.{Memory, Script, Price, Graph}
use Rattle.topo_io.specs.Settings.{price_table}
use Rattle.fezdrok_c.specs.declared.handle.Text.{Text}
use Rattle.fezdrok_c.specs.declared.searching.SearchRequest.{SearchRequest}
use Rattle.fezdrok_c.specs.declared.searching.SearchRequest.TheVariants.{Step, Hurry, End, Pictures}
use Rattle.fezdrok_c.specs.declared.searching.Searching.{Searching}
use Rattle.fezdrok_c.specs.Sessions.{LiesAt, TellsFault}

-- ---- The first text

-- a text asks for this search
pub record IsOpenFor (bytes : List ℕ) (sought : Sought) : Type 0 where
  pub asked : GraphAsked
  pub spelled : graph_of bytes ≡ Ok asked
  pub graph : sought.graph ≡ drawn asked
  pub prices : sought.prices ≡ price_table asked.prices
  pub start : StartsWell (drawn asked) (price_table asked.prices) asked.start

-- a text asks for a search of which there can be none
pub record IsUnsearched (bytes : List ℕ) (fault : RunFault) : Type 0 where
  pub asked : GraphAsked
  pub spelled : graph_of bytes ≡ Ok asked
  pub none : HasNoAnswer asked fault

-- why there is no search: the first fault of reading the text, and then of the graph
abbrev pub IsNoSearch : List ℕ → RunFault → Type 0
IsNoSearch bytes Memory = ⊤
IsNoSearch bytes (Script fault) = IsFirstFault (graph_of bytes) fault
IsNoSearch bytes (Price fault) = IsUnsearched bytes (Price fault)
IsNoSearch bytes (Graph fault) = IsUnsearched bytes (Graph fault)
IsNoSearch bytes _ = ⊥

-- a search is open, and there is no text
pub record IsSearchOpened (graph text : List ℕ) (status : ℕ) (new : Option Sought) : Type 0 where
  pub done : status ≡ 0
  pub sought : Sought
  pub open_now : new ≡ Some sought
  pub is_for : IsOpenFor graph sought
  pub no_text : text ≡ []

-- there is none, and the fault is told, or there is no memory to tell it
pub record IsSearchRefused (graph text : List ℕ) (status : ℕ) (new : Option Sought) : Type 0 where
  pub fault : RunFault
  pub is_none : IsNoSearch graph fault
  pub told : TellsFault fault status text
  pub closed : new ≡ None

abbrev pub IsSearchBegun : {F : Type 0} → List ℕ → Searching F → Text → ℕ → Type 0
IsSearchBegun graph new text status = LiesAt new.text text
    × (IsSearchOpened graph new.text.items status new.planarizer ⊎ IsSearchRefused graph new.text.items status new.planarizer)

-- ---- Each further text

abbrev pub search_request_of : List ℕ → Option SearchRequest
search_request_of text = if bytes_eq text (codes "\"step\"") then Some Step else (if bytes_eq text (codes "\"hurry\"") then Some Hurry else
    (if bytes_eq text (codes "\"end\"") then Some End else (if bytes_eq text (codes "\"pictures\"") then Some Pictures else None)))

-- pictures that show the graph
pub record ArePicturesOf (sought : Sought) (text : List ℕ) : Type 0 where
  pub answer : Answer
  pub shows : IsAnswerOf sought.graph sought.prices answer
  pub told : text ≡ compact_text (answer_data answer)

-- a fault of the search
pub record IsSearchFault (text : List ℕ) : Type 0 where
  pub fault : RunFault
  pub is_of : IsOfSearch fault
  pub told : text ≡ fault_text fault

abbrev pub HasPictures : Sought → List ℕ → Type 0
HasPictures sought text = ArePicturesOf sought text ⊎ IsSearchFault text

-- pictures are handed out once, and then there is no search; whatever else is asked, it is that of the same graph
abbrev pub SearchReplies : SearchRequest → Option Sought → Option Sought → List ℕ → Type 0
SearchReplies Pictures (Some sought) new text = (new ≡ None) × HasPictures sought text
SearchReplies _ old new text = new ≡ old

-- out of memory the pictures are lost, and else nothing
abbrev pub LosesPictures : SearchRequest → Option Sought → Option Sought → Type 0
LosesPictures Pictures old new = new ≡ None
LosesPictures _ old new = new ≡ old

abbrev pub IsSearchTold : Option SearchRequest → Option Sought → Option Sought → List ℕ → Type 0
IsSearchTold None old new text = new ≡ old
IsSearchTold (Some request) old new text = SearchReplies request old new text

abbrev pub IsSearchLost : Option SearchRequest → Option Sought → Option Sought → Type 0
IsSearchLost None old new = new ≡ old
IsSearchLost (Some request) old new = LosesPictures request old new

-- it is answered, or there is no memory for the answer
pub record IsSearchAnsweredBy (request text : List ℕ) (status : ℕ) (old new : Option Sought) : Type 0 where
  pub done : status ≡ 0
  pub told : IsSearchTold (search_request_of request) old new text

pub record IsSearchLostBy (request text : List ℕ) (status : ℕ) (old new : Option Sought) : Type 0 where
  pub lacks : status ≡ 3
  pub no_text : text ≡ []
  pub lost : IsSearchLost (search_request_of request) old new

abbrev pub IsSearchAnswered : {F : Type 0} → Searching F → List ℕ → ℕ → Searching F → Text → Type 0
IsSearchAnswered old request status new text = LiesAt new.text text
    × (IsSearchAnsweredBy request new.text.items status old.planarizer new.planarizer
    ⊎ IsSearchLostBy request new.text.items status old.planarizer new.planarizer)
