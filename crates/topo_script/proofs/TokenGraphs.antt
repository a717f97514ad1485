-- Tokens that spell graphs.
use Rattle.std.proofs.Common.{◌≡◌, ℕ, ◌<◌, ◌≤◌, Bool, true, false, List, [], ◌∷◌, drop, Option, Some, None, Ok, unwrap_or, refl, sym, ap, subst, ◌∙◌, lt-ltb, le-leb}
use Rattle.json.specs.Token.{Token, begin_array}
use Rattle.serde_json.specs.Data.{Data, array, item, no_items, object}
use Rattle.topo_core.specs.declared.rows.TheConstants.{KINDS}
use Rattle.topo_graph.specs.declared.Effort.{Effort}
use Rattle.topo_graph.specs.declared.Effort.TheVariants.{Default}
use Rattle.topo_script.specs.declared.graph_forms.TheConstants.{MAX_THREADS}
use Rattle.topo_script.specs.declared.graphs.GraphAsked.{GraphAsked}
use Rattle.topo_script.specs.declared.keys.FormKey.TheVariants.{Due}
use Rattle.topo_script.specs.declared.keys.TheConstants.{GRAPH_KEYS}
use Rattle.topo_script.specs.declared.path.Key.TheVariants.{Edges, Effort as EffortKey, Prices, Progress, Seconds, Seed, Start, Threads, Version, Vertices}
use Rattle.topo_script.specs.declared.path.JsonPath.{JsonPath}
use Rattle.topo_script.specs.declared.token_graphs.Unread.{Unread}
use Rattle.topo_script.specs.Graphs.{edge_form, effort_form, graph_form, some_answer, threads_form, truth_form}
use Rattle.topo_script.specs.Paths.{key_name, whole}
use Rattle.topo_script.specs.Reads.{number_form, list_form}
use Rattle.topo_script.specs.Scripts.{nulls_of, price_form, prices_form, some_price}
use Rattle.topo_script.specs.Slots.{members_of, IsHeld, SpellsValue}
use Rattle.topo_script.specs.Tokens.{Spells, SpellsNumbers}
use Rattle.topo_script.specs.TokenParts.{ArePricesOf, unread_form}
use Rattle.topo_script.proofs.Lookups.{element_read, member_read}
use Rattle.topo_script.proofs.Members.{found_at, keys_there, one_there}
use Rattle.topo_script.proofs.Objects.{IsDue, IsMaybe, maybe, object_tokens, then}
use Rattle.topo_script.proofs.Spellings.{few_tokens, numbers_then}
use Rattle.topo_script.proofs.Steps.{went}
use Rattle.topo_script.proofs.TokenReports.{version_read}
use Rattle.topo_script.proofs.TokenScripts.{AreRead, optional_found, or_default, prices_or_none}

-- ---- Edges

pub graph_edge_tokens : {a b kind : ℕ} {ts mid rest : List Token} → ts ≡ begin_array ∷ mid → SpellsNumbers mid a b kind rest → kind < KINDS
    → Spells 1 edge_form ts (record { a = a; b = b; kind = kind }) rest
unfolding edge_form
graph_edge_tokens {a} {b} {kind} e s few =
    let ds = item s.first.spelled (item s.second.spelled (item s.third.spelled no_items)) in
    few_tokens 0 ds e (numbers_then s)
    (λ path.
    went _ _ tt refl
    ∙ went _ _ a (element_read number_form path 0 (array ds) refl s.first.reads)
    ∙ went _ _ b (element_read number_form path 1 (array ds) refl s.second.reads)
    ∙ went _ _ kind (element_read number_form path 2 (array ds) refl s.third.reads)
    ∙ went _ _ (tt {0}) (rw (lt-ltb kind KINDS few) refl))

-- ---- Graphs

-- the values of a graph's members, without pictures to begin with and without telling how far it is
record Values : Type 0 where
  pub edges : Data
  pub effort : Option Data
  pub prices : Option Data
  pub seconds : Option Data
  pub seed : Option Data
  pub threads : Option Data
  pub version : Data
  pub vertices : Data

abbrev listed : Values → List (Option Data)
listed v = Some v.edges ∷ v.effort ∷ v.prices ∷ None ∷ v.seconds ∷ v.seed ∷ None ∷ v.threads ∷ Some v.version ∷ Some v.vertices ∷ []

abbrev graph_object : Values → Data
graph_object v = object (members_of GRAPH_KEYS (listed v))

seconds_or_none : (o : Option ℕ) (d : Option Data) → IsHeld number_form o d → AreRead some_price None d o
unfolding some_price
seconds_or_none None None held = refl
seconds_or_none (Some n) (Some d) held = λ path. went (number_form path d) (λ (k : ℕ). Ok (Some k)) n (held path)
seconds_or_none _ _ held = absurd held

threads_or_one : (o : Option ℕ) (d : Option Data) → IsHeld number_form o d → 0 < unwrap_or o 1 → unwrap_or o 1 ≤ MAX_THREADS
    → AreRead threads_form 1 d (unwrap_or o 1)
unfolding threads_form
threads_or_one None None held some few = refl
threads_or_one (Some n) (Some d) held some few =
    λ path. went _ _ n (held path) ∙ went _ _ (tt {0}) (rw (lt-ltb 0 n some, le-leb n MAX_THREADS few) refl)
threads_or_one _ _ held some few = absurd held

-- what each member is read as
record AreMembers (x : GraphAsked) (nulls : Bool) (v : Values) : Type 0 where
  pub of_edges : (path : JsonPath) → list_form edge_form path v.edges ≡ Ok x.edges
  pub of_effort : AreRead effort_form Default v.effort x.effort
  pub of_prices : AreRead (prices_form nulls) [] v.prices x.prices
  pub of_progress : false ≡ x.progress
  pub of_seconds : AreRead some_price None v.seconds x.seconds
  pub of_seed : AreRead number_form 1 v.seed x.seed
  pub of_start : None ≡ x.start
  pub of_threads : AreRead threads_form 1 v.threads x.threads
  pub of_vertices : (path : JsonPath) → number_form path v.vertices ≡ Ok x.vertices

graph_read : {x : GraphAsked} {n : ℕ} (v : Values) {nulls : Bool} → nulls_of n ≡ Ok nulls → ((path : JsonPath) → number_form path v.version ≡ Ok n)
    → AreMembers x nulls v → graph_form (graph_object v) ≡ Ok x
unfolding graph_form
graph_read {x} {n} v {nulls} of version are =
    let os = listed v in
    let d = graph_object v in
    let has_edges = found_at (key_name Edges) GRAPH_KEYS os in
    let has_version = found_at (key_name Version) GRAPH_KEYS os in
    let has_vertices = found_at (key_name Vertices) GRAPH_KEYS os in
    went _ _ nulls (version_read whole n nulls (members_of GRAPH_KEYS os) v.version has_version version of)
    ∙ went _ _ tt (keys_there whole GRAPH_KEYS os refl (one_there whole Edges (drop 1 GRAPH_KEYS) d v.edges has_edges
    (one_there whole Version (Due Vertices ∷ []) d v.version has_version (one_there whole Vertices [] d v.vertices has_vertices refl))))
    ∙ went _ _ x.edges (member_read (list_form edge_form) whole Edges d has_edges are.of_edges)
    ∙ went _ _ x.effort (optional_found effort_form Default whole EffortKey GRAPH_KEYS os v.effort x.effort refl are.of_effort)
    ∙ went _ _ x.prices (optional_found (prices_form nulls) [] whole Prices GRAPH_KEYS os v.prices x.prices refl are.of_prices)
    ∙ went _ _ x.progress (optional_found truth_form false whole Progress GRAPH_KEYS os None x.progress refl are.of_progress)
    ∙ went _ _ x.seconds (optional_found some_price None whole Seconds GRAPH_KEYS os v.seconds x.seconds refl are.of_seconds)
    ∙ went _ _ x.seed (optional_found number_form 1 whole Seed GRAPH_KEYS os v.seed x.seed refl are.of_seed)
    ∙ went _ _ x.start (optional_found some_answer None whole Start GRAPH_KEYS os None x.start refl are.of_start)
    ∙ went _ _ x.threads (optional_found threads_form 1 whole Threads GRAPH_KEYS os v.threads x.threads refl are.of_threads)
    ∙ went _ _ x.vertices (member_read number_form whole Vertices d has_vertices are.of_vertices)

-- nothing was read into a slot for what is not read
unread_none : {o : Option Unread} {os ps qs : List (Option Data)} (m : IsMaybe unread_form o os ps) → ps ≡ qs → os ≡ None ∷ qs
unread_none {o} {qs = qs} m e = maybe m e ∙ ap (λ d. d ∷ qs) (by o m.spelled m.read)
  where
    by : (o : Option Unread) (d : Option Data) → IsHeld unread_form o d → d ≡ None
    by None None held = refl
    by (Some u) (Some d) held = let wrong = held whole in absurd cc
    by _ _ held = absurd held

pub graph_tokens : {x : GraphAsked} {n version : ℕ} {ts rest : List Token} {os p1 p2 p3 p4 p5 p6 p7 p8 p9 : List (Option Data)}
    {effort : Option Effort} {prices : Option (List (Option ℕ))} {progress start : Option Unread} {seed threads : Option ℕ}
    → SpellsValue n ts (object (members_of GRAPH_KEYS os)) rest → n ≤ 3
    → IsDue (list_form edge_form) x.edges os p1 → IsMaybe effort_form effort p1 p2 → IsMaybe (list_form (price_form true)) prices p2 p3
    → IsMaybe unread_form progress p3 p4 → IsMaybe number_form x.seconds p4 p5 → IsMaybe number_form seed p5 p6 → IsMaybe unread_form start p6 p7
    → IsMaybe number_form threads p7 p8 → IsDue number_form version p8 p9 → IsDue number_form x.vertices p9 []
    → x.effort ≡ unwrap_or effort Default → ArePricesOf version (unwrap_or prices []) x.prices → x.seed ≡ unwrap_or seed 1
    → x.threads ≡ unwrap_or threads 1 → 0 < x.threads → x.threads ≤ MAX_THREADS → false ≡ x.progress → None ≡ x.start
    → Spells 3 (λ path. graph_form) ts x rest
graph_tokens {x = x} {version = version} {effort = effort} {prices = prices} {seed = seed} {threads = threads}
    v within e f p g s r b t n w is_effort are_prices is_seed is_threads some few no_progress no_start =
    let values : Values = record {
      edges = e.spelled;
      effort = f.spelled;
      prices = p.spelled;
      seconds = s.spelled;
      seed = r.spelled;
      threads = t.spelled;
      version = n.spelled;
      vertices = w.spelled;
    } in
    object_tokens GRAPH_KEYS (listed values) v within
    (then e (maybe f (maybe p (unread_none g (maybe s (maybe r (unread_none b (maybe t (then n w.is)))))))))
    (λ path. graph_read values are_prices.1 n.reads (record {
      of_edges = e.reads;
      of_effort = subst (AreRead effort_form Default f.spelled) (sym is_effort) (or_default effort_form Default effort f.spelled f.read);
      of_prices = prices_or_none version prices p.spelled x.prices p.read are_prices;
      of_progress = no_progress;
      of_seconds = seconds_or_none x.seconds s.spelled s.read;
      of_seed = subst (AreRead number_form 1 r.spelled) (sym is_seed) (or_default number_form 1 seed r.spelled r.read);
      of_start = no_start;
      of_threads = subst (AreRead threads_form 1 t.spelled) (sym is_threads)
          (threads_or_one threads t.spelled t.read (subst (λ k. 0 < k) is_threads some) (subst (λ k. k ≤ MAX_THREADS) is_threads few));
      of_vertices = w.reads;
    }))
