-- Tokens that spell rows.
use Rattle.std.proofs.Common.{ℕ, ◌≤◌, List, [], ◌∷◌, Option, Some, refl, ◌∙◌}
use Rattle.json.specs.Token.{Token}
use Rattle.serde_json.specs.Data.{Data, object}
use Rattle.topo_core.specs.declared.rows.CrossRow.{CrossRow}
use Rattle.topo_core.specs.declared.rows.EdgeRow.{EdgeRow}
use Rattle.topo_core.specs.declared.rows.Rows.{Rows}
use Rattle.topo_script.specs.declared.keys.TheConstants.{CROSSING_KEYS, EDGE_KEYS, ROWS_KEYS}
use Rattle.topo_script.specs.declared.path.Key.TheVariants.{A, B, Crossed, Crossings, Edges, Id, Kind, Newcomer}
use Rattle.topo_script.specs.declared.path.Key.TheVariants.{NextCrossing, NextEdge, Rotations, Sign as SignKey}
use Rattle.topo_script.specs.Reads.{number_form, list_form}
use Rattle.topo_script.specs.RowForms.{sign_form, crossing_form, edge_form, rows_form}
use Rattle.topo_script.specs.Slots.{members_of, SpellsValue}
use Rattle.topo_script.specs.Tokens.{Spells}
use Rattle.topo_script.proofs.FormKeys.{crossing_keys, edge_keys, rows_keys}
use Rattle.topo_script.proofs.Lookups.{member_read}
use Rattle.topo_script.proofs.Objects.{IsDue, then, object_tokens}
use Rattle.topo_script.proofs.Steps.{went}

-- ---- Crossings

pub crossing_tokens : {x : CrossRow} {n : ℕ} {ts rest : List Token} {os p1 p2 p3 : List (Option Data)}
    → SpellsValue n ts (object (members_of CROSSING_KEYS os)) rest → n ≤ 1
    → IsDue number_form x.crossed os p1 → IsDue number_form x.id p1 p2 → IsDue number_form x.newcomer p2 p3 → IsDue sign_form x.sign p3 []
    → Spells 1 crossing_form ts x rest
unfolding crossing_form
crossing_tokens {x} v within crossed id newcomer sign =
    let values = Some crossed.spelled ∷ Some id.spelled ∷ Some newcomer.spelled ∷ Some sign.spelled ∷ [] in
    let d = object (members_of CROSSING_KEYS values) in
    object_tokens CROSSING_KEYS values v within (then crossed (then id (then newcomer sign.is)))
    (λ path.
    went _ _ tt (crossing_keys path _ _ _ _)
    ∙ went _ _ x.crossed (member_read number_form path Crossed d refl crossed.reads)
    ∙ went _ _ x.id (member_read number_form path Id d refl id.reads)
    ∙ went _ _ x.newcomer (member_read number_form path Newcomer d refl newcomer.reads)
    ∙ went _ _ x.sign (member_read sign_form path SignKey d refl sign.reads))

-- ---- Edges

pub edge_tokens : {x : EdgeRow} {n : ℕ} {ts rest : List Token} {os p1 p2 p3 p4 : List (Option Data)}
    → SpellsValue n ts (object (members_of EDGE_KEYS os)) rest → n ≤ 2
    → IsDue number_form x.a os p1 → IsDue number_form x.b p1 p2 → IsDue (list_form number_form) x.crossings p2 p3
    → IsDue number_form x.id p3 p4 → IsDue number_form x.kind p4 [] → Spells 2 edge_form ts x rest
unfolding edge_form
edge_tokens {x} v within a b crossings id kind =
    let values = Some a.spelled ∷ Some b.spelled ∷ Some crossings.spelled ∷ Some id.spelled ∷ Some kind.spelled ∷ [] in
    let d = object (members_of EDGE_KEYS values) in
    object_tokens EDGE_KEYS values v within (then a (then b (then crossings (then id kind.is))))
    (λ path.
    went _ _ tt (edge_keys path _ _ _ _ _)
    ∙ went _ _ x.a (member_read number_form path A d refl a.reads)
    ∙ went _ _ x.b (member_read number_form path B d refl b.reads)
    ∙ went _ _ x.crossings (member_read (list_form number_form) path Crossings d refl crossings.reads)
    ∙ went _ _ x.id (member_read number_form path Id d refl id.reads)
    ∙ went _ _ x.kind (member_read number_form path Kind d refl kind.reads))

-- ---- Rows

pub rows_tokens : {x : Rows} {n : ℕ} {ts rest : List Token} {os p1 p2 p3 p4 : List (Option Data)}
    → SpellsValue n ts (object (members_of ROWS_KEYS os)) rest → n ≤ 4
    → IsDue (list_form crossing_form) x.crossings os p1 → IsDue (list_form edge_form) x.edges p1 p2
    → IsDue number_form x.next_crossing p2 p3 → IsDue number_form x.next_edge p3 p4
    → IsDue (list_form (list_form number_form)) x.rotations p4 [] → Spells 4 rows_form ts x rest
unfolding rows_form
rows_tokens {x} v within crossings edges next_crossing next_edge rotations =
    let values = Some crossings.spelled ∷ Some edges.spelled ∷ Some next_crossing.spelled ∷ Some next_edge.spelled ∷ Some rotations.spelled ∷ [] in
    let d = object (members_of ROWS_KEYS values) in
    object_tokens ROWS_KEYS values v within (then crossings (then edges (then next_crossing (then next_edge rotations.is))))
    (λ path.
    went _ _ tt (rows_keys path _ _ _ _ _)
    ∙ went _ _ x.crossings (member_read (list_form crossing_form) path Crossings d refl crossings.reads)
    ∙ went _ _ x.edges (member_read (list_form edge_form) path Edges d refl edges.reads)
    ∙ went _ _ x.next_crossing (member_read number_form path NextCrossing d refl next_crossing.reads)
    ∙ went _ _ x.next_edge (member_read number_form path NextEdge d refl next_edge.reads)
    ∙ went _ _ x.rotations (member_read (list_form (list_form number_form)) path Rotations d refl rotations.reads))
