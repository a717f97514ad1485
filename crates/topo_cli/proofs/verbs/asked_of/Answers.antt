use Rattle.std.proofs.Common.{◌≡◌, Bool, [], ◌∷◌, Option, None, Some, map, true, false, is_some, if◌then◌else◌, sym, ap, subst, ◌∙◌, refl, inl, inr, rules}
use Rattle.clap.specs.Kinds.{HasKind, Kinds, or_else}
use Rattle.clap.specs.Words.{App, fault_of, is_simple_and_free, takes}
use Rattle.clap.specs.declared.error.Error.{Error}
use Rattle.clap.specs.declared.error.kind.ErrorKind.TheVariants.{MissingSubcommand}
use Rattle.topo_cli.specs.declared.Verb.{Verb}
use Rattle.topo_cli.specs.Words.{asked_verb, planar_app}
use Rattle.topo_cli.proofs.verbs.asked_of.Goals as goal

-- clap gives the kinds of error of this program
planar_is_simple : is_simple_and_free planar_app ≡ true
planar_is_simple = refl

has_first : (kinds next : Kinds) (e : Error) → HasKind kinds e → HasKind (or_else kinds next) e
has_first [] next e (inl memory) = inl memory
has_first [] next e (inr none) = absurd none
has_first (k ∷ ks) next e is = is

none_of : (kinds : Kinds) (named : Bool) → kinds ≡ [] → named ≡ true → or_else kinds (if named then [] else MissingSubcommand ∷ []) ≡ []
none_of kinds named none is = rw (none, is) refl

pub returns-in-Err-clause-err : goal.returns-in-Err-clause-err
returns-in-Err-clause-err g c = λ t asked. c.in-Err.ensures.passes (ap (λ (a : App). takes a (map g.S.AsStr.text c.args.words.now)) c.requires ∙ t)

pub returns-in-Err-clause-kinds : goal.returns-in-Err-clause-kinds
returns-in-Err-clause-kinds g c =
    let words = map g.S.AsStr.text c.args.words.now in
    let is = subst (λ (a : App). is_simple_and_free a ≡ true → HasKind (fault_of a words) c.in-Err.error) c.requires c.in-Err.ensures.kinds planar_is_simple in
    has_first (fault_of planar_app words) (if is_some (asked_verb words) then [] else MissingSubcommand ∷ []) c.in-Err.error is

pub returns-in-Some-clause-kinds : goal.returns-in-Some-clause-kinds
returns-in-Some-clause-kinds g c =
    let words = map g.S.AsStr.text c.args.words.now in
    let none : fault_of planar_app words ≡ [] =
    subst (λ (a : App). is_simple_and_free a ≡ true → fault_of a words ≡ []) c.requires c.in-Ok.ensures.kinds planar_is_simple in
    let asked : asked_verb words ≡ Some c.in-Some.verb = search rules in
    none_of (fault_of planar_app words) (is_some (asked_verb words)) none (ap (λ (o : Option Verb). is_some o) asked)

pub returns-in_ok-error-in-None-clause-err : goal.returns-in_ok-error-in-None-clause-err
returns-in_ok-error-in-None-clause-err g c = λ t asked.
    let none : asked_verb (map g.S.AsStr.text c.args.words.now) ≡ None = search rules in
    let no : false ≡ true = sym (ap (λ (o : Option Verb). is_some o) none) ∙ asked in
    cc
