use Rattle.std.proofs.Common.{◌≡◌, Ok, codes, refl, sym, subst, rules}
use Rattle.serde_json.specs.Data.{string}
use Rattle.topo_script.specs.declared.sessions.Request.TheVariants.{About, Counts, Picture, Report, Forget, Renumber}
use Rattle.topo_script.specs.Sessions.{request_form}
use Rattle.topo_script.proofs.token_requests.asked_by.Goals as goal

pub returns-then-bytes_are : goal.returns-then-bytes_are
unfolding request_form
returns-then-bytes_are c path =
    let is : c.args.word.now ≡ codes "about" = search rules in
    subst (λ word. request_form path (string word) ≡ Ok About) (sym is) refl

pub returns-then-bytes_are-2 : goal.returns-then-bytes_are-2
unfolding request_form
returns-then-bytes_are-2 c path =
    let is : c.args.word.now ≡ codes "counts" = search rules in
    subst (λ word. request_form path (string word) ≡ Ok Counts) (sym is) refl

pub returns-then-bytes_are-3 : goal.returns-then-bytes_are-3
unfolding request_form
returns-then-bytes_are-3 c path =
    let is : c.args.word.now ≡ codes "picture" = search rules in
    subst (λ word. request_form path (string word) ≡ Ok Picture) (sym is) refl

pub returns-then-bytes_are-4 : goal.returns-then-bytes_are-4
unfolding request_form
returns-then-bytes_are-4 c path =
    let is : c.args.word.now ≡ codes "report" = search rules in
    subst (λ word. request_form path (string word) ≡ Ok Report) (sym is) refl

pub returns-then-bytes_are-5 : goal.returns-then-bytes_are-5
unfolding request_form
returns-then-bytes_are-5 c path =
    let is : c.args.word.now ≡ codes "forget" = search rules in
    subst (λ word. request_form path (string word) ≡ Ok Forget) (sym is) refl

pub returns-then-bytes_are-6 : goal.returns-then-bytes_are-6
unfolding request_form
returns-then-bytes_are-6 c path =
    let is : c.args.word.now ≡ codes "renumber" = search rules in
    subst (λ word. request_form path (string word) ≡ Ok Renumber) (sym is) refl
