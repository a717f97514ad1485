use Rattle.std.proofs.Common.{◌<◌, ◌≤◌, length, arith}
use Rattle.topo_script.specs.declared.script_forms.TheConstants.{MAX_WORKERS}
use Rattle.topo_script.specs.CallForms.{command_form}
use Rattle.topo_script.specs.Reads.{list_form}
use Rattle.topo_script.proofs.Objects.{due_held, due_last}
use Rattle.topo_script.proofs.TokenScripts.{script_tokens, settings_held}
use Rattle.topo_script.proofs.token_scripts.ScriptFromTokens.from_tokens.Goals as goal

pub returns : goal.returns
returns c =
    let o = c.in_ok-slots.ensures in
    let read = settings_held _ c.in_ok-opening.ensures.settings c.in_ok-opening.ensures.rest o.held in
    let workers = due_last (due_held (list_form (list_form command_form)) _ c.in_ok-workers.ensures read.held) in
    let some : 0 < length c.in_ok-workers.workers = grind arith in
    let few : length c.in_ok-workers.workers ≤ MAX_WORKERS = grind arith in
    script_tokens o.value (omega arith) read workers some few
