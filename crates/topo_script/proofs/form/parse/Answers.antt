use Rattle.std.proofs.Common.{None, sym, ◌∙◌, true≢false}
use Rattle.topo_script.proofs.Bytes.{too_long, within, json_of-read, json_of-none}
use Rattle.topo_script.proofs.form.parse.Goals as goal

pub returns-then-bytes-limit : goal.returns-then-bytes-limit
returns-then-bytes-limit c = too_long c.args.limit c.args.bytes.now c.if-bytes-limit.true

pub returns-in-Ok : goal.returns-in-Ok
returns-in-Ok c = within c.args.limit c.args.bytes.now _ c.if-bytes-limit.false (json_of-read c.args.bytes.now _ c.in-Ok.ensures.ok.0 c.in-Ok.ensures.ok.1)

pub returns-else-is_memory : goal.returns-else-is_memory
returns-else-is_memory c =
    within c.args.limit c.args.bytes.now None c.if-bytes-limit.false
    (json_of-none c.args.bytes.now (c.in-Err.ensures.err (λ m. true≢false (sym (c.is_memory.ensures.1 m) ∙ c.if-is_memory.false))))
