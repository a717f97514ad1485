use Rattle.std.proofs.Common.{string_bytes, rules}
use Rattle.std.proofs.lemmas.Str.{IsUtf8-string_bytes}
use Rattle.topo_script.specs.Pictures.{rows_text}
use Rattle.topo_script.proofs.RowsBack.{rows_text_read_back}
use Rattle.topo_script.proofs.row_forms.picture_text.Goals as goal

pub returns-clause-text : goal.returns-clause-text
unfolding rows_text
returns-clause-text c = search rules

pub returns-clause-reads_back : goal.returns-clause-reads_back
returns-clause-reads_back c = rows_text_read_back c.args.rows.now (string_bytes c.write.new.out) (returns-clause-text c) (IsUtf8-string_bytes c.write.new.out)
