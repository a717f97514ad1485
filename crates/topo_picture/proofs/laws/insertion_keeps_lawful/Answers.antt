use Rattle.topo_core.proofs.Interface.{simple_is_insertable}
use Rattle.topo_kept_rows.proofs.Interface.{insertion_keeps_lawful}
use Rattle.topo_picture.proofs.laws.insertion_keeps_lawful.Goals as goal

pub returns : goal.returns
returns c = λ rows u v kind r lawful u_in v_in apart known simple small.
    insertion_keeps_lawful lawful (simple_is_insertable rows u v r lawful.embedding.well_formed u_in v_in apart known simple) simple small
