use Rattle.topo_picture.proofs.DeletedPicture.{cut_of_picture, local_of_picture}
use Rattle.topo_picture.proofs.laws.cuts_agree.Goals as goal

pub returns : goal.returns
returns c limits rows e i is there = (cut_of_picture limits rows e is there i, local_of_picture limits rows e is there i)
