use Rattle.topo_core.specs.Picture.{darts}
use Rattle.topo_core.proofs.numbering.Numbering.{even_images, get_index, image_of, images_length, index_forward, index_of_get, index_twin, place_less, twin_in}
use Rattle.topo_core.proofs.systems.SystemDarts.{get_there}
use Rattle.topo_core.proofs.laws.darts_are_numbered.Goals as goal

pub returns : goal.returns
returns c rows good = record {
  as_many = images_length rows;
  even = even_images rows;
  below = place_less (darts rows);
  dart_of_number = get_there (darts rows);
  number_of_dart = index_of_get rows good.paths;
  dart_of_its_number = get_index rows good.paths;
  twins = λ d h. (twin_in rows d h, index_twin rows d h);
  forward_even = index_forward rows;
  turns = image_of rows good.paths;
}
