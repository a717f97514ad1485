use Rattle.topo_script.proofs.tokens.last_numbers.Goals as goal

pub returns : goal.returns
returns c = record {
  one = _;
  two = _;
  three = _;
  first = c.in_ok-a.ensures;
  second = c.in_ok-b.ensures;
  third = c.in_ok-c.ensures;
  closed = c.in_ok-end_array.ensures;
}
