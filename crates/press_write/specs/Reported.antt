-- What is reported of what was written: the paper's values.
use Rattle.clause.specs.Denote.{literals_of}
use Rattle.press_spec.specs.Press.{Report}
use Rattle.press_write.specs.declared.Pressed.{Pressed}

abbrev pub reported : Pressed → Report
reported r = record {
  conclusion = literals_of r.conclusion;
  records = r.records;
  nodes = r.nodes;
  steps = r.steps;
  peak = r.peak;
  marked = r.marked;
  order = r.order;
}
