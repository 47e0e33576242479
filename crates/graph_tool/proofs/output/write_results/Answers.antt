use Rattle.op_text.proofs.TextWrites.{gives-then}
use Rattle.graph_tool.proofs.output.write_results.Goals as goal

pub returns : goal.returns
returns g c = gives-then c.in_ok-write_answers.ensures (record {
  ok = c.write_graph.ensures.ok;
  prefix = c.write_graph.ensures.prefix;
  rose = c.write_graph.ensures.rose;
  later =
      c.write_graph.ensures.faults;
})
