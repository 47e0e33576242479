use Rattle.std.proofs.Common.{rules}
use Rattle.shared_graph.proofs.Numbered.{holds_each}
use Rattle.graph_tool.proofs.Shares.{run_by, run_can_be_written}
use Rattle.graph_tool.proofs.on_callers.run_on_callers.Goals as goal

pub close-requires : goal.close-requires
close-requires g c = record {
  each = holds_each c.in_ok-graph.graph c.in_ok-answers.callers.items (search rules) c.in_ok-answers.ensures.home
      c.in_ok-answers.ensures.numbers;
}

pub returns-in-Ok-clause-run : goal.returns-in-Ok-clause-run
returns-in-Ok-clause-run g c = run_by c.in_ok-graph.graph c.in_ok-graph.callers.items c.in_ok-answers.callers.items _
    c.args.rows.now c.in_ok-answers.answers.items c.in-Ok.plain record {
      count = search rules;
      hired = λ i d low. c.in_ok-graph.ensures.callers i d (search rules);
      same = search rules;
      numbers = c.in_ok-answers.ensures.numbers;
      few = c.requires.few;
      low = λ k d low. search rules;
      long = search rules;
      all = c.in_ok-answers.ensures.answered;
      each = holds_each c.in_ok-graph.graph c.in_ok-answers.callers.items (search rules) c.in_ok-answers.ensures.home
          c.in_ok-answers.ensures.numbers;
      closed = c.in-Ok.ensures.closed;
    }

pub returns-in-Ok-clause-written : goal.returns-in-Ok-clause-written
returns-in-Ok-clause-written g c = run_can_be_written c.in_ok-graph.graph c.in_ok-graph.callers.items
    c.in_ok-answers.callers.items _ c.args.rows.now c.in_ok-answers.answers.items c.in-Ok.plain record {
      count = search rules;
      hired = λ i d low. c.in_ok-graph.ensures.callers i d (search rules);
      same = search rules;
      numbers = c.in_ok-answers.ensures.numbers;
      few = c.requires.few;
      low = λ k d low. search rules;
      long = search rules;
      all = c.in_ok-answers.ensures.answered;
      each = holds_each c.in_ok-graph.graph c.in_ok-answers.callers.items (search rules) c.in_ok-answers.ensures.home
          c.in_ok-answers.ensures.numbers;
      closed = c.in-Ok.ensures.closed;
    }
