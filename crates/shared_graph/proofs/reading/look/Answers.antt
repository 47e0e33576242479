use Rattle.shared_graph.proofs.Rests.{loaded, loaded_word}
use Rattle.shared_graph.proofs.reading.look.Goals as goal

pub returns-clause-reading : goal.returns-clause-reading
returns-clause-reading c = loaded c.args.table.now c.args.begun.now.value c.args.token.now c.load.new.token c.args.place
    c.load.result c.requires.reading c.load.ensures.table c.load.ensures.looked

pub returns-clause-told : goal.returns-clause-told
returns-clause-told c = loaded_word c.args.table.now c.args.begun.now.value c.args.token.now c.load.new.token
    c.args.place c.load.result c.requires.reading c.load.ensures.looked
