use Rattle.op_text.proofs.TextPieces.{behind-handed}
use Rattle.op_text.proofs.pieces.Pieces.hand_on.Goals as goal

pub returns-then-self-len-clause-given : goal.returns-then-self-len-clause-given
returns-then-self-len-clause-given g c =
    behind-handed _ _ c.put_front-handed.result c.args.self.now.from c.args.self.now.bytes.items
    (rw c.deref.ensures.value at c.put_front-handed.ensures.put)
