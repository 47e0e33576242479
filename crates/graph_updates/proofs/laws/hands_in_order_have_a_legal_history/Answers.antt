use Rattle.std.proofs.Common.{[], ◌∷◌}
use Rattle.core_journal.proofs.Laws.{history_legal}
use Rattle.core_lists.proofs.EffectOfKinds.{regular}
use Rattle.graph_updates.specs.Hands.{book_of}
use Rattle.graph_updates.proofs.laws.hands_in_order_have_a_legal_history.Goals as goal

pub returns : goal.returns
returns c = λ g h hand order.
    let v = h.token.view in
    history_legal v.sizes v.front (book_of v ∷ []) (regular v.sizes hand.of.layout v.front hand.of.sound.kept) (tt, tt)
    (order.book, tt)
