-- The history of a journal and its books is legal, and ends in the journal's graph.
use Rattle.std.proofs.Common.{◌≡◌, ◌∙◌, List, length, map, subst}
use Rattle.graph_kinds.specs.Graph.{empty_graph}
use Rattle.graph_kinds.specs.History.{Every, LegalFrom, IsLegal, IsInterleaving, items_of, answered}
use Rattle.graph_kinds.specs.declared.answer.Answer.{Answer}
use Rattle.graph_kinds.specs.declared.call.Row.{Row}
use Rattle.packed_link.specs.Layout.{Sizes}
use Rattle.core_journal.specs.declared.event.Event.{Event}
use Rattle.core_journal.specs.declared.book.Book.{Book}
use Rattle.core_journal.specs.GraphOf.{graph_of, IsRegular}
use Rattle.core_journal.specs.History.{item, turns, history_of, history_from, history, HasBook, IsClosed, IsAnswered}
use Rattle.core_journal.specs.Right.{IsBookOf, CallersApart}
use Rattle.core_journal.specs.Order.{Placed, placed_from}
use Rattle.core_journal.proofs.Lists.{every_map, every_both}
use Rattle.core_journal.proofs.Standing.{rows_interleave, all_booked}
use Rattle.core_journal.proofs.Sorted.{items_placed}
use Rattle.core_journal.proofs.Walk.{legal_turns}
use Rattle.core_journal.proofs.Orders.{items_books, answered_all}
use Rattle.core_journal.proofs.Bridge.{closed_turns, books_in, runs_turns, last_turns}

-- the history is legal and ends in the graph
pub history_legal : (sizes : Sizes) (journal : List Event) (books : List Book) → IsRegular journal → CallersApart books
    → Every (IsBookOf sizes journal) books → IsLegal (history journal books) (graph_of journal)
unfolding history_of
history_legal sizes journal books r apart h = record {
  steps = subst (LegalFrom empty_graph (history_from 0 (turns journal) books)) (last_turns journal r)
      (legal_turns (turns journal) books (books_in sizes journal books r apart h) (runs_turns journal r));
}

-- a caller's items are the entries of its book
pub history_orders : (sizes : Sizes) (journal : List Event) (books : List Book) → IsRegular journal → CallersApart books
    → Every (IsBookOf sizes journal) books
    → Every (λ (b : Book). items_of b.caller (history journal books) ≡ map (item b.caller) b.entries) books
unfolding history_of
history_orders sizes journal books r apart h = items_books (turns journal) books
    (books_in sizes journal books r apart h)

-- in a closed journal each item has an answer
pub history_answered : (sizes : Sizes) (journal : List Event) (books : List Book) → IsRegular journal
    → CallersApart books → Every (IsBookOf sizes journal) books → IsClosed journal books → Every IsAnswered
    (history journal books)
unfolding history_of
history_answered sizes journal books r apart h closed = answered_all (turns journal) books
    (books_in sizes journal books r apart h).each (closed_turns journal books closed)

-- the placed items are those of the history
pub history_placed : (journal : List Event) (books : List Book) → map (λ (x : Placed). x.item)
    (placed_from 0 (turns journal) books) ≡ history journal books
unfolding history_of
history_placed journal books = items_placed 0 (turns journal) books

-- a closed history interleaves its rows
pub history_interleaves : (sizes : Sizes) (journal : List Event) (books : List Book) (rows : List Row)
    (replies : List Answer) → IsRegular journal → CallersApart books → Every (IsBookOf sizes journal) books
    → IsClosed journal books
    → length replies ≡ length rows → Every (λ (r : Row). HasBook r.caller books) rows → Every
    (λ (b : Book). map (item b.caller) b.entries ≡ items_of b.caller (answered rows replies)) books
    → IsInterleaving rows replies (history journal books)
unfolding history_of
history_interleaves sizes journal books rows replies r apart h closed long has each =
    rows_interleave books (history_from 0 (turns journal) books) rows replies long has
    (every_map (λ (b : Book). (items_of b.caller (history_from 0 (turns journal) books) ≡ map (item b.caller) b.entries)
    × (map (item b.caller) b.entries ≡ items_of b.caller (answered rows replies)))
    (λ (b : Book). items_of b.caller (history_from 0 (turns journal) books) ≡ items_of b.caller (answered rows replies))
    (λ b k. k.0 ∙ k.1) books
    (every_both (λ (b : Book). items_of b.caller (history_from 0 (turns journal) books) ≡ map (item b.caller) b.entries)
    (λ (b : Book). map (item b.caller) b.entries ≡ items_of b.caller (answered rows replies)) books
    (items_books (turns journal) books (books_in sizes journal books r apart h)) each))
    (all_booked (turns journal) books (closed_turns journal books closed))
