-- From a journal to its turns.
use Rattle.std.proofs.Common.{◌≡◌, ◌≢◌, ℕ, zero, suc, ◌<◌, ◌≤◌, Bool, true, false, cond, not, List, [], ◌∷◌, ◌++◌}
use Rattle.std.proofs.Common.{length, take, filter, Option, Some, None, refl, sym, ap, ◌∙◌, subst, arith, append_assoc}
use Rattle.std.proofs.Common.{append-nil, inl, inr, ◌⊎◌}
use Rattle.std.specs.Prelude.{slice_get, option_map, option_and_then}
use Rattle.graph_kinds.specs.declared.call.Call.{Call}
use Rattle.graph_kinds.specs.declared.call.Call.TheVariants.{RemoveVertex, AddEdge, RemoveEdge}
use Rattle.graph_kinds.specs.declared.outcome.Outcome.{Outcome}
use Rattle.graph_kinds.specs.declared.outcome.Outcome.TheVariants.{Overtaken, Full, Again}
use Rattle.graph_kinds.specs.declared.entry.Class.{Class}
use Rattle.graph_kinds.specs.declared.entry.Class.TheVariants.{Silent, Late, Own}
use Rattle.core_journal.specs.declared.event.Kind.{Kind}
use Rattle.core_journal.specs.declared.event.Kind.TheVariants.{MarkVertex, LinkEdge, MarkEdge, ReplaceEdge}
use Rattle.packed_link.specs.declared.link.Life.{Life}
use Rattle.core_journal.specs.declared.event.Event.{Event}
use Rattle.graph_kinds.specs.declared.entry.Entry.{Entry}
use Rattle.core_journal.specs.declared.book.Book.{Book}
use Rattle.packed_link.specs.Layout.{Sizes}
use Rattle.core_journal.specs.GraphOf.{both, ends_of, IsRegularEvent, CarriesOut, graph_of, call_of, call_by, edge_by}
use Rattle.core_journal.specs.GraphOf.{changes, same_graph, RegularFrom, IsRegular}
use Rattle.graph_kinds.specs.Graph.{Graph, empty_graph}
use Rattle.graph_kinds.specs.Answer.{after}
use Rattle.graph_kinds.specs.History.{Every, Touches}
use Rattle.core_journal.specs.History.{Turn, stands, turn, turns_from, turns, IsClosed, HasBook}
use Rattle.core_journal.specs.Life.{key_of}
use Rattle.core_journal.specs.Event.{marks_vertex}
use Rattle.core_journal.specs.Right.{FramedFrom, RightSilent, IsOwn, IsEdgeCall, IsMarkedAfter, OwnReply, RightOwn}
use Rattle.core_journal.specs.Right.{RightLate, RightAs, Right, IsBookOf, CallersApart}
use Rattle.core_journal.proofs.Calls.{same_graph_is, called_pair, IsEdgeChange, edge_change, one_pair, touches_first}
use Rattle.core_journal.proofs.Calls.{touches_second}
use Rattle.core_journal.proofs.Turns.{applied, after_turns, Does, RunsFrom, SilentBy, IsCut, LateBy, IsCutLater}
use Rattle.core_journal.proofs.Turns.{OwnReplyBy, OwnBy, StandsBy, BookIn, BooksIn, graph_by_turns}
use Rattle.core_journal.proofs.Lists.{every_map, get_short}
use Rattle.core_journal.proofs.KeptLives.{key_more}
use Rattle.graph_kinds.specs.declared.answer.Answer.{Answer}

-- an event that does not change the graph leaves it
pub unchanged : (past : List Event) (e : Event) → changes past e ≡ false → graph_of past ≡ graph_of (past ++ e ∷ [])
unfolding changes
unchanged past e h = same_graph_is (graph_of past) (graph_of (past ++ e ∷ []))
    (turned (same_graph (graph_of past) (graph_of (past ++ e ∷ []))) h)
  where
    turned : (b : Bool) → not b ≡ false → b ≡ true
    turned true h = refl
    turned false h = absurd (cc)

-- an event's turn takes the graph to the graph after the event
pub led : (past : List Event) (e : Event) → IsRegularEvent past e → graph_of (past ++ e ∷ []) ≡ applied (graph_of past)
    (turn past e).call
led past e k = by (changes past e) refl
  where
    by : (b : Bool) → changes past e ≡ b → graph_of (past ++ e ∷ []) ≡ applied (graph_of past)
        (cond b (call_of past e) None)
    by true is = let c = k.carried is in c.leads ∙ ap (applied (graph_of past)) (sym c.is)
    by false is = sym (unchanged past e is)

does_turn : (past : List Event) (e : Event) → IsRegularEvent past e → Does (graph_of past) (turn past e).call
does_turn past e k = by (changes past e) refl
  where
    by : (b : Bool) → changes past e ≡ b → Does (graph_of past) (cond b (call_of past e) None)
    by true is = let c = k.carried is in subst (Does (graph_of past)) (sym c.is) c.alters
    by false is = tt

runs_from : (past rest : List Event) → RegularFrom past rest → RunsFrom (graph_of past) (turns_from past rest)
runs_from past [] r = tt
runs_from past (e ∷ es) r = (
  does_turn past e r.0,
  subst (λ (g : Graph). RunsFrom g (turns_from (past ++ e ∷ []) es))
      (led past e r.0) (runs_from (past ++ e ∷ []) es r.1),
)

graph_from : (past rest : List Event) (p : ℕ) → RegularFrom past rest → after_turns (graph_of past)
    (take p (turns_from past rest)) ≡ graph_of (past ++ take p rest)
graph_from past [] zero r = ap graph_of (sym (append-nil past))
graph_from past [] (suc p) r = ap graph_of (sym (append-nil past))
graph_from past (e ∷ es) zero r = ap graph_of (sym (append-nil past))
graph_from past (e ∷ es) (suc p) r =
    ap (λ (g : Graph). after_turns g (take p (turns_from (past ++ e ∷ []) es))) (sym (led past e r.0)) ∙
    (graph_from (past ++ e ∷ []) es p r.1 ∙ ap graph_of (append_assoc past (e ∷ []) (take p es)))

graph_first : graph_of [] ≡ empty_graph
unfolding graph_of
graph_first = refl

-- the turns up to a place give the graph at that place
pub graph_turns : (journal : List Event) (p : ℕ) → IsRegular journal → graph_by_turns (turns journal) p ≡ graph_of
    (take p journal)
unfolding turns
graph_turns journal p r = ap (λ (g : Graph). after_turns g (take p (turns_from [] journal))) (sym graph_first)
    ∙ graph_from [] journal p r.steps

length_from : (past rest : List Event) → length (turns_from past rest) ≡ length rest
length_from past [] = refl
length_from past (e ∷ es) = omega (arith, length_from (past ++ e ∷ []) es)

-- there is one turn for each event
pub length_turns : (journal : List Event) → length (turns journal) ≡ length journal
unfolding turns
length_turns journal = length_from [] journal

take_whole : {A : Type 0} (xs : List A) → take (length xs) xs ≡ xs
take_whole [] = refl
take_whole (x ∷ xs) = ap (λ l. x ∷ l) (take_whole xs)

-- all turns give the graph of the journal
pub last_turns : (journal : List Event) → IsRegular journal → after_turns empty_graph (turns journal) ≡ graph_of journal
last_turns journal r = ap (after_turns empty_graph) (sym (take_whole (turns journal))) ∙
    (graph_turns journal (length (turns journal)) r ∙ ap graph_of
    (ap (λ n. take n journal) (length_turns journal) ∙ take_whole journal))

-- each call of a turn alters the graph before it
pub runs_turns : (journal : List Event) → IsRegular journal → RunsFrom empty_graph (turns journal)
unfolding turns
runs_turns journal r = subst (λ (g : Graph). RunsFrom g (turns_from [] journal)) graph_first
    (runs_from [] journal r.steps)

regular_from : (past rest : List Event) (p : ℕ) (e : Event) → RegularFrom past rest → slice_get rest p ≡ Some e
    → IsRegularEvent (past ++ take p rest) e
regular_from past [] p e r at = absurd (cc)
regular_from past (d ∷ es) zero e r at = let same : d ≡ e = cc in subst (λ (l : List Event). IsRegularEvent l e)
    (sym (append-nil past)) (subst (IsRegularEvent past) same r.0)
regular_from past (d ∷ es) (suc p) e r at = subst (λ (l : List Event). IsRegularEvent l e)
    (append_assoc past (d ∷ []) (take p es)) (regular_from (past ++ d ∷ []) es p e r.1 at)

-- each event of a regular journal is regular after those before it
pub regular_at : (journal : List Event) (p : ℕ) (e : Event) → IsRegular journal → slice_get journal p ≡ Some e
    → IsRegularEvent (take p journal) e
regular_at journal p e r at = regular_from [] journal p e r.steps at

turn_from : (past rest : List Event) (p : ℕ) (e : Event) → slice_get rest p ≡ Some e → slice_get
    (turns_from past rest) p ≡ Some (turn (past ++ take p rest) e)
turn_from past [] p e at = absurd (cc)
turn_from past (d ∷ es) zero e at = let same : d ≡ e = cc in ap Some
    (ap (turn past) same ∙ ap (λ (l : List Event). turn l e) (sym (append-nil past)))
turn_from past (d ∷ es) (suc p) e at = turn_from (past ++ d ∷ []) es p e at ∙ ap (λ (l : List Event). Some (turn l e))
    (append_assoc past (d ∷ []) (take p es))

-- the turn of the event at a place
pub turn_at : (journal : List Event) (p : ℕ) (e : Event) → slice_get journal p ≡ Some e → slice_get
    (turns journal) p ≡ Some (turn (take p journal) e)
unfolding turns
turn_at journal p e at = turn_from [] journal p e at

event_there : (journal : List Event) (p : ℕ) → p < length journal → (e : Event) × (slice_get journal p ≡ Some e)
event_there [] p h = absurd (omega arith)
event_there (e ∷ es) zero h = (e, refl)
event_there (e ∷ es) (suc p) h = event_there es p (omega arith)

-- a mark of a vertex with this key is its removal
marks_call : (past : List Event) (e : Event) (key : ℕ) → IsRegularEvent past e → marks_vertex e.kind ≡ true
    → key_of past e.life ≡ Some key → (turn past e).call ≡ Some (RemoveVertex key)
marks_call past e key k marks is = ap (λ b. cond b (call_of past e) None) (k.removal marks) ∙
    (by e.kind marks ∙ ap (option_map RemoveVertex) is)
  where
    by : (kind : Kind) → marks_vertex kind ≡ true → call_by kind past e ≡ option_map RemoveVertex (key_of past e.life)
    by MarkVertex h = refl
    by _ h = absurd (cc)

-- the edge event's call is on the pair of the keys of its lives
record IsOnPair (past : List Event) (link : Event) (c : Call) : Type 0 where
  pub edge : IsEdgeCall c
  pub source : key_of past link.source ≡ Some (called_pair c).0
  pub target : key_of past link.target ≡ Some (called_pair c).1

added_pair : (past : List Event) (link : Event) (w : ℕ) (c : Call) → (a b : Option ℕ) → key_of past link.source ≡ a
    → key_of past link.target ≡ b → option_map (λ p. AddEdge p.0 p.1 w) (both a b) ≡ Some c → IsOnPair past link c
added_pair past link w c (Some a) (Some b) s t e = let same : AddEdge a b w ≡ c = cc in subst (IsOnPair past link) same
    (record { edge = tt; source = s; target = t })
added_pair past link w c None b s t e = absurd (cc)
added_pair past link w c (Some a) None s t e = absurd (cc)

removed_pair : (past : List Event) (link : Event) (c : Call) → (a b : Option ℕ) → key_of past link.source ≡ a
    → key_of past link.target ≡ b → option_map (λ p. RemoveEdge p.0 p.1) (both a b) ≡ Some c → IsOnPair past link c
removed_pair past link c (Some a) (Some b) s t e = let same : RemoveEdge a b ≡ c = cc in subst (IsOnPair past link) same
    (record { edge = tt; source = s; target = t })
removed_pair past link c None b s t e = absurd (cc)
removed_pair past link c (Some a) None s t e = absurd (cc)

on_pair : (past : List Event) (e link : Event) (c : Call) → (k : Kind) → edge_by k past e ≡ Some link
    → call_by k past e ≡ Some c → IsOnPair past link c
on_pair past e link c LinkEdge is made =
    let same : e ≡ link = cc in
    subst (λ (l : Event). IsOnPair past l c) same (added_pair past e e.weight c (key_of past e.source)
    (key_of past e.target) refl refl made)
on_pair past e link c ReplaceEdge is made =
    let same : e ≡ link = cc in
    subst (λ (l : Event). IsOnPair past l c) same (added_pair past e e.weight c (key_of past e.source)
    (key_of past e.target) refl refl made)
on_pair past e link c MarkEdge is made =
    removed_pair past link c (key_of past link.source) (key_of past link.target) refl refl
    (ap (λ o. option_map (λ p. RemoveEdge p.0 p.1) (option_and_then (ends_of past) o)) (sym is) ∙ made)
on_pair past e link c _ is made = absurd (cc)

-- a mark at a later number removes the key that its life had
cut_at : (journal : List Event) (caller : ℕ) (call : Call) (number : ℕ) (mark : Event) (key : ℕ) → IsRegular journal
    → slice_get journal number ≡ Some mark → mark.caller ≢ caller → marks_vertex mark.kind ≡ true
    → key_of (take number journal) mark.life ≡ Some key → Touches call key → IsCut (turns journal) caller call number
cut_at journal caller call number mark key r at other marks is touched = record {
  turn = turn (take number journal) mark;
  at = turn_at journal number mark at;
  other = other;
  key = key;
  cuts = marks_call (take number journal) mark key (regular_at journal number mark r at) marks is;
  touched = touched;
}

late_right : (journal : List Event) (caller : ℕ) (e : Entry) → IsRegular journal → RightLate journal caller e → LateBy
    (turns journal) caller e
late_right journal caller e r h = record {
  overtaken = ap (λ (y : Answer). y.outcome) h.reply;
  cut = cut_at journal
      caller e.call e.place h.mark h.key r h.at h.other h.marks h.key_is h.touched;
}

take_split : (journal : List Event) (p q : ℕ) → p ≤ q → (more : List Event) × (take q journal ≡ take p journal ++ more)
take_split journal zero q h = (take q journal, refl)
take_split [] (suc p) zero h = absurd (omega arith)
take_split [] (suc p) (suc q) h = ([], refl)
take_split (e ∷ es) (suc p) zero h = absurd (omega arith)
take_split (e ∷ es) (suc p) (suc q) h = let f = take_split es p q (omega arith) in
    (f.0, ap (λ (l : List Event). e ∷ l) f.1)

cut_later : (journal : List Event) (caller : ℕ) (e : Entry) (event : Event) → IsRegular journal
    → IsOwn journal caller e event → IsMarkedAfter journal caller e event
    → IsCutLater (turns journal) caller e (graph_of (take e.place journal))
unfolding cut_at
cut_later journal caller e event r own m = by m.life
  where
    past : List Event
    past = take e.place journal

    k : CarriesOut past event
    k = (regular_at journal e.place event r own.at).carried own.changing

    c : Call
    c = k.call

    on : IsOnPair past m.link k.call
    on = on_pair past event m.link k.call event.kind m.edge k.is

    same : called_pair k.call ≡ called_pair e.call
    same = one_pair (graph_of past) e.call k.call m.pair on.edge k.alters (sym own.leads ∙ k.leads)

    ends : IsEdgeChange (graph_of past) k.call
    ends = edge_change (graph_of past) k.call on.edge k.alters

    key : (x : Life) (key : ℕ) → key_of past x ≡ Some key → m.mark.life ≡ x → key_of
        (take m.number journal) m.mark.life ≡ Some key
    key x n is life =
        let f = take_split journal e.place m.number (omega (arith, m.since)) in
        ap (key_of (take m.number journal)) life ∙ (ap (λ (l : List Event). key_of l x) f.1 ∙ key_more past f.0 x n is)

    by : (m.mark.life ≡ m.link.source) ⊎ (m.mark.life ≡ m.link.target) → IsCutLater (turns journal) caller e
        (graph_of past)
    by (inl life) = record {
      number = m.number;
      since = m.since;
      until = m.until;
      cut = cut_at journal caller e.call m.number m.mark (called_pair k.call).0 r m.at m.other m.marks
          (key m.link.source (called_pair k.call).0 on.source life)
          (touches_first e.call (called_pair k.call).0 m.pair (ap (λ (p : ℕ × ℕ). p.0) same));
      there = ends.source;
    }
    by (inr life) = record {
      number = m.number;
      since = m.since;
      until = m.until;
      cut = cut_at journal caller e.call m.number m.mark (called_pair k.call).1 r m.at m.other m.marks
          (key m.link.target (called_pair k.call).1 on.target life)
          (touches_second e.call (called_pair k.call).1 m.pair (ap (λ (p : ℕ × ℕ). p.1) same));
      there = ends.target;
    }

own_reply : (o : Outcome) (journal : List Event) (caller : ℕ) (e : Entry) (event : Event) → IsRegular journal
    → IsOwn journal caller e event → OwnReply o journal caller e event → OwnReplyBy o (turns journal) caller e
    (graph_of (take e.place journal))
own_reply Overtaken journal caller e event r own m = cut_later journal caller e event r own m
own_reply _ journal caller e event r own m = m

own_right : (journal : List Event) (caller : ℕ) (e : Entry) → IsRegular journal → RightOwn journal caller e → OwnBy
    (turns journal) caller e
own_right journal caller e r h =
    let k = (regular_at journal e.place h.event r h.own.at).carried h.own.changing in
    let x = graph_turns journal e.place r in
    record {
      turn = turn (take e.place journal) h.event;
      at = turn_at journal e.place h.event h.own.at;
      by = h.own.by;
      call = k.call;
      is = ap (λ b. cond b (call_of (take e.place journal) h.event) None) h.own.changing ∙ k.is;
      leads = subst (λ (g : Graph). after g e.call ≡ after g k.call) (sym x) (sym h.own.leads ∙ k.leads);
      reply = subst (OwnReplyBy e.answer.outcome (turns journal) caller e) (sym x)
          (own_reply e.answer.outcome journal caller e h.event r h.own h.reply);
    }

silent_right : (o : Outcome) (sizes : Sizes) (journal : List Event) (caller : ℕ) (e : Entry)
    → RightSilent o sizes journal caller e → SilentBy o (graph_of (take e.place journal)) e
silent_right Full sizes journal caller e h = h.needs
silent_right Again sizes journal caller e h = tt
silent_right _ sizes journal caller e h = h

entry_right : (c : Class) (sizes : Sizes) (journal : List Event) (caller : ℕ) (e : Entry) → IsRegular journal
    → RightAs c sizes journal caller e → StandsBy c (turns journal) caller e
entry_right Silent sizes journal caller e r h = subst (λ (g : Graph). SilentBy e.answer.outcome g e)
    (sym (graph_turns journal e.place r)) (silent_right e.answer.outcome sizes journal caller e h)
entry_right Late sizes journal caller e r h = late_right journal caller e r h
entry_right Own sizes journal caller e r h = own_right journal caller e r h

-- the event of a turn that makes a call
record IsEventOf (journal : List Event) (p : ℕ) (t : Turn) : Type 0 where
  pub event : Event
  pub at : slice_get journal p ≡ Some event
  pub by : event.caller ≡ t.caller
  pub turns : changes (take p journal) event ≡ true

event_of : (journal : List Event) (p : ℕ) (t : Turn) (c : Call) → slice_get (turns journal) p ≡ Some t → t.call ≡ Some c
    → IsEventOf journal p t
event_of journal p t c at is =
    let short : p < length journal = omega (arith, get_short (turns journal) p t at, length_turns journal) in
    let event = event_there journal p short in
    let other = turn_at journal p event.0 event.1 in
    let same : t ≡ turn (take p journal) event.0 = cc in
    record {
      event = event.0;
      at = event.1;
      by = ap (λ (u : Turn). u.caller) (sym same);
      turns = does (changes (take p journal) event.0) (call_of (take p journal) event.0)
          (ap (λ (u : Turn). u.call) (sym same) ∙ is);
    }
  where
    does : (bit : Bool) (o : Option Call) → cond bit o None ≡ Some c → bit ≡ true
    does true o e = refl
    does false o e = absurd (cc)

book_in : (sizes : Sizes) (journal : List Event) (b : Book) → IsRegular journal → IsBookOf sizes journal b → BookIn
    (turns journal) b
book_in sizes journal b r h = record {
  right = every_map (λ (e : Entry). Right sizes journal b.caller e)
      (λ (e : Entry). StandsBy e.class (turns journal) b.caller e)
      (λ e g. entry_right e.class sizes journal b.caller e r g) b.entries h.right;
  framed = subst (λ (n : ℕ). FramedFrom n 0 b.entries) (sym (length_turns journal)) h.framed.order;
  covers = covers;
}
  where
    covers : (p : ℕ) (t : Turn) (c : Call) → slice_get (turns journal) p ≡ Some t → t.caller ≡ b.caller
        → t.call ≡ Some c → length (filter (stands Own p) b.entries) ≡ 1
    covers p t c at by is =
        let f = event_of journal p t c at is in
        h.covers p f.event f.at (f.by ∙ by) f.turns

-- books that are true of a journal are true of its turns
pub books_in : (sizes : Sizes) (journal : List Event) (books : List Book) → IsRegular journal → CallersApart books
    → Every (IsBookOf sizes journal) books → BooksIn (turns journal) books
books_in sizes journal books r apart h = record {
  apart = apart;
  each = every_map (IsBookOf sizes journal)
      (BookIn (turns journal)) (λ b k. book_in sizes journal b r k) books h;
}

-- in a closed journal each call of a turn is of a caller with a book
pub closed_turns : (journal : List Event) (books : List Book) → IsClosed journal books → (p : ℕ) (t : Turn) (c : Call)
    → slice_get (turns journal) p ≡ Some t → t.call ≡ Some c → HasBook t.caller books
closed_turns journal books h p t c at is = let f = event_of journal p t c at is in subst
    (λ (n : ℕ). HasBook n books) f.by (h.has p f.event f.at f.turns)
