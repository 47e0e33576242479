-- What a book says of a front holds in each longer journal.
use Rattle.std.proofs.Common.{◌+◌, cond, Bool, true, false, ◌==◌, ◌≡◌, ℕ, ◌<◌, ◌≤◌, true, false, not, ◌&&◌, ◌==◌, List}
use Rattle.std.proofs.Common.{[], ◌∷◌, ◌++◌, length, take, drop, filter, Some, refl, sym, ap, ◌∙◌, subst, arith}
use Rattle.std.proofs.Common.{length-append, leb, leb-true, leb-false}
use Rattle.std.specs.Prelude.{slice_get}
use Rattle.graph_kinds.specs.declared.outcome.Outcome.{Outcome}
use Rattle.graph_kinds.specs.declared.outcome.Outcome.TheVariants.{Overtaken, Full, Again}
use Rattle.graph_kinds.specs.declared.entry.Class.{Class}
use Rattle.graph_kinds.specs.declared.entry.Class.TheVariants.{Silent, Late, Own}
use Rattle.core_journal.specs.Event.{counted}
use Rattle.core_journal.specs.declared.event.Event.{Event}
use Rattle.graph_kinds.specs.declared.entry.Entry.{Entry}
use Rattle.core_journal.specs.declared.book.Book.{Book}
use Rattle.packed_link.specs.Layout.{Sizes}
use Rattle.graph_kinds.specs.Answer.{answer, needs_node, after}
use Rattle.core_journal.specs.History.{same_class, stands}
use Rattle.graph_kinds.specs.History.{Every}
use Rattle.core_journal.specs.GraphOf.{graph_of, call_of, edge_of, changes, RegularFrom, IsRegular}
use Rattle.core_journal.specs.Life.{key_of}
use Rattle.core_journal.specs.Right.{NoneFree, StandsAt, InFrame, is_silent, FramedFrom, IsAnswer, RightSilent}
use Rattle.core_journal.specs.Right.{OwnReply, RightAs, Right, IsBookOf}
use Rattle.core_journal.proofs.Turns.{stands_at}
use Rattle.core_journal.proofs.Lists.{every_append, every_map, every_both, take_front, get_front, get_back}

regular_from : (past xs ys : List Event) → RegularFrom past (xs ++ ys) → RegularFrom past xs
regular_from past [] ys r = tt
regular_from past (e ∷ es) ys r = (r.0, regular_from (past ++ e ∷ []) es ys r.1)

-- a front of a regular journal is regular
pub regular_front : (front rest : List Event) → IsRegular (front ++ rest) → IsRegular front
regular_front front rest r = record { steps = regular_from [] front rest r.steps }

framed_more : (n m least : ℕ) (es : List Entry) → n ≤ m → FramedFrom n least es → FramedFrom m least es
framed_more n m least [] h f = tt
framed_more n m least (e ∷ es) h f = (
  record {
    apart = f.0.apart;
    since = f.0.since;
    until = f.0.until;
    within = omega
        (arith, f.0.within, h);
    before = f.0.before;
  },
  framed_more n m e.end es h f.1,
)

record IsWithin (n : ℕ) (e : Entry) : Type 0 where
  pub place : e.place ≤ n
  pub end : e.end ≤ n

all_within : (n least : ℕ) (es : List Entry) → FramedFrom n least es → Every (IsWithin n) es
all_within n least [] f = tt
all_within n least (e ∷ es) f = (
  record { place = omega (arith, f.0.until, f.0.within); end = f.0.within },
  all_within n
      e.end es f.1,
)

silent_more : (o : Outcome) (sizes : Sizes) (front rest : List Event) (caller : ℕ) (e : Entry) → IsWithin
    (length front) e → RightSilent o sizes front caller e → RightSilent o sizes (front ++ rest) caller e
silent_more Full sizes front rest caller e w h =
    record {
      reply = h.reply;
      needs = subst (λ (l : List Event). needs_node (graph_of l) e.call ≡ true)
          (sym (take_front front rest e.place w.place)) h.needs;
      number = h.number;
      since = h.since;
      until = h.until;
      none = subst (NoneFree sizes) (sym (take_front front rest h.number (omega (arith, h.until, w.end)))) h.none;
    }
silent_more Again sizes front rest caller e w h = record {
  reply = h.reply;
  place = h.place;
  lost = subst (λ (l : List Event). e.tries ≤ length (filter (λ (x : Event). counted x.kind && not (x.caller == caller))
      (drop e.start l))) (sym (take_front front rest e.end w.end)) h.lost;
}
silent_more _ sizes front rest caller e w h = subst (λ (l : List Event). IsAnswer (graph_of l) e)
    (sym (take_front front rest e.place w.place)) h

own_reply_more : (o : Outcome) (front rest : List Event) (caller : ℕ) (e : Entry) (event : Event) → IsWithin
    (length front) e → OwnReply o front caller e event → OwnReply o (front ++ rest) caller e event
own_reply_more Overtaken front rest caller e event w m = record {
  reply = m.reply;
  pair = m.pair;
  link = m.link;
  edge = subst (λ (l : List Event). edge_of l event ≡ Some m.link) (sym (take_front front rest e.place w.place)) m.edge;
  number = m.number;
  since = m.since;
  until = m.until;
  mark = m.mark;
  at = get_front front rest m.number m.mark m.at;
  other = m.other;
  marks = m.marks;
  life = m.life;
}
own_reply_more _ front rest caller e event w r = subst (λ (l : List Event). e.answer ≡ answer (graph_of l) e.call)
    (sym (take_front front rest e.place w.place)) r

right_more : (c : Class) (sizes : Sizes) (front rest : List Event) (caller : ℕ) (e : Entry) → IsWithin (length front) e
    → RightAs c sizes front caller e → RightAs c sizes (front ++ rest) caller e
right_more Silent sizes front rest caller e w h = silent_more e.answer.outcome sizes front rest caller e w h
right_more Late sizes front rest caller e w h = record {
  reply = h.reply;
  pair = h.pair;
  mark = h.mark;
  at = get_front front rest e.place h.mark h.at;
  other = h.other;
  marks = h.marks;
  key = h.key;
  key_is = subst (λ (l : List Event). key_of l h.mark.life ≡ Some h.key)
      (sym (take_front front rest e.place w.place)) h.key_is;
  touched = h.touched;
  number = h.number;
  since = h.since;
  until = h.until;
  made = h.made;
  made_at = get_front front rest h.number h.made h.made_at;
  made_by = h.made_by;
  made_call = subst (λ (l : List Event). call_of l h.made ≡ Some e.call)
      (sym (take_front front rest h.number (omega (arith, h.until, w.end)))) h.made_call;
}
right_more Own sizes front rest caller e w h = record {
  event = h.event;
  own = record {
    at = get_front front rest e.place h.event h.own.at;
    by = h.own.by;
    changing = subst (λ (l : List Event). changes l h.event ≡ true)
        (sym (take_front front rest e.place w.place)) h.own.changing;
    leads = subst (λ (l : List Event). graph_of (l ++ h.event ∷ []) ≡ after (graph_of l) e.call)
        (sym (take_front front rest e.place w.place)) h.own.leads;
  };
  reply = own_reply_more e.answer.outcome front rest caller e h.event w h.reply;
}

-- a book of a front is one of each longer journal in which its caller changes nothing behind the front
pub book_more : (sizes : Sizes) (front rest : List Event) (b : Book) → IsBookOf sizes front b
    → ((p : ℕ) (e : Event) → length front ≤ p → slice_get (front ++ rest) p ≡ Some e → e.caller ≡ b.caller → changes
    (take p (front ++ rest)) e ≡ false)
    → IsBookOf sizes (front ++ rest) b
book_more sizes front rest b h quiet = record {
  right = every_map (λ (e : Entry). Right sizes front b.caller e × IsWithin (length front) e)
      (λ (e : Entry). Right sizes (front ++ rest) b.caller e)
      (λ e g. right_more e.class sizes front rest b.caller e g.1 g.0) b.entries
      (every_both (λ (e : Entry). Right sizes front b.caller e) (IsWithin (length front)) b.entries h.right
      (all_within (length front) 0 b.entries h.framed.order));
  framed = record {
    order = framed_more (length front) (length (front ++ rest)) 0 b.entries
        (omega (arith, length-append front rest)) h.framed.order;
  };
  covers = λ p e at by turns. elim (leb (length front) p) as (λ x. leb (length front) p ≡ x → length
      (filter (stands Own p) b.entries) ≡ 1) [
        | true ↦ λ is. let f : true ≡ false = sym turns ∙ quiet p e (leb-true (length front) p is) at by in absurd (cc)
        | false ↦ λ is.
            let short : p < length front = leb-false (length front) p is in
            h.covers p e (sym (get_back front rest p short) ∙ at) by
            (subst (λ (l : List Event). changes l e ≡ true) (take_front front rest p (omega arith)) turns)
      ] refl;
}

framed_push : (n m least : ℕ) (es : List Entry) (e : Entry) → n ≤ m → least ≤ n → FramedFrom n least es → InFrame m n e
    → FramedFrom m least (es ++ e ∷ [])
framed_push n m least [] e h low f i = (
  record {
    apart = omega
        (arith, i.apart, low);
    since = i.since;
    until = i.until;
    within = i.within;
    before = i.before;
  },
  tt,
)
framed_push n m least (d ∷ es) e h low f i = (
  record {
    apart = f.0.apart;
    since = f.0.since;
    until = f.0.until;
    within = omega
        (arith, f.0.within, h);
    before = f.0.before;
  },
  framed_push n m d.end es e h f.0.within f.1 i,
)

every_push : (P : Entry → Type 0) (es : List Entry) (e : Entry) → Every P es → P e → Every P (es ++ e ∷ [])
every_push P es e h g = every_append P es (e ∷ []) h (g, tt)

filter_push : (test : Entry → Bool) (es : List Entry) (e : Entry) → length (filter test (es ++ e ∷ [])) ≡ length
    (filter test es) + length (filter test (e ∷ []))
filter_push test [] e = omega arith
filter_push test (d ∷ es) e = elim (test d) as (λ b. length (cond b (d ∷ filter test (es ++ e ∷ []))
    (filter test (es ++ e ∷ []))) ≡ length (cond b (d ∷ filter test es) (filter test es)) + length
    (filter test (e ∷ []))) [
      | true ↦ omega (arith, filter_push test es e)
      | false ↦ filter_push test es e
    ]

-- no own entry of a framed book stands at or behind its front's end
own_before : (n least p : ℕ) (es : List Entry) → n ≤ p → FramedFrom n least es → filter (stands Own p) es ≡ []
own_before n least p [] h f = refl
own_before n least p (e ∷ es) h f = by (own_before n e.end p es h f.1) (stands Own p e) refl
  where
    by : filter (stands Own p) es ≡ [] → (b : Bool) → stands Own p e ≡ b → filter (stands Own p) (e ∷ es) ≡ []
    by rest true is = let s = stands_at Own p e is in absurd (omega
        (arith, f.0.before (ap is_silent s.class), f.0.within, s.place, h))
    by rest false is = ap (λ b. cond b (e ∷ filter (stands Own p) es) (filter (stands Own p) es)) is ∙ rest

-- a call's entry: it starts at the old front's end, is right in the new front, and its event is the only one of its
-- caller that changes the graph in between
pub book_push : (sizes : Sizes) (front rest : List Event) (b : Book) (e : Entry) → IsBookOf sizes front b → InFrame
    (length (front ++ rest)) (length front) e → Right sizes (front ++ rest) b.caller e
    → ((p : ℕ) (event : Event) → length front ≤ p → slice_get (front ++ rest) p ≡ Some event → event.caller ≡ b.caller
    → changes (take p (front ++ rest)) event ≡ true → StandsAt Own p e)
    → IsBookOf sizes (front ++ rest) (record b { entries = b.entries ++ e ∷ [] })
book_push sizes front rest b e h i right only = record {
  right = every_push (λ (d : Entry). Right sizes (front ++ rest) b.caller d) b.entries e
      (every_map (λ (e : Entry). Right sizes front b.caller e × IsWithin (length front) e)
      (λ (e : Entry). Right sizes (front ++ rest) b.caller e)
      (λ e g. right_more e.class sizes front rest b.caller e g.1 g.0) b.entries
      (every_both (λ (e : Entry). Right sizes front b.caller e) (IsWithin (length front)) b.entries h.right
      (all_within (length front) 0 b.entries h.framed.order))) right;
  framed = record {
    order = framed_push (length front) (length (front ++ rest)) 0 b.entries e
        (omega (arith, length-append front rest)) (omega arith) h.framed.order i;
  };
  covers = λ p event at by turns. elim (leb (length front) p) as
      (λ x. leb (length front) p ≡ x → length (filter (stands Own p) (b.entries ++ e ∷ [])) ≡ 1) [
        | true ↦ λ is.
            let low = leb-true (length front) p is in
            let s = only p event low at by turns in
            omega (
              arith,
              filter_push (stands Own p) b.entries e,
              ap length
                  (own_before (length front) 0 p b.entries low h.framed.order),
              ap length (one_own p e s),
            )
        | false ↦ λ is.
            let short : p < length front = leb-false (length front) p is in
            let was = h.covers p event (sym (get_back front rest p short) ∙ at) by
            (subst (λ (l : List Event). changes l event ≡ true) (take_front front rest p (omega arith)) turns) in
            omega (
              arith,
              filter_push (stands Own p) b.entries e,
              was,
              ap length
                  (none_own p e (omega (arith, i.apart, i.since, short))),
            )
      ] refl;
}
  where
    equal : (n : ℕ) → (n == n) ≡ true
    equal n = grind arith

    one_own : (p : ℕ) (e : Entry) → StandsAt Own p e → filter (stands Own p) (e ∷ []) ≡ e ∷ []
    one_own p e s = ap (λ b. cond b (e ∷ []) []) ((λ i. same_class Own (s.class i) && (p == s.place i)) ∙ equal p)

    none_own : (p : ℕ) (e : Entry) → p < e.place → filter (stands Own p) (e ∷ []) ≡ []
    none_own p e less = by (stands Own p e) refl
      where
        by : (b : Bool) → stands Own p e ≡ b → filter (stands Own p) (e ∷ []) ≡ []
        by true is = let s = stands_at Own p e is in absurd (omega (arith, s.place, less))
        by false is = ap (λ b. cond b (e ∷ []) []) is
