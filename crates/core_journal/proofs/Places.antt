-- The items at one place are legal on the graph there.
use Rattle.std.proofs.Common.{◌≡◌, ◌≢◌, ℕ, ◌+◌, ◌≤◌, true, List, [], ◌∷◌, ◌++◌, length, map, filter, Option, Some, None}
use Rattle.std.proofs.Common.{refl, sym, ap, ◌∙◌, subst, arith, append_assoc, length-append, inl, inr, ◌⊎◌}
use Rattle.std.specs.Prelude.{slice_get}
use mathlib.Core.Logic.{dite}
use native.Mathlib.Decide.{ℕ_discrete}
use Rattle.graph_kinds.specs.declared.call.Call.{Call}
use Rattle.graph_kinds.specs.declared.call.Call.TheVariants.{RemoveVertex}
use Rattle.graph_kinds.specs.declared.outcome.Outcome.{Outcome}
use Rattle.graph_kinds.specs.declared.outcome.Outcome.TheVariants.{Removed, Overtaken, Full, Again}
use Rattle.graph_kinds.specs.declared.entry.Class.{Class}
use Rattle.graph_kinds.specs.declared.entry.Class.TheVariants.{Silent, Late, Own}
use Rattle.graph_kinds.specs.declared.answer.Answer.{Answer}
use Rattle.graph_kinds.specs.declared.entry.Entry.{Entry}
use Rattle.core_journal.specs.declared.book.Book.{Book}
use Rattle.graph_kinds.specs.History.{Item, Every, Touches, Removes, Demand, Meets, left_by, next, LegalFrom}
use Rattle.graph_kinds.specs.History.{IsOvertaken}
use Rattle.graph_kinds.specs.Graph.{Graph, empty_graph, has}
use Rattle.graph_kinds.specs.Answer.{answer, after}
use Rattle.core_journal.specs.History.{Turn, stands, item, running, entries_at, or_running, items_at, history_from}
use Rattle.core_journal.specs.Right.{StandsAt, CallersApart}
use Rattle.graph_kinds.proofs.Calls.{IsPlain, answer-plain, after_same}
use Rattle.core_journal.proofs.Calls.{removes_there, answers_removed, there_removed, only_removal, same_removal}
use Rattle.core_journal.proofs.Turns.{Does, RunsFrom, runs_at, SilentBy, OwnReplyBy, OwnBy, StandsBy}
use Rattle.core_journal.proofs.Turns.{BookIn, graph_by_turns}
use Rattle.core_journal.proofs.Turns.{stands_at, each_at, IsFree, EntryIn, BooksIn, entries_in}
use Rattle.core_journal.proofs.Lists.{every_append, every_left, every_right, every_map, every_both, every_none}
use Rattle.core_journal.proofs.Lists.{every_filter, get_short, get_here}

pub record IsQuietItem (x : Graph) (i : Item) : Type 0 where
  pub meets : (later : List Item) → Meets i.reply x i later
  pub stays : next x i.call i.reply ≡ x

-- items that change nothing are legal before legal ones
pub silent_legal : (x last : Graph) (items later : List Item) → Every (IsQuietItem x) items → LegalFrom x later last
    → LegalFrom x (items ++ later) last
silent_legal x last [] later q l = l
silent_legal x last (i ∷ items) later q l = (
  q.0.meets (items ++ later),
  subst
      (λ (g : Graph). LegalFrom g (items ++ later) last) (sym q.0.stays) (silent_legal x last items later q.1 l),
)

-- an entry that gives the graph's answer
pub plain_item : (o : Outcome) (x : Graph) (caller : ℕ) (e : Entry) (later : List Item) → e.answer.outcome ≡ o
    → e.answer ≡ answer x e.call → Demand o e.answer x (item caller e) later × (left_by o x e.call ≡ after x e.call)
plain_item Overtaken x caller e later out r = absurd (subst IsPlain (sym (ap (λ (y : Answer). y.outcome) r) ∙ out)
    (answer-plain x e.call))
plain_item Full x caller e later out r = absurd (subst IsPlain (sym (ap (λ (y : Answer). y.outcome) r) ∙ out)
    (answer-plain x e.call))
plain_item Again x caller e later out r = absurd (subst IsPlain (sym (ap (λ (y : Answer). y.outcome) r) ∙ out)
    (answer-plain x e.call))
plain_item _ x caller e later out r = (r, refl)

quiet_by : (o : Outcome) (x : Graph) (caller : ℕ) (e : Entry) → e.answer.outcome ≡ o → SilentBy o x e →
    ((later : List Item) → Demand o e.answer x (item caller e) later) × (left_by o x e.call ≡ x)
quiet_by Again x caller e out s = (λ later. tt, refl)
quiet_by Full x caller e out s = (λ later. s, refl)
quiet_by o x caller e out s = (
  λ later. (plain_item o x caller e later out s.reply).0,
  (plain_item o x caller e [] out s.reply).1 ∙ after_same x e.call s.stays,
)

quiet_entry : (x : Graph) (caller : ℕ) (e : Entry) → SilentBy e.answer.outcome x e → IsQuietItem x (item caller e)
quiet_entry x caller e s = let both = quiet_by e.answer.outcome x caller e refl s in record
    { meets = both.0; stays = both.1 }

-- silent entries are such items
pub silent_items : (ts : List Turn) (books : List Book) (p : ℕ) → Every
    (λ (b : Book). Every (EntryIn ts books b.caller) b.entries) books → Every (IsQuietItem (graph_by_turns ts p))
    (entries_at Silent p books)
silent_items ts books p h = each_at Silent p (λ (b : Book). Every (EntryIn ts books b.caller) b.entries)
    (IsQuietItem (graph_by_turns ts p))
    (λ b k. every_map (EntryIn ts books b.caller)
    (λ (e : Entry). StandsAt Silent p e → IsQuietItem (graph_by_turns ts p)
    (item b.caller e)) (λ e g s. one b.caller e g s) b.entries k) books h
  where
    one : (caller : ℕ) (e : Entry) → EntryIn ts books caller e → StandsAt Silent p e → IsQuietItem (graph_by_turns ts p)
        (item caller e)
    one caller e g s = quiet_entry (graph_by_turns ts p) caller e
        (subst (λ (q : ℕ). SilentBy e.answer.outcome (graph_by_turns ts q) e) s.place
        (subst (λ (c : Class). StandsBy c ts caller e) s.class g.stands))

-- an own entry at p, where the turn t makes the call c
pub record IsOwnItem (ts : List Turn) (books : List Book) (p : ℕ) (t : Turn) (c : Call) (i : Item) : Type 0 where
  pub entry : Entry
  pub is : i ≡ item t.caller entry
  pub place : entry.place ≡ p
  pub leads : after (graph_by_turns ts p) entry.call ≡ after (graph_by_turns ts p) c
  pub reply : OwnReplyBy entry.answer.outcome ts t.caller entry (graph_by_turns ts p)
  pub free : IsFree ts books t.caller entry.place entry.end

own_by : (ts : List Turn) (books : List Book) (caller : ℕ) (e : Entry) → EntryIn ts books caller e → e.class ≡ Own
    → OwnBy ts caller e
own_by ts books caller e g own = subst (λ (c : Class). StandsBy c ts caller e) own g.stands

-- the turn of an own entry
pub record IsTurnOf (t : Turn) (caller : ℕ) (ts : List Turn) (e : Entry) : Type 0 where
  pub by : t.caller ≡ caller
  pub call : Call
  pub is : t.call ≡ Some call
  pub leads : after (graph_by_turns ts e.place) e.call ≡ after (graph_by_turns ts e.place) call

turn_of : (ts : List Turn) (p : ℕ) (t : Turn) (caller : ℕ) (e : Entry) → slice_get ts p ≡ Some t → e.place ≡ p
    → OwnBy ts caller e → IsTurnOf t caller ts e
turn_of ts p t caller e at place o =
    let there : slice_get ts p ≡ Some o.turn = subst (λ (q : ℕ). slice_get ts q ≡ Some o.turn) place o.at in
    let same : o.turn ≡ t = cc in
    subst (λ (u : Turn). IsTurnOf u caller ts e) same (record { by = o.by; call = o.call; is = o.is; leads = o.leads })

own_item : (ts : List Turn) (books : List Book) (p : ℕ) (t : Turn) (c : Call) (caller : ℕ) (e : Entry)
    → slice_get ts p ≡ Some t → t.call ≡ Some c → EntryIn ts books caller e → StandsAt Own p e
    → IsOwnItem ts books p t c (item caller e)
own_item ts books p t c caller e at is g s =
    let o = own_by ts books caller e g s.class in
    let turn = turn_of ts p t caller e at s.place o in
    let call : turn.call ≡ c = some_call turn.call (sym turn.is ∙ is) in
    let h : EntryIn ts books t.caller e = subst (λ (u : ℕ). EntryIn ts books u e) (sym turn.by) g in
    let mine = own_by ts books t.caller e h s.class in
    record {
      entry = e;
      is = ap (λ (u : ℕ). item u e) (sym turn.by);
      place = s.place;
      leads = subst (λ (q : ℕ). after (graph_by_turns ts q) e.call ≡ after (graph_by_turns ts q) c) s.place
          (subst (λ (d : Call). after (graph_by_turns ts e.place) e.call ≡ after (graph_by_turns ts e.place) d) call
          turn.leads);
      reply = subst (λ (q : ℕ). OwnReplyBy e.answer.outcome ts t.caller e (graph_by_turns ts q)) s.place mine.reply;
      free = h.free;
    }
  where
    some_call : (d : Call) → Some d ≡ Some c → d ≡ c
    some_call d e = cc

-- an own entry stands at p only where the turn there is its caller's and makes a call
own_turn_at : (ts : List Turn) (p : ℕ) (t : Turn) (b : Book) → slice_get ts p ≡ Some t → BookIn ts b → Every
    (λ (e : Entry). StandsAt Own p e → IsTurnOf t b.caller ts e) b.entries
own_turn_at ts p t b at k = every_map (λ (e : Entry). StandsBy e.class ts b.caller e)
    (λ (e : Entry). StandsAt Own p e → IsTurnOf t b.caller ts e)
    (λ e g s. turn_of ts p t b.caller e at s.place (subst (λ (c : Class). StandsBy c ts b.caller e) s.class g))
    b.entries k.right

-- no entry of a class stands where none may
pub none_filtered : (c : Class) (p : ℕ) (es : List Entry) → Every (λ (e : Entry). StandsAt c p e → ⊥) es → filter
    (stands c p) es ≡ []
none_filtered c p es h = every_none (filter (stands c p) es) (every_filter (λ (e : Entry). StandsAt c p e → ⊥) (λ _. ⊥)
    (stands c p) (λ e f s. f (stands_at c p e s)) es h)

-- at most one own item stands at a place
own_few : (ts : List Turn) (p : ℕ) (t : Turn) → slice_get ts p ≡ Some t → (books : List Book) → CallersApart books
    → Every (BookIn ts) books → length (entries_at Own p books) ≤ 1
own_few ts p t at [] apart h = omega arith
own_few ts p t at (b ∷ bs) apart h =
    let own = own_turn_at ts p t b at h.0 in
    elim t.call as (λ o. t.call ≡ o → length (entries_at Own p (b ∷ bs)) ≤ 1) [
      | None ↦ λ none.
          let empty = none_filtered Own p b.entries (every_map
          (λ (e : Entry). StandsAt Own p e → IsTurnOf t b.caller ts e) (λ (e : Entry). StandsAt Own p e → ⊥)
          (λ e f s. let x = f s in absurd (made none x)) b.entries own) in
          short (item b.caller) (filter (stands Own p) b.entries) (entries_at Own p bs) (ap length empty)
          (own_few ts p t at bs apart.1 h.1)
      | Some c ↦ λ is. dite (ℕ_discrete t.caller b.caller)
          (λ same.
          let rest : entries_at Own p bs ≡ [] = every_none (entries_at Own p bs)
          (each_at Own p (λ (d : Book). (d.caller ≢ b.caller) × BookIn ts d) (λ _. ⊥)
          (λ d k. every_map (λ (e : Entry). StandsAt Own p e → IsTurnOf t d.caller ts e)
          (λ (e : Entry). StandsAt Own p e → ⊥) (λ e f s. k.0 (sym (f s).by ∙ same)) d.entries
          (own_turn_at ts p t d at k.1))
          bs (every_both (λ (d : Book). d.caller ≢ b.caller) (BookIn ts) bs apart.0 h.1)) in
          long (item b.caller) (filter (stands Own p) b.entries) (entries_at Own p bs) (h.0.covers p t c at same is)
          (ap length rest))
          (λ ne.
          let empty = none_filtered Own p b.entries (every_map
          (λ (e : Entry). StandsAt Own p e → IsTurnOf t b.caller ts e) (λ (e : Entry). StandsAt Own p e → ⊥)
          (λ e f s. absurd (ne (f s).by)) b.entries own) in
          short (item b.caller) (filter (stands Own p) b.entries) (entries_at Own p bs) (ap length empty)
          (own_few ts p t at bs apart.1 h.1))
    ] refl
  where
    made : {b : ℕ} {e : Entry} → t.call ≡ None → IsTurnOf t b ts e → ⊥
    made none x = let y = x.is in absurd (cc)

    length_map : (f : Entry → Item) (es : List Entry) → length (map f es) ≡ length es
    length_map f [] = refl
    length_map f (e ∷ es) = omega (arith, length_map f es)

    short : (f : Entry → Item) (es : List Entry) (rest : List Item) → length es ≡ 0 → length rest ≤ 1 → length
        (map f es ++ rest) ≤ 1
    short f es rest none few = omega (arith, length-append (map f es) rest, length_map f es)

    long : (f : Entry → Item) (es : List Entry) (rest : List Item) → length es ≡ 1 → length rest ≡ 0 → length
        (map f es ++ rest) ≤ 1
    long f es rest one none = omega (arith, length-append (map f es) rest, length_map f es)

-- the one item of the turn
pub record IsOne (ts : List Turn) (books : List Book) (p : ℕ) (t : Turn) (c : Call) : Type 0 where
  pub it : Item
  pub list : or_running t (entries_at Own p books) ≡ it ∷ []
  pub kind : (it ≡ running t.caller c) ⊎ IsOwnItem ts books p t c it

-- where a turn makes a call, one item stands
pub one_here : (ts : List Turn) (books : List Book) (p : ℕ) (t : Turn) (c : Call) → BooksIn ts books
    → slice_get ts p ≡ Some t → t.call ≡ Some c → IsOne ts books p t c
one_here ts books p t c k at is =
    by (entries_at Own p books)
    (each_at Own p (λ (b : Book). Every (EntryIn ts books b.caller) b.entries) (IsOwnItem ts books p t c)
    (λ b h. every_map (EntryIn ts books b.caller) (λ (e : Entry). StandsAt Own p e → IsOwnItem ts books p t c
    (item b.caller e)) (λ e g s. own_item ts books p t c b.caller e at is g s) b.entries h) books
    (entries_in ts books k))
    (own_few ts p t at books k.apart k.each) refl
  where
    by : (xs : List Item) → Every (IsOwnItem ts books p t c) xs → length xs ≤ 1 → entries_at Own p books ≡ xs
        → IsOne ts books p t c
    by [] own few e = record {
      it = running t.caller c;
      list = ap (or_running t) e ∙ ap
          (λ (o : Option Call). elim o as (λ _. List Item) [ None ↦ [] | Some d ↦ running t.caller d ∷ [] ]) is;
      kind =
          inl refl;
    }
    by (i ∷ []) own few e = record { it = i; list = ap (or_running t) e; kind = inr own.0 }
    by (i ∷ j ∷ xs) own few e = absurd (omega arith)

-- where it makes none, none stands
pub none_here : (ts : List Turn) (books : List Book) (p : ℕ) (t : Turn) → BooksIn ts books → slice_get ts p ≡ Some t
    → t.call ≡ None → or_running t (entries_at Own p books) ≡ []
none_here ts books p t k at is =
    let empty : entries_at Own p books ≡ [] = every_none (entries_at Own p books) (each_at Own p (BookIn ts) (λ _. ⊥)
    (λ b h. every_map (λ (e : Entry). StandsAt Own p e → IsTurnOf t b.caller ts e) (λ (e : Entry). StandsAt Own p e → ⊥)
    (λ e f s. let y = (f s).is in absurd (cc)) b.entries (own_turn_at ts p t b at h)) books k.each) in
    ap (or_running t) empty ∙ ap (λ (o : Option Call). elim o as
    (λ _. List Item) [ None ↦ [] | Some d ↦ running t.caller d ∷ [] ]) is

-- the item removes the key, on each graph that has it
pub record IsRemoval (k : ℕ) (i : Item) : Type 0 where
  pub call : i.call ≡ RemoveVertex k
  pub done : Removes i.reply
  pub meets : (z : Graph) → has z k ≡ true → (later : List Item) → Meets i.reply z i later
  pub leads : (z : Graph) → next z i.call i.reply ≡ after z (RemoveVertex k)

own_removal : (x : Graph) (k caller : ℕ) (e : Entry) → has x k ≡ true → e.call ≡ RemoveVertex k
    → e.answer ≡ answer x e.call → IsRemoval k (item caller e)
own_removal x k caller e h call r =
    let reply : e.answer ≡ answer x (RemoveVertex k) = r ∙ ap (answer x) call in
    let out : e.answer.outcome ≡ Removed 0 = ap (λ (y : Answer). y.outcome) reply ∙ answers_removed x k h in
    record {
      call = call;
      done = out;
      meets = λ z there later. subst (λ (o : Outcome). Demand o e.answer z (item caller e) later) (sym out)
          (reply ∙ (same_removal x z k h there ∙ ap (answer z) (sym call)));
      leads = λ z. ap (λ (o : Outcome). left_by o z e.call) out ∙ ap (after z) call;
    }

not_cut : (o : Outcome) (ts : List Turn) (caller k : ℕ) (e : Entry) (x : Graph) → e.call ≡ RemoveVertex k
    → OwnReplyBy o ts caller e x → e.answer ≡ answer x e.call
not_cut Overtaken ts caller k e x call r = absurd (subst (λ (c : Call). Touches c r.cut.key) call r.cut.touched)
not_cut _ ts caller k e x call r = r

-- the item at a removal removes the key
pub removal_here : (ts : List Turn) (books : List Book) (p : ℕ) (t : Turn) (k : ℕ) (i : Item) → has
    (graph_by_turns ts p) k ≡ true → (i ≡ running t.caller (RemoveVertex k)) ⊎ IsOwnItem ts books p t (RemoveVertex k) i
    → IsRemoval k i
removal_here ts books p t k i h (inl e) = subst (IsRemoval k) (sym e)
    (record { call = refl; done = tt; meets = λ z there later. removes_there z k there; leads = λ z. refl })
removal_here ts books p t k i h (inr o) =
    let call = only_removal (graph_by_turns ts p) o.entry.call k h o.leads in
    subst (IsRemoval k) (sym o.is) (own_removal (graph_by_turns ts p) k t.caller o.entry h call
    (not_cut o.entry.answer.outcome ts t.caller k o.entry (graph_by_turns ts p) call o.reply))

-- the item at a turn is its caller's
pub item_by : (ts : List Turn) (books : List Book) (p : ℕ) (t : Turn) (c : Call) (i : Item) → (i ≡ running t.caller c)
    ⊎ IsOwnItem ts books p t c i → i.caller ≡ t.caller
item_by ts books p t c i (inl e) = ap (λ (j : Item). j.caller) e
item_by ts books p t c i (inr o) = ap (λ (j : Item). j.caller) o.is

pub record Found (caller : ℕ) (k : ℕ) (later : List Item) : Type 0 where
  pub between : List Item
  pub removal : Item
  pub beyond : List Item
  pub whole : later ≡ between ++ removal ∷ beyond
  pub alone : Every (λ (i : Item). i.caller ≢ caller) between
  pub other : removal.caller ≢ caller
  pub removes : IsRemoval k removal

-- an entry is overtaken by a removal that is found later
pub overtaken : (x : Graph) (caller : ℕ) (call : Call) (k : ℕ) (later : List Item) → Touches call k → has x k ≡ true
    → Found caller k later → IsOvertaken x caller call later
overtaken x caller call k later t h f = record {
  between = f.between;
  removal = f.removal;
  beyond = f.beyond;
  whole =
      f.whole;
  alone = f.alone;
  other = f.other;
  key = k;
  removes = f.removes.call;
  touched = t;
  there = h;
  done =
      f.removes.done;
}

-- a removal is found before the caller's next item
pub found : (ts : List Turn) (books : List Book) → BooksIn ts books → RunsFrom empty_graph ts → (caller k q : ℕ)
    (t : Turn) → slice_get ts q ≡ Some t → t.call ≡ Some (RemoveVertex k) → t.caller ≢ caller
    → (past ss : List Turn) (p : ℕ) → p ≡ length past → past ++ ss ≡ ts → p ≤ q
    → ((r : ℕ) (s : Turn) → p ≤ r → r ≤ q → slice_get ts r ≡ Some s → Every (λ (i : Item). i.caller ≢ caller)
    (items_at r s books))
    → Found caller k (history_from p ss books)
found ts books h runs caller k q t at cuts other past [] p here whole least free =
    absurd (omega (arith, get_short ts q t at, ap length whole, length-append past [], here, least))
found ts books h runs caller k q t at cuts other past (s ∷ ss) p here whole least free =
    let s_at : slice_get ts p ≡ Some s = subst (λ (l : List Turn). slice_get l p ≡ Some s) whole
    (subst (λ (n : ℕ). slice_get (past ++ s ∷ ss) n ≡ Some s) (sym here) (get_here past s ss)) in
    dite (ℕ_discrete p q)
    (λ same.
    let there : slice_get ts p ≡ Some t = subst (λ (n : ℕ). slice_get ts n ≡ Some t) (sym same) at in
    let is : s ≡ t = cc in
    let s_cuts : s.call ≡ Some (RemoveVertex k) = ap (λ (u : Turn). u.call) is ∙ cuts in
    let has_k : has (graph_by_turns ts p) k ≡ true = there_removed (graph_by_turns ts p) k
    (subst (Does (graph_by_turns ts p)) s_cuts (runs_at empty_graph ts p s runs s_at)) in
    let one = one_here ts books p s (RemoveVertex k) h s_at s_cuts in
    let all = free p s (omega arith) (omega arith) s_at in
    record {
      between = entries_at Silent p books ++ entries_at Late p books;
      removal = one.it;
      beyond = history_from (p + 1) ss books;
      whole = ap (λ (l : List Item). (entries_at Silent p books ++ (entries_at Late p books ++ l)) ++ history_from
          (p + 1) ss books) one.list
          ∙ (ap (λ (l : List Item). l ++ history_from (p + 1) ss books)
          (sym (append_assoc (entries_at Silent p books) (entries_at Late p books) (one.it ∷ [])))
          ∙ append_assoc (entries_at Silent p books ++ entries_at Late p books) (one.it ∷ [])
          (history_from (p + 1) ss books));
      alone = every_append (λ (i : Item). i.caller ≢ caller) (entries_at Silent p books) (entries_at Late p books)
          (every_left (λ (i : Item). i.caller ≢ caller) (entries_at Silent p books) _ all)
          (every_left (λ (i : Item). i.caller ≢ caller) (entries_at Late p books) _
          (every_right (λ (i : Item). i.caller ≢ caller) (entries_at Silent p books) _ all));
      other = λ e. other (ap (λ (u : Turn). u.caller) (sym is) ∙
          (sym (item_by ts books p s (RemoveVertex k) one.it one.kind) ∙ e));
      removes = removal_here ts books p s k one.it has_k one.kind;
    })
    (λ ne.
    let f = found ts books h runs caller k q t at cuts other (past ++ s ∷ []) ss (p + 1)
    (omega (arith, length-append past (s ∷ []), here)) (append_assoc past (s ∷ []) ss ∙ whole)
    (omega (arith, ne, least))
    (λ r u low high. free r u (omega arith) high) in
    record {
      between = items_at p s books ++ f.between;
      removal = f.removal;
      beyond = f.beyond;
      whole = ap (λ (l : List Item). items_at p s books ++ l) f.whole ∙ sym
          (append_assoc (items_at p s books) f.between (f.removal ∷ f.beyond));
      alone = every_append (λ (i : Item). i.caller ≢ caller) (items_at p s books) f.between
          (free p s (omega arith) least s_at) f.alone;
      other = f.other;
      removes = f.removes;
    })
