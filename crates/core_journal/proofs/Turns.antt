-- What books say of turns, and what stands at a place of their history.
use Rattle.std.proofs.Common.{◌≡◌, ◌≢◌, ℕ, zero, suc, ◌<◌, ◌≤◌, Bool, true, false, ◌&&◌, ◌==◌, List, [], ◌∷◌, ◌++◌}
use Rattle.std.proofs.Common.{length, take, map, filter, Option, Some, None, refl, sym, ap, subst, arith, inl, inr, ◌⊎◌}
use Rattle.std.proofs.Common.{eqb-true}
use Rattle.std.specs.Prelude.{slice_get}
use Rattle.graph_kinds.specs.declared.call.Call.{Call}
use Rattle.graph_kinds.specs.declared.call.Call.TheVariants.{RemoveVertex}
use Rattle.graph_kinds.specs.declared.outcome.Outcome.{Outcome}
use Rattle.graph_kinds.specs.declared.outcome.Outcome.TheVariants.{Overtaken, Full, Again}
use Rattle.graph_kinds.specs.declared.entry.Class.{Class}
use Rattle.graph_kinds.specs.declared.entry.Class.TheVariants.{Silent, Late, Own}
use Rattle.graph_kinds.specs.declared.entry.Entry.{Entry}
use Rattle.core_journal.specs.declared.book.Book.{Book}
use Rattle.graph_kinds.specs.History.{Item, Every, Touches}
use Rattle.graph_kinds.specs.Graph.{Graph, empty_graph, has}
use Rattle.graph_kinds.specs.Answer.{answer, alters, needs_node, after}
use Rattle.core_journal.specs.History.{Turn, same_class, stands, item, running, entries_at, or_running, items_at}
use Rattle.core_journal.specs.Right.{StandsAt, FramedFrom, IsAnswer, CallersApart}
use Rattle.core_journal.proofs.Lists.{every_append, every_map, every_both, every_none, every_all, every_filter}
use Rattle.core_journal.proofs.Lists.{every_mapped, every_flat}

-- the graph after what an event is to it
abbrev pub applied : Graph → Option Call → Graph
applied g None = g
applied g (Some c) = after g c

-- the graph after turns in order
abbrev pub after_turns : Graph → List Turn → Graph
after_turns g [] = g
after_turns g (t ∷ ts) = after_turns (applied g t.call) ts

-- a call alters the graph, where there is one
abbrev pub Does : Graph → Option Call → Type 0
Does g None = Unit {0}
Does g (Some c) = alters g c ≡ true

-- each call of a turn alters the graph at it
abbrev pub RunsFrom : Graph → List Turn → Type 0
RunsFrom g [] = Unit {0}
RunsFrom g (t ∷ ts) = Does g t.call × RunsFrom (applied g t.call) ts

-- a call of a turn alters the graph at it
pub runs_at : (g : Graph) (ts : List Turn) (p : ℕ) (t : Turn) → RunsFrom g ts → slice_get ts p ≡ Some t → Does
    (after_turns g (take p ts)) t.call
runs_at g [] p t r e = absurd (cc)
runs_at g (s ∷ ts) zero t r e = let same : s ≡ t = cc in subst (λ (x : Turn). Does g x.call) same r.0
runs_at g (s ∷ ts) (suc p) t r e = runs_at (applied g s.call) ts p t r.1 e

-- one more turn
pub after_turns-snoc : (g : Graph) (ts : List Turn) (t : Turn) → after_turns g (ts ++ t ∷ [])
    ≡ applied (after_turns g ts) t.call
after_turns-snoc g [] t = refl
after_turns-snoc g (s ∷ ts) t = after_turns-snoc (applied g s.call) ts t

abbrev pub SilentBy : Outcome → Graph → Entry → Type 0
SilentBy Again x e = Unit {0}
SilentBy Full x e = needs_node x e.call ≡ true
SilentBy _ x e = IsAnswer x e

-- a turn of another caller removes one of the call's keys
pub record IsCut (ts : List Turn) (caller : ℕ) (call : Call) (number : ℕ) : Type 0 where
  pub turn : Turn
  pub at : slice_get ts number ≡ Some turn
  pub other : turn.caller ≢ caller
  pub key : ℕ
  pub cuts : turn.call ≡ Some (RemoveVertex key)
  pub touched : Touches call key

pub record LateBy (ts : List Turn) (caller : ℕ) (e : Entry) : Type 0 where
  pub overtaken : e.answer.outcome ≡ Overtaken
  pub cut : IsCut ts caller e.call e.place

pub record IsCutLater (ts : List Turn) (caller : ℕ) (e : Entry) (x : Graph) : Type 0 where
  pub number : ℕ
  pub since : e.place < number
  pub until : number < e.end
  pub cut : IsCut ts caller e.call number
  pub there : has x cut.key ≡ true

abbrev pub OwnReplyBy : Outcome → List Turn → ℕ → Entry → Graph → Type 0
OwnReplyBy Overtaken ts caller e x = IsCutLater ts caller e x
OwnReplyBy _ ts caller e x = e.answer ≡ answer x e.call

abbrev pub graph_by_turns : List Turn → ℕ → Graph
graph_by_turns ts p = after_turns empty_graph (take p ts)

pub record OwnBy (ts : List Turn) (caller : ℕ) (e : Entry) : Type 0 where
  pub turn : Turn
  pub at : slice_get ts e.place ≡ Some turn
  pub by : turn.caller ≡ caller
  pub call : Call
  pub is : turn.call ≡ Some call
  pub leads : after (graph_by_turns ts e.place) e.call ≡ after (graph_by_turns ts e.place) call
  pub reply : OwnReplyBy e.answer.outcome ts caller e (graph_by_turns ts e.place)

abbrev pub StandsBy : Class → List Turn → ℕ → Entry → Type 0
StandsBy Silent ts caller e = SilentBy e.answer.outcome (graph_by_turns ts e.place) e
StandsBy Late ts caller e = LateBy ts caller e
StandsBy Own ts caller e = OwnBy ts caller e

-- a book that is right, framed and covering in turns
pub record BookIn (ts : List Turn) (b : Book) : Type 0 where
  pub right : Every (λ (e : Entry). StandsBy e.class ts b.caller e) b.entries
  pub framed : FramedFrom (length ts) 0 b.entries
  pub covers : (p : ℕ) (t : Turn) (c : Call) → slice_get ts p ≡ Some t → t.caller ≡ b.caller → t.call ≡ Some c → length
      (filter (stands Own p) b.entries) ≡ 1

class_is : (c d : Class) → same_class c d ≡ true → d ≡ c
class_is Silent Silent e = refl
class_is Silent Late e = absurd (cc)
class_is Silent Own e = absurd (cc)
class_is Late Silent e = absurd (cc)
class_is Late Late e = refl
class_is Late Own e = absurd (cc)
class_is Own Silent e = absurd (cc)
class_is Own Late e = absurd (cc)
class_is Own Own e = refl

-- an entry that passes the test stands there
pub stands_at : (c : Class) (p : ℕ) (e : Entry) → stands c p e ≡ true → StandsAt c p e
stands_at c p e h = by (same_class c e.class) (p == e.place) refl refl h
  where
    by : (s t : Bool) → same_class c e.class ≡ s → (p == e.place) ≡ t → (s && t) ≡ true → StandsAt c p e
    by true true f g h = record { class = class_is c e.class f; place = sym (eqb-true p e.place g) }
    by true false f g h = absurd (cc)
    by false t f g h = absurd (cc)

-- what the items at a place have, from what the entries have there
pub each_at : (c : Class) (p : ℕ) (B : Book → Type 0) (P : Item → Type 0) →
    ((b : Book) → B b → Every (λ (e : Entry). StandsAt c p e → P (item b.caller e)) b.entries) → (books : List Book)
    → Every B books → Every P (entries_at c p books)
each_at c p B P f books h = every_flat B P (λ (b : Book). map (item b.caller) (filter (stands c p) b.entries))
    (λ b k. every_mapped (λ e. P (item b.caller e)) P (item b.caller) (λ e q. q) (filter (stands c p) b.entries)
    (every_filter (λ e. StandsAt c p e → P (item b.caller e)) (λ e. P (item b.caller e)) (stands c p)
    (λ e q s. q (stands_at c p e s)) b.entries (f b k)))
    books h

-- later entries stand behind
pub all_since : (n least : ℕ) (es : List Entry) → FramedFrom n least es → Every (λ (e : Entry). least ≤ e.place) es
all_since n least [] f = tt
all_since n least (e ∷ es) f = (
  omega (arith, f.0.apart, f.0.since),
  every_map (λ (d : Entry). e.end ≤ d.place) (λ (d : Entry). least ≤ d.place)
      (λ d h. omega (arith, f.0.apart, f.0.since, f.0.until, h)) es (all_since n e.end es f.1),
)

-- an entry doesn't stand between the place and the end of another
abbrev pub IsOutside : Entry → Entry → Type 0
IsOutside e d = (d.place ≤ e.place) ⊎ (e.end ≤ d.place)

framed_grid : (n least : ℕ) (es : List Entry) → FramedFrom n least es → Every (λ (e : Entry). Every (IsOutside e) es) es
framed_grid n least [] f = tt
framed_grid n least (e ∷ es) f =
    let behind = all_since n e.end es f.1 in (
      (inl (omega arith), every_map (λ (d : Entry). e.end ≤ d.place) (IsOutside e) (λ d h. inr h) es behind),
      every_map (λ (d : Entry). (e.end ≤ d.place) × Every (IsOutside d) es)
          (λ (d : Entry). Every (IsOutside d) (e ∷ es)) (λ d h. (inl (omega (arith, f.0.until, h.0)), h.1)) es
          (every_both (λ (d : Entry). e.end ≤ d.place) (λ (d : Entry). Every (IsOutside d) es) es behind
          (framed_grid n e.end es f.1)),
    )

abbrev IsElse : Book → Book → Type 0
IsElse b c = (c.caller ≢ b.caller) ⊎ (c ≡ b)

apart_grid : (books : List Book) → CallersApart books → Every (λ (b : Book). Every (IsElse b) books) books
apart_grid [] h = tt
apart_grid (b ∷ bs) h = (
  (inr refl, every_map (λ (c : Book). c.caller ≢ b.caller) (IsElse b) (λ c ne. inl ne) bs h.0),
  every_map (λ (c : Book). (c.caller ≢ b.caller) × Every (IsElse c) bs) (λ (c : Book). Every (IsElse c) (b ∷ bs))
      (λ c k. (inl (λ e. k.0 (sym e)), k.1)) bs
      (every_both (λ (c : Book). c.caller ≢ b.caller) (λ (c : Book). Every (IsElse c) bs) bs h.0 (apart_grid bs h.1)),
)

-- facts of the own items, or of the one that runs
pub or_running_each : (P : Item → Type 0) (t : Turn) (xs : List Item) → Every P xs →
    ((c : Call) → t.call ≡ Some c → P (running t.caller c)) → Every P (or_running t xs)
or_running_each P t (i ∷ xs) h f = h
or_running_each P t [] h f = elim t.call as (λ o. t.call ≡ o → Every P
    (elim o as (λ _. List Item) [ None ↦ [] | Some c ↦ running t.caller c ∷ [] ])) [
      | None ↦ λ e. tt
      | Some c ↦ λ e. (f c e, tt)
    ] refl

-- no item of this caller stands at the numbers strictly between these two
abbrev pub IsFree : List Turn → List Book → ℕ → ℕ → ℕ → Type 0
IsFree ts books caller low high = (r : ℕ) (t : Turn) → low < r → r < high → slice_get ts r ≡ Some t → Every
    (λ (i : Item). i.caller ≢ caller) (items_at r t books)

entry_free : (ts : List Turn) (books : List Book) (b : Book) (e : Entry) → BookIn ts b → Every (IsElse b) books → Every
    (IsOutside e) b.entries → IsFree ts books b.caller e.place e.end
entry_free ts books b e k others outside r t low high at =
    every_append P (entries_at Silent r books) _ (none Silent)
    (every_append P (entries_at Late r books) _ (none Late)
    (or_running_each P t (entries_at Own r books) (none Own) still))
  where
    P : Item → Type 0
    P i = i.caller ≢ b.caller

    away : (c : Class) (d : Entry) → IsOutside e d → StandsAt c r d → ⊥
    away c d (inl h) s = omega (arith, h, s.place, low)
    away c d (inr h) s = omega (arith, h, s.place, high)

    one : (c : Class) (d : Book) → IsElse b d → Every (λ (x : Entry). StandsAt c r x → P (item d.caller x)) d.entries
    one c d (inl ne) = every_all (λ (x : Entry). StandsAt c r x → P (item d.caller x)) (λ x s. ne) d.entries
    one c d (inr same) = subst (λ (d : Book). Every (λ (x : Entry). StandsAt c r x → P (item d.caller x)) d.entries)
        (sym same)
        (every_map (IsOutside e) (λ (x : Entry). StandsAt c r x → P (item b.caller x))
        (λ x o s. absurd (away c x o s)) b.entries outside)

    none : (c : Class) → Every P (entries_at c r books)
    none c = each_at c r (IsElse b) P (one c) books others

    still : (c : Call) → t.call ≡ Some c → t.caller ≢ b.caller
    still c is same =
        let empty = every_none (filter (stands Own r) b.entries)
        (every_filter (IsOutside e) (λ _. ⊥) (stands Own r)
        (λ x o s. away Own x o (stands_at Own r x s)) b.entries outside) in
        omega (arith, k.covers r t c at same is, ap length empty)

-- what is known of each entry
pub record EntryIn (ts : List Turn) (books : List Book) (caller : ℕ) (e : Entry) : Type 0 where
  pub stands : StandsBy e.class ts caller e
  pub free : IsFree ts books caller e.place e.end

pub record BooksIn (ts : List Turn) (books : List Book) : Type 0 where
  pub apart : CallersApart books
  pub each : Every (BookIn ts) books

-- what is known of each entry of true books
pub entries_in : (ts : List Turn) (books : List Book) → BooksIn ts books → Every
    (λ (b : Book). Every (EntryIn ts books b.caller) b.entries) books
entries_in ts books h =
    every_map (λ (b : Book). BookIn ts b × Every (IsElse b) books)
    (λ (b : Book). Every (EntryIn ts books b.caller) b.entries) (λ b k. one b k.0 k.1) books
    (every_both (BookIn ts) (λ (b : Book). Every (IsElse b) books) books h.each (apart_grid books h.apart))
  where
    one : (b : Book) → BookIn ts b → Every (IsElse b) books → Every (EntryIn ts books b.caller) b.entries
    one b k others = every_map (λ (e : Entry). StandsBy e.class ts b.caller e × Every (IsOutside e) b.entries)
        (EntryIn ts books b.caller)
        (λ e g. record { stands = g.0; free = entry_free ts books b e k others g.1 }) b.entries
        (every_both (λ (e : Entry). StandsBy e.class ts b.caller e)
        (λ (e : Entry). Every (IsOutside e) b.entries) b.entries k.right
        (framed_grid (length ts) 0 b.entries k.framed))
