-- What is answered in a legal history can be written.
use Rattle.std.proofs.Common.{◌≡◌, ℕ, ◌==◌, Bool, true, false, List, [], ◌∷◌, length}
use Rattle.std.proofs.Common.{cond, Option, Some, None, refl, sym, subst, arith}
use Rattle.std.proofs.lemmas.List.Elements.{All-cons}
use Rattle.std.specs.Prelude.{All}
use Rattle.graph_kinds.specs.declared.answer.Answer.{Answer}
use Rattle.graph_kinds.specs.declared.call.Row.{Row}
use Rattle.graph_kinds.specs.declared.outcome.Outcome.{Outcome}
use Rattle.graph_kinds.specs.declared.outcome.Outcome.TheVariants as out
use Rattle.graph_kinds.specs.Answer.{answer}
use Rattle.graph_kinds.specs.Graph.{Graph, empty_graph}
use Rattle.graph_kinds.specs.History.{Demand, Every, IsInterleaving, IsLegal, Item, LegalFrom, Meets, answered}
use Rattle.graph_kinds.specs.History.{items_of, next}
use Rattle.op_text.specs.Text.{IsWritable}
use Rattle.op_text.proofs.Shown.{answer-shown}

-- an answer can be written
abbrev pub CanWrite : Answer → Type 0
CanWrite a = IsWritable a.outcome a.keys a.ends

-- so can the answer of an item, if it has one
abbrev CanWriteItem : Option Answer → Type 0
CanWriteItem None = Unit {0}
CanWriteItem (Some a) = CanWrite a

given : (g : Graph) (i : Item) (a : Answer) → a ≡ answer g i.call → CanWrite a
given g i a same = subst CanWrite (sym same) (answer-shown g i.call)

demanded : (o : Outcome) (a : Answer) (g : Graph) (i : Item) (later : List Item) → a.outcome ≡ o
    → Demand o a g i later → CanWrite a
demanded out.Again a g i later is d = subst (λ (o : Outcome). IsWritable o a.keys a.ends) (sym is) tt
demanded out.Full a g i later is d = subst (λ (o : Outcome). IsWritable o a.keys a.ends) (sym is) tt
demanded out.Overtaken a g i later is d = subst (λ (o : Outcome). IsWritable o a.keys a.ends) (sym is) tt
demanded out.Added a g i later is d = given g i a d
demanded (out.Present w) a g i later is d = given g i a d
demanded (out.Changed w) a g i later is d = given g i a d
demanded (out.Removed w) a g i later is d = given g i a d
demanded out.Absent a g i later is d = given g i a d
demanded out.Yes a g i later is d = given g i a d
demanded out.No a g i later is d = given g i a d
demanded (out.Edge w) a g i later is d = given g i a d
demanded out.NoVertex a g i later is d = given g i a d
demanded out.NoEdge a g i later is d = given g i a d
demanded out.Path a g i later is d = given g i a d
demanded (out.Cost c) a g i later is d = given g i a d
demanded out.NoPath a g i later is d = given g i a d
demanded (out.Levels n) a g i later is d = given g i a d
demanded out.Worn a g i later is d = given g i a d

meets : (r : Option Answer) (g : Graph) (i : Item) (later : List Item) → Meets r g i later → CanWriteItem r
meets None g i later m = tt
meets (Some a) g i later m = demanded a.outcome a g i later refl m

-- what holds of the answer of an item
abbrev WritesItem : Item → Type 0
WritesItem i = CanWriteItem i.reply

legal_writes : (g last : Graph) (h : List Item) → LegalFrom g h last → Every WritesItem h
legal_writes g last [] l = tt
legal_writes g last (i ∷ h) l =
    (meets i.reply g i h l.0, legal_writes (next g i.call i.reply) last h l.1)

every_kept : (P : Item → Type 0) (caller : ℕ) (xs : List Item) → Every P xs → Every P (items_of caller xs)
every_kept P caller [] h = tt
every_kept P caller (x ∷ xs) h = by (x.caller == caller) (every_kept P caller xs h.1)
  where
    by : (t : Bool) → Every P (items_of caller xs) → Every P (cond t (x ∷ items_of caller xs) (items_of caller xs))
    by true rest = (h.0, rest)
    by false rest = rest

rest_kept : (P : Item → Type 0) (caller : ℕ) (x : Item) (xs : List Item) → Every P (items_of caller (x ∷ xs))
    → Every P (items_of caller xs)
rest_kept P caller x xs h = by (x.caller == caller) h
  where
    by : (t : Bool) → Every P (cond t (x ∷ items_of caller xs) (items_of caller xs)) → Every P (items_of caller xs)
    by true k = k.1
    by false k = k

first_kept : (P : Item → Type 0) (x : Item) (xs : List Item) → Every P (items_of x.caller (x ∷ xs)) → P x
first_kept P x xs h =
    let same : (x.caller == x.caller) ≡ true = itself x.caller in
    let k : Every P (x ∷ items_of x.caller xs) =
    subst (λ (t : Bool). Every P (cond t (x ∷ items_of x.caller xs) (items_of x.caller xs))) same h in k.0
  where
    itself : (n : ℕ) → (n == n) ≡ true
    itself n = grind arith

-- what holds of the items of each caller holds of all
every_by_caller : (P : Item → Type 0) (xs : List Item) → ((caller : ℕ) → Every P (items_of caller xs)) → Every P xs
every_by_caller P [] h = tt
every_by_caller P (x ∷ xs) h =
    (first_kept P x xs (h x.caller), every_by_caller P xs (λ caller. rest_kept P caller x xs (h caller)))

replies_write : (rows : List Row) (replies : List Answer) → length replies ≡ length rows
    → Every WritesItem (answered rows replies) → All CanWrite replies
replies_write rows [] long h = λ k d low. absurd (omega (arith, low))
replies_write [] (a ∷ replies) long h = absurd (omega (arith, long))
replies_write (r ∷ rows) (a ∷ replies) long h = All-cons CanWrite a replies h.0
    (replies_write rows replies (omega (arith, long)) h.1)

-- the answers to rows in a legal history can be written
pub replies_can_be_written : (rows : List Row) (replies : List Answer) (h : List Item) (last : Graph)
    → IsInterleaving rows replies h → IsLegal h last → All (λ (a : Answer). IsWritable a.outcome a.keys a.ends) replies
replies_can_be_written rows replies h last is legal =
    replies_write rows replies is.one_each
    (every_by_caller WritesItem (answered rows replies)
    (λ caller. subst (λ (xs : List Item). Every WritesItem xs) (is.in_order caller)
    (every_kept WritesItem caller h (legal_writes empty_graph last h legal.steps))))
