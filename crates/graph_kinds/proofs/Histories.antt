-- An item that is answered Overtaken stands before the removal that overtook it, in a legal history.
use Rattle.std.proofs.Common.{◌≡◌, ◌≢◌, List, [], ◌∷◌, ◌++◌, Some, sym, ap, ◌∙◌, subst}
use Rattle.std.specs.Prelude.{Option}
use Rattle.graph_kinds.specs.declared.answer.Answer.{Answer}
use Rattle.graph_kinds.specs.declared.outcome.Outcome.{Outcome}
use Rattle.graph_kinds.specs.declared.outcome.Outcome.TheVariants.{Overtaken}
use Rattle.graph_kinds.specs.Graph.{Graph, empty_graph}
use Rattle.graph_kinds.specs.History.{Item, Every, Demand, Meets, LegalFrom, IsLegal, IsOvertaken, Overtakes, next}

-- an item of a history that is legal from a graph meets its demand on some graph
met_at : (g : Graph) (before later : List Item) (i : Item) (last : Graph) → LegalFrom g (before ++ i ∷ later) last →
    (x : Graph) × Meets i.reply x i later
met_at g [] later i last h = (g, h.0)
met_at g (j ∷ before) later i last h = met_at (next g j.call j.reply) before later i last h.1

overtaken_at : (before later : List Item) (i : Item) (r : Answer) (last : Graph) → i.reply ≡ Some r
    → r.outcome ≡ Overtaken → IsLegal (before ++ i ∷ later) last → (x : Graph) × IsOvertaken x i.caller i.call later
overtaken_at before later i r last is overtaken legal =
    let met = met_at empty_graph before later i last legal.steps in (
      met.0,
      subst (λ (o : Outcome). Demand o r met.0 i later) overtaken
          (subst (λ (reply : Option Answer). Meets reply met.0 i later) is met.1),
    )

-- the removal that overtook an item overtakes it
overtakes : (x : Graph) (i : Item) (later : List Item) (h : IsOvertaken x i.caller i.call later) → Overtakes h.removal i
overtakes x i later h = record { other = h.other; key = h.key; removes = h.removes; touched = h.touched; done = h.done }

-- what holds of every item holds of one
of_one : (P : Item → Type 0) (xs ys : List Item) (x : Item) → Every P (xs ++ x ∷ ys) → P x
of_one P [] ys x h = h.0
of_one P (y ∷ xs) ys x h = of_one P xs ys x h.1

pub not-without : (before later : List Item) (i : Item) (r : Answer) (last : Graph) → i.reply ≡ Some r
    → r.outcome ≡ Overtaken → Every (λ j. ¬ (Overtakes j i)) later → ¬ (IsLegal (before ++ i ∷ later) last)
not-without before later i r last is overtaken none legal =
    let found = overtaken_at before later i r last is overtaken legal in
    let h = found.1 in
    of_one (λ j. ¬ (Overtakes j i)) h.between h.beyond h.removal (subst (Every (λ j. ¬ (Overtakes j i))) h.whole none)
    (overtakes found.0 i later h)

-- the same list, split at two items: the first is the first of a caller, and no item before it is like the second
split : (i : Item) (next removal : Item) (xs ws ys zs : List Item) → xs ++ next ∷ ws ≡ ys ++ removal ∷ zs
    → next.caller ≡ i.caller → Every (λ j. ¬ (Overtakes j i)) xs → Every (λ (j : Item). j.caller ≢ i.caller) ys
    → removal.caller ≢ i.caller → Overtakes removal i → ⊥
split i next removal [] ws [] zs e own none alone other h =
    let same : next ≡ removal = cc in other (sym (ap (λ (j : Item). j.caller) same) ∙ own)
split i next removal [] ws (y ∷ ys) zs e own none alone other h =
    let same : next ≡ y = cc in alone.0 (sym (ap (λ (j : Item). j.caller) same) ∙ own)
split i next removal (x ∷ xs) ws [] zs e own none alone other h =
    let same : removal ≡ x = cc in none.0 (subst (λ (j : Item). Overtakes j i) same h)
split i next removal (x ∷ xs) ws (y ∷ ys) zs e own none alone other h =
    let rest : xs ++ next ∷ ws ≡ ys ++ removal ∷ zs = cc in split i next removal xs ws ys zs rest own none.1 alone.1
    other h

pub not-in_time : (before between beyond : List Item) (i next : Item) (r : Answer) (last : Graph) → i.reply ≡ Some r
    → r.outcome ≡ Overtaken → next.caller ≡ i.caller → Every (λ j. ¬ (Overtakes j i)) between → ¬
    (IsLegal (before ++ i ∷ (between ++ next ∷ beyond)) last)
not-in_time before between beyond i next r last is overtaken own none legal =
    let later = between ++ next ∷ beyond in
    let found = overtaken_at before later i r last is overtaken legal in
    let h = found.1 in
    split i next h.removal between beyond h.between h.beyond h.whole own none h.alone h.other
    (overtakes found.0 i later h)
