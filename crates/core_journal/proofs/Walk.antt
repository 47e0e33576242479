-- The history of turns is legal, place after place.
use Rattle.std.proofs.Common.{◌≡◌, ◌≢◌, ℕ, ◌+◌, ◌<◌, ◌≤◌, true, false, cond, List, [], ◌∷◌, ◌++◌, length, take, map}
use Rattle.std.proofs.Common.{filter, Option, Some, None, refl, sym, ap, ◌∙◌, subst, arith, append_assoc, append-nil}
use Rattle.std.proofs.Common.{length-append, inl, inr, ◌⊎◌}
use Rattle.std.specs.Prelude.{slice_get}
use Rattle.graph_kinds.specs.declared.call.Call.{Call}
use Rattle.graph_kinds.specs.declared.call.Call.TheVariants.{RemoveVertex}
use Rattle.graph_kinds.specs.declared.outcome.Outcome.{Outcome}
use Rattle.graph_kinds.specs.declared.outcome.Outcome.TheVariants.{Overtaken}
use Rattle.graph_kinds.specs.declared.entry.Class.{Class}
use Rattle.graph_kinds.specs.declared.entry.Class.TheVariants.{Silent, Late, Own}
use Rattle.graph_kinds.specs.declared.entry.Entry.{Entry}
use Rattle.core_journal.specs.declared.book.Book.{Book}
use Rattle.graph_kinds.specs.History.{Item, Every, Touches, Demand, Meets, left_by, next, LegalFrom, IsOvertaken}
use Rattle.graph_kinds.specs.Graph.{Graph, empty_graph, has}
use Rattle.graph_kinds.specs.Answer.{alters, after}
use Rattle.core_journal.specs.History.{Turn, stands, item, running, entries_at, or_running, history_from}
use Rattle.core_journal.proofs.Turns.{applied, after_turns}
use Rattle.core_journal.specs.Right.{StandsAt, is_silent, FramedFrom, CallersApart}
use Rattle.core_journal.proofs.Calls.{there_removed, AlikeFor, alike_edge, alike_trans}
use Rattle.core_journal.proofs.Turns.{all_since, Does, RunsFrom, runs_at, after_turns-snoc, LateBy}
use Rattle.core_journal.proofs.Turns.{IsCutLater, OwnReplyBy}
use Rattle.core_journal.proofs.Turns.{OwnBy, StandsBy, BookIn, graph_by_turns, stands_at, each_at, IsFree, BooksIn}
use Rattle.core_journal.proofs.Turns.{entries_in}
use Rattle.core_journal.proofs.Places.{silent_legal, silent_items, plain_item, IsOwnItem, none_filtered, one_here}
use Rattle.core_journal.proofs.Places.{none_here, IsRemoval, removal_here, item_by, overtaken, found}
use Rattle.core_journal.proofs.Lists.{every_map, every_none, every_all, every_filter, get_short, get_here, take_here}

-- at most one late entry of a book stands at a place
late_few : (n least p : ℕ) (es : List Entry) → FramedFrom n least es → length (filter (stands Late p) es) ≤ 1
late_few n least p [] f = omega arith
late_few n least p (e ∷ es) f = elim (stands Late p e) as (λ b. stands Late p e ≡ b → length
    (cond b (e ∷ filter (stands Late p) es) (filter (stands Late p) es)) ≤ 1) [
      | false ↦ λ _. late_few n e.end p es f.1
      | true ↦ λ is.
          let s = stands_at Late p e is in
          let short : e.place < e.end = f.0.before (ap is_silent s.class) in
          let empty = none_filtered Late p es (every_map (λ (d : Entry). e.end ≤ d.place)
          (λ (d : Entry). StandsAt Late p d → ⊥) (λ d h t. omega (arith, h, t.place, s.place, short)) es
          (all_since n e.end es f.1)) in
          omega (arith, ap length empty)
    ] refl

record IsLateOf (t : Turn) (k caller : ℕ) (e : Entry) : Type 0 where
  pub overtaken : e.answer.outcome ≡ Overtaken
  pub other : t.caller ≢ caller
  pub touched : Touches e.call k

late_cut : (ts : List Turn) (p : ℕ) (t : Turn) (c : Call) (caller : ℕ) (e : Entry) → slice_get ts p ≡ Some t
    → t.call ≡ Some c → StandsBy e.class ts caller e → StandsAt Late p e → (k : ℕ) × (c ≡ RemoveVertex k)
    × IsLateOf t k caller e
late_cut ts p t c caller e at is g s =
    let late : LateBy ts caller e = subst (λ (d : Class). StandsBy d ts caller e) s.class g in
    let there : slice_get ts p ≡ Some late.cut.turn = subst (λ (q : ℕ). slice_get ts q ≡ Some late.cut.turn) s.place
    late.cut.at in
    let same : late.cut.turn ≡ t = cc in
    let cuts : t.call ≡ Some (RemoveVertex late.cut.key) = subst
    (λ (u : Turn). u.call ≡ Some (RemoveVertex late.cut.key)) same late.cut.cuts in (
      late.cut.key,
      cc,
      record {
        overtaken = late.overtaken;
        other = subst
            (λ (u : Turn). u.caller ≢ caller) same late.cut.other;
        touched = late.cut.touched;
      },
    )

late_at : (ts : List Turn) (p : ℕ) (t : Turn) (k : ℕ) (caller : ℕ) (e : Entry) → slice_get ts p ≡ Some t → t.call ≡ Some
    (RemoveVertex k) → StandsBy e.class ts caller e → StandsAt Late p e → IsLateOf t k caller e
late_at ts p t k caller e at is g s =
    let f = late_cut ts p t (RemoveVertex k) caller e at is g s in
    let same : f.0 ≡ k = cc in
    subst (λ (j : ℕ). IsLateOf t j caller e) same f.2

late_legal : (ts : List Turn) (p : ℕ) (t : Turn) (k : ℕ) → slice_get ts p ≡ Some t → t.call ≡ Some (RemoveVertex k) →
    (it : Item) → it.caller ≡ t.caller → IsRemoval k it → (x last : Graph) (rest : List Item)
    → ((z : Graph) → AlikeFor k x z → LegalFrom z (it ∷ rest) last) → (bs : List Book) → CallersApart bs → Every
    (BookIn ts) bs → (y : Graph) → AlikeFor k x y → LegalFrom y (entries_at Late p bs ++ it ∷ rest) last
late_legal ts p t k at is it its removes x last rest ends [] apart h y a = ends y a
late_legal ts p t k at is it its removes x last rest ends (b ∷ bs) apart h y a =
    by (λ z c. late_legal ts p t k at is it its removes x last rest ends bs apart.1 h.1 z c)
    (filter (stands Late p) b.entries)
    (every_filter (λ (e : Entry). StandsBy e.class ts b.caller e) (IsLateOf t k b.caller) (stands Late p)
    (λ e g s. late_at ts p t k b.caller e at is g (stands_at Late p e s)) b.entries h.0.right)
    (late_few (length ts) 0 p b.entries h.0.framed)
  where
    by : ((z : Graph) → AlikeFor k x z → LegalFrom z (entries_at Late p bs ++ it ∷ rest) last) → (es : List Entry)
        → Every (IsLateOf t k b.caller) es → length es ≤ 1 → LegalFrom y
        ((map (item b.caller) es ++ entries_at Late p bs) ++ it ∷ rest) last
    by go [] late few = go y a
    by go (e ∷ []) late few = (
      subst (λ (o : Outcome). Demand o e.answer y (item b.caller e) (entries_at Late p bs ++ it ∷ rest))
          (sym late.0.overtaken)
          (record {
            between = entries_at Late p bs;
            removal = it;
            beyond = rest;
            whole = refl;
            alone = each_at Late p (λ (d : Book). d.caller ≢ b.caller) (λ (i : Item). i.caller ≢ b.caller)
                (λ d ne. every_all (λ (e : Entry). StandsAt Late p e → d.caller ≢ b.caller) (λ e s. ne) d.entries) bs
                apart.0;
            other = λ e. late.0.other (sym its ∙ e);
            key = k;
            removes = removes.call;
            touched = late.0.touched;
            there = a.there;
            done = removes.done;
          }),
      subst (λ (o : Outcome). LegalFrom (left_by o y e.call) (entries_at Late p bs ++ it ∷ rest) last)
          (sym late.0.overtaken)
          (go (after y e.call) (alike_trans k x y (after y e.call) a (alike_edge k y e.call a.there late.0.touched))),
    )
    by go (e ∷ d ∷ es) late few = absurd (omega arith)

-- no late item stands where no vertex is removed
no_late : (ts : List Turn) (p : ℕ) (t : Turn) → slice_get ts p ≡ Some t → ((k : ℕ) → t.call ≢ Some (RemoveVertex k)) →
    (books : List Book) → Every (BookIn ts) books → entries_at Late p books ≡ []
no_late ts p t at other books h = every_none (entries_at Late p books) (each_at Late p (BookIn ts) (λ _. ⊥)
    (λ b k. every_map (λ (e : Entry). StandsBy e.class ts b.caller e) (λ (e : Entry). StandsAt Late p e → ⊥)
    (λ e g s. one b.caller e g s) b.entries k.right) books h)
  where
    one : (caller : ℕ) (e : Entry) → StandsBy e.class ts caller e → StandsAt Late p e → ⊥
    one caller e g s =
        let late : LateBy ts caller e = subst (λ (d : Class). StandsBy d ts caller e) s.class g in
        let there : slice_get ts p ≡ Some late.cut.turn = subst
        (λ (q : ℕ). slice_get ts q ≡ Some late.cut.turn) s.place late.cut.at in
        let same : late.cut.turn ≡ t = cc in
        other late.cut.key (subst (λ (u : Turn). u.call ≡ Some (RemoveVertex late.cut.key)) same late.cut.cuts)

own_meets : (o : Outcome) (ts : List Turn) (caller : ℕ) (e : Entry) (x : Graph) (later : List Item) →
    (IsCutLater ts caller e x → IsOvertaken x caller e.call later) → e.answer.outcome ≡ o → OwnReplyBy o ts caller e x
    → Demand o e.answer x (item caller e) later × (left_by o x e.call ≡ after x e.call)
own_meets Overtaken ts caller e x later f out r = (f r, refl)
own_meets o ts caller e x later f out r = plain_item o x caller e later out r

-- the item of a turn is legal on the graph there
pub record IsFit (x : Graph) (c : Call) (i : Item) (later : List Item) : Type 0 where
  pub meets : Meets i.reply x i later
  pub leads : next x i.call i.reply ≡ after x c

item_fits : (ts : List Turn) (books : List Book) (p : ℕ) (t : Turn) (c : Call) (i : Item) (later : List Item) → alters
    (graph_by_turns ts p) c ≡ true
    → ((e : Entry) → IsFree ts books t.caller e.place e.end → e.place ≡ p →
    IsCutLater ts t.caller e (graph_by_turns ts p)
    → IsOvertaken (graph_by_turns ts p) t.caller e.call later)
    → (i ≡ running t.caller c) ⊎ IsOwnItem ts books p t c i → IsFit (graph_by_turns ts p) c i later
item_fits ts books p t c i later does f (inl e) = subst (λ (j : Item). IsFit (graph_by_turns ts p) c j later) (sym e)
    (record { meets = does; leads = refl })
item_fits ts books p t c i later does f (inr o) =
    let both = own_meets o.entry.answer.outcome ts t.caller o.entry (graph_by_turns ts p) later
    (f o.entry o.free o.place) refl o.reply in
    subst (λ (j : Item). IsFit (graph_by_turns ts p) c j later) (sym o.is)
    (record { meets = both.0; leads = both.1 ∙ o.leads })

graph_here : (ts past ss : List Turn) (p : ℕ) → p ≡ length past → past ++ ss ≡ ts
    → graph_by_turns ts p ≡ after_turns empty_graph past
graph_here ts past ss p here whole = ap (after_turns empty_graph)
    (ap (λ (n : ℕ). take n ts) here ∙ (ap (take (length past)) (sym whole) ∙ take_here past ss))

at_turn : (x last : Graph) (late later : List Item) (c : Option Call) → LegalFrom (applied x c) later last → c ≡ None
    → late ≡ [] → (own : List Item) → own ≡ [] → LegalFrom x (late ++ (own ++ later)) last
at_turn x last late later c l none empty own gone =
    let l' : LegalFrom x later last = subst (λ (o : Option Call). LegalFrom (applied x o) later last) none l in
    subst (λ (xs : List Item). LegalFrom x (xs ++ (own ++ later)) last) (sym empty)
    (subst (λ (xs : List Item). LegalFrom x (xs ++ later) last) (sym gone) l')

one_turn : (x last : Graph) (late later : List Item) (c : Call) (i : Item) → LegalFrom (after x c) later last
    → IsFit x c i later → late ≡ [] → LegalFrom x (late ++ (i ∷ later)) last
one_turn x last late later c i l f empty =
    subst (λ (xs : List Item). LegalFrom x (xs ++ (i ∷ later)) last) (sym empty)
    (f.meets, subst (λ (g : Graph). LegalFrom g later last) (sym f.leads) l)

-- a removal with the late items before it
cut_turn : (ts : List Turn) (books : List Book) (p k : ℕ) (t : Turn) (i : Item) (later : List Item) (last : Graph)
    → BooksIn ts books → slice_get ts p ≡ Some t → t.call ≡ Some (RemoveVertex k) → has (graph_by_turns ts p) k ≡ true
    → (i ≡ running t.caller (RemoveVertex k)) ⊎ IsOwnItem ts books p t (RemoveVertex k) i → LegalFrom
    (after (graph_by_turns ts p) (RemoveVertex k)) later last → LegalFrom (graph_by_turns ts p)
    (entries_at Late p books ++ (i ∷ later)) last
cut_turn ts books p k t i later last h at is there kind l =
    let r = removal_here ts books p t k i there kind in
    late_legal ts p t k at is i (item_by ts books p t (RemoveVertex k) i kind) r (graph_by_turns ts p) last later
    (λ z a. (r.meets z a.there later, subst (λ (g : Graph). LegalFrom g later last) (sym (r.leads z ∙ a.left)) l))
    books h.apart h.each (graph_by_turns ts p) (record { there = there; left = refl })

-- what stands at a turn before the later items, but for the silent ones
turn_legal : (ts : List Turn) (books : List Book) (p : ℕ) (t : Turn) (c : Call) (i : Item) (later : List Item)
    (last : Graph) → BooksIn ts books → slice_get ts p ≡ Some t → t.call ≡ Some c → alters (graph_by_turns ts p) c
    ≡ true
    → ((e : Entry) → IsFree ts books t.caller e.place e.end → e.place ≡ p →
    IsCutLater ts t.caller e (graph_by_turns ts p)
    → IsOvertaken (graph_by_turns ts p) t.caller e.call later)
    → (i ≡ running t.caller c) ⊎ IsOwnItem ts books p t c i → LegalFrom (after (graph_by_turns ts p) c) later last →
    LegalFrom
    (graph_by_turns ts p) (entries_at Late p books ++ (i ∷ later)) last
turn_legal ts books p t (RemoveVertex k) i later last h at is does f kind l = cut_turn ts books p k t i later last h at
    is (there_removed (graph_by_turns ts p) k does) kind l
turn_legal ts books p t c i later last h at is does f kind l =
    one_turn (graph_by_turns ts p) last (entries_at Late p books) later c i l
    (item_fits ts books p t c i later does f kind)
    (no_late ts p t at (λ k e. absurd (cc)) books h.each)

-- no late and no own item stands behind the last turn
none_last : (ts : List Turn) (p : ℕ) → p ≡ length ts → (books : List Book) → Every (BookIn ts) books →
    (entries_at Late p books ≡ []) × (entries_at Own p books ≡ [])
none_last ts p end books h = (
  every_none (entries_at Late p books) (each_at Late p (BookIn ts) (λ _. ⊥)
      (λ b k. every_map (λ (e : Entry). StandsBy e.class ts b.caller e) (λ (e : Entry). StandsAt Late p e → ⊥)
      (λ e g s. late b.caller e g s) b.entries k.right) books h),
  every_none (entries_at Own p books) (each_at Own p (BookIn ts) (λ _. ⊥)
      (λ b k. every_map (λ (e : Entry). StandsBy e.class ts b.caller e) (λ (e : Entry). StandsAt Own p e → ⊥)
      (λ e g s. own b.caller e g s) b.entries k.right) books h),
)
  where
    late : (caller : ℕ) (e : Entry) → StandsBy e.class ts caller e → StandsAt Late p e → ⊥
    late caller e g s =
        let f : LateBy ts caller e = subst (λ (d : Class). StandsBy d ts caller e) s.class g in
        omega (arith, get_short ts e.place f.cut.turn f.cut.at, s.place, end)

    own : (caller : ℕ) (e : Entry) → StandsBy e.class ts caller e → StandsAt Own p e → ⊥
    own caller e g s =
        let f : OwnBy ts caller e = subst (λ (d : Class). StandsBy d ts caller e) s.class g in
        omega (arith, get_short ts e.place f.turn f.at, s.place, end)

apart_items : (silent late own later : List Item) → (silent ++ (late ++ own)) ++ later ≡ silent ++
    (late ++ (own ++ later))
apart_items silent late own later = append_assoc silent (late ++ own) later ∙ ap (λ (l : List Item). silent ++ l)
    (append_assoc late own later)

walk : (ts : List Turn) (books : List Book) → BooksIn ts books → RunsFrom empty_graph ts → (past ss : List Turn) (p : ℕ)
    → p ≡ length past → past ++ ss ≡ ts
    → LegalFrom (graph_by_turns ts p) (history_from p ss books) (after_turns empty_graph ts)
walk ts books h runs past [] p here whole =
    let gone = none_last ts p (omega (arith, here, ap length whole, length-append past [])) books h.each in
    let same : graph_by_turns ts p ≡ after_turns empty_graph ts = graph_here ts past [] p here whole ∙
    ap (after_turns empty_graph)
    (sym (append-nil past) ∙ whole) in
    silent_legal (graph_by_turns ts p) (after_turns empty_graph ts) (entries_at Silent p books) _
    (silent_items ts books p (entries_in ts books h))
    (subst (λ (xs : List Item). LegalFrom (graph_by_turns ts p) (xs ++ entries_at Own p books)
    (after_turns empty_graph ts))
    (sym gone.0)
    (subst (λ (xs : List Item). LegalFrom (graph_by_turns ts p) xs (after_turns empty_graph ts)) (sym gone.1) same))
walk ts books h runs past (s ∷ ss) p here whole =
    let at : slice_get ts p ≡ Some s = subst (λ (l : List Turn). slice_get l p ≡ Some s) whole
    (subst (λ (n : ℕ). slice_get (past ++ s ∷ ss) n ≡ Some s) (sym here) (get_here past s ss)) in
    let next_here : p + 1 ≡ length (past ++ s ∷ []) = omega (arith, length-append past (s ∷ []), here) in
    let next_whole = append_assoc past (s ∷ []) ss ∙ whole in
    let step : graph_by_turns ts (p + 1) ≡ applied (graph_by_turns ts p) s.call =
    graph_here ts (past ++ s ∷ []) ss (p + 1) next_here next_whole ∙
    (after_turns-snoc empty_graph past s ∙ ap (λ (g : Graph). applied g s.call)
    (sym (graph_here ts past (s ∷ ss) p here whole))) in
    let rest = subst (λ (g : Graph). LegalFrom g (history_from (p + 1) ss books) (after_turns empty_graph ts)) step
    (walk ts books h runs (past ++ s ∷ []) ss (p + 1) next_here next_whole) in
    subst (λ (l : List Item). LegalFrom (graph_by_turns ts p) l (after_turns empty_graph ts))
    (sym (apart_items (entries_at Silent p books) (entries_at Late p books) (or_running s (entries_at Own p books))
    (history_from (p + 1) ss books)))
    (silent_legal (graph_by_turns ts p) (after_turns empty_graph ts) (entries_at Silent p books) _
    (silent_items ts books p (entries_in ts books h))
    (elim s.call as (λ o. s.call ≡ o → LegalFrom (graph_by_turns ts p)
    (entries_at Late p books ++ (or_running s (entries_at Own p books) ++ history_from (p + 1) ss books))
    (after_turns empty_graph ts)) [
      | None ↦ λ none. at_turn (graph_by_turns ts p) (after_turns empty_graph ts) (entries_at Late p books)
          (history_from (p + 1) ss books) s.call rest none
          (no_late ts p s at (λ k e. absurd (cc)) books h.each) (or_running s (entries_at Own p books))
          (none_here ts books p s h at none)
      | Some c ↦ λ is.
          let one = one_here ts books p s c h at is in
          let does : alters (graph_by_turns ts p) c ≡ true = subst (Does (graph_by_turns ts p)) is
          (runs_at empty_graph ts p s runs at) in
          subst (λ (xs : List Item). LegalFrom (graph_by_turns ts p)
          (entries_at Late p books ++ (xs ++ history_from (p + 1) ss books)) (after_turns empty_graph ts))
          (sym one.list)
          (turn_legal ts books p s c one.it (history_from (p + 1) ss books) (after_turns empty_graph ts) h at is does
          (λ e free place r. overtaken (graph_by_turns ts p) s.caller e.call r.cut.key
          (history_from (p + 1) ss books) r.cut.touched r.there
          (found ts books h runs s.caller r.cut.key r.number r.cut.turn r.cut.at r.cut.cuts r.cut.other
          (past ++ s ∷ []) ss (p + 1) next_here next_whole (omega (arith, r.since, place))
          (λ n u low high there. free n u (omega (arith, place, low)) (omega (arith, high, r.until)) there)))
          one.kind (subst (λ (o : Option Call). LegalFrom (applied (graph_by_turns ts p) o)
          (history_from (p + 1) ss books)
          (after_turns empty_graph ts)) is rest))
    ] refl))

-- the history of true books over turns is legal
pub legal_turns : (ts : List Turn) (books : List Book) → BooksIn ts books → RunsFrom empty_graph ts
    → LegalFrom empty_graph (history_from 0 ts books) (after_turns empty_graph ts)
legal_turns ts books h runs = walk ts books h runs [] ts 0 refl refl
