-- The history of the worked journal in which edges are replaced: its books are true, and it's as worked out by hand.
use Rattle.std.proofs.Common.{◌≡◌, ℕ, true, false, cond, ◌&&◌, List, [], ◌∷◌, ◌++◌, map, Option, Some, None, refl, sym}
use Rattle.std.proofs.Common.{ap, ◌∙◌, subst, arith}
use Rattle.std.specs.Prelude.{slice_get, take, drop}
use Rattle.graph_kinds.specs.Graph.{Graph, has, weight_of}
use Rattle.graph_kinds.specs.Answer.{answer, alters, after, plain, by_weight, there_with}
use Rattle.graph_kinds.specs.History.{Every, IsLegal}
use Rattle.graph_kinds.specs.declared.call.Call.TheVariants.{AddVertex, RemoveVertex, AddEdge, RemoveEdge}
use Rattle.graph_kinds.specs.declared.entry.Entry.{Entry}
use Rattle.graph_kinds.specs.declared.outcome.Outcome.TheVariants.{Added, Changed, Removed, NoEdge, NoVertex}
use Rattle.core_journal.specs.declared.event.Kind.{Kind}
use Rattle.core_journal.specs.declared.event.Kind.TheVariants.{LinkVertex, MarkVertex, LinkEdge, MarkEdge, FreezeEdge}
use Rattle.core_journal.specs.declared.event.Kind.TheVariants.{ReplaceEdge}
use Rattle.core_journal.specs.declared.event.Event.{Event}
use Rattle.core_journal.specs.GraphOf.{graph_of, call_of, changes, IsRegular, CarriesOut}
use Rattle.core_journal.specs.History.{Turn, turn, history, history_of, turns, IsClosed}
use Rattle.core_journal.specs.Life.{key_of, link_of}
use Rattle.core_journal.specs.Right.{IsBookOf, CallersApart, OwnReply, RightOwn}
use Rattle.core_journal.specs.Worked.{small, own}
use Rattle.core_journal.proofs.Calls.{altered}
use Rattle.core_journal.proofs.Computed.{still, still_turn, idle_turns, answers_added, answers_gone, covers_by}
use Rattle.core_journal.proofs.Computed.{closed_by}
use Rattle.core_journal.proofs.GraphRows.{has-graph, weight-graph}
use Rattle.core_journal.proofs.Laws.{history_legal}
use Rattle.core_journal.proofs.Regular.{changes_not, changes_yes}
use Rattle.core_lists.specs.Effects.{EffectAs}
use Rattle.core_kept.specs.Kept.{AllowedAs}
use Rattle.core_worked.specs.Replacing.{replacing_journal, replacing_books, replacing_history}
use Rattle.core_worked.specs.TwoLives.{key_two}
use Rattle.core_kept.proofs.Induction.{allowed_at}
use Rattle.core_lists.proofs.EffectOfKinds.{effect, regular}
use Rattle.core_worked.proofs.KnownSteps.{front_kept}
use Rattle.core_worked.proofs.TwoLivesShown.{small_layout}
use Rattle.core_worked.proofs.Replacing.{first, event, replacing_kept}
use Rattle.core_worked.proofs.ReplacingShown.{graph_end}
use Rattle.std.proofs.Common.{inl}
use Rattle.graph_kinds.specs.History.{IsInterleaving}
use Rattle.core_journal.specs.History.{HasBook}
use Rattle.core_journal.proofs.Laws.{history_interleaves}
use Rattle.core_worked.specs.Replacing.{replacing_replies, replacing_rows}

pub replacing_regular : IsRegular replacing_journal
replacing_regular = regular small small_layout replacing_journal replacing_kept

-- the effect of an event of the journal
effect_at : (n : ℕ) (k : Kind) → (event n).kind ≡ k → slice_get replacing_journal n ≡ Some (event n) → EffectAs k small
    (first n) (event n)
effect_at n k is at = effect small small_layout (first n) (event n) (front_kept replacing_journal replacing_kept n) k is
    (subst (λ (j : Kind). AllowedAs j small (first n) (event n)) is
    (allowed_at small replacing_journal n (event n) replacing_kept at).as_kind)

value : {A : Type 0} (a b : A) → Some a ≡ Some b → a ≡ b
value a b p = cc

-- an event that carries out the call of an entry is its own
own_by : (e : Entry) (d : Event) → slice_get replacing_journal e.place ≡ Some d → d.caller ≡ 0 → CarriesOut
    (take e.place replacing_journal) d → call_of (take e.place replacing_journal) d ≡ Some e.call
    → OwnReply e.answer.outcome replacing_journal 0 e d → RightOwn replacing_journal 0 e
own_by e d at by c is reply =
    let past : List Event = take e.place replacing_journal in
    let g : Graph = graph_of (take e.place replacing_journal) in
    let same : c.call ≡ e.call = value c.call e.call (sym c.is ∙ is) in
    let does : alters (graph_of (take e.place replacing_journal)) e.call ≡ true = ap
    (alters (graph_of (take e.place replacing_journal))) (sym same) ∙ c.alters in
    let leads : graph_of (take e.place replacing_journal ++ d ∷ []) ≡ after
    (graph_of (take e.place replacing_journal)) e.call = c.leads ∙ ap
    (after (graph_of (take e.place replacing_journal))) same in
    record {
      event = d;
      own = record {
        at = at;
        by = by;
        changing = changes_yes (take e.place replacing_journal) d
            (λ still. altered (graph_of (take e.place replacing_journal)) e.call does (sym leads ∙ still));
        leads = leads;
      };
      reply = reply;
    }

-- what an add and a removal of a pair are answered
adds_reply : (g : Graph) (a b w : ℕ) (o : Option ℕ) → has g a ≡ true → has g b ≡ true → weight_of g a b ≡ o
    → by_weight o (there_with w) Added ≡ answer g (AddEdge a b w)
unfolding answer
adds_reply g a b w o ha hb h = sym (λ i. cond (ha i && hb i) (by_weight (h i) (there_with w) Added) (plain NoVertex))

removes_reply : (g : Graph) (a b : ℕ) (o : Option ℕ) → has g a ≡ true → has g b ≡ true → weight_of g a b ≡ o
    → by_weight o Removed NoEdge ≡ answer g (RemoveEdge a b)
unfolding answer
removes_reply g a b o ha hb h = sym (λ i. cond (ha i && hb i) (by_weight (h i) Removed NoEdge) (plain NoVertex))

-- the graph before each event that changes it
has_1_8 : has (graph_of (first 8)) 1 ≡ false
unfolding key_of
has_1_8 = has-graph (first 8) 1

has_2_16 : has (graph_of (first 16)) 2 ≡ false
unfolding key_of
has_2_16 = has-graph (first 16) 2

has_1_24 : has (graph_of (first 24)) 1 ≡ true
unfolding key_of
has_1_24 = has-graph (first 24) 1

has_2_24 : has (graph_of (first 24)) 2 ≡ true
unfolding key_of
has_2_24 = has-graph (first 24) 2

has_1_33 : has (graph_of (first 33)) 1 ≡ true
unfolding key_of
has_1_33 = has-graph (first 33) 1

has_2_33 : has (graph_of (first 33)) 2 ≡ true
unfolding key_of
has_2_33 = has-graph (first 33) 2

has_1_42 : has (graph_of (first 42)) 1 ≡ true
unfolding key_of
has_1_42 = has-graph (first 42) 1

has_2_42 : has (graph_of (first 42)) 2 ≡ true
unfolding key_of
has_2_42 = has-graph (first 42) 2

has_1_46 : has (graph_of (first 46)) 1 ≡ true
unfolding key_of
has_1_46 = has-graph (first 46) 1

has_2_46 : has (graph_of (first 46)) 2 ≡ true
unfolding key_of
has_2_46 = has-graph (first 46) 2

has_1_57 : has (graph_of (first 57)) 1 ≡ true
unfolding key_of
has_1_57 = has-graph (first 57) 1

has_2_57 : has (graph_of (first 57)) 2 ≡ true
unfolding key_of
has_2_57 = has-graph (first 57) 2

has_1_66 : has (graph_of (first 66)) 1 ≡ true
unfolding key_of
has_1_66 = has-graph (first 66) 1

has_2_66 : has (graph_of (first 66)) 2 ≡ true
unfolding key_of
has_2_66 = has-graph (first 66) 2

has_1_69 : has (graph_of (first 69)) 1 ≡ true
unfolding key_of
has_1_69 = has-graph (first 69) 1

weight_24 : weight_of (graph_of (first 24)) 1 2 ≡ None
unfolding key_of link_of
weight_24 = weight-graph (first 24) 1 2

weight_33 : weight_of (graph_of (first 33)) 1 2 ≡ Some 5
unfolding key_of link_of
weight_33 = weight-graph (first 33) 1 2

weight_42 : weight_of (graph_of (first 42)) 1 2 ≡ Some 6
unfolding key_of link_of
weight_42 = weight-graph (first 42) 1 2

weight_46 : weight_of (graph_of (first 46)) 1 2 ≡ Some 7
unfolding key_of link_of
weight_46 = weight-graph (first 46) 1 2

weight_57 : weight_of (graph_of (first 57)) 1 2 ≡ None
unfolding key_of link_of
weight_57 = weight-graph (first 57) 1 2

weight_66 : weight_of (graph_of (first 66)) 1 2 ≡ Some 8
unfolding key_of link_of
weight_66 = weight-graph (first 66) 1 2

-- each of them is its call's own
own_8 : RightOwn replacing_journal 0 (own (AddVertex 1) Added 8 1 10)
unfolding key_of link_of
own_8 = own_by (own (AddVertex 1) Added 8 1 10) (event 8) refl refl ((effect_at 8 LinkVertex refl refl).graph) refl
    (answers_added (graph_of (first 8)) 1 has_1_8)

own_16 : RightOwn replacing_journal 0 (own (AddVertex 2) Added 16 10 18)
unfolding key_of link_of
own_16 = own_by (own (AddVertex 2) Added 16 10 18) (event 16) refl refl ((effect_at 16 LinkVertex refl refl).graph) refl
    (answers_added (graph_of (first 16)) 2 has_2_16)

own_24 : RightOwn replacing_journal 0 (own (AddEdge 1 2 5) Added 24 18 26)
unfolding key_of link_of
own_24 = own_by (own (AddEdge 1 2 5) Added 24 18 26) (event 24) refl refl
    ((effect_at 24 LinkEdge refl refl).graph 1 2 refl refl) refl
    (adds_reply (graph_of (first 24)) 1 2 5 None has_1_24 has_2_24 weight_24)

own_33 : RightOwn replacing_journal 0 (own (AddEdge 1 2 6) (Changed 5) 33 26 35)
unfolding key_of link_of
own_33 = own_by (own (AddEdge 1 2 6) (Changed 5) 33 26 35) (event 33) refl refl
    ((effect_at 33 ReplaceEdge refl refl).graph 1 2 5 refl) refl
    (adds_reply (graph_of (first 33)) 1 2 6 (Some 5) has_1_33 has_2_33 weight_33)

own_42 : RightOwn replacing_journal 0 (own (AddEdge 1 2 7) (Changed 6) 42 35 44)
unfolding key_of link_of
own_42 = own_by (own (AddEdge 1 2 7) (Changed 6) 42 35 44) (event 42) refl refl
    ((effect_at 42 ReplaceEdge refl refl).graph 1 2 6 refl) refl
    (adds_reply (graph_of (first 42)) 1 2 7 (Some 6) has_1_42 has_2_42 weight_42)

own_46 : RightOwn replacing_journal 0 (own (RemoveEdge 1 2) (Removed 7) 46 44 51)
unfolding key_of link_of
own_46 = own_by (own (RemoveEdge 1 2) (Removed 7) 46 44 51) (event 46) refl refl
    ((effect_at 46 MarkEdge refl refl).graph 1 2 7 refl) refl
    (removes_reply (graph_of (first 46)) 1 2 (Some 7) has_1_46 has_2_46 weight_46)

own_57 : RightOwn replacing_journal 0 (own (AddEdge 1 2 8) Added 57 51 59)
unfolding key_of link_of
own_57 = own_by (own (AddEdge 1 2 8) Added 57 51 59) (event 57) refl refl
    ((effect_at 57 LinkEdge refl refl).graph 1 2 refl refl) refl
    (adds_reply (graph_of (first 57)) 1 2 8 None has_1_57 has_2_57 weight_57)

own_66 : RightOwn replacing_journal 0 (own (AddEdge 1 2 9) (Changed 8) 66 59 68)
unfolding key_of link_of
own_66 = own_by (own (AddEdge 1 2 9) (Changed 8) 66 59 68) (event 66) refl refl
    ((effect_at 66 ReplaceEdge refl refl).graph 1 2 8 refl) refl
    (adds_reply (graph_of (first 66)) 1 2 9 (Some 8) has_1_66 has_2_66 weight_66)

own_69 : RightOwn replacing_journal 0 (own (RemoveVertex 1) (Removed 0) 69 68 74)
unfolding key_of link_of
own_69 = own_by (own (RemoveVertex 1) (Removed 0) 69 68 74) (event 69) refl refl
    ((effect_at 69 MarkVertex refl refl).graph) refl (answers_gone (graph_of (first 69)) 1 has_1_69)

-- the freezing of the last edge changes nothing
still_72 : graph_of (first 72 ++ event 72 ∷ []) ≡ graph_of (first 72)
still_72 = (effect_at 72 FreezeEdge refl refl).graph

dull_72 : (e : Event) → ◌≡◌ {A = Option Event} (Some (event 72)) (Some e) → changes (first 72) e ≡ false
dull_72 e at = subst (λ (d : Event). changes (first 72) d ≡ false) (value (event 72) e at)
    (changes_not (first 72) (event 72) still_72)

pub replacing_apart : CallersApart replacing_books
replacing_apart = (((λ h. omega (arith, h)), tt), (tt, tt))

-- the books are true
pub replacing_true : Every (IsBookOf small replacing_journal) replacing_books
replacing_true = (
  record {
    right = (own_8, (own_16, (own_24, (own_33, (own_42, (own_46, (own_57, (own_66, (own_69, tt)))))))));
    framed = record {
      order = (
        record {
          apart = omega arith;
          since = omega arith;
          until = omega arith;
          within = omega
              arith;
          before = λ h. omega arith;
        },
        (
          record {
            apart = omega arith;
            since = omega arith;
            until = omega arith;
            within = omega arith;
            before = λ h. omega arith;
          },
          (
            record {
              apart = omega arith;
              since = omega arith;
              until = omega arith;
              within = omega arith;
              before = λ h. omega arith;
            },
            (
              record {
                apart = omega arith;
                since = omega arith;
                until = omega arith;
                within = omega arith;
                before = λ h.
                    omega arith;
              },
              (
                record {
                  apart = omega arith;
                  since = omega arith;
                  until = omega arith;
                  within = omega arith;
                  before = λ h. omega arith;
                },
                (
                  record {
                    apart = omega arith;
                    since = omega arith;
                    until = omega arith;
                    within =
                        omega arith;
                    before = λ h. omega arith;
                  },
                  (
                    record {
                      apart = omega arith;
                      since = omega arith;
                      until = omega
                          arith;
                      within = omega arith;
                      before = λ h. omega arith;
                    },
                    (
                      record {
                        apart = omega arith;
                        since = omega arith;
                        until = omega arith;
                        within = omega arith;
                        before = λ h.
                            omega arith;
                      },
                      (
                        record {
                          apart = omega arith;
                          since = omega arith;
                          until = omega arith;
                          within = omega arith;
                          before = λ h. omega arith;
                        },
                        tt,
                      ),
                    ),
                  ),
                ),
              ),
            ),
          ),
        ),
      );
    };
    covers = covers_by replacing_journal 0 72 (own (AddVertex 1) Added 8 1 10 ∷ own (AddVertex 2) Added 16 10 18 ∷ own
        (AddEdge 1 2 5) Added 24 18 26 ∷ own (AddEdge 1 2 6) (Changed 5) 33 26 35 ∷ own (AddEdge 1 2 7)
        (Changed 6) 42 35 44 ∷ own (RemoveEdge 1 2) (Removed 7) 46 44 51 ∷ own (AddEdge 1 2 8) Added 57 51 59 ∷ own
        (AddEdge 1 2 9) (Changed 8) 66 59 68 ∷ own (RemoveVertex 1) (Removed 0) 69 68 74 ∷ []) refl dull_72;
  },
  (
    record { right = tt; framed = record { order = tt }; covers = covers_by replacing_journal 1 72 [] refl dull_72 },
    tt,
  ),
)

-- what stands between two of them
abbrev between : ℕ → ℕ → List Event
between m n = drop m (first n)

-- the turns: all but these events change nothing
abbrev replacing_turns : List Turn
replacing_turns = map still (between 0 8) ++ turn (first 8) (event 8) ∷
    (map still (between 9 16) ++ turn (first 16) (event 16) ∷
    (map still (between 17 24) ++ turn (first 24) (event 24) ∷
    (map still (between 25 33) ++ turn (first 33) (event 33) ∷
    (map still (between 34 42) ++ turn (first 42) (event 42) ∷
    (map still (between 43 46) ++ turn (first 46) (event 46) ∷
    (map still (between 47 57) ++ turn (first 57) (event 57) ∷
    (map still (between 58 66) ++ turn (first 66) (event 66) ∷
    (map still (between 67 69) ++ turn (first 69) (event 69) ∷
    (map still (between 70 72) ++ still (event 72) ∷ map still (drop 73 replacing_journal))))))))))

turns_replacing : turns replacing_journal ≡ replacing_turns
unfolding turns
turns_replacing =
    idle_turns (first 0) (between 0 8) (drop 8 replacing_journal) refl
    ∙ ap (λ (l : List Turn). map still (between 0 8) ++ turn (first 8) (event 8) ∷ l)
    (idle_turns (first 9) (between 9 16) (drop 16 replacing_journal) refl
    ∙ ap (λ (l : List Turn). map still (between 9 16) ++ turn (first 16) (event 16) ∷ l)
    (idle_turns (first 17) (between 17 24) (drop 24 replacing_journal) refl
    ∙ ap (λ (l : List Turn). map still (between 17 24) ++ turn (first 24) (event 24) ∷ l)
    (idle_turns (first 25) (between 25 33) (drop 33 replacing_journal) refl
    ∙ ap (λ (l : List Turn). map still (between 25 33) ++ turn (first 33) (event 33) ∷ l)
    (idle_turns (first 34) (between 34 42) (drop 42 replacing_journal) refl
    ∙ ap (λ (l : List Turn). map still (between 34 42) ++ turn (first 42) (event 42) ∷ l)
    (idle_turns (first 43) (between 43 46) (drop 46 replacing_journal) refl
    ∙ ap (λ (l : List Turn). map still (between 43 46) ++ turn (first 46) (event 46) ∷ l)
    (idle_turns (first 47) (between 47 57) (drop 57 replacing_journal) refl
    ∙ ap (λ (l : List Turn). map still (between 47 57) ++ turn (first 57) (event 57) ∷ l)
    (idle_turns (first 58) (between 58 66) (drop 66 replacing_journal) refl
    ∙ ap (λ (l : List Turn). map still (between 58 66) ++ turn (first 66) (event 66) ∷ l)
    (idle_turns (first 67) (between 67 69) (drop 69 replacing_journal) refl
    ∙ ap (λ (l : List Turn). map still (between 67 69) ++ turn (first 69) (event 69) ∷ l)
    (idle_turns (first 70) (between 70 72) (drop 72 replacing_journal) refl
    ∙ (λ i. map still (between 70 72) ++ still_turn (first 72) (event 72) still_72 i ∷ idle_turns (first 73)
    (drop 73 replacing_journal) [] refl i))))))))))

-- computed: the history
pub replacing_items : history replacing_journal replacing_books ≡ replacing_history
unfolding history_of
replacing_items = ap (λ ts. history_of ts replacing_books) turns_replacing

-- so it's legal
pub replacing_legal : IsLegal replacing_history key_two
replacing_legal = subst (λ h. IsLegal h key_two) replacing_items
    (subst (IsLegal (history replacing_journal replacing_books)) graph_end
    (history_legal small replacing_journal replacing_books replacing_regular replacing_apart replacing_true))

-- no other caller changes the graph
pub replacing_closed : IsClosed replacing_journal replacing_books
replacing_closed = closed_by replacing_journal _ _ refl refl refl

-- it's an interleaving of their rows, which were answered so
pub replacing_interleaves : IsInterleaving replacing_rows replacing_replies (history replacing_journal replacing_books)
replacing_interleaves = history_interleaves small replacing_journal replacing_books replacing_rows replacing_replies
    replacing_regular replacing_apart replacing_true replacing_closed refl
    (of_zero, (of_zero, (of_zero, (of_zero, (of_zero, (of_zero, (of_zero, (of_zero, (of_zero, tt)))))))))
    (refl, (refl, tt))
  where
    of_zero : HasBook 0 replacing_books
    of_zero = inl refl
