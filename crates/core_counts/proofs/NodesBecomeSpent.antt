-- How a node becomes spent with a caller.
use Rattle.std.proofs.Common.{◌≡◌, ◌≢◌, ◌⊎◌, ℕ, ◌≤◌, true, cond, List, [], ◌∷◌, ◌++◌, length, refl, sym, ap, ◌∙◌, subst}
use Rattle.std.proofs.Common.{inl, inr, ⊎_elim}
use Rattle.graph_kinds.specs.Levels.{stands_in}
use Rattle.packed_link.specs.Layout.{Sizes, IsLayout, second_at}
use Rattle.core_journal.specs.declared.event.Kind.{Kind}
use Rattle.core_journal.specs.declared.event.Kind.TheVariants.{PopFree, LinkVertex, MarkVertex, UnlinkVertex, LinkEdge}
use Rattle.core_journal.specs.declared.event.Kind.TheVariants.{MarkEdge, UnlinkEdge, FreezeHead, FreezeEdge, StoreFree}
use Rattle.core_journal.specs.declared.event.Kind.TheVariants.{PushFree, ReplaceEdge}
use Rattle.core_journal.specs.declared.event.Event.{Event}
use Rattle.core_journal.specs.Event.{unlinks}
use Rattle.core_journal.specs.Prefix.{IsPrefix}
use Rattle.core_journal.specs.State.{Mode, Linked, Spent, Node, State, put, handed, frozen_part, joined_edge, state_by}
use Rattle.core_journal.specs.State.{state}
use Rattle.core_journal.proofs.Lists.{prefix_snoc}
use Rattle.core_journal.proofs.States.{state-snoc}
use Rattle.core_lists.specs.Chains.{HasList}
use Rattle.core_kept.specs.Freezing.{IsSpentVertex}
use Rattle.core_kept.specs.Kept.{Allowed, AllowedAs, IsKept, IsQuiet}
use Rattle.core_kept.specs.Nodes.{node_in, is_listed, IsUsed, IsSpentWith, IsFrozenToEnd, IsLinkedEdge}
use Rattle.core_kept.proofs.Induction.{kept_beyond, kept_snoc}
use Rattle.core_kept.proofs.ByKind.{put_case, handed_case, marked_state, closed_state}
use Rattle.core_kept.proofs.NodesInPlace.{frozen_stands}
use Rattle.core_kept.proofs.NodesOnLists.{IsWordOf, linked_was, part_same}
use Rattle.core_kept.proofs.ReplaceCases.{new_edge_node, replaced_case}
use Rattle.core_lists.proofs.ListHoldsKept.{listing, sources}
use Rattle.core_lists.proofs.ClosedHeadStays.{part_head, finished_stays}
use Rattle.core_lists.proofs.PartSpender.{spenders}
use Rattle.core_lists.proofs.EventKeepsRest.{spent_still}
use Rattle.core_counts.specs.Spending.{IsOwnUnlink, IsHandedOver}

-- a node was spent with its caller before
record WasSpent (v v' : Node) : Type 0 where
  pub spent : v.mode ≡ Spent
  pub who : v'.who ≡ v.who

-- it was unlinked
record IsUnlinkedBy (k : Kind) (e : Event) (y : ℕ) (v' : Node) : Type 0 where
  pub unlinks : unlinks k ≡ true
  pub life : e.life.index ≡ y
  pub who : v'.who ≡ e.caller

-- it was handed over with the list of a vertex
record IsHandedIn (s after : State) (y : ℕ) (v' : Node) : Type 0 where
  pub vertex : ℕ
  pub linked : (s.node y).mode ≡ Linked
  pub listed : stands_in (s.edges vertex) y ≡ true
  pub who : v'.who ≡ (s.node vertex).who
  pub closed : (s.node vertex).mode ≢ Linked
  pub on : stands_in (frozen_part after vertex) y ≡ true

abbrev Became : Kind → Event → State → State → ℕ → Node → Type 0
Became k e s after y v' = v'.mode ≡ Spent → (WasSpent (s.node y) v' ⊎ IsUnlinkedBy k e y v') ⊎ IsHandedIn s after y v'

-- handing over leaves the marks, and so the frozen parts
handed_marked : (v : ℕ) (s : State) (y : ℕ) → ((handed v s).node y).marked ≡ (s.node y).marked
handed_marked v s y = handed_case (λ (u : Node). u.marked ≡ (s.node y).marked) s v y refl (λ _ _ _. refl)

handed_part : (v : ℕ) (s : State) (x : ℕ) → frozen_part (handed v s) x ≡ frozen_part s x
handed_part v s x = ap (λ (l : List ℕ). cond (s.frozen x) l [])
    (part_same (λ y. ((handed v s).node y).marked) (λ y. (s.node y).marked) (s.edges x) (λ y _. handed_marked v s y))

on_after : (v : ℕ) (s : State) (y : ℕ) → stands_in (frozen_part s v) y ≡ true → stands_in (frozen_part (handed v s) v)
    y ≡ true
on_after v s y on = ap (λ (l : List ℕ). stands_in l y) (handed_part v s v) ∙ on

-- a node that changes but isn't unlinked
put_became : (k : Kind) (e : Event) (s after : State) (v : Node) (y : ℕ) →
    (v.mode ≡ Spent → ((s.node e.life.index).mode ≡ Spent) × (v.who ≡ (s.node e.life.index).who)) → Became k e s after y
    (put e.life.index v s.node y)
put_became k e s after v y was = put_case (λ (u : Node). Became k e s after y u) e.life.index v s.node y
    (λ same m. let r = was m in inl (inl record {
      spent = ap (λ (i : ℕ). (s.node i).mode) same ∙ r.0;
      who = r.1 ∙ ap
          (λ (i : ℕ). (s.node i).who) (sym same);
    }))
    (λ _ m. inl (inl record { spent = m; who = refl }))

unlink_became : (k : Kind) (e : Event) (s after : State) (v : Node) (y : ℕ) → unlinks k ≡ true → v.who ≡ e.caller
    → Became k e s after y (put e.life.index v s.node y)
unlink_became k e s after v y is who = put_case (λ (u : Node). Became k e s after y u) e.life.index v s.node y
    (λ same m. inl (inr record { unlinks = is; life = sym same; who = who }))
    (λ _ m. inl (inl record { spent = m; who = refl }))

-- the frozen part of a list is handed over, after a mark or the closing of the list
handed_became : (k : Kind) (e : Event) (s s0 : State) (x y : ℕ) → ((i : ℕ) → (s0.node i).mode ≡ (s.node i).mode) →
    ((i : ℕ) → (s0.node i).who ≡ (s.node i).who) → ((i : ℕ) → s0.edges i ≡ s.edges i) →
    (s0.frozen x ≡ true → (s.node x).mode ≢ Linked) → Became k e s (handed x s0) y ((handed x s0).node y)
handed_became k e s s0 x y mode who edges closed = handed_case (λ (u : Node). Became k e s (handed x s0) y u) s0 x y
    (λ m. inl (inl record { spent = sym (mode y) ∙ m; who = who y }))
    (λ l _ on _. inr record {
      vertex = x;
      linked = sym (mode y) ∙ l;
      listed = ap (λ (l : List ℕ). stands_in l y) (sym (edges x))
          ∙ frozen_stands s0 x y on;
      who = who x;
      closed = closed (part_head s0 x y on);
      on = on_after x s0 y on;
    })

marked_mode : (s : State) (j i : ℕ) → ((marked_state s j).node i).mode ≡ (s.node i).mode
marked_mode s j i = put_case (λ (u : Node). u.mode ≡ (s.node i).mode) j _ s.node i
    (λ same. ap (λ (n : ℕ). (s.node n).mode) (sym same)) (λ _. refl)

marked_who : (s : State) (j i : ℕ) → ((marked_state s j).node i).who ≡ (s.node i).who
marked_who s j i = put_case (λ (u : Node). u.who ≡ (s.node i).who) j _ s.node i
    (λ same. ap (λ (n : ℕ). (s.node n).who) (sym same)) (λ _. refl)

module _ (sizes : Sizes) (z : IsLayout sizes) (past : List Event) (e : Event) (kept : IsKept sizes past) where
  abbrev s : State
  s = state sizes past

  not_linked : (x : ℕ) → s.frozen x ≡ true → (s.node x).mode ≢ Linked
  not_linked x f = (spenders sizes z past kept).closed x f

  became : (k : Kind) → AllowedAs k sizes past e → (y : ℕ) → Became k e s (state_by k sizes e s) y
      ((state_by k sizes e s).node y)
  became PopFree ok y = put_became PopFree e s (state_by PopFree sizes e s) _ y (λ m. absurd (cc))
  became LinkVertex ok y = put_became LinkVertex e s (state_by LinkVertex sizes e s) _ y (λ m. absurd (cc))
  became LinkEdge ok y = put_became LinkEdge e s (state_by LinkEdge sizes e s) _ y (λ m. absurd (cc))
  became MarkVertex ok y = put_became MarkVertex e s (state_by MarkVertex sizes e s) _ y (λ m. (m, refl))
  became StoreFree ok y = put_became StoreFree e s (state_by StoreFree sizes e s) _ y (λ m. (m, refl))
  became PushFree ok y = put_became PushFree e s (state_by PushFree sizes e s) _ y (λ m. absurd (cc))
  became UnlinkVertex ok y = unlink_became UnlinkVertex e s (state_by UnlinkVertex sizes e s) _ y refl refl
  became UnlinkEdge ok y = unlink_became UnlinkEdge e s (state_by UnlinkEdge sizes e s) _ y refl refl
  became MarkEdge ok y = handed_became MarkEdge e s (marked_state s e.life.index) (s.node e.life.index).source.index y
      (marked_mode s e.life.index) (marked_who s e.life.index) (λ i. refl)
      (not_linked (s.node e.life.index).source.index)
  became FreezeEdge ok y = handed_became FreezeEdge e s (marked_state s e.life.index)
      (s.node e.life.index).source.index y (marked_mode s e.life.index) (marked_who s e.life.index) (λ i. refl)
      (not_linked (s.node e.life.index).source.index)
  became FreezeHead ok y = handed_became FreezeHead e s (closed_state s e.life.index) e.life.index y (λ i. refl)
      (λ i. refl) (λ i. refl) (λ _ m. let g = ok.spent.spent in absurd (cc))
  became ReplaceEdge ok y =
      let j : State = joined_edge sizes e s in
      let m : State = marked_state j e.old.index in
      let src : ℕ = (j.node e.old.index).source.index in
      replaced_case sizes z past e kept ok (λ (u : Node). Became ReplaceEdge e s (handed src m) y u) y
      (λ _ g. absurd (cc))
      (λ _ g. inl (inl record { spent = sym (marked_mode s e.old.index y) ∙ g; who = marked_who s e.old.index y }))
      (λ ne l _ on _. inr record {
        vertex = src;
        linked = sym (marked_mode s e.old.index y) ∙ l;
        listed = was_listed src y ne (frozen_stands m src y on);
        who = marked_who j e.old.index src ∙ joined_who src;
        closed = not_linked src (part_head m src y on);
        on = on_after src m y on;
      })
    where
      was_listed : (x y : ℕ) → y ≢ e.life.index → stands_in ((joined_edge sizes e s).edges x) y ≡ true → stands_in
          (s.edges x)
          y ≡ true
      was_listed x y ne h = ⊎_elim (λ (a : stands_in (s.edges x) y ≡ true). a)
          (λ (a : (y ≡ e.life.index) × IsWordOf sizes (second_at sizes x) e.place (s.edges x)). absurd (ne a.0))
          (linked_was sizes (second_at sizes x) e.place e.life.index y (s.edges x) h)

      joined_who : (i : ℕ) → ((joined_edge sizes e s).node i).who ≡ (s.node i).who
      joined_who i = put_case (λ (u : Node). u.who ≡ (s.node i).who) e.life.index
          (new_edge_node (s.node e.life.index) e s.count) s.node i (λ same. ap (λ (n : ℕ). (s.node n).who) (sym same))
          (λ _. refl)
  became k ok y = λ m. inl (inl record { spent = m; who = refl })

module _ (sizes : Sizes) (z : IsLayout sizes) (past : List Event) (kept : IsKept sizes past) where
  -- a linked edge on a list that some event hands over is at its source, a spent vertex: where it's closed
  linked_list : (x y : ℕ) → (node_in sizes past y).mode ≡ Linked → is_listed (state sizes past) x y ≡ true
      → IsLinkedEdge sizes past y × HasList sizes past x
  linked_list x y m on =
      let d = (listing sizes z past kept).on x y on in
      let edge : IsLinkedEdge sizes past y = record { linked = m; edge = d.edge } in
      let at = (sources sizes z past kept).each y d.there edge in
      (edge, subst (HasList sizes past) d.index at.list)

abbrev IsBecoming : Sizes → List Event → Event → ℕ → ℕ → Type 0
IsBecoming sizes past e caller y = (IsSpentWith sizes past caller y ⊎ IsOwnUnlink e caller y)
    ⊎ IsHandedOver sizes past e caller y

used_not_linked : (m : Mode) → IsUsed m → m ≢ Linked → m ≡ Spent
used_not_linked Spent u n = refl
used_not_linked Linked u n = absurd (n refl)
used_not_linked _ u n = absurd u

-- what one event does
pub becoming : (sizes : Sizes) → IsLayout sizes → (past : List Event) (e : Event) → IsKept sizes past
    → Allowed sizes past e → (caller y : ℕ) → IsSpentWith sizes (past ++ e ∷ []) caller y
    → IsBecoming sizes past e caller y
becoming sizes z past e kept ok caller y c =
    let s : State = state sizes past in
    let v' : Node = (state_by e.kind sizes e s).node y in
    let now : node_in sizes (past ++ e ∷ []) y ≡ v' = ap (λ (t : State). t.node y) (state-snoc sizes past e) in
    let mine : v'.who ≡ caller = sym (ap (λ (v : Node). v.who) now) ∙ c.mine in
    let r = became sizes z past e kept e.kind ok.as_kind y (sym (ap (λ (v : Node). v.mode) now) ∙ c.spent) in
    ⊎_elim (λ (a : WasSpent (s.node y) v' ⊎ IsUnlinkedBy e.kind e y v'). ⊎_elim
    (λ (b : WasSpent (s.node y) v'). inl (inl record { spent = b.spent; mine = sym b.who ∙ mine }))
    (λ (b : IsUnlinkedBy e.kind e y v'). inl (inr record {
      unlinks = b.unlinks;
      mine = sym b.who
          ∙ mine;
      life = b.life;
    })) a)
    (λ (h : IsHandedIn s (state_by e.kind sizes e s) y v').
    let l = linked_list sizes z past kept h.vertex y h.linked h.listed in
    inr record {
      vertex = h.vertex;
      spent = record {
        spent = used_not_linked (s.node h.vertex).mode l.1.used h.closed;
        vertex = l.1.vertex;
        mine = sym
            h.who ∙ mine;
      };
      listed = h.listed;
      edge = l.0;
      unfinished = l.1.unfinished;
      on = ap (λ (t : State). stands_in (frozen_part t h.vertex) y) (state-snoc sizes past e) ∙ h.on;
    }) r

-- where the lists of all vertices that a caller spent are frozen to their ends, nothing else becomes spent with it
-- while
-- others act
pub record IsSettled (sizes : Sizes) (front journal : List Event) (caller : ℕ) : Type 0 where
  pub ends : (x : ℕ) → IsSpentVertex sizes journal caller x → IsFrozenToEnd sizes journal x
  pub was : (y : ℕ) → IsSpentWith sizes journal caller y → IsSpentWith sizes front caller y ×
      ((node_in sizes journal y).tag ≡ (node_in sizes front y).tag)

pub settled : (sizes : Sizes) → IsLayout sizes → (caller last : ℕ) (front journal : List Event) → IsPrefix front journal
    → IsKept sizes journal → IsQuiet journal caller last → last ≤ length front
    → ((x : ℕ) → IsSpentVertex sizes front caller x → IsFrozenToEnd sizes front x)
    → IsSettled sizes front journal caller
settled sizes z caller last front journal p kept quiet old ends = kept_beyond sizes
    (λ (j : List Event). IsSettled sizes front j caller) caller last step front journal p kept quiet old
    (record { ends = ends; was = λ y c. (c, refl) })
  where
    step : (past : List Event) (e : Event) → IsKept sizes past → IsSettled sizes front past caller → e.caller ≢ caller
        → Allowed sizes past e → IsSettled sizes front (past ++ e ∷ []) caller
    step past e kept h other ok = record {
      ends = λ x c. still x c
          (spent_was x (record { spent = c.spent; mine = c.mine }));
      was = λ y c. let b = spent_was y c in let f = h.was y
          b.0 in (f.0, b.1 ∙ f.1);
    }
      where
        later : IsKept sizes (past ++ e ∷ [])
        later = kept_snoc sizes past e kept ok

        before : (y : ℕ) → IsBecoming sizes past e caller y → IsSpentWith sizes past caller y
        before y b = ⊎_elim (λ (a : IsSpentWith sizes past caller y ⊎ IsOwnUnlink e caller y). ⊎_elim
            (λ (w : IsSpentWith sizes past caller y). w) (λ (u : IsOwnUnlink e caller y). absurd (other u.mine)) a)
            (λ (o : IsHandedOver sizes past e caller y). absurd (o.unfinished (h.ends o.vertex o.spent))) b

        not_back : (y : ℕ) → IsSpentWith sizes past caller y → e.kind ≡ PushFree → e.life.index ≢ y
        not_back y c is at = let k = subst (λ (k : Kind). AllowedAs k sizes past e) is ok.as_kind in push_other k
          where
            push_other : AllowedAs PushFree sizes past e → ⊥
            push_other k = other (sym k.ripe.stamped.spent.mine ∙
                (ap (λ (i : ℕ). (node_in sizes past i).who) at ∙ c.mine))

        spent_was : (y : ℕ) → IsSpentWith sizes (past ++ e ∷ []) caller y → IsSpentWith sizes past caller y ×
            ((node_in sizes (past ++ e ∷ []) y).tag ≡ (node_in sizes past y).tag) ×
            ((node_in sizes (past ++ e ∷ []) y).vertex ≡ (node_in sizes past y).vertex)
        spent_was y c =
            let b = before y (becoming sizes z past e kept ok caller y c) in
            let t = spent_still sizes past e later z caller y (not_back y b) b in
            (b, t.1, t.2)

        still : (x : ℕ) → IsSpentVertex sizes (past ++ e ∷ []) caller x → IsSpentWith sizes past caller x ×
            ((node_in sizes (past ++ e ∷ []) x).tag ≡ (node_in sizes past x).tag) ×
            ((node_in sizes (past ++ e ∷ []) x).vertex ≡ (node_in sizes past x).vertex) → IsFrozenToEnd sizes
            (past ++ e ∷ []) x
        still x c b = finished_stays sizes z x past (past ++ e ∷ []) (prefix_snoc past e) later b.1
            (h.ends x (record { spent = b.0.spent; vertex = sym b.2 ∙ c.vertex; mine = b.0.mine }))
