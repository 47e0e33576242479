-- Each life for which a node was taken is the node's present one, or it has ended, before the node's last end.
use Rattle.std.proofs.Common.{◌≡◌, ◌≢◌, ℕ, zero, suc, ◌+◌, ◌<◌, ◌≤◌, ◌⊎◌, Bool, true, false, ◌&&◌, ◌||◌, List, [], ◌∷◌}
use Rattle.std.proofs.Common.{◌++◌, length, max, Some, refl, sym, ap, ◌∙◌, subst, arith, length-append, ⊎_elim, inl}
use Rattle.std.proofs.Common.{inr}
use Rattle.std.specs.Prelude.{slice_get}
use Rattle.std.specs.List.{list_any}
use Rattle.graph_kinds.proofs.Calls.{and_left, and_right}
use Rattle.packed_link.specs.Layout.{Sizes, IsLayout}
use Rattle.packed_link.specs.declared.link.Life.{Life}
use Rattle.core_journal.specs.declared.event.Kind.{Kind}
use Rattle.core_journal.specs.declared.event.Kind.TheVariants.{PopFree, LinkVertex, MarkVertex, UnlinkVertex, LinkEdge}
use Rattle.core_journal.specs.declared.event.Kind.TheVariants.{MarkEdge, UnlinkEdge, FreezeHead, FreezeEdge, StoreFree}
use Rattle.core_journal.specs.declared.event.Kind.TheVariants.{PushFree, ReplaceEdge}
use Rattle.core_journal.specs.declared.event.Event.{Event}
use Rattle.core_journal.specs.Event.{same_life, unlinks, freezes_head, cuts_edge, cut_life, draws}
use Rattle.core_journal.specs.Life.{link_of, edge_marked, head_frozen, unlinked}
use Rattle.core_journal.specs.Machine.{word_at}
use Rattle.core_journal.specs.Reuse.{IsUnlinkedAt, IsHandedAt, EndsAt}
use Rattle.core_journal.specs.State.{Mode, Free, Fresh, Linked, Spent, Node, State, put, handed, frozen_part}
use Rattle.core_journal.specs.State.{joined_edge, state_by, state}
use Rattle.core_journal.proofs.Lists.{get_here, get_front, get_short}
use Rattle.core_journal.proofs.KeptLives.{link_more}
use Rattle.core_journal.proofs.Snoc.{any_skip, same_is}
use Rattle.core_journal.proofs.States.{state-snoc, count-length}
use Rattle.core_kept.specs.Kept.{Allowed, AllowedAs, IsKept}
use Rattle.core_kept.specs.Nodes.{node_in, IsUsed}
use Rattle.core_kept.specs.Facts.{IsLinkOf, IsNamed, Named}
use Rattle.core_kept.proofs.Induction.{kept_all, kept_snoc}
use Rattle.core_kept.proofs.ByKind.{put_case, put_same, handed_case, part_marked, marked_state, closed_state}
use Rattle.core_kept.proofs.ByKind.{after_event}
use Rattle.core_kept.proofs.LinkWords.{taken}
use Rattle.core_kept.proofs.PastLives.{lives, other_index}
use Rattle.core_kept.proofs.Named.{named, life_is, none_any}
use Rattle.core_kept.proofs.NodesOnLists.{linked_was}
use Rattle.core_kept.proofs.ReplaceCases.{new_edge_node, else_marked, replaced_case}
use Rattle.core_kept.specs.Edges.{IsReplaceEdge}
use Rattle.packed_link.specs.Layout.{second_at}
use Rattle.core_kept.proofs.ListedSources.{On, Closed, part_on, listed, closed}
use Rattle.core_kept.proofs.Ripe.{end_by, ended, HasEndedIn, over_step}

-- a life has an end before a length of the journal
pub record HasEnd (journal : List Event) (x : Life) (limit : ℕ) : Type 0 where
  pub end : ℕ
  pub ends : EndsAt journal x end
  pub before : end < limit

-- a life is over for its node
pub record IsLifeOver (journal : List Event) (x : Life) (v : Node) : Type 0 where
  pub life : HasEnd journal x v.ended
  pub low : x.tag ≤ v.tag
  pub fresh : v.tag ≡ x.tag → v.mode ≢ Fresh
  pub linked : v.tag ≡ x.tag → v.mode ≢ Linked

-- a life is that of a node which is fresh or linked
pub record IsPresent (journal : List Event) (x : Life) (v : Node) : Type 0 where
  pub tag : v.tag ≡ x.tag
  pub free : v.mode ≢ Free
  pub spent : v.mode ≢ Spent
  pub stays : unlinked journal x ≡ false

abbrev pub Fate : List Event → Life → Node → Type 0
Fate journal x v = IsLifeOver journal x v ⊎ IsPresent journal x v

-- an event that passes a test
pub record HasPassing (test : Event → Bool) (journal : List Event) : Type 0 where
  pub number : ℕ
  pub event : Event
  pub at : slice_get journal number ≡ Some event
  pub passes : test event ≡ true

pub any_at : (test : Event → Bool) (journal : List Event) → list_any test journal ≡ true → HasPassing test journal
any_at test [] h = absurd (cc)
any_at test (e ∷ es) h = by (any_at test es) (test e) refl h
  where
    by : (list_any test es ≡ true → HasPassing test es) → (b : Bool) → test e ≡ b → (b || list_any test es) ≡ true
        → HasPassing test (e ∷ es)
    by more true is h = record { number = 0; event = e; at = refl; passes = is }
    by more false is h = let f = more h in record {
      number = suc f.number;
      event = f.event;
      at = f.at;
      passes = f.passes;
    }

-- an event of a longer journal is one of the shorter, or the new one
at_last : (past : List Event) (e : Event) (k : ℕ) (a : Event) → slice_get (past ++ e ∷ []) k ≡ Some a →
    (slice_get past k ≡ Some a) ⊎ (e ≡ a)
at_last [] e zero a at = inr (cc)
at_last [] e (suc k) a at = absurd (cc)
at_last (d ∷ past) e zero a at = inl at
at_last (d ∷ past) e (suc k) a at = at_last past e k a at

max_below : (a b n : ℕ) → a < n → b < n → max a b < n
max_below a b n p q = grind (arith, p, q)

-- an event that doesn't unlink a life leaves its end
ends_more : (past : List Event) (e : Event) (x : Life) (p : ℕ) → (unlinks e.kind && same_life x e.life) ≡ false
    → EndsAt past x p → EndsAt (past ++ e ∷ []) x p
ends_more past e x p not ends = ⊎_elim
    (λ (u : IsUnlinkedAt past x p). inl record {
      event = u.event;
      at = get_front past
          (e ∷ []) p u.event u.at;
      unlinks = u.unlinks;
      life = u.life;
    })
    (λ (h : IsHandedAt past x p). inr record {
      stays = any_skip (λ (d : Event). unlinks d.kind && same_life x d.life) past e not ∙ h.stays;
      link = h.link;
      edge = link_more past (e ∷ []) x h.link h.edge;
      mark_place = h.mark_place;
      mark = h.mark;
      mark_at = get_front past (e ∷ []) h.mark_place h.mark h.mark_at;
      marks = h.marks;
      mark_life = h.mark_life;
      head_place = h.head_place;
      head = h.head;
      head_at = get_front past (e ∷ []) h.head_place h.head h.head_at;
      freezes = h.freezes;
      head_life = h.head_life;
      later = h.later;
    }) ends

-- a node that is handed over says the same of its life
record IsSameLife (v v' : Node) : Type 0 where
  pub tag : v'.tag ≡ v.tag
  pub vertex : v'.vertex ≡ v.vertex
  pub marked : v'.marked ≡ v.marked
  pub source : v'.source ≡ v.source
  pub used : IsUsed v'.mode

handed_same : (s : State) (v y : ℕ) → (s.node y).mode ≡ Linked → IsSameLife (s.node y) ((handed v s).node y)
handed_same s v y m = handed_case (λ (u : Node). IsSameLife (s.node y) u) s v y
    record { tag = refl; vertex = refl; marked = refl; source = refl; used = subst IsUsed (sym m) tt }
    (λ _ _ _. record { tag = refl; vertex = refl; marked = refl; source = refl; used = tt })

-- an edge that is never unlinked has ended where it's marked and the list of its source is closed
handed_at : (journal : List Event) (x : Life) (link : Event) → unlinked journal x ≡ false
    → link_of journal x ≡ Some link → edge_marked journal x ≡ true → head_frozen journal link.source ≡ true
    → HasEnd journal x (length journal)
handed_at journal x link stays edge marked head =
    let a = any_at (λ (d : Event). cuts_edge d.kind && same_life x (cut_life d)) journal marked in
    let b = any_at (λ (d : Event). freezes_head d.kind && same_life link.source d.life) journal head in
    record {
      end = max a.number b.number;
      ends = inr record {
        stays = stays;
        link = link;
        edge = edge;
        mark_place = a.number;
        mark = a.event;
        mark_at = a.at;
        marks = and_left (cuts_edge a.event.kind) (same_life x (cut_life a.event)) a.passes;
        mark_life = sym (same_is x (cut_life a.event) (and_right (cuts_edge a.event.kind)
            (same_life x (cut_life a.event)) a.passes));
        head_place = b.number;
        head = b.event;
        head_at = b.at;
        freezes = and_left (freezes_head b.event.kind) (same_life link.source b.event.life) b.passes;
        head_life = sym (same_is link.source b.event.life (and_right (freezes_head b.event.kind)
            (same_life link.source b.event.life) b.passes));
        later = refl;
      };
      before = max_below a.number b.number (length journal) (get_short journal a.number a.event a.at)
          (get_short journal b.number b.event b.at);
    }

-- a closed list was closed in the life that the source of an edge names
head_of : (journal : List Event) (s : State) (v : ℕ) (source : Life) → Closed journal s → s.frozen v ≡ true
    → source.index ≡ v → source.tag ≡ (s.node v).tag → head_frozen journal source ≡ true
head_of journal s v source c frozen index tag = subst (λ (y : Life). head_frozen journal y ≡ true)
    (sym (life_is source v (s.node v).tag index tag)) (c.each v frozen)

module _ (sizes : Sizes) (z : IsLayout sizes) (past : List Event) (e : Event) (kept : IsKept sizes past)
    (ok : Allowed sizes past e) where
  -- a linked edge of the frozen part of a list ends as it's handed over
  handed_end : (s : State) (v : ℕ) (x : Life) → x.index < sizes.nodes → state sizes (past ++ e ∷ []) ≡ handed v s →
      (On (s.edges v) x.index → On ((state sizes past).edges v) x.index) → (s.node v).tag ≡ (node_in sizes past v).tag
      → (s.node x.index).source ≡ (node_in sizes past x.index).source → (s.node x.index).vertex ≡
      (node_in sizes past x.index).vertex → (node_in sizes past x.index).mode ≡ Linked
      → unlinked (past ++ e ∷ []) x ≡ false → (s.node x.index).tag ≡ x.tag → (s.node x.index).mode ≡ Linked → On
      (frozen_part s v) x.index → HasEnd (past ++ e ∷ []) x (length (past ++ e ∷ []))
  handed_end s v x there is edges tag source vertex was stays life m part =
      let journal : List Event = past ++ e ∷ [] in
      let keeps : IsKept sizes journal = kept_snoc sizes past e kept ok in
      let on : On (s.edges v) x.index × (s.frozen v ≡ true) = part_on s v x.index part in
      let l = (listed sizes z past kept).each v x.index (edges on.0) in
      let n : Node = (handed v s).node x.index in
      let same : IsSameLife (s.node x.index) n = handed_same s v x.index m in
      let named_now : Named sizes journal (handed v s) = subst (Named sizes journal) is (named sizes z journal keeps) in
      let closed_now : Closed journal (handed v s) = subst (Closed journal) is (closed sizes journal keeps) in
      let told : IsNamed journal n x.index = named_now.each x.index there in
      let this : record { index = x.index; tag = n.tag } ≡ x = sym
      (life_is x x.index n.tag refl (sym (same.tag ∙ life))) in
      let edge : n.vertex ≡ false = same.vertex ∙ (vertex ∙ l.edge was) in
      let link : IsLinkOf journal (record { index = x.index; tag = n.tag }) n.source n.target n.key n.weight =
      told.edge_link same.used edge in
      let from : link.link.source ≡ (node_in sizes past x.index).source = link.from ∙ (same.source ∙ source) in
      let now : ((handed v s).node v).tag ≡ (node_in sizes past v).tag = handed_case
      (λ (u : Node). u.tag ≡ (node_in sizes past v).tag) s v v tag (λ _ _ _. tag) in
      handed_at journal x link.link stays
      (subst (λ (y : Life). link_of journal y ≡ Some link.link) this link.is)
      (subst (λ (y : Life). edge_marked journal y ≡ true) this
      (told.edge_mark same.used edge ∙ (same.marked ∙ part_marked s v x.index part)))
      (head_of journal (handed v s) v link.link.source closed_now on.1 (ap (λ (y : Life). y.index) from ∙ l.index was)
      (ap (λ (y : Life). y.tag) from ∙ (l.tag was ∙ sym now)))

  -- an event that unlinks is about the linked node of its life
  unlinks_linked : (k : Kind) → e.kind ≡ k → AllowedAs k sizes past e → unlinks e.kind ≡ true →
      ((node_in sizes past e.life.index).mode ≡ Linked) × (e.life.tag ≡ (node_in sizes past e.life.index).tag)
  unlinks_linked UnlinkVertex is ok h = (ok.linked.linked, ok.life)
  unlinks_linked UnlinkEdge is ok h = (ok.linked.linked, ok.life)
  unlinks_linked _ is ok h = let t = sym (ap unlinks is) ∙ h in absurd (cc)

  -- a life that is over stays so
  gone_step : (k : Kind) → e.kind ≡ k → AllowedAs k sizes past e → (x : Life) → IsLifeOver past x
      (node_in sizes past x.index) → IsLifeOver (past ++ e ∷ []) x
      ((state_by k sizes e (state sizes past)).node x.index)
  gone_step k is allowed x c =
      let v : Node = node_in sizes past x.index in
      let not : (unlinks e.kind && same_life x e.life) ≡ false = by (unlinks e.kind && same_life x e.life) refl in
      let later : HasEndedIn x.tag 0 v.epoch ((state_by k sizes e (state sizes past)).node x.index) = over_step sizes z
      x.index x.tag 0 v.epoch past e kept record {
        low = c.low;
        fresh = c.fresh;
        linked = c.linked;
        epoch_is = λ _.
            refl;
      } k
      (λ h. ok.by (ap draws is ∙ h)) allowed (word_at sizes (past ++ e ∷ [])) (after_event sizes past e) in
      record {
        life = record {
          end = c.life.end;
          ends = ends_more past e x c.life.end not c.life.ends;
          before = ⊎_elim (λ same. omega (arith, c.life.before, same.0))
              (λ now. omega (arith, c.life.before, now.0, (ended sizes past kept).ended x.index))
              (end_by k sizes past e allowed x.index);
        };
        low = later.low;
        fresh = later.fresh;
        linked = later.linked;
      }
    where
      by : (b : Bool) → (unlinks e.kind && same_life x e.life) ≡ b → b ≡ false
      by false h = refl
      by true h =
          let u = unlinks_linked k is allowed (and_left (unlinks e.kind) (same_life x e.life) h) in
          let same : x ≡ e.life = same_is x e.life (and_right (unlinks e.kind) (same_life x e.life) h) in
          absurd (c.linked (ap (λ (y : Life). (node_in sizes past y.index).tag) same ∙
          (sym u.1 ∙ ap (λ (y : Life). y.tag) (sym same)))
          (ap (λ (y : Life). (node_in sizes past y.index).mode) same ∙ u.0))

  -- a present life stays so, where its node is neither taken, unlinked, handed over nor given back
  present_same : (x : Life) (v v' : Node) → (unlinks e.kind && same_life x e.life) ≡ false → IsPresent past x v
      → v'.tag ≡ v.tag → v'.mode ≢ Free → v'.mode ≢ Spent → Fate (past ++ e ∷ []) x v'
  present_same x v v' not c tag free spent = inr record {
    tag = tag
        ∙ c.tag;
    free = free;
    spent = spent;
    stays = any_skip (λ (d : Event). unlinks d.kind && same_life x d.life) past e
        not ∙ c.stays;
  }

  skips : (k : Kind) → e.kind ≡ k → unlinks k ≡ false → (x : Life) → (unlinks e.kind && same_life x e.life) ≡ false
  skips k is other x = ap (λ (b : Bool). b && same_life x e.life) (ap unlinks is ∙ other)

  elsewhere : (x : Life) → x.index ≢ e.life.index → (unlinks e.kind && same_life x e.life) ≡ false
  elsewhere x ne = ap (λ (b : Bool). unlinks e.kind && b) (other_index x e.life ne) ∙ by (unlinks e.kind)
    where
      by : (b : Bool) → (b && false) ≡ false
      by true = refl
      by false = refl

  -- the node of the event changes
  present_put : (x : Life) (v : Node) → IsPresent past x (node_in sizes past x.index) →
      (x.index ≡ e.life.index → Fate (past ++ e ∷ []) x v) → Fate (past ++ e ∷ []) x
      (put e.life.index v (state sizes past).node x.index)
  present_put x v c here = put_case (λ (u : Node). Fate (past ++ e ∷ []) x u) e.life.index v
      (state sizes past).node x.index here (λ ne. present_same x (node_in sizes past x.index) _
      (elsewhere x ne) c refl c.free c.spent)

  -- it's unlinked
  unlinked_end : (k : Kind) → e.kind ≡ k → unlinks k ≡ true → (x : Life) → IsPresent past x (node_in sizes past x.index)
      → x.index ≡ e.life.index → e.life.tag ≡ (node_in sizes past e.life.index).tag → (v : Node) → v.ended ≡
      (state sizes past).count + 1 → v.tag ≡ (node_in sizes past e.life.index).tag → v.mode ≡ Spent
      → Fate (past ++ e ∷ []) x v
  unlinked_end k is hits x c same life v ends tag m =
      let tags : (node_in sizes past x.index).tag ≡ (node_in sizes past e.life.index).tag = ap
      (λ (y : ℕ). (node_in sizes past y).tag) same in
      inl record {
        life = record {
          end = length past;
          ends = inl record {
            event = e;
            at = get_here past e [];
            unlinks = ap unlinks
                is ∙ hits;
            life = life_is e.life x.index x.tag (sym same) (life ∙ (sym tags ∙ c.tag));
          };
          before = omega
              (arith, ends, count-length sizes past);
        };
        low = omega (arith, tag, tags, c.tag);
        fresh = λ _ h. absurd (cc);
        linked = λ _ h. absurd (cc);
      }

  -- a marked node, before the frozen part is handed over
  present_mark : (x : Life) → IsPresent past x (node_in sizes past x.index) →
      (unlinks e.kind && same_life x e.life) ≡ false → Fate (past ++ e ∷ []) x
      ((marked_state (state sizes past) e.life.index).node x.index)
  present_mark x c not = put_case (λ (u : Node). Fate (past ++ e ∷ []) x u) e.life.index
      (record (node_in sizes past e.life.index) { marked = true }) (state sizes past).node x.index
      (λ same. present_same x (node_in sizes past x.index) _ not c
      (ap (λ (y : ℕ). (node_in sizes past y).tag) (sym same))
      (λ h. c.free (ap (λ (y : ℕ). (node_in sizes past y).mode) same ∙ h))
      (λ h. c.spent (ap (λ (y : ℕ). (node_in sizes past y).mode) same ∙ h)))
      (λ _. present_same x (node_in sizes past x.index) _ not c refl c.free c.spent)

  marked_same : (i y : ℕ) → ((put i (record (node_in sizes past i) { marked = true }) (state sizes past).node y).tag ≡
      (node_in sizes past y).tag) × ((put i (record (node_in sizes past i) { marked = true })
      (state sizes past).node y).source ≡ (node_in sizes past y).source)
      × ((put i (record (node_in sizes past i) { marked = true }) (state sizes past).node y).vertex ≡
      (node_in sizes past y).vertex) × ((put i (record (node_in sizes past i) { marked = true })
      (state sizes past).node y).mode ≡ (node_in sizes past y).mode)
  marked_same i y = put_case (λ (u : Node). (u.tag ≡ (node_in sizes past y).tag) ×
      (u.source ≡ (node_in sizes past y).source) × (u.vertex ≡ (node_in sizes past y).vertex) ×
      (u.mode ≡ (node_in sizes past y).mode)) i _ (state sizes past).node y
      (λ same. (
        ap (λ (j : ℕ). (node_in sizes past j).tag) (sym same),
        ap (λ (j : ℕ). (node_in sizes past j).source)
            (sym same),
        ap (λ (j : ℕ). (node_in sizes past j).vertex) (sym same),
        ap
            (λ (j : ℕ). (node_in sizes past j).mode) (sym same),
      ))
      (λ _. (refl, refl, refl, refl))

  long : (state sizes past).count + 1 ≡ length (past ++ e ∷ [])
  long = omega (arith, count-length sizes past, length-append past (e ∷ []))

  longer : (n : ℕ) → n ≡ length (past ++ e ∷ []) → {x : Life} → HasEnd (past ++ e ∷ []) x (length (past ++ e ∷ []))
      → HasEnd (past ++ e ∷ []) x n
  longer n is h = record { end = h.end; ends = h.ends; before = omega (arith, h.before, is) }

  -- an edge is marked, and the frozen part of its list handed over
  present_marked : (x : Life) → x.index < sizes.nodes → (v : ℕ) → state sizes (past ++ e ∷ []) ≡ handed v
      (marked_state (state sizes past) e.life.index) → (unlinks e.kind && same_life x e.life) ≡ false → IsPresent past x
      (node_in sizes past x.index)
      → Fate (past ++ e ∷ []) x ((handed v (marked_state (state sizes past) e.life.index)).node x.index)
  present_marked x there v is not c =
      let s : State = marked_state (state sizes past) e.life.index in
      let t = marked_same e.life.index x.index in
      handed_case (λ (u : Node). Fate (past ++ e ∷ []) x u) s v x.index (present_mark x c not)
      (λ m _ part. inl record {
        life = longer s.count long (handed_end s v x there is (λ h. h) (marked_same e.life.index v).0 t.1 t.2
            (sym t.3 ∙ m) (any_skip (λ (d : Event). unlinks d.kind && same_life x d.life) past e not ∙ c.stays)
            (t.0 ∙ c.tag) m part);
        low = omega (arith, t.0, c.tag);
        fresh = λ _ h. absurd (cc);
        linked = λ _ h. absurd (cc);
      })

  -- an edge is replaced, and the frozen part of its list handed over
  present_replaced : (r : IsReplaceEdge sizes past e) → (x : Life) → x.index < sizes.nodes → state sizes
      (past ++ e ∷ []) ≡ state_by ReplaceEdge sizes e (state sizes past) →
      (unlinks e.kind && same_life x e.life) ≡ false → IsPresent past x (node_in sizes past x.index)
      → Fate (past ++ e ∷ []) x ((state_by ReplaceEdge sizes e (state sizes past)).node x.index)
  present_replaced r x there is not c =
      let s : State = state sizes past in
      let j : State = joined_edge sizes e s in
      let t : State = marked_state j e.old.index in
      let home : ℕ = (j.node e.old.index).source.index in
      let m = marked_same e.old.index x.index in
      let joined_tag : (y : ℕ) → (j.node y).tag ≡ (node_in sizes past y).tag = λ y. put_case
      (λ (u : Node). u.tag ≡ (node_in sizes past y).tag) e.life.index
      (new_edge_node (s.node e.life.index) e s.count) s.node y
      (λ same. ap (λ (i : ℕ). (node_in sizes past i).tag) (sym same)) (λ _. refl) in
      let home_tag : (t.node home).tag ≡ (node_in sizes past home).tag = put_case
      (λ (u : Node). u.tag ≡ (node_in sizes past home).tag) e.old.index
      (record (j.node e.old.index) { marked = true }) j.node home
      (λ same. ap (λ (i : ℕ). (j.node i).tag) (sym same) ∙ joined_tag home) (λ _. joined_tag home) in
      replaced_case sizes z past e kept r (λ (u : Node). Fate (past ++ e ∷ []) x u) x.index
      (λ same. present_same x (node_in sizes past x.index) _ not c
      (ap (λ (y : ℕ). (node_in sizes past y).tag) (sym same)) (λ h. absurd (cc)) (λ h. absurd (cc)))
      (λ _. present_same x (node_in sizes past x.index) _ not c m.0 (λ h. c.free (sym m.3 ∙ h))
      (λ h. c.spent (sym m.3 ∙ h)))
      (λ ne linked _ part.
      let at = else_marked sizes z past e kept r x.index ne in
      inl record {
        life = longer t.count long (handed_end t home x there is
            (λ h. ⊎_elim (λ (g : On (s.edges home) x.index). g) (λ (g : (x.index ≡ e.life.index) × _). absurd (ne g.0))
            (linked_was sizes (second_at sizes home) e.place e.life.index x.index (s.edges home) h))
            home_tag (ap (λ (v : Node). v.source) at ∙ m.1) (ap (λ (v : Node). v.vertex) at ∙ m.2) (sym m.3 ∙ linked)
            (any_skip (λ (d : Event). unlinks d.kind && same_life x d.life) past e not ∙ c.stays)
            (ap (λ (v : Node). v.tag) at ∙ (m.0 ∙ c.tag)) (ap (λ (v : Node). v.mode) at ∙ linked) part);
        low = omega (arith, m.0, c.tag);
        fresh = λ _ h. absurd (cc);
        linked = λ _ h. absurd (cc);
      })

  -- a list is closed, and its frozen part handed over
  present_closed : (x : Life) → x.index < sizes.nodes → state sizes (past ++ e ∷ []) ≡ handed e.life.index
      (closed_state (state sizes past) e.life.index) → (unlinks e.kind && same_life x e.life) ≡ false → IsPresent past x
      (node_in sizes past x.index)
      → Fate (past ++ e ∷ []) x ((handed e.life.index (closed_state (state sizes past) e.life.index)).node x.index)
  present_closed x there is not c =
      let s : State = closed_state (state sizes past) e.life.index in
      handed_case (λ (u : Node). Fate (past ++ e ∷ []) x u) s e.life.index x.index
      (present_same x (node_in sizes past x.index) _ not c refl c.free c.spent)
      (λ m _ part. inl record {
        life = longer s.count long (handed_end s e.life.index x there is (λ h. h) refl refl refl m
            (any_skip (λ (d : Event). unlinks d.kind && same_life x d.life) past e not ∙ c.stays) c.tag m part);
        low = omega (arith, c.tag);
        fresh = λ _ h. absurd (cc);
        linked = λ _ h. absurd (cc);
      })

  mode_at : (x : Life) (m : Mode) → x.index ≡ e.life.index → (node_in sizes past e.life.index).mode ≡ m →
      (node_in sizes past x.index).mode ≡ m
  mode_at x m same is = ap (λ (y : ℕ). (node_in sizes past y).mode) same ∙ is

  tag_at : (x : Life) → x.index ≡ e.life.index → (node_in sizes past e.life.index).tag ≡
      (node_in sizes past x.index).tag
  tag_at x same = ap (λ (y : ℕ). (node_in sizes past y).tag) (sym same)

  -- a present life stays so, or ends here
  present_step : (k : Kind) → e.kind ≡ k → AllowedAs k sizes past e → state sizes (past ++ e ∷ []) ≡ state_by k sizes e
      (state sizes past) → (x : Life) → x.index < sizes.nodes → IsPresent past x (node_in sizes past x.index)
      → Fate (past ++ e ∷ []) x ((state_by k sizes e (state sizes past)).node x.index)
  present_step PopFree is allowed to x there c = present_put x _ c
      (λ same. absurd (c.free (mode_at x Free same (taken sizes z past e kept allowed).free)))
  present_step LinkVertex is allowed to x there c = present_put x _ c
      (λ same. present_same x (node_in sizes past x.index) _ (skips LinkVertex is refl x) c (tag_at x same)
      (λ h. absurd (cc)) (λ h. absurd (cc)))
  present_step LinkEdge is allowed to x there c = present_put x _ c
      (λ same. present_same x (node_in sizes past x.index) _ (skips LinkEdge is refl x) c (tag_at x same)
      (λ h. absurd (cc)) (λ h. absurd (cc)))
  present_step MarkVertex is allowed to x there c = present_mark x c (skips MarkVertex is refl x)
  present_step UnlinkVertex is allowed to x there c = present_put x _ c
      (λ same. unlinked_end UnlinkVertex is refl x c same allowed.life _ refl refl refl)
  present_step UnlinkEdge is allowed to x there c = present_put x _ c
      (λ same. unlinked_end UnlinkEdge is refl x c same allowed.life _ refl refl refl)
  present_step StoreFree is allowed to x there c = present_put x _ c
      (λ same. absurd (c.spent (mode_at x Spent same allowed.ripe.stamped.spent.spent)))
  present_step PushFree is allowed to x there c = present_put x _ c
      (λ same. absurd (c.spent (mode_at x Spent same allowed.ripe.stamped.spent.spent)))
  present_step ReplaceEdge is allowed to x there c = present_replaced allowed x there to (skips ReplaceEdge is refl x) c
  present_step MarkEdge is allowed to x there c = present_marked x there
      (node_in sizes past e.life.index).source.index to (skips MarkEdge is refl x) c
  present_step FreezeEdge is allowed to x there c = present_marked x there
      (node_in sizes past e.life.index).source.index to (skips FreezeEdge is refl x) c
  present_step FreezeHead is allowed to x there c = present_closed x there to (skips FreezeHead is refl x) c
  present_step k is allowed to x there c = present_same x (node_in sizes past x.index) _
      (skips k is refl x) c refl c.free c.spent

  -- a life begins
  begun : e.kind ≡ PopFree → Fate (past ++ e ∷ []) e.life ((state_by PopFree sizes e (state sizes past)).node
      e.life.index)
  begun is =
      let allowed : AllowedAs PopFree sizes past e = subst (λ (k : Kind). AllowedAs k sizes past e) is ok.as_kind in
      let stays : unlinked (past ++ e ∷ []) e.life ≡ false = any_skip
      (λ (d : Event). unlinks d.kind && same_life e.life d.life) past e (skips PopFree is refl e.life)
      ∙ none_any unlinks e.life past ((lives sizes z past kept).later unlinks e.life
      (omega (arith, (taken sizes z past e kept allowed).tag))) in
      subst (λ (v : Node). Fate (past ++ e ∷ []) e.life v) (sym (put_same e.life.index _ (state sizes past).node))
      (inr record { tag = refl; free = λ h. absurd (cc); spent = λ h. absurd (cc); stays = stays })

-- each life for which a node was taken
pub record Fates (sizes : Sizes) (journal : List Event) : Type 0 where
  pub there : (k : ℕ) (a : Event) → slice_get journal k ≡ Some a → a.kind ≡ PopFree → a.life.index < sizes.nodes
  pub fate : (k : ℕ) (a : Event) → slice_get journal k ≡ Some a → a.kind ≡ PopFree → Fate journal a.life
      (node_in sizes journal a.life.index)

fates_step : (sizes : Sizes) → IsLayout sizes → (past : List Event) (e : Event) → IsKept sizes past → Fates sizes past
    → Allowed sizes past e → Fates sizes (past ++ e ∷ [])
fates_step sizes z past e kept c ok =
    let pop : (a : Event) → e ≡ a → a.kind ≡ PopFree → e.kind ≡ PopFree = λ a new pops. ap (λ (d : Event). d.kind) new
    ∙ pops in
    let allowed : e.kind ≡ PopFree → AllowedAs PopFree sizes past e = λ is. subst
    (λ (k : Kind). AllowedAs k sizes past e) is ok.as_kind in
    let to : state sizes (past ++ e ∷ []) ≡ state_by e.kind sizes e (state sizes past) = state-snoc sizes past e in
    record {
      there = λ k a at pops. ⊎_elim
          (λ (was : slice_get past k ≡ Some a). c.there k a was pops)
          (λ (new : e ≡ a). subst (λ (d : Event). d.life.index < sizes.nodes) new (allowed (pop a new pops)).there)
          (at_last past e k a at);
      fate = λ k a at pops. subst (λ (s : State). Fate (past ++ e ∷ []) a.life (s.node a.life.index)) (sym to) (⊎_elim
          (λ (was : slice_get past k ≡ Some a). ⊎_elim
          (λ (gone : IsLifeOver past a.life (node_in sizes past a.life.index)). inl
          (gone_step sizes z past e kept ok e.kind refl ok.as_kind a.life gone))
          (λ (here : IsPresent past a.life (node_in sizes past a.life.index)). present_step sizes z past e kept ok
          e.kind refl ok.as_kind to a.life (c.there k a was pops) here) (c.fate k a was pops))
          (λ (new : e ≡ a). subst (λ (d : Event). Fate (past ++ e ∷ []) d.life
          ((state_by e.kind sizes e (state sizes past)).node d.life.index)) new
          (subst (λ (k : Kind). Fate (past ++ e ∷ []) e.life ((state_by k sizes e (state sizes past)).node
          e.life.index)) (sym (pop a new pops)) (begun sizes z past e kept ok (pop a new pops))))
          (at_last past e k a at));
    }

-- the lives of nodes after each kept journal
pub fates : (sizes : Sizes) → IsLayout sizes → (journal : List Event) → IsKept sizes journal → Fates sizes journal
fates sizes z journal kept = kept_all sizes (Fates sizes) (λ past e k c ok. fates_step sizes z past e k c ok)
    (record { there = λ k a at. absurd (cc); fate = λ k a at. absurd (cc) }) journal kept
