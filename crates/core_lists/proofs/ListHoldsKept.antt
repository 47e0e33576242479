-- What the lists of edges hold after each kept journal.
use Rattle.std.proofs.Common.{◌≡◌, ◌≢◌, ◌⊎◌, ℕ, ◌+◌, ◌<◌, List, Bool, true, false, refl, sym, ap, ◌∙◌, subst, inl, inr}
use Rattle.std.proofs.Common.{arith, ⊎_elim}
use mathlib.Core.Logic.{dite}
use native.Mathlib.Decide.{ℕ_discrete}
use Rattle.graph_kinds.specs.Levels.{stands_in}
use Rattle.packed_link.specs.Link.{mark_of}
use Rattle.packed_link.specs.Layout.{Sizes, IsLayout, link_at, second_at}
use Rattle.packed_link.specs.declared.link.Life.{Life}
use Rattle.core_journal.specs.declared.event.Kind.{Kind}
use Rattle.core_journal.specs.declared.event.Kind.TheVariants.{PopFree, LinkVertex, MarkVertex, UnlinkVertex, LinkEdge}
use Rattle.core_journal.specs.declared.event.Kind.TheVariants.{MarkEdge, UnlinkEdge, ReplaceEdge, FreezeHead}
use Rattle.core_journal.specs.declared.event.Kind.TheVariants.{FreezeEdge, StoreFree, PushFree}
use Rattle.core_journal.specs.declared.event.Event.{Event}
use Rattle.core_journal.specs.Machine.{word_at}
use Rattle.core_journal.specs.State.{Free, Fresh, Linked, Spent, Node, State, state_by, state, joined_edge}
use Rattle.core_kept.specs.Kept.{AllowedAs, IsKept}
use Rattle.core_kept.specs.Edges.{IsLinkEdge, IsUnlinkEdge, IsReplaceEdge}
use Rattle.core_kept.specs.Vertices.{IsLinkVertex, IsMarkVertex, IsUnlinkVertex}
use Rattle.core_kept.specs.FreeNodes.{IsStoreFree, IsPushFree}
use Rattle.core_kept.specs.Nodes.{node_in, IsUsed}
use Rattle.core_lists.specs.Chains.{HasList, Sources}
use Rattle.core_kept.proofs.ByKind.{KeepsByKind, put_case, put_other, marked_state, closed_state, holds_all}
use Rattle.core_kept.proofs.LinkWords.{link_words, taken, mark_is, mark_isnt}
use Rattle.core_kept.proofs.Contents.{contents}
use Rattle.core_kept.proofs.NodesOnLists.{IsWordOf}
use Rattle.core_lists.proofs.ListHolds.{IsFinished, IsOpenList, ListingOf, KeepsLists, moved_open, moved_back}
use Rattle.core_lists.proofs.ListHolds.{moved_finish, moved, IsGrown, then_finished, then_open, handed_over}
use Rattle.core_lists.proofs.ListingsBehindSteps.{popped_finished, popped_open, popped_listing, cut_finished, cut_open}
use Rattle.core_lists.proofs.ListingsBehindSteps.{cut_listing, IsJoining, joins, joins_open, joins_finished}
use Rattle.core_lists.proofs.ListingsBehindSteps.{marked_same}

-- an edge is marked
mark_grows : (sizes : Sizes) (s : State) (i : ℕ) → ListingOf sizes s → IsGrown s.node
    (marked_state s i).node s.edges s.frozen s.frozen (s.node i).source.index
mark_grows sizes s i c = record {
  mode = λ y. marked_same (λ v. v.mode) s.node i y refl;
  vertex = λ y. marked_same (λ v. v.vertex) s.node i y refl;
  source = λ y. marked_same (λ v. v.source) s.node i y refl;
  tag = λ y. marked_same (λ v. v.tag) s.node i y refl;
  stored = λ y. marked_same (λ v. v.stored) s.node i y refl;
  marked = λ y h. put_case (λ (u : Node). u.marked ≡ true) i _ s.node y (λ _. refl) (λ _. h);
  head = λ x h. h;
  marked_else = λ x y ne h. put_case (λ (u : Node). u.marked ≡ (s.node y).marked) i _ s.node y
      (λ same. absurd (ne (sym (c.on x y h).index ∙ ap (λ (z : ℕ). (s.node z).source.index) same))) (λ _. refl);
  head_else = λ x ne. refl;
}

-- a list is closed at its head
close_grows : (s : State) (i : ℕ) → IsGrown s.node s.node s.edges s.frozen (closed_state s i).frozen i
close_grows s i = record {
  mode = λ y. refl;
  vertex = λ y. refl;
  source = λ y. refl;
  tag = λ y. refl;
  stored = λ y. refl;
  marked = λ y h. h;
  head = λ x h. put_case (λ (b : Bool). b ≡ true) i true s.frozen x (λ _. refl) (λ _. h);
  marked_else = λ x y ne h. refl;
  head_else = λ x ne. put_other i true s.frozen x ne;
}

module _ (sizes : Sizes) (z : IsLayout sizes) (past : List Event) (e : Event) (kept : IsKept sizes past)
    (c : ListingOf sizes (state sizes past)) where
  -- a vertex isn't on a list
  vertex_off : (x i : ℕ) → (node_in sizes past i).vertex ≡ true → stands_in ((state sizes past).edges x) i ≡ true → ⊥
  vertex_off x i v h = let t = (c.on x i h).edge in absurd (cc)

  fresh_off : (x i : ℕ) → (node_in sizes past i).mode ≡ Fresh → stands_in ((state sizes past).edges x) i ≡ true → ⊥
  fresh_off x i f h = (c.on x i h).unfresh f

  -- the source of the edges that are linked there
  pub link_only : (ok : IsLinkEdge sizes past e) → (x : ℕ) → IsWordOf sizes (second_at sizes x) e.place
      ((state sizes past).edges x) → x ≡ e.source.index
  link_only ok x at = ⊎_elim
      (λ (h : e.place ≡ second_at sizes x). omega (arith, h, ok.place))
      (λ (h : (y : ℕ) × (stands_in ((state sizes past).edges x) y ≡ true) × (e.place ≡ link_at sizes y)). sym
      (c.on x h.0 h.1).index ∙ ap (λ (l : Life). l.index) (ok.linked h.0 h.2).from) at

  -- the word at which an edge is linked is one of the list of its source
  link_word : (ok : IsLinkEdge sizes past e) → IsWordOf sizes (second_at sizes e.source.index) e.place
      ((state sizes past).edges e.source.index)
  link_word ok = ⊎_elim
      (λ h. inl h.0)
      (λ h.
      let f = ok.linked ok.before h.0 in
      inr (
        ok.before,
        subst (λ (l : Life). stands_in ((state sizes past).edges l.index) ok.before ≡ true) f.from
            (c.source ok.before h.1 f.linked.linked f.linked.edge).on,
        h.0,
      ))
      ok.place

  -- an unmarked link of a linked node
  not_marked : (y : ℕ) → y < sizes.nodes → (node_in sizes past y).mode ≡ Linked → mark_of
      (word_at sizes past (link_at sizes y)) ≡ 0 → (node_in sizes past y).marked ≡ false
  not_marked y t l m = mark_isnt (node_in sizes past y).marked
      (sym (((link_words sizes z past kept).each y t).linked l).mark ∙ m)

  is_marked : (y : ℕ) → y < sizes.nodes → (node_in sizes past y).mode ≡ Linked → mark_of
      (word_at sizes past (link_at sizes y)) ≡ 1 → (node_in sizes past y).marked ≡ true
  is_marked y t l m = mark_is (node_in sizes past y).marked (sym
      (((link_words sizes z past kept).each y t).linked l).mark ∙ m)

  -- an unmarked second word of a vertex
  pub not_closed : (x : ℕ) → x < sizes.nodes → IsUsed (node_in sizes past x).mode → (node_in sizes past x).vertex ≡ true
      → mark_of (word_at sizes past (second_at sizes x)) ≡ 0 → (state sizes past).frozen x ≡ false
  not_closed x t u v m = mark_isnt ((state sizes past).frozen x)
      (sym (((contents sizes z past kept).each x t).vertex u v).second_mark ∙ m)

  -- so is one that replaces another
  pub replace_joins : IsReplaceEdge sizes past e → IsJoining sizes (state sizes past).node (state sizes past).edges
      (state sizes past).frozen e.life.index e.place (record (node_in sizes past e.life.index) {
        mode = Linked;
        vertex = false;
        key = e.key;
        source = e.source;
        target = e.target;
        weight = e.weight;
        since =
            (state sizes past).count + 1;
      })
  replace_joins ok =
      let d = c.source e.old.index ok.old_there ok.linked.linked ok.linked.edge in
      let home : (node_in sizes past e.old.index).source.index ≡ e.source.index = ap (λ (l : Life). l.index)
      (sym ok.source) in
      let open_home = subst (λ (x : ℕ). IsOpenList sizes (state sizes past).node (state sizes past).edges
      (state sizes past).frozen x) home d.list in
      record {
        there = ok.there;
        fresh = ok.fresh.fresh;
        linked = refl;
        edge = refl;
        tag = refl;
        mark = refl;
        stored = (((link_words sizes z past kept).each e.life.index ok.there).unmarked ok.fresh.fresh).1;
        used = open_home.used;
        vertex = open_home.vertex;
        inside = open_home.there;
        life = subst (λ (l : Life). l.tag ≡ (node_in sizes past l.index).tag) (sym ok.source) d.life;
        word = inr (
          e.old.index,
          subst (λ (x : ℕ). stands_in ((state sizes past).edges x) e.old.index ≡ true) home d.on,
          ok.place,
        );
        only = λ x at. ⊎_elim
            (λ (h : e.place ≡ second_at sizes x). omega (arith, h, ok.place))
            (λ (h : (y : ℕ) × (stands_in ((state sizes past).edges x) y ≡ true) × (e.place ≡ link_at sizes y)).
            let same : h.0 ≡ e.old.index = omega (arith, h.2, ok.place) in
            sym (c.on x h.0 h.1).index ∙ (ap (λ (y : ℕ). (node_in sizes past y).source.index) same ∙ home)) at;
        head = λ h. absurd (omega (arith, h, ok.place));
        unmarked = λ y h.
            let same : y ≡ e.old.index = omega (arith, h, ok.place) in
            not_marked y (omega (arith, same, ok.old_there)) (ap (λ (i : ℕ). (node_in sizes past i).mode) same
            ∙ ok.linked.linked) (subst (λ (p : ℕ). mark_of (word_at sizes past p) ≡ 0) h ok.unmarked);
      }

  pub link_joins : IsLinkEdge sizes past e → IsJoining sizes (state sizes past).node (state sizes past).edges
      (state sizes past).frozen e.life.index e.place (record (node_in sizes past e.life.index) {
        mode = Linked;
        vertex = false;
        key = e.key;
        source = e.source;
        target = e.target;
        weight = e.weight;
        since =
            (state sizes past).count + 1;
      })
  link_joins ok = record {
    there = ok.there;
    fresh = ok.fresh.fresh;
    linked = refl;
    edge = refl;
    tag = refl;
    mark = refl;
    stored = (((link_words sizes z past kept).each e.life.index ok.there).unmarked ok.fresh.fresh).1;
    used = ok.source.used;
    vertex = ok.source.vertex;
    inside = ok.source.there;
    life = ok.source.life;
    word = link_word ok;
    only = link_only ok;
    head = λ h. not_closed e.source.index ok.source.there ok.source.used ok.source.vertex
        (subst (λ (p : ℕ). mark_of (word_at sizes past p) ≡ 0) h ok.unmarked);
    unmarked = λ y h. let l = (ok.linked y h).linked.linked in not_marked y
        (omega (arith, ok.place, h, ok.source.there)) l (subst
        (λ (p : ℕ). mark_of (word_at sizes past p) ≡ 0) h ok.unmarked);
  }

  pub cut_marked : IsUnlinkEdge sizes past e → (node_in sizes past e.life.index).marked ≡ true
  cut_marked ok = is_marked e.life.index ok.there ok.linked.linked ok.dead

  -- the changes of one node that keep the lists
  pub link_moves : IsLinkVertex sizes past e → KeepsLists sizes (state sizes past).node (state sizes past).edges
      (state sizes past).frozen e.life.index (record (node_in sizes past e.life.index)
      { mode = Linked; vertex = true; key = e.key })
  link_moves ok = record {
    tag = refl;
    fresh = λ f. absurd (cc);
    edge = λ x h. absurd (fresh_off x e.life.index ok.fresh.fresh h);
    member = λ x o h. absurd (fresh_off x e.life.index ok.fresh.fresh h);
    used = λ _ _. inr ok.fresh.fresh;
    unstored = λ _ _ _. (((link_words sizes z past kept).each e.life.index ok.there).unmarked ok.fresh.fresh).1;
    linked = λ _ h. absurd (cc);
    still = λ o. absurd (subst IsUsed ok.fresh.fresh o.used);
  }

  pub mark_moves : IsMarkVertex sizes past e → KeepsLists sizes (state sizes past).node (state sizes past).edges
      (state sizes past).frozen e.life.index (record (node_in sizes past e.life.index) { marked = true })
  mark_moves ok = record {
    tag = refl;
    fresh = λ f. f;
    edge = λ x h. absurd (vertex_off x e.life.index ok.linked.vertex h);
    member = λ x o h. absurd (vertex_off x e.life.index ok.linked.vertex h);
    used = λ u v. inl (u, v);
    unstored = λ u v f. c.unstored e.life.index record { there = ok.there; used = u; vertex = v; unfinished = f };
    linked = λ _ h. let v = ok.linked.vertex in absurd (cc);
    still = λ o. (o.used, o.vertex);
  }

  pub unlink_moves : IsUnlinkVertex sizes past e → KeepsLists sizes (state sizes past).node (state sizes past).edges
      (state sizes past).frozen e.life.index (record (node_in sizes past e.life.index)
      { mode = Spent; who = e.caller; ended = (state sizes past).count + 1; epoch = (state sizes past).epoch })
  unlink_moves ok = record {
    tag = refl;
    fresh = λ f. absurd (cc);
    edge = λ x h. absurd (vertex_off x e.life.index ok.linked.vertex h);
    member = λ x o h. absurd (vertex_off x e.life.index ok.linked.vertex h);
    used = λ _ v. inl (subst IsUsed (sym ok.linked.linked) tt, v);
    unstored = λ _ v f. c.unstored e.life.index record {
      there = ok.there;
      used = subst IsUsed
          (sym ok.linked.linked) tt;
      vertex = v;
      unfinished = f;
    };
    linked = λ m _. absurd (cc);
    still = λ o. (tt, o.vertex);
  }

  pub store_moves : IsStoreFree sizes past e → KeepsLists sizes (state sizes past).node (state sizes past).edges
      (state sizes past).frozen e.life.index (record (node_in sizes past e.life.index) { stored = true })
  store_moves ok = record {
    tag = refl;
    fresh = λ f. f;
    edge = λ x h. ((c.on x e.life.index h).edge, refl, refl);
    member = λ x o h. let f = ok.list x o.there h in absurd (o.unfinished record { head = f.head; each = f.edges });
    used = λ u v. inl (u, v);
    unstored = λ u v f. let g = ok.own_list v in absurd (f record { head = g.head; each = g.edges });
    linked = λ m _. let t = ok.ripe.stamped.spent.spent in absurd (cc);
    still = λ o. (o.used, o.vertex);
  }

  pub push_moves : IsPushFree sizes past e → KeepsLists sizes (state sizes past).node (state sizes past).edges
      (state sizes past).frozen e.life.index (record (node_in sizes past e.life.index) { mode = Free })
  push_moves ok = record {
    tag = refl;
    fresh = λ f. absurd (cc);
    edge = λ x h. ((c.on x e.life.index h).edge, refl, refl);
    member = λ x o h. let t = c.held x e.life.index o h in let u = ok.stored in absurd (cc);
    used = λ u _. absurd u;
    unstored = λ u _ _. absurd u;
    linked = λ m _. absurd (cc);
    still = λ o. let t = c.unstored e.life.index o in let u = ok.stored in absurd (cc);
  }

listing_step : (sizes : Sizes) → IsLayout sizes → KeepsByKind sizes (λ (s : State) (w : ℕ → ℕ). ListingOf sizes s)
listing_step sizes z past e kept c PopFree by ok w a = popped_listing sizes (state sizes past).node
    (state sizes past).edges (state sizes past).frozen c e.life.index _ (taken sizes z past e kept ok).free refl
listing_step sizes z past e kept c LinkVertex by ok w a = moved sizes (state sizes past).node (state sizes past).edges
    (state sizes past).frozen c e.life.index _ (link_moves sizes z past e kept c ok)
listing_step sizes z past e kept c MarkVertex by ok w a = moved sizes (state sizes past).node (state sizes past).edges
    (state sizes past).frozen c e.life.index _ (mark_moves sizes z past e kept c ok)
listing_step sizes z past e kept c UnlinkVertex by ok w a = moved sizes (state sizes past).node (state sizes past).edges
    (state sizes past).frozen c e.life.index _ (unlink_moves sizes z past e kept c ok)
listing_step sizes z past e kept c StoreFree by ok w a = moved sizes (state sizes past).node (state sizes past).edges
    (state sizes past).frozen c e.life.index _ (store_moves sizes z past e kept c ok)
listing_step sizes z past e kept c PushFree by ok w a = moved sizes (state sizes past).node (state sizes past).edges
    (state sizes past).frozen c e.life.index _ (push_moves sizes z past e kept c ok)
listing_step sizes z past e kept c LinkEdge by ok w a = joins sizes (state sizes past).node (state sizes past).edges
    (state sizes past).frozen c e.life.index e.place _ (link_joins sizes z past e kept c ok)
listing_step sizes z past e kept c UnlinkEdge by ok w a =
    let m = cut_marked sizes z past e kept c ok in
    cut_listing sizes (state sizes past).node (state sizes past).edges
    (state sizes past).frozen c e.life.index _ ok.linked.linked ok.linked.edge m refl refl ok.linked.edge m
listing_step sizes z past e kept c MarkEdge by ok w a = handed_over sizes (state sizes past).node
    (state sizes past).frozen (marked_state (state sizes past) e.life.index)
    (node_in sizes past e.life.index).source.index c (mark_grows sizes (state sizes past) e.life.index c)
listing_step sizes z past e kept c ReplaceEdge by ok w a =
    let d : ListingOf sizes (joined_edge sizes e (state sizes past)) = joins sizes (state sizes past).node
    (state sizes past).edges (state sizes past).frozen c e.life.index e.place _
    (replace_joins sizes z past e kept c ok) in
    handed_over sizes (joined_edge sizes e (state sizes past)).node (joined_edge sizes e (state sizes past)).frozen
    (marked_state (joined_edge sizes e (state sizes past)) e.old.index)
    ((joined_edge sizes e (state sizes past)).node e.old.index).source.index d
    (mark_grows sizes (joined_edge sizes e (state sizes past)) e.old.index d)
listing_step sizes z past e kept c FreezeEdge by ok w a = handed_over sizes (state sizes past).node
    (state sizes past).frozen (marked_state (state sizes past) e.life.index)
    (node_in sizes past e.life.index).source.index c (mark_grows sizes (state sizes past) e.life.index c)
listing_step sizes z past e kept c FreezeHead by ok w a = handed_over sizes (state sizes past).node
    (state sizes past).frozen (closed_state (state sizes past) e.life.index) e.life.index c
    (close_grows (state sizes past) e.life.index)
listing_step sizes z past e kept c _ by ok w a = c

-- what the lists hold after each kept journal
pub listing : (sizes : Sizes) → IsLayout sizes → (journal : List Event) → IsKept sizes journal → ListingOf sizes
    (state sizes journal)
listing sizes z journal kept = holds_all sizes (λ (s : State) (w : ℕ → ℕ). ListingOf sizes s)
    (listing_step sizes z) record {
      on = λ x y h. absurd (cc);
      empty = λ x f. absurd (cc);
      handed = λ x y o h. absurd (o.used);
      linked = λ x y o h f. absurd (o.used);
      unstored = λ x o. absurd (o.used);
      held = λ x y o h. absurd (o.used);
      source = λ y t l e. absurd (cc);
    } journal kept

-- the kinds that link no vertex
abbrev pub IsNoVertex : Kind → Type 0
IsNoVertex LinkVertex = ⊥
IsNoVertex _ = Unit {0}

-- a vertex has a list that isn't frozen to its end
abbrev pub IsOpenIn : Sizes → State → ℕ → Type 0
IsOpenIn sizes s x = IsOpenList sizes s.node s.edges s.frozen x

-- it had one before, where no vertex is linked
pub open_before : (sizes : Sizes) → IsLayout sizes → (past : List Event) (e : Event) → IsKept sizes past → (k : Kind)
    → IsNoVertex k → AllowedAs k sizes past e → (x : ℕ) → IsOpenIn sizes (state_by k sizes e (state sizes past)) x
    → IsOpenIn sizes (state sizes past) x
open_before sizes z past e kept LinkVertex n ok x o = absurd n
open_before sizes z past e kept PopFree n ok x o = popped_open sizes (state sizes past).node (state sizes past).edges
    (state sizes past).frozen (listing sizes z past kept) e.life.index _ (taken sizes z past e kept ok).free refl x o
open_before sizes z past e kept MarkVertex n ok x o = moved_back sizes (state sizes past).node (state sizes past).edges
    (state sizes past).frozen (listing sizes z past kept) e.life.index _
    (mark_moves sizes z past e kept (listing sizes z past kept) ok) (λ u v. (u, v)) x o
open_before sizes z past e kept UnlinkVertex n ok x o = moved_back sizes (state sizes past).node
    (state sizes past).edges (state sizes past).frozen (listing sizes z past kept) e.life.index _
    (unlink_moves sizes z past e kept (listing sizes z past kept) ok)
    (λ u v. (subst IsUsed (sym ok.linked.linked) tt, v)) x o
open_before sizes z past e kept StoreFree n ok x o = moved_back sizes (state sizes past).node (state sizes past).edges
    (state sizes past).frozen (listing sizes z past kept) e.life.index _
    (store_moves sizes z past e kept (listing sizes z past kept) ok) (λ u v. (u, v)) x o
open_before sizes z past e kept PushFree n ok x o = moved_back sizes (state sizes past).node (state sizes past).edges
    (state sizes past).frozen (listing sizes z past kept) e.life.index _
    (push_moves sizes z past e kept (listing sizes z past kept) ok) (λ u v. absurd u) x o
open_before sizes z past e kept LinkEdge n ok x o = joins_open sizes (state sizes past).node (state sizes past).edges
    (state sizes past).frozen (listing sizes z past kept) e.life.index e.place _
    (link_joins sizes z past e kept (listing sizes z past kept) ok) x o
open_before sizes z past e kept UnlinkEdge n ok x o =
    let m = cut_marked sizes z past e kept (listing sizes z past kept) ok in
    cut_open sizes (state sizes past).node (state sizes past).edges (state sizes past).frozen
    (listing sizes z past kept) e.life.index _ ok.linked.linked ok.linked.edge m refl refl ok.linked.edge m x o
open_before sizes z past e kept MarkEdge n ok x o = then_open sizes (state sizes past).node (state sizes past).frozen
    (marked_state (state sizes past) e.life.index) (node_in sizes past e.life.index).source.index
    (listing sizes z past kept) (mark_grows sizes (state sizes past) e.life.index (listing sizes z past kept)) x o
open_before sizes z past e kept ReplaceEdge n ok x o =
    let c = listing sizes z past kept in
    let j = replace_joins sizes z past e kept c ok in
    let d : ListingOf sizes (joined_edge sizes e (state sizes past)) = joins sizes (state sizes past).node
    (state sizes past).edges (state sizes past).frozen c e.life.index e.place _ j in
    joins_open sizes (state sizes past).node (state sizes past).edges
    (state sizes past).frozen c e.life.index e.place _ j x
    (then_open sizes (joined_edge sizes e (state sizes past)).node (joined_edge sizes e (state sizes past)).frozen
    (marked_state (joined_edge sizes e (state sizes past)) e.old.index)
    ((joined_edge sizes e (state sizes past)).node e.old.index).source.index d
    (mark_grows sizes (joined_edge sizes e (state sizes past)) e.old.index d) x o)
open_before sizes z past e kept FreezeEdge n ok x o = then_open sizes (state sizes past).node (state sizes past).frozen
    (marked_state (state sizes past) e.life.index) (node_in sizes past e.life.index).source.index
    (listing sizes z past kept) (mark_grows sizes (state sizes past) e.life.index (listing sizes z past kept)) x o
open_before sizes z past e kept FreezeHead n ok x o = then_open sizes (state sizes past).node (state sizes past).frozen
    (closed_state (state sizes past) e.life.index) e.life.index (listing sizes z past kept)
    (close_grows (state sizes past) e.life.index) x o
open_before sizes z past e kept _ n ok x o = o

-- a list that is frozen to its end is so after the event, where its vertex isn't taken
pub finished_after : (sizes : Sizes) → IsLayout sizes → (past : List Event) (e : Event) → IsKept sizes past → (k : Kind)
    → AllowedAs k sizes past e → (x : ℕ) → (k ≡ PopFree → x ≢ e.life.index)
    → IsFinished (state sizes past).node (state sizes past).edges (state sizes past).frozen x → IsFinished
    (state_by k sizes e (state sizes past)).node (state_by k sizes e (state sizes past)).edges
    (state_by k sizes e (state sizes past)).frozen x
finished_after sizes z past e kept PopFree ok x ne f = popped_finished sizes (state sizes past).node
    (state sizes past).edges (state sizes past).frozen (listing sizes z past kept) e.life.index _
    (taken sizes z past e kept ok).free refl x (ne refl) f
finished_after sizes z past e kept LinkVertex ok x ne f = moved_finish sizes (state sizes past).node
    (state sizes past).edges (state sizes past).frozen (listing sizes z past kept) e.life.index _
    (link_moves sizes z past e kept (listing sizes z past kept) ok) x f
finished_after sizes z past e kept MarkVertex ok x ne f = moved_finish sizes (state sizes past).node
    (state sizes past).edges (state sizes past).frozen (listing sizes z past kept) e.life.index _
    (mark_moves sizes z past e kept (listing sizes z past kept) ok) x f
finished_after sizes z past e kept UnlinkVertex ok x ne f = moved_finish sizes (state sizes past).node
    (state sizes past).edges (state sizes past).frozen (listing sizes z past kept) e.life.index _
    (unlink_moves sizes z past e kept (listing sizes z past kept) ok) x f
finished_after sizes z past e kept StoreFree ok x ne f = moved_finish sizes (state sizes past).node
    (state sizes past).edges (state sizes past).frozen (listing sizes z past kept) e.life.index _
    (store_moves sizes z past e kept (listing sizes z past kept) ok) x f
finished_after sizes z past e kept PushFree ok x ne f = moved_finish sizes (state sizes past).node
    (state sizes past).edges (state sizes past).frozen (listing sizes z past kept) e.life.index _
    (push_moves sizes z past e kept (listing sizes z past kept) ok) x f
finished_after sizes z past e kept LinkEdge ok x ne f = joins_finished sizes (state sizes past).node
    (state sizes past).edges (state sizes past).frozen (listing sizes z past kept) e.life.index e.place _
    (link_joins sizes z past e kept (listing sizes z past kept) ok) x f
finished_after sizes z past e kept UnlinkEdge ok x ne f =
    let m = cut_marked sizes z past e kept (listing sizes z past kept) ok in
    cut_finished sizes (state sizes past).node (state sizes past).edges (state sizes past).frozen
    (listing sizes z past kept) e.life.index _ ok.linked.linked ok.linked.edge m refl refl ok.linked.edge m x f
finished_after sizes z past e kept MarkEdge ok x ne f = then_finished sizes (state sizes past).node
    (state sizes past).frozen (marked_state (state sizes past) e.life.index)
    (node_in sizes past e.life.index).source.index (listing sizes z past kept)
    (mark_grows sizes (state sizes past) e.life.index (listing sizes z past kept)) x f
finished_after sizes z past e kept ReplaceEdge ok x ne f =
    let c = listing sizes z past kept in
    let j = replace_joins sizes z past e kept c ok in
    let d : ListingOf sizes (joined_edge sizes e (state sizes past)) = joins sizes (state sizes past).node
    (state sizes past).edges (state sizes past).frozen c e.life.index e.place _ j in
    then_finished sizes (joined_edge sizes e (state sizes past)).node (joined_edge sizes e (state sizes past)).frozen
    (marked_state (joined_edge sizes e (state sizes past)) e.old.index)
    ((joined_edge sizes e (state sizes past)).node e.old.index).source.index d
    (mark_grows sizes (joined_edge sizes e (state sizes past)) e.old.index d) x
    (joins_finished sizes (state sizes past).node (state sizes past).edges
    (state sizes past).frozen c e.life.index e.place _ j x f)
finished_after sizes z past e kept FreezeEdge ok x ne f = then_finished sizes (state sizes past).node
    (state sizes past).frozen (marked_state (state sizes past) e.life.index)
    (node_in sizes past e.life.index).source.index (listing sizes z past kept)
    (mark_grows sizes (state sizes past) e.life.index (listing sizes z past kept)) x f
finished_after sizes z past e kept FreezeHead ok x ne f = then_finished sizes (state sizes past).node
    (state sizes past).frozen (closed_state (state sizes past) e.life.index) e.life.index (listing sizes z past kept)
    (close_grows (state sizes past) e.life.index) x f
finished_after sizes z past e kept _ ok x ne f = f

-- where a vertex is linked, it had one before, or is that vertex, which was fresh
pub open_linked : (sizes : Sizes) → IsLayout sizes → (past : List Event) (e : Event) → IsKept sizes past
    → IsLinkVertex sizes past e → (x : ℕ) → IsOpenIn sizes (state_by LinkVertex sizes e (state sizes past)) x
    → IsOpenIn sizes (state sizes past) x ⊎ (x ≡ e.life.index)
open_linked sizes z past e kept ok x o = dite (ℕ_discrete x e.life.index) (λ same. inr same) (λ ne.
    inl (⊎_elim (λ (h : IsOpenIn sizes (state sizes past) x). h)
    (λ (f : (node_in sizes past x).mode ≡ Fresh). absurd (subst IsUsed
    (ap (λ (n : Node). n.mode) (put_other e.life.index (record
    (node_in sizes past e.life.index) { mode = Linked; vertex = true; key = e.key }) (state sizes past).node x ne)
    ∙ f) o.used))
    (moved_open sizes (state sizes past).node (state sizes past).edges (state sizes past).frozen
    (listing sizes z past kept) e.life.index _ (link_moves sizes z past e kept (listing sizes z past kept) ok) x
    o)))

-- the same of a list that isn't frozen to its end, in the words of the journal
pub has_open : (sizes : Sizes) (journal : List Event) (x : ℕ) → HasList sizes journal x → IsOpenList sizes
    (state sizes journal).node (state sizes journal).edges (state sizes journal).frozen x
has_open sizes journal x h = record {
  there = h.there;
  used = h.used;
  vertex = h.vertex;
  unfinished = λ f. h.unfinished
      record { head = f.head; edges = f.each };
}

pub open_has : (sizes : Sizes) (journal : List Event) (x : ℕ) → IsOpenList sizes (state sizes journal).node
    (state sizes journal).edges (state sizes journal).frozen x → HasList sizes journal x
open_has sizes journal x o = record {
  there = o.there;
  used = o.used;
  vertex = o.vertex;
  unfinished = λ f. o.unfinished
      record { head = f.head; each = f.edges };
}

-- linked edges are at their sources
pub sources : (sizes : Sizes) → IsLayout sizes → (journal : List Event) → IsKept sizes journal → Sources sizes journal
sources sizes z journal kept =
    let c = listing sizes z journal kept in record {
      each = λ y t l. let d = c.source y t l.linked l.edge in record
          { list = open_has sizes journal (node_in sizes journal y).source.index d.list; life = d.life; on = d.on };
      unstored = λ x h. c.unstored x (has_open sizes journal x h);
    }
