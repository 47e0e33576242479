-- The list of each vertex after each kept journal as a chain, and what each kind of event does to it.
use Rattle.graph_kinds.specs.Levels.{stands_in}
use Rattle.core_kept.proofs.Contents.{contents}
use Rattle.std.proofs.Common.{◌≡◌, ◌≢◌, ℕ, ◌<◌, true, false, List, [], refl, sym, ap, ◌∙◌, subst, arith, ⊎_elim, inl}
use Rattle.std.proofs.Common.{inr, ◌+◌}
use mathlib.Core.Logic.{dite}
use native.Mathlib.Decide.{ℕ_discrete}
use Rattle.packed_link.specs.Link.{nowhere, index_of, mark_of, tag_of, with_mark}
use Rattle.packed_link.specs.Layout.{Sizes, IsLayout, word_count, key_at, link_at, second_at}
use Rattle.packed_link.specs.declared.link.Life.{Life}
use Rattle.packed_link.proofs.Links.{index_of-pack, index_of-bound}
use Rattle.core_chain.specs.Chain.{Chain, ChainWord, Head, Next, IsOn, IsChain}
use Rattle.core_chain.specs.Met.{MeetsFrom, IsMet}
use Rattle.core_chain.specs.Steps.{CanInsert, CanUnlink, Inserts, Joins, Unlinks, SetsMark, Untouched, CanReplace}
use Rattle.core_chain.specs.Steps.{Replaces}
use Rattle.core_chain.specs.Table.{StandsAlone, chain_in}
use Rattle.core_chain.specs.Walk.{StandsBelow}
use Rattle.core_chain.proofs.Inserts.{IsChain-inserted, IsChain-replaced}
use Rattle.core_chain.proofs.Marks.{IsChain-marked, IsChain-untouched}
use Rattle.core_chain.proofs.Meets.{IsMet-from_Meets, IsChain-from_IsMet}
use Rattle.core_chain.proofs.Tables.{Inserts-in, SetsMark-in, Unlinks-in, Replaces-in}
use Rattle.core_chain.proofs.Unlinks.{IsChain-unlinked}
use Rattle.core_journal.specs.declared.event.Kind.{Kind}
use Rattle.core_journal.specs.declared.event.Kind.TheVariants.{PopFree, StorePrivate, LinkVertex, MarkVertex}
use Rattle.core_journal.specs.declared.event.Kind.TheVariants.{UnlinkVertex, LinkEdge, MarkEdge, UnlinkEdge}
use Rattle.core_journal.specs.declared.event.Kind.TheVariants.{ReplaceEdge, FreezeHead, FreezeEdge, StoreFree, PushFree}
use Rattle.core_journal.specs.declared.event.Event.{Event}
use Rattle.core_journal.specs.Machine.{word_at}
use Rattle.core_journal.specs.State.{Free, Fresh, Linked, Spent, State, linked_in, unlinked_from, state_by}
use Rattle.core_journal.specs.State.{state, joined_edge}
use Rattle.core_journal.specs.State.{Node}
use Rattle.core_kept.specs.Kept.{AllowedAs, IsKept}
use Rattle.core_kept.specs.Nodes.{node_in, IsUsed, is_listed}
use Rattle.core_kept.specs.Edges.{IsLinkEdge, IsUnlinkEdge, IsReplaceEdge}
use Rattle.core_kept.specs.Vertices.{IsLinkVertex}
use Rattle.core_lists.specs.Chains.{list_word, list_places, edge_chain, EdgeLists}
use Rattle.core_kept.proofs.ByKind.{IsAfter, KeepsByKind, put_other, put_case, marked_state, IsNoJoin}
use Rattle.core_kept.proofs.ByKind.{since_still, sinces, put_since, handed_since}
use Rattle.core_kept.proofs.ByKind.{holds_all, writes_at, put_same}
use Rattle.core_kept.proofs.LinkWords.{taken}
use Rattle.core_kept.proofs.MetFromHead.{AreLinks, meets_inserted, meets_unlinked, meets_marked}
use Rattle.core_kept.proofs.MetFromHead.{meets_untouched, joins_linked, leaves_unlinked, meets_replaced}
use Rattle.core_kept.proofs.NodesOnLists.{linked_none, unlinked_none, yes_no}
use Rattle.core_lists.proofs.ListHolds.{ListingOf, open_mode}
use Rattle.core_lists.proofs.ListHoldsKept.{listing, link_only, IsOpenIn, open_before, open_linked, has_open}
use Rattle.core_lists.proofs.ListHoldsKept.{replace_joins}

-- the list of a vertex, by a state and the words
abbrev pub list_chain : Sizes → State → (ℕ → ℕ) → ℕ → Chain
list_chain sizes s w x = chain_in w (list_places sizes x) (is_listed s x) (λ y. (s.node y).since)

-- a chain along which one meets the state's list
pub record IsList (sizes : Sizes) (s : State) (w : ℕ → ℕ) (x : ℕ) : Type 0 where
  pub chain : IsChain (list_chain sizes s w x)
  pub met : MeetsFrom (list_chain sizes s w x) Head (s.edges x)

pub record Lists (sizes : Sizes) (s : State) (w : ℕ → ℕ) : Type 0 where
  pub each : (x : ℕ) → IsOpenIn sizes s x → IsList sizes s w x

-- the words of a list are the second word of its vertex and the links
list_links : (sizes : Sizes) (x : ℕ) → AreLinks sizes (list_places sizes x)
list_links sizes x = record { links = λ y. refl; apart = λ y h. omega arith }

-- the words and the keys of a list stand apart from one another
alone : (sizes : Sizes) (x : ℕ) (at : ChainWord) → StandsAlone (list_places sizes x) at
alone sizes x Head = record { words = λ p ne h. word p ne h; keys = λ y h. omega arith }
  where
    word : (p : ChainWord) → p ≢ Head → list_word sizes x p ≢ second_at sizes x
    word Head ne h = ne refl
    word (Next y) ne h = omega arith
alone sizes x (Next n) = record { words = λ p ne h. word p ne h; keys = λ y h. omega arith }
  where
    word : (p : ChainWord) → p ≢ Next n → list_word sizes x p ≢ link_at sizes n
    word Head ne h = omega arith
    word (Next y) ne h = ne (ap Next (omega arith))

-- a list that stays
pub stays : (sizes : Sizes) (s s' : State) (w w' : ℕ → ℕ) (x : ℕ) → s'.edges x ≡ s.edges x → Untouched
    (list_chain sizes s w x) (list_chain sizes s' w' x) → IsList sizes s w x → IsList sizes s' w' x
stays sizes s s' w w' x same step b = record {
  chain = IsChain-untouched (list_chain sizes s w x) (list_chain sizes s' w' x) b.chain step;
  met = subst (λ (l : List ℕ). MeetsFrom (list_chain sizes s' w' x) Head l) (sym same)
      (meets_untouched (list_chain sizes s w x) (list_chain sizes s' w' x) (s.edges x) b.chain step b.met);
}

-- a list of which a word gets its mark
marks : (sizes : Sizes) (s s' : State) (w w' : ℕ → ℕ) (x : ℕ) (at : ChainWord) → s'.edges x ≡ s.edges x → SetsMark
    (list_chain sizes s w x) (list_chain sizes s' w' x) at → IsList sizes s w x → IsList sizes s' w' x
marks sizes s s' w w' x at same step b = record {
  chain = IsChain-marked (list_chain sizes s w x) (list_chain sizes s' w' x) at b.chain step;
  met = subst (λ (l : List ℕ). MeetsFrom (list_chain sizes s' w' x) Head l) (sym same)
      (meets_marked (list_chain sizes s w x) (list_chain sizes s' w' x) at (s.edges x) b.chain step b.met);
}

-- the place of an event is no word and no key of a list
pub record IsOff (sizes : Sizes) (past : List Event) (e : Event) (x : ℕ) : Type 0 where
  pub head : e.place ≢ second_at sizes x
  pub links : (y : ℕ) → stands_in ((state sizes past).edges x) y ≡ true → e.place ≢ link_at sizes y
  pub keys : (y : ℕ) → stands_in ((state sizes past).edges x) y ≡ true → e.place ≢ key_at sizes y

-- the edges of a list stay linked by the same events
abbrev pub IsLinkedStill : Sizes → List Event → State → ℕ → Type 0
IsLinkedStill sizes past s' x = (y : ℕ) → stands_in ((state sizes past).edges x) y ≡ true → (s'.node y).since ≡
    (node_in sizes past y).since

-- an event that writes no word of a list leaves it as it is, where the list stays
pub untouched : (sizes : Sizes) (past : List Event) (e : Event) (w : ℕ → ℕ) (s' : State) (x : ℕ)
    → IsAfter sizes past e w → IsOff sizes past e x → IsLinkedStill sizes past s' x → s'.edges x ≡
    (state sizes past).edges x → Untouched (edge_chain sizes past x) (list_chain sizes s' w x)
untouched sizes past e w s' x a off still same = record {
  since = λ y on. still y on;
  nodes = λ y. ap (λ (l : List ℕ). stands_in l y) same;
  key = λ y on. a.else (key_at sizes y) (λ h. off.keys y on (sym h));
  next = λ p on. ap index_of (word p on);
  mark = λ p on. ap mark_of (word p on);
}
  where
    word : (p : ChainWord) → IsOn (edge_chain sizes past x) p → w (list_word sizes x p) ≡ word_at sizes past
        (list_word sizes x p)
    word Head on = a.else (second_at sizes x) (λ h. off.head (sym h))
    word (Next y) on = a.else (link_at sizes y) (λ h. off.links y on (sym h))

-- the kinds that change no list of edges
abbrev pub IsOffLists : Kind → Type 0
IsOffLists LinkEdge = ⊥
IsOffLists MarkEdge = ⊥
IsOffLists UnlinkEdge = ⊥
IsOffLists FreezeHead = ⊥
IsOffLists FreezeEdge = ⊥
IsOffLists ReplaceEdge = ⊥
IsOffLists _ = Unit {0}

module _ (sizes : Sizes) (z : IsLayout sizes) (past : List Event) (e : Event) (kept : IsKept sizes past) (x : ℕ)
    (used : IsUsed (node_in sizes past x).mode)
    (unfree : (node_in sizes past e.life.index).mode ≡ Free → stands_in ((state sizes past).edges x) e.life.index ≡ true
    → ⊥) where
  here : ListingOf sizes (state sizes past)
  here = listing sizes z past kept

  idle_joins : (k : Kind) → IsOffLists k → IsNoJoin k
  idle_joins LinkEdge n = absurd n
  idle_joins ReplaceEdge n = absurd n
  idle_joins _ n = tt

  -- such a kind writes no word of a list
  off_idle : (k : Kind) → (k ≡ StoreFree → stands_in ((state sizes past).edges x) e.life.index ≡ true → ⊥) →
      IsOffLists k
      → AllowedAs k sizes past e → IsOff sizes past e x
  off_idle LinkEdge u n ok = absurd n
  off_idle MarkEdge u n ok = absurd n
  off_idle ReplaceEdge u n ok = absurd n
  off_idle UnlinkEdge u n ok = absurd n
  off_idle FreezeHead u n ok = absurd n
  off_idle FreezeEdge u n ok = absurd n
  off_idle PopFree u n ok = record {
    head = λ h. omega (arith, ok.place, h);
    links = λ y _ h. omega
        (arith, ok.place, h);
    keys = λ y _ h. omega (arith, ok.place, h);
  }
  off_idle PushFree u n ok = record {
    head = λ h. omega (arith, ok.place, h);
    links = λ y _ h. omega
        (arith, ok.place, h);
    keys = λ y _ h. omega (arith, ok.place, h);
  }
  off_idle StorePrivate u n ok =
      let apart : (y : ℕ) → (node_in sizes past y).mode ≢ Fresh → y ≢ e.life.index = λ y f same. f
      (ap (λ (i : ℕ). (node_in sizes past i).mode) same ∙ ok.fresh.fresh) in
      let not_x : x ≢ e.life.index = apart x (λ f. subst IsUsed f used) in
      record {
        head = λ h. not_x (omega (arith, ok.place, h));
        links = λ y t h. apart y (here.on x y t).unfresh (omega (arith, ok.place, h));
        keys = λ y t h. apart y (here.on x y t).unfresh (omega (arith, ok.place, h));
      }
  off_idle LinkVertex u n ok = record {
    head = λ h. omega (arith, ok.place, h);
    links = λ y t h. let v = (ok.linked y h).vertex in let b = (here.on x y t).edge in absurd (cc);
    keys = λ y _ h. omega (arith, ok.place, h);
  }
  off_idle UnlinkVertex u n ok = record {
    head = λ h. omega (arith, ok.place, h);
    links = λ y t h. let v = (ok.before_linked y h).vertex in let b = (here.on x y t).edge in absurd (cc);
    keys = λ y _ h. omega (arith, ok.place, h);
  }
  off_idle MarkVertex u n ok = record {
    head = λ h. omega (arith, ok.place, h);
    links = λ y t h. let same : e.life.index ≡ y = omega (arith, ok.place, h) in let v = ap
        (λ (i : ℕ). (node_in sizes past i).vertex) (sym same) ∙ ok.linked.vertex in let b =
        (here.on x y t).edge in absurd (cc);
    keys = λ y _ h. omega (arith, ok.place, h);
  }
  off_idle StoreFree u n ok = record {
    head = λ h. omega (arith, ok.place, h);
    links = λ y t h. let same : y ≡ e.life.index = omega (arith, ok.place, h) in u refl
        (subst (λ (i : ℕ). stands_in ((state sizes past).edges x) i ≡ true) same t);
    keys = λ y _ h. omega (arith, ok.place, h);
  }
  off_idle _ u n ok = record {
    head = λ h. omega (arith, ok.place, ok.there, h);
    links = λ y _ h. omega
        (arith, ok.place, ok.there, h);
    keys = λ y _ h. omega (arith, ok.place, ok.there, h);
  }

  -- and changes no list
  same_idle : (k : Kind) → IsOffLists k → AllowedAs k sizes past e → (state_by k sizes e (state sizes past)).edges x ≡
      (state sizes past).edges x
  same_idle LinkEdge n ok = absurd n
  same_idle MarkEdge n ok = absurd n
  same_idle ReplaceEdge n ok = absurd n
  same_idle UnlinkEdge n ok = absurd n
  same_idle FreezeHead n ok = absurd n
  same_idle FreezeEdge n ok = absurd n
  same_idle PopFree n ok =
      let free = (taken sizes z past e kept ok).free in
      put_other e.life.index [] (λ y. unlinked_from e.life.index ((state sizes past).edges y)) x
      (λ same. subst IsUsed (ap (λ (i : ℕ). (node_in sizes past i).mode) same ∙ free) used)
      ∙ unlinked_none e.life.index ((state sizes past).edges x)
      (yes_no (stands_in ((state sizes past).edges x) e.life.index ≡ false)
      (stands_in ((state sizes past).edges x) e.life.index) (λ t. absurd (unfree free t)) (λ f. f))
  same_idle _ n ok = refl

  -- so it leaves the list untouched
  pub idle_any : (k : Kind) → (k ≡ StoreFree → stands_in ((state sizes past).edges x) e.life.index ≡ true → ⊥)
      → IsOffLists k → AllowedAs k sizes past e → (w : ℕ → ℕ) → IsAfter sizes past e w → Untouched
      (edge_chain sizes past x) (list_chain sizes (state_by k sizes e (state sizes past)) w x)
  idle_any k u n ok w a = untouched sizes past e w (state_by k sizes e (state sizes past)) x a (off_idle k u n ok)
      (λ y on. since_still k (idle_joins k n) sizes e (state sizes past) y) (same_idle k n ok)

  pub idle_stays : (k : Kind) → (k ≡ StoreFree → stands_in ((state sizes past).edges x) e.life.index ≡ true → ⊥)
      → IsOffLists k → AllowedAs k sizes past e → (w : ℕ → ℕ) → IsAfter sizes past e w → IsList sizes (state sizes past)
      (word_at sizes past) x → IsList sizes (state_by k sizes e (state sizes past)) w x
  idle_stays k u n ok w a b = stays sizes (state sizes past) (state_by k sizes e (state sizes past))
      (word_at sizes past) w x (same_idle k n ok) (idle_any k u n ok w a) b

module _ (sizes : Sizes) (z : IsLayout sizes) (past : List Event) (e : Event) (kept : IsKept sizes past) (x : ℕ)
    (o : IsOpenIn sizes (state sizes past) x) where
  open_unstored : (k : Kind) → AllowedAs k sizes past e → k ≡ StoreFree → stands_in ((state sizes past).edges x)
      e.life.index ≡ true → ⊥
  open_unstored StoreFree ok is t = let f = ok.list x o.there t in o.unfinished record { head = f.head; each = f.edges }
  open_unstored _ ok is t = absurd (cc)

  open_unfree : (node_in sizes past e.life.index).mode ≡ Free → stands_in ((state sizes past).edges x) e.life.index
      ≡ true
      → ⊥
  open_unfree free t = ⊎_elim (λ (m : (node_in sizes past e.life.index).mode ≡ Linked). absurd (cc))
      (λ (m : (node_in sizes past e.life.index).mode ≡ Spent). absurd (cc))
      (open_mode sizes (state sizes past).node (state sizes past).edges (state sizes past).frozen x e.life.index
      (listing sizes z past kept) o t)

  -- such a kind leaves a list that isn't frozen to its end untouched
  pub idle_list : (k : Kind) → IsOffLists k → AllowedAs k sizes past e → (w : ℕ → ℕ) → IsAfter sizes past e w
      → Untouched (edge_chain sizes past x) (list_chain sizes (state_by k sizes e (state sizes past)) w x)
  idle_list k n ok w a = idle_any sizes z past e kept x o.used open_unfree k (open_unstored k ok) n ok w a

  list_idle : (k : Kind) → IsOffLists k → AllowedAs k sizes past e → (w : ℕ → ℕ) → IsAfter sizes past e w → IsList sizes
      (state sizes past) (word_at sizes past) x → IsList sizes (state_by k sizes e (state sizes past)) w x
  list_idle k n ok w a b = idle_stays sizes z past e kept x o.used open_unfree k (open_unstored k ok) n ok w a b

module _ (sizes : Sizes) (z : IsLayout sizes) (past : List Event) (e : Event) (kept : IsKept sizes past) (x : ℕ) where
  -- an edge on the list is one of its vertex
  of_source : (y : ℕ) → stands_in ((state sizes past).edges x) y ≡ true → (node_in sizes past y).source.index ≡ x
  of_source y t = ((listing sizes z past kept).on x y t).index

  -- what is linked to another list
  pub off_link : IsLinkEdge sizes past e → x ≢ e.source.index → IsOff sizes past e x
  off_link ok ne = record {
    head = λ h. ne (link_only sizes z past e kept (listing sizes z past kept) ok x (inl h));
    links = λ y t h. ne (link_only sizes z past e kept (listing sizes z past kept) ok x (inr (y, t, h)));
    keys = λ y _ h. omega (arith, ok.place, h);
  }

  pub same_link : (ok : IsLinkEdge sizes past e) → x ≢ e.source.index → linked_in sizes
      (second_at sizes x) e.place e.life.index ((state sizes past).edges x) ≡ (state sizes past).edges x
  same_link ok ne = linked_none sizes (second_at sizes x) e.place e.life.index ((state sizes past).edges x)
      (λ at. ne (link_only sizes z past e kept (listing sizes z past kept) ok x at))

  -- what is unlinked from another list
  pub off_unlink : IsUnlinkEdge sizes past e → x ≢ (node_in sizes past e.life.index).source.index → IsOff sizes past e x
  off_unlink ok ne = record {
    head = λ h. ne (omega (arith, ok.place, h));
    links = λ y t h. ne (sym (of_source y t) ∙ ap (λ (l : Life). l.index) (ok.before_linked y h).from);
    keys = λ y _ h. omega (arith, ok.place, h);
  }

  pub same_unlink : x ≢ (node_in sizes past e.life.index).source.index → unlinked_from e.life.index
      ((state sizes past).edges x) ≡ (state sizes past).edges x
  same_unlink ne = unlinked_none e.life.index ((state sizes past).edges x)
      (yes_no (stands_in ((state sizes past).edges x) e.life.index ≡ false)
      (stands_in ((state sizes past).edges x) e.life.index) (λ t. absurd (ne (sym (of_source e.life.index t))))
      (λ f. f))

  -- what is marked on another list
  pub off_mark : e.place ≡ link_at sizes e.life.index → x ≢ (node_in sizes past e.life.index).source.index
      → IsOff sizes past e x
  off_mark place ne = record {
    head = λ h. omega (arith, place, h);
    links = λ y t h. let same : e.life.index ≡ y = omega (arith, place, h) in ne
        (sym (ap (λ (i : ℕ). (node_in sizes past i).source.index) same ∙ of_source y t));
    keys = λ y _ h. omega (arith, place, h);
  }

  -- another list is closed
  pub off_close : e.place ≡ second_at sizes e.life.index → x ≢ e.life.index → IsOff sizes past e x
  off_close place ne = record {
    head = λ h. ne (omega (arith, place, h));
    links = λ y _ h. omega
        (arith, place, h);
    keys = λ y _ h. omega (arith, place, h);
  }

-- an event writes a word of a list
pub record IsListSpot (sizes : Sizes) (past : List Event) (e : Event) (x : ℕ) : Type 0 where
  pub at : ChainWord
  pub place : list_word sizes x at ≡ e.place
  pub on : IsOn (edge_chain sizes past x) at
  pub behind : (y : ℕ) → at ≡ Next y → stands_in ((state sizes past).edges x) y ≡ true

-- an edge is linked: it's inserted into the list of its source
module _ (sizes : Sizes) (z : IsLayout sizes) (past : List Event) (e : Event) (kept : IsKept sizes past)
    (ok : IsLinkEdge sizes past e) where
  abbrev link_home : ℕ
  link_home = e.source.index

  abbrev link_state : State
  link_state = state_by LinkEdge sizes e (state sizes past)

  -- a linked edge of a source is on its list
  link_behind : (y : ℕ) → y < sizes.nodes → e.place ≡ link_at sizes y → stands_in ((state sizes past).edges link_home)
      y ≡ true
  link_behind y t h =
      let f = ok.linked y h in
      subst (λ (l : Life). stands_in ((state sizes past).edges l.index) y ≡ true) f.from
      ((listing sizes z past kept).source y t f.linked.linked f.linked.edge).on

  pub link_spot : IsListSpot sizes past e link_home
  link_spot = ⊎_elim
      (λ h. record { at = Head; place = sym h.0; on = tt; behind = λ y p. absurd (cc) })
      (λ h.
      let t = link_behind ok.before h.1 h.0 in
      record {
        at = Next ok.before;
        place = sym h.0;
        on = t;
        behind = λ y p. let q : ok.before ≡ y = cc in subst
            (λ (v : ℕ). stands_in ((state sizes past).edges link_home) v ≡ true) q t;
      })
      ok.place

  pub link_can : (s : IsListSpot sizes past e link_home) → CanInsert (edge_chain sizes past link_home) s.at e.life.index
  link_can s =
      let word : word_at sizes past (list_word sizes link_home s.at) ≡ word_at sizes past e.place = ap
      (word_at sizes past) s.place in
      record {
        passes = record {
          present = s.on;
          above = above s.at s.place;
          below = subst (λ (i : ℕ). index_of i ≢ nowhere → word_at sizes past
              (key_at sizes e.life.index) < word_at sizes past (key_at sizes (index_of i))) (sym word)
              (λ some. let k = ok.filled.key_word in let g = ok.gap.above some in omega arith);
        };
        unmarked = ap mark_of word ∙ ok.unmarked;
        named = λ none. omega (arith, ok.there, z.few_nodes, none);
        absent = λ on. ((listing sizes z past kept).on link_home e.life.index on).unfresh ok.fresh.fresh;
        filled = ap index_of ok.filled.link_word ∙ (index_of-pack (index_of (word_at sizes past e.place)) 0
            (node_in sizes past e.life.index).tag (index_of-bound (word_at sizes past e.place)) ∙ ap index_of
            (sym word));
      }
    where
      above : (p : ChainWord) → list_word sizes link_home p ≡ e.place → StandsBelow (edge_chain sizes past link_home) p
          (word_at sizes past (key_at sizes e.life.index))
      above Head at = tt
      above (Next y) at = let k = ok.filled.key_word in let g = ok.gap.below y (sym at) in omega arith

  link_still : (x : ℕ) → IsLinkedStill sizes past link_state x
  link_still x y on = put_case (λ (v : Node). v.since ≡ (node_in sizes past y).since) e.life.index
      (record (node_in sizes past e.life.index) {
        mode = Linked;
        vertex = false;
        key = e.key;
        source = e.source;
        target
            = e.target;
        weight = e.weight;
        since = (state sizes past).count + 1;
      }) (state sizes past).node y
      (λ same. absurd (((listing sizes z past kept).on x y on).unfresh
      (ap (λ (i : ℕ). (node_in sizes past i).mode) same ∙ ok.fresh.fresh))) (λ _. refl)

  link_near : e.place < word_count sizes
  link_near = omega (arith, ok.place)

  link_nodes : (s : IsListSpot sizes past e link_home) → Joins (is_listed (state sizes past) link_home)
      (is_listed link_state link_home) e.life.index
  link_nodes s = subst (λ (p : ℕ). Joins (is_listed (state sizes past) link_home)
      (λ y. stands_in (linked_in sizes (second_at sizes link_home) p e.life.index ((state sizes past).edges link_home))
      y)
      e.life.index) s.place
      (joins_linked sizes (list_places sizes link_home) (list_links sizes link_home) s.at e.life.index
      ((state sizes past).edges link_home) (λ y at. s.behind y at))

  module _ (w : ℕ → ℕ) (a : IsAfter sizes past e w) where
    pub link_inserts : (s : IsListSpot sizes past e link_home) → Inserts (edge_chain sizes past link_home)
        (list_chain sizes link_state w link_home) s.at e.life.index
    link_inserts s =
        Inserts-in (word_at sizes past) w (list_places sizes link_home) (is_listed (state sizes past) link_home)
        (is_listed link_state link_home) (λ y. (node_in sizes past y).since) (λ y. (link_state.node y).since)
        (link_still link_home) s.at e.life.index (tag_of (word_at sizes past e.place))
        (alone sizes link_home s.at) (omega (arith, ok.there, z.few_nodes)) (link_can s)
        (writes_at sizes past e w _ _ a s.place link_near ok.word) (link_nodes s)

    pub link_others : (x : ℕ) → IsOpenIn sizes (state sizes past) x → x ≢ link_home → Untouched
        (edge_chain sizes past x) (list_chain sizes link_state w x)
    link_others x o ne = untouched sizes past e w link_state x a (off_link sizes z past e kept x ok ne) (link_still x)
        (same_link sizes z past e kept x ok ne)

    link_list : (x : ℕ) → IsOpenIn sizes (state sizes past) x → IsList sizes (state sizes past) (word_at sizes past) x
        → IsList sizes link_state w x
    link_list x o b = dite (ℕ_discrete x link_home)
        (λ same.
        let s = link_spot in
        let step = link_inserts s in
        let old : IsList sizes (state sizes past) (word_at sizes past) link_home = subst
        (IsList sizes (state sizes past) (word_at sizes past)) same b in
        subst (IsList sizes link_state w) (sym same) record {
          chain = IsChain-inserted (edge_chain sizes past link_home)
              (list_chain sizes link_state w link_home) s.at e.life.index old.chain step;
          met = subst (λ (p : ℕ). MeetsFrom (list_chain sizes link_state w link_home) Head
              (linked_in sizes (second_at sizes link_home) p e.life.index ((state sizes past).edges link_home))) s.place
              (meets_inserted sizes (list_places sizes link_home) (list_links sizes link_home)
              (edge_chain sizes past link_home) (list_chain sizes link_state w link_home) s.at e.life.index
              ((state sizes past).edges link_home) old.chain step old.met);
        })
        (λ ne. stays sizes (state sizes past) link_state (word_at sizes past) w x
        (same_link sizes z past e kept x ok ne) (link_others x o ne) b)

-- an edge is replaced: the new one is put behind it on the list of its source
module _ (sizes : Sizes) (z : IsLayout sizes) (past : List Event) (e : Event) (kept : IsKept sizes past)
    (ok : IsReplaceEdge sizes past e)
  where
    abbrev new_home : ℕ
    new_home = e.source.index

    abbrev new_state : State
    new_state = state_by ReplaceEdge sizes e (state sizes past)

    new_on : stands_in ((state sizes past).edges new_home) e.old.index ≡ true
    new_on =
        let d = (listing sizes z past kept).source e.old.index ok.old_there ok.linked.linked ok.linked.edge in
        subst (λ (l : Life). stands_in ((state sizes past).edges l.index) e.old.index ≡ true) (sym ok.source) d.on

    new_can : CanReplace (edge_chain sizes past new_home) e.old.index e.life.index
    new_can =
        let word : word_at sizes past (link_at sizes e.old.index) ≡ word_at sizes past e.place = ap (word_at sizes past)
        (sym ok.place) in
        record {
          present = new_on;
          unmarked = ap mark_of word ∙ ok.unmarked;
          named = λ none. omega (arith, ok.there, z.few_nodes, none);
          absent = λ on. ((listing sizes z past kept).on new_home e.life.index on).unfresh ok.fresh.fresh;
          key = ok.filled.key_word ∙ (ok.key ∙ sym (((contents sizes z past kept).each e.old.index ok.old_there).edge
              (subst IsUsed (sym ok.linked.linked) tt) ok.linked.edge).key_word);
          filled = ap index_of ok.filled.link_word ∙ (index_of-pack (index_of (word_at sizes past e.place)) 0
              (node_in sizes past e.life.index).tag (index_of-bound (word_at sizes past e.place)) ∙ ap index_of
              (sym word));
        }

    new_nodes : Joins (is_listed (state sizes past) new_home) (is_listed new_state new_home) e.life.index
    new_nodes = subst (λ (p : ℕ). Joins (is_listed (state sizes past) new_home)
        (λ y. stands_in (linked_in sizes (second_at sizes new_home) p e.life.index ((state sizes past).edges new_home))
        y)
        e.life.index) (sym ok.place)
        (joins_linked sizes (list_places sizes new_home) (list_links sizes new_home) (Next e.old.index) e.life.index
        ((state sizes past).edges new_home) (λ y at. let q : e.old.index ≡ y = cc in subst
        (λ (v : ℕ). stands_in ((state sizes past).edges new_home) v ≡ true) q new_on))

    -- every other node stays linked by the same event
    new_else : (y : ℕ) → y ≢ e.life.index → (new_state.node y).since ≡ (node_in sizes past y).since
    new_else y ne =
        let j : State = joined_edge sizes e (state sizes past) in
        handed_since (j.node e.old.index).source.index (marked_state j e.old.index) y
        ∙ (put_since j e.old.index (record (j.node e.old.index) { marked = true }) refl y ∙ ap (λ (v : Node). v.since)
        (put_other e.life.index (record (node_in sizes past e.life.index) {
          mode = Linked;
          vertex = false;
          key = e.key;
          source = e.source;
          target = e.target;
          weight = e.weight;
          since
              = (state sizes past).count + 1;
        }) (state sizes past).node y ne))

    new_still : (x : ℕ) → IsLinkedStill sizes past new_state x
    new_still x y on = new_else y (λ same. absurd (((listing sizes z past kept).on x y on).unfresh
        (ap (λ (i : ℕ). (node_in sizes past i).mode) same ∙ ok.fresh.fresh)))

    -- what is replaced on another list
    off_replace : (x : ℕ) → x ≢ new_home → IsOff sizes past e x
    off_replace x ne =
        let home : (node_in sizes past e.old.index).source.index ≡ new_home = ap (λ (l : Life). l.index)
        (sym ok.source) in
        let on = of_source sizes z past e kept x in
        record {
          head = λ h. omega (arith, ok.place, h);
          links = λ y t h. let same : e.old.index ≡ y = omega (arith, ok.place, h) in ne
              (sym (on y t) ∙ (ap (λ (i : ℕ). (node_in sizes past i).source.index) (sym same) ∙ home));
          keys = λ y _ h. omega (arith, ok.place, h);
        }

    same_replace : (x : ℕ) → x ≢ new_home → linked_in sizes (second_at sizes x) e.place e.life.index
        ((state sizes past).edges x) ≡ (state sizes past).edges x
    same_replace x ne = linked_none sizes (second_at sizes x) e.place e.life.index ((state sizes past).edges x)
        (λ at. ne ((replace_joins sizes z past e kept (listing sizes z past kept) ok).only x at))

    -- the new one is linked by this event, later than the old one
    new_since : (new_state.node e.life.index).since ≡ (state sizes past).count + 1
    new_since =
        let j : State = joined_edge sizes e (state sizes past) in
        handed_since (j.node e.old.index).source.index (marked_state j e.old.index) e.life.index
        ∙ (put_since j e.old.index (record (j.node e.old.index) { marked = true }) refl e.life.index ∙ ap
        (λ (v : Node). v.since) (put_same e.life.index (record
        (node_in sizes past e.life.index) {
          mode = Linked;
          vertex = false;
          key = e.key;
          source = e.source;
          target =
              e.target;
          weight = e.weight;
          since = (state sizes past).count + 1;
        }) (state sizes past).node))

    module _ (w : ℕ → ℕ) (a : IsAfter sizes past e w) where
      pub new_replaces : Replaces (edge_chain sizes past new_home)
          (list_chain sizes new_state w new_home) e.old.index e.life.index
      new_replaces =
          let low = (sinces sizes past kept).each e.old.index in
          Replaces-in (word_at sizes past) w (list_places sizes new_home) (is_listed (state sizes past) new_home)
          (is_listed new_state new_home) (λ y. (node_in sizes past y).since) (λ y. (new_state.node y).since)
          (new_still new_home) e.old.index e.life.index (tag_of (word_at sizes past e.place))
          (alone sizes new_home (Next e.old.index)) (omega (arith, ok.there, z.few_nodes)) new_can
          (omega (arith, new_since, low)) (writes_at sizes past e w _ _ a (sym ok.place)
          (omega (arith, ok.place, ok.old_there)) ok.word) new_nodes

      pub new_others : (x : ℕ) → x ≢ new_home → Untouched (edge_chain sizes past x) (list_chain sizes new_state w x)
      new_others x ne = untouched sizes past e w new_state x a (off_replace x ne) (new_still x) (same_replace x ne)

      new_list_met : IsList sizes (state sizes past) (word_at sizes past) new_home → IsList sizes new_state w new_home
      new_list_met old = record {
        chain = IsChain-replaced (edge_chain sizes past new_home)
            (list_chain sizes new_state w new_home) e.old.index e.life.index old.chain new_replaces;
        met = subst (λ (p : ℕ). MeetsFrom (list_chain sizes new_state w new_home) Head
            (linked_in sizes (second_at sizes new_home) p e.life.index ((state sizes past).edges new_home)))
            (sym ok.place)
            (meets_replaced sizes (list_places sizes new_home) (list_links sizes new_home)
            (edge_chain sizes past new_home) (list_chain sizes new_state w new_home) e.old.index e.life.index
            ((state sizes past).edges new_home) old.chain new_replaces old.met);
      }

-- a marked edge is unlinked from the list of its source
module _ (sizes : Sizes) (z : IsLayout sizes) (past : List Event) (e : Event) (kept : IsKept sizes past)
    (ok : IsUnlinkEdge sizes past e) where
  abbrev cut_home : ℕ
  cut_home = (node_in sizes past e.life.index).source.index

  abbrev cut_state : State
  cut_state = state_by UnlinkEdge sizes e (state sizes past)

  cut_behind : (y : ℕ) → y < sizes.nodes → e.place ≡ link_at sizes y → stands_in ((state sizes past).edges cut_home)
      y ≡ true
  cut_behind y t h =
      let f = ok.before_linked y h in
      subst (λ (l : Life). stands_in ((state sizes past).edges l.index) y ≡ true) f.from
      ((listing sizes z past kept).source y t f.linked.linked f.linked.edge).on

  pub cut_spot : IsListSpot sizes past e cut_home
  cut_spot = ⊎_elim
      (λ h. record { at = Head; place = sym h.0; on = tt; behind = λ y p. absurd (cc) })
      (λ h.
      let t = cut_behind ok.before h.1 h.0 in
      record {
        at = Next ok.before;
        place = sym h.0;
        on = t;
        behind = λ y p. let q : ok.before ≡ y = cc in subst
            (λ (v : ℕ). stands_in ((state sizes past).edges cut_home) v ≡ true) q t;
      })
      ok.place

  cut_can : (s : IsListSpot sizes past e cut_home) → CanUnlink (edge_chain sizes past cut_home) s.at e.life.index
  cut_can s =
      let word : word_at sizes past (list_word sizes cut_home s.at) ≡ word_at sizes past e.place = ap
      (word_at sizes past) s.place in
      record {
        present = s.on;
        unmarked = ap mark_of word ∙ ok.unmarked;
        named = λ none. omega
            (arith, ok.there, z.few_nodes, none);
        led = ap index_of word ∙ ok.leads;
        marked = ok.dead;
      }

  module _ (w : ℕ → ℕ) (a : IsAfter sizes past e w) where
    pub cut_unlinks : (s : IsListSpot sizes past e cut_home) → Unlinks (edge_chain sizes past cut_home)
        (list_chain sizes cut_state w cut_home) s.at e.life.index
    cut_unlinks s =
        Unlinks-in (word_at sizes past) w (list_places sizes cut_home) (is_listed (state sizes past) cut_home)
        (is_listed cut_state cut_home) (λ y. (node_in sizes past y).since) (λ y. (cut_state.node y).since)
        (λ y on. since_still UnlinkEdge tt sizes e (state sizes past) y) s.at e.life.index
        (tag_of (word_at sizes past e.place))
        (alone sizes cut_home s.at) (cut_can s) (writes_at sizes past e w _ _ a s.place
        (omega (arith, ok.place)) ok.word) (leaves_unlinked e.life.index ((state sizes past).edges cut_home))

    pub cut_others : (x : ℕ) → IsOpenIn sizes (state sizes past) x → x ≢ cut_home → Untouched (edge_chain sizes past x)
        (list_chain sizes cut_state w x)
    cut_others x o ne = untouched sizes past e w cut_state x a (off_unlink sizes z past e kept x ok ne)
        (λ y on. since_still UnlinkEdge tt sizes e (state sizes past) y) (same_unlink sizes z past e kept x ne)

    cut_list : (x : ℕ) → IsOpenIn sizes (state sizes past) x → IsList sizes (state sizes past) (word_at sizes past) x
        → IsList sizes cut_state w x
    cut_list x o b = dite (ℕ_discrete x cut_home)
        (λ same.
        let s = cut_spot in
        let step = cut_unlinks s in
        let old : IsList sizes (state sizes past) (word_at sizes past) cut_home = subst
        (IsList sizes (state sizes past) (word_at sizes past)) same b in
        subst (IsList sizes cut_state w) (sym same) record {
          chain = IsChain-unlinked (edge_chain sizes past cut_home)
              (list_chain sizes cut_state w cut_home) s.at e.life.index old.chain step;
          met = meets_unlinked (edge_chain sizes past cut_home)
              (list_chain sizes cut_state w cut_home) s.at e.life.index
              ((state sizes past).edges cut_home) old.chain step old.met;
        })
        (λ ne. stays sizes (state sizes past) cut_state (word_at sizes past) w x (same_unlink sizes z past e kept x ne)
        (cut_others x o ne) b)

-- a word of a list gets its mark, and the list stays
module _ (sizes : Sizes) (past : List Event) (e : Event) (s' : State)
    (same : (x : ℕ) → s'.edges x ≡ (state sizes past).edges x)
    (still : (y : ℕ) → (s'.node y).since ≡ (node_in sizes past y).since) (home : ℕ) (at : ChainWord)
    (place : list_word sizes home at ≡ e.place) (near : e.place < word_count sizes)
    (word : e.word ≡ with_mark (word_at sizes past e.place)) (w : ℕ → ℕ) (a : IsAfter sizes past e w) where
  pub mark_sets : SetsMark (edge_chain sizes past home) (list_chain sizes s' w home) at
  mark_sets = SetsMark-in (word_at sizes past) w (list_places sizes home) (is_listed (state sizes past) home)
      (is_listed s' home) (λ y. (node_in sizes past y).since) (λ y. (s'.node y).since) (λ y on. still y) at
      (alone sizes home at)
      (writes_at sizes past e w _ _ a place near (word ∙ ap (λ (i : ℕ). with_mark (word_at sizes past i)) (sym place)))
      (λ y. ap (λ (l : List ℕ). stands_in l y) (same home))

  mark_list : (x : ℕ) → (x ≢ home → IsOff sizes past e x) → IsList sizes (state sizes past) (word_at sizes past) x
      → IsList sizes s' w x
  mark_list x off b = dite (ℕ_discrete x home)
      (λ is. subst (IsList sizes s' w) (sym is) (marks sizes (state sizes past) s' (word_at sizes past) w home at
      (same home) mark_sets (subst (IsList sizes (state sizes past) (word_at sizes past)) is b)))
      (λ ne. stays sizes (state sizes past) s' (word_at sizes past) w x (same x)
      (untouched sizes past e w s' x a (off ne) (λ y on. still y) (same x)) b)

-- a vertex that is linked has an empty list
new_list : (sizes : Sizes) → IsLayout sizes → (past : List Event) (e : Event) → IsKept sizes past
    → IsLinkVertex sizes past e → (w : ℕ → ℕ) → IsAfter sizes past e w → IsList sizes
    (state_by LinkVertex sizes e (state sizes past)) w e.life.index
new_list sizes z past e kept ok w a =
    let i : ℕ = e.life.index in
    let s' : State = state_by LinkVertex sizes e (state sizes past) in
    let empty : (state sizes past).edges i ≡ [] = (listing sizes z past kept).empty i ok.fresh.fresh in
    let none : index_of (w (second_at sizes i)) ≡ nowhere = ap index_of
    (a.else (second_at sizes i) (λ h. omega (arith, ok.place, h)) ∙ ok.filled.second_word)
    ∙ index_of-pack nowhere 0 _ (omega arith) in
    record {
      chain = IsChain-from_IsMet (list_chain sizes s' w i) [] record {
        met = none;
        rising = tt;
        unmarked = tt;
        once = λ j k d low high. absurd (omega arith);
        exactly = λ y. (
          (λ on. absurd (let f : false ≡ true = subst
              (λ (l : List ℕ). stands_in l y ≡ true) empty on in cc)),
          (λ c. absurd (omega (arith, c.1))),
        );
      };
      met = subst (λ (l : List ℕ). MeetsFrom (list_chain sizes s' w i) Head l) (sym empty) none;
    }

-- a list that isn't frozen to its end, after each kind of event
pub list_after : (sizes : Sizes) → IsLayout sizes → (past : List Event) (e : Event) → IsKept sizes past → (k : Kind)
    → AllowedAs k sizes past e → (w : ℕ → ℕ) → IsAfter sizes past e w → (x : ℕ) → IsOpenIn sizes (state sizes past) x
    → IsList sizes (state sizes past) (word_at sizes past) x → IsList sizes (state_by k sizes e (state sizes past)) w x
list_after sizes z past e kept LinkEdge ok w a x o b = link_list sizes z past e kept ok w a x o b
list_after sizes z past e kept ReplaceEdge ok w a x o b = dite (ℕ_discrete x e.source.index)
    (λ same. subst (IsList sizes (state_by ReplaceEdge sizes e (state sizes past)) w) (sym same)
    (new_list_met sizes z past e kept ok w a (subst (IsList sizes (state sizes past) (word_at sizes past)) same b)))
    (λ ne. stays sizes (state sizes past) (state_by ReplaceEdge sizes e (state sizes past)) (word_at sizes past) w x
    (same_replace sizes z past e kept ok x ne) (new_others sizes z past e kept ok w a x ne) b)
list_after sizes z past e kept UnlinkEdge ok w a x o b = cut_list sizes z past e kept ok w a x o b
list_after sizes z past e kept MarkEdge ok w a x o b = mark_list sizes past e
    (state_by MarkEdge sizes e (state sizes past)) (λ _. refl)
    (λ y. since_still MarkEdge tt sizes e (state sizes past) y) (node_in sizes past e.life.index).source.index
    (Next e.life.index) (sym ok.place) (omega (arith, ok.place, ok.there)) ok.word w a x
    (off_mark sizes z past e kept x ok.place) b
list_after sizes z past e kept FreezeEdge ok w a x o b = mark_list sizes past e
    (state_by FreezeEdge sizes e (state sizes past)) (λ _. refl)
    (λ y. since_still FreezeEdge tt sizes e (state sizes past) y) (node_in sizes past e.life.index).source.index
    (Next e.life.index) (sym ok.place) (omega (arith, ok.place, ok.there)) ok.word w a x
    (off_mark sizes z past e kept x ok.place) b
list_after sizes z past e kept FreezeHead ok w a x o b = mark_list sizes past e
    (state_by FreezeHead sizes e (state sizes past)) (λ _. refl)
    (λ y. since_still FreezeHead tt sizes e (state sizes past) y) e.life.index Head (sym ok.place)
    (omega (arith, ok.place, ok.there)) ok.word w a x (off_close sizes z past e kept x ok.place) b
list_after sizes z past e kept k ok w a x o b = list_idle sizes z past e kept x o k tt ok w a b

lists_step : (sizes : Sizes) → IsLayout sizes → KeepsByKind sizes (Lists sizes)
lists_step sizes z past e kept c LinkVertex by ok w a = record {
  each = λ x o. ⊎_elim
      (λ (old : IsOpenIn sizes (state sizes past) x). list_after sizes z past e kept LinkVertex ok w a x old
      (c.each x old))
      (λ (same : x ≡ e.life.index). subst (IsList sizes (state_by LinkVertex sizes e (state sizes past)) w) (sym same)
      (new_list sizes z past e kept ok w a))
      (open_linked sizes z past e kept ok x o);
}
lists_step sizes z past e kept c k by ok w a = record {
  each = λ x o. let old = open_before sizes z past e kept k tt ok
      x o in list_after sizes z past e kept k ok w a x old (c.each x old);
}

-- the lists after each kept journal
pub lists : (sizes : Sizes) → IsLayout sizes → (journal : List Event) → IsKept sizes journal → Lists sizes
    (state sizes journal) (word_at sizes journal)
lists sizes z journal kept = holds_all sizes (Lists sizes) (lists_step sizes z)
    (record { each = λ x o. absurd (o.used) }) journal kept

pub list_met : (sizes : Sizes) → IsLayout sizes → (journal : List Event) → IsKept sizes journal → (x : ℕ)
    → IsOpenIn sizes (state sizes journal) x → IsMet (edge_chain sizes journal x) ((state sizes journal).edges x)
list_met sizes z journal kept x o = let b = (lists sizes z journal kept).each x o in IsMet-from_Meets
    (edge_chain sizes journal x) ((state sizes journal).edges x) b.chain b.met

-- one meets exactly the edges of each list
pub edge_lists : (sizes : Sizes) → IsLayout sizes → (journal : List Event) → IsKept sizes journal
    → EdgeLists sizes journal
edge_lists sizes z journal kept = record { each = λ x h. list_met sizes z journal kept x (has_open sizes journal x h) }
