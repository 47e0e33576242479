-- The chain of each bucket after each kept journal, and what each kind of event does to it.
use Rattle.core_kept.proofs.Replaced.{old_joined}
use Rattle.std.proofs.Common.{◌≡◌, ◌≢◌, ℕ, ◌+◌, ◌<◌, ◌%◌, Bool, true, false, ◌&&◌, ◌==◌, List, [], refl, sym, ap, ◌∙◌}
use Rattle.std.proofs.Common.{subst, arith, ⊎_elim, eq-eqb, eqb-true}
use Rattle.std.proofs.lemmas.Bool.{and_parts, and_from}
use Rattle.std.proofs.Math.Nat.{mod-lt}
use mathlib.Core.Logic.{dite}
use native.Mathlib.Decide.{ℕ_discrete}
use Rattle.packed_link.specs.Link.{nowhere, index_of, mark_of, tag_of, with_mark}
use Rattle.packed_link.specs.Layout.{Sizes, IsLayout, BucketWord, word_count, bucket_at, key_at, link_at}
use Rattle.packed_link.proofs.Links.{index_of-pack, index_of-bound}
use Rattle.core_chain.specs.Chain.{Chain, ChainWord, Head, Next, IsOn, IsChain}
use Rattle.core_chain.specs.Met.{MeetsFrom, IsMet}
use Rattle.core_chain.specs.Steps.{CanInsert, CanUnlink, Inserts, Joins, Departs, Marks, Unlinks, Untouched}
use Rattle.core_chain.specs.Table.{StandsAlone, chain_in}
use Rattle.core_chain.specs.Walk.{StandsBelow}
use Rattle.core_chain.proofs.Inserts.{IsChain-inserted}
use Rattle.core_chain.proofs.Marks.{IsChain-marked, IsChain-untouched}
use Rattle.core_chain.proofs.Meets.{IsMet-from_Meets, IsChain-from_IsMet}
use Rattle.core_chain.proofs.Tables.{Inserts-in, SetsMark-in, Unlinks-in}
use Rattle.core_chain.proofs.Unlinks.{IsChain-unlinked}
use Rattle.core_journal.specs.declared.event.Kind.{Kind}
use Rattle.core_journal.specs.declared.event.Kind.TheVariants.{PopFree, StorePrivate, LinkVertex, MarkVertex}
use Rattle.core_journal.specs.declared.event.Kind.TheVariants.{UnlinkVertex, LinkEdge, MarkEdge, UnlinkEdge, FreezeHead}
use Rattle.core_journal.specs.declared.event.Kind.TheVariants.{FreezeEdge, StoreFree, PushFree, ReplaceEdge}
use Rattle.core_journal.specs.declared.event.Event.{Event}
use Rattle.core_journal.specs.Machine.{word_at}
use Rattle.core_journal.specs.State.{Mode, Linked, Spent, Node, State, is_linked, put, linked_in, state_by}
use Rattle.core_journal.specs.State.{opening, state, joined_edge}
use Rattle.core_journal.proofs.MachineWords.{word_first}
use Rattle.core_kept.specs.Kept.{AllowedAs, IsKept}
use Rattle.core_kept.specs.Nodes.{node_in, IsUsed, IsLinkedVertex}
use Rattle.core_kept.specs.Vertices.{IsLinkVertex, IsMarkVertex, IsUnlinkVertex}
use Rattle.core_lists.specs.Chains.{bucket_word, bucket_places, bucket_chain, BucketChains}
use Rattle.core_kept.specs.Nodes.{is_of_bucket}
use Rattle.core_kept.proofs.ByKind.{IsAfter, KeepsByKind, put_case, put_same, put_other, marked_state, closed_state}
use Rattle.core_kept.proofs.ByKind.{holds_all, writes_at}
use Rattle.core_kept.proofs.LinkWords.{taken}
use Rattle.core_kept.proofs.Contents.{contents}
use Rattle.core_kept.proofs.NodesInPlace.{on_lists, used_there, marked_lists, handed_bucket, joined_lists}
use Rattle.core_kept.proofs.MetFromHead.{AreLinks, meets_inserted, meets_unlinked, meets_marked, meets_untouched}
use Rattle.core_kept.proofs.MetFromHead.{unlinked_else, linked_else, each_absent, each_such}

-- the chain of a bucket, by a state and the words
abbrev pub chain_of : Sizes → State → (ℕ → ℕ) → ℕ → Chain
chain_of sizes s w j = chain_in w (bucket_places sizes j) (is_of_bucket sizes s j) (λ x. 0)

-- a node on a bucket is a linked vertex with a key of the bucket
pub record IsNodeOfBucket (sizes : Sizes) (v : Node) (j : ℕ) : Type 0 where
  pub linked : v.mode ≡ Linked
  pub vertex : v.vertex ≡ true
  pub of_bucket : v.key % sizes.buckets ≡ j

pub is_in : (sizes : Sizes) (s : State) (j x : ℕ) → is_of_bucket sizes s j x ≡ true → IsNodeOfBucket sizes (s.node x) j
is_in sizes s j x h =
    let a = and_parts (is_linked (s.node x).mode) ((s.node x).vertex && ((s.node x).key % sizes.buckets == j)) h in
    let b = and_parts (s.node x).vertex ((s.node x).key % sizes.buckets == j) a.1 in
    record {
      linked = linked (s.node x).mode a.0;
      vertex = b.0;
      of_bucket = eqb-true
          ((s.node x).key % sizes.buckets) j b.1;
    }
  where
    linked : (m : Mode) → is_linked m ≡ true → m ≡ Linked
    linked Linked h = refl
    linked _ h = absurd (cc)

pub in_is : (sizes : Sizes) (s : State) (j x : ℕ) → IsNodeOfBucket sizes (s.node x) j → is_of_bucket sizes s j x ≡ true
in_is sizes s j x v =
    let key : ((s.node x).key % sizes.buckets == j) ≡ true = eq-eqb ((s.node x).key % sizes.buckets) j v.of_bucket in
    and_from (is_linked (s.node x).mode) ((s.node x).vertex && ((s.node x).key % sizes.buckets == j))
    (ap is_linked v.linked) (and_from (s.node x).vertex ((s.node x).key % sizes.buckets == j) v.vertex key)

-- a node that isn't linked, or is no vertex, or has a key of another bucket, is on no chain of this one
not_in : (sizes : Sizes) (v : Node) (j : ℕ) → (IsNodeOfBucket sizes v j → ⊥) →
    (is_linked v.mode && (v.vertex && (v.key % sizes.buckets == j))) ≡ false
not_in sizes v j none = by (is_linked v.mode && (v.vertex && (v.key % sizes.buckets == j))) refl
  where
    linked : (m : Mode) → is_linked m ≡ true → m ≡ Linked
    linked Linked h = refl
    linked _ h = absurd (cc)

    by : (b : Bool) → (is_linked v.mode && (v.vertex && (v.key % sizes.buckets == j))) ≡ b →
        (is_linked v.mode && (v.vertex && (v.key % sizes.buckets == j))) ≡ false
    by false h = h
    by true h =
        let a = and_parts (is_linked v.mode) (v.vertex && (v.key % sizes.buckets == j)) h in
        let b = and_parts v.vertex (v.key % sizes.buckets == j) a.1 in
        absurd (none record {
          linked = linked v.mode a.0;
          vertex = b.0;
          of_bucket = eqb-true
              (v.key % sizes.buckets) j b.1;
        })

-- a chain along which one meets the state's list
pub record IsBucket (sizes : Sizes) (s : State) (w : ℕ → ℕ) (j : ℕ) : Type 0 where
  pub chain : IsChain (chain_of sizes s w j)
  pub met : MeetsFrom (chain_of sizes s w j) Head (s.bucket j)

pub record Buckets (sizes : Sizes) (s : State) (w : ℕ → ℕ) : Type 0 where
  pub each : (j : ℕ) → j < sizes.buckets → IsBucket sizes s w j

pub met_of : (sizes : Sizes) (s : State) (w : ℕ → ℕ) (j : ℕ) → IsBucket sizes s w j → IsMet (chain_of sizes s w j)
    (s.bucket j)
met_of sizes s w j b = IsMet-from_Meets (chain_of sizes s w j) (s.bucket j) b.chain b.met

-- the words of a bucket are its own and the links
bucket_links : (sizes : Sizes) (j : ℕ) → j < sizes.buckets → AreLinks sizes (bucket_places sizes j)
bucket_links sizes j low = record { links = λ x. refl; apart = λ x h. omega arith }

-- what an event does to a bucket, and to its list
stays : (sizes : Sizes) (s s' : State) (w w' : ℕ → ℕ) (j : ℕ) → s'.bucket j ≡ s.bucket j → Untouched
    (chain_of sizes s w j) (chain_of sizes s' w' j) → IsBucket sizes s w j → IsBucket sizes s' w' j
stays sizes s s' w w' j same step b = record {
  chain = IsChain-untouched (chain_of sizes s w j) (chain_of sizes s' w' j) b.chain step;
  met = subst (λ (l : List ℕ). MeetsFrom (chain_of sizes s' w' j) Head l) (sym same)
      (meets_untouched (chain_of sizes s w j) (chain_of sizes s' w' j) (s.bucket j) b.chain step b.met);
}

-- an event that writes no word of a bucket's chain leaves it as it is, where the nodes on it stay
pub untouched : (sizes : Sizes) (past : List Event) (e : Event) (w : ℕ → ℕ) (s' : State) (j : ℕ)
    → IsAfter sizes past e w → e.place ≢ bucket_at sizes j
    → ((x : ℕ) → IsNodeOfBucket sizes (node_in sizes past x) j → (e.place ≢ link_at sizes x) ×
    (e.place ≢ key_at sizes x))
    → ((x : ℕ) → is_of_bucket sizes s' j x ≡ is_of_bucket sizes (state sizes past) j x) → Untouched
    (bucket_chain sizes past j) (chain_of sizes s' w j)
untouched sizes past e w s' j a head links same = record {
  nodes = same;
  since = λ x on. refl;
  key = λ x on. a.else (key_at sizes x) (λ h. (links x (is_in sizes (state sizes past) j x on)).1 (sym h));
  next = λ p on. ap index_of (word p on);
  mark = λ p on. ap mark_of (word p on);
}
  where
    word : (p : ChainWord) → IsOn (bucket_chain sizes past j) p → w (bucket_word sizes j p) ≡ word_at sizes past
        (bucket_word sizes j p)
    word Head on = a.else (bucket_at sizes j) (λ h. head (sym h))
    word (Next x) on = a.else (link_at sizes x) (λ h. (links x (is_in sizes (state sizes past) j x on)).0 (sym h))

-- the words and the keys of a bucket stand apart from one another
stands_alone : (sizes : Sizes) (j : ℕ) (at : ChainWord) → j < sizes.buckets → StandsAlone (bucket_places sizes j) at
stands_alone sizes j Head low = record { words = λ p ne h. word p ne h; keys = λ x h. omega arith }
  where
    word : (p : ChainWord) → p ≢ Head → bucket_word sizes j p ≢ bucket_at sizes j
    word Head ne h = ne refl
    word (Next x) ne h = omega arith
stands_alone sizes j (Next n) low = record { words = λ p ne h. word p ne h; keys = λ x h. omega arith }
  where
    word : (p : ChainWord) → p ≢ Next n → bucket_word sizes j p ≢ link_at sizes n
    word Head ne h = omega arith
    word (Next x) ne h = ne (ap Next (omega arith))

module _ (sizes : Sizes) (z : IsLayout sizes) (past : List Event) (kept : IsKept sizes past) where
  -- the key word of a vertex on a chain is its key
  pub key_word : (x j : ℕ) → IsNodeOfBucket sizes (node_in sizes past x) j → word_at sizes past (key_at sizes x) ≡
      (node_in sizes past x).key
  key_word x j v =
      let there : x < sizes.nodes = used_there sizes past x kept (λ f. let m = v.linked in absurd (cc)) in
      (((contents sizes z past kept).each x there).vertex (subst IsUsed (sym v.linked) tt) v.vertex).key_word

  -- a linked vertex is on the chain of its key's bucket
  pub home_in : (x j : ℕ) → IsLinkedVertex sizes past x → (node_in sizes past x).key % sizes.buckets ≡ j
      → is_of_bucket sizes (state sizes past) j x ≡ true
  home_in x j v of = in_is sizes (state sizes past) j x record { linked = v.linked; vertex = v.vertex; of_bucket = of }

  pub home_low : (key : ℕ) → key % sizes.buckets < sizes.buckets
  home_low key = mod-lt key (omega (arith, z.some_buckets))

-- an event writes a word of the chain of a bucket
pub record IsBucketSpot (sizes : Sizes) (past : List Event) (e : Event) (j : ℕ) : Type 0 where
  pub at : ChainWord
  pub place : bucket_word sizes j at ≡ e.place
  pub on : IsOn (bucket_chain sizes past j) at

module _ (sizes : Sizes) (z : IsLayout sizes) (past : List Event) (e : Event) (kept : IsKept sizes past)
    (ok : IsLinkVertex sizes past e) where
  abbrev link_home : ℕ
  link_home = e.key % sizes.buckets

  pub link_spot : IsBucketSpot sizes past e link_home
  link_spot = ⊎_elim
      (λ h. record {
        at = Head;
        place = ap (bucket_at sizes) (sym (ok.gap.bucket_word ok.bucket h.0 h.1))
            ∙ sym h.0;
        on = tt;
      })
      (λ h.
      let v = ok.linked ok.before h.0 in
      let word = key_word sizes z past kept ok.before _ record
      { linked = v.linked; vertex = v.vertex; of_bucket = refl } in
      record {
        at = Next ok.before;
        place = sym h.0;
        on = home_in sizes z past kept ok.before link_home v
            (ap (λ (k : ℕ). k % sizes.buckets) (sym word) ∙ ok.gap.bucket ok.before h.0);
      })
      ok.place

  -- the state of the node that is linked, and after the event
  abbrev link_node : Node
  link_node = record (node_in sizes past e.life.index) { mode = Linked; vertex = true; key = e.key }

  abbrev link_state : State
  link_state = state_by LinkVertex sizes e (state sizes past)

  link_fresh : (j : ℕ) → IsNodeOfBucket sizes (node_in sizes past e.life.index) j → ⊥
  link_fresh j v = let m = v.linked in let f = ok.fresh.fresh in absurd (cc)

  pub link_can : (s : IsBucketSpot sizes past e link_home) → CanInsert
      (bucket_chain sizes past link_home) s.at e.life.index
  link_can s =
      let word : word_at sizes past (bucket_word sizes link_home s.at) ≡ word_at sizes past e.place = ap
      (word_at sizes past) s.place in
      record {
        passes = record {
          present = s.on;
          above = above s.at s.place;
          below = subst (λ (i : ℕ). index_of i ≢ nowhere → word_at sizes past
              (key_at sizes e.life.index) < word_at sizes past (key_at sizes (index_of i))) (sym word)
              (λ some. let k = ok.filled.key_word in let g = ok.gap.above some in omega arith);
        };
        unmarked = ap mark_of word ∙ ok.unmarked;
        named = λ none. omega (arith, ok.there, z.few_nodes, none);
        absent = λ on. link_fresh link_home (is_in sizes (state sizes past) link_home e.life.index on);
        filled = ap index_of ok.filled.link_word ∙ (index_of-pack (index_of (word_at sizes past e.place)) 0
            (node_in sizes past e.life.index).tag (index_of-bound (word_at sizes past e.place)) ∙ ap index_of
            (sym word));
      }
    where
      above : (p : ChainWord) → bucket_word sizes link_home p ≡ e.place → StandsBelow
          (bucket_chain sizes past link_home) p (word_at sizes past (key_at sizes e.life.index))
      above Head at = tt
      above (Next x) at = let k = ok.filled.key_word in let g = ok.gap.below x (sym at) in omega arith

  link_near : e.place < word_count sizes
  link_near = omega (arith, ok.place)

  -- the nodes on the chain of its bucket, and on the others
  link_nodes : Joins (is_of_bucket sizes (state sizes past) link_home)
      (is_of_bucket sizes link_state link_home) e.life.index
  link_nodes = record {
    joins = in_is sizes link_state link_home e.life.index (subst (λ (u : Node). IsNodeOfBucket sizes u link_home)
        (sym (put_same e.life.index link_node (state sizes past).node)) record
        { linked = refl; vertex = refl; of_bucket = refl });
    others = λ x ne. ap (λ (u : Node). is_linked u.mode && (u.vertex && (u.key % sizes.buckets == link_home)))
        (put_other e.life.index link_node (state sizes past).node x ne);
  }

  link_same : (j : ℕ) → j ≢ link_home → (x : ℕ) → is_of_bucket sizes link_state j x ≡ is_of_bucket sizes
      (state sizes past) j x
  link_same j ne x = put_case (λ (u : Node). (is_linked u.mode && (u.vertex && (u.key % sizes.buckets == j))) ≡
      is_of_bucket sizes (state sizes past) j x) e.life.index link_node (state sizes past).node x
      (λ same. not_in sizes link_node j (λ v. ne (sym v.of_bucket)) ∙ sym
      (subst (λ (y : ℕ). is_of_bucket sizes (state sizes past) j y ≡ false) (sym same)
      (not_in sizes (node_in sizes past e.life.index) j (link_fresh j))))
      (λ _. refl)

  module _ (w : ℕ → ℕ) (a : IsAfter sizes past e w) where
    -- the vertex is inserted into the chain of its bucket
    pub link_inserts : (s : IsBucketSpot sizes past e link_home) → Inserts (bucket_chain sizes past link_home)
        (chain_of sizes link_state w link_home) s.at e.life.index
    link_inserts s =
        Inserts-in (word_at sizes past) w (bucket_places sizes link_home)
        (is_of_bucket sizes (state sizes past) link_home) (is_of_bucket sizes link_state link_home) (λ x. 0)
        (λ x. 0) (λ x on. refl) s.at e.life.index (tag_of (word_at sizes past e.place))
        (stands_alone sizes link_home s.at (home_low sizes z past kept e.key)) (omega (arith, ok.there, z.few_nodes))
        (link_can s) (writes_at sizes past e w _ _ a s.place link_near ok.word) link_nodes

    -- and no word of another is written
    link_apart : (j : ℕ) → j < sizes.buckets → j ≢ link_home → (x : ℕ) → IsNodeOfBucket sizes (node_in sizes past x) j
        → e.place ≢ link_at sizes x
    link_apart j low ne x v h = ne (sym v.of_bucket ∙ (ap (λ (k : ℕ). k % sizes.buckets)
        (sym (key_word sizes z past kept x j v)) ∙ ok.gap.bucket x h))

    pub link_others : (j : ℕ) → j < sizes.buckets → j ≢ link_home → Untouched (bucket_chain sizes past j)
        (chain_of sizes link_state w j)
    link_others j low ne = untouched sizes past e w link_state j a (λ h. ne (ok.gap.bucket_word j h low))
        (λ x v. (link_apart j low ne x v, λ h. omega (arith, ok.place, h))) (link_same j ne)

    link_bucket : (j : ℕ) → j < sizes.buckets → IsBucket sizes (state sizes past) (word_at sizes past) j
        → IsBucket sizes link_state w j
    link_bucket j low b = dite (ℕ_discrete j link_home) (λ same. here same b) other
      where
        here : j ≡ link_home → IsBucket sizes (state sizes past) (word_at sizes past) j → IsBucket sizes link_state w j
        here same b =
            let s = link_spot in
            let step = link_inserts s in
            let old : IsBucket sizes (state sizes past) (word_at sizes past) link_home = subst
            (IsBucket sizes (state sizes past) (word_at sizes past)) same b in
            subst (IsBucket sizes link_state w) (sym same) record {
              chain = IsChain-inserted (bucket_chain sizes past link_home)
                  (chain_of sizes link_state w link_home) s.at e.life.index old.chain step;
              met = subst (λ (p : ℕ). MeetsFrom (chain_of sizes link_state w link_home) Head
                  (linked_in sizes (bucket_at sizes link_home) p e.life.index ((state sizes past).bucket link_home)))
                  s.place
                  (meets_inserted sizes (bucket_places sizes link_home)
                  (bucket_links sizes link_home (home_low sizes z past kept e.key))
                  (bucket_chain sizes past link_home) (chain_of sizes link_state w link_home) s.at e.life.index
                  ((state sizes past).bucket link_home) old.chain step old.met);
            }

        other : j ≢ link_home → IsBucket sizes link_state w j
        other ne =
            let met = met_of sizes (state sizes past) (word_at sizes past) j b in
            stays sizes (state sizes past) link_state (word_at sizes past) w j
            (linked_else sizes (bucket_at sizes j) e.place e.life.index ((state sizes past).bucket j)
            (λ h. ne (ok.gap.bucket_word j h low))
            (each_such (λ x. e.place ≢ link_at sizes x) ((state sizes past).bucket j)
            (λ x c. link_apart j low ne x (is_in sizes (state sizes past) j x ((met.exactly x).1 c)))))
            (link_others j low ne) b

module _ (sizes : Sizes) (z : IsLayout sizes) (past : List Event) (e : Event) (kept : IsKept sizes past)
    (ok : IsMarkVertex sizes past e) where
  abbrev mark_home : ℕ
  mark_home = (node_in sizes past e.life.index).key % sizes.buckets

  abbrev mark_state : State
  mark_state = state_by MarkVertex sizes e (state sizes past)

  mark_same : (j x : ℕ) → is_of_bucket sizes mark_state j x ≡ is_of_bucket sizes (state sizes past) j x
  mark_same j x = put_case (λ (u : Node). (is_linked u.mode && (u.vertex && (u.key % sizes.buckets == j))) ≡
      is_of_bucket sizes (state sizes past) j x) e.life.index
      (record (node_in sizes past e.life.index) { marked = true }) (state sizes past).node x
      (λ same. ap (is_of_bucket sizes (state sizes past) j) (sym same)) (λ _. refl)

  module _ (w : ℕ → ℕ) (a : IsAfter sizes past e w) where
    -- the vertex stays on its chain, with a mark
    pub mark_sets : Marks (bucket_chain sizes past mark_home) (chain_of sizes mark_state w mark_home) e.life.index
    mark_sets = record {
      present = home_in sizes z past kept e.life.index mark_home ok.linked refl;
      sets = SetsMark-in (word_at sizes past) w (bucket_places sizes mark_home)
          (is_of_bucket sizes (state sizes past) mark_home) (is_of_bucket sizes mark_state mark_home) (λ x. 0) (λ x. 0)
          (λ x on. refl) (Next e.life.index)
          (stands_alone sizes mark_home (Next e.life.index) (home_low sizes z past kept
          (node_in sizes past e.life.index).key))
          (writes_at sizes past e w (link_at sizes e.life.index)
          (with_mark (word_at sizes past (link_at sizes e.life.index))) a (sym ok.place)
          (omega (arith, ok.place, ok.there)) (ok.word ∙ ap (λ (p : ℕ). with_mark (word_at sizes past p)) ok.place))
          (mark_same mark_home);
    }

    pub mark_others : (j : ℕ) → j < sizes.buckets → j ≢ mark_home → Untouched (bucket_chain sizes past j)
        (chain_of sizes mark_state w j)
    mark_others j low ne = untouched sizes past e w mark_state j a (λ h. omega (arith, ok.place, h, low))
        (λ x v. (
          (λ h. let same : x ≡ e.life.index = omega (arith, ok.place, h) in ne
              (sym v.of_bucket ∙ ap (λ (y : ℕ). (node_in sizes past y).key % sizes.buckets) same)),
          (λ h. omega (arith, ok.place, h)),
        ))
        (mark_same j)

    mark_bucket : (j : ℕ) → j < sizes.buckets → IsBucket sizes (state sizes past) (word_at sizes past) j
        → IsBucket sizes mark_state w j
    mark_bucket j low b = dite (ℕ_discrete j mark_home)
        (λ same.
        let old : IsBucket sizes (state sizes past) (word_at sizes past) mark_home = subst
        (IsBucket sizes (state sizes past) (word_at sizes past)) same b in
        subst (IsBucket sizes mark_state w) (sym same) record {
          chain = IsChain-marked (bucket_chain sizes past mark_home) (chain_of sizes mark_state w mark_home)
              (Next e.life.index) old.chain mark_sets.sets;
          met = meets_marked (bucket_chain sizes past mark_home) (chain_of sizes mark_state w mark_home)
              (Next e.life.index) ((state sizes past).bucket mark_home) old.chain mark_sets.sets old.met;
        })
        (λ ne. stays sizes (state sizes past) mark_state (word_at sizes past) w j refl (mark_others j low ne) b)

module _ (sizes : Sizes) (z : IsLayout sizes) (past : List Event) (e : Event) (kept : IsKept sizes past)
    (ok : IsUnlinkVertex sizes past e) (all : Buckets sizes (state sizes past) (word_at sizes past)) where
  abbrev cut_home : ℕ
  cut_home = (node_in sizes past e.life.index).key % sizes.buckets

  abbrev cut_node : Node
  cut_node = record (node_in sizes past e.life.index) {
    mode = Spent;
    who = e.caller;
    ended =
        (state sizes past).count + 1;
    epoch = (state sizes past).epoch;
  }

  abbrev cut_state : State
  cut_state = state_by UnlinkVertex sizes e (state sizes past)

  -- the chain whose word leads to the vertex is that of its bucket
  led_home : (j : ℕ) → j < sizes.buckets → (p : ChainWord) → IsOn (bucket_chain sizes past j) p
      → bucket_word sizes j p ≡ e.place → j ≡ cut_home
  led_home j low p on at =
      let to : index_of (word_at sizes past (bucket_word sizes j p)) ≡ e.life.index = ap
      (λ (i : ℕ). index_of (word_at sizes past i)) at ∙ ok.leads in
      let led = ((all.each j low).chain.leads p on (λ none. omega (arith, ok.there, z.few_nodes, to, none))).0 in
      let here : is_of_bucket sizes (state sizes past) j e.life.index ≡ true = subst
      (λ (y : ℕ). is_of_bucket sizes (state sizes past) j y ≡ true) to led in
      sym (is_in sizes (state sizes past) j e.life.index here).of_bucket

  pub cut_spot : IsBucketSpot sizes past e cut_home
  cut_spot = ⊎_elim
      (λ h. subst (IsBucketSpot sizes past e) (led_home ok.bucket h.1 Head tt (sym h.0)) record
      { at = Head; place = sym h.0; on = tt })
      (λ h.
      let j : ℕ = (node_in sizes past ok.before).key % sizes.buckets in
      let on = home_in sizes z past kept ok.before j (ok.before_linked ok.before h.0) refl in
      subst (IsBucketSpot sizes past e) (led_home j (home_low sizes z past kept (node_in sizes past ok.before).key)
      (Next ok.before) on (sym h.0)) record { at = Next ok.before; place = sym h.0; on = on })
      ok.place

  cut_can : (s : IsBucketSpot sizes past e cut_home) → CanUnlink (bucket_chain sizes past cut_home) s.at e.life.index
  cut_can s =
      let word : word_at sizes past (bucket_word sizes cut_home s.at) ≡ word_at sizes past e.place = ap
      (word_at sizes past) s.place in
      record {
        present = s.on;
        unmarked = ap mark_of word ∙ ok.unmarked;
        named = λ none. omega
            (arith, ok.there, z.few_nodes, none);
        led = ap index_of word ∙ ok.leads;
        marked = ok.dead;
      }

  cut_gone : (j : ℕ) → IsNodeOfBucket sizes cut_node j → ⊥
  cut_gone j v = let m = v.linked in absurd (cc)

  cut_nodes : Departs (is_of_bucket sizes (state sizes past) cut_home)
      (is_of_bucket sizes cut_state cut_home) e.life.index
  cut_nodes = record {
    departs = λ h. cut_gone cut_home (subst (λ (u : Node). IsNodeOfBucket sizes u cut_home)
        (put_same e.life.index cut_node (state sizes past).node) (is_in sizes cut_state cut_home e.life.index h));
    others = λ x ne. ap (λ (u : Node). is_linked u.mode && (u.vertex && (u.key % sizes.buckets == cut_home)))
        (put_other e.life.index cut_node (state sizes past).node x ne);
  }

  cut_same : (j : ℕ) → j ≢ cut_home → (x : ℕ) → is_of_bucket sizes cut_state j x ≡ is_of_bucket sizes
      (state sizes past) j x
  cut_same j ne x = put_case (λ (u : Node). (is_linked u.mode && (u.vertex && (u.key % sizes.buckets == j))) ≡
      is_of_bucket sizes (state sizes past) j x) e.life.index cut_node (state sizes past).node x
      (λ same. sym (subst (λ (y : ℕ). is_of_bucket sizes (state sizes past) j y ≡ false) (sym same)
      (not_in sizes (node_in sizes past e.life.index) j (λ v. ne (sym v.of_bucket)))))
      (λ _. refl)

  module _ (w : ℕ → ℕ) (a : IsAfter sizes past e w) where
    -- the vertex leaves its chain
    pub cut_unlinks : (s : IsBucketSpot sizes past e cut_home) → Unlinks (bucket_chain sizes past cut_home)
        (chain_of sizes cut_state w cut_home) s.at e.life.index
    cut_unlinks s =
        Unlinks-in (word_at sizes past) w (bucket_places sizes cut_home)
        (is_of_bucket sizes (state sizes past) cut_home) (is_of_bucket sizes cut_state cut_home) (λ x. 0) (λ x. 0)
        (λ x on. refl) s.at e.life.index (tag_of (word_at sizes past e.place))
        (stands_alone sizes cut_home s.at (home_low sizes z past kept (node_in sizes past e.life.index).key))
        (cut_can s) (writes_at sizes past e w _ _ a s.place (omega (arith, ok.place)) ok.word) cut_nodes

    pub cut_others : (j : ℕ) → j < sizes.buckets → j ≢ cut_home → Untouched (bucket_chain sizes past j)
        (chain_of sizes cut_state w j)
    cut_others j low ne = untouched sizes past e w cut_state j a (λ h. ne (led_home j low Head tt (sym h)))
        (λ x v. (
          (λ h. ne (led_home j low (Next x) (in_is sizes (state sizes past) j x v) (sym h))),
          (λ h. omega (arith, ok.place, h)),
        )) (cut_same j ne)

    cut_bucket : (j : ℕ) → j < sizes.buckets → IsBucket sizes (state sizes past) (word_at sizes past) j
        → IsBucket sizes cut_state w j
    cut_bucket j low b = dite (ℕ_discrete j cut_home)
        (λ same.
        let s = cut_spot in
        let step = cut_unlinks s in
        let old : IsBucket sizes (state sizes past) (word_at sizes past) cut_home = subst
        (IsBucket sizes (state sizes past) (word_at sizes past)) same b in
        subst (IsBucket sizes cut_state w) (sym same) record {
          chain = IsChain-unlinked (bucket_chain sizes past cut_home)
              (chain_of sizes cut_state w cut_home) s.at e.life.index old.chain step;
          met = meets_unlinked (bucket_chain sizes past cut_home)
              (chain_of sizes cut_state w cut_home) s.at e.life.index
              ((state sizes past).bucket cut_home) old.chain step old.met;
        })
        (λ ne. stays sizes (state sizes past) cut_state (word_at sizes past) w j
        (unlinked_else e.life.index ((state sizes past).bucket j)
        (each_absent (bucket_chain sizes past j) e.life.index ((state sizes past).bucket j)
        (met_of sizes (state sizes past) (word_at sizes past) j b)
        (λ on. ne (sym (is_in sizes (state sizes past) j e.life.index on).of_bucket))))
        (cut_others j low ne) b)

-- the kinds that change no bucket
abbrev pub IsOffBuckets : Kind → Type 0
IsOffBuckets LinkVertex = ⊥
IsOffBuckets MarkVertex = ⊥
IsOffBuckets UnlinkVertex = ⊥
IsOffBuckets _ = Unit {0}

same_list : (k : Kind) → IsOffBuckets k → (sizes : Sizes) (e : Event) (s : State) (j : ℕ) →
    (state_by k sizes e s).bucket j ≡ s.bucket j
same_list LinkVertex o sizes e s j = absurd o
same_list MarkVertex o sizes e s j = absurd o
same_list UnlinkVertex o sizes e s j = absurd o
same_list _ o sizes e s j = refl

-- a node that was on no chain of a bucket and is on none
put_off : (sizes : Sizes) (s : State) (i : ℕ) (v : Node) (j x : ℕ) → (IsNodeOfBucket sizes (s.node i) j → ⊥) →
    (IsNodeOfBucket sizes v j → ⊥)
    → (is_linked (put i v s.node x).mode && ((put i v s.node x).vertex &&
    ((put i v s.node x).key % sizes.buckets == j))) ≡ is_of_bucket sizes s j x
put_off sizes s i v j x old new = put_case (λ (u : Node). (is_linked u.mode &&
    (u.vertex && (u.key % sizes.buckets == j))) ≡ is_of_bucket sizes s j x) i v s.node x
    (λ same. not_in sizes v j new ∙ sym (subst (λ (y : ℕ). is_of_bucket sizes s j y ≡ false) (sym same)
    (not_in sizes (s.node i) j old)))
    (λ _. refl)

module _ (sizes : Sizes) (z : IsLayout sizes) (past : List Event) (e : Event) (kept : IsKept sizes past) (w : ℕ → ℕ)
    (a : IsAfter sizes past e w) (j : ℕ) (low : j < sizes.buckets) where
  -- a node that was marked stands on the chain as before
  marked_off : (x : ℕ) → (IsNodeOfBucket sizes (node_in sizes past e.life.index) j → ⊥) → is_of_bucket sizes
      (marked_state (state sizes past) e.life.index) j x ≡ is_of_bucket sizes (state sizes past) j x
  marked_off x none = put_off sizes (state sizes past) e.life.index
      (record (node_in sizes past e.life.index) { marked = true }) j x none
      (λ v. none record { linked = v.linked; vertex = v.vertex; of_bucket = v.of_bucket })

  -- a kind that changes no bucket leaves each chain untouched
  pub idle_bucket : (k : Kind) → IsOffBuckets k → AllowedAs k sizes past e → Untouched (bucket_chain sizes past j)
      (chain_of sizes (state_by k sizes e (state sizes past)) w j)
  idle_bucket LinkVertex o ok = absurd o
  idle_bucket MarkVertex o ok = absurd o
  idle_bucket UnlinkVertex o ok = absurd o
  idle_bucket PopFree o ok = untouched sizes past e w (state_by PopFree sizes e (state sizes past)) j a
      (λ h. omega (arith, ok.place, h)) (λ x v. ((λ h. omega (arith, ok.place, h)), (λ h. omega (arith, ok.place, h))))
      (λ x. put_off sizes (state sizes past) e.life.index _ j x
      (λ v. let m = v.linked in let f = (taken sizes z past e kept ok).free in absurd (cc))
      (λ v. let m = v.linked in absurd (cc)))
  idle_bucket PushFree o ok = untouched sizes past e w (state_by PushFree sizes e (state sizes past)) j a
      (λ h. omega (arith, ok.place, h)) (λ x v. ((λ h. omega (arith, ok.place, h)), (λ h. omega (arith, ok.place, h))))
      (λ x. put_off sizes (state sizes past) e.life.index _ j x
      (λ v. let m = v.linked in let f = ok.ripe.stamped.spent.spent in absurd (cc))
      (λ v. let m = v.linked in absurd (cc)))
  idle_bucket StorePrivate o ok = untouched sizes past e w (state_by StorePrivate sizes e (state sizes past)) j a
      (λ h. omega (arith, ok.place, h, low))
      (λ x v.
      let off : x ≢ e.life.index = λ same. let m : (node_in sizes past e.life.index).mode ≡ Linked = subst
      (λ (y : ℕ). (node_in sizes past y).mode ≡ Linked) same v.linked in let f = ok.fresh.fresh in absurd (cc) in
      ((λ h. off (omega (arith, ok.place, h))), (λ h. off (omega (arith, ok.place, h)))))
      (λ x. refl)
  idle_bucket StoreFree o ok =
      let off : IsNodeOfBucket sizes (node_in sizes past e.life.index) j
      → ⊥ = λ v. let m = v.linked in let f = ok.ripe.stamped.spent.spent in absurd (cc) in
      untouched sizes past e w (state_by StoreFree sizes e (state sizes past)) j a
      (λ h. omega (arith, ok.place, h, low))
      (λ x v. (
        (λ h. let same : x ≡ e.life.index = omega (arith, ok.place, h) in off
            (subst (λ (y : ℕ). IsNodeOfBucket sizes (node_in sizes past y) j) same v)),
        (λ h. omega (arith, ok.place, h)),
      ))
      (λ x. put_off sizes (state sizes past) e.life.index _ j x off
      (λ v. off record { linked = v.linked; vertex = v.vertex; of_bucket = v.of_bucket }))
  idle_bucket LinkEdge o ok = untouched sizes past e w (state_by LinkEdge sizes e (state sizes past)) j a
      (λ h. omega (arith, ok.place, h, low))
      (λ x v. (
        (λ h. let t = (ok.linked x h).linked.edge in let u = v.vertex in absurd (cc)),
        (λ h. omega (arith, ok.place, h)),
      ))
      (λ x. put_off sizes (state sizes past) e.life.index _ j x
      (λ v. let m = v.linked in let f = ok.fresh.fresh in absurd (cc)) (λ v. let t = v.vertex in absurd (cc)))
  idle_bucket UnlinkEdge o ok = untouched sizes past e w (state_by UnlinkEdge sizes e (state sizes past)) j a
      (λ h. omega (arith, ok.place, h, low))
      (λ x v. (
        (λ h. let t = (ok.before_linked x h).linked.edge in let u = v.vertex in absurd (cc)),
        (λ h. omega (arith, ok.place, h)),
      ))
      (λ x. put_off sizes (state sizes past) e.life.index _ j x
      (λ v. let u = v.vertex in let t = ok.linked.edge in absurd (cc)) (λ v. let m = v.linked in absurd (cc)))
  idle_bucket MarkEdge o ok =
      let off : IsNodeOfBucket sizes (node_in sizes past e.life.index) j
      → ⊥ = λ v. let u = v.vertex in let t = ok.linked.edge in absurd (cc) in
      untouched sizes past e w (state_by MarkEdge sizes e (state sizes past)) j a (λ h. omega (arith, ok.place, h, low))
      (λ x v. (
        (λ h. let same : x ≡ e.life.index = omega (arith, ok.place, h) in off
            (subst (λ (y : ℕ). IsNodeOfBucket sizes (node_in sizes past y) j) same v)),
        (λ h. omega (arith, ok.place, h)),
      ))
      (λ x. handed_bucket sizes (marked_state (state sizes past) e.life.index)
      (node_in sizes past e.life.index).source.index j x (marked_lists (state sizes past) e.life.index
      (on_lists sizes past kept)) ∙ marked_off x off)
  idle_bucket ReplaceEdge o ok =
      let s : State = state sizes past in
      let t : State = joined_edge sizes e s in
      let v : Node = record (node_in sizes past e.life.index) {
        mode = Linked;
        vertex = false;
        key = e.key;
        source = e.source;
        target = e.target;
        weight = e.weight;
        since =
            s.count + 1;
      } in
      let off : IsNodeOfBucket sizes (node_in sizes past e.old.index) j
      → ⊥ = λ v. let u = v.vertex in let t = ok.linked.edge in absurd (cc) in
      let off_then : IsNodeOfBucket sizes (t.node e.old.index) j → ⊥ = λ v. off
      (subst (λ (n : Node). IsNodeOfBucket sizes n j) (old_joined sizes past e ok) v) in
      untouched sizes past e w (state_by ReplaceEdge sizes e s) j a (λ h. omega (arith, ok.place, h, low))
      (λ x v. (
        (λ h. let same : x ≡ e.old.index = omega (arith, ok.place, h) in off
            (subst (λ (y : ℕ). IsNodeOfBucket sizes (node_in sizes past y) j) same v)),
        (λ h. omega (arith, ok.place, h)),
      ))
      (λ x. handed_bucket sizes (marked_state t e.old.index) (t.node e.old.index).source.index j x
      (marked_lists t e.old.index (joined_lists sizes past e (on_lists sizes past kept)))
      ∙ (put_off sizes t e.old.index (record (t.node e.old.index) { marked = true }) j x off_then
      (λ v. off_then record { linked = v.linked; vertex = v.vertex; of_bucket = v.of_bucket })
      ∙ put_off sizes s e.life.index v j x (λ v. let m = v.linked in let f = ok.fresh.fresh in absurd (cc))
      (λ v. let t = v.vertex in absurd (cc))))
  idle_bucket FreezeEdge o ok =
      let off : IsNodeOfBucket sizes (node_in sizes past e.life.index) j
      → ⊥ = λ v. let u = v.vertex in let t = ok.linked.edge in absurd (cc) in
      untouched sizes past e w (state_by FreezeEdge sizes e (state sizes past)) j a
      (λ h. omega (arith, ok.place, h, low))
      (λ x v. (
        (λ h. let same : x ≡ e.life.index = omega (arith, ok.place, h) in off
            (subst (λ (y : ℕ). IsNodeOfBucket sizes (node_in sizes past y) j) same v)),
        (λ h. omega (arith, ok.place, h)),
      ))
      (λ x. handed_bucket sizes (marked_state (state sizes past) e.life.index)
      (node_in sizes past e.life.index).source.index j x (marked_lists (state sizes past) e.life.index
      (on_lists sizes past kept)) ∙ marked_off x off)
  idle_bucket FreezeHead o ok = untouched sizes past e w (state_by FreezeHead sizes e (state sizes past)) j a
      (λ h. omega (arith, ok.place, h, low)) (λ x v. (
        (λ h. omega (arith, ok.place, h)),
        (λ h. omega (arith, ok.place, h)),
      ))
      (λ x. handed_bucket sizes (closed_state (state sizes past) e.life.index) e.life.index j x record
      { each = (on_lists sizes past kept).each })
  idle_bucket k o ok = untouched sizes past e w (state_by k sizes e (state sizes past)) j a
      (λ h. omega (arith, ok.place, ok.there, h)) (λ x v. (
        (λ h. omega (arith, ok.place, ok.there, h)),
        (λ h. omega (arith, ok.place, ok.there, h)),
      )) (λ x. refl)

buckets_step : (sizes : Sizes) → IsLayout sizes → KeepsByKind sizes (Buckets sizes)
buckets_step sizes z past e kept c LinkVertex by ok w a = record
    { each = λ j low. link_bucket sizes z past e kept ok w a j low (c.each j low) }
buckets_step sizes z past e kept c MarkVertex by ok w a = record
    { each = λ j low. mark_bucket sizes z past e kept ok w a j low (c.each j low) }
buckets_step sizes z past e kept c UnlinkVertex by ok w a = record
    { each = λ j low. cut_bucket sizes z past e kept ok c w a j low (c.each j low) }
buckets_step sizes z past e kept c k by ok w a = record {
  each = λ j low. stays sizes (state sizes past) (state_by k sizes e (state sizes past)) (word_at sizes past) w j
      (same_list k tt sizes e (state sizes past) j) (idle_bucket sizes z past e kept w a j low k tt ok) (c.each j low);
}

-- at opening each bucket is empty
buckets_first : (sizes : Sizes) (j : ℕ) → j < sizes.buckets → IsBucket sizes (opening sizes) (word_at sizes []) j
buckets_first sizes j low =
    let none : index_of (word_at sizes [] (bucket_at sizes j)) ≡ nowhere
    = ap index_of (word_first sizes (BucketWord j) low) ∙ index_of-pack nowhere 0 0 (omega arith) in
    record {
      chain = IsChain-from_IsMet (chain_of sizes (opening sizes) (word_at sizes []) j) [] record {
        met = none;
        rising = tt;
        unmarked = tt;
        once = λ i k d low high. absurd (omega arith);
        exactly = λ x. ((λ on. absurd (let f : false ≡ true = on in cc)), (λ c. absurd (omega (arith, c.1))));
      };
      met = none;
    }

-- the buckets after each kept journal
pub buckets : (sizes : Sizes) → IsLayout sizes → (journal : List Event) → IsKept sizes journal → Buckets sizes
    (state sizes journal) (word_at sizes journal)
buckets sizes z journal kept = holds_all sizes (Buckets sizes) (buckets_step sizes z)
    (record { each = buckets_first sizes }) journal kept

-- one meets exactly the linked vertices of each bucket
pub bucket_chains : (sizes : Sizes) → IsLayout sizes → (journal : List Event) → IsKept sizes journal
    → BucketChains sizes journal
bucket_chains sizes z journal kept = record {
  each = λ j low. met_of sizes (state sizes journal)
      (word_at sizes journal) j ((buckets sizes z journal kept).each j low);
}
