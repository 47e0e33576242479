-- The free list: each event is a change of core_epoch's pool, so the list holds exactly the free nodes, each once, and
-- its
-- word's tag counts its changes.
use Rattle.core_kept.proofs.Replaced.{old_joined}
use Rattle.std.proofs.Common.{◌≡◌, ◌≢◌, ◌⊎◌, ℕ, ◌+◌, ◌<◌, ◌≤◌, Bool, true, false, cond, List, [], ◌∷◌, refl, sym, ap}
use Rattle.std.proofs.Common.{◌∙◌, subst, arith, inl, inr, eq-eqb, ne_eqb}
use Rattle.std.specs.Prelude.{drop}
use Rattle.packed_link.specs.Link.{pack, nowhere, index_of, tag_of}
use Rattle.packed_link.specs.Layout.{Sizes, IsLayout, FreeWord, LinkWord, free_at, link_at}
use Rattle.core_epoch.specs.Free.{FreeList, Leads, KeepsOthers, TakesFirst, GivesBack, LeavesFree, Change, take, give}
use Rattle.core_epoch.specs.Free.{leave, IsUnchanged}
use Rattle.core_epoch.proofs.FreeList.{free_new, free_kept, unchanged_kept}
use Rattle.core_epoch.proofs.FreeList.{first_is_free as first_of_pool_is_free}
use Rattle.core_journal.specs.declared.event.Kind.{Kind}
use Rattle.core_journal.specs.declared.event.Kind.TheVariants.{PopFree, StorePrivate, LinkVertex, MarkVertex}
use Rattle.core_journal.specs.declared.event.Kind.TheVariants.{UnlinkVertex, LinkEdge, MarkEdge, UnlinkEdge, FreezeHead}
use Rattle.core_journal.specs.declared.event.Kind.TheVariants.{FreezeEdge, StoreFree, PushFree, ReplaceEdge}
use Rattle.core_journal.specs.declared.event.Event.{Event}
use Rattle.core_journal.specs.Prefix.{IsPrefix}
use Rattle.core_journal.specs.Machine.{word_at}
use Rattle.core_journal.specs.State.{Mode, Free, Fresh, Linked, Spent, Node, State, put, without_first, handed}
use Rattle.core_journal.specs.State.{state_by, opening, state, joined_edge}
use Rattle.core_journal.proofs.MachineWords.{word_first}
use Rattle.core_kept.specs.Kept.{AllowedAs, IsKept}
use Rattle.core_kept.specs.FreeNodes.{IsPopFree, IsPushFree}
use Rattle.core_kept.specs.Nodes.{node_in}
use Rattle.core_kept.specs.Free.{is_free, pool_by, pool_in}
use Rattle.core_kept.proofs.Induction.{kept_front}
use Rattle.core_kept.proofs.ByKind.{IsAfter, KeepsByKind, put_case, put_same, put_other, handed_case, marked_state}
use Rattle.core_kept.proofs.ByKind.{closed_state, holds_all, holds_onward}

pub free_is : (m : Mode) → is_free m ≡ true → m ≡ Free
free_is Free h = refl
free_is _ h = absurd (cc)

used_is : (m : Mode) → m ≢ Free → is_free m ≡ false
used_is Free ne = absurd (ne refl)
used_is _ ne = refl

same_free : (m m' : Mode) → (m ≡ Free → m' ≡ Free) → (m' ≡ Free → m ≡ Free) → is_free m' ≡ is_free m
same_free Free m' stays was = ap is_free (stays refl)
same_free Fresh m' stays was = used_is m' (λ h. let t = was h in absurd (cc))
same_free Linked m' stays was = used_is m' (λ h. let t = was h in absurd (cc))
same_free Spent m' stays was = used_is m' (λ h. let t = was h in absurd (cc))

pub behind_is : (xs : List ℕ) → without_first xs ≡ drop 1 xs
behind_is [] = refl
behind_is (x ∷ xs) = refl

-- a layout has no more nodes than a link can name
pub few_nodes : (sizes : Sizes) → IsLayout sizes → sizes.nodes ≤ nowhere
few_nodes sizes z = omega (arith, z.few_nodes)

-- an event at the word of the free list, which changes one node
others_stay : (sizes : Sizes) (past : List Event) (e : Event) (v : Node) (w : ℕ → ℕ) (s' : State)
    → IsAfter sizes past e w → e.place ≡ free_at sizes → s'.node ≡ put e.life.index v (state sizes past).node
    → KeepsOthers (pool_in sizes past) (pool_by sizes s' w) e.life.index
others_stay sizes past e v w s' a place is = record {
  is_free = λ y ne. ap (λ (f : ℕ → Node). is_free (f y).mode) is ∙ ap (λ (u : Node). is_free u.mode)
      (put_other e.life.index v (state sizes past).node y ne);
  link = λ y. a.else (link_at sizes y) (λ h. omega (arith, place, h));
}

takes : (sizes : Sizes) (past : List Event) (e : Event) → IsPopFree sizes past e → (w : ℕ → ℕ) → IsAfter sizes past e w
    → TakesFirst sizes.nodes (pool_in sizes past) (pool_by sizes (state_by PopFree sizes e (state sizes past)) w)
    e.life.index
takes sizes past e ok w a =
    let s : State = state sizes past in
    let v : Node = record (s.node e.life.index) {
      mode = Fresh;
      who = e.caller;
      tag = e.life.tag;
      marked = false;
      stored
          = false;
    } in
    record {
      there = ok.there;
      leads = ok.seen;
      word = subst (λ (j : ℕ). w j ≡ e.word) ok.place (a.here (omega (arith, ok.place))) ∙ ok.word;
      taken = ap (λ (u : Node). is_free u.mode) (put_same e.life.index v s.node);
      list = behind_is s.free;
      others = others_stay sizes past e v w (state_by PopFree sizes e s) a ok.place refl;
      changes = refl;
    }

gives_back : (sizes : Sizes) (past : List Event) (e : Event) → IsPushFree sizes past e → (w : ℕ → ℕ)
    → IsAfter sizes past e w → GivesBack sizes.nodes (pool_in sizes past)
    (pool_by sizes (state_by PushFree sizes e (state sizes past)) w) e.life.index
gives_back sizes past e ok w a =
    let s : State = state sizes past in
    let v : Node = record (s.node e.life.index) { mode = Free } in
    record {
      there = ok.there;
      used = ap is_free ok.ripe.stamped.spent.spent;
      ready = ok.ready;
      word = subst (λ (j : ℕ). w j ≡ e.word) ok.place (a.here (omega (arith, ok.place))) ∙ ok.word;
      given = ap (λ (u : Node). is_free u.mode) (put_same e.life.index v s.node);
      list = refl;
      others = others_stay sizes past e v w (state_by PushFree sizes e s) a ok.place refl;
      changes = refl;
    }

-- no kind but those two touches a free node
elsewhere : (sizes : Sizes) (past : List Event) (e : Event) (s' : State) (w : ℕ → ℕ) → IsAfter sizes past e w
    → 3 ≢ e.place → ((x : ℕ) → link_at sizes x ≡ e.place → (node_in sizes past x).mode ≢ Free)
    → ((x : ℕ) → (node_in sizes past x).mode ≡ Free → (s'.node x).mode ≡ Free) →
    ((x : ℕ) → (s'.node x).mode ≡ Free → (node_in sizes past x).mode ≡ Free) → s'.free ≡ (state sizes past).free
    → s'.changes ≡ (state sizes past).changes
    → LeavesFree (pool_in sizes past) (pool_by sizes s' w)
elsewhere sizes past e s' w a third links stays was list changes = record {
  first = a.else 3 third;
  link = λ x m. a.else (link_at sizes x) (λ h. links x h (free_is (node_in sizes past x).mode m));
  is_free = λ x. same_free (node_in sizes past x).mode (s'.node x).mode (stays x) (was x);
  list = list;
  changes = changes;
}

-- a node that isn't free changes its state
put_stays : (s : State) (i : ℕ) (v : Node) → (s.node i).mode ≢ Free → (x : ℕ) → (s.node x).mode ≡ Free →
    (put i v s.node x).mode ≡ Free
put_stays s i v ne x m = put_case (λ (u : Node). u.mode ≡ Free) i v s.node x
    (λ same. absurd (ne (ap (λ (y : ℕ). (s.node y).mode) (sym same) ∙ m))) (λ _. m)

put_was : (s : State) (i : ℕ) (v : Node) → v.mode ≢ Free → (x : ℕ) → (put i v s.node x).mode ≡ Free →
    (s.node x).mode ≡ Free
put_was s i v ne x = put_case (λ (u : Node). u.mode ≡ Free → (s.node x).mode ≡ Free) i v s.node x (λ _ m. absurd (ne m))
    (λ _ m. m)

-- a node that is handed over was linked
handed_stays : (s : State) (v x : ℕ) → (s.node x).mode ≡ Free → ((handed v s).node x).mode ≡ Free
handed_stays s v x m = handed_case (λ (u : Node). u.mode ≡ Free) s v x m (λ l _ _. absurd (cc))

handed_was : (s : State) (v x : ℕ) → ((handed v s).node x).mode ≡ Free → (s.node x).mode ≡ Free
handed_was s v x = handed_case (λ (u : Node). u.mode ≡ Free → (s.node x).mode ≡ Free) s v x (λ m. m)
    (λ l _ _ m. absurd (cc))

same_place : (sizes : Sizes) (past : List Event) (i x place : ℕ) (m : Mode) → link_at sizes x ≡ place
    → place ≡ link_at sizes i → (node_in sizes past i).mode ≡ m → (node_in sizes past x).mode ≡ m
same_place sizes past i x place m h p is = let e : x ≡ i = omega (arith, h, p) in ap
    (λ (y : ℕ). (node_in sizes past y).mode) e ∙ is

-- the kinds that don't change the free list
abbrev pub IsOther : Kind → Type 0
IsOther PopFree = ⊥
IsOther PushFree = ⊥
IsOther _ = Unit {0}

pub other_kinds : (sizes : Sizes) (past : List Event) (e : Event) (k : Kind) → AllowedAs k sizes past e → (w : ℕ → ℕ)
    → IsAfter sizes past e w → IsOther k → LeavesFree (pool_in sizes past)
    (pool_by sizes (state_by k sizes e (state sizes past)) w)
other_kinds sizes past e PopFree ok w a o = absurd o
other_kinds sizes past e PushFree ok w a o = absurd o
other_kinds sizes past e StorePrivate ok w a _ = elsewhere sizes past e
    (state_by StorePrivate sizes e (state sizes past)) w a (omega (arith, ok.place))
    (λ x h m. let same : x ≡ e.life.index = omega (arith, h, ok.place) in let u :
    (node_in sizes past x).mode ≡ Fresh = ap (λ (y : ℕ). (node_in sizes past y).mode) same
    ∙ ok.fresh.fresh in absurd (cc)) (λ x m. m) (λ x m. m) refl refl
other_kinds sizes past e LinkVertex ok w a _ = let t = ok.fresh.fresh in elsewhere sizes past e
    (state_by LinkVertex sizes e (state sizes past)) w a (omega (arith, ok.place))
    (λ x h m. let u = (ok.linked x (sym h)).linked in absurd (cc))
    (put_stays (state sizes past) e.life.index _ (λ m. absurd (cc)))
    (put_was (state sizes past) e.life.index _ (λ m. absurd (cc))) refl refl
other_kinds sizes past e MarkVertex ok w a _ = let t = ok.linked.linked in elsewhere sizes past e
    (state_by MarkVertex sizes e (state sizes past)) w a (omega (arith, ok.place))
    (λ x h m. let u = same_place sizes past e.life.index x e.place Linked h ok.place t in absurd (cc))
    (put_stays (state sizes past) e.life.index _ (λ m. absurd (cc)))
    (put_was (state sizes past) e.life.index _ (λ m. absurd (cc))) refl refl
other_kinds sizes past e UnlinkVertex ok w a _ = let t = ok.linked.linked in elsewhere sizes past e
    (state_by UnlinkVertex sizes e (state sizes past)) w a (omega (arith, ok.place))
    (λ x h m. let u = (ok.before_linked x (sym h)).linked in absurd (cc))
    (put_stays (state sizes past) e.life.index _ (λ m. absurd (cc)))
    (put_was (state sizes past) e.life.index _ (λ m. absurd (cc))) refl refl
other_kinds sizes past e LinkEdge ok w a _ = let t = ok.fresh.fresh in elsewhere sizes past e
    (state_by LinkEdge sizes e (state sizes past)) w a (omega (arith, ok.place))
    (λ x h m. let u = (ok.linked x (sym h)).linked.linked in absurd (cc))
    (put_stays (state sizes past) e.life.index _ (λ m. absurd (cc)))
    (put_was (state sizes past) e.life.index _ (λ m. absurd (cc))) refl refl
other_kinds sizes past e UnlinkEdge ok w a _ = let t = ok.linked.linked in elsewhere sizes past e
    (state_by UnlinkEdge sizes e (state sizes past)) w a (omega (arith, ok.place))
    (λ x h m. let u = (ok.before_linked x (sym h)).linked.linked in absurd (cc))
    (put_stays (state sizes past) e.life.index _ (λ m. absurd (cc)))
    (put_was (state sizes past) e.life.index _ (λ m. absurd (cc))) refl refl
other_kinds sizes past e MarkEdge ok w a _ = let t = ok.linked.linked in elsewhere sizes past e
    (state_by MarkEdge sizes e (state sizes past)) w a (omega (arith, ok.place))
    (λ x h m. let u = same_place sizes past e.life.index x e.place Linked h ok.place t in absurd (cc))
    (λ x m. handed_stays (marked_state (state sizes past) e.life.index) (node_in sizes past e.life.index).source.index x
    (put_stays (state sizes past) e.life.index _ (λ (m : (node_in sizes past e.life.index).mode ≡ Free). absurd
    (cc)) x m))
    (λ x m. put_was (state sizes past) e.life.index (record (node_in sizes past e.life.index) { marked = true })
    (λ (m : (node_in sizes past e.life.index).mode ≡ Free). absurd (cc)) x
    (handed_was (marked_state (state sizes past) e.life.index) (node_in sizes past e.life.index).source.index x m))
    refl refl
other_kinds sizes past e ReplaceEdge ok w a _ =
    let s : State = state sizes past in
    let j : State = joined_edge sizes e s in
    let t = ok.linked.linked in
    let f = ok.fresh.fresh in
    let l : (j.node e.old.index).mode ≡ Linked = ap (λ (v : Node). v.mode) (old_joined sizes past e ok) ∙ t in
    elsewhere sizes past e (state_by ReplaceEdge sizes e s) w a (omega (arith, ok.place))
    (λ x h m. let u = same_place sizes past e.old.index x e.place Linked h ok.place t in absurd (cc))
    (λ x m. handed_stays (marked_state j e.old.index) (j.node e.old.index).source.index x
    (put_stays j e.old.index _ (λ (m : (j.node e.old.index).mode ≡ Free). absurd (cc)) x
    (put_stays s e.life.index _ (λ (m : (node_in sizes past e.life.index).mode ≡ Free). absurd (cc)) x m)))
    (λ x m. put_was s e.life.index _ (λ m. absurd (cc)) x (put_was j e.old.index
    (record (j.node e.old.index) { marked = true }) (λ (m : (j.node e.old.index).mode ≡ Free). absurd (cc)) x
    (handed_was (marked_state j e.old.index) (j.node e.old.index).source.index x m))) refl refl
other_kinds sizes past e FreezeEdge ok w a _ = let t = ok.linked.linked in elsewhere sizes past e
    (state_by FreezeEdge sizes e (state sizes past)) w a (omega (arith, ok.place))
    (λ x h m. let u = same_place sizes past e.life.index x e.place Linked h ok.place t in absurd (cc))
    (λ x m. handed_stays (marked_state (state sizes past) e.life.index) (node_in sizes past e.life.index).source.index x
    (put_stays (state sizes past) e.life.index _ (λ (m : (node_in sizes past e.life.index).mode ≡ Free). absurd
    (cc)) x m))
    (λ x m. put_was (state sizes past) e.life.index (record (node_in sizes past e.life.index) { marked = true })
    (λ (m : (node_in sizes past e.life.index).mode ≡ Free). absurd (cc)) x
    (handed_was (marked_state (state sizes past) e.life.index) (node_in sizes past e.life.index).source.index x m))
    refl refl
other_kinds sizes past e FreezeHead ok w a _ = elsewhere sizes past e
    (state_by FreezeHead sizes e (state sizes past)) w a (omega (arith, ok.place)) (λ x h m. omega (arith, ok.place, h))
    (λ x m. handed_stays (closed_state (state sizes past) e.life.index) e.life.index x m)
    (λ x m. handed_was (closed_state (state sizes past) e.life.index) e.life.index x m) refl refl
other_kinds sizes past e StoreFree ok w a _ = let t = ok.ripe.stamped.spent.spent in elsewhere sizes past e
    (state_by StoreFree sizes e (state sizes past)) w a (omega (arith, ok.place))
    (λ x h m. let u = same_place sizes past e.life.index x e.place Spent h ok.place t in absurd (cc))
    (put_stays (state sizes past) e.life.index _ (λ m. absurd (cc)))
    (put_was (state sizes past) e.life.index _ (λ m. absurd (cc))) refl refl
other_kinds sizes past e k ok w a _ = elsewhere sizes past e (state_by k sizes e (state sizes past)) w a
    (λ h. omega (arith, ok.place, h)) (λ x h m. omega (arith, ok.place, ok.there, h)) (λ x m. m) (λ x m. m) refl refl

-- each event is a change of core_epoch's pool
pool_step : (k : Kind) (sizes : Sizes) (past : List Event) (e : Event) → AllowedAs k sizes past e → (w : ℕ → ℕ)
    → IsAfter sizes past e w → Change sizes.nodes (pool_in sizes past)
    (pool_by sizes (state_by k sizes e (state sizes past)) w)
pool_step PopFree sizes past e ok w a = take e.life.index (takes sizes past e ok w a)
pool_step PushFree sizes past e ok w a = give e.life.index (gives_back sizes past e ok w a)
pool_step k sizes past e ok w a = leave (other_kinds sizes past e k ok w a tt)

free_step : (sizes : Sizes) → IsLayout sizes → KeepsByKind sizes
    (λ (s : State) (w : ℕ → ℕ). FreeList sizes.nodes (pool_by sizes s w))
free_step sizes z past e kept f k by ok w a = free_kept sizes.nodes (pool_in sizes past)
    (pool_by sizes (state_by k sizes e (state sizes past)) w) (few_nodes sizes z) f (pool_step k sizes past e ok w a)

pub last_word : (sizes : Sizes) (x : ℕ) → x + 1 ≡ sizes.nodes → word_at sizes [] (link_at sizes x) ≡ pack nowhere 1 0
last_word sizes x last = word_first sizes (LinkWord x) (omega (arith, last)) ∙ ap
    (λ (b : Bool). pack (cond b nowhere (x + 1)) 1 0) (eq-eqb (x + 1) sizes.nodes last)

pub next_word : (sizes : Sizes) (x : ℕ) → x + 1 < sizes.nodes → word_at sizes [] (link_at sizes x) ≡ pack (x + 1) 1 0
next_word sizes x more = word_first sizes (LinkWord x) (omega (arith, more)) ∙ ap
    (λ (b : Bool). pack (cond b nowhere (x + 1)) 1 0) (ne_eqb (x + 1) sizes.nodes (λ h. omega (arith, h, more)))

-- the free list after each kept journal
pub free_list : (sizes : Sizes) → IsLayout sizes → (journal : List Event) → IsKept sizes journal → FreeList sizes.nodes
    (pool_in sizes journal)
free_list sizes z journal kept = holds_all sizes (λ (s : State) (w : ℕ → ℕ). FreeList sizes.nodes (pool_by sizes s w))
    (free_step sizes z)
    (free_new sizes.nodes (pool_by sizes (opening sizes) (word_at sizes [])) z.some_nodes
    (few_nodes sizes z) record {
      first = word_first sizes FreeWord tt;
      link = λ x t. word_first sizes
          (LinkWord x) t;
      is_free = λ x t. refl;
      free = refl;
      changes = refl;
    }) journal kept

-- the node to which the word of the free list leads is free
pub first_is_free : (sizes : Sizes) → IsLayout sizes → (journal : List Event) → IsKept sizes journal → (x : ℕ)
    → x < sizes.nodes → index_of (word_at sizes journal (free_at sizes)) ≡ x → (node_in sizes journal x).mode ≡ Free
first_is_free sizes z journal kept x t h = free_is (node_in sizes journal x).mode
    (first_of_pool_is_free sizes.nodes (pool_in sizes journal) x (few_nodes sizes z)
    (free_list sizes z journal kept) t h)

-- the word of the free list comes back to no other word
unchanged_step : (sizes : Sizes) → IsLayout sizes → (seen next : ℕ) → index_of seen < sizes.nodes → KeepsByKind sizes
    (λ (s : State) (w : ℕ → ℕ). IsUnchanged seen next (pool_by sizes s w))
unchanged_step sizes z seen next there past e kept c k by ok w a =
    unchanged_kept sizes.nodes seen next (few_nodes sizes z) there (pool_in sizes past)
    (pool_by sizes (state_by k sizes e (state sizes past)) w) (free_list sizes z past kept) c
    (pool_step k sizes past e ok w a)

changes_step : (sizes : Sizes) (low : ℕ) → KeepsByKind sizes (λ (s : State) (w : ℕ → ℕ). low ≤ s.changes)
changes_step sizes low past e kept h PopFree by ok w a = omega (arith, h)
changes_step sizes low past e kept h PushFree by ok w a = omega (arith, h)
changes_step sizes low past e kept h _ by ok w a = h

-- the word of the free list was seen, then its node's link; where that word is the same again, so is the link, and the
-- node is free
pub pop_again : (sizes : Sizes) → IsLayout sizes → (seen next : ℕ) → index_of seen < sizes.nodes →
    (first second journal : List Event) → IsPrefix first second → IsPrefix second journal → IsKept sizes journal
    → word_at sizes first (free_at sizes) ≡ seen → word_at sizes second (link_at sizes (index_of seen)) ≡ next
    → word_at sizes journal (free_at sizes) ≡ seen
    → (word_at sizes journal (link_at sizes (index_of seen)) ≡ next) ×
    ((node_in sizes journal (index_of seen)).mode ≡ Free)
pop_again sizes z seen next there first second journal p q kept was link is =
    let kept2 : IsKept sizes second = kept_front sizes second journal q kept in
    let kept1 : IsKept sizes first = kept_front sizes first second p kept2 in
    let old : ℕ = word_at sizes first (link_at sizes (index_of seen)) in
    let tag1 : tag_of seen ≡ (state sizes first).changes = ap tag_of (sym was) ∙ (free_list sizes z first kept1).tag in
    let tag3 : tag_of seen ≡ (state sizes journal).changes = ap tag_of (sym is) ∙
    (free_list sizes z journal kept).tag in
    let start : IsUnchanged seen old (pool_in sizes first) = record
    { low = omega (arith, tag1); word = λ _. was; link = λ _. refl } in
    let middle : IsUnchanged seen old (pool_in sizes second) = holds_onward sizes
    (λ (s : State) (w : ℕ → ℕ). IsUnchanged seen old (pool_by sizes s w))
    (unchanged_step sizes z seen old there) first second p kept2 start in
    let end : IsUnchanged seen old (pool_in sizes journal) = holds_onward sizes
    (λ (s : State) (w : ℕ → ℕ). IsUnchanged seen old (pool_by sizes s w))
    (unchanged_step sizes z seen old there) second journal q kept middle in
    let rise : (state sizes second).changes ≤ (state sizes journal).changes = holds_onward sizes
    (λ (s : State) (w : ℕ → ℕ). (state sizes second).changes ≤ s.changes)
    (changes_step sizes (state sizes second).changes) second journal q kept (omega arith) in
    let tag2 : (state sizes second).changes ≡ tag_of seen = omega (arith, middle.low, rise, tag3) in (
      end.link (sym tag3) ∙ (sym (middle.link tag2) ∙ link),
      first_is_free sizes z journal kept (index_of seen) there
          (ap index_of is),
    )

-- the word of the free list leads to none or to a node
pub first_leads : (sizes : Sizes) → IsLayout sizes → (journal : List Event) → IsKept sizes journal →
    (index_of (word_at sizes journal (free_at sizes)) ≡ nowhere) ⊎
    (index_of (word_at sizes journal (free_at sizes)) < sizes.nodes)
first_leads sizes z journal kept = by (state sizes journal).free (free_list sizes z journal kept).leads
  where
    by : (xs : List ℕ) → Leads sizes.nodes (pool_in sizes journal).link
        (index_of (word_at sizes journal (free_at sizes))) xs →
        (index_of (word_at sizes journal (free_at sizes)) ≡ nowhere) ⊎
        (index_of (word_at sizes journal (free_at sizes)) < sizes.nodes)
    by [] h = inl h
    by (x ∷ xs) h = inr (omega (arith, h.0, h.1))
