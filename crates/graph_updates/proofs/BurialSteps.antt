-- A vertex is buried, step by step: its list is closed, each of its edges is handed over and retired, and then the
-- vertex.
use Rattle.std.proofs.Common.{◌≡◌, ◌≢◌, ◌⊎◌, ◌==◌, ℕ, ◌<◌, Bool, true, false, cond, List, [], ◌∷◌, ◌++◌}
use Rattle.std.proofs.Common.{length, append-nil, append_assoc, map, None, Some, Option, inl, inr, refl, sym, ap}
use Rattle.std.proofs.Common.{◌∙◌, subst, arith, ⊎_elim, ne_eqb, ◌||◌}
use Rattle.std.proofs.lemmas.List.{map-append}
use mathlib.Core.Logic.{dite}
use native.Mathlib.Decide.{ℕ_discrete}
use Rattle.graph_kinds.specs.Levels.{stands_in}
use Rattle.graph_kinds.specs.History.{Every}
use Rattle.packed_link.specs.Link.{index_of, mark_of, nowhere}
use Rattle.packed_link.specs.Layout.{Sizes, IsLayout, link_at, second_at, epoch_at}
use Rattle.packed_link.specs.declared.link.Life.{Life}
use Rattle.core_chain.specs.Chain.{ChainWord, Head}
use Rattle.core_chain.specs.Chain.{Next}
use Rattle.core_counts.specs.Spending.{AreFinished, GetsNone, GotOnly}
use Rattle.core_counts.proofs.KnownSpentNodes.{got_itself, got_begins, got_done, got_more}
use Rattle.core_journal.specs.declared.event.Kind.TheVariants.{FreezeHead, FreezeEdge, PushFree}
use Rattle.core_journal.specs.declared.event.Event.{Event}
use Rattle.core_journal.specs.Machine.{word_at}
use Rattle.core_journal.specs.State.{Fresh, state}
use Rattle.core_kept.specs.Freezing.{IsSpentVertex, IsFrozenWord}
use Rattle.core_kept.specs.Kept.{IsKept}
use Rattle.core_kept.specs.Nodes.{node_in, is_listed, IsFrozenToEnd, IsSpentWith}
use Rattle.core_lists.specs.Chains.{list_word}
use Rattle.core_lists.specs.FrozenPaths.{FrozenPath}
use Rattle.core_lists.proofs.ClosedHeadStays.{old_lists}
use Rattle.core_lists.proofs.FrozenPathIsList.{path_more}
use Rattle.core_lists.proofs.ListHoldsKept.{listing}
use Rattle.core_rule.specs.OwnEvents.{freeze_head_event, freeze_edge_event}
use Rattle.core_rule.specs.Retired.{IsRetired}
use Rattle.core_rule.specs.Views.{Spares, Steps}
use Rattle.core_rule.specs.declared.view.View.{View}
use Rattle.core_rule.proofs.OwnByView.{own_end_still, own_spent_still}
use Rattle.core_stretches.specs.Holdings.{IsHeldSpent, IsRetirable, IsUnlinkedVertex, HasGotOnly}
use Rattle.core_rule.specs.Stretches.{GivesNone, GivesOther}
use Rattle.core_stretches.specs.Makes.{Makes, marking}
use Rattle.core_stretches.proofs.HoldingsStay.{makes_got, makes_keeps, makes_retired}
use Rattle.core_stretches.proofs.MakesAddUp.{makes_chain}
use Rattle.core_stretches.proofs.MakesTell.{makes_later}
use Rattle.edge_list.specs.Freezing.{FrozenValue, IsFreezing, IsHeadClosed, IsHandedTo, IsFrozenWhole, KeepsFrozen}
use Rattle.edge_list.proofs.FrozenWords.{makes_frozen, makes_unlinked}
use Rattle.edge_list.proofs.HandedEdges.{all_handed, next_is_new, one_list}
use Rattle.epoch_limbo.specs.Limbos.{LimboValue, IsLimboOf, IsOut, IsRetiredInto, index_in}
use Rattle.epoch_limbo.proofs.LimboStays.{limbo_but, limbo_room, limbo_still_by_kind, limbo_to_end}
use Rattle.graph_table.specs.Tokens.{RipeValue}
use Rattle.graph_updates.specs.Burying.{FreezesOf, HasAllSpentBut, IsBuried, IsIn, IsToBury}
use Rattle.graph_updates.proofs.BurialLists.{among_first, among_left, among_right, contains_among, every_both}
use Rattle.graph_updates.proofs.BurialLists.{every_map, in_left, in_right, out_of}

-- an edge that was handed over: it's spent with the token, and no vertex
pub record IsSpentEdge (t : View) (r : RipeValue) : Type 0 where
  pub held : IsHeldSpent t r.life
  pub edge : (node_in t.sizes t.front (index_in r)).vertex ≡ false

-- the burial of a vertex, from the view at which it began
pub record IsBurying (v : View) (x : Life) (old now : LimboValue) (t : View) (f : FrozenValue) (edges : List RipeValue)
    (own : List Event) : Type 0 where
  pub from : f.from ≡ x
  pub freezing : IsFreezing t f
  pub makes : Makes v own t
  pub kinds : Every (FreezesOf v x (map index_in edges)) own
  pub path : FrozenPath t.sizes t.front x.index Head (map index_in edges) f.place
  pub are : Every (IsSpentEdge t) edges
  pub nodes : now.nodes ≡ old.nodes ++ edges
  pub room : now.room ≡ old.room
  pub limbo_of : IsLimboOf (Some x.index) t now.nodes
  pub got : HasAllSpentBut x.index v old.nodes → HasGotOnly v.front t (Some x.index) []

pub record Buries (v : View) (x : Life) (old now : LimboValue) (t : View) (f : FrozenValue) : Type 0 where
  pub edges : List RipeValue
  pub own : List Event
  pub is : IsBurying v x old now t f edges own

-- what a mark made is of a kind, where its event is
of_mark : (P : Event → Type 0) (event : ℕ → Event) (found : ℕ) → P (event found) → Every P (marking event found)
of_mark P event found p = by (mark_of found == 0)
  where
    by : (b : Bool) → Every P (cond b (event found ∷ []) [])
    by true = (p, tt)
    by false = tt

-- the steps of freezing give nothing back, and get no node but those of the list
gives_none : (e : Event) → (e.kind ≡ FreezeHead) ⊎ (e.kind ≡ FreezeEdge) → GivesNone e
gives_none e k = ⊎_elim (λ (is : e.kind ≡ FreezeHead). ((λ y. absurd (cc)), (λ y. absurd (cc))))
    (λ (is : e.kind ≡ FreezeEdge). ((λ y. absurd (cc)), (λ y. absurd (cc)))) k

gets_head : (v : View) (x : Life) (found : ℕ) → GetsNone (Some x.index) (freeze_head_event v x found)
gets_head v x found = record { unlinks = refl; closes = λ _. refl; gives = λ _ is. absurd (cc) }

gets_edge : (v : View) (x y : Life) (found : ℕ) (t : View) → GetsNone (Some x.index) (freeze_edge_event t y found)
gets_edge v x y found t = record { unlinks = refl; closes = λ is. absurd (cc); gives = λ _ is. absurd (cc) }

-- a path of frozen words stays
path_on : (x : Life) (t u : View) → u.sizes ≡ t.sizes → KeepsFrozen x t u → IsUnlinkedVertex t x → (p : ChainWord)
    (ys : List ℕ) (place : ℕ) → FrozenPath t.sizes t.front x.index p ys place
    → FrozenPath u.sizes u.front x.index p ys place
path_on x t u sizes k m p [] place h = ap (λ (s : Sizes). list_word s x.index p) sizes ∙ h
path_on x t u sizes k m p (d ∷ ds) place h =
    let at : list_word u.sizes x.index p ≡ list_word t.sizes x.index p = ap
    (λ (s : Sizes). list_word s x.index p) sizes in
    let here = list_word t.sizes x.index p in
    let w = k.each here (index_of (word_at t.sizes t.front here)) (record { vertex = m; word = h.0; leads = refl }) in (
      subst (λ (q : ℕ). IsFrozenWord u.sizes u.front x.index q) (sym at) w.0.word,
      ap
          (λ (q : ℕ). index_of (word_at u.sizes u.front q)) at ∙ (ap index_of w.1 ∙ h.1),
      h.2,
      path_on x t u sizes k m
          (Next d) ds place h.3,
    )

-- the edges that were handed over stay
edges_on : (t u : View) (own : List Event) → IsLayout t.sizes → Every GivesNone own → Makes t own u → (r : RipeValue)
    → IsSpentEdge t r → IsSpentEdge u r
edges_on t u own z every h r e = makes_keeps (λ (q : View). IsSpentEdge q r) GivesNone
    (λ a b z s p. one a b None z s tt p)
    (λ a b e z by s q p. one a b (Some e) z s (λ is. absurd (q.1 is)) p)
    t u own z every h e
  where
    one : (a b : View) (own : Option Event) → IsLayout a.sizes → (s : Steps a own b) → Spares
        (GivesOther (index_in r)) own → IsSpentEdge a r → IsSpentEdge b r
    one a b own z s spares p = let k = own_spent_still a b own z s r.life spares p.held.life p.held.spent in record
        { held = record { life = k.1; spent = k.0 }; edge = k.2 ∙ p.edge }

-- kinds for a longer list of edges
kinds_more : (v : View) (x : Life) (ys zs : List ℕ) (e : Event) → FreezesOf v x ys e → FreezesOf v x (ys ++ zs) e
kinds_more v x ys zs e f = ⊎_elim
    (λ (h : (e.kind ≡ FreezeHead) × (e.place ≡ second_at v.sizes x.index)). inl h)
    (λ (h : (e.kind ≡ FreezeEdge) × ((y : ℕ) × (stands_in ys y ≡ true) × (e.place ≡ link_at v.sizes y))). inr
    (h.0, (h.1.0, among_left ys zs h.1.0 h.1.1, h.1.2)))
    f

kind_of : (v : View) (x : Life) (ys : List ℕ) (e : Event) → FreezesOf v x ys e → (e.kind ≡ FreezeHead) ⊎
    (e.kind ≡ FreezeEdge)
kind_of v x ys e f = ⊎_elim
    (λ (h : (e.kind ≡ FreezeHead) × (e.place ≡ second_at v.sizes x.index)). inl h.0)
    (λ (h : (e.kind ≡ FreezeEdge) × ((y : ℕ) × (stands_in ys y ≡ true) × (e.place ≡ link_at v.sizes y))). inr h.0)
    f

no_push : (e : Event) → GivesNone e → e.kind ≢ PushFree
no_push e g = g.1

-- the list is closed at its head
pub buries_first : (v m : View) (x : Life) (old : LimboValue) (f : FrozenValue) → IsLayout v.sizes → IsToBury old v x
    → IsHeadClosed x v m f → Buries v x old old m f
buries_first v m x old f z h c =
    let own = marking (freeze_head_event v x) c.found in
    let gives : Every GivesNone own = of_mark GivesNone (freeze_head_event v x) c.found
    (gives_none (freeze_head_event v x c.found) (inl refl)) in
    let finished : HasAllSpentBut x.index v old.nodes → AreFinished v.sizes v.front v.number None = λ all. record {
      each = λ y _ spent closed. dite (ℕ_discrete y x.index)
          (λ is. absurd (let n = h.unclosed in let m : (state v.sizes v.front).frozen x.index ≡ true = ap
          (state v.sizes v.front).frozen (sym is) ∙ closed in cc))
          (λ ne. retired_list all y ne spent);
    } in
    let got : HasAllSpentBut x.index v old.nodes → HasGotOnly v.front v (Some x.index) [] = λ all.
    got_begins v.sizes v.front v.front v.number x.index []
    (got_itself v.sizes v.front v.number None (finished all) tt) h.vertex.spent in
    record {
      edges = [];
      own = own;
      is = record {
        from = c.from;
        freezing = c.freezing;
        makes = c.makes;
        kinds = of_mark (FreezesOf v x []) (freeze_head_event v x) c.found (inl (refl, refl));
        path = sym c.place;
        are = tt;
        nodes = sym (append-nil old.nodes);
        room = refl;
        limbo_of = limbo_still_by_kind (Some x.index) v m own z c.makes old.nodes
            (every_map GivesNone (λ (e : Event). e.kind ≢ PushFree) no_push own gives)
            (limbo_but (Some x.index) v old.nodes h.limbo_of);
        got = λ all. makes_got v m own z v.front (Some x.index) [] (of_mark (GetsNone (Some x.index))
            (freeze_head_event v x) c.found (gets_head v x c.found)) c.makes (got all);
      };
    }
  where
    find : (y : ℕ) (rs : List RipeValue) → IsIn rs y → Every (λ (r : RipeValue). IsRetired None v r.life r.stamp) rs
        → IsSpentVertex v.sizes v.front v.number y → IsFrozenToEnd v.sizes v.front y
    find y [] i e s = absurd (cc)
    find y (r ∷ rs) i e s = dite (ℕ_discrete (index_in r) y)
        (λ is. subst (IsFrozenToEnd v.sizes v.front) is (e.0.own_list
        (ap (λ (a : ℕ). (node_in v.sizes v.front a).vertex) is ∙ s.vertex)))
        (λ ne. find y rs (later ne i) e.1 s)
      where
        later : index_in r ≢ y → stands_in (index_in r ∷ map index_in rs) y ≡ true → stands_in (map index_in rs) y
            ≡ true
        later ne i = subst (λ (b : Bool). (b || stands_in (map index_in rs) y) ≡ true) (ne_eqb (index_in r) y ne) i

    retired_list : HasAllSpentBut x.index v old.nodes → (y : ℕ) → y ≢ x.index
        → IsSpentVertex v.sizes v.front v.number y → IsFrozenToEnd v.sizes v.front y
    retired_list all y ne s = find y old.nodes (all y (record { spent = s.spent; mine = s.mine }) ne) h.limbo_of.each s

-- no node of the limbo at the beginning is an edge that is handed over: such an edge stood on the list then, and the
-- list
-- wasn't frozen
out_of_old : (v m : View) (x y : Life) (own : List Event) (old : LimboValue) → IsLayout v.sizes → IsToBury old v x
    → Makes v own m → Every GivesNone own → is_listed (state m.sizes m.front) x.index y.index ≡ true →
    (rs : List RipeValue) → Every (λ (r : RipeValue). IsRetired None v r.life r.stamp) rs → IsOut y.index rs
out_of_old v m x y own old z h makes every on [] e = tt
out_of_old v m x y own old z h makes every on (r ∷ rs) e = (other, out_of_old v m x y own old z h makes every on rs e.1)
  where
    other : index_in r ≢ y.index
    other same =
        let later = makes_later v m own makes in
        let still = makes_retired v m own z None r.life r.stamp
        (every_map GivesNone (GivesOther (index_in r)) (λ e g is. absurd (g.1 is)) own every) makes e.0 in
        let kept : IsKept v.sizes m.front = subst (λ (s : Sizes). IsKept s m.front) later.sizes later.kept in
        let unfresh : (node_in v.sizes v.front (index_in r)).mode ≢ Fresh = λ f. let n = e.0.stamped.spent.spent in
        absurd (cc) in
        let tag : (node_in v.sizes m.front (index_in r)).tag ≡ (node_in v.sizes v.front (index_in r)).tag = ap
        (λ (s : Sizes). (node_in s m.front (index_in r)).tag) (sym later.sizes) ∙
        (sym still.life.tag ∙ e.0.life.tag) in
        let here : is_listed (state v.sizes m.front) x.index (index_in r) ≡ true = ap
        (λ (s : Sizes). is_listed (state s m.front) x.index (index_in r)) (sym later.sizes) ∙
        (ap (is_listed (state m.sizes m.front) x.index) same ∙ on) in
        let was = (old_lists v.sizes z (index_in r) v.front m.front later.grows kept unfresh tag x.index here).0 in
        let closed = (e.0.list x.index (λ b. b) h.vertex.life.there was).head in
        let open_ = h.unclosed in
        absurd (cc)

-- a limbo has room for a node that isn't in it, where it has room for all nodes
room_in : (but : Option ℕ) (v t m : View) (x : Life) (old now : LimboValue) (y : Life) → m.sizes ≡ v.sizes
    → IsKept m.sizes m.front → IsToBury old v x → now.room ≡ old.room → IsLimboOf but m now.nodes → IsHeldSpent m y
    → IsOut y.index now.nodes → length now.nodes < now.room
room_in but v t m x old now y sizes kept h room limbo held out =
    let few = limbo_room but m now.nodes y kept limbo held out in
    let all = h.room in
    let same : m.sizes.nodes ≡ v.sizes.nodes = ap (λ (s : Sizes). s.nodes) sizes in
    omega (arith, few, all, same, room)

-- what is ready for the next edge to be retired: the limbo is of the token, and the edge isn't in it
pub record MayRetireNext (x y : Life) (now : LimboValue) (m : View) : Type 0 where
  pub limbo_of : IsLimboOf (Some x.index) m now.nodes
  pub out : IsOut y.index now.nodes
  pub room : length now.nodes < now.room

pub ready_next : (v t m : View) (x y : Life) (old now : LimboValue) (f g : FrozenValue) → IsLayout v.sizes
    → IsLayout t.sizes → IsLayout m.sizes → IsToBury old v x → Buries v x old now t f → IsHandedTo f t m y g
    → MayRetireNext x y now m
ready_next v t m x y old now f g z zt zm h b d =
    let edges = b.edges in
    let own = b.own in
    let s = b.is in
    let step = marking (freeze_edge_event t y) d.found in
    let gives : Every GivesNone step = of_mark GivesNone (freeze_edge_event t y) d.found
    (gives_none (freeze_edge_event t y d.found) (inr refl)) in
    let own_gives : Every GivesNone own = every_map (FreezesOf v x (map index_in edges)) GivesNone
    (λ e k. gives_none e (kind_of v x (map index_in edges) e k)) own s.kinds in
    let second = makes_later t m step d.makes in
    let to_m : Makes v (own ++ step) m = makes_chain v t m own step s.makes d.makes in
    let gives_m : Every GivesNone (own ++ step) = every_both GivesNone own step own_gives gives in
    let listed : is_listed (state m.sizes m.front) x.index y.index ≡ true = subst
    (λ (l : Life). is_listed (state m.sizes m.front) l.index y.index ≡ true) s.from d.listed in
    let kept : IsKept m.sizes m.front = second.kept in
    let vertex_t : IsUnlinkedVertex t x = subst (λ (l : Life). IsUnlinkedVertex t l) s.from s.freezing.vertex in
    let vertex_m = makes_unlinked t m step zt x gives d.makes vertex_t in
    let path_m = path_on x t m second.sizes (makes_frozen t m step zt x gives d.makes) vertex_t Head
    (map index_in edges) f.place s.path in
    let there : y.index < m.sizes.nodes = d.held.life.there in
    let fresh_ = next_is_new m.sizes zm m.front kept x.index vertex_m.list
    (map index_in edges) f.place y.index path_m d.leads (λ e. omega (arith, e, there, zm.few_nodes)) in
    let out_old = out_of_old v m x y (own ++ step) old z h to_m gives_m listed old.nodes h.limbo_of.each in
    let out : IsOut y.index now.nodes = subst (IsOut y.index) (sym s.nodes)
    (every_both (λ (q : RipeValue). index_in q ≢ y.index) old.nodes edges out_old (out_of y.index edges fresh_)) in
    let limbo_m = limbo_still_by_kind (Some x.index) t m step zt d.makes now.nodes
    (every_map GivesNone (λ (e : Event). e.kind ≢ PushFree) no_push step gives) s.limbo_of in
    record {
      limbo_of = limbo_m;
      out = out;
      room = room_in (Some x.index) v t m x old now y (makes_later v m (own ++ step) to_m).sizes kept h s.room limbo_m
          d.held out;
    }

-- an edge is handed over and retired
pub buries_next : (v t m u : View) (x y : Life) (old now new : LimboValue) (f g : FrozenValue) → IsLayout v.sizes
    → IsLayout t.sizes → IsLayout m.sizes → IsLayout u.sizes → IsToBury old v x → Buries v x old now t f
    → IsHandedTo f t m y g → Makes m [] u → IsRetiredInto now new m u y → Buries v x old new u g
buries_next v t m u x y old now new f g z zt zm zu h b d look r =
    let edges = b.edges in
    let own = b.own in
    let s = b.is in
    let step = marking (freeze_edge_event t y) d.found in
    let gives : Every GivesNone step = of_mark GivesNone (freeze_edge_event t y) d.found
    (gives_none (freeze_edge_event t y d.found) (inr refl)) in
    let first = makes_later v t own s.makes in
    let second = makes_later t m step d.makes in
    let third = makes_later m u [] look in
    let to_m : Makes v (own ++ step) m = makes_chain v t m own step s.makes d.makes in
    let ripe : RipeValue = record { life = y; stamp = word_at u.sizes u.front (epoch_at u.sizes) } in
    let listed : is_listed (state m.sizes m.front) x.index y.index ≡ true = subst
    (λ (l : Life). is_listed (state m.sizes m.front) l.index y.index ≡ true) s.from d.listed in
    let kept : IsKept m.sizes m.front = second.kept in
    let vertex_t : IsUnlinkedVertex t x = subst (λ (l : Life). IsUnlinkedVertex t l) s.from s.freezing.vertex in
    let vertex_m = makes_unlinked t m step zt x gives d.makes vertex_t in
    let vertex_u = makes_unlinked m u [] zm x tt look vertex_m in
    let frozen_m = makes_frozen t m step zt x gives d.makes in
    let frozen_u = makes_frozen m u [] zm x tt look in
    let path_m = path_on x t m second.sizes frozen_m vertex_t Head (map index_in edges) f.place s.path in
    let there : y.index < m.sizes.nodes = d.held.life.there in
    let some : y.index ≢ nowhere = λ e. omega (arith, e, there, zm.few_nodes) in
    let ready = ready_next v t m x y old now f g z zt zm h b d in
    let edge = d.edge in
    let retirable : IsRetirable (Some x.index) m y = record {
      held = d.held;
      own_list = λ vertex. absurd (cc);
      list = λ w other low on. absurd (other (one_list m.sizes zm m.front kept x.index w y.index listed on));
    } in
    let word_f : IsFreezing m (record { from = x; place = f.place; next = f.next }) =
    (frozen_m.each f.place f.next (subst (λ (l : Life). IsFreezing t
    (record { from = l; place = f.place; next = f.next })) s.from s.freezing)).0 in
    let word_u = frozen_u.each f.place f.next word_f in
    let path_u = path_on x m u third.sizes frozen_u vertex_m Head (map index_in edges) f.place path_m in
    let longer = path_more u.sizes u.front x.index Head (map index_in edges) f.place y.index path_u word_u.0.word
    (ap index_of word_u.1 ∙ d.leads) some in
    let indices : map index_in (edges ++ ripe ∷ []) ≡ map index_in edges ++ y.index ∷ [] = map-append index_in edges
    (ripe ∷ []) in
    let place : link_at u.sizes y.index ≡ g.place = ap (λ (q : Sizes). link_at q y.index) third.sizes ∙ sym d.place in
    let event_kind : FreezesOf v x (map index_in edges ++ y.index ∷ []) (freeze_edge_event t y d.found) = inr (
      refl,
      (
        y.index,
        among_right (map index_in edges) (y.index ∷ []) y.index (among_first [] y.index),
        ap
            (λ (q : Sizes). link_at q y.index) first.sizes,
      ),
    ) in
    let kinds_step : Every (FreezesOf v x (map index_in edges ++ y.index ∷ [])) step = of_mark
    (FreezesOf v x (map index_in edges ++ y.index ∷ [])) (freeze_edge_event t y) d.found event_kind in
    let kinds_own : Every (FreezesOf v x (map index_in edges ++ y.index ∷ [])) own = every_map
    (FreezesOf v x (map index_in edges)) (FreezesOf v x (map index_in edges ++ y.index ∷ []))
    (kinds_more v x (map index_in edges) (y.index ∷ [])) own s.kinds in
    let from_g : g.from ≡ x = d.from ∙ s.from in
    let freezing_u = frozen_u.each g.place g.next (subst (λ (l : Life). IsFreezing m
    (record { from = l; place = g.place; next = g.next })) from_g d.freezing) in
    let gets : Every (GetsNone (Some x.index)) step = of_mark (GetsNone (Some x.index)) (freeze_edge_event t y) d.found
    (gets_edge v x y d.found t) in
    record {
      edges = edges ++ ripe ∷ [];
      own = (own ++ step) ++ [];
      is = record {
        from = from_g;
        freezing = subst (λ (l : Life). IsFreezing u (record { from = l; place = g.place; next = g.next }))
            (sym from_g) freezing_u.0;
        makes = makes_chain v m u (own ++ step) [] to_m look;
        kinds = subst (λ (l : List ℕ). Every (FreezesOf v x l) ((own ++ step) ++ [])) (sym indices)
            (every_both (FreezesOf v x (map index_in edges ++ y.index ∷ [])) (own ++ step) []
            (every_both (FreezesOf v x (map index_in edges ++ y.index ∷ [])) own step kinds_own kinds_step) tt);
        path = subst (λ (l : List ℕ). FrozenPath u.sizes u.front x.index Head l g.place) (sym indices)
            (subst (FrozenPath u.sizes u.front x.index Head (map index_in edges ++ y.index ∷ [])) place longer);
        are = every_both (IsSpentEdge u) edges (ripe ∷ [])
            (every_map (IsSpentEdge t) (IsSpentEdge u) (λ q e. edges_on m u [] zm tt look q
            (edges_on t m step zt gives d.makes q e)) edges s.are)
            (edges_on m u [] zm tt look ripe (record { held = d.held; edge = d.edge }), tt);
        nodes = r.nodes ∙ (ap (λ (l : List RipeValue). l ++ ripe ∷ []) s.nodes ∙ append_assoc old.nodes edges
            (ripe ∷ []));
        room = r.room ∙ s.room;
        limbo_of = r.limbo (Some x.index) ready.limbo_of retirable ready.out;
        got = λ all. makes_got m u [] zm v.front (Some x.index) [] tt look
            (makes_got t m step zt v.front (Some x.index) [] gets d.makes (s.got all));
      };
    }

-- at the end of the list: the limbo is of the token, and the vertex may be retired
pub record IsLast (x : Life) (now : LimboValue) (m : View) (edges : List RipeValue) : Type 0 where
  pub limbo_of : IsLimboOf None m now.nodes
  pub retirable : IsRetirable None m x
  pub out : IsOut x.index now.nodes
  pub room : length now.nodes < now.room
  pub are : Every (IsSpentEdge m) edges

no_vertex : (m : View) (x : Life) → (node_in m.sizes m.front x.index).vertex ≡ true → (rs : List RipeValue) → Every
    (IsSpentEdge m) rs → IsOut x.index rs
no_vertex m x vertex [] e = tt
no_vertex m x vertex (r ∷ rs) e = (
  (λ same. let f = e.0.edge in let g :
      (node_in m.sizes m.front (index_in r)).vertex ≡ true = ap (λ (i : ℕ). (node_in m.sizes m.front i).vertex) same
      ∙ vertex in absurd (cc)),
  no_vertex m x vertex rs e.1,
)

pub ready_last : (v t m : View) (x : Life) (old now : LimboValue) (f g : FrozenValue) → IsLayout v.sizes
    → IsLayout t.sizes → IsLayout m.sizes → IsToBury old v x → (b : Buries v x old now t f) → IsFrozenWhole f t m g
    → IsLast x now m b.edges
ready_last v t m x old now f g z zt zm h b d =
    let edges = b.edges in
    let s = b.is in
    let later = makes_later t m [] d.makes in
    let whole : IsFrozenToEnd m.sizes m.front x.index = subst
    (λ (l : Life). IsFrozenToEnd m.sizes m.front l.index) s.from d.whole in
    let vertex_t : IsUnlinkedVertex t x = subst (λ (l : Life). IsUnlinkedVertex t l) s.from s.freezing.vertex in
    let vertex_m = makes_unlinked t m [] zt x tt d.makes vertex_t in
    let limbo = limbo_to_end x.index m now.nodes whole (limbo_still_by_kind
    (Some x.index) t m [] zt d.makes now.nodes tt s.limbo_of) in
    let are = every_map (IsSpentEdge t) (IsSpentEdge m) (λ q e. edges_on t m [] zt tt d.makes q e) edges s.are in
    let held : IsHeldSpent m x = record {
      life = vertex_m.life;
      spent = record
          { spent = vertex_m.spent.spent; mine = vertex_m.spent.mine };
    } in
    let out : IsOut x.index now.nodes = subst (IsOut x.index) (sym s.nodes)
    (every_both (λ (q : RipeValue). index_in q ≢ x.index) old.nodes edges h.out
    (no_vertex m x vertex_m.spent.vertex edges are)) in
    record {
      limbo_of = limbo;
      retirable = record {
        held = held;
        own_list = λ _. whole;
        list = λ w other low on. absurd (let e = ((listing m.sizes zm m.front later.kept).on w x.index on).edge in let f
            = vertex_m.spent.vertex in cc);
      };
      out = out;
      room = room_in None v t m x old now x (later.sizes ∙ (makes_later v t b.own s.makes).sizes) later.kept h s.room
          limbo held out;
      are = are;
    }

-- that a token got these nodes too says no more
got_all : (from : List Event) (u : View) (but : Option ℕ) (ys : List ℕ) → HasGotOnly from u but []
    → HasGotOnly from u but ys
got_all from u but [] g = g
got_all from u but (y ∷ ys) g = got_more u.sizes from u.front u.number y but ys (got_all from u but ys g)

-- a node that is spent with the token is in the limbo: it was before, or it's one of the edges, or the vertex
in_limbo : (v u : View) (x : Life) (old : LimboValue) (edges : List RipeValue) (ripe : RipeValue)
    → HasAllSpentBut x.index v old.nodes → u.sizes ≡ v.sizes → u.number ≡ v.number → ripe.life ≡ x → (y : ℕ) →
    (IsSpentWith u.sizes v.front u.number y ⊎ (stands_in (map index_in edges) y ≡ true)) ⊎ ⊥ → IsIn
    (old.nodes ++ (edges ++ ripe ∷ [])) y
in_limbo v u x old edges ripe all sizes number is y k = ⊎_elim
    (λ (a : IsSpentWith u.sizes v.front u.number y ⊎ (stands_in (map index_in edges) y ≡ true)). ⊎_elim
    (λ (b : IsSpentWith u.sizes v.front u.number y).
    let b' : IsSpentWith v.sizes v.front v.number y = subst (λ (s : Sizes). IsSpentWith s v.front v.number y) sizes
    (subst (λ (n : ℕ). IsSpentWith u.sizes v.front n y) number b) in
    dite (ℕ_discrete y x.index)
    (λ same. in_right old.nodes (edges ++ ripe ∷ []) y (in_right edges (ripe ∷ []) y
    (subst (λ (i : ℕ). stands_in (index_in ripe ∷ []) i ≡ true) (ap (λ (l : Life). l.index) is ∙ sym same)
    (among_first [] (index_in ripe)))))
    (λ ne. in_left old.nodes (edges ++ ripe ∷ []) y (all y b' ne)))
    (λ (c : stands_in (map index_in edges) y ≡ true). in_right old.nodes (edges ++ ripe ∷ []) y
    (in_left edges (ripe ∷ []) y c))
    a)
    (λ (b : ⊥). absurd b)
    k

-- the vertex is retired: it's buried
pub buried : (v t m u : View) (x : Life) (old now new : LimboValue) (f g : FrozenValue) → IsLayout v.sizes
    → IsLayout t.sizes → IsLayout m.sizes → IsLayout u.sizes → IsToBury old v x → Buries v x old now t f
    → IsFrozenWhole f t m g → Makes m [] u → IsRetiredInto now new m u x → IsBuried old new v u x
buried v t m u x old now new f g z zt zm zu h b d look r =
    let edges = b.edges in
    let own = b.own in
    let s = b.is in
    let last = ready_last v t m x old now f g z zt zm h b d in
    let whole : IsFrozenToEnd m.sizes m.front x.index = subst
    (λ (l : Life). IsFrozenToEnd m.sizes m.front l.index) s.from d.whole in
    let vertex_t : IsUnlinkedVertex t x = subst (λ (l : Life). IsUnlinkedVertex t l) s.from s.freezing.vertex in
    let vertex_m = makes_unlinked t m [] zt x tt d.makes vertex_t in
    let whole_u = own_end_still m u None zm look.steps x.index vertex_m.life.there tt last.retirable.held.spent whole in
    let vertex_u = makes_unlinked m u [] zm x tt look vertex_m in
    let third = makes_later m u [] look in
    let path_m = path_on x t m (makes_later t m [] d.makes).sizes (makes_frozen t m [] zt x tt d.makes) vertex_t Head
    (map index_in edges) f.place s.path in
    let frozen_u = makes_frozen m u [] zm x tt look in
    let path_u = path_on x m u third.sizes frozen_u vertex_m Head (map index_in edges) f.place path_m in
    let freezing_m : IsFreezing m (record { from = x; place = f.place; next = f.next }) =
    ((makes_frozen t m [] zt x tt d.makes).each f.place f.next (subst (λ (l : Life). IsFreezing t
    (record { from = l; place = f.place; next = f.next })) s.from s.freezing)).0 in
    let leads_u : index_of (word_at u.sizes u.front f.place) ≡ nowhere = ap index_of
    (frozen_u.each f.place f.next freezing_m).1 ∙ d.leads in
    let got_m : HasAllSpentBut x.index v old.nodes → HasGotOnly v.front m (Some x.index) [] = λ all.
    makes_got t m [] zt v.front (Some x.index) [] tt d.makes (s.got all) in
    let got_u : HasAllSpentBut x.index v old.nodes → HasGotOnly v.front u (Some x.index) [] = λ all.
    makes_got m u [] zm v.front (Some x.index) [] tt look (got_m all) in
    let known : HasAllSpentBut x.index v old.nodes → GotOnly u.sizes v.front u.front u.number None
    (map index_in edges) = λ all. got_done u.sizes v.front u.front u.number x.index (map index_in edges)
    (got_all v.front u (Some x.index) (map index_in edges) (got_u all)) whole_u
    (λ y on. contains_among (map index_in edges) y (all_handed u.sizes zu u.front third.kept x.index vertex_u.list
    (map index_in edges) f.place path_u leads_u y on)) in
    let ripe : RipeValue = record { life = x; stamp = word_at u.sizes u.front (epoch_at u.sizes) } in
    let nodes : new.nodes ≡ old.nodes ++ (edges ++ ripe ∷ []) = r.nodes ∙
    (ap (λ (l : List RipeValue). l ++ ripe ∷ []) s.nodes ∙ append_assoc old.nodes edges (ripe ∷ [])) in
    let to_u = makes_later v u (own ++ ([] ++ [])) (makes_chain v t u own ([] ++ []) s.makes
    (makes_chain t m u [] [] d.makes look)) in
    record {
      edges = edges;
      stamp = word_at u.sizes u.front (epoch_at u.sizes);
      nodes = nodes;
      are_edges = every_map (IsSpentEdge m) (λ (q : RipeValue). (node_in u.sizes u.front (index_in q)).vertex ≡ false)
          (λ q e. (edges_on m u [] zm tt look q e).edge) edges last.are;
      own = own ++ ([] ++ []);
      kinds = every_both (FreezesOf v x (map index_in edges)) own [] s.kinds tt;
      makes = makes_chain v t u own ([] ++ []) s.makes (makes_chain t m u [] [] d.makes look);
      frozen = whole_u;
      limbo_of = r.limbo None last.limbo_of last.retirable last.out;
      all = λ all y spent. subst (λ (l : List RipeValue). IsIn l y) (sym nodes)
          (in_limbo v u x old edges ripe all to_u.sizes to_u.number refl y ((known all).old y spent));
      room = r.room ∙ s.room;
    }
