-- A list under freezing: where its frozen words lead, and how its next edge is handed over.
use Rattle.std.proofs.Common.{◌≡◌, ◌≢◌, ◌⊎◌, ◌==◌, ℕ, zero, suc, ◌<◌, Bool, true, false, cond, List, [], ◌∷◌, ◌++◌}
use Rattle.std.proofs.Common.{append-nil, None, Some, inl, inr, refl, sym, ap, ◌∙◌, subst, arith, ⊎_elim}
use Rattle.packed_link.specs.Link.{index_of, mark_of, tag_of, mark_bit, with_mark, nowhere}
use Rattle.packed_link.specs.Layout.{Sizes, IsLayout, link_at, second_at}
use Rattle.packed_link.specs.declared.link.Life.{Life}
use Rattle.core_journal.specs.declared.event.Event.{Event}
use Rattle.core_journal.specs.Machine.{word_at}
use Rattle.core_journal.specs.State.{state}
use Rattle.core_lists.specs.Chains.{life_in}
use Rattle.core_kept.specs.Freezing.{IsFrozenWord}
use Rattle.core_kept.specs.Kept.{IsKept}
use Rattle.core_kept.specs.Nodes.{node_in, is_frozen, is_listed}
use Rattle.core_kept.proofs.Contents.{contents}
use Rattle.core_kept.proofs.LinkWords.{used_link}
use Rattle.core_lists.proofs.EventKeepsRest.{event_life, written}
use Rattle.core_lists.proofs.FrozenToEndIsList.{edge_on, kept_leads}
use Rattle.core_lists.proofs.ListHoldsKept.{listing}
use Rattle.core_rule.specs.Fronts.{MayFreezeEdge}
use Rattle.core_rule.specs.OwnEvents.{freeze_head_event, freeze_edge_event}
use Rattle.core_rule.specs.Plays.{IsSound, Looked}
use Rattle.core_rule.specs.Views.{Steps}
use Rattle.core_rule.specs.declared.view.View.{View}
use Rattle.core_rule.proofs.FoundMarkedIsSpent.{found_at}
use Rattle.core_rule.proofs.FreezeLifts.{edge_behind}
use Rattle.core_rule.proofs.FrozenWordStays.{head_frozen_word}
use Rattle.core_rule.proofs.ViewShows.{look_steps, win_steps, step_view}
use Rattle.core_stretches.specs.Holdings.{IsUnlinkedVertex}
use Rattle.core_stretches.specs.Makes.{Makes, marking}
use Rattle.core_stretches.proofs.MakesAddUp.{makes_look, makes_won}
use Rattle.graph_table.specs.Table.{MatchMark}
use Rattle.edge_list.specs.Freezing.{FrozenValue, IsFreezing, IsHeadClosed, IsHandedTo}
use Rattle.edge_list.proofs.FrozenWords.{makes_word, vertex_on}

-- a mark is 0 or 1
bit : (x : ℕ) → (mark_of x ≡ 0) ⊎ (mark_of x ≡ 1)
bit x = by (mark_of x) (omega arith)
  where
    by : (n : ℕ) → n < 2 → (n ≡ 0) ⊎ (n ≡ 1)
    by zero h = inl refl
    by (suc zero) h = inr refl
    by (suc (suc n)) h = absurd (omega (arith, h))

set : (b : Bool) → mark_bit b ≡ 1 → b ≡ true
set true h = refl
set false h = absurd (omega (arith, h))

-- the mark that was set, and the word beside it
mark_set : (x : ℕ) → mark_of (with_mark x) ≡ 1
mark_set x = omega arith

index_stays : (x : ℕ) → index_of (with_mark x) ≡ index_of x
index_stays x = omega arith

-- a word is as the token's last event wrote it
word_won : (v w : View) (e : Event) → Steps v (Some e) w → word_at w.sizes w.front e.place ≡ e.word
word_won v w e t =
    let kept : IsKept v.sizes (t.grown ++ e ∷ []) = subst (λ (j : List Event). IsKept v.sizes j) t.front t.kept in
    let sizes = (step_view v w (Some e) t).0 in
    ap (λ (q : Sizes). word_at q w.front e.place) sizes ∙
    (ap (λ (j : List Event). word_at v.sizes j e.place) t.front ∙ written v.sizes t.grown e kept)

-- what a mark made
makes_marking : (v w : View) (place found : ℕ) (event : ℕ → Event) → v.numbered ≡ true → IsSound v →
    (event found).caller ≡ v.number → MatchMark v place found (event found) w → Makes v (marking event found) w
makes_marking v w place found event has s by m = ⊎_elim
    (λ (live : mark_of found ≡ 0). subst (λ (n : ℕ). Makes v (cond (n == 0) (event found ∷ []) []) w) (sym live)
    (makes_won v w place found (event found) has s by (m.won live)))
    (λ (dead : mark_of found ≡ 1). subst (λ (n : ℕ). Makes v (cond (n == 0) (event found ∷ []) []) w) (sym dead)
    (makes_look v w place found has s (m.was dead)))
    (bit found)

-- the head is closed
pub head_closed : (v w : View) (x : Life) (f : FrozenValue) (place found : ℕ) → IsLayout v.sizes → IsLayout w.sizes
    → v.numbered ≡ true → IsSound v → IsUnlinkedVertex v x → place ≡ second_at v.sizes x.index
    → f ≡ record { from = x; place = place; next = index_of found }
    → MatchMark v place found (freeze_head_event v x found) w
    → IsHeadClosed x v w f
head_closed v w x f place found z z' has s u at is marked =
    let sizes_at : (own : Event) → Steps v (Some own) w → w.sizes ≡ v.sizes = λ own t. (step_view v w (Some own) t).0 in
    let made = makes_marking v w place found (freeze_head_event v x) has s refl marked in
    let from : f.from ≡ x = ap (λ (g : FrozenValue). g.from) is in
    ⊎_elim
    (λ (live : mark_of found ≡ 0).
    let e = freeze_head_event v x found in
    let t = win_steps v place found e w has s (marked.won live) in
    let kept : IsKept v.sizes (t.grown ++ e ∷ []) = subst (λ (j : List Event). IsKept v.sizes j) t.front t.kept in
    let h = head_frozen_word v.sizes t.grown e kept refl in
    let u' = vertex_on v w (Some e) z t (λ y. absurd (cc), λ y. absurd (cc)) x u in
    let word : IsFrozenWord v.sizes w.front x.index (second_at v.sizes x.index) = subst
    (λ (j : List Event). IsFrozenWord v.sizes j x.index (second_at v.sizes x.index)) (sym t.front) h.1 in
    let sizes = (step_view v w (Some e) t).0 in
    let now : word_at w.sizes w.front place ≡ with_mark found = ap (word_at w.sizes w.front) at ∙ word_won v w e t in
    let here : IsFreezing w (record { from = x; place = place; next = index_of found }) = record {
      vertex = u';
      word = subst (λ (p : ℕ). IsFrozenWord w.sizes w.front x.index p) (sym at)
          (subst (λ (q : Sizes). IsFrozenWord q w.front x.index (second_at v.sizes x.index)) (sym sizes) word);
      leads = sym (ap index_of now ∙ index_stays found);
    } in
    record {
      from = from;
      place = ap (λ (g : FrozenValue). g.place) is ∙ (at ∙ ap (λ (q : Sizes). second_at q x.index) (sym sizes));
      found = found;
      makes = made;
      freezing = subst (IsFreezing w) (sym is) here;
    })
    (λ (dead : mark_of found ≡ 1).
    let l = marked.was dead in
    let t = look_steps v place found w has s l in
    let u' = vertex_on v w None z t tt x u in
    let sizes = (step_view v w None t).0 in
    let c = ((contents w.sizes z' w.front l.sound.kept).each x.index u'.life.there).vertex u'.list.used u'.spent.vertex
    in
    let word : found ≡ word_at w.sizes w.front (second_at w.sizes x.index) = l.word ∙
    (ap (word_at v.sizes w.front) at ∙ ap (λ (q : Sizes). word_at q w.front (second_at q x.index)) (sym sizes)) in
    let closed : (state w.sizes w.front).frozen x.index ≡ true = set ((state w.sizes w.front).frozen x.index)
    (sym c.second_mark ∙ (ap mark_of (sym word) ∙ dead)) in
    let here : IsFreezing w (record { from = x; place = place; next = index_of found }) = record {
      vertex = u';
      word = record {
        head = closed;
        at = inl
            (at ∙ ap (λ (q : Sizes). second_at q x.index) (sym sizes));
      };
      leads = ap index_of (l.word ∙ ap (λ (q : Sizes). word_at q w.front place) (sym sizes));
    } in
    record {
      from = from;
      place = ap (λ (g : FrozenValue). g.place) is ∙ (at ∙ ap (λ (q : Sizes). second_at q x.index) (sym sizes));
      found = found;
      makes = made;
      freezing = subst (IsFreezing w) (sym is) here;
    })
    (bit found)

-- where the last frozen word leads somewhere, it leads to an edge of the list
pub record IsNextEdge (v : View) (f : FrozenValue) : Type 0 where
  pub on : is_listed (state v.sizes v.front) f.from.index f.next ≡ true
  pub there : f.next < v.sizes.nodes

pub next_edge : (v : View) (f : FrozenValue) → IsLayout v.sizes → IsKept v.sizes v.front → IsFreezing v f
    → f.next ≢ nowhere → IsNextEdge v f
next_edge v f z kept h some =
    let on : is_listed (state v.sizes v.front) f.from.index f.next ≡ true = ⊎_elim
    (λ (none : index_of (word_at v.sizes v.front f.place) ≡ nowhere). absurd (some (h.leads ∙ none)))
    (λ (o : is_listed (state v.sizes v.front) f.from.index (index_of (word_at v.sizes v.front f.place)) ≡ true). subst
    (λ (i : ℕ). is_listed (state v.sizes v.front) f.from.index i ≡ true) (sym h.leads) o)
    (kept_leads v.sizes z v.front kept f.from.index f.place h.vertex.list h.word) in
    record { on = on; there = ((listing v.sizes z v.front kept).on f.from.index f.next on).there }

-- the link of that edge, loaded then, tells its life
pub may_freeze : (v w : View) (f : FrozenValue) (at link tag : ℕ) → IsLayout v.sizes → IsLayout w.sizes
    → v.numbered ≡ true → IsSound v → IsFreezing v f → f.next ≢ nowhere → Looked v at link w
    → at ≡ link_at v.sizes f.next → tag ≡ tag_of link
    → IsFreezing w f × MayFreezeEdge w f.from f.place (record { index = f.next; tag = tag })
may_freeze v w f at link tag z z' has s h some l at_is tag_is =
    let f' = (makes_word v w [] z f tt (makes_look v w at link has s l) h).0 in
    let sizes = (step_view v w None (look_steps v at link w has s l)).0 in
    let n = next_edge w f z' l.sound.kept f' some in
    let used = (f'.vertex.list.edges (life_in w.sizes w.front f.next)
    (edge_on w.sizes z' w.front l.sound.kept f.from.index f.next n.on)).used in
    let told_tag : tag_of link ≡ (node_in w.sizes w.front f.next).tag = ap tag_of
    (l.word ∙ (ap (word_at v.sizes w.front) at_is ∙ ap (λ (q : Sizes). word_at q w.front (link_at q f.next))
    (sym sizes))) ∙ (used_link w.sizes z' w.front l.sound.kept f.next n.there used).0 in (
      f',
      record {
        life = f'.vertex.life;
        spent = f'.vertex.spent;
        list = f'.vertex.list;
        frozen = f'.word;
        edge = record { there = n.there; tag = tag_is ∙ told_tag };
        leads = sym f'.leads;
      },
    )

-- the link of a node is a frozen word where the node is of the frozen part alone
part_of : (sizes : Sizes) (j : List Event) (x y : ℕ) → ((link_at sizes y ≡ second_at sizes x) ⊎
    ((i : ℕ) × (is_frozen (state sizes j) x i ≡ true) × (link_at sizes y ≡ link_at sizes i))) → is_frozen
    (state sizes j) x y ≡ true
part_of sizes j x y at = ⊎_elim
    (λ (h : link_at sizes y ≡ second_at sizes x). absurd (omega (arith, h)))
    (λ (h : (i : ℕ) × (is_frozen (state sizes j) x i ≡ true) × (link_at sizes y ≡ link_at sizes i)). let same : h.0 ≡ y
    = omega (arith, h.2) in subst (λ (i : ℕ). is_frozen (state sizes j) x i ≡ true) same h.1)
    at

link_word_won : (v w : View) (x : Life) (found : ℕ) → Steps v (Some (freeze_edge_event v x found)) w
    → word_at w.sizes w.front (link_at w.sizes x.index) ≡ with_mark found
link_word_won v w x found t =
    let e = freeze_edge_event v x found in
    ap (λ (q : Sizes). word_at w.sizes w.front (link_at q x.index)) (step_view v w (Some e) t).0 ∙ word_won v w e t

-- a marked edge to which the frozen word leads is handed over
told : (v w : View) (f new : FrozenValue) (x : Life) (place found : ℕ) → IsLayout w.sizes → IsKept w.sizes w.front
    → Makes v (marking (freeze_edge_event v x) found) w → IsFreezing w f → index_of
    (word_at w.sizes w.front f.place) ≡ x.index → x.index < w.sizes.nodes → x.tag ≡
    (node_in w.sizes w.front x.index).tag → place ≡ link_at w.sizes x.index → (word : ℕ)
    → word_at w.sizes w.front (link_at w.sizes x.index) ≡ word → mark_of word ≡ 1 → index_of word ≡ index_of found
    → new ≡ record { from = f.from; place = place; next = index_of found } → IsHandedTo f v w x new
told v w f new x place found z k made h leads there life at word word_is marked same is =
    let dead = ap mark_of word_is ∙ marked in
    let r = found_at w.sizes z w.front k w.number f.from.index f.place h.vertex.spent h.vertex.list h.word x.index leads
    (λ e. omega (arith, e, there, z.few_nodes)) dead in
    let n = next_edge w f z k h (λ e. omega (arith, e, h.leads, leads, there, z.few_nodes)) in
    let on : is_listed (state w.sizes w.front) f.from.index x.index ≡ true = subst
    (λ (i : ℕ). is_listed (state w.sizes w.front) f.from.index i ≡ true) (h.leads ∙ leads) n.on in
    let here : IsFreezing w (record { from = f.from; place = place; next = index_of found }) = record {
      vertex = h.vertex;
      word = subst (λ (p : ℕ). IsFrozenWord w.sizes w.front f.from.index p) (sym at) r.1;
      leads = sym (ap (λ (p : ℕ). index_of (word_at w.sizes w.front p)) at ∙ (ap index_of word_is ∙ same));
    } in
    record {
      from = ap (λ (g : FrozenValue). g.from) is;
      leads = leads;
      place = ap (λ (g : FrozenValue). g.place) is ∙ at;
      found = found;
      makes = made;
      held = record { life = record { there = there; tag = life }; spent = r.0 };
      edge = ((listing w.sizes z w.front k).on f.from.index x.index on).edge;
      listed = on;
      part = part_of w.sizes w.front f.from.index x.index r.1.at;
      freezing = subst (IsFreezing w) (sym is) here;
    }

-- the edge is handed over
pub handed : (v w : View) (f new : FrozenValue) (x : Life) (place found : ℕ) → IsLayout v.sizes → IsLayout w.sizes
    → v.numbered ≡ true → IsSound v → IsFreezing v f → MayFreezeEdge v f.from f.place x
    → place ≡ link_at v.sizes x.index → new ≡ record { from = f.from; place = place; next = index_of found }
    → MatchMark v place found (freeze_edge_event v x found) w
    → IsHandedTo f v w x new
handed v w f new x place found z z' has s h m at is marked =
    let made = makes_marking v w place found (freeze_edge_event v x) has s refl marked in
    ⊎_elim
    (λ (live : mark_of found ≡ 0).
    let e = freeze_edge_event v x found in
    let won = marked.won live in
    let t = win_steps v place found e w has s won in
    let kept : IsKept v.sizes (t.grown ++ e ∷ []) = subst (λ (j : List Event). IsKept v.sizes j) t.front t.kept in
    let r = makes_word v w (e ∷ []) z f ((λ y. absurd (cc), λ y. absurd (cc)), tt)
    (makes_won v w place found e has s refl won) h in
    let sizes = (step_view v w (Some e) t).0 in
    let k : IsKept w.sizes w.front = subst (λ (q : Sizes). IsKept q w.front) (sym sizes) t.kept in
    let there : x.index < w.sizes.nodes = subst (λ (q : Sizes). x.index < q.nodes) (sym sizes) m.edge.there in
    let life : x.tag ≡ (node_in w.sizes w.front x.index).tag = event_life v.sizes t.grown e kept z m.edge.there ∙
    (ap (λ (j : List Event). (node_in v.sizes j x.index).tag) (sym t.front) ∙ ap
    (λ (q : Sizes). (node_in q w.front x.index).tag) (sym sizes)) in
    told v w f new x place found z' k made r.0 (ap index_of r.1 ∙ m.leads) there life
    (at ∙ ap (λ (q : Sizes). link_at q x.index) (sym sizes)) (with_mark found) (link_word_won v w x found t)
    (mark_set found) (index_stays found) is)
    (λ (dead : mark_of found ≡ 1).
    let l = marked.was dead in
    let t = look_steps v place found w has s l in
    let r = makes_word v w [] z f tt (makes_look v w place found has s l) h in
    let sizes = (step_view v w None t).0 in
    let there : x.index < w.sizes.nodes = subst (λ (q : Sizes). x.index < q.nodes) (sym sizes) m.edge.there in
    let b = edge_behind v z t.grown t.reaches f.from f.place x m in
    let life : x.tag ≡ (node_in w.sizes w.front x.index).tag = sym b.0 ∙
    (ap (λ (j : List Event). (node_in v.sizes j x.index).tag) (sym (t.front ∙ append-nil t.grown)) ∙ ap
    (λ (q : Sizes). (node_in q w.front x.index).tag) (sym sizes)) in
    let word : word_at w.sizes w.front (link_at w.sizes x.index) ≡ found =
    ap (λ (q : Sizes). word_at q w.front (link_at q x.index)) sizes ∙
    (ap (word_at v.sizes w.front) (sym at) ∙ sym l.word) in
    told v w f new x place found z' l.sound.kept made r.0 (ap index_of r.1 ∙ m.leads) there life
    (at ∙ ap (λ (q : Sizes). link_at q x.index) (sym sizes)) found word dead refl is)
    (bit found)

-- the event of a view is that of another one of the same table and caller
pub same_freeze : (m u v w : View) → u.sizes ≡ v.sizes → u.number ≡ v.number → (x : Life) (found : ℕ) → Makes m
    (marking (freeze_edge_event u x) found) w → Makes m (marking (freeze_edge_event v x) found) w
same_freeze m u v w sizes number x found h =
    subst (λ (z : Sizes). Makes m (marking (λ (y : ℕ). record (freeze_edge_event v x y) { place = link_at z x.index })
    found) w) sizes
    (subst (λ (n : ℕ). Makes m (marking (λ (y : ℕ). record (freeze_edge_event u x y) { caller = n }) found) w) number h)
