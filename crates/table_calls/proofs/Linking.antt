-- How vertices are linked, marked and unlinked by what was met before.
use Rattle.std.proofs.Common.{◌≡◌, ◌≢◌, ℕ, ◌<◌, true, false, List, [], ◌∷◌, ◌++◌, None, Some, sym, ap, ◌∙◌, subst}
use Rattle.std.proofs.Common.{⊎_elim}
use Rattle.packed_link.specs.Link.{index_of, mark_of, tag_of, nowhere}
use Rattle.packed_link.specs.Layout.{Sizes, IsLayout, link_at}
use Rattle.packed_link.specs.declared.link.Life.{Life}
use Rattle.core_journal.specs.Event.{pops, moves, raises}
use Rattle.core_journal.specs.declared.event.Event.{Event}
use Rattle.core_journal.specs.declared.event.Kind.TheVariants.{Announce, LinkVertex, PopFree, UnlinkVertex, Withdraw}
use Rattle.core_journal.specs.Machine.{word_at}
use Rattle.core_kept.specs.Kept.{IsKept}
use Rattle.core_kept.specs.Freezing.{IsSpentVertex}
use Rattle.core_kept.specs.Nodes.{IsFreshWith, node_in}
use Rattle.core_kept.specs.Vertices.{IsFilledVertex}
use Rattle.core_lists.specs.Chains.{KeepsList, life_in}
use Rattle.core_lists.proofs.FrozenToEndIsList.{has_keeps}
use Rattle.core_lists.specs.Walks.{LeadsTo}
use Rattle.core_lists.proofs.EventKeepsRest.{event_life, vertex_joined, vertex_spent}
use Rattle.core_rule.specs.Fronts.{MayLinkVertex, MayUnlinkVertex, MetVertex, IsBeforeVertex, LeadsToVertex}
use Rattle.core_rule.specs.Plays.{IsSound, Looked}
use Rattle.core_rule.specs.Stretches.{HasPass}
use Rattle.core_rule.specs.Views.{Steps}
use Rattle.core_rule.specs.declared.view.View.{View}
use Rattle.core_rule.proofs.ViewShows.{win_steps, step_view, leads_to_vertex_still}
use Rattle.graph_table.specs.Filled.{MayLinkFilledVertex}
use Rattle.graph_table.specs.Table.{MatchMark, MatchLink, MatchUnlink}
use Rattle.graph_table.specs.declared.answers.LinkTried.{LinkTried}
use Rattle.graph_table.specs.declared.answers.LinkTried.TheVariants.{Won as LinkWon, Lost as LinkLost}
use Rattle.graph_table.specs.declared.answers.UnlinkTried.{UnlinkTried}
use Rattle.graph_table.specs.declared.answers.UnlinkTried.TheVariants.{Won as UnlinkWon, Lost as UnlinkLost}
use Rattle.table_calls.specs.Resting.{IsResting, IsHolding, uses_of}
use Rattle.table_calls.specs.Vertices.{MatchHeld, MatchSpent}
use Rattle.core_stretches.specs.Holdings.{IsUnlinkedVertex}
use Rattle.table_calls.proofs.Known.{rests_on, same_pass, same_uses}
use Rattle.table_calls.proofs.Loaded.{loaded, loaded_goes, loaded_holding, loaded_resting, loaded_numbered, loaded_pass}
use Rattle.table_calls.proofs.Loaded.{loaded_sizes, loaded_uses, life_loaded, leads_there, marked_steps, place_leads}
use Rattle.table_calls.proofs.Loaded.{word_is}

-- a node that was filled for an end may be linked there
pub may_link : (v : View) (place seen key : ℕ) (x : Life) → IsHolding v x → IsBeforeVertex v key place
    → mark_of seen ≡ 0 → index_of seen ≡ nowhere → IsFilledVertex v.sizes v.front x.index key nowhere
    → MayLinkFilledVertex v place seen x
may_link v place seen key x h b live end f =
    subst (λ (k : ℕ). MayLinkVertex v place seen k x) (sym f.key_word) (record {
      life = h.held.life;
      pass = h.pass;
      before = b;
      behind = λ some. absurd (some end);
      unmarked = live;
      fresh = h.held.fresh;
      filled = subst (λ (n : ℕ). IsFilledVertex v.sizes v.front x.index key n) (sym end) f;
    })

-- behind the step by which its node is linked a token holds none
pub joined_rests : (v w : View) (e : Event) (x : Life) (t : Steps v (Some e) w) → (e.kind ≢ Announce) ×
    (e.kind ≢ Withdraw) → ((y : ℕ) → y < v.sizes.nodes → IsFreshWith v.sizes (t.grown ++ e ∷ []) v.number y → ⊥)
    → IsHolding v x → IsResting true w
joined_rests v w e x t spares none h = record {
  numbered = (step_view v w (Some e) t).2 ∙ h.numbered;
  there = subst (λ (u : View). u.number < u.sizes.callers) (sym t.view) h.there;
  pass = same_pass true v w (Some e) t spares h.pass;
  bare = record {
    none = subst (λ (u : View). (y : ℕ) → y < u.sizes.nodes → IsFreshWith u.sizes u.front u.number y → ⊥) (sym t.view)
        (subst (λ (j : List Event). (y : ℕ) → y < v.sizes.nodes → IsFreshWith v.sizes j v.number y → ⊥)
        (sym t.front) none);
  };
}

pub linked_held : (r : LinkTried) (v w : View) (place seen : ℕ) (x : Life) (e : Event) → IsLayout v.sizes → IsSound v
    → e.kind ≡ LinkVertex → e.caller ≡ v.number → IsHolding v x → MatchLink r v place seen x e w → MatchHeld r w
linked_held (LinkWon life) v w place seen x e z s is by h m =
    let t = win_steps v place seen e w h.numbered s m.1 in
    let kept : IsKept v.sizes (t.grown ++ e ∷ []) = subst (λ (j : List Event). IsKept v.sizes j) t.front t.kept in
    joined_rests v w e x t ((λ y. absurd (cc)), (λ y. absurd (cc)))
    (subst (λ (n : ℕ). (y : ℕ) → y < v.sizes.nodes → IsFreshWith v.sizes (t.grown ++ e ∷ []) n y → ⊥) by
    (vertex_joined v.sizes t.grown e kept is).1) h
linked_held (LinkLost fresh found) v w place seen x e z s is by h m =
    subst (λ (y : Life). IsHolding w y) (sym m.0) (loaded_holding v w h.numbered s
    (loaded v place found w m.1.looked) z x h)

pub linked_uses : (r : LinkTried) (v w : View) (place seen : ℕ) (x : Life) (e : Event) → v.numbered ≡ true → IsSound v
    → pops e.kind ≡ false → moves e.kind ≡ false → raises e.kind ≡ false → MatchLink r v place seen x e w
    → uses_of w ≡ uses_of v
linked_uses (LinkWon life) v w place seen x e has s p q r m = same_uses v w (Some e)
    (win_steps v place seen e w has s m.1) p q r
linked_uses (LinkLost fresh found) v w place seen x e has s p q r m = loaded_uses v w has s
    (loaded v place found w m.1.looked)

-- behind a mark a token rests on
pub marked_rests : (v : View) (place found : ℕ) (e : Event) (w : View) → IsSound v → e.kind ≢ PopFree →
    (e.kind ≢ Announce) × (e.kind ≢ Withdraw) → MatchMark v place found e w → IsResting true v → IsResting true w
marked_rests v place found e w s takes spares m n = ⊎_elim
    (λ (t : Steps v (Some e) w). rests_on true v w (Some e) t takes spares n)
    (λ (t : Steps v None w). rests_on true v w None t tt tt n)
    (marked_steps v place found e w n.numbered s m)

pub marked_uses : (v : View) (place found : ℕ) (e : Event) (w : View) → v.numbered ≡ true → IsSound v
    → pops e.kind ≡ false → moves e.kind ≡ false → raises e.kind ≡ false → MatchMark v place found e w
    → uses_of w ≡ uses_of v
marked_uses v place found e w has s p q r m = ⊎_elim
    (λ (t : Steps v (Some e) w). same_uses v w (Some e) t p q r)
    (λ (t : Steps v None w). same_uses v w None t tt tt tt)
    (marked_steps v place found e w has s m)

-- the vertex to which a word leads that was loaded
module _ (v m : View) (place word index : ℕ) (z : IsLayout v.sizes) (z' : IsLayout m.sizes) (has : v.numbered ≡ true)
    (s : IsSound v) (o : HasPass v) (before : LeadsToVertex v place) (l : Looked v place word m)
    (is : index ≡ index_of word) (some : index ≢ nowhere) where
  pub before_loaded : LeadsToVertex m place
  before_loaded = leads_to_vertex_still v m z (loaded_goes v m has s (loaded v place word m l)) place before

  pub led_met : MetVertex m (life_in m.sizes m.front index)
  led_met =
      let P : ℕ → Type 0 = λ y. MetVertex m (life_in m.sizes m.front y) in
      let leads : LeadsTo word P = subst (λ (n : ℕ). LeadsTo n P) (sym (word_is v place word m l))
      (place_leads m z' l.sound (loaded_pass v m has s (loaded v place word m l) o) place before_loaded) in
      leads_there word index P leads is some

  -- it may be unlinked where its link, which was loaded later, is marked
  pub may_unlink : (w : View) (at link tag next : ℕ) → IsLayout w.sizes → Looked m at link w
      → at ≡ link_at m.sizes index → tag ≡ tag_of link → next ≡ index_of link → mark_of word ≡ 0 → mark_of link ≡ 1
      → MayUnlinkVertex w place word next (record { index = index; tag = tag })
  may_unlink w at link tag next z'' k at_is tag_is next_is live dead =
      let h = loaded v place word m l in
      let has' = loaded_numbered v m has s h in
      let g = loaded m at link w k in
      let sizes : w.sizes ≡ m.sizes = loaded_sizes m w g in
      let link_is : link ≡ word_at w.sizes w.front (link_at w.sizes index) = k.word ∙
      (ap (word_at m.sizes w.front) at_is ∙ ap (λ (q : Sizes). word_at q w.front (link_at q index)) (sym sizes)) in
      record {
        pass = loaded_pass m w has' l.sound g (loaded_pass v m has s h o);
        before = leads_to_vertex_still m w z' (loaded_goes m w has' l.sound g) place before_loaded;
        unmarked = live;
        leads = sym is;
        vertex = life_loaded m w index at link tag z' z'' has' l.sound led_met k at_is tag_is;
        dead = ap mark_of (sym link_is) ∙ dead;
        next_is = next_is ∙ ap index_of link_is;
      }

-- the same of a front
record IsUnlinkedIn (z : Sizes) (front : List Event) (caller : ℕ) (x : Life) : Type 0 where
  pub there : x.index < z.nodes
  pub tag : x.tag ≡ (node_in z front x.index).tag
  pub spent : IsSpentVertex z front caller x.index
  pub list : KeepsList z front x.index

-- behind an unlink a token rests on
pub unlinked_rests : (r : UnlinkTried) (v w : View) (place seen : ℕ) (x : Life) (e : Event) → IsSound v
    → e.kind ≢ PopFree → (e.kind ≢ Announce) × (e.kind ≢ Withdraw) → IsResting true v → MatchUnlink r v place seen x e w
    → IsResting true w
unlinked_rests (UnlinkWon y) v w place seen x e s takes spares n m = rests_on true v w (Some e)
    (win_steps v place seen e w n.numbered s m.1) takes spares n
unlinked_rests (UnlinkLost found) v w place seen x e s takes spares n m = loaded_resting v w n.numbered s
    (loaded v place found w m.looked) true n

pub unlinked_uses : (r : UnlinkTried) (v w : View) (place seen : ℕ) (x : Life) (e : Event) → v.numbered ≡ true
    → IsSound v → pops e.kind ≡ false → moves e.kind ≡ false → raises e.kind ≡ false → MatchUnlink r v place seen x e w
    → uses_of w ≡ uses_of v
unlinked_uses (UnlinkWon y) v w place seen x e has s p q r m = same_uses v w (Some e)
    (win_steps v place seen e w has s m.1) p q r
unlinked_uses (UnlinkLost found) v w place seen x e has s p q r m = loaded_uses v w has s
    (loaded v place found w m.looked)

-- a vertex that the token unlinked is spent with it, and its list is one still
pub unlinked_spent : (r : UnlinkTried) (v w : View) (place seen : ℕ) (x : Life) (e : Event) → IsLayout v.sizes
    → IsSound v → v.numbered ≡ true → e.kind ≡ UnlinkVertex → e.caller ≡ v.number → e.life ≡ x → x.index < v.sizes.nodes
    → MatchUnlink r v place seen x e w → MatchSpent r w
unlinked_spent (UnlinkLost found) v w place seen x e z s has is by of there m = tt
unlinked_spent (UnlinkWon y) v w place seen x e z s has is by of there m =
    let t = win_steps v place seen e w has s m.1 in
    let kept : IsKept v.sizes (t.grown ++ e ∷ []) = subst (λ (j : List Event). IsKept v.sizes j) t.front t.kept in
    let spent = vertex_spent v.sizes t.grown e kept z is in
    let list = has_keeps v.sizes z (t.grown ++ e ∷ []) kept e.life.index spent.1 in
    let there' : e.life.index < v.sizes.nodes = subst (λ (l : Life). l.index < v.sizes.nodes) (sym of) there in
    let tag = event_life v.sizes t.grown e kept z there' in
    let vertex : IsSpentVertex v.sizes (t.grown ++ e ∷ []) v.number e.life.index = subst
    (λ (n : ℕ). IsSpentVertex v.sizes (t.grown ++ e ∷ []) n e.life.index) by spent.0 in
    let far : IsUnlinkedIn v.sizes (t.grown ++ e ∷ []) v.number e.life = record
    { there = there'; tag = tag; spent = vertex; list = list } in
    let here : IsUnlinkedIn v.sizes w.front v.number e.life = subst
    (λ (j : List Event). IsUnlinkedIn v.sizes j v.number e.life) (sym t.front) far in
    let now : IsUnlinkedIn w.sizes w.front w.number e.life = subst
    (λ (u : View). IsUnlinkedIn u.sizes u.front u.number e.life) (sym t.view) here in
    subst (λ (l : Life). IsUnlinkedVertex w l) (of ∙ sym m.0)
    (record { life = record { there = now.there; tag = now.tag }; spent = now.spent; list = now.list })
