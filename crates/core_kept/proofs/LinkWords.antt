-- The link word of each node, by its state.
use Rattle.core_kept.proofs.Replaced.{old_joined, old_apart}
use Rattle.std.proofs.Common.{◌≡◌, ◌≢◌, ℕ, ◌+◌, ◌<◌, ◌⊎◌, Bool, true, false, List, [], refl, sym, ap, ◌∙◌, subst, arith}
use Rattle.std.proofs.Common.{⊎_elim, inl, inr}
use mathlib.Core.Logic.{dite}
use native.Mathlib.Decide.{ℕ_discrete}
use Rattle.packed_link.specs.Link.{pack, nowhere, index_of, mark_of, tag_of, mark_bit}
use Rattle.packed_link.specs.Layout.{Sizes, IsLayout, word_count, link_at}
use Rattle.core_journal.specs.declared.event.Kind.TheVariants.{PopFree, StorePrivate, LinkVertex, MarkVertex}
use Rattle.core_journal.specs.declared.event.Kind.TheVariants.{UnlinkVertex, LinkEdge, MarkEdge, UnlinkEdge, FreezeHead}
use Rattle.core_journal.specs.declared.event.Kind.TheVariants.{FreezeEdge, StoreFree, PushFree, ReplaceEdge}
use Rattle.core_journal.specs.declared.event.Event.{Event}
use Rattle.core_journal.specs.Machine.{word_at}
use Rattle.core_journal.specs.State.{Mode, Free, Fresh, Linked, Spent, Node, State, put, handed, opening, state}
use Rattle.core_journal.specs.State.{joined_edge}
use Rattle.core_kept.specs.Kept.{IsKept}
use Rattle.core_kept.specs.FreeNodes.{IsPopFree}
use Rattle.core_kept.specs.Nodes.{node_in, IsUsed}
use Rattle.core_kept.specs.Facts.{IsDeadLink, IsFreshLink, IsLiveLink, IsLinkWord, LinkWords}
use Rattle.core_kept.proofs.ByKind.{IsAfter, KeepsByKind, put_case, handed_case, marked_state, closed_state, holds_all}
use Rattle.core_kept.proofs.FreeList.{first_is_free, last_word, next_word}

module _ (sizes : Sizes) (v : Node) (word : ℕ) where
  pub as_free : v.mode ≡ Free → IsDeadLink v.tag word → IsLinkWord sizes v word
  as_free m d = record {
    free = λ _. d;
    fresh = λ h. absurd (cc);
    linked = λ h. absurd (cc);
    spent = λ h. absurd
        (cc);
    marked = λ h. absurd (cc);
    stored = λ h _. absurd (cc);
    unstored = λ h. absurd (cc);
    unmarked = λ h. absurd
        (cc);
  }

  pub as_fresh : v.mode ≡ Fresh → IsFreshLink v.tag word → v.marked ≡ false → v.stored ≡ false → IsLinkWord sizes v word
  as_fresh m d u t = record {
    free = λ h. absurd (cc);
    fresh = λ _. d;
    linked = λ h. absurd (cc);
    spent = λ h. absurd
        (cc);
    marked = λ h. absurd (cc);
    stored = λ h _. absurd (cc);
    unstored = λ h. absurd (cc);
    unmarked = λ _.
        (u, t);
  }

  pub as_linked : v.mode ≡ Linked → tag_of word ≡ v.tag → mark_of word ≡ mark_bit v.marked → v.stored ≡ false
      → IsLinkWord sizes v word
  as_linked m t b u = record {
    free = λ h. absurd (cc);
    fresh = λ h. absurd
        (cc);
    linked = λ _. record { life = t; mark = b };
    spent = λ h. absurd (cc);
    marked = λ h. absurd
        (cc);
    stored = λ h _. absurd (cc);
    unstored = λ _. u;
    unmarked = λ h. absurd (cc);
  }

  pub as_spent : v.mode ≡ Spent → IsDeadLink v.tag word → v.marked ≡ true →
      (v.stored ≡ true → (index_of word < sizes.nodes) ⊎ (index_of word ≡ nowhere)) → IsLinkWord sizes v word
  as_spent m d b i = record {
    free = λ h. absurd (cc);
    fresh = λ h. absurd (cc);
    linked = λ h. absurd
        (cc);
    spent = λ _. d;
    marked = λ _. b;
    stored = λ _. i;
    unstored = λ h. absurd (cc);
    unmarked = λ h. absurd (cc);
  }

  -- a linked node that is marked is handed over
  pub as_handed : (who ended epoch : ℕ) → v.mode ≡ Linked → v.marked ≡ true → IsLinkWord sizes v word → IsLinkWord sizes
      (record v { mode = Spent; who = who; ended = ended; epoch = epoch }) word
  as_handed who ended epoch m b c =
      let l : IsLiveLink v.tag word v.marked = c.linked m in
      let u : v.stored ≡ false = c.unstored m in
      let one : mark_of word ≡ 1 = l.mark ∙ ap mark_bit b in
      record {
        free = λ h. absurd (cc);
        fresh = λ h. absurd (cc);
        linked = λ h. absurd
            (cc);
        spent = λ _. record { life = l.life; marked = one };
        marked = λ _. b;
        stored = λ _ t. absurd
            (cc);
        unstored = λ h. absurd (cc);
        unmarked = λ h. absurd (cc);
      }

pub link_same : (sizes : Sizes) (v : Node) (word word' : ℕ) → word' ≡ word → IsLinkWord sizes v word
    → IsLinkWord sizes v word'
link_same sizes v word word' same c = subst (λ (u : ℕ). IsLinkWord sizes v u) (sym same) c

pub mark_is : (b : Bool) → mark_bit b ≡ 1 → b ≡ true
mark_is true h = refl
mark_is false h = absurd (omega (arith, h))

pub mark_isnt : (b : Bool) → mark_bit b ≡ 0 → b ≡ false
mark_isnt true h = absurd (omega (arith, h))
mark_isnt false h = refl

-- the frozen part of a list is handed over
handed_links : (sizes : Sizes) (s : State) (v : ℕ) (w : ℕ → ℕ) → LinkWords sizes s w → LinkWords sizes (handed v s) w
handed_links sizes s v w c = record {
  each = λ x t. handed_case (λ (u : Node). IsLinkWord sizes u (w (link_at sizes x))) s v x (c.each x t)
      (λ m b _. as_handed sizes (s.node x) (w (link_at sizes x)) (s.node v).who s.count s.epoch m b (c.each x t));
}

-- an unmarked word of linked nodes is written, and stays unmarked and in its life
at_spot : (sizes : Sizes) (past : List Event) (e : Event) (w : ℕ → ℕ) → LinkWords sizes (state sizes past)
    (word_at sizes past) → IsAfter sizes past e w
    → ((x : ℕ) → e.place ≡ link_at sizes x → (node_in sizes past x).mode ≡ Linked) → mark_of
    (word_at sizes past e.place) ≡ 0 → e.place < word_count sizes
    → tag_of e.word ≡ tag_of (word_at sizes past e.place) → mark_of e.word ≡ 0 → (x : ℕ) → x < sizes.nodes
    → IsLinkWord sizes (node_in sizes past x) (w (link_at sizes x))
at_spot sizes past e w c a linked was near tag mark x t = dite (ℕ_discrete (link_at sizes x) e.place)
    (λ h.
    let m : (node_in sizes past x).mode ≡ Linked = linked x (sym h) in
    let here : w (link_at sizes x) ≡ e.word = subst (λ (i : ℕ). w i ≡ e.word) (sym h) (a.here near) in
    let old : word_at sizes past (link_at sizes x) ≡ word_at sizes past e.place = ap (word_at sizes past) h in
    let l = (c.each x t).linked m in
    as_linked sizes _ _ m (omega (arith, here, tag, old, l.life)) (omega (arith, here, mark, old, was, l.mark))
    ((c.each x t).unstored m))
    (λ ne. link_same sizes _ _ _ (a.else (link_at sizes x) ne) (c.each x t))

-- the link word of one node is written
at_link : (sizes : Sizes) (past : List Event) (e : Event) (w : ℕ → ℕ) (v : Node) → LinkWords sizes (state sizes past)
    (word_at sizes past) → IsAfter sizes past e w → e.life.index < sizes.nodes → e.place ≡ link_at sizes e.life.index
    → IsLinkWord sizes v e.word → (x : ℕ) → x < sizes.nodes → IsLinkWord sizes
    (put e.life.index v (state sizes past).node x) (w (link_at sizes x))
at_link sizes past e w v c a there place new x t = put_case (λ (u : Node). IsLinkWord sizes u (w (link_at sizes x)))
    e.life.index v (state sizes past).node x
    (λ same. let here : w (link_at sizes x) ≡ e.word = ap w (omega (arith, same, place)) ∙ a.here
    (omega (arith, place, there)) in link_same sizes v _ _ here new)
    (λ ne. link_same sizes _ _ _ (a.else (link_at sizes x) (λ h. ne (omega (arith, place, h)))) (c.each x t))

-- a node changes its state and keeps its link word, while a word of linked nodes is written
at_both : (sizes : Sizes) (past : List Event) (e : Event) (w : ℕ → ℕ) (v : Node) → e.place ≢ link_at sizes e.life.index
    → IsAfter sizes past e w → IsLinkWord sizes v (word_at sizes past (link_at sizes e.life.index))
    → ((x : ℕ) → x < sizes.nodes → IsLinkWord sizes (node_in sizes past x) (w (link_at sizes x))) → (x : ℕ)
    → x < sizes.nodes → IsLinkWord sizes (put e.life.index v (state sizes past).node x) (w (link_at sizes x))
at_both sizes past e w v apart a new others x t = put_case (λ (u : Node). IsLinkWord sizes u (w (link_at sizes x)))
    e.life.index v (state sizes past).node x
    (λ same. let here : w (link_at sizes x) ≡ word_at sizes past (link_at sizes e.life.index) = ap
    (λ (y : ℕ). w (link_at sizes y)) same ∙ a.else (link_at sizes e.life.index)
    (λ h. apart (sym h)) in link_same sizes v _ _ here new)
    (λ _. others x t)

-- an unmarked place isn't the link of a node that isn't linked, and no link that is marked
apart_dead : (sizes : Sizes) (past : List Event) (i place : ℕ) → mark_of (word_at sizes past place) ≡ 0 → mark_of
    (word_at sizes past (link_at sizes i)) ≡ 1 → place ≢ link_at sizes i
apart_dead sizes past i place live dead h = let u : mark_of (word_at sizes past (link_at sizes i)) ≡ 0 = subst
    (λ (j : ℕ). mark_of (word_at sizes past j) ≡ 0) h live in omega (arith, u, dead)

marked_now : (sizes : Sizes) (v : Node) (old new : ℕ) → v.mode ≡ Linked → IsLinkWord sizes v old
    → tag_of new ≡ tag_of old → mark_of new ≡ 1 → IsLinkWord sizes (record v { marked = true }) new
marked_now sizes v old new m c tag mark = as_linked sizes (record v { marked = true }) new m
    (tag ∙ (c.linked m).life) mark (c.unstored m)

unlinked_now : (sizes : Sizes) (v : Node) (word who ended epoch : ℕ) → v.mode ≡ Linked → IsLinkWord sizes v word
    → mark_of word ≡ 1 → IsLinkWord sizes (record v { mode = Spent; who = who; ended = ended; epoch = epoch }) word
unlinked_now sizes v word who ended epoch m c dead = as_handed sizes v word who ended epoch m
    (mark_is v.marked (sym (c.linked m).mark ∙ dead)) c

linked_now : (sizes : Sizes) (v v' : Node) (word next : ℕ) → next < 16777216 → v.mode ≡ Fresh → IsLinkWord sizes v word
    → word ≡ pack next 0 v.tag → v'.mode ≡ Linked → v'.tag ≡ v.tag → v'.marked ≡ v.marked → v'.stored ≡ v.stored
    → IsLinkWord sizes v' word
linked_now sizes v v' word next fits m c is m' tag mark stored =
    as_linked sizes v' word m' (omega (arith, is, tag, fits))
    (let e : mark_of word ≡ 0 = omega (arith, is, fits) in e ∙ ap mark_bit (sym (mark ∙ (c.unmarked m).0)))
    (stored ∙ (c.unmarked m).1)

link_words_step : (sizes : Sizes) → IsLayout sizes → KeepsByKind sizes (LinkWords sizes)
link_words_step sizes z past e kept c PopFree by ok w a =
    let m : (node_in sizes past e.life.index).mode ≡ Free = first_is_free sizes z past kept e.life.index ok.there
    ok.seen in
    let d = (c.each e.life.index ok.there).free m in
    record {
      each = at_both sizes past e w _ (λ h. omega (arith, ok.place, h)) a
          (as_fresh sizes _ _ refl (inl (sym ok.life, d.marked)) refl refl)
          (λ x t. link_same sizes _ _ _ (a.else (link_at sizes x) (λ h. omega (arith, ok.place, h))) (c.each x t));
    }
link_words_step sizes z past e kept c PushFree by ok w a =
    record {
      each = at_both sizes past e w _ (λ h. omega (arith, ok.place, h)) a
          (as_free sizes _ _ refl (let d = (c.each e.life.index ok.there).spent ok.ripe.stamped.spent.spent in record
          { life = d.life; marked = d.marked }))
          (λ x t. link_same sizes _ _ _ (a.else (link_at sizes x) (λ h. omega (arith, ok.place, h))) (c.each x t));
    }
link_words_step sizes z past e kept c StorePrivate by ok w a = record {
  each = λ x t. dite (ℕ_discrete (link_at sizes x) e.place)
      (λ h.
      let same : x ≡ e.life.index = omega (arith, h, ok.place) in
      let here : w (link_at sizes x) ≡ e.word = ap w h ∙ a.here (omega (arith, ok.place, ok.there)) in
      let m : (node_in sizes past x).mode ≡ Fresh = ap (λ (y : ℕ). (node_in sizes past y).mode) same ∙ ok.fresh.fresh in
      let tag : (node_in sizes past x).tag ≡ (node_in sizes past e.life.index).tag = ap
      (λ (y : ℕ). (node_in sizes past y).tag) same in
      let f = ok.link (sym h ∙ ap (link_at sizes) same) in
      let u = (c.each x t).unmarked m in
      as_fresh sizes _ _ m (inr (omega (arith, here, f.0, ok.life, tag), omega (arith, here, f.1))) u.0 u.1)
      (λ ne. link_same sizes _ _ _ (a.else (link_at sizes x) ne) (c.each x t));
}
link_words_step sizes z past e kept c LinkVertex by ok w a =
    let apart : e.place ≢ link_at sizes e.life.index = λ h. let l =
    (ok.linked e.life.index h).linked in let f = ok.fresh.fresh in absurd (cc) in
    record {
      each = at_both sizes past e w _ apart a (linked_now sizes (node_in sizes past e.life.index) _ _
          (index_of (word_at sizes past e.place)) (omega arith) ok.fresh.fresh
          (c.each e.life.index ok.there) ok.filled.link_word refl refl refl refl)
          (at_spot sizes past e w c a (λ x h. (ok.linked x h).linked) ok.unmarked (omega (arith, ok.place))
          (omega (arith, ok.word, ok.there, z.few_nodes)) (omega (arith, ok.word, ok.there, z.few_nodes)));
    }
link_words_step sizes z past e kept c LinkEdge by ok w a =
    let apart : e.place ≢ link_at sizes e.life.index = λ h. let l =
    (ok.linked e.life.index h).linked.linked in let f = ok.fresh.fresh in absurd (cc) in
    record {
      each = at_both sizes past e w _ apart a (linked_now sizes (node_in sizes past e.life.index) _ _
          (index_of (word_at sizes past e.place)) (omega arith) ok.fresh.fresh
          (c.each e.life.index ok.there) ok.filled.link_word refl refl refl refl)
          (at_spot sizes past e w c a (λ x h. (ok.linked x h).linked.linked) ok.unmarked (omega (arith, ok.place))
          (omega (arith, ok.word, ok.there, z.few_nodes)) (omega (arith, ok.word, ok.there, z.few_nodes)));
    }
link_words_step sizes z past e kept c UnlinkVertex by ok w a = record {
  each = at_both sizes past e w _ (apart_dead sizes past e.life.index e.place ok.unmarked ok.dead) a
      (unlinked_now sizes _ _ _ _ _ ok.linked.linked (c.each e.life.index ok.there) ok.dead)
      (at_spot sizes past e w c a (λ x h. (ok.before_linked x h).linked) ok.unmarked (omega (arith, ok.place))
      (omega (arith, ok.word)) (omega (arith, ok.word)));
}
link_words_step sizes z past e kept c UnlinkEdge by ok w a = record {
  each = at_both sizes past e w _ (apart_dead sizes past e.life.index e.place ok.unmarked ok.dead) a
      (unlinked_now sizes _ _ _ _ _ ok.linked.linked (c.each e.life.index ok.there) ok.dead)
      (at_spot sizes past e w c a (λ x h. (ok.before_linked x h).linked.linked) ok.unmarked (omega (arith, ok.place))
      (omega (arith, ok.word)) (omega (arith, ok.word)));
}
link_words_step sizes z past e kept c MarkVertex by ok w a =
    let old : word_at sizes past e.place ≡ word_at sizes past (link_at sizes e.life.index) = ap
    (word_at sizes past) ok.place in
    record {
      each = at_link sizes past e w _ c a ok.there ok.place
          (marked_now sizes _ _ _ ok.linked.linked (c.each e.life.index ok.there) (omega (arith, ok.word, old))
          (omega (arith, ok.word)));
    }
link_words_step sizes z past e kept c MarkEdge by ok w a =
    let old : word_at sizes past e.place ≡ word_at sizes past (link_at sizes e.life.index) = ap
    (word_at sizes past) ok.place in
    handed_links sizes (marked_state (state sizes past) e.life.index) (node_in sizes past e.life.index).source.index w
    record {
      each = at_link sizes past e w _ c a ok.there ok.place
          (marked_now sizes _ _ _ ok.linked.linked (c.each e.life.index ok.there) (omega (arith, ok.word, old))
          (omega (arith, ok.word)));
    }
link_words_step sizes z past e kept c ReplaceEdge by ok w a =
    let s : State = state sizes past in
    let j : State = joined_edge sizes e s in
    let apart = old_apart sizes past e ok in
    let at_old : word_at sizes past e.place ≡ word_at sizes past (link_at sizes e.old.index) = ap
    (word_at sizes past) ok.place in
    let m : (j.node e.old.index).mode ≡ Linked = ap (λ (v : Node). v.mode) (old_joined sizes past e ok)
    ∙ ok.linked.linked in
    let was : IsLinkWord sizes (j.node e.old.index) (word_at sizes past (link_at sizes e.old.index)) = subst
    (λ (v : Node). IsLinkWord sizes v (word_at sizes past (link_at sizes e.old.index)))
    (sym (old_joined sizes past e ok)) (c.each e.old.index ok.old_there) in
    handed_links sizes (marked_state j e.old.index) (j.node e.old.index).source.index w record {
      each = λ x t. put_case (λ (u : Node). IsLinkWord sizes u (w (link_at sizes x))) e.old.index
          (record (j.node e.old.index) { marked = true }) j.node x
          (λ same. let here : w (link_at sizes x) ≡ e.word = ap w (omega (arith, same, ok.place)) ∙ a.here
          (omega (arith, ok.place, ok.old_there)) in
          link_same sizes _ _ _ here (marked_now sizes _ _ _ m was
          (omega (arith, ok.word, at_old, ok.there, z.few_nodes)) (omega (arith, ok.word, ok.there, z.few_nodes))))
          (λ ne. put_case (λ (u : Node). IsLinkWord sizes u (w (link_at sizes x))) e.life.index _ s.node x
          (λ same. let here : w (link_at sizes x) ≡ word_at sizes past (link_at sizes e.life.index) = ap
          (λ (y : ℕ). w (link_at sizes y)) same ∙ a.else (link_at sizes e.life.index)
          (λ h. apart (omega (arith, h, ok.place))) in
          link_same sizes _ _ _ here (linked_now sizes (node_in sizes past e.life.index) _ _
          (index_of (word_at sizes past e.place)) (omega arith) ok.fresh.fresh
          (c.each e.life.index ok.there) ok.filled.link_word refl refl refl refl))
          (λ _. link_same sizes _ _ _ (a.else (link_at sizes x) (λ h. ne (omega (arith, h, ok.place)))) (c.each x t)));
    }
link_words_step sizes z past e kept c FreezeEdge by ok w a =
    let old : word_at sizes past e.place ≡ word_at sizes past (link_at sizes e.life.index) = ap
    (word_at sizes past) ok.place in
    handed_links sizes (marked_state (state sizes past) e.life.index) (node_in sizes past e.life.index).source.index w
    record {
      each = at_link sizes past e w _ c a ok.there ok.place
          (marked_now sizes _ _ _ ok.linked.linked (c.each e.life.index ok.there) (omega (arith, ok.word, old))
          (omega (arith, ok.word)));
    }
link_words_step sizes z past e kept c FreezeHead by ok w a =
    handed_links sizes (closed_state (state sizes past) e.life.index) e.life.index w
    record {
      each = λ x t. link_same sizes _ _ _ (a.else (link_at sizes x) (λ h. omega (arith, ok.place, h)))
          (c.each x t);
    }
link_words_step sizes z past e kept c StoreFree by ok w a =
    let low : ok.next < 16777216 = omega (arith, ok.next_there, z.few_nodes) in
    record {
      each = at_link sizes past e w _ c a ok.there ok.place (as_spent sizes _ _ ok.ripe.stamped.spent.spent record
          { life = omega (arith, ok.word, low); marked = omega (arith, ok.word, low) }
          ((c.each e.life.index ok.there).marked ok.ripe.stamped.spent.spent)
          (λ _. ⊎_elim (λ h. inl (omega (arith, ok.word, low, h)))
          (λ h. inr (omega (arith, ok.word, low, h))) ok.next_there));
    }
link_words_step sizes z past e kept c _ by ok w a = record {
  each = λ x t. link_same sizes _ _ _
      (a.else (link_at sizes x) (λ h. omega (arith, ok.place, ok.there, h))) (c.each x t);
}

link_words_first : (sizes : Sizes) → IsLayout sizes → (x : ℕ) → x < sizes.nodes → IsLinkWord sizes
    ((opening sizes).node x) (word_at sizes [] (link_at sizes x))
link_words_first sizes z x t = dite (ℕ_discrete (x + 1) sizes.nodes)
    (λ last. let e = last_word sizes x last in as_free sizes _ _ refl record
    { life = omega (arith, e); marked = omega (arith, e) })
    (λ ne. let e = next_word sizes x (omega (arith, t, ne)) in as_free sizes _ _ refl record
    { life = omega (arith, e, t, z.few_nodes); marked = omega (arith, e, t, z.few_nodes) })

-- the link words after each kept journal
pub link_words : (sizes : Sizes) → IsLayout sizes → (journal : List Event) → IsKept sizes journal → LinkWords sizes
    (state sizes journal) (word_at sizes journal)
link_words sizes z journal kept = holds_all sizes (LinkWords sizes) (link_words_step sizes z)
    (record { each = link_words_first sizes z }) journal kept

-- a node that is taken was free, and begins its next life
pub record TakesFreeNode (sizes : Sizes) (past : List Event) (e : Event) : Type 0 where
  pub free : (node_in sizes past e.life.index).mode ≡ Free
  pub tag : e.life.tag ≡ (node_in sizes past e.life.index).tag + 1

pub taken : (sizes : Sizes) → IsLayout sizes → (past : List Event) (e : Event) → IsKept sizes past
    → IsPopFree sizes past e → TakesFreeNode sizes past e
taken sizes z past e kept ok =
    let m : (node_in sizes past e.life.index).mode ≡ Free = first_is_free sizes z past kept e.life.index ok.there
    ok.seen in
    let d = ((link_words sizes z past kept).each e.life.index ok.there).free m in
    record { free = m; tag = omega (arith, ok.life, d.life) }

-- a node that was linked and whose word is unmarked and of its life is linked still
pub unmarked_linked : (sizes : Sizes) → IsLayout sizes → (journal : List Event) → IsKept sizes journal → (x : ℕ)
    → x < sizes.nodes → (node_in sizes journal x).mode ≢ Free → (node_in sizes journal x).mode ≢ Fresh
    → mark_of (word_at sizes journal (link_at sizes x)) ≡ 0 → (node_in sizes journal x).mode ≡ Linked
unmarked_linked sizes z journal kept x t free fresh live = by (node_in sizes journal x).mode refl
  where
    by : (m : Mode) → (node_in sizes journal x).mode ≡ m → (node_in sizes journal x).mode ≡ Linked
    by Free e = absurd (free e)
    by Fresh e = absurd (fresh e)
    by Linked e = e
    by Spent e = let d = ((link_words sizes z journal kept).each x t).spent e in absurd (omega (arith, d.marked, live))

-- the link of a node that is linked or spent has the tag of its life, and is marked where the node is
pub used_link : (sizes : Sizes) → IsLayout sizes → (journal : List Event) → IsKept sizes journal → (x : ℕ)
    → x < sizes.nodes → IsUsed (node_in sizes journal x).mode
    → (tag_of (word_at sizes journal (link_at sizes x)) ≡ (node_in sizes journal x).tag) ×
    (mark_of (word_at sizes journal (link_at sizes x)) ≡ mark_bit (node_in sizes journal x).marked)
used_link sizes z journal kept x t used = by (node_in sizes journal x).mode used refl
  where
    by : (m : Mode) → IsUsed m → (node_in sizes journal x).mode ≡ m →
        (tag_of (word_at sizes journal (link_at sizes x)) ≡ (node_in sizes journal x).tag) ×
        (mark_of (word_at sizes journal (link_at sizes x)) ≡ mark_bit (node_in sizes journal x).marked)
    by Linked u e = let d = ((link_words sizes z journal kept).each x t).linked e in (d.life, d.mark)
    by Spent u e = let d = ((link_words sizes z journal kept).each x t).spent e in
        (d.life, d.marked ∙ ap mark_bit (sym (((link_words sizes z journal kept).each x t).marked e)))
    by Free u e = absurd u
    by Fresh u e = absurd u
