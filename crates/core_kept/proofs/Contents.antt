-- The key, the second and the third word of each node while it's linked or spent.
use Rattle.std.proofs.Common.{◌≡◌, ◌≢◌, ℕ, ◌<◌, Bool, true, false, List, refl, sym, ap, ◌∙◌, subst, arith}
use mathlib.Core.Logic.{dite}
use native.Mathlib.Decide.{ℕ_discrete}
use Rattle.packed_link.specs.Link.{pack, mark_of, tag_of, mark_bit}
use Rattle.packed_link.specs.Layout.{Sizes, IsLayout, word_count, key_at, second_at, third_at}
use Rattle.packed_link.specs.declared.link.Life.{Life}
use Rattle.core_journal.specs.declared.event.Kind.TheVariants.{PopFree, StorePrivate, LinkVertex, MarkVertex}
use Rattle.core_journal.specs.declared.event.Kind.TheVariants.{UnlinkVertex, LinkEdge, Raise, MarkEdge, UnlinkEdge}
use Rattle.core_journal.specs.declared.event.Kind.TheVariants.{FreezeHead, FreezeEdge, StoreFree, PushFree, ReplaceEdge}
use Rattle.core_journal.specs.declared.event.Event.{Event}
use Rattle.core_journal.specs.Machine.{word_at}
use Rattle.core_journal.specs.State.{Free, Fresh, Linked, Spent, Node, State, put, handed, state, joined_edge}
use Rattle.core_kept.specs.Kept.{IsKept}
use Rattle.core_kept.specs.Nodes.{node_in, IsUsed}
use Rattle.core_kept.specs.Facts.{IsContent, Contents}
use Rattle.core_kept.proofs.ByKind.{IsAfter, KeepsByKind, put_case, put_both, handed_case, marked_state, closed_state}
use Rattle.core_kept.proofs.ByKind.{holds_all}

-- a node keeps what its words mean
record IsSameNode (v v' : Node) : Type 0 where
  pub used : IsUsed v'.mode → IsUsed v.mode
  pub fresh : v'.mode ≡ Fresh → v.mode ≡ Fresh
  pub vertex : v'.vertex ≡ v.vertex
  pub key : v'.key ≡ v.key
  pub tag : v'.tag ≡ v.tag
  pub target : v'.target ≡ v.target
  pub weight : v'.weight ≡ v.weight

-- none of these words of a node is written
record IsSameWords (sizes : Sizes) (x : ℕ) (w w' : ℕ → ℕ) : Type 0 where
  pub key : w' (key_at sizes x) ≡ w (key_at sizes x)
  pub second : w' (second_at sizes x) ≡ w (second_at sizes x)
  pub third : w' (third_at sizes x) ≡ w (third_at sizes x)

content_same : (sizes : Sizes) (v v' : Node) (frozen : Bool) (x : ℕ) (w w' : ℕ → ℕ) → IsSameNode v v'
    → IsSameWords sizes x w w' → IsContent sizes v frozen x w → IsContent sizes v' frozen x w'
content_same sizes v v' frozen x w w' n s c = record {
  vertex = λ u t. let d = c.vertex (n.used u) (sym n.vertex ∙ t) in record {
    key_word = s.key ∙ (d.key_word ∙ sym n.key);
    key_fits = omega
        (arith, d.key_fits, n.key);
    second_life = ap tag_of s.second ∙
        (d.second_life ∙ sym n.tag);
    second_mark = ap mark_of s.second ∙ d.second_mark;
  };
  edge = λ u t. let d = c.edge (n.used u) (sym n.vertex ∙ t) in record {
    key_word = s.key ∙ (d.key_word ∙ sym n.key);
    key_fits = omega (arith, d.key_fits, n.key);
    target_word = s.second ∙ (d.target_word ∙ ap (λ (y : Life). pack y.index 0 y.tag) (sym n.target));
    weight_word = s.third ∙ (d.weight_word ∙ sym n.weight);
    some = omega (arith, d.some, n.weight);
    weight_fits = omega (arith, d.weight_fits, n.weight);
  };
  fresh = λ m. c.fresh (n.fresh m);
}

same_node : (v : Node) → IsSameNode v v
same_node v = record {
  used = λ u. u;
  fresh = λ m. m;
  vertex = refl;
  key = refl;
  tag = refl;
  target = refl;
  weight =
      refl;
}

same_words : (sizes : Sizes) (past : List Event) (e : Event) (w : ℕ → ℕ) (x : ℕ) → IsAfter sizes past e w
    → key_at sizes x ≢ e.place → second_at sizes x ≢ e.place → third_at sizes x ≢ e.place → IsSameWords sizes x
    (word_at sizes past) w
same_words sizes past e w x a k s t = record {
  key = a.else (key_at sizes x) k;
  second = a.else
      (second_at sizes x) s;
  third = a.else (third_at sizes x) t;
}

-- one node changes, and keeps what its words mean
put_contents : (sizes : Sizes) (s : State) (w w' : ℕ → ℕ) (i : ℕ) (v : Node) → Contents sizes s w → IsSameNode
    (s.node i) v → ((x : ℕ) → x < sizes.nodes → IsSameWords sizes x w w') → (x : ℕ) → x < sizes.nodes → IsContent sizes
    (put i v s.node x) (s.frozen x) x w'
put_contents sizes s w w' i v c same words x t = put_case (λ (u : Node). IsContent sizes u (s.frozen x) x w') i v s.node
    x
    (λ is. content_same sizes (s.node x) v (s.frozen x) x w w'
    (subst (λ (y : ℕ). IsSameNode (s.node y) v) (sym is) same) (words x t) (c.each x t))
    (λ _. content_same sizes (s.node x) (s.node x) (s.frozen x) x w w' (same_node (s.node x)) (words x t) (c.each x t))

-- the frozen part of a list is handed over
handed_contents : (sizes : Sizes) (s : State) (v : ℕ) (w : ℕ → ℕ) → Contents sizes s w → Contents sizes (handed v s) w
handed_contents sizes s v w c = record {
  each = λ x t. handed_case (λ (u : Node). IsContent sizes u (s.frozen x) x w) s v x (c.each x t)
      (λ m _ _. content_same sizes (s.node x) _ (s.frozen x) x w w record {
        used = λ _. subst IsUsed (sym m) tt;
        fresh = λ h. absurd
            (cc);
        vertex = refl;
        key = refl;
        tag = refl;
        target = refl;
        weight = refl;
      } record
      { key = refl; second = refl; third = refl } (c.each x t));
}

spent_node : (v : Node) (who ended epoch : ℕ) → v.mode ≡ Linked → IsSameNode v
    (record v { mode = Spent; who = who; ended = ended; epoch = epoch })
spent_node v who ended epoch m = record {
  used = λ _. subst IsUsed (sym m) tt;
  fresh = λ h. absurd
      (cc);
  vertex = refl;
  key = refl;
  tag = refl;
  target = refl;
  weight = refl;
}

marked_node : (v : Node) → IsSameNode v (record v { marked = true })
marked_node v = record {
  used = λ u. u;
  fresh = λ m. m;
  vertex = refl;
  key = refl;
  tag = refl;
  target = refl;
  weight =
      refl;
}

stored_node : (v : Node) → IsSameNode v (record v { stored = true })
stored_node v = record {
  used = λ u. u;
  fresh = λ m. m;
  vertex = refl;
  key = refl;
  tag = refl;
  target = refl;
  weight =
      refl;
}

freed_node : (v : Node) → IsSameNode v (record v { mode = Free })
freed_node v = record {
  used = λ u. absurd u;
  fresh = λ h. absurd
      (cc);
  vertex = refl;
  key = refl;
  tag = refl;
  target = refl;
  weight = refl;
}

-- an event writes the second word of a vertex and keeps its life and its mark, or a word that is none of these
at_list : (sizes : Sizes) (past : List Event) (e : Event) (w : ℕ → ℕ) → Contents sizes (state sizes past)
    (word_at sizes past) → IsAfter sizes past e w → e.place < word_count sizes
    → ((x : ℕ) → e.place ≢ key_at sizes x) → ((x : ℕ) → e.place ≢ third_at sizes x) →
    ((x : ℕ) → e.place ≡ second_at sizes x → (node_in sizes past x).vertex ≡ true)
    → tag_of e.word ≡ tag_of (word_at sizes past e.place) → mark_of e.word ≡ mark_of (word_at sizes past e.place) →
    (x : ℕ) → x < sizes.nodes → IsContent sizes (node_in sizes past x) ((state sizes past).frozen x) x w
at_list sizes past e w c a near keys thirds vertex tag mark x t = dite (ℕ_discrete (second_at sizes x) e.place)
    (λ h.
    let here : w (second_at sizes x) ≡ e.word = ap w h ∙ a.here near in
    let old : word_at sizes past (second_at sizes x) ≡ word_at sizes past e.place = ap (word_at sizes past) h in
    let is = vertex x (sym h) in
    record {
      vertex = λ u v. let d = (c.each x t).vertex u v in record {
        key_word = a.else (key_at sizes x) (λ k. keys x (sym k))
            ∙ d.key_word;
        key_fits = d.key_fits;
        second_life = omega
            (arith, here, tag, old, d.second_life);
        second_mark = omega (arith, here, mark, old, d.second_mark);
      };
      edge = λ u v. absurd (cc);
      fresh = (c.each x t).fresh;
    })
    (λ ne. content_same sizes (node_in sizes past x) (node_in sizes past x) _ x (word_at sizes past) w
    (same_node (node_in sizes past x)) (same_words sizes past e w x a (λ k. keys x (sym k)) ne
    (λ k. thirds x (sym k))) (c.each x t))

-- a fresh node is linked, while no word of its own is written
put_linked : (sizes : Sizes) (s : State) (i : ℕ) (v : Node) (w : ℕ → ℕ) →
    ((x : ℕ) → x < sizes.nodes → IsContent sizes (s.node x) (s.frozen x) x w) →
    (i < sizes.nodes → IsContent sizes v (s.frozen i) i w)
    → (x : ℕ) → x < sizes.nodes → IsContent sizes (put i v s.node x) (s.frozen x) x w
put_linked sizes s i v w others new x t = put_case (λ (u : Node). IsContent sizes u (s.frozen x) x w) i v s.node x
    (λ same. subst (λ (y : ℕ). IsContent sizes v (s.frozen y) y w) (sym same) (new (omega (arith, same, t))))
    (λ _. others x t)

contents_step : (sizes : Sizes) → IsLayout sizes → KeepsByKind sizes (Contents sizes)
contents_step sizes z past e kept c PopFree by ok w a = record {
  each = λ x t. put_both (λ (v : Node) (b : Bool). IsContent sizes v b x w) e.life.index _ false (state sizes past).node
      (state sizes past).frozen x
      (λ _. record { vertex = λ u _. absurd u; edge = λ u _. absurd u; fresh = λ _. refl })
      (λ _. content_same sizes _ _ _ x (word_at sizes past) w (same_node (node_in sizes past x))
      (same_words sizes past e w x a (λ h. omega (arith, ok.place, h)) (λ h. omega (arith, ok.place, h))
      (λ h. omega (arith, ok.place, h))) (c.each x t));
}
contents_step sizes z past e kept c StorePrivate by ok w a = record {
  each = λ x t. dite (ℕ_discrete x e.life.index)
      (λ same.
      let m : (node_in sizes past x).mode ≡ Fresh = ap (λ (y : ℕ). (node_in sizes past y).mode) same ∙ ok.fresh.fresh in
      record {
        vertex = λ u _. absurd (subst IsUsed m u);
        edge = λ u _. absurd (subst IsUsed m u);
        fresh =
            (c.each x t).fresh;
      })
      (λ ne. content_same sizes _ _ _ x (word_at sizes past) w (same_node (node_in sizes past x))
      (same_words sizes past e w x a (λ h. ne (omega (arith, ok.place, h))) (λ h. ne (omega (arith, ok.place, h)))
      (λ h. ne (omega (arith, ok.place, h)))) (c.each x t));
}
contents_step sizes z past e kept c LinkVertex by ok w a =
    let i : ℕ = e.life.index in
    let words : (x : ℕ) → x < sizes.nodes → IsSameWords sizes x
    (word_at sizes past) w = λ x t. same_words sizes past e w x a (λ h. omega (arith, ok.place, h))
    (λ h. omega (arith, ok.place, h)) (λ h. omega (arith, ok.place, h)) in
    record {
      each = put_linked sizes (state sizes past) i _ w (λ x t. content_same sizes _ _ _ x (word_at sizes past) w
          (same_node (node_in sizes past x)) (words x t) (c.each x t))
          (λ t. record {
            vertex = λ _ _. record {
              key_word = (words i t).key ∙ ok.filled.key_word;
              key_fits = ok.filled.key_fits;
              second_life = omega (arith, (words i t).second, ok.filled.second_word);
              second_mark = let e0 : mark_of (w (second_at sizes i)) ≡ 0 = omega
                  (arith, (words i t).second, ok.filled.second_word) in e0 ∙ ap mark_bit
                  (sym ((c.each i t).fresh ok.fresh.fresh));
            };
            edge = λ _ h. absurd (cc);
            fresh = λ h. absurd (cc);
          });
    }
contents_step sizes z past e kept c LinkEdge by ok w a =
    let i : ℕ = e.life.index in
    let apart : e.place ≢ second_at sizes i = λ h. let same : e.source.index ≡ i = omega (arith, ok.place, h) in absurd
    (subst IsUsed (ap (λ (y : ℕ). (node_in sizes past y).mode) same ∙ ok.fresh.fresh) ok.source.used) in
    let words : IsSameWords sizes i (word_at sizes past) w = same_words sizes past e w i a
    (λ h. omega (arith, ok.place, h)) (λ h. apart (sym h)) (λ h. omega (arith, ok.place, h)) in
    record {
      each = put_linked sizes (state sizes past) i _ w
          (at_list sizes past e w c a (omega (arith, ok.place, ok.source.there)) (λ x h. omega (arith, ok.place, h))
          (λ x h. omega (arith, ok.place, h))
          (λ x h. let same : x ≡ e.source.index = omega (arith, ok.place, h) in ap
          (λ (y : ℕ). (node_in sizes past y).vertex) same ∙ ok.source.vertex)
          (omega (arith, ok.word, ok.there, z.few_nodes)) (omega (arith, ok.word, ok.there, z.few_nodes, ok.unmarked)))
          (λ t. record {
            vertex = λ _ h. absurd (cc);
            edge = λ _ _. record {
              key_word = words.key ∙ ok.filled.key_word;
              key_fits = ok.filled.key_fits;
              target_word
                  = words.second ∙ ok.filled.second_word;
              weight_word = words.third
                  ∙ ok.filled.third_word;
              some = ok.filled.some;
              weight_fits = ok.filled.weight_fits;
            };
            fresh = λ h. absurd (cc);
          });
    }
contents_step sizes z past e kept c UnlinkEdge by ok w a =
    let i : ℕ = e.life.index in
    let others = at_list sizes past e w c a (omega (arith, ok.place, ok.source.there))
    (λ x h. omega (arith, ok.place, h)) (λ x h. omega (arith, ok.place, h))
    (λ x h. let same : x ≡ (node_in sizes past i).source.index = omega (arith, ok.place, h) in ap
    (λ (y : ℕ). (node_in sizes past y).vertex) same ∙ ok.source.vertex)
    (omega (arith, ok.word)) (omega (arith, ok.word, ok.unmarked)) in
    record {
      each = put_linked sizes (state sizes past) i _ w others
          (λ t. content_same sizes (node_in sizes past i) _ _ i w w
          (spent_node (node_in sizes past i) _ _ _ ok.linked.linked) record
          { key = refl; second = refl; third = refl } (others i t));
    }
contents_step sizes z past e kept c Raise by ok w a = record {
  each = λ x t. dite (ℕ_discrete x e.life.index)
      (λ same. let is : (node_in sizes past x).vertex ≡ true = ap (λ (y : ℕ). (node_in sizes past y).vertex) same
      ∙ ok.vertex.vertex in
      record {
        vertex = λ u v. let d = (c.each x t).vertex u v in record {
          key_word = a.else (key_at sizes x) (λ h. omega (arith, ok.place, h))
              ∙ d.key_word;
          key_fits = d.key_fits;
          second_life = ap tag_of
              (a.else (second_at sizes x) (λ h. omega (arith, ok.place, h))) ∙ d.second_life;
          second_mark = ap mark_of
              (a.else (second_at sizes x) (λ h. omega (arith, ok.place, h))) ∙ d.second_mark;
        };
        edge = λ u v. absurd (cc);
        fresh = (c.each x t).fresh;
      })
      (λ ne. content_same sizes _ _ _ x (word_at sizes past) w (same_node (node_in sizes past x))
      (same_words sizes past e w x a (λ h. omega (arith, ok.place, h)) (λ h. omega (arith, ok.place, h))
      (λ h. ne (omega (arith, ok.place, h)))) (c.each x t));
}
contents_step sizes z past e kept c FreezeHead by ok w a = handed_contents sizes
    (closed_state (state sizes past) e.life.index) e.life.index w record {
      each = λ x t. dite (ℕ_discrete x e.life.index)
          (λ same.
          let v : (node_in sizes past x).vertex ≡ true = ap (λ (y : ℕ). (node_in sizes past y).vertex) same
          ∙ ok.spent.vertex in
          let m : (node_in sizes past x).mode ≡ Spent = ap (λ (y : ℕ). (node_in sizes past y).mode) same ∙
          ok.spent.spent in
          let here : w (second_at sizes x) ≡ e.word = ap w (omega (arith, ok.place, same)) ∙ a.here
          (omega (arith, ok.place, ok.there)) in
          let old : word_at sizes past (second_at sizes x) ≡ word_at sizes past e.place = ap (word_at sizes past)
          (omega (arith, ok.place, same)) in
          record {
            vertex = λ u _. let d = (c.each x t).vertex u v in record {
              key_word = a.else (key_at sizes x) (λ h. omega (arith, ok.place, h)) ∙ d.key_word;
              key_fits = d.key_fits;
              second_life = omega (arith, here, ok.word, old, d.second_life);
              second_mark = put_case (λ (b : Bool). mark_of (w (second_at sizes x)) ≡ mark_bit b) e.life.index true
                  (state sizes past).frozen x (λ _. omega (arith, here, ok.word)) (λ ne. absurd (ne same));
            };
            edge = λ u h. absurd (cc);
            fresh = λ h. absurd (cc);
          })
          (λ ne. put_case (λ (b : Bool). IsContent sizes (node_in sizes past x) b x w) e.life.index true
          (state sizes past).frozen x (λ same. absurd (ne same))
          (λ _. content_same sizes _ _ _ x (word_at sizes past) w (same_node (node_in sizes past x))
          (same_words sizes past e w x a (λ h. omega (arith, ok.place, h)) (λ h. ne (omega (arith, ok.place, h)))
          (λ h. omega (arith, ok.place, h))) (c.each x t)));
    }
contents_step sizes z past e kept c MarkVertex by ok w a = record {
  each = put_contents sizes (state sizes past) (word_at sizes past) w e.life.index _ c
      (marked_node (node_in sizes past e.life.index)) (λ x t. same_words sizes past e w x a
      (λ h. omega (arith, ok.place, h)) (λ h. omega (arith, ok.place, h)) (λ h. omega (arith, ok.place, h)));
}
contents_step sizes z past e kept c UnlinkVertex by ok w a = record {
  each = put_contents sizes (state sizes past) (word_at sizes past) w e.life.index _ c
      (spent_node (node_in sizes past e.life.index) _ _ _ ok.linked.linked)
      (λ x t. same_words sizes past e w x a (λ h. omega (arith, ok.place, h)) (λ h. omega (arith, ok.place, h))
      (λ h. omega (arith, ok.place, h)));
}
contents_step sizes z past e kept c MarkEdge by ok w a = handed_contents sizes
    (marked_state (state sizes past) e.life.index) (node_in sizes past e.life.index).source.index w record {
      each = put_contents sizes (state sizes past) (word_at sizes past) w e.life.index _ c
          (marked_node (node_in sizes past e.life.index)) (λ x t. same_words sizes past e w x a
          (λ h. omega (arith, ok.place, h)) (λ h. omega (arith, ok.place, h)) (λ h. omega (arith, ok.place, h)));
    }
contents_step sizes z past e kept c ReplaceEdge by ok w a =
    let s : State = state sizes past in
    let j : State = joined_edge sizes e s in
    let still : (x : ℕ) → IsSameWords sizes x (word_at sizes past) w = λ x. same_words sizes past e w x a
    (λ h. omega (arith, ok.place, h)) (λ h. omega (arith, ok.place, h)) (λ h. omega (arith, ok.place, h)) in
    let words = still e.life.index in
    let joined : Contents sizes j w = record {
      each = put_linked sizes s e.life.index _ w
          (λ x t. content_same sizes (node_in sizes past x) (node_in sizes past x) _ x (word_at sizes past) w
          (same_node (node_in sizes past x)) (still x) (c.each x t))
          (λ t. record {
            vertex = λ _ h. absurd (cc);
            edge = λ _ _. record {
              key_word = words.key ∙ ok.filled.key_word;
              key_fits = ok.filled.key_fits;
              target_word
                  = words.second ∙ ok.filled.second_word;
              weight_word = words.third
                  ∙ ok.filled.third_word;
              some = ok.filled.some;
              weight_fits = ok.filled.weight_fits;
            };
            fresh = λ h. absurd (cc);
          });
    } in
    handed_contents sizes (marked_state j e.old.index) (j.node e.old.index).source.index w record {
      each = put_contents sizes j w w e.old.index _ joined (marked_node (j.node e.old.index))
          (λ x t. record { key = refl; second = refl; third = refl });
    }
contents_step sizes z past e kept c FreezeEdge by ok w a = handed_contents sizes
    (marked_state (state sizes past) e.life.index) (node_in sizes past e.life.index).source.index w record {
      each = put_contents sizes (state sizes past) (word_at sizes past) w e.life.index _ c
          (marked_node (node_in sizes past e.life.index)) (λ x t. same_words sizes past e w x a
          (λ h. omega (arith, ok.place, h)) (λ h. omega (arith, ok.place, h)) (λ h. omega (arith, ok.place, h)));
    }
contents_step sizes z past e kept c StoreFree by ok w a = record {
  each = put_contents sizes (state sizes past) (word_at sizes past) w e.life.index _ c
      (stored_node (node_in sizes past e.life.index)) (λ x t. same_words sizes past e w x a
      (λ h. omega (arith, ok.place, h)) (λ h. omega (arith, ok.place, h)) (λ h. omega (arith, ok.place, h)));
}
contents_step sizes z past e kept c PushFree by ok w a = record {
  each = put_contents sizes (state sizes past) (word_at sizes past) w e.life.index _ c
      (freed_node (node_in sizes past e.life.index)) (λ x t. same_words sizes past e w x a
      (λ h. omega (arith, ok.place, h)) (λ h. omega (arith, ok.place, h)) (λ h. omega (arith, ok.place, h)));
}
contents_step sizes z past e kept c _ by ok w a = record {
  each = λ x t. content_same sizes _ _ _ x (word_at sizes past) w (same_node (node_in sizes past x))
      (same_words sizes past e w x a (λ h. omega (arith, ok.place, ok.there, h))
      (λ h. omega (arith, ok.place, ok.there, h)) (λ h. omega (arith, ok.place, ok.there, h))) (c.each x t);
}

-- the words of nodes after each kept journal
pub contents : (sizes : Sizes) → IsLayout sizes → (journal : List Event) → IsKept sizes journal → Contents sizes
    (state sizes journal) (word_at sizes journal)
contents sizes z journal kept = holds_all sizes (Contents sizes) (contents_step sizes z)
    (record { each = λ x t. record { vertex = λ u _. absurd u; edge = λ u _. absurd u; fresh = λ h. absurd (cc) } })
    journal kept
