-- What a node says of its life is what the events of the journal say.
use Rattle.std.proofs.Common.{◌≡◌, ◌≢◌, ℕ, ◌<◌, Bool, true, false, cond, ◌&&◌, ◌||◌, List, [], ◌∷◌, ◌++◌, length}
use Rattle.std.proofs.Common.{filter, find, Option, Some, None, refl, sym, ap, ◌∙◌, subst, arith}
use Rattle.std.specs.Prelude.{option_map}
use Rattle.std.specs.List.{list_any}
use Rattle.packed_link.specs.Layout.{Sizes, IsLayout}
use Rattle.packed_link.specs.declared.link.Life.{Life}
use Rattle.core_journal.specs.declared.event.Kind.{Kind}
use Rattle.core_journal.specs.declared.event.Kind.TheVariants.{PopFree, LinkVertex, MarkVertex, UnlinkVertex, LinkEdge}
use Rattle.core_journal.specs.declared.event.Kind.TheVariants.{MarkEdge, UnlinkEdge, FreezeHead, FreezeEdge, StoreFree}
use Rattle.core_journal.specs.declared.event.Kind.TheVariants.{PushFree, ReplaceEdge}
use Rattle.core_journal.specs.declared.event.Event.{Event}
use Rattle.core_journal.specs.Event.{same_life, links_vertex, marks_vertex, links_edge, marks_edge, cuts_edge, cut_life}
use Rattle.core_journal.specs.Event.{replaces}
use Rattle.core_journal.specs.Changes.{is_idle}
use Rattle.core_journal.specs.Life.{key_of, link_of, vertex_marked, edge_marked}
use Rattle.core_journal.specs.State.{Fresh, Linked, Spent, Node, State, put, handed, state_by, state}
use Rattle.core_journal.proofs.Snoc.{find_last, idle_is, key_skip, key_else, link_skip, link_else, marked_skip}
use Rattle.core_journal.proofs.Snoc.{marked_else, marked_here, cut_skip, cut_else, cut_here, own_here}
use Rattle.core_kept.specs.Counts.{about}
use Rattle.core_kept.specs.Kept.{IsKept}
use Rattle.core_kept.specs.Nodes.{node_in, IsUsed}
use Rattle.core_kept.specs.Facts.{IsNewLife, IsNamed, Named}
use Rattle.core_kept.proofs.ByKind.{KeepsIn, put_case, handed_case, marked_state, closed_state, all_in}
use Rattle.core_kept.proofs.LinkWords.{link_words, taken}
use Rattle.core_kept.proofs.PastLives.{other_index, this_life, lives}
use Rattle.core_kept.proofs.ReplaceCases.{new_edge_node, new_unmarked, replaced_case}
use Rattle.core_kept.proofs.Replaced.{old_apart}

-- where no event of some kinds is about a life, none is found
none_about : (test : Kind → Bool) (x : Life) (journal : List Event) → about test x journal ≡ 0 → find
    (λ (e : Event). test e.kind && same_life x e.life) journal ≡ None
none_about test x [] h = refl
none_about test x (e ∷ es) h = by (none_about test x es) (test e.kind && same_life x e.life) h
  where
    by : (about test x es ≡ 0 → find (λ (e : Event). test e.kind && same_life x e.life) es ≡ None) → (b : Bool) → length
        (cond b (e ∷ filter (λ (e : Event). test e.kind && same_life x e.life) es)
        (filter (λ (e : Event). test e.kind && same_life x e.life) es)) ≡ 0 → cond b (Some e)
        (find (λ (e : Event). test e.kind && same_life x e.life) es) ≡ None
    by more true h = absurd (omega (arith, h))
    by more false h = more h

pub none_any : (test : Kind → Bool) (x : Life) (journal : List Event) → about test x journal ≡ 0 → list_any
    (λ (e : Event). test e.kind && same_life x e.life) journal ≡ false
none_any test x [] h = refl
none_any test x (e ∷ es) h = by (none_any test x es) (test e.kind && same_life x e.life) h
  where
    by : (about test x es ≡ 0 → list_any (λ (e : Event). test e.kind && same_life x e.life) es ≡ false) → (b : Bool)
        → length (cond b (e ∷ filter (λ (e : Event). test e.kind && same_life x e.life) es)
        (filter (λ (e : Event). test e.kind && same_life x e.life) es)) ≡ 0 →
        (b || list_any (λ (e : Event). test e.kind && same_life x e.life) es) ≡ false
    by more true h = absurd (omega (arith, h))
    by more false h = more h

new_life : (journal : List Event) (x : Life) → ((test : Kind → Bool) → about test x journal ≡ 0)
    → edge_marked journal x ≡ false → IsNewLife journal x
unfolding key_of link_of
new_life journal x h cut = record {
  key = ap (option_map (λ (e : Event). e.key)) (none_about links_vertex x journal (h links_vertex));
  link = none_about links_edge x journal (h links_edge);
  vertex = none_any marks_vertex x journal (h marks_vertex);
  edge = cut;
}

-- a longer journal tells the same of a life
record IsSameTold (past longer : List Event) (x : Life) : Type 0 where
  pub key : key_of longer x ≡ key_of past x
  pub link : link_of longer x ≡ link_of past x
  pub vertex : vertex_marked longer x ≡ vertex_marked past x
  pub edge : edge_marked longer x ≡ edge_marked past x

told_else : (past : List Event) (e : Event) (x : Life) → same_life x e.life ≡ false → same_life x (cut_life e) ≡ false
    → IsSameTold past (past ++ e ∷ []) x
told_else past e x h g = record {
  key = key_else past e x h;
  link = link_else past e x h;
  vertex = marked_else past e x
      h;
  edge = cut_else past e x g;
}

told_idle : (past : List Event) (e : Event) (x : Life) → is_idle e.kind ≡ true → IsSameTold past (past ++ e ∷ []) x
told_idle past e x h = let i = idle_is e.kind h in record {
  key = key_skip past e i.links x;
  link = link_skip past e
      i.joins x;
  vertex = marked_skip past e i.marks x;
  edge = cut_skip past e i.cuts x;
}

-- a node says the same of its life
record IsSameName (v v' : Node) : Type 0 where
  pub used : IsUsed v'.mode → IsUsed v.mode
  pub fresh : v'.mode ≡ Fresh → v.mode ≡ Fresh
  pub vertex : v'.vertex ≡ v.vertex
  pub marked : v'.marked ≡ v.marked
  pub key : v'.key ≡ v.key
  pub source : v'.source ≡ v.source
  pub target : v'.target ≡ v.target
  pub weight : v'.weight ≡ v.weight
  pub tag : v'.tag ≡ v.tag

named_same : (past longer : List Event) (v v' : Node) (x : ℕ) → IsSameTold past longer
    (record { index = x; tag = v.tag }) → IsSameName v v' → IsNamed past v x → IsNamed longer v' x
named_same past longer v v' x t n c = record {
  vertex_key = λ u b. ap (λ (y : ℕ). key_of longer (record { index = x; tag = y })) n.tag ∙
      (t.key ∙ (c.vertex_key (n.used u) (sym n.vertex ∙ b) ∙ ap Some (sym n.key)));
  vertex_mark = λ u b. ap (λ (y : ℕ). vertex_marked longer (record { index = x; tag = y })) n.tag ∙
      (t.vertex ∙ (c.vertex_mark (n.used u) (sym n.vertex ∙ b) ∙ sym n.marked));
  edge_link = λ u b. let d = c.edge_link (n.used u) (sym n.vertex ∙ b) in record {
    link = d.link;
    is = ap (λ (y : ℕ). link_of longer (record { index = x; tag = y })) n.tag ∙
        (t.link ∙ d.is);
    from = d.from ∙ sym n.source;
    to = d.to ∙ sym n.target;
    of_key = d.of_key
        ∙ sym n.key;
    of_weight = d.of_weight ∙ sym n.weight;
  };
  edge_mark = λ u b. ap (λ (y : ℕ). edge_marked longer (record { index = x; tag = y })) n.tag ∙
      (t.edge ∙ (c.edge_mark (n.used u) (sym n.vertex ∙ b) ∙ sym n.marked));
  new = λ m. let d = c.new (n.fresh m) in record {
    key = ap (λ (y : ℕ). key_of longer (record { index = x; tag = y })) n.tag ∙ (t.key ∙ d.key);
    link = ap (λ (y : ℕ). link_of longer (record { index = x; tag = y })) n.tag ∙ (t.link ∙ d.link);
    vertex = ap (λ (y : ℕ). vertex_marked longer (record { index = x; tag = y })) n.tag ∙ (t.vertex ∙ d.vertex);
    edge = ap (λ (y : ℕ). edge_marked longer (record { index = x; tag = y })) n.tag ∙ (t.edge ∙ d.edge);
  };
}

same_name : (v : Node) → IsSameName v v
same_name v = record {
  used = λ u. u;
  fresh = λ m. m;
  vertex = refl;
  marked = refl;
  key = refl;
  source = refl;
  target =
      refl;
  weight = refl;
  tag = refl;
}

spent_name : (v : Node) (who ended epoch : ℕ) → v.mode ≡ Linked → IsSameName v
    (record v { mode = Spent; who = who; ended = ended; epoch = epoch })
spent_name v who ended epoch m = record {
  used = λ _. subst IsUsed (sym m) tt;
  fresh = λ h. absurd
      (cc);
  vertex = refl;
  marked = refl;
  key = refl;
  source = refl;
  target = refl;
  weight = refl;
  tag = refl;
}

-- the node that an event is about changes, and no event tells anything of another
put_named : (sizes : Sizes) (past : List Event) (e : Event) (v : Node) → cut_life e ≡ e.life → Named sizes past
    (state sizes past) → (e.life.index < sizes.nodes → IsNamed (past ++ e ∷ []) v e.life.index) → (x : ℕ)
    → x < sizes.nodes → IsNamed (past ++ e ∷ []) (put e.life.index v (state sizes past).node x) x
put_named sizes past e v own c new x t = put_case (λ (u : Node). IsNamed (past ++ e ∷ []) u x) e.life.index v
    (state sizes past).node x
    (λ same. subst (λ (y : ℕ). IsNamed (past ++ e ∷ []) v y) (sym same) (new (omega (arith, same, t))))
    (λ ne. named_same past (past ++ e ∷ []) _ _ x (told_else past e _ (other_index _ e.life ne)
    (ap (same_life _) own ∙ other_index _ e.life ne)) (same_name (node_in sizes past x)) (c.each x t))

handed_named : (sizes : Sizes) (journal : List Event) (s : State) (v : ℕ) → Named sizes journal s → Named sizes journal
    (handed v s)
handed_named sizes journal s v c = record {
  each = λ x t. handed_case (λ (u : Node). IsNamed journal u x) s v x (c.each x t)
      (λ m _ _. named_same journal journal (s.node x) _ x record { key = refl; link = refl; vertex = refl; edge = refl }
      (spent_name (s.node x) _ _ _ m) (c.each x t));
}

-- the life of an event, by its node
pub life_is : (y : Life) (x t : ℕ) → y.index ≡ x → y.tag ≡ t → y ≡ record { index = x; tag = t }
life_is y x t p q = λ i. record { index = p i; tag = q i }

-- the first link of a life is the one that is found
pub key_first : (past : List Event) (e : Event) (y : Life) → key_of past y ≡ None → links_vertex e.kind ≡ true
    → same_life y e.life ≡ true → key_of (past ++ e ∷ []) y ≡ Some e.key
unfolding key_of
key_first past e y none k s = ap (option_map (λ (d : Event). d.key))
    (find_last (λ (d : Event). links_vertex d.kind && same_life y d.life) past e (unmapped _ none)
    (ap (λ (b : Bool). b && same_life y e.life) k ∙ s))
  where
    unmapped : (o : Option Event) → option_map (λ (d : Event). d.key) o ≡ None → o ≡ None
    unmapped None h = refl
    unmapped (Some d) h = absurd (cc)

pub link_first : (past : List Event) (e : Event) (y : Life) → link_of past y ≡ None → links_edge e.kind ≡ true
    → same_life y e.life ≡ true → link_of (past ++ e ∷ []) y ≡ Some e
unfolding link_of
link_first past e y none k s = find_last (λ (d : Event). links_edge d.kind && same_life y d.life) past e none
    (ap (λ (b : Bool). b && same_life y e.life) k ∙ s)

-- an edge is marked
cut_now : (past : List Event) (e : Event) (v : Node) → v.mode ≡ Linked → v.vertex ≡ false → e.life.tag ≡ v.tag
    → links_edge e.kind ≡ false → marks_edge e.kind ≡ true → IsNamed past v e.life.index → IsNamed (past ++ e ∷ [])
    (record v { marked = true }) e.life.index
cut_now past e v m edge life links cuts c =
    let L : Life = record { index = e.life.index; tag = v.tag } in
    record {
      vertex_key = λ _ h. absurd (cc);
      vertex_mark = λ _ h. absurd (cc);
      edge_link = λ u b. let d = c.edge_link u b in record {
        link = d.link;
        is = link_skip past e links L
            ∙ d.is;
        from = d.from;
        to = d.to;
        of_key = d.of_key;
        of_weight = d.of_weight;
      };
      edge_mark = λ _ _. subst (λ (y : Life). edge_marked (past ++ e ∷ []) y ≡ true)
          (life_is e.life e.life.index v.tag refl life) (own_here past e cuts);
      new = λ h. absurd (cc);
    }

named_step : (sizes : Sizes) → IsLayout sizes → KeepsIn sizes
    (λ (j : List Event) (s : State) (w : ℕ → ℕ). Named sizes j s)
named_step sizes z past e kept c PopFree is ok w a = record {
  each = put_named sizes past e _ (ap (λ (k : Kind). cond (replaces k) e.old e.life) is) c (λ t. record {
    vertex_key = λ u _. absurd u;
    vertex_mark = λ u _. absurd u;
    edge_link = λ u _. absurd u;
    edge_mark = λ u _. absurd u;
    new = λ _.
        let y : Life = record { index = e.life.index; tag = e.life.tag } in
        let later = (taken sizes z past e kept ok).tag in
        let d = new_life past y (λ test. (lives sizes z past kept).later test y (omega (arith, later)))
        ((lives sizes z past kept).cut y (omega (arith, later))) in
        let s = told_idle past e y (ap is_idle is) in
        record { key = s.key ∙ d.key; link = s.link ∙ d.link; vertex = s.vertex ∙ d.vertex; edge = s.edge ∙ d.edge };
  });
}
named_step sizes z past e kept c LinkVertex is ok w a = record {
  each = put_named sizes past e _ (ap (λ (k : Kind). cond (replaces k) e.old e.life) is) c (λ t.
      let L : Life = record { index = e.life.index; tag = (node_in sizes past e.life.index).tag } in
      let d = (c.each e.life.index t).new ok.fresh.fresh in
      let u = (((link_words sizes z past kept).each e.life.index t).unmarked ok.fresh.fresh).0 in
      record {
        vertex_key = λ _ _. key_first past e L d.key (ap links_vertex is) (this_life L e.life refl (sym ok.life));
        vertex_mark = λ _ _. marked_skip past e (ap marks_vertex is) L ∙ (d.vertex ∙ sym u);
        edge_link = λ _ h. absurd (cc);
        edge_mark = λ _ h. absurd (cc);
        new = λ h. absurd (cc);
      });
}
named_step sizes z past e kept c LinkEdge is ok w a = record {
  each = put_named sizes past e _ (ap (λ (k : Kind). cond (replaces k) e.old e.life) is) c (λ t.
      let L : Life = record { index = e.life.index; tag = (node_in sizes past e.life.index).tag } in
      let d = (c.each e.life.index t).new ok.fresh.fresh in
      let u = (((link_words sizes z past kept).each e.life.index t).unmarked ok.fresh.fresh).0 in
      record {
        vertex_key = λ _ h. absurd (cc);
        vertex_mark = λ _ h. absurd (cc);
        edge_link = λ _ _. record {
          link = e;
          is = link_first past e L d.link (ap links_edge is)
              (this_life L e.life refl (sym ok.life));
          from = refl;
          to = refl;
          of_key = refl;
          of_weight = refl;
        };
        edge_mark = λ _ _. cut_skip past e (ap cuts_edge is) L ∙ (d.edge ∙ sym u);
        new = λ h. absurd (cc);
      });
}
named_step sizes z past e kept c MarkVertex is ok w a = record {
  each = put_named sizes past e _ (ap (λ (k : Kind). cond (replaces k) e.old e.life) is) c (λ t.
      let L : Life = record { index = e.life.index; tag = (node_in sizes past e.life.index).tag } in
      let m = ok.linked.linked in
      let v = ok.linked.vertex in
      record {
        vertex_key = λ u b. key_skip past e (ap links_vertex is) L ∙ (c.each e.life.index t).vertex_key u b;
        vertex_mark = λ _ _. subst (λ (y : Life). vertex_marked (past ++ e ∷ []) y ≡ true)
            (life_is e.life e.life.index (node_in sizes past e.life.index).tag refl ok.life)
            (marked_here past e (ap marks_vertex is));
        edge_link = λ _ h. absurd (cc);
        edge_mark = λ _ h. absurd (cc);
        new = λ h. absurd (cc);
      });
}
named_step sizes z past e kept c ReplaceEdge is ok w a = record { each = λ x t. by x t }
  where
    J : List Event
    J = past ++ e ∷ []

    new : Node
    new = new_edge_node (node_in sizes past e.life.index) e (state sizes past).count

    old : Node
    old = record (node_in sizes past e.old.index) { marked = true }

    which : cut_life e ≡ e.old
    which = ap (λ (k : Kind). cond (replaces k) e.old e.life) is

    linked_now : IsNamed J new e.life.index
    linked_now =
        let L : Life = record { index = e.life.index; tag = (node_in sizes past e.life.index).tag } in
        let d = (c.each e.life.index ok.there).new ok.fresh.fresh in
        record {
          vertex_key = λ _ h. absurd (cc);
          vertex_mark = λ _ h. absurd (cc);
          edge_link = λ _ _. record {
            link = e;
            is = link_first past e L d.link (ap links_edge is)
                (this_life L e.life refl (sym ok.life));
            from = refl;
            to = refl;
            of_key = refl;
            of_weight = refl;
          };
          edge_mark = λ _ _. cut_else past e L (ap (same_life L) which ∙ other_index L e.old
              (λ h. old_apart sizes past e ok (sym h))) ∙ (d.edge ∙ sym (new_unmarked sizes z past e kept ok));
          new = λ h. absurd (cc);
        }

    marked_now : IsNamed J old e.old.index
    marked_now =
        let L : Life = record { index = e.old.index; tag = (node_in sizes past e.old.index).tag } in
        let m = ok.linked.linked in
        let v = ok.linked.edge in
        record {
          vertex_key = λ _ h. absurd (cc);
          vertex_mark = λ _ h. absurd (cc);
          edge_link = λ u b.
              let d = (c.each e.old.index ok.old_there).edge_link u b in
              record {
                link = d.link;
                is = link_else past e L (other_index L e.life (old_apart sizes past e ok))
                    ∙ d.is;
                from = d.from;
                to = d.to;
                of_key = d.of_key;
                of_weight = d.of_weight;
              };
          edge_mark = λ _ _. subst (λ (y : Life). edge_marked J y ≡ true)
              (which ∙ life_is e.old e.old.index (node_in sizes past e.old.index).tag refl ok.old_life)
              (cut_here past e (ap cuts_edge is));
          new = λ h. absurd (cc);
        }

    before : (x : ℕ) → x < sizes.nodes → x ≢ e.life.index → IsNamed J
        ((marked_state (state sizes past) e.old.index).node x) x
    before x t ne = put_case (λ (u : Node). IsNamed J u x) e.old.index old (state sizes past).node x
        (λ same. subst (λ (y : ℕ). IsNamed J old y) (sym same) marked_now)
        (λ other. named_same past J _ _ x (told_else past e _ (other_index _ e.life ne)
        (ap (same_life _) which ∙ other_index _ e.old other)) (same_name (node_in sizes past x)) (c.each x t))

    by : (x : ℕ) → x < sizes.nodes → IsNamed J ((state_by ReplaceEdge sizes e (state sizes past)).node x) x
    by x t = replaced_case sizes z past e kept ok (λ (u : Node). IsNamed J u x) x
        (λ same. subst (λ (y : ℕ). IsNamed J new y) (sym same) linked_now)
        (λ ne. before x t ne)
        (λ ne m _ _. named_same J J ((marked_state (state sizes past) e.old.index).node x) _ x record
        { key = refl; link = refl; vertex = refl; edge = refl }
        (spent_name ((marked_state (state sizes past) e.old.index).node x) _ _ _ m) (before x t ne))
named_step sizes z past e kept c MarkEdge is ok w a = handed_named sizes (past ++ e ∷ [])
    (marked_state (state sizes past) e.life.index) (node_in sizes past e.life.index).source.index record {
      each = put_named sizes past e _ (ap (λ (k : Kind). cond (replaces k) e.old e.life) is) c
          (λ t. cut_now past e (node_in sizes past e.life.index) ok.linked.linked ok.linked.edge ok.life
          (ap links_edge is)
          (ap marks_edge is) (c.each e.life.index t));
    }
named_step sizes z past e kept c FreezeEdge is ok w a = handed_named sizes (past ++ e ∷ [])
    (marked_state (state sizes past) e.life.index) (node_in sizes past e.life.index).source.index record {
      each = put_named sizes past e _ (ap (λ (k : Kind). cond (replaces k) e.old e.life) is) c
          (λ t. cut_now past e (node_in sizes past e.life.index) ok.linked.linked ok.linked.edge ok.life
          (ap links_edge is)
          (ap marks_edge is) (c.each e.life.index t));
    }
named_step sizes z past e kept c UnlinkVertex is ok w a = record {
  each = put_named sizes past e _ (ap (λ (k : Kind). cond (replaces k) e.old e.life) is) c
      (λ t. named_same past (past ++ e ∷ []) (node_in sizes past e.life.index) _ e.life.index
      (told_idle past e _ (ap is_idle is)) (spent_name (node_in sizes past e.life.index) _ _ _ ok.linked.linked)
      (c.each e.life.index t));
}
named_step sizes z past e kept c UnlinkEdge is ok w a = record {
  each = put_named sizes past e _ (ap (λ (k : Kind). cond (replaces k) e.old e.life) is) c
      (λ t. named_same past (past ++ e ∷ []) (node_in sizes past e.life.index) _ e.life.index
      (told_idle past e _ (ap is_idle is)) (spent_name (node_in sizes past e.life.index) _ _ _ ok.linked.linked)
      (c.each e.life.index t));
}
named_step sizes z past e kept c StoreFree is ok w a = record {
  each = put_named sizes past e _ (ap (λ (k : Kind). cond (replaces k) e.old e.life) is) c
      (λ t. named_same past (past ++ e ∷ []) (node_in sizes past e.life.index) _ e.life.index
      (told_idle past e _ (ap is_idle is)) record {
        used = λ u. u;
        fresh = λ m. m;
        vertex = refl;
        marked = refl;
        key =
            refl;
        source = refl;
        target = refl;
        weight = refl;
        tag = refl;
      } (c.each e.life.index t));
}
named_step sizes z past e kept c PushFree is ok w a = record {
  each = put_named sizes past e _ (ap (λ (k : Kind). cond (replaces k) e.old e.life) is) c
      (λ t. named_same past (past ++ e ∷ []) (node_in sizes past e.life.index) _ e.life.index
      (told_idle past e _ (ap is_idle is)) record {
        used = λ u. absurd u;
        fresh = λ h. absurd
            (cc);
        vertex = refl;
        marked = refl;
        key = refl;
        source = refl;
        target = refl;
        weight = refl;
        tag = refl;
      }
      (c.each e.life.index t));
}
named_step sizes z past e kept c FreezeHead is ok w a = handed_named sizes (past ++ e ∷ [])
    (closed_state (state sizes past) e.life.index) e.life.index record {
      each = λ x t. named_same past (past ++ e ∷ []) _ _ x (told_idle past e _ (ap is_idle is))
          (same_name (node_in sizes past x)) (c.each x t);
    }
named_step sizes z past e kept c _ is ok w a = record {
  each = λ x t. named_same past (past ++ e ∷ []) _ _ x
      (told_idle past e _ (ap is_idle is)) (same_name (node_in sizes past x)) (c.each x t);
}

-- what a node says of its life after each kept journal
pub named : (sizes : Sizes) → IsLayout sizes → (journal : List Event) → IsKept sizes journal → Named sizes journal
    (state sizes journal)
named sizes z journal kept = all_in sizes (λ (j : List Event) (s : State) (w : ℕ → ℕ). Named sizes j s)
    (named_step sizes z)
    (record {
      each = λ x t. record {
        vertex_key = λ u _. absurd u;
        vertex_mark = λ u _. absurd u;
        edge_link = λ u _.
            absurd u;
        edge_mark = λ u _. absurd u;
        new = λ h. absurd (cc);
      };
    }) journal kept
