-- What each node tells of the events of its life: whether it was taken, unlinked, closed and given back.
use Rattle.std.proofs.Common.{◌≡◌, ◌≢◌, ℕ, ◌<◌, ◌≤◌, Bool, true, false, List, [], ◌∷◌, ◌++◌, refl, sym, ap, ◌∙◌, subst}
use Rattle.std.proofs.Common.{arith}
use Rattle.graph_kinds.specs.Levels.{stands_in}
use Rattle.packed_link.specs.Layout.{Sizes, IsLayout}
use Rattle.packed_link.specs.declared.link.Life.{Life}
use Rattle.core_journal.specs.Event.{pushes, unlinks_vertex}
use Rattle.core_journal.specs.declared.event.Kind.{Kind}
use Rattle.core_journal.specs.declared.event.Kind.TheVariants.{PopFree, LinkVertex, MarkVertex, UnlinkVertex, LinkEdge}
use Rattle.core_journal.specs.declared.event.Kind.TheVariants.{MarkEdge, UnlinkEdge, FreezeHead, FreezeEdge, StoreFree}
use Rattle.core_journal.specs.declared.event.Kind.TheVariants.{PushFree, ReplaceEdge}
use Rattle.core_journal.specs.declared.event.Event.{Event}
use Rattle.core_journal.specs.Event.{unlinks, freezes_head}
use Rattle.core_journal.specs.State.{frozen_part, Mode, Free, Fresh, Linked, Spent, Node, State, put, handed}
use Rattle.core_journal.specs.State.{joined_edge, state_by, state}
use Rattle.core_journal.specs.Event.{pops}
use Rattle.core_kept.specs.Counts.{about}
use Rattle.core_kept.specs.Kept.{IsKept}
use Rattle.core_kept.specs.Nodes.{node_in}
use Rattle.core_kept.proofs.ByKind.{KeepsIn, put_case, put_both, handed_case, marked_state, closed_state, all_in}
use Rattle.core_kept.proofs.LinkWords.{taken}
use Rattle.core_kept.proofs.PastLives.{about-snoc, about_other, about_else, about_this, other_index, this_life, lives}
use Rattle.core_kept.proofs.LinkedVertices.{life_of}
use Rattle.core_kept.proofs.NodesInPlace.{on_lists, marked_lists, joined_lists, frozen_stands}
use Rattle.core_kept.proofs.ReplaceCases.{new_edge_node, else_marked, replaced_case}

-- a node that wasn't unlinked in its life
abbrev pub is_early : Mode → Bool
is_early Fresh = true
is_early Linked = true
is_early _ = false

pub record IsTold (journal : List Event) (x : ℕ) (v : Node) (frozen : Bool) : Type 0 where
  pub taken : v.mode ≢ Free → 1 ≤ about pops (life_of x v) journal
  pub unlinked : is_early v.mode ≡ true → about unlinks (life_of x v) journal ≡ 0
  pub unclosed : v.mode ≢ Free → frozen ≡ false → about freezes_head (life_of x v) journal ≡ 0
  pub closed : frozen ≡ true → 1 ≤ about freezes_head (life_of x v) journal
  pub back : v.mode ≢ Free → about pushes (life_of x v) journal ≡ 0
  pub spent : v.mode ≡ Spent → v.vertex ≡ true → 1 ≤ about unlinks_vertex (life_of x v) journal

pub record Told (journal : List Event) (s : State) : Type 0 where
  pub each : (x : ℕ) → IsTold journal x (s.node x) (s.frozen x)

-- a node in the same life
record IsOnward (v v' : Node) : Type 0 where
  pub tag : v'.tag ≡ v.tag
  pub used : v'.mode ≢ Free → v.mode ≢ Free
  pub early : is_early v'.mode ≡ true → is_early v.mode ≡ true
  pub spent : v'.mode ≡ Spent → v'.vertex ≡ true → (v.mode ≡ Spent) × (v.vertex ≡ true)

pub about_more : (test : Kind → Bool) (x : Life) (past : List Event) (e : Event) → about test x past ≤ about test x
    (past ++ e ∷ [])
about_more test x past e = omega (arith, about-snoc test x past e)

at_tag : (test : Kind → Bool) (x : ℕ) (v v' : Node) (journal : List Event) → v'.tag ≡ v.tag → about test
    (life_of x v') journal ≡ about test (life_of x v) journal
at_tag test x v v' journal t = ap (λ (n : ℕ). about test (record { index = x; tag = n }) journal) t

-- the node moves on, with what was counted of its life
told_on : (journal : List Event) (x : ℕ) (v v' : Node) (f f' : Bool) → IsOnward v v' → f' ≡ f → IsTold journal x v f
    → IsTold journal x v' f'
told_on journal x v v' f f' o same c = record {
  taken = λ m. omega (arith, at_tag pops x v v' journal o.tag, c.taken (o.used m));
  unlinked = λ m. at_tag unlinks x v v' journal o.tag ∙ c.unlinked (o.early m);
  unclosed = λ m h. at_tag freezes_head x v v' journal o.tag ∙ c.unclosed (o.used m) (sym same ∙ h);
  closed = λ h. omega (arith, at_tag freezes_head x v v' journal o.tag, c.closed (sym same ∙ h));
  back = λ m. at_tag pushes x v v' journal o.tag ∙ c.back (o.used m);
  spent = λ m w. let g = o.spent m w in omega (arith, at_tag unlinks_vertex x v v' journal o.tag, c.spent g.0 g.1);
}

-- an event of another kind
told_other : (past : List Event) (e : Event) (x : ℕ) (v : Node) (f : Bool) → unlinks e.kind ≡ false
    → freezes_head e.kind ≡ false → pushes e.kind ≡ false → IsTold past x v f → IsTold (past ++ e ∷ []) x v f
told_other past e x v f a b d c = record {
  taken = λ m. omega (arith, about_more pops (life_of x v) past e, c.taken m);
  unlinked = λ m. about_other unlinks (life_of x v) past e a ∙ c.unlinked m;
  unclosed = λ m h. about_other freezes_head (life_of x v) past e b ∙ c.unclosed m h;
  closed = λ h. omega (arith, about_more freezes_head (life_of x v) past e, c.closed h);
  back = λ m. about_other pushes (life_of x v) past e d ∙ c.back m;
  spent = λ m w. omega (arith, about_more unlinks_vertex (life_of x v) past e, c.spent m w);
}

-- an event about another node
told_else : (past : List Event) (e : Event) (x : ℕ) (v : Node) (f : Bool) → x ≢ e.life.index → IsTold past x v f
    → IsTold (past ++ e ∷ []) x v f
told_else past e x v f ne c =
    let other = other_index (life_of x v) e.life ne in
    record {
      taken = λ m. omega (arith, about_more pops (life_of x v) past e, c.taken m);
      unlinked = λ m. about_else unlinks (life_of x v) past e other ∙ c.unlinked m;
      unclosed = λ m h. about_else freezes_head (life_of x v) past e other ∙ c.unclosed m h;
      closed = λ h. omega (arith, about_more freezes_head (life_of x v) past e, c.closed h);
      back = λ m. about_else pushes (life_of x v) past e other ∙ c.back m;
      spent = λ m w. omega (arith, about_more unlinks_vertex (life_of x v) past e, c.spent m w);
    }

-- one node moves on by an event of another kind
put_told : (sizes : Sizes) (past : List Event) (e : Event) (v : Node) → unlinks e.kind ≡ false
    → freezes_head e.kind ≡ false → pushes e.kind ≡ false → IsOnward (node_in sizes past e.life.index) v → Told past
    (state sizes past)
    → (x : ℕ) → IsTold (past ++ e ∷ []) x (put e.life.index v (state sizes past).node x) ((state sizes past).frozen x)
put_told sizes past e v a b d o c x = put_case (λ (u : Node). IsTold (past ++ e ∷ []) x u ((state sizes past).frozen x))
    e.life.index v (state sizes past).node x
    (λ same. told_on (past ++ e ∷ []) x (node_in sizes past x) v _ _
    (subst (λ (y : ℕ). IsOnward (node_in sizes past y) v) (sym same) o) refl
    (told_other past e x (node_in sizes past x) _ a b d (c.each x)))
    (λ _. told_other past e x (node_in sizes past x) _ a b d (c.each x))

-- the frozen part of a list is handed over
handed_told : (journal : List Event) (s : State) (i x : ℕ) → (stands_in (frozen_part s i) x ≡ true →
    (s.node x).vertex ≡ false) → IsTold journal x (s.node x) (s.frozen x) → IsTold journal x ((handed i s).node x)
    (s.frozen x)
handed_told journal s i x on c = handed_case (λ (u : Node). IsTold journal x u (s.frozen x)) s i x c
    (λ m _ listed. told_on journal x (s.node x) _ _ _ (record {
      tag = refl;
      used = λ _ h. absurd (cc);
      early = λ h. absurd (cc);
      spent = λ _ w. let no = on listed in absurd
          (cc);
    }) refl c)

-- a node is unlinked
unlinked_told : (sizes : Sizes) (past : List Event) (e : Event) (v : Node) → freezes_head e.kind ≡ false
    → pushes e.kind ≡ false → v.mode ≡ Spent → v.tag ≡ (node_in sizes past e.life.index).tag →
    (node_in sizes past e.life.index).mode ≡ Linked → (v.vertex ≡ true → unlinks_vertex e.kind ≡ true) → e.life.tag ≡
    (node_in sizes past e.life.index).tag → Told past (state sizes past)
    → (x : ℕ) → IsTold (past ++ e ∷ []) x (put e.life.index v (state sizes past).node x) ((state sizes past).frozen x)
unlinked_told sizes past e v b d spent tag was kind life c x = put_case
    (λ (u : Node). IsTold (past ++ e ∷ []) x u ((state sizes past).frozen x)) e.life.index v (state sizes past).node x
    (λ same.
    let u : Node = node_in sizes past x in
    let t : v.tag ≡ u.tag = tag ∙ ap (λ (y : ℕ). (node_in sizes past y).tag) (sym same) in
    let m : u.mode ≡ Linked = ap (λ (y : ℕ). (node_in sizes past y).mode) same ∙ was in
    let h = c.each x in
    record {
      taken = λ _. omega (
        arith,
        at_tag pops x u v (past ++ e ∷ []) t,
        about_more pops (life_of x u) past e,
        h.taken
            (λ g. absurd (cc)),
      );
      unlinked = λ g. absurd (cc);
      unclosed = λ _ f. at_tag freezes_head x u v (past ++ e ∷ []) t ∙
          (about_other freezes_head (life_of x u) past e b ∙ h.unclosed (λ g. absurd (cc)) f);
      closed = λ f. omega (
        arith,
        at_tag freezes_head x u v (past ++ e ∷ []) t,
        about_more freezes_head
            (life_of x u) past e,
        h.closed f,
      );
      back = λ _. at_tag pushes x u v (past ++ e ∷ []) t ∙ (about_other pushes (life_of x u) past e d ∙ h.back
          (λ g. absurd (cc)));
      spent = λ _ w. omega (
        arith,
        about_this unlinks_vertex (life_of x v) past e (kind w)
            (this_life (life_of x v) e.life same (tag ∙ sym life)),
      );
    })
    (λ ne. told_else past e x (node_in sizes past x) _ ne (c.each x))

-- what is handed over after a mark is an edge
on_marked : (sizes : Sizes) (past : List Event) (e : Event) → IsKept sizes past → (i x : ℕ) → stands_in
    (frozen_part (marked_state (state sizes past) e.life.index) i)
    x ≡ true →
    ((marked_state (state sizes past) e.life.index).node x).vertex ≡ false
on_marked sizes past e kept i x h = ((marked_lists (state sizes past) e.life.index (on_lists sizes past kept)).each i x
    (frozen_stands (marked_state (state sizes past) e.life.index) i x h)).1

told_step : (sizes : Sizes) → IsLayout sizes → KeepsIn sizes (λ (j : List Event) (s : State) (w : ℕ → ℕ). Told j s)
told_step sizes z past e kept c PopFree is ok w a =
    let next = taken sizes z past e kept ok in
    record {
      each = λ x. put_both (λ (u : Node) (f : Bool). IsTold (past ++ e ∷ []) x u f) e.life.index _ _
          (state sizes past).node (state sizes past).frozen x
          (λ same.
          let l : Life = record { index = x; tag = e.life.tag } in
          let later : (node_in sizes past x).tag < e.life.tag = let t : (node_in sizes past x).tag ≡
          (node_in sizes past e.life.index).tag = ap (λ (y : ℕ). (node_in sizes past y).tag) same in omega
          (arith, t, next.tag) in
          record {
            taken = λ _. omega (arith, about_this pops l past e (ap pops is) (this_life l e.life same refl));
            unlinked = λ _. about_other unlinks l past e (ap unlinks is) ∙
                (lives sizes z past kept).later unlinks l later;
            unclosed = λ _ _. about_other freezes_head l past e (ap freezes_head is) ∙
                (lives sizes z past kept).later freezes_head l later;
            closed = λ f. absurd (cc);
            back = λ _. about_other pushes l past e (ap pushes is) ∙ (lives sizes z past kept).later pushes l later;
            spent = λ m. absurd (cc);
          })
          (λ ne. told_else past e x (node_in sizes past x) _ ne (c.each x));
    }
told_step sizes z past e kept c LinkVertex is ok w a = record {
  each = put_told sizes past e _ (ap unlinks is) (ap freezes_head is) (ap pushes is)
      (let f = ok.fresh.fresh in record {
        tag = refl;
        used = λ _ h. absurd
            (cc);
        early = λ _. ap is_early f;
        spent = λ m. absurd (cc);
      }) c;
}
told_step sizes z past e kept c LinkEdge is ok w a = record {
  each = put_told sizes past e _ (ap unlinks is)
      (ap freezes_head is) (ap pushes is) (let f = ok.fresh.fresh in record
      { tag = refl; used = λ _ h. absurd (cc); early = λ _. ap is_early f; spent = λ m. absurd (cc) }) c;
}
told_step sizes z past e kept c MarkVertex is ok w a = record {
  each = put_told sizes past e _ (ap unlinks is) (ap freezes_head is) (ap pushes is)
      (record { tag = refl; used = λ h. h; early = λ h. h; spent = λ m w. (m, w) }) c;
}
told_step sizes z past e kept c StoreFree is ok w a = record {
  each = put_told sizes past e _ (ap unlinks is)
      (ap freezes_head is) (ap pushes is) (record { tag = refl; used = λ h. h; early = λ h. h; spent = λ m w. (m, w) })
      c;
}
told_step sizes z past e kept c MarkEdge is ok w a = record {
  each = λ x. handed_told (past ++ e ∷ [])
      (marked_state (state sizes past) e.life.index) (node_in sizes past e.life.index).source.index x
      (on_marked sizes past e kept (node_in sizes past e.life.index).source.index x)
      (put_told sizes past e _ (ap unlinks is) (ap freezes_head is) (ap pushes is)
      (record { tag = refl; used = λ h. h; early = λ h. h; spent = λ m w. (m, w) }) c x);
}
told_step sizes z past e kept c FreezeEdge is ok w a = record {
  each = λ x. handed_told (past ++ e ∷ []) (marked_state (state sizes past) e.life.index)
      (node_in sizes past e.life.index).source.index x (on_marked sizes past e kept
      (node_in sizes past e.life.index).source.index x) (put_told sizes past e _ (ap unlinks is) (ap freezes_head is)
      (ap pushes is) (record { tag = refl; used = λ h. h; early = λ h. h; spent = λ m w. (m, w) }) c x);
}
told_step sizes z past e kept c UnlinkVertex is ok w a = record {
  each = unlinked_told sizes past e _ (ap freezes_head is) (ap pushes is) refl refl ok.linked.linked
      (λ w. ap unlinks_vertex is) ok.life c;
}
told_step sizes z past e kept c UnlinkEdge is ok w a = record {
  each = unlinked_told sizes past e _ (ap freezes_head is) (ap pushes is) refl refl ok.linked.linked
      (λ w. let f = ok.linked.edge in absurd (cc)) ok.life c;
}
told_step sizes z past e kept c FreezeHead is ok w a = record {
  each = λ x. handed_told (past ++ e ∷ []) (closed_state (state sizes past) e.life.index) e.life.index x
      (λ h. ((on_lists sizes past kept).each e.life.index x (frozen_stands
      (closed_state (state sizes past) e.life.index) e.life.index x h)).1)
      (put_case (λ (f : Bool). IsTold (past ++ e ∷ []) x (node_in sizes past x) f) e.life.index true
      (state sizes past).frozen x
      (λ same. let h = c.each x in record {
        taken = λ m. omega (arith, about_more pops (life_of x (node_in sizes past x)) past e, h.taken m);
        unlinked = λ m. about_other unlinks _ past e (ap unlinks is) ∙ h.unlinked m;
        unclosed = λ _ f. absurd (cc);
        closed = λ _. omega (
          arith,
          about_this freezes_head (life_of x (node_in sizes past x)) past e
              (ap freezes_head is) (this_life (life_of x (node_in sizes past x)) e.life same
              (ap (λ (y : ℕ). (node_in sizes past y).tag) same ∙ sym ok.life)),
        );
        back = λ m. about_other pushes _ past e (ap pushes is) ∙ h.back m;
        spent = λ m w. omega (arith, about_more unlinks_vertex (life_of x (node_in sizes past x)) past e, h.spent m w);
      })
      (λ ne. told_else past e x (node_in sizes past x) _ ne (c.each x)));
}
told_step sizes z past e kept c PushFree is ok w a = record {
  each = λ x. put_case (λ (u : Node). IsTold (past ++ e ∷ []) x u ((state sizes past).frozen x)) e.life.index _
      (state sizes past).node x
      (λ same. record {
        taken = λ m. absurd (m refl);
        unlinked = λ h. absurd (cc);
        unclosed = λ m _. absurd
            (m refl);
        closed = λ f. omega (
          arith,
          at_tag freezes_head x (node_in sizes past x)
              (record (node_in sizes past e.life.index) { mode = Free }) (past ++ e ∷ [])
              (ap (λ (y : ℕ). (node_in sizes past y).tag) (sym same)),
          about_more freezes_head
              (life_of x (node_in sizes past x)) past e,
          (c.each x).closed f,
        );
        back = λ m. absurd
            (m refl);
        spent = λ m. absurd (cc);
      })
      (λ ne. told_else past e x (node_in sizes past x) _ ne (c.each x));
}
told_step sizes z past e kept c ReplaceEdge is ok w a = record { each = λ x. by x }
  where
    J : List Event
    J = past ++ e ∷ []

    skips : (x : ℕ) → IsTold J x (node_in sizes past x) ((state sizes past).frozen x)
    skips x = told_other past e x (node_in sizes past x) _ (ap unlinks is) (ap freezes_head is) (ap pushes is)
        (c.each x)

    -- what is handed over is an edge
    on : (i x : ℕ) → x ≢ e.life.index → stands_in (frozen_part
        (marked_state (joined_edge sizes e (state sizes past)) e.old.index) i) x ≡ true →
        ((marked_state (state sizes past) e.old.index).node x).vertex ≡ false
    on i x ne h = ap (λ (v : Node). v.vertex) (sym (else_marked sizes z past e kept ok x ne))
        ∙ ((marked_lists (joined_edge sizes e (state sizes past)) e.old.index
        (joined_lists sizes past e (on_lists sizes past kept))).each i x
        (frozen_stands (marked_state (joined_edge sizes e (state sizes past)) e.old.index) i x h)).1

    same : (x : ℕ) → IsTold J x ((marked_state (state sizes past) e.old.index).node x) ((state sizes past).frozen x)
    same x = put_case (λ (u : Node). IsTold J x u ((state sizes past).frozen x)) e.old.index
        (record (node_in sizes past e.old.index) { marked = true }) (state sizes past).node x
        (λ at. told_on J x (node_in sizes past x) (record (node_in sizes past e.old.index) { marked = true }) _ _
        (subst (λ (y : ℕ). IsOnward (node_in sizes past y) (record (node_in sizes past e.old.index) { marked = true }))
        (sym at) (record { tag = refl; used = λ h. h; early = λ h. h; spent = λ m w. (m, w) })) refl (skips x))
        (λ _. skips x)

    by : (x : ℕ) → IsTold J x ((state_by ReplaceEdge sizes e (state sizes past)).node x) ((state sizes past).frozen x)
    by x = replaced_case sizes z past e kept ok (λ (u : Node). IsTold J x u ((state sizes past).frozen x)) x
        (λ at. told_on J x (node_in sizes past x) (new_edge_node (node_in sizes past e.life.index) e
        (state sizes past).count) _ _
        (subst (λ (y : ℕ). IsOnward (node_in sizes past y) (new_edge_node (node_in sizes past e.life.index) e
        (state sizes past).count)) (sym at) (let f = ok.fresh.fresh in record
        { tag = refl; used = λ _ h. absurd (cc); early = λ _. ap is_early f; spent = λ m. absurd (cc) })) refl
        (skips x))
        (λ _. same x)
        (λ ne m _ listed. told_on J x ((marked_state (state sizes past) e.old.index).node x) _ _ _
        (record {
          tag = refl;
          used = λ _ h. absurd (cc);
          early = λ h. absurd
              (cc);
          spent = λ _ v. let no = on _ x ne listed in absurd (cc);
        }) refl (same x))
told_step sizes z past e kept c k is ok w a = record {
  each = λ x. told_other past e x (node_in sizes past x) _
      (ap unlinks is) (ap freezes_head is) (ap pushes is) (c.each x);
}

pub told : (sizes : Sizes) → IsLayout sizes → (journal : List Event) → IsKept sizes journal → Told journal
    (state sizes journal)
told sizes z journal kept = all_in sizes (λ (j : List Event) (s : State) (w : ℕ → ℕ). Told j s) (told_step sizes z)
    (record {
      each = λ x. record {
        taken = λ m. absurd (m refl);
        unlinked = λ h. absurd (cc);
        unclosed = λ m _. absurd
            (m refl);
        closed = λ h. absurd (cc);
        back = λ m. absurd (m refl);
        spent = λ m. absurd (cc);
      };
    }) journal kept
