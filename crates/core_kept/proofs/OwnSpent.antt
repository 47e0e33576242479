-- A node that is spent with a caller stays so while only others make events.
use Rattle.std.proofs.Common.{◌≡◌, ◌≢◌, ℕ, ◌<◌, ◌≤◌, true, List, [], ◌∷◌, ◌++◌, length, refl, sym, ap, ◌∙◌, arith}
use Rattle.packed_link.specs.Layout.{Sizes, IsLayout, key_at, link_at}
use Rattle.core_journal.specs.declared.event.Kind.{Kind}
use Rattle.core_journal.specs.declared.event.Kind.TheVariants.{PopFree, StorePrivate, LinkVertex, MarkVertex}
use Rattle.core_journal.specs.declared.event.Kind.TheVariants.{UnlinkVertex, LinkEdge, MarkEdge, UnlinkEdge, FreezeHead}
use Rattle.core_journal.specs.declared.event.Kind.TheVariants.{FreezeEdge, StoreFree, PushFree, ReplaceEdge}
use Rattle.core_journal.specs.declared.event.Event.{Event}
use Rattle.core_journal.specs.Prefix.{IsPrefix}
use Rattle.core_journal.specs.State.{Mode, Free, Fresh, Linked, Spent, Node, State, handed, state_by, state}
use Rattle.core_journal.proofs.States.{state-snoc}
use Rattle.core_kept.specs.Facts.{IsKeptSpent}
use Rattle.core_kept.specs.Kept.{Allowed, AllowedAs, IsKept, IsQuiet}
use Rattle.core_kept.specs.Nodes.{node_in, IsSpentWith}
use Rattle.core_kept.proofs.Induction.{kept_beyond}
use Rattle.core_kept.proofs.ByKind.{after_event, put_other, handed_case, marked_state, closed_state}
use Rattle.core_kept.proofs.FreeList.{first_is_free}
use Rattle.core_kept.proofs.ReplaceCases.{replaced_case}

module _ (sizes : Sizes) (z : IsLayout sizes) (past : List Event) (e : Event) (kept : IsKept sizes past) (caller x : ℕ)
    (there : x < sizes.nodes) (f : IsSpentWith sizes past caller x)
    (apart : (node_in sizes past e.life.index).who ≡ e.caller → x ≢ e.life.index) where
  -- another node's mode or caller tells it apart
  in_mode : (m : Mode) (i : ℕ) → (node_in sizes past i).mode ≡ m → m ≢ Spent → x ≢ i
  in_mode m i is ne same = ne (sym is ∙ (ap (λ (y : ℕ). (node_in sizes past y).mode) (sym same) ∙ f.spent))

  not_free : (i : ℕ) → (node_in sizes past i).mode ≡ Free → x ≢ i
  not_free i is = in_mode Free i is (λ h. absurd (cc))

  not_fresh : (i : ℕ) → (node_in sizes past i).mode ≡ Fresh → x ≢ i
  not_fresh i is = in_mode Fresh i is (λ h. absurd (cc))

  not_linked : (i : ℕ) → (node_in sizes past i).mode ≡ Linked → x ≢ i
  not_linked i is = in_mode Linked i is (λ h. absurd (cc))

  -- a node that isn't linked isn't handed over
  handed_else : (s : State) (v : ℕ) → s.node x ≡ node_in sizes past x → (handed v s).node x ≡ node_in sizes past x
  handed_else s v is = handed_case (λ (u : Node). u ≡ node_in sizes past x) s v x is
      (λ l _ _. let m : Linked ≡ Spent = sym l ∙ (ap (λ (u : Node). u.mode) is ∙ f.spent) in absurd (cc))

  -- what an event that isn't about the node leaves: the node, its key, its link, and whether its list is closed
  pub record IsLeft (s : State) : Type 0 where
    pub node : s.node x ≡ node_in sizes past x
    pub frozen : s.frozen x ≡ (state sizes past).frozen x
    pub key : key_at sizes x ≢ e.place
    pub link : link_at sizes x ≢ e.place

  pub left_by : (k : Kind) → AllowedAs k sizes past e → IsLeft (state_by k sizes e (state sizes past))
  left_by PopFree ok =
      let ne = not_free e.life.index (first_is_free sizes z past kept e.life.index ok.there ok.seen) in
      record {
        node = put_other e.life.index _ (state sizes past).node x ne;
        frozen = put_other e.life.index _
            (state sizes past).frozen x ne;
        key = λ h. omega (arith, ok.place, h);
        link = λ h. omega
            (arith, ok.place, h);
      }
  left_by StorePrivate ok = let ne = apart ok.fresh.mine in record {
    node = refl;
    frozen = refl;
    key = λ h. ne (omega (arith, ok.place, h));
    link = λ h. ne
        (omega (arith, ok.place, h));
  }
  left_by LinkVertex ok = record {
    node = put_other e.life.index _ (state sizes past).node x
        (not_fresh e.life.index ok.fresh.fresh);
    frozen = refl;
    key = λ h. omega
        (arith, ok.place, h);
    link = λ h. not_linked x (ok.linked x (sym h)).linked refl;
  }
  left_by LinkEdge ok = record {
    node = put_other e.life.index _ (state sizes past).node x
        (not_fresh e.life.index ok.fresh.fresh);
    frozen = refl;
    key = λ h. omega
        (arith, ok.place, h);
    link = λ h. not_linked x (ok.linked x (sym h)).linked.linked refl;
  }
  left_by MarkVertex ok = let ne = not_linked e.life.index ok.linked.linked in record {
    node = put_other e.life.index _ (state sizes past).node x ne;
    frozen = refl;
    key = λ h. omega
        (arith, ok.place, h);
    link = λ h. ne (omega (arith, ok.place, h));
  }
  left_by UnlinkVertex ok = record {
    node = put_other e.life.index _ (state sizes past).node x
        (not_linked e.life.index ok.linked.linked);
    frozen = refl;
    key = λ h. omega
        (arith, ok.place, h);
    link = λ h. not_linked x (ok.before_linked x (sym h)).linked refl;
  }
  left_by UnlinkEdge ok = record {
    node = put_other e.life.index _ (state sizes past).node x
        (not_linked e.life.index ok.linked.linked);
    frozen = refl;
    key = λ h. omega
        (arith, ok.place, h);
    link = λ h. not_linked x (ok.before_linked x (sym h)).linked.linked refl;
  }
  left_by ReplaceEdge ok =
      let s : State = state sizes past in
      let ne = not_linked e.old.index ok.linked.linked in
      let at : (marked_state s e.old.index).node x ≡ s.node x = put_other e.old.index
      (record (s.node e.old.index) { marked = true }) s.node x ne in
      record {
        node = replaced_case sizes z past e kept ok (λ (u : Node). u ≡ node_in sizes past x) x
            (λ same. absurd (not_fresh e.life.index ok.fresh.fresh same)) (λ _. at)
            (λ _ l _ _. let m : Linked ≡ Spent = sym l ∙ (ap (λ (u : Node). u.mode) at ∙ f.spent) in absurd (cc));
        frozen = refl;
        key = λ h. omega (arith, ok.place, h);
        link = λ h. ne (omega (arith, ok.place, h));
      }
  left_by MarkEdge ok =
      let ne = not_linked e.life.index ok.linked.linked in
      record {
        node = handed_else (marked_state (state sizes past) e.life.index)
            (node_in sizes past e.life.index).source.index (put_other e.life.index _ (state sizes past).node x ne);
        frozen
            = refl;
        key = λ h. omega (arith, ok.place, h);
        link = λ h. ne (omega (arith, ok.place, h));
      }
  left_by FreezeEdge ok =
      let ne = not_linked e.life.index ok.linked.linked in
      record {
        node = handed_else (marked_state (state sizes past) e.life.index)
            (node_in sizes past e.life.index).source.index (put_other e.life.index _ (state sizes past).node x ne);
        frozen
            = refl;
        key = λ h. omega (arith, ok.place, h);
        link = λ h. ne (omega (arith, ok.place, h));
      }
  left_by FreezeHead ok = record {
    node = handed_else (closed_state (state sizes past) e.life.index) e.life.index refl;
    frozen = put_other e.life.index true (state sizes past).frozen x (apart ok.spent.mine);
    key = λ h. omega
        (arith, ok.place, h);
    link = λ h. omega (arith, ok.place, h);
  }
  left_by StoreFree ok = let ne = apart ok.ripe.stamped.spent.mine in record {
    node = put_other e.life.index _ (state sizes past).node x ne;
    frozen = refl;
    key = λ h. omega
        (arith, ok.place, h);
    link = λ h. ne (omega (arith, ok.place, h));
  }
  left_by PushFree ok = record {
    node = put_other e.life.index _ (state sizes past).node x
        (apart ok.ripe.stamped.spent.mine);
    frozen = refl;
    key = λ h. omega (arith, ok.place, h);
    link = λ h. omega
        (arith, ok.place, h);
  }
  left_by _ ok = record {
    node = refl;
    frozen = refl;
    key = λ h. omega (arith, ok.place, ok.there, h);
    link = λ h. omega
        (arith, ok.place, ok.there, h);
  }

-- a node that is spent with a caller stays so, with its key and its link
pub spent_stays : (sizes : Sizes) → IsLayout sizes → (caller last x : ℕ) → x < sizes.nodes →
    (front journal : List Event) → IsPrefix front journal → IsKept sizes journal → IsQuiet journal caller last
    → last ≤ length front → IsSpentWith sizes front caller x → IsKeptSpent sizes front journal x
spent_stays sizes z caller last x there front journal p kept quiet old f = kept_beyond sizes
    (λ (j : List Event). IsKeptSpent sizes front j x) caller last step front journal p kept quiet old record
    { node = refl; key = refl; link = refl; closed = refl }
  where
    step : (past : List Event) (e : Event) → IsKept sizes past → IsKeptSpent sizes front past x → e.caller ≢ caller
        → Allowed sizes past e → IsKeptSpent sizes front (past ++ e ∷ []) x
    step past e kept c other ok =
        let now : IsSpentWith sizes past caller x = record {
          spent = ap (λ (v : Node). v.mode) c.node
              ∙ f.spent;
          mine = ap (λ (v : Node). v.who) c.node ∙ f.mine;
        } in
        let t = left_by sizes z past e kept caller x there now
        (λ m same. other (sym m ∙ (ap (λ (y : ℕ). (node_in sizes past y).who) (sym same) ∙ now.mine))) e.kind
        ok.as_kind in
        let a = after_event sizes past e in
        record {
          node = ap (λ (s : State). s.node x) (state-snoc sizes past e) ∙ (t.node ∙ c.node);
          key = a.else (key_at sizes x) t.key ∙ c.key;
          link = a.else (link_at sizes x) t.link ∙ c.link;
          closed = ap (λ (s : State). s.frozen x) (state-snoc sizes past e) ∙ (t.frozen ∙ c.closed);
        }
