-- Which lives the events of a kept journal are about, and how often the counters of lives were raised.
use Rattle.std.proofs.Common.{◌≡◌, ◌≢◌, ℕ, ◌+◌, ◌<◌, ◌≤◌, Bool, true, false, cond, ◌&&◌, eqb, List, [], ◌∷◌, ◌++◌}
use Rattle.std.proofs.Common.{length, filter, refl, sym, ap, ◌∙◌, subst, arith, eq-eqb, ne_eqb}
use mathlib.Core.Logic.{dite}
use native.Mathlib.Decide.{ℕ_discrete}
use Rattle.packed_link.specs.Layout.{Sizes, IsLayout, third_at}
use Rattle.packed_link.specs.declared.link.Life.{Life}
use Rattle.core_journal.specs.declared.event.Kind.{Kind}
use Rattle.core_journal.specs.declared.event.Kind.TheVariants.{DrawNumber, PopFree, StorePrivate, LinkVertex}
use Rattle.core_journal.specs.declared.event.Kind.TheVariants.{MarkVertex, UnlinkVertex, LinkEdge, Raise, MarkEdge}
use Rattle.core_journal.specs.declared.event.Kind.TheVariants.{UnlinkEdge, Announce, Withdraw, MoveEpoch, FreezeHead}
use Rattle.core_journal.specs.declared.event.Kind.TheVariants.{FreezeEdge, StoreFree, PushFree, ReplaceEdge}
use Rattle.core_journal.specs.declared.event.Event.{Event}
use Rattle.core_journal.specs.Event.{same_life, replaces, cut_life, raises}
use Rattle.core_journal.proofs.Snoc.{cut_else}
use Rattle.core_journal.specs.Machine.{word_at}
use Rattle.core_journal.specs.State.{Fresh, Linked, Spent, Node, State, put, handed, state_by, state, joined_edge}
use Rattle.core_kept.specs.Counts.{about, raised}
use Rattle.core_kept.specs.Kept.{IsKept}
use Rattle.core_kept.specs.Nodes.{node_in, IsUsed}
use Rattle.core_kept.specs.Facts.{IsCounter, Counters, Lives}
use Rattle.core_kept.proofs.ByKind.{KeepsIn, put_case, handed_case, marked_state, closed_state, all_in}
use Rattle.core_kept.proofs.LinkWords.{taken}
use Rattle.core_kept.proofs.ReplaceCases.{new_edge_node}

pub count_snoc : {A : Type 0} (test : A → Bool) (xs : List A) (x : A) → length (filter test (xs ++ x ∷ [])) ≡ length
    (filter test xs) + cond (test x) 1 0
count_snoc test [] x = by (test x)
  where
    by : (b : Bool) → length (cond b (x ∷ []) []) ≡ 0 + cond b 1 0
    by true = refl
    by false = refl
count_snoc test (y ∷ ys) x = by (test y) (count_snoc test ys x)
  where
    by : (b : Bool) → length (filter test (ys ++ x ∷ [])) ≡ length (filter test ys) + cond (test x) 1 0 → length
        (cond b (y ∷ filter test (ys ++ x ∷ [])) (filter test (ys ++ x ∷ []))) ≡ length
        (cond b (y ∷ filter test ys) (filter test ys)) + cond (test x) 1 0
    by true h = omega (arith, h)
    by false h = h

pub about-snoc : (test : Kind → Bool) (x : Life) (past : List Event) (e : Event) → about test x
    (past ++ e ∷ []) ≡ about test x past + cond (test e.kind && same_life x e.life) 1 0
about-snoc test x past e = count_snoc (λ (d : Event). test d.kind && same_life x d.life) past e

-- an event of another kind
pub about_other : (test : Kind → Bool) (x : Life) (past : List Event) (e : Event) → test e.kind ≡ false → about test x
    (past ++ e ∷ []) ≡ about test x past
about_other test x past e other = about-snoc test x past e ∙ (ap
    (λ (b : Bool). about test x past + cond (b && same_life x e.life) 1 0) other ∙ omega arith)

-- an event that is about another life
pub about_else : (test : Kind → Bool) (x : Life) (past : List Event) (e : Event) → same_life x e.life ≡ false
    → about test x (past ++ e ∷ []) ≡ about test x past
about_else test x past e other = by (test e.kind) (about-snoc test x past e)
  where
    by : (b : Bool) → about test x (past ++ e ∷ []) ≡ about test x past + cond (b && same_life x e.life) 1 0
        → about test x (past ++ e ∷ []) ≡ about test x past
    by true h = h ∙ (ap (λ (c : Bool). about test x past + cond c 1 0) other ∙ omega arith)
    by false h = omega (arith, h)

-- an event of this kind that is about the life
pub about_this : (test : Kind → Bool) (x : Life) (past : List Event) (e : Event) → test e.kind ≡ true
    → same_life x e.life ≡ true → about test x (past ++ e ∷ []) ≡ about test x past + 1
about_this test x past e hits is = about-snoc test x past e ∙
    (ap (λ (b : Bool). about test x past + cond (b && same_life x e.life) 1 0) hits ∙ ap
    (λ (b : Bool). about test x past + cond b 1 0) is)

pub other_index : (x y : Life) → x.index ≢ y.index → same_life x y ≡ false
other_index x y ne = ap (λ (b : Bool). b && eqb x.tag y.tag) (ne_eqb x.index y.index ne)

pub other_tag : (x y : Life) → x.tag ≢ y.tag → same_life x y ≡ false
other_tag x y ne = ap (λ (b : Bool). eqb x.index y.index && b) (ne_eqb x.tag y.tag ne) ∙ by (eqb x.index y.index)
  where
    by : (b : Bool) → (b && false) ≡ false
    by true = refl
    by false = refl

pub this_life : (x y : Life) → x.index ≡ y.index → x.tag ≡ y.tag → same_life x y ≡ true
this_life x y i t = ap (λ (b : Bool). b && eqb x.tag y.tag) (eq-eqb x.index y.index i) ∙ eq-eqb x.tag y.tag t

-- the kinds that begin no life
abbrev pub BeginsNoLife : Kind → Type 0
BeginsNoLife PopFree = ⊥
BeginsNoLife _ = Unit {0}

put_tag : (s : State) (i : ℕ) (v : Node) (x : ℕ) → v.tag ≡ (s.node i).tag → (put i v s.node x).tag ≡ (s.node x).tag
put_tag s i v x is = put_case (λ (u : Node). u.tag ≡ (s.node x).tag) i v s.node x
    (λ same. is ∙ ap (λ (y : ℕ). (s.node y).tag) (sym same)) (λ _. refl)

handed_tag : (s : State) (v x : ℕ) → ((handed v s).node x).tag ≡ (s.node x).tag
handed_tag s v x = handed_case (λ (u : Node). u.tag ≡ (s.node x).tag) s v x refl (λ _ _ _. refl)

-- no kind but the taking of a node changes a tag
pub same_tag : (k : Kind) → BeginsNoLife k → (sizes : Sizes) (e : Event) (s : State) (x : ℕ) →
    ((state_by k sizes e s).node x).tag ≡ (s.node x).tag
same_tag PopFree o sizes e s x = absurd o
same_tag LinkVertex o sizes e s x = put_tag s e.life.index _ x refl
same_tag MarkVertex o sizes e s x = put_tag s e.life.index _ x refl
same_tag UnlinkVertex o sizes e s x = put_tag s e.life.index _ x refl
same_tag LinkEdge o sizes e s x = put_tag s e.life.index _ x refl
same_tag UnlinkEdge o sizes e s x = put_tag s e.life.index _ x refl
same_tag StoreFree o sizes e s x = put_tag s e.life.index _ x refl
same_tag PushFree o sizes e s x = put_tag s e.life.index _ x refl
same_tag MarkEdge o sizes e s x = handed_tag (marked_state s e.life.index) (s.node e.life.index).source.index x
    ∙ put_tag s e.life.index _ x refl
same_tag ReplaceEdge o sizes e s x = handed_tag (marked_state (joined_edge sizes e s) e.old.index)
    ((joined_edge sizes e s).node e.old.index).source.index x ∙
    (put_tag (joined_edge sizes e s) e.old.index _ x refl ∙ put_tag s e.life.index _ x refl)
same_tag FreezeEdge o sizes e s x = handed_tag (marked_state s e.life.index) (s.node e.life.index).source.index x
    ∙ put_tag s e.life.index _ x refl
same_tag FreezeHead o sizes e s x = handed_tag (closed_state s e.life.index) e.life.index x
same_tag _ o sizes e s x = refl

lives_more : (past : List Event) (e : Event) (s s' : State) → Lives past s →
    ((x : ℕ) → (s.node x).tag ≤ (s'.node x).tag) → e.life.tag ≤ (s'.node e.life.index).tag
    → (l : Life) → cut_life e ≡ l → l.tag ≤ (s'.node l.index).tag → Lives (past ++ e ∷ []) s'
lives_more past e s s' c rise now l which cut = record {
  cut = λ x h. cut_else past e x (subst (λ (y : Life). same_life x y ≡ false) (sym which)
      (dite (ℕ_discrete x.index l.index)
      (λ same. let at : (s'.node x.index).tag ≡ (s'.node l.index).tag = ap
      (λ (y : ℕ). (s'.node y).tag) same in other_tag x l (λ t. omega (arith, at, cut, h, t)))
      (λ ne. other_index x l ne))) ∙ c.cut x (omega (arith, h, rise x.index));
  later = λ test x h. about_else test x past e (dite (ℕ_discrete x.index e.life.index)
      (λ same. let at : (s'.node x.index).tag ≡ (s'.node e.life.index).tag = ap
      (λ (y : ℕ). (s'.node y).tag) same in other_tag x e.life (λ t. omega (arith, at, now, h, t)))
      (λ ne. other_index x e.life ne)) ∙ c.later test x (omega (arith, h, rise x.index));
}

lives_step : (sizes : Sizes) → IsLayout sizes → KeepsIn sizes (λ (j : List Event) (s : State) (w : ℕ → ℕ). Lives j s)
lives_step sizes z past e kept c PopFree is ok w a =
    let t = taken sizes z past e kept ok in
    lives_more past e (state sizes past) _ c
    (λ x. put_case (λ (u : Node). (node_in sizes past x).tag ≤ u.tag) e.life.index _ (state sizes past).node x
    (λ same. let at : (node_in sizes past x).tag ≡ (node_in sizes past e.life.index).tag = ap
    (λ (y : ℕ). (node_in sizes past y).tag) same in omega (arith, at, t.tag)) (λ _. omega arith))
    (put_case (λ (u : Node). e.life.tag ≤ u.tag) e.life.index _ (state sizes past).node e.life.index (λ _. omega arith)
    (λ ne. absurd (ne refl)))
    e.life (ap (λ (k : Kind). cond (replaces k) e.old e.life) is)
    (put_case (λ (u : Node). e.life.tag ≤ u.tag) e.life.index _ (state sizes past).node e.life.index
    (λ _. omega arith) (λ ne. absurd (ne refl)))
lives_step sizes z past e kept c DrawNumber is ok w a = let t : e.life.tag ≡ 0 = ap
    (λ (y : Life). y.tag) ok.life in lives_more past e (state sizes past) _ c (λ x. omega arith)
    (omega (arith, t)) e.life (ap (λ (k : Kind). cond (replaces k) e.old e.life) is) (omega (arith, t))
lives_step sizes z past e kept c Announce is ok w a = let t : e.life.tag ≡ 0 = ap
    (λ (y : Life). y.tag) ok.life in lives_more past e (state sizes past) _ c (λ x. omega arith)
    (omega (arith, t)) e.life (ap (λ (k : Kind). cond (replaces k) e.old e.life) is) (omega (arith, t))
lives_step sizes z past e kept c Withdraw is ok w a = let t : e.life.tag ≡ 0 = ap
    (λ (y : Life). y.tag) ok.life in lives_more past e (state sizes past) _ c (λ x. omega arith)
    (omega (arith, t)) e.life (ap (λ (k : Kind). cond (replaces k) e.old e.life) is) (omega (arith, t))
lives_step sizes z past e kept c MoveEpoch is ok w a = let t : e.life.tag ≡ 0 = ap
    (λ (y : Life). y.tag) ok.life in lives_more past e (state sizes past) _ c (λ x. omega arith)
    (omega (arith, t)) e.life (ap (λ (k : Kind). cond (replaces k) e.old e.life) is) (omega (arith, t))
lives_step sizes z past e kept c ReplaceEdge is ok w a = lives_more past e (state sizes past) _ c
    (λ x. omega (arith, same_tag ReplaceEdge tt sizes e (state sizes past) x))
    (omega (arith, ok.life, same_tag ReplaceEdge tt sizes e (state sizes past) e.life.index))
    e.old (ap (λ (k : Kind). cond (replaces k) e.old e.life) is)
    (omega (arith, ok.old_life, same_tag ReplaceEdge tt sizes e (state sizes past) e.old.index))
lives_step sizes z past e kept c k is ok w a = lives_more past e (state sizes past) _ c
    (λ x. omega (arith, same_tag k tt sizes e (state sizes past) x))
    (omega (arith, ok.life, same_tag k tt sizes e (state sizes past) e.life.index))
    e.life (ap (λ (k : Kind). cond (replaces k) e.old e.life) is)
    (omega (arith, ok.life, same_tag k tt sizes e (state sizes past) e.life.index))

-- no event is about a later life
pub lives : (sizes : Sizes) → IsLayout sizes → (journal : List Event) → IsKept sizes journal → Lives journal
    (state sizes journal)
lives sizes z journal kept = all_in sizes (λ (j : List Event) (s : State) (w : ℕ → ℕ). Lives j s) (lives_step sizes z)
    (record { later = λ test x _. refl; cut = λ x _. refl }) journal kept

-- a node keeps what its third word counts
record IsSameCount (v v' : Node) : Type 0 where
  pub used : IsUsed v'.mode → IsUsed v.mode
  pub fresh : v'.mode ≡ Fresh → v.mode ≡ Fresh
  pub vertex : v'.vertex ≡ v.vertex
  pub tag : v'.tag ≡ v.tag

count_same : (sizes : Sizes) (past : List Event) (e : Event) (v v' : Node) (x : ℕ) (w w' : ℕ → ℕ)
    → raises e.kind ≡ false → IsSameCount v v' → w' (third_at sizes x) ≡ w (third_at sizes x)
    → IsCounter sizes past v x w → IsCounter sizes (past ++ e ∷ []) v' x w'
count_same sizes past e v v' x w w' other n s c =
    let y : Life = record { index = x; tag = v.tag } in
    let still : raised (record { index = x; tag = v'.tag }) (past ++ e ∷ []) ≡ raised y past = ap
    (λ (t : ℕ). raised (record { index = x; tag = t }) (past ++ e ∷ [])) n.tag
    ∙ about_other raises y past e other in
    record {
      third = λ u t. s ∙ (c.third (n.used u) (sym n.vertex ∙ t) ∙ sym still);
      fresh = λ m. still ∙ c.fresh
          (n.fresh m);
    }

same_count : (v : Node) → IsSameCount v v
same_count v = record { used = λ u. u; fresh = λ m. m; vertex = refl; tag = refl }

spent_count : (v : Node) (who ended epoch : ℕ) → v.mode ≡ Linked → IsSameCount v
    (record v { mode = Spent; who = who; ended = ended; epoch = epoch })
spent_count v who ended epoch m = record {
  used = λ _. subst IsUsed (sym m) tt;
  fresh = λ h. absurd
      (cc);
  vertex = refl;
  tag = refl;
}

put_counts : (sizes : Sizes) (past : List Event) (e : Event) (s : State) (w w' : ℕ → ℕ) (i : ℕ) (v : Node)
    → raises e.kind ≡ false → Counters sizes past s w → IsSameCount (s.node i) v →
    ((x : ℕ) → w' (third_at sizes x) ≡ w (third_at sizes x)) → (x : ℕ) → x < sizes.nodes → IsCounter sizes
    (past ++ e ∷ []) (put i v s.node x) x w'
put_counts sizes past e s w w' i v other c same words x t = put_case
    (λ (u : Node). IsCounter sizes (past ++ e ∷ []) u x w') i v s.node x
    (λ is. count_same sizes past e (s.node x) v x w w' other (subst (λ (y : ℕ). IsSameCount (s.node y) v) (sym is) same)
    (words x) (c.each x t))
    (λ _. count_same sizes past e (s.node x) (s.node x) x w w' other (same_count (s.node x)) (words x) (c.each x t))

-- the frozen part of a list is handed over
handed_counts : (sizes : Sizes) (journal : List Event) (s : State) (v : ℕ) (w : ℕ → ℕ) → Counters sizes journal s w
    → Counters sizes journal (handed v s) w
handed_counts sizes journal s v w c = record {
  each = λ x t. handed_case (λ (u : Node). IsCounter sizes journal u x w) s v x (c.each x t)
      (λ m _ _. record { third = λ _ b. (c.each x t).third (subst IsUsed (sym m) tt) b; fresh = λ h. absurd (cc) });
}

put_new : (sizes : Sizes) (past : List Event) (e : Event) (w : ℕ → ℕ) (v : Node) → raises e.kind ≡ false
    → Counters sizes past (state sizes past) (word_at sizes past) →
    ((x : ℕ) → x ≢ e.life.index → w (third_at sizes x) ≡ word_at sizes past (third_at sizes x)) →
    (e.life.index < sizes.nodes → IsCounter sizes (past ++ e ∷ []) v e.life.index w)
    → (x : ℕ) → x < sizes.nodes → IsCounter sizes (past ++ e ∷ []) (put e.life.index v (state sizes past).node x) x w
put_new sizes past e w v other c words new x t = put_case (λ (u : Node). IsCounter sizes (past ++ e ∷ []) u x w)
    e.life.index v (state sizes past).node x
    (λ same. subst (λ (y : ℕ). IsCounter sizes (past ++ e ∷ []) v y w) (sym same) (new (omega (arith, same, t))))
    (λ ne. count_same sizes past e _ _ x (word_at sizes past) w other (same_count (node_in sizes past x)) (words x ne)
    (c.each x t))

-- a mark changes no counter
marked_count : (sizes : Sizes) (journal : List Event) (v : Node) (x : ℕ) (w : ℕ → ℕ) → IsCounter sizes journal v x w
    → IsCounter sizes journal (record v { marked = true }) x w
marked_count sizes journal v x w c = record { third = c.third; fresh = c.fresh }

counters_step : (sizes : Sizes) → IsLayout sizes → KeepsIn sizes (Counters sizes)
counters_step sizes z past e kept c PopFree is ok w a = record {
  each = put_new sizes past e w _ (ap raises is) c (λ x _. a.else (third_at sizes x) (λ h. omega (arith, ok.place, h)))
      (λ t. record {
        third = λ u _. absurd u;
        fresh = λ _. about_other raises _ past e (ap raises is) ∙ (lives sizes z past kept).later raises
            (record { index = e.life.index; tag = e.life.tag }) (omega (arith, (taken sizes z past e kept ok).tag));
      });
}
counters_step sizes z past e kept c StorePrivate is ok w a = record {
  each = λ x t. dite (ℕ_discrete x e.life.index)
      (λ same.
      let m : (node_in sizes past x).mode ≡ Fresh = ap (λ (y : ℕ). (node_in sizes past y).mode) same ∙ ok.fresh.fresh in
      record {
        third = λ u _. absurd (subst IsUsed m u);
        fresh = λ h. about_other raises _ past e (ap raises is) ∙
            (c.each x t).fresh h;
      })
      (λ ne. count_same sizes past e _ _ x (word_at sizes past) w (ap raises is) (same_count (node_in sizes past x))
      (a.else (third_at sizes x) (λ h. ne (omega (arith, ok.place, h)))) (c.each x t));
}
counters_step sizes z past e kept c LinkVertex is ok w a = record {
  each = put_new sizes past e w _ (ap raises is) c (λ x _. a.else (third_at sizes x) (λ h. omega (arith, ok.place, h)))
      (λ t. record {
        third = λ _ _. a.else (third_at sizes e.life.index) (λ h. omega (arith, ok.place, h)) ∙
            (ok.filled.third_word ∙ sym (about_other raises _ past e (ap raises is) ∙
            (c.each e.life.index t).fresh ok.fresh.fresh));
        fresh = λ h. absurd (cc);
      });
}
counters_step sizes z past e kept c LinkEdge is ok w a = record {
  each = put_new sizes past e w _ (ap raises is) c (λ x _. a.else (third_at sizes x) (λ h. omega (arith, ok.place, h)))
      (λ t. record { third = λ _ h. absurd (cc); fresh = λ h. absurd (cc) });
}
counters_step sizes z past e kept c Raise is ok w a = record {
  each = λ x t. dite (ℕ_discrete x e.life.index)
      (λ same.
      let y : Life = record { index = x; tag = (node_in sizes past x).tag } in
      let tag : (node_in sizes past x).tag ≡ (node_in sizes past e.life.index).tag = ap
      (λ (i : ℕ). (node_in sizes past i).tag) same in
      let here : w (third_at sizes x) ≡ e.word = ap w (omega (arith, ok.place, same)) ∙ a.here
      (omega (arith, ok.place, ok.there)) in
      let old : word_at sizes past (third_at sizes x) ≡ word_at sizes past e.place = ap (word_at sizes past)
      (omega (arith, ok.place, same)) in
      let more : raised y (past ++ e ∷ []) ≡ raised y past + 1 = about_this raises y past e (ap raises is)
      (this_life y e.life same (omega (arith, tag, ok.life))) in
      record {
        third = λ u b. let d = (c.each x t).third u b in omega (arith, here, ok.word, old, d, more);
        fresh = λ m. absurd (subst IsUsed (ap (λ (i : ℕ). (node_in sizes past i).mode) (sym same) ∙ m) ok.vertex.used);
      })
      (λ ne.
      let still : raised (record { index = x; tag = (node_in sizes past x).tag }) (past ++ e ∷ []) ≡ raised
      (record { index = x; tag = (node_in sizes past x).tag }) past = about_else raises _ past e
      (other_index _ e.life ne) in
      record {
        third = λ u b. a.else (third_at sizes x) (λ h. ne (omega (arith, ok.place, h))) ∙
            ((c.each x t).third u b ∙ sym still);
        fresh = λ m. still ∙ (c.each x t).fresh m;
      });
}
counters_step sizes z past e kept c MarkVertex is ok w a = record {
  each = put_counts sizes past e (state sizes past) (word_at sizes past) w e.life.index _
      (ap raises is) c record { used = λ u. u; fresh = λ m. m; vertex = refl; tag = refl }
      (λ x. a.else (third_at sizes x) (λ h. omega (arith, ok.place, h)));
}
counters_step sizes z past e kept c UnlinkVertex is ok w a = record {
  each = put_counts sizes past e (state sizes past) (word_at sizes past) w e.life.index _ (ap raises is) c
      (spent_count (node_in sizes past e.life.index) _ _ _ ok.linked.linked)
      (λ x. a.else (third_at sizes x) (λ h. omega (arith, ok.place, h)));
}
counters_step sizes z past e kept c UnlinkEdge is ok w a = record {
  each = put_counts sizes past e (state sizes past) (word_at sizes past) w e.life.index _ (ap raises is) c
      (spent_count (node_in sizes past e.life.index) _ _ _ ok.linked.linked)
      (λ x. a.else (third_at sizes x) (λ h. omega (arith, ok.place, h)));
}
counters_step sizes z past e kept c StoreFree is ok w a = record {
  each = put_counts sizes past e (state sizes past) (word_at sizes past) w e.life.index _
      (ap raises is) c record { used = λ u. u; fresh = λ m. m; vertex = refl; tag = refl }
      (λ x. a.else (third_at sizes x) (λ h. omega (arith, ok.place, h)));
}
counters_step sizes z past e kept c PushFree is ok w a = record {
  each = put_counts sizes past e (state sizes past) (word_at sizes past) w e.life.index _
      (ap raises is) c record { used = λ u. absurd u; fresh = λ h. absurd (cc); vertex = refl; tag = refl }
      (λ x. a.else (third_at sizes x) (λ h. omega (arith, ok.place, h)));
}
counters_step sizes z past e kept c ReplaceEdge is ok w a =
    let s : State = state sizes past in
    let j : State = joined_edge sizes e s in
    let joined : Counters sizes (past ++ e ∷ []) j w = record {
      each = put_new sizes past e w (new_edge_node (s.node e.life.index) e s.count) (ap raises is) c
          (λ x _. a.else (third_at sizes x) (λ h. omega (arith, ok.place, h)))
          (λ t. record { third = λ _ h. absurd (cc); fresh = λ h. absurd (cc) });
    } in
    handed_counts sizes (past ++ e ∷ []) (marked_state j e.old.index) (j.node e.old.index).source.index w record {
      each = λ x t. put_case (λ (u : Node). IsCounter sizes (past ++ e ∷ []) u x w) e.old.index
          (record (j.node e.old.index) { marked = true }) j.node x
          (λ same. marked_count sizes (past ++ e ∷ []) (j.node e.old.index) x w
          (subst (λ (y : ℕ). IsCounter sizes (past ++ e ∷ []) (j.node y) x w) same (joined.each x t)))
          (λ _. joined.each x t);
    }
counters_step sizes z past e kept c MarkEdge is ok w a = handed_counts sizes (past ++ e ∷ [])
    (marked_state (state sizes past) e.life.index) (node_in sizes past e.life.index).source.index w
    record {
      each = put_counts sizes past e (state sizes past) (word_at sizes past) w e.life.index _
          (ap raises is) c record { used = λ u. u; fresh = λ m. m; vertex = refl; tag = refl }
          (λ x. a.else (third_at sizes x) (λ h. omega (arith, ok.place, h)));
    }
counters_step sizes z past e kept c FreezeEdge is ok w a = handed_counts sizes (past ++ e ∷ [])
    (marked_state (state sizes past) e.life.index) (node_in sizes past e.life.index).source.index w
    record {
      each = put_counts sizes past e (state sizes past) (word_at sizes past) w e.life.index _
          (ap raises is) c record { used = λ u. u; fresh = λ m. m; vertex = refl; tag = refl }
          (λ x. a.else (third_at sizes x) (λ h. omega (arith, ok.place, h)));
    }
counters_step sizes z past e kept c FreezeHead is ok w a = handed_counts sizes (past ++ e ∷ [])
    (closed_state (state sizes past) e.life.index) e.life.index w
    record {
      each = λ x t. count_same sizes past e _ _ x (word_at sizes past) w (ap raises is)
          (same_count (node_in sizes past x)) (a.else (third_at sizes x) (λ h. omega (arith, ok.place, h)))
          (c.each x t);
    }
counters_step sizes z past e kept c _ is ok w a = record {
  each = λ x t. count_same sizes past e _ _ x
      (word_at sizes past) w (ap raises is) (same_count (node_in sizes past x))
      (a.else (third_at sizes x) (λ h. omega (arith, ok.place, ok.there, h))) (c.each x t);
}

-- the counters after each kept journal
pub counters : (sizes : Sizes) → IsLayout sizes → (journal : List Event) → IsKept sizes journal → Counters sizes journal
    (state sizes journal) (word_at sizes journal)
counters sizes z journal kept = all_in sizes (Counters sizes) (counters_step sizes z)
    (record { each = λ x t. record { third = λ u _. absurd u; fresh = λ h. absurd (cc) } }) journal kept
