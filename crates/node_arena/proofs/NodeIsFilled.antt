-- A fresh node's four words are stored one after another.
use Rattle.std.proofs.Common.{◌≡◌, ℕ, ◌+◌, ◌<◌, ◌≤◌, ◌^◌, true, List, [], ◌∷◌, ◌++◌, refl, sym, ap, ap₂, ◌∙◌, subst}
use Rattle.std.proofs.Common.{arith}
use Rattle.packed_link.specs.Link.{pack, nowhere, tag_of, mark_of}
use Rattle.packed_link.specs.Layout.{Sizes, key_at, link_at}
use Rattle.packed_link.specs.declared.link.Life.{Life}
use Rattle.core_journal.specs.declared.event.Event.{Event}
use Rattle.core_journal.specs.Machine.{word_at}
use Rattle.core_journal.specs.State.{Node}
use Rattle.core_kept.specs.Edges.{IsFilledEdge}
use Rattle.core_kept.specs.Nodes.{node_in}
use Rattle.core_kept.specs.Vertices.{IsFilledVertex}
use Rattle.core_rule.specs.Fronts.{MayStorePrivate}
use Rattle.core_rule.specs.OwnEvents.{store_event}
use Rattle.core_rule.specs.Plays.{Stored}
use Rattle.core_rule.specs.Stretches.{IsHeldBut}
use Rattle.core_rule.specs.declared.view.View.{View}
use Rattle.core_rule.proofs.OwnByKind.{own_stored}
use Rattle.core_rule.proofs.ViewShows.{store_steps}
use Rattle.core_stretches.specs.Holdings.{IsFilledAsEdge, IsFilledAsVertex, IsHeldFresh}
use Rattle.core_stretches.specs.Makes.{Makes}
use Rattle.core_stretches.proofs.MakesAddUp.{makes_chain, makes_self, makes_stored}
use Rattle.core_stretches.proofs.MakesTell.{makes_later}
use Rattle.graph_table.specs.Tokens.{TableValue, TokenValue, IsOf}

-- since a view the token made these stores to a node that is fresh with it
pub record HasStored (g : TableValue) (v : View) (x : Life) (own : List Event) (t : TokenValue) : Type 0 where
  pub of : IsOf g t
  pub numbered : t.view.numbered ≡ true
  pub held : IsHeldFresh t.view x
  pub makes : Makes v own t.view
  pub sizes : t.view.sizes ≡ v.sizes

-- what a store left of the node's words
pub record HasWritten (z : Sizes) (x : ℕ) (front journal : List Event) (place word : ℕ) : Type 0 where
  pub here : word_at z journal place ≡ word
  pub but : IsHeldBut z front journal x place

pub stores_begin : (g : TableValue) (t : TokenValue) (x : Life) → IsOf g t → t.view.numbered ≡ true
    → IsHeldFresh t.view x → HasStored g t.view x [] t
stores_begin g t x of has held = record {
  of = of;
  numbered = has;
  held = held;
  makes = makes_self t.view has of.sound;
  sizes = refl;
}

pub may_store : (g : TableValue) (v : View) (x : Life) (own : List Event) (t : TokenValue) (field word : ℕ)
    → HasStored g v x own t → field < 4 → word < 2 ^ 64
    → (key_at t.view.sizes x.index + field ≡ link_at t.view.sizes x.index → (tag_of word ≡ x.tag) × (mark_of word ≡ 0))
    → MayStorePrivate t.view x field word
may_store g v x own t field word h low fits link = record {
  life = h.held.life;
  field_is = low;
  fits = fits;
  link =
      link;
  fresh = h.held.fresh;
}

module _ (g : TableValue) (v : View) (x : Life) (own : List Event) (t u : TokenValue) (field word : ℕ)
    (h : HasStored g v x own t) (of : IsOf g u) (st : Stored t.view (store_event t.view x field word) u.view) where
  pub store_more : HasStored g v x (own ++ store_event v x field word ∷ []) u
  store_more =
      let e = store_event t.view x field word in
      let s = store_steps t.view e u.view h.numbered h.of.sound st in
      let o = own_stored t.view u.view e h.of.layout s refl x.index h.held.life.there h.held.fresh in
      let one = makes_stored t.view u.view e h.numbered h.of.sound refl st in
      let now = makes_later t.view u.view (e ∷ []) one in
      let was = makes_later v t.view own h.makes in
      let same : e ≡ store_event v x field word = ap₂ (λ (z : Sizes) (n : ℕ). store_event
      (record v { sizes = z; number = n }) x field word) was.sizes was.number in
      record {
        of = of;
        numbered = now.numbered ∙ h.numbered;
        held = record {
          life = record {
            there = subst (λ (y : Sizes). x.index < y.nodes) (sym now.sizes) h.held.life.there;
            tag = h.held.life.tag ∙ (ap (λ (n : Node). n.tag) (sym o.2.node) ∙ ap
                (λ (y : Sizes). (node_in y u.view.front x.index).tag) (sym now.sizes));
          };
          fresh = o.0;
        };
        makes = subst (λ (y : Event). Makes v (own ++ y ∷ []) u.view) same
            (makes_chain v t.view u.view own (e ∷ []) h.makes one);
        sizes = now.sizes ∙ h.sizes;
      }

  pub written : HasWritten v.sizes x.index t.view.front u.view.front (key_at v.sizes x.index + field) word
  written =
      let e = store_event t.view x field word in
      let s = store_steps t.view e u.view h.numbered h.of.sound st in
      let o = own_stored t.view u.view e h.of.layout s refl x.index h.held.life.there h.held.fresh in
      let now = makes_later t.view u.view (e ∷ []) (makes_stored t.view u.view e h.numbered h.of.sound refl st) in
      subst (λ (z : Sizes). HasWritten z x.index t.view.front u.view.front (key_at z x.index + field) word) h.sizes
      (record {
        here = subst (λ (z : Sizes). word_at z u.view.front (key_at t.view.sizes x.index + field) ≡ word) now.sizes o.1;
        but = o.2;
      })

-- the words of the node after four stores
record HasWords (z : Sizes) (x : ℕ) (journal : List Event) (a b c d : ℕ) : Type 0 where
  pub key : word_at z journal (key_at z x) ≡ a
  pub link : word_at z journal (link_at z x) ≡ b
  pub second : word_at z journal (key_at z x + 2) ≡ c
  pub third : word_at z journal (key_at z x + 3) ≡ d

all_written : (z : Sizes) (x : ℕ) (f0 f1 f2 f3 f4 : List Event) (a b c d : ℕ) → HasWritten z x f0 f1 (key_at z x + 0) a
    → HasWritten z x f1 f2 (key_at z x + 1) b → HasWritten z x f2 f3 (key_at z x + 2) c → HasWritten z x f3 f4
    (key_at z x + 3) d → HasWords z x f4 a b c d
all_written z x f0 f1 f2 f3 f4 a b c d p q r s = record {
  key = s.but.key (λ e. omega (arith, e)) ∙ (r.but.key (λ e. omega (arith, e)) ∙
      (q.but.key (λ e. omega (arith, e)) ∙ (ap (word_at z f1) (omega arith) ∙ p.here)));
  link = s.but.link (λ e. omega (arith, e)) ∙ (r.but.link (λ e. omega (arith, e)) ∙ q.here);
  second = s.but.second (λ e. omega (arith, e)) ∙ r.here;
  third = s.here;
}

module _ (g : TableValue) (v : View) (x : Life) (own : List Event) (t : TokenValue) (h : HasStored g v x own t)
    (f0 f1 f2 f3 : List Event) (a b c d : ℕ)
    (p : HasWritten v.sizes x.index f0 f1 (key_at v.sizes x.index + 0) a)
    (q : HasWritten v.sizes x.index f1 f2 (key_at v.sizes x.index + 1) b)
    (r : HasWritten v.sizes x.index f2 f3 (key_at v.sizes x.index + 2) c)
    (s : HasWritten v.sizes x.index f3 t.view.front (key_at v.sizes x.index + 3) d) where
  pub filled_as_vertex : (key next : ℕ) → key < 2 ^ 32 → a ≡ key → b ≡ pack next 0 x.tag → c ≡ pack nowhere 0 x.tag
      → d ≡ 0 → IsFilledAsVertex t.view key next x
  filled_as_vertex key next fits k l m n =
      let w = all_written v.sizes x.index f0 f1 f2 f3 t.view.front a b c d p q r s in
      let tag : x.tag ≡ (node_in v.sizes t.view.front x.index).tag = h.held.life.tag ∙ ap
      (λ (y : Sizes). (node_in y t.view.front x.index).tag) h.sizes in
      record {
        held = h.held;
        filled = subst (λ (y : Sizes). IsFilledVertex y t.view.front x.index key next) (sym h.sizes) (record {
          key_word = w.key ∙ k;
          key_fits = fits;
          link_word = w.link ∙ (l ∙ ap (pack next 0) tag);
          second_word = w.second ∙ (m ∙ ap (pack nowhere 0) tag);
          third_word = w.third ∙ n;
        });
      }

  pub filled_as_edge : (key next : ℕ) (target : Life) (weight : ℕ) → key < 2 ^ 32 → weight < 2 ^ 32 → 1 ≤ weight
      → a ≡ key → b ≡ pack next 0 x.tag → c ≡ pack target.index 0 target.tag → d ≡ weight
      → IsFilledAsEdge t.view key next target weight x
  filled_as_edge key next target weight fits weight_fits some k l m n =
      let w = all_written v.sizes x.index f0 f1 f2 f3 t.view.front a b c d p q r s in
      let tag : x.tag ≡ (node_in v.sizes t.view.front x.index).tag = h.held.life.tag ∙ ap
      (λ (y : Sizes). (node_in y t.view.front x.index).tag) h.sizes in
      record {
        held = h.held;
        filled = subst (λ (y : Sizes). IsFilledEdge y t.view.front x.index key next target weight) (sym h.sizes)
            (record {
              key_word = w.key ∙ k;
              key_fits = fits;
              link_word = w.link ∙ (l ∙ ap (pack next 0) tag);
              second_word = w.second ∙ m;
              third_word = w.third ∙ n;
              some = some;
              weight_fits = weight_fits;
            });
      }
