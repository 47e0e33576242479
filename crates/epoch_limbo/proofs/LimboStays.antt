-- A limbo is of its token, from empty on, over what the token makes, and behind each node that goes in or out.
use Rattle.std.proofs.Common.{◌≡◌, ◌≢◌, ℕ, ◌+◌, ◌-◌, ◌<◌, ◌≤◌, true, List, [], ◌∷◌, ◌++◌, length, map, drop, Option}
use Rattle.std.proofs.Common.{None, Some, refl, sym, ap, ◌∙◌, subst, arith}
use Rattle.std.proofs.lemmas.List.{length-map}
use Rattle.std.specs.Prelude.{slice_index_or}
use mathlib.Core.Logic.{dite}
use native.Mathlib.Decide.{ℕ_discrete}
use Rattle.graph_kinds.specs.History.{Every}
use Rattle.packed_link.specs.Layout.{Sizes, IsLayout, epoch_at}
use Rattle.packed_link.specs.declared.link.Life.{Life}
use Rattle.core_journal.specs.declared.event.Kind.TheVariants.{PushFree}
use Rattle.core_journal.specs.declared.event.Event.{Event}
use Rattle.core_journal.specs.Machine.{word_at}
use Rattle.core_journal.proofs.Lists.{prefix_refl}
use Rattle.core_kept.specs.Kept.{IsKept}
use Rattle.core_kept.specs.Nodes.{IsFrozenToEnd, IsSpentWith}
use Rattle.core_kept.proofs.Announcements.{epoch_word_rises}
use Rattle.core_lists.proofs.RipeningNodes.{ripens, stamped}
use Rattle.core_rule.specs.Plays.{IsSound, Looked}
use Rattle.core_rule.specs.Retired.{AreApart, IsRetired, IsShown}
use Rattle.core_rule.specs.declared.view.View.{View}
use Rattle.core_rule.proofs.RoomInLimbo.{room_for_one, spent_fit}
use Rattle.core_stretches.specs.Holdings.{IsGivable, IsHeldSpent, IsRetirable}
use Rattle.core_rule.specs.Stretches.{GivesOther}
use Rattle.core_stretches.specs.Makes.{Makes}
use Rattle.core_stretches.proofs.HoldingsStay.{makes_retired}
use Rattle.core_stretches.proofs.MakesAddUp.{makes_look}
use Rattle.core_stretches.proofs.MakesTell.{makes_later}
use Rattle.graph_table.specs.Tokens.{RipeValue}
use Rattle.epoch_limbo.specs.Limbos.{AreRising, IsLimboOf, IsNoneRipe, IsOut, IsPutBack, IsRetiredInto, IsRipeOut}
use Rattle.epoch_limbo.specs.Limbos.{LimboValue, MatchRipe, index_in}

-- what holds of each holds of each behind a step that keeps it
every_map : (P Q : RipeValue → Type 0) → ((r : RipeValue) → P r → Q r) → (rs : List RipeValue) → Every P rs → Every Q rs
every_map P Q f [] h = tt
every_map P Q f (r ∷ rs) h = (f r h.0, every_map P Q f rs h.1)

every_both : (P Q R : RipeValue → Type 0) → ((r : RipeValue) → P r → Q r → R r) → (rs : List RipeValue) → Every P rs
    → Every Q rs → Every R rs
every_both P Q R f [] h k = tt
every_both P Q R f (r ∷ rs) h k = (f r h.0 k.0, every_both P Q R f rs h.1 k.1)

-- one more at the end
every_more : (P : RipeValue → Type 0) (rs : List RipeValue) (r : RipeValue) → Every P rs → P r → Every P (rs ++ r ∷ [])
every_more P [] r h p = (p, tt)
every_more P (q ∷ rs) r h p = (h.0, every_more P rs r h.1 p)

-- the indices are apart from one that's out
pub out_indices : (x : ℕ) (rs : List RipeValue) → IsOut x rs → Every (λ (y : ℕ). y ≢ x) (map index_in rs)
out_indices x [] o = tt
out_indices x (r ∷ rs) o = (o.0, out_indices x rs o.1)

in_indices : (x : ℕ) (rs : List RipeValue) → Every (λ (y : ℕ). y ≢ x) (map index_in rs) → IsOut x rs
in_indices x [] o = tt
in_indices x (r ∷ rs) o = (o.0, in_indices x rs o.1)

-- an empty limbo
pub limbo_of_none : (but : Option ℕ) (v : View) → IsLimboOf but v []
limbo_of_none but v = record { each = tt; apart = tt; rising = tt }

-- over what its token makes
module _ (but : Option ℕ) (v w : View) (own : List Event) (z : IsLayout v.sizes) (makes : Makes v own w)
    (rs : List RipeValue) where
  pub limbo_still : Every (λ (r : RipeValue). Every (GivesOther (index_in r)) own) rs → IsLimboOf but v rs
      → IsLimboOf but w rs
  limbo_still others h = record {
    each = every_both (λ (r : RipeValue). Every (GivesOther (index_in r)) own)
        (λ (r : RipeValue). IsRetired but v r.life r.stamp) (λ (r : RipeValue). IsRetired but w r.life r.stamp)
        (λ r other p. makes_retired v w own z but r.life r.stamp other makes p) rs others h.each;
    apart = h.apart;
    rising = h.rising;
  }

  others_by_kind : (x : ℕ) (es : List Event) → Every (λ (e : Event). e.kind ≢ PushFree) es → Every (GivesOther x) es
  others_by_kind x [] h = tt
  others_by_kind x (e ∷ es) h = ((λ is. absurd (h.0 is)), others_by_kind x es h.1)

  all_others : (qs : List RipeValue) → Every (λ (e : Event). e.kind ≢ PushFree) own → Every
      (λ (r : RipeValue). Every (GivesOther (index_in r)) own) qs
  all_others [] h = tt
  all_others (q ∷ qs) h = (others_by_kind (index_in q) own h, all_others qs h)

  pub limbo_still_by_kind : Every (λ (e : Event). e.kind ≢ PushFree) own → IsLimboOf but v rs → IsLimboOf but w rs
  limbo_still_by_kind none h = limbo_still (all_others rs none) h

-- a list that is being frozen, from its beginning to its end
retired_but : (but : Option ℕ) (v : View) (x : Life) (stamp : ℕ) → IsRetired None v x stamp → IsRetired but v x stamp
retired_but but v x stamp h = record {
  life = h.life;
  stamped = h.stamped;
  shown = h.shown;
  own_list = h.own_list;
  list
      = λ y other. h.list y (λ none. none);
}

pub limbo_but : (but : Option ℕ) (v : View) (rs : List RipeValue) → IsLimboOf None v rs → IsLimboOf but v rs
limbo_but but v rs h = record {
  each = every_map (λ (r : RipeValue). IsRetired None v r.life r.stamp)
      (λ (r : RipeValue). IsRetired but v r.life r.stamp) (λ r p. retired_but but v r.life r.stamp p) rs h.each;
  apart =
      h.apart;
  rising = h.rising;
}

retired_to_end : (x : ℕ) (v : View) (y : Life) (stamp : ℕ) → IsFrozenToEnd v.sizes v.front x → IsRetired
    (Some x) v y stamp → IsRetired None v y stamp
retired_to_end x v y stamp done h = record {
  life = h.life;
  stamped = h.stamped;
  shown = h.shown;
  own_list = h.own_list;
  list = λ i other there on. dite (ℕ_discrete i x)
      (λ same. subst (λ (k : ℕ). IsFrozenToEnd v.sizes v.front k) (sym same) done)
      (λ apart. h.list i apart there on);
}

pub limbo_to_end : (x : ℕ) (v : View) (rs : List RipeValue) → IsFrozenToEnd v.sizes v.front x → IsLimboOf (Some x) v rs
    → IsLimboOf None v rs
limbo_to_end x v rs done h = record {
  each = every_map (λ (r : RipeValue). IsRetired (Some x) v r.life r.stamp)
      (λ (r : RipeValue). IsRetired None v r.life r.stamp) (λ r p. retired_to_end x v r.life r.stamp done p) rs h.each;
  apart = h.apart;
  rising = h.rising;
}

-- how many nodes a limbo has
all_spent : (but : Option ℕ) (v : View) (rs : List RipeValue) → Every
    (λ (r : RipeValue). IsRetired but v r.life r.stamp) rs → Every (λ (x : ℕ). IsSpentWith v.sizes v.front v.number x)
    (map index_in rs)
all_spent but v [] h = tt
all_spent but v (r ∷ rs) h = (h.0.stamped.spent, all_spent but v rs h.1)

pub limbo_fits : (but : Option ℕ) (v : View) (rs : List RipeValue) → IsKept v.sizes v.front → IsLimboOf but v rs
    → length rs ≤ v.sizes.nodes
limbo_fits but v rs kept h =
    let n = spent_fit v kept (map index_in rs) h.apart (all_spent but v rs h.each) in
    subst (λ (k : ℕ). k ≤ v.sizes.nodes) (length-map rs index_in) n

pub limbo_room : (but : Option ℕ) (v : View) (rs : List RipeValue) (x : Life) → IsKept v.sizes v.front
    → IsLimboOf but v rs → IsHeldSpent v x → IsOut x.index rs → length rs < v.sizes.nodes
limbo_room but v rs x kept h held out =
    let n = room_for_one v kept (map index_in rs) h.apart (all_spent but v rs h.each) x.index held.spent
    (out_indices x.index rs out) in
    let k : length rs + 1 ≤ v.sizes.nodes = subst (λ (k : ℕ). k + 1 ≤ v.sizes.nodes) (length-map rs index_in) n in
    omega (arith, k)

-- a node is put before the others
pub limbo_before : (but : Option ℕ) (v : View) (r : RipeValue) (rs : List RipeValue) → IsLimboOf but v rs
    → IsRetired but v r.life r.stamp → IsOut r.life.index rs → Every (λ (q : RipeValue). r.stamp ≤ q.stamp) rs
    → IsLimboOf but v (r ∷ rs)
limbo_before but v r rs h new out low = record {
  each = (new, h.each);
  apart =
      (out_indices r.life.index rs out, h.apart);
  rising = (low, h.rising);
}

pub is_put_back : (old new : LimboValue) (r : RipeValue) → new.nodes ≡ r ∷ old.nodes → new.room ≡ old.room
    → IsPutBack old new r
is_put_back old new r nodes room = record {
  nodes = nodes;
  room = room;
  limbo = λ but v h new_one out low. subst (λ (rs : List RipeValue). IsLimboOf but v rs) (sym nodes)
      (limbo_before but v r old.nodes h new_one out low);
}

-- a node is put behind the others
apart_more : (rs : List RipeValue) (r : RipeValue) → AreApart (map index_in rs) → IsOut r.life.index rs → AreApart
    (map index_in (rs ++ r ∷ []))
apart_more [] r a o = (tt, tt)
apart_more (q ∷ rs) r a o = (
  out_indices (index_in q) (rs ++ r ∷ [])
      (every_more (λ (p : RipeValue). index_in p ≢ index_in q) rs r (in_indices (index_in q) rs a.0)
      (λ same. o.0 (sym same))),
  apart_more rs r a.1 o.1,
)

rising_more : (rs : List RipeValue) (r : RipeValue) → AreRising rs → Every (λ (q : RipeValue). q.stamp ≤ r.stamp) rs
    → AreRising (rs ++ r ∷ [])
rising_more [] r a low = (tt, tt)
rising_more (q ∷ rs) r a low = (
  every_more (λ (p : RipeValue). q.stamp ≤ p.stamp) rs r a.0 low.0,
  rising_more rs r a.1
      low.1,
)

-- an epoch that was shown is at most the epoch
shown_low : (v : View) (stamp : ℕ) → IsKept v.sizes v.front → IsShown v stamp → stamp ≤ word_at v.sizes v.front
    (epoch_at v.sizes)
shown_low v stamp kept s = omega (arith, s.epoch, epoch_word_rises v.sizes s.moment v.front s.before kept)

limbo_behind : (but : Option ℕ) (v : View) (rs : List RipeValue) (r : RipeValue) → IsKept v.sizes v.front
    → IsLimboOf but v rs → IsRetired but v r.life r.stamp → word_at v.sizes v.front (epoch_at v.sizes) ≡ r.stamp
    → IsOut r.life.index rs → IsLimboOf but v (rs ++ r ∷ [])
limbo_behind but v rs r kept h new is out = record {
  each = every_more (λ (q : RipeValue). IsRetired but v q.life q.stamp) rs r h.each new;
  apart = apart_more rs r h.apart out;
  rising = rising_more rs r h.rising (every_map (λ (q : RipeValue). IsRetired but v q.life q.stamp)
      (λ (q : RipeValue). q.stamp ≤ r.stamp) (λ q p. omega (arith, shown_low v q.stamp kept p.shown, is)) rs h.each);
}

-- a node that may be retired is so with the epoch of now
retired_now : (but : Option ℕ) (v : View) (x : Life) → IsRetirable but v x → IsRetired but v x
    (word_at v.sizes v.front (epoch_at v.sizes))
retired_now but v x h = record {
  life = h.held.life;
  stamped = stamped v.sizes v.front v.number x.index (word_at v.sizes v.front (epoch_at v.sizes)) h.held.spent
      (omega arith);
  shown = record { moment = v.front; before = prefix_refl v.front; epoch = omega arith };
  own_list = h.own_list;
  list = h.list;
}

-- and with a later one that was shown
retired_later : (but : Option ℕ) (v : View) (x : Life) (old new : ℕ) → old ≤ new → IsShown v new → IsRetired but v x old
    → IsRetired but v x new
retired_later but v x old new low shown h = record {
  life = h.life;
  stamped = record {
    spent = h.stamped.spent;
    when = h.stamped.when;
    when_before = h.stamped.when_before;
    when_spent =
        h.stamped.when_spent;
    when_life = h.stamped.when_life;
    when_epoch = let l = h.stamped.when_epoch in omega
        (arith, l, low);
  };
  shown = shown;
  own_list = h.own_list;
  list = h.list;
}

pub is_retired_into : (v w : View) (old new : LimboValue) (x : Life) (at found : ℕ) → IsLayout v.sizes
    → v.numbered ≡ true → IsSound v → Looked v at found w → at ≡ epoch_at v.sizes
    → new.nodes ≡ old.nodes ++ record { life = x; stamp = found } ∷ [] → new.room ≡ old.room
    → IsRetiredInto old new v w x
is_retired_into v w old new x at found z has s l at_is nodes room =
    let makes = makes_look v w at found has s l in
    let later = makes_later v w [] makes in
    let epoch = word_at w.sizes w.front (epoch_at w.sizes) in
    let is : found ≡ epoch = l.word ∙ (ap (word_at v.sizes w.front) at_is ∙ ap
    (λ (q : Sizes). word_at q w.front (epoch_at q)) (sym later.sizes)) in
    let nodes_are : new.nodes ≡ old.nodes ++ record { life = x; stamp = epoch } ∷ [] = nodes ∙ ap
    (λ (e : ℕ). old.nodes ++ record { life = x; stamp = e } ∷ []) is in
    record {
      nodes = nodes_are;
      room = room;
      limbo = λ but h r out.
          let was = word_at v.sizes v.front (epoch_at v.sizes) in
          let still = makes_retired v w [] z but x was tt makes (retired_now but v x r) in
          let low = shown_low w was later.kept still.shown in
          let now = retired_later but w x was epoch low (record
          { moment = w.front; before = prefix_refl w.front; epoch = omega arith }) still in
          subst (λ (rs : List RipeValue). IsLimboOf but w rs) (sym nodes_are)
          (limbo_behind but w old.nodes (record { life = x; stamp = epoch }) later.kept
          (limbo_still but v w [] z makes old.nodes (all_others but v w [] z makes old.nodes old.nodes tt) h) now
          refl out);
    }

-- a node of a limbo may be given back once an epoch two above its stamp was shown
pub givable_of : (v : View) (r : RipeValue) (epoch : ℕ) → IsShown v epoch → r.stamp + 2 ≤ epoch
    → IsRetired None v r.life r.stamp → IsGivable v r.life
givable_of v r epoch shown high h = record {
  life = h.life;
  ripe = ripens v.sizes shown.moment v.front shown.before v.number r.life.index r.stamp h.stamped
      (let e = shown.epoch in omega (arith, high, e));
  own_list = h.own_list;
  list = λ y. h.list y (λ none. none);
}

-- the first of some nodes
first_is : (rs : List RipeValue) (r : RipeValue) → 0 < length rs → r ≡ slice_index_or rs 0 r → rs ≡ r ∷ drop 1 rs
first_is [] r some is = absurd (omega (arith, some))
first_is (q ∷ rs) r some is = ap (λ (p : RipeValue). p ∷ rs) (sym is)

-- the oldest node is taken out
pub is_ripe_out : (old new : LimboValue) (v : View) (epoch : ℕ) (r : RipeValue) → IsShown v epoch
    → IsLimboOf None v old.nodes → old.nodes ≡ r ∷ new.nodes → new.room ≡ old.room → r.stamp + 2 ≤ epoch
    → IsRipeOut old new v epoch r
is_ripe_out old new v epoch r shown h nodes room high =
    let l : IsLimboOf None v (r ∷ new.nodes) = subst (λ (rs : List RipeValue). IsLimboOf None v rs) nodes h in
    record {
      nodes = nodes;
      room = room;
      stamp = high;
      givable = givable_of v r epoch shown high l.each.0;
      retired = l.each.0;
      out = in_indices r.life.index new.nodes l.apart.0;
      limbo = record { each = l.each.1; apart = l.apart.1; rising = l.rising.1 };
    }

-- or it isn't ripe, and then none is
none_of_later : (epoch stamp : ℕ) (rs : List RipeValue) → epoch < stamp + 2 → Every
    (λ (q : RipeValue). stamp ≤ q.stamp) rs → Every (λ (q : RipeValue). epoch < q.stamp + 2) rs
none_of_later epoch stamp rs early rising = every_map (λ (q : RipeValue). stamp ≤ q.stamp)
    (λ (q : RipeValue). epoch < q.stamp + 2) (λ q low. omega (arith, early, low)) rs rising

pub is_none_ripe : (old : LimboValue) (v : View) (epoch : ℕ) (r : RipeValue) (rs : List RipeValue)
    → IsLimboOf None v old.nodes → old.nodes ≡ r ∷ rs → epoch < r.stamp + 2 → IsNoneRipe old old epoch
is_none_ripe old v epoch r rs h nodes early =
    let l : IsLimboOf None v (r ∷ rs) = subst (λ (qs : List RipeValue). IsLimboOf None v qs) nodes h in
    record {
      same = refl;
      none = subst (λ (qs : List RipeValue). Every (λ (q : RipeValue). epoch < q.stamp + 2) qs)
          (sym nodes) (early, none_of_later epoch r.stamp rs early l.rising.0);
    }

pub is_none_in : (old : LimboValue) (epoch : ℕ) → old.nodes ≡ [] → IsNoneRipe old old epoch
is_none_in old epoch nodes = record {
  same = refl;
  none = subst
      (λ (qs : List RipeValue). Every (λ (q : RipeValue). epoch < q.stamp + 2) qs) (sym nodes) tt;
}

-- what is found in a limbo whose first node is this one
module _ (old : LimboValue) (v : View) (epoch : ℕ) (r : RipeValue) (shown : IsShown v epoch)
    (h : IsLimboOf None v old.nodes) (some : 0 < length old.nodes) (is : r ≡ slice_index_or old.nodes 0 r) where
  pub ripe_first : (new : LimboValue) (result : Option RipeValue) → 2 ≤ epoch - r.stamp → result ≡ Some
      (slice_index_or old.nodes 0 r) → new.nodes ≡ drop 1 old.nodes → new.room ≡ old.room
      → MatchRipe result old new v epoch
  ripe_first new result age found rest room =
      let at : result ≡ Some r = found ∙ ap (λ (q : RipeValue). Some q) (sym is) in
      let nodes : old.nodes ≡ r ∷ new.nodes = first_is old.nodes r some is ∙ ap (λ (rs : List RipeValue). r ∷ rs)
      (sym rest) in
      subst (λ (o : Option RipeValue). MatchRipe o old new v epoch) (sym at)
      (is_ripe_out old new v epoch r shown h nodes room (omega (arith, age)))

  pub young_first : epoch - r.stamp < 2 → IsNoneRipe old old epoch
  young_first age = is_none_ripe old v epoch r (drop 1 old.nodes) h (first_is old.nodes r some is) (omega (arith, age))
