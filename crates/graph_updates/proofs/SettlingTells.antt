-- Settling: the epoch is moved on twice and ripe nodes are given back, and where no other caller's pass lagged, none is
-- left.
use Rattle.std.proofs.Common.{◌≡◌, ℕ, ◌+◌, ◌^◌, ◌<◌, ◌≤◌, Bool, true, false, List, [], ◌∷◌, ◌++◌, refl, sym, ap, ◌∙◌}
use Rattle.std.proofs.Common.{None, subst, arith, length, append_assoc}
use Rattle.graph_kinds.specs.History.{Every}
use Rattle.packed_link.specs.Layout.{Sizes, epoch_at}
use Rattle.core_journal.specs.declared.event.Event.{Event}
use Rattle.core_journal.specs.Event.{moves}
use Rattle.core_journal.specs.Foreign.{foreign}
use Rattle.core_journal.specs.Machine.{word_at}
use Rattle.core_journal.specs.Prefix.{IsPrefix}
use Rattle.core_journal.specs.Reuse.{pass_in}
use Rattle.core_journal.specs.State.{Pass}
use Rattle.core_journal.proofs.ForeignAddsUp.{adds_up, longer_same}
use Rattle.core_journal.proofs.Lists.{prefix_length, prefix_refl, prefix_trans}
use Rattle.core_journal.proofs.MachineWords.{word_here}
use Rattle.core_kept.specs.Counts.{made, most_moves}
use Rattle.core_kept.specs.Kept.{IsKept}
use Rattle.core_kept.proofs.Announcements.{announcements, epoch_word_rises}
use Rattle.core_kept.proofs.Induction.{kept_front}
use Rattle.core_rule.specs.OwnEvents.{move_event}
use Rattle.core_rule.specs.Retired.{IsRetired}
use Rattle.core_rule.specs.declared.view.View.{View}
use Rattle.core_stretches.specs.Holdings.{HasNoPass}
use Rattle.core_stretches.specs.Makes.{Makes}
use Rattle.core_stretches.proofs.MakesAddUp.{makes_self}
use Rattle.core_stretches.proofs.MakesTell.{makes_goes, makes_later}
use Rattle.epoch_limbo.specs.Advances.{IsHeldBy, MatchAdvanced}
use Rattle.epoch_limbo.specs.Limbos.{LimboValue, index_in}
use Rattle.epoch_limbo.specs.Passes.{EpochIs}
use Rattle.epoch_limbo.specs.declared.advancing.Advanced.{Advanced}
use Rattle.epoch_limbo.specs.declared.advancing.Advanced.TheVariants.{Held, Lost, Moved}
use Rattle.graph_table.specs.Tokens.{IsOf, RipeValue, TableValue, TokenValue}
use Rattle.graph_updates.specs.Ending.{HasGiven, HasMovedTwice, HasSettled, IsFreeIn, IsGiving, IsRipeBy, IsSettledAt}
use Rattle.graph_updates.specs.Ending.{LagsIn}
use Rattle.graph_updates.specs.Ending.{NoneLagged, WasFreed}
use Rattle.graph_updates.specs.Hands.{HandValue, HasItsNodes, IsHandOf, IsInOrder, IsRoomyLimbo}
use Rattle.graph_updates.specs.Parts.{Fell}
use Rattle.graph_updates.proofs.BurialLists.{every_both, every_map}
use Rattle.graph_updates.proofs.EndingTells.{Advances, advances}
use Rattle.graph_updates.proofs.GivingTells.{giving_leaves, giving_parts, giving_pass}
use Rattle.graph_updates.proofs.HandsStay.{LeavesParts, due_closed, hand_goes, nodes_go, order_goes}
use Rattle.graph_updates.proofs.HandsStay.{parts_chain}
use Rattle.graph_updates.proofs.PartsLeave.{leaves_chain, only_chain, still_layout}

-- the front of a later view is kept by the sizes of an earlier one
kept_later : (v w : View) (own : List Event) → Makes v own w → IsKept v.sizes w.front
kept_later v w own makes =
    let later = makes_later v w own makes in
    subst (λ (s : Sizes). IsKept s w.front) later.sizes later.kept

-- the epoch rises up to a moment before a later front
rises_to : (s : Sizes) (from at to : List Event) → IsPrefix from at → IsPrefix at to → IsKept s to
    → word_at s from (epoch_at s) ≤ word_at s at (epoch_at s)
rises_to s from at to p q kept = epoch_word_rises s from at p (kept_front s at to q kept)

-- what holds an advance up is another caller's pass that lags
lags : (v w : View) (i : ℕ) → HasNoPass v → IsHeldBy v w i → LagsIn v.sizes v.number i w.front
lags v w i closed h =
    let kept = kept_later v w [] h.makes in
    let told = announcements v.sizes w.front kept in
    let mine : (pass_in v.sizes w.front v.number).is_open ≡ false = ap (λ (p : Pass). p.is_open)
    (makes_goes v w [] tt h.makes).pass ∙ closed in
    let rise = rises_to v.sizes h.loaded w.front w.front h.found.until (prefix_refl w.front) kept in
    let holds = h.found.holds in
    let older = h.older in
    record {
      other = λ is. h.some (told.outside i h.there
          (subst (λ (n : ℕ). (pass_in v.sizes w.front n).is_open ≡ false) (sym is) mine));
      there = h.there;
      opened = by (λ shut. h.some (told.outside i h.there shut)) (pass_in v.sizes w.front i).is_open refl;
      older = omega (arith, rise, holds, older);
    }
  where
    by : ((pass_in v.sizes w.front i).is_open ≡ false → ⊥) → (b : Bool) → (pass_in v.sizes w.front i).is_open ≡ b
        → b ≡ true
    by some true is = refl
    by some false is = absurd (some is)

-- where no other caller's pass lagged, the epoch is greater behind an advance
pub advance_rises : (r : Advanced) (v w : View) → HasNoPass v → MatchAdvanced r v w
    → NoneLagged v.sizes v.number v.front w.front
    → word_at v.sizes v.front (epoch_at v.sizes) + 1 ≤ word_at v.sizes w.front (epoch_at v.sizes)
advance_rises Moved v w closed m none =
    let e = move_event v m.epoch in
    let kept = kept_later v w (e ∷ []) m.makes in
    let was = rises_to v.sizes v.front m.loaded w.front m.found.since m.found.until kept in
    let holds = m.found.holds in
    let here : word_at v.sizes (m.last.past ++ e ∷ []) (epoch_at v.sizes) ≡ m.epoch + 1 = word_here v.sizes
    m.last.past e (omega arith) in
    let word : word_at v.sizes w.front (epoch_at v.sizes) ≡ m.epoch + 1 = ap
    (λ (j : List Event). word_at v.sizes j (epoch_at v.sizes)) m.last.front ∙ here in
    omega (arith, was, holds, word)
advance_rises (Held i) v w closed m none =
    absurd (none w.front (makes_later v w [] m.makes).grows (prefix_refl w.front) i (lags v w i closed m))
advance_rises Lost v w closed m none =
    let kept = kept_later v w [] m.makes in
    let was = rises_to v.sizes v.front m.loaded w.front m.found.since m.found.until kept in
    let rise = rises_to v.sizes m.loaded w.front w.front m.found.until (prefix_refl w.front) kept in
    let holds = m.found.holds in
    let other = m.moved in
    omega (arith, was, rise, holds, other)

-- each stamp of a limbo was reached
stamps_low : (limbo : LimboValue) (v : View) → IsKept v.sizes v.front → IsRoomyLimbo limbo v
    → Every (λ (r : RipeValue). r.stamp ≤ word_at v.sizes v.front (epoch_at v.sizes)) limbo.nodes
stamps_low limbo v kept l = every_map (λ (r : RipeValue). IsRetired None v r.life r.stamp)
    (λ (r : RipeValue). r.stamp ≤ word_at v.sizes v.front (epoch_at v.sizes))
    (λ r p. let rise = rises_to v.sizes p.shown.moment v.front v.front p.shown.before (prefix_refl v.front) kept in
    let low = p.shown.epoch in omega (arith, rise, low)) limbo.nodes l.of.each

every_last : {A : Type 0} (P : A → Type 0) (xs ys : List A) → Every P (xs ++ ys) → Every P ys
every_last P [] ys h = h
every_last P (x ∷ xs) ys h = every_last P xs ys h.1

-- no node is left whose stamp was reached two epochs ago
none_left : (first epoch : ℕ) (rs : List RipeValue) → first + 2 ≤ epoch → Every (λ (r : RipeValue). r.stamp ≤ first) rs
    → Every (λ (r : RipeValue). epoch < r.stamp + 2) rs → rs ≡ []
none_left first epoch [] far low high = refl
none_left first epoch (r ∷ rs) far low high = absurd (let a = low.0 in let b = high.0 in omega (arith, far, a, b))

-- foreign events fell in one part and in the next
fell_more : (n k caller : ℕ) (a b d : List Event) → IsPrefix a b → IsPrefix b d → Fell n caller a b
    → k ≤ foreign d caller (length b) (length d) → Fell (n + k) caller a d
fell_more n k caller a b d p q f low =
    let la = prefix_length a b p in
    let lb = prefix_length b d q in
    let s = adds_up d caller (length a) (length b) (length d) la lb in
    let t = longer_same b d q caller (length a) (length b) (omega arith) in
    let least = f.least in
    record { least = omega (arith, s, t, least, low) }

-- a hand that settles, since an earlier one
pub record IsSettling (g : TableValue) (old now : HandValue) (lost : ℕ) : Type 0 where
  pub hand : IsHandOf g now
  pub nodes : HasItsNodes old → HasItsNodes now
  pub settled : HasSettled old now
  pub closed : HasNoPass now.token.view
  pub fell : Fell lost now.token.view.number settled.moved.front now.token.view.front
  pub epochs : NoneLagged old.token.view.sizes old.token.view.number old.token.view.front now.token.view.front
      → word_at old.token.view.sizes old.token.view.front (epoch_at old.token.view.sizes) + 2
      ≤ word_at old.token.view.sizes now.token.view.front (epoch_at old.token.view.sizes)

-- the epoch is moved on twice
pub twice_limit : (old : HandValue) → IsInOrder old
    → made moves old.token.view.number old.token.view.front + 1 < most_moves
twice_limit old ord = let moved = ord.moved in let uses = ord.uses in omega (arith, moved, uses)

module _ (g : TableValue) (old : HandValue) (h : IsHandOf g old) (closed : HasNoPass old.token.view) (m : TokenValue)
    (both : HasMovedTwice old.token.view m.view) (last_of : IsOf g m) where
  abbrev t : View
  t = both.first

  first : Advances old.token.view t
  first = advances both.one old.token.view t h.of.layout both.once

  first_closed : HasNoPass t
  first_closed = first.pass closed

  second : Advances t m.view
  second = advances both.two t m.view (still_layout old.token.view t first.leaves.own h.of.layout first.leaves.makes)
      both.twice

  abbrev pub settling : HandValue
  settling = record { token = m; limbo = old.limbo; spare = old.spare; uses = old.uses + 1; retired = old.retired }

  both_parts : LeavesParts old.limbo old.limbo old.token.view m.view
  both_parts = parts_chain old.limbo old.limbo old.limbo old.token.view t m.view (first.parts old.limbo)
      (second.parts old.limbo)

  second_number : m.view.numbered ≡ true
  second_number = both_parts.numbered h.numbered

  rises_twice : NoneLagged old.token.view.sizes old.token.view.number old.token.view.front m.view.front
      → word_at old.token.view.sizes old.token.view.front (epoch_at old.token.view.sizes) + 2
      ≤ word_at old.token.view.sizes m.view.front (epoch_at old.token.view.sizes)
  rises_twice none =
      let v = old.token.view in
      let one = makes_later v t first.leaves.own first.leaves.makes in
      let two = makes_later t m.view second.leaves.own second.leaves.makes in
      let x = advance_rises both.one v t closed both.once
      (λ at p q. none at p (prefix_trans at t.front m.view.front q two.grows)) in
      let y = advance_rises both.two t m.view first_closed both.twice
      (λ at p q i lag. none at (prefix_trans v.front t.front at one.grows p) q i
      (subst (λ (z : Sizes). LagsIn z v.number i at) one.sizes
      (subst (λ (n : ℕ). LagsIn t.sizes n i at) one.number lag))) in
      let y_is : word_at v.sizes t.front (epoch_at v.sizes) + 1 ≤ word_at v.sizes m.view.front (epoch_at v.sizes)
      = subst (λ (z : Sizes). word_at z t.front (epoch_at z) + 1 ≤ word_at z m.view.front (epoch_at z))
      one.sizes y in
      omega (arith, x, y_is)

  pub settling_begins : IsSettling g old settling 0
  settling_begins = record {
    hand = hand_goes g old settling h refl both_parts last_of;
    nodes = nodes_go g old settling h refl both_parts;
    settled = record {
      stretch = leaves_chain false 0 1 0 1 old.token.view t m.view first.leaves second.leaves;
      moved = m.view;
      moves = both;
      gives = record { own = []; are = tt; makes = makes_self m.view second_number last_of.sound };
      gone = [];
      limbo = refl;
      ripe = tt;
      freed = tt;
      room = refl;
      spare = refl;
      uses = refl;
    };
    closed = second.pass first_closed;
    fell = record { least = omega arith };
    epochs = rises_twice;
  }

-- ripe nodes are given back
module _ (g : TableValue) (old now : HandValue) (lost : ℕ) (i : IsSettling g old now lost) (epoch : ℕ) (none : Bool)
    (limbo : LimboValue) (u : TokenValue) (b : HasGiven epoch none now.limbo limbo now.token.view u.view)
    (of : IsOf g u) where
  abbrev pub gave_ripe : HandValue
  gave_ripe = record { token = u; limbo = limbo; spare = now.spare; uses = now.uses; retired = now.retired }

  ripe_parts : LeavesParts now.limbo limbo now.token.view u.view
  ripe_parts = giving_parts now.token.view u.view i.hand.of.layout b.given.only now.limbo limbo b.given.limbo
      b.given.all

  then_grows : IsPrefix now.token.view.front u.view.front
  then_grows = (makes_later now.token.view u.view b.given.only.own b.given.only.makes).grows

  since_grows : IsPrefix old.token.view.front now.token.view.front
  since_grows = (makes_later old.token.view now.token.view i.settled.stretch.own i.settled.stretch.makes).grows

  kept_now : IsKept old.token.view.sizes u.view.front
  kept_now =
      let one = makes_later old.token.view now.token.view i.settled.stretch.own i.settled.stretch.makes in
      subst (λ (s : Sizes). IsKept s u.view.front) one.sizes
      (kept_later now.token.view u.view b.given.only.own b.given.only.makes)

  narrower : NoneLagged old.token.view.sizes old.token.view.number old.token.view.front u.view.front
      → NoneLagged old.token.view.sizes old.token.view.number old.token.view.front now.token.view.front
  narrower none at p q = none at p (prefix_trans at now.token.view.front u.view.front q then_grows)

  abbrev pub moved : View
  moved = i.settled.moved

  moved_grows : IsPrefix moved.front now.token.view.front
  moved_grows = (makes_later moved now.token.view i.settled.gives.own i.settled.gives.makes).grows

  moved_sizes : now.token.view.sizes ≡ moved.sizes
  moved_sizes = (makes_later moved now.token.view i.settled.gives.own i.settled.gives.makes).sizes

  -- the epoch is no smaller then
  epoch_rises : (at : List Event) → IsPrefix at u.view.front
      → word_at now.token.view.sizes at (epoch_at now.token.view.sizes)
      ≤ word_at u.view.sizes u.view.front (epoch_at u.view.sizes)
  epoch_rises at p =
      let two = makes_later now.token.view u.view b.given.only.own b.given.only.makes in
      subst (λ (s : Sizes). word_at s at (epoch_at s) ≤ word_at u.view.sizes u.view.front (epoch_at u.view.sizes))
      two.sizes (rises_to u.view.sizes at u.view.front u.view.front p (prefix_refl u.view.front) two.kept)

  pub ripe_still : Every (IsRipeBy u.view) (i.settled.gone ++ b.given.gone)
  ripe_still =
      let rise = epoch_rises now.token.view.front then_grows in
      let load = epoch_rises b.loaded b.found.until in
      let holds = b.found.holds in
      every_both (IsRipeBy u.view) i.settled.gone b.given.gone
      (every_map (IsRipeBy now.token.view) (IsRipeBy u.view) (λ r p. omega (arith, p, rise)) i.settled.gone
      i.settled.ripe)
      (every_map (λ (r : RipeValue). r.stamp + 2 ≤ epoch) (IsRipeBy u.view) (λ r p. omega (arith, p, load, holds))
      b.given.gone b.given.ripe)

  pub freed_still : Every (WasFreed moved u.view) (i.settled.gone ++ b.given.gone)
  freed_still = every_both (WasFreed moved u.view) i.settled.gone b.given.gone
      (every_map (WasFreed moved now.token.view) (WasFreed moved u.view)
      (λ r p. (
        p.0,
        record {
          since = p.1.since;
          until = prefix_trans p.0 now.token.view.front u.view.front p.1.until then_grows;
          holds = p.1.holds;
        },
      ))
      i.settled.gone i.settled.freed)
      (every_map (WasFreed now.token.view u.view) (WasFreed moved u.view)
      (λ r p. (
        p.0,
        record {
          since = prefix_trans moved.front now.token.view.front p.0 moved_grows p.1.since;
          until = p.1.until;
          holds = subst (λ (s : Sizes). IsFreeIn s (index_in r) p.0) moved_sizes p.1.holds;
        },
      ))
      b.given.gone b.given.freed)

  abbrev pub settled_goes : HasSettled old gave_ripe
  settled_goes = record {
    stretch = leaves_chain false 0 2 0 0 old.token.view now.token.view u.view i.settled.stretch
        (giving_leaves now.token.view u.view i.hand.of.layout b.given.only);
    moved = moved;
    moves = i.settled.moves;
    gives = only_chain IsGiving moved now.token.view u.view i.settled.gives b.given.only;
    gone = i.settled.gone ++ b.given.gone;
    limbo = i.settled.limbo ∙ (ap (λ (ns : List RipeValue). i.settled.gone ++ ns) b.given.nodes ∙ sym
        (append_assoc i.settled.gone b.given.gone limbo.nodes));
    ripe = ripe_still;
    freed = freed_still;
    room = b.given.room ∙ i.settled.room;
    spare = i.settled.spare;
    uses = i.settled.uses;
  }

  pub settling_goes : (k : ℕ) → Fell k u.view.number now.token.view.front u.view.front
      → IsSettling g old gave_ripe (lost + k)
  settling_goes k f =
      let number : u.view.number ≡ now.token.view.number = (makes_later now.token.view u.view b.given.only.own
      b.given.only.makes).number in
      record {
        hand = hand_goes g now gave_ripe i.hand refl ripe_parts of;
        nodes = λ n. nodes_go g now gave_ripe i.hand refl ripe_parts (i.nodes n);
        settled = settled_goes;
        closed = giving_pass now.token.view u.view i.hand.of.layout b.given.only false i.closed;
        fell = fell_more lost k u.view.number moved.front now.token.view.front u.view.front moved_grows then_grows
            (subst (λ (n : ℕ). Fell lost n moved.front now.token.view.front) (sym number) i.fell) f.least;
        epochs = λ all.
            let low = i.epochs (narrower all) in
            let rise = rises_to old.token.view.sizes now.token.view.front u.view.front u.view.front then_grows
            (prefix_refl u.view.front) kept_now in
            omega (arith, low, rise);
      }

  -- none is ripe any more
  pub settled_at : IsHandOf g old → none ≡ true → IsSettledAt epoch i.settled.moved old gave_ripe
  settled_at h is =
      let v = old.token.view in
      let one = makes_later v now.token.view i.settled.stretch.own i.settled.stretch.makes in
      let holds : EpochIs v epoch b.loaded = subst (λ (s : Sizes). word_at s b.loaded (epoch_at s) ≡ epoch) one.sizes
      b.found.holds in
      record {
        loaded = b.loaded;
        found = record {
          since = prefix_trans moved.front now.token.view.front b.loaded moved_grows b.found.since;
          until = b.found.until;
          holds = holds;
        };
        left = b.left is;
        empty = λ all.
            let low = i.epochs (narrower all) in
            let rise = rises_to v.sizes now.token.view.front b.loaded u.view.front b.found.since b.found.until
            kept_now in
            none_left (word_at v.sizes v.front (epoch_at v.sizes)) epoch limbo.nodes
            (omega (arith, low, rise, holds))
            (every_last (λ (r : RipeValue). r.stamp ≤ word_at v.sizes v.front (epoch_at v.sizes)) settled_goes.gone
            limbo.nodes
            (subst (Every (λ (r : RipeValue). r.stamp ≤ word_at v.sizes v.front (epoch_at v.sizes))) settled_goes.limbo
            (stamps_low old.limbo v h.of.sound.kept h.limbo)))
            (b.left is);
      }

-- what settling leaves
module _ (g : TableValue) (old now : HandValue) (lost : ℕ) (h : IsHandOf g old) (closed : HasNoPass old.token.view)
    (i : IsSettling g old now lost) where
  pub settled_order : old.uses < 2 ^ 32 → IsInOrder old → IsInOrder now
  settled_order left ord =
      let first = due_closed old.token.view closed in
      let last = due_closed now.token.view i.closed in
      let uses = i.settled.uses in
      order_goes old now 0 2 h.of.layout i.settled.stretch (i.nodes ord.nodes) (omega (arith, uses))
      (omega (arith, first, last, uses)) (omega (arith, left, uses)) ord
