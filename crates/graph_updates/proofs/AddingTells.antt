-- What placing a node tells: where it comes from, that it's filled for its position, and what linking it came to.
use Rattle.std.proofs.Common.{◌≡◌, ◌≢◌, ℕ, ◌+◌, ◌<◌, ◌≤◌, true, false, List, [], ◌∷◌, ◌++◌, length, None, Some}
use Rattle.std.proofs.Common.{Option, inl, inr, refl, ap, subst, arith, ⊎_elim}
use Rattle.packed_link.specs.Layout.{IsLayout, bucket_at, free_at}
use Rattle.packed_link.specs.declared.link.Life.{Life}
use Rattle.core_journal.specs.declared.event.Kind.TheVariants.{PopFree, StorePrivate}
use Rattle.core_journal.specs.declared.event.Event.{Event}
use Rattle.core_journal.specs.Event.{pops}
use Rattle.core_journal.specs.Prefix.{IsPrefix}
use Rattle.core_journal.proofs.ForeignAddsUp.{adds_up}
use Rattle.core_journal.proofs.Lists.{prefix_length}
use Rattle.core_lists.specs.Changed.{IsChangedByAnother}
use Rattle.core_lists.proofs.ChangedByAnother.{change_counts}
use Rattle.core_rule.specs.Fronts.{IsVertexLink}
use Rattle.core_rule.specs.OwnEvents.{link_vertex_event, pop_event}
use Rattle.core_rule.specs.Plays.{IsSound}
use Rattle.core_rule.specs.declared.view.View.{View}
use Rattle.core_stretches.specs.Holdings.{IsHeldFresh}
use Rattle.core_stretches.specs.Makes.{Makes, StaysInPass}
use Rattle.core_stretches.proofs.MakesAddUp.{makes_chain, makes_self}
use Rattle.core_stretches.proofs.MakesTell.{makes_later}
use Rattle.node_arena.specs.Filling.{vertex_stores}
use Rattle.node_arena.specs.Taking.{IsTakeLost, MatchTaken}
use Rattle.node_arena.specs.declared.taking.Taken.{Taken}
use Rattle.node_arena.specs.declared.taking.Taken.TheVariants as taken
use Rattle.graph_table.specs.Tokens.{TokenValue}
use Rattle.vertex_list.specs.Changes.{IsLinked, IsLost}
use Rattle.vertex_list.specs.Positions.{IsGap, PositionValue}
use Rattle.vertex_list.proofs.PositionsGoOn.{gap_makes, place_apart, position_leads}
use Rattle.graph_updates.specs.Adding.{IsNodeFor, IsNodePlaced, IsPlaceLost, MatchNode, MatchPlacing, Readies}
use Rattle.graph_updates.specs.declared.adding.Placing.{Placing}
use Rattle.graph_updates.specs.declared.adding.Placing.TheVariants as placed
use Rattle.graph_updates.specs.Hands.{HoldsNoOther, HoldsSpare}
use Rattle.graph_updates.specs.Parts.{IsReadying, may_take}
use Rattle.graph_updates.proofs.BurialLists.{every_both, every_map}
use Rattle.graph_updates.proofs.PartsLeave.{kinds_both, only_fresh, other_goes, spare_goes}

-- the spare node is handed over, and nothing is made
pub node_spare : (v : View) (spare : Option Life) (x : Life) → v.numbered ≡ true → IsSound v → spare ≡ Some x
    → HoldsSpare spare v → IsNodeFor spare v v x
node_spare v spare x has s is h = record {
  readied = record { own = []; are = tt; makes = makes_self v has s; takes = omega arith };
  at = tt;
  held = subst (λ (o : Option Life). HoldsSpare o v) is h;
}

-- or one is taken
pub node_taken : (r : Taken) (v w : View) → MatchTaken r v w → MatchNode r None v w
node_taken (taken.Node x) v w t = record {
  readied = record { own = pop_event v t.seen t.next ∷ []; are = (inl refl, tt); makes = t.makes; takes = omega arith };
  at = (refl, tt);
  held = t.held;
}
node_taken taken.Empty v w t = (refl, t)
node_taken taken.Lost v w t = (refl, t)

pub ready_stays : (e : Event) → IsReadying e.kind → StaysInPass e
ready_stays e h = (
  (λ is. ⊎_elim (λ (k : e.kind ≡ PopFree). absurd (cc)) (λ (k : e.kind ≡ StorePrivate). absurd (cc)) h),
  (λ is. ⊎_elim (λ (k : e.kind ≡ PopFree). absurd (cc)) (λ (k : e.kind ≡ StorePrivate). absurd (cc)) h),
)

-- a node is filled, and the position stays
module _ (v u : View) (x : Life) (key next : ℕ) (z : IsLayout v.sizes) (makes : Makes v (vertex_stores v x key next) u)
  where
    pub filled_readies : Readies 0 v u
    filled_readies = record {
      own = vertex_stores v x key next;
      are = (inr refl, (inr refl, (inr refl, (inr refl, tt))));
      makes = makes;
      takes = omega arith;
    }

    pub filled_gap : (p : PositionValue) → IsHeldFresh v x → IsGap v p → IsGap u p
    filled_gap p held gap =
        gap_makes v u (vertex_stores v x key next) p z
        (every_map (λ (e : Event). IsReadying e.kind) StaysInPass ready_stays (vertex_stores v x key next)
        (inr refl, (inr refl, (inr refl, (inr refl, tt))))) (
          place_apart false v p x 0 z (omega arith) held gap.position,
          (
            place_apart false v p x 1 z (omega arith) held gap.position,
            (
              place_apart false v p x 2 z (omega arith) held gap.position,
              (place_apart false v p x 3 z (omega arith) held gap.position, tt),
            ),
          ),
        )
        makes gap

-- it's linked, by the last event of the front
pub linked_is : (v u w : View) (x : Life) (p : PositionValue) (m : TokenValue) → Readies 0 v u → IsLinked p x u w
    → m.view.front ≡ w.front → IsNodePlaced p.key (Some x) v w m
linked_is v u w x p m first l moment = record {
  before = u;
  event = link_vertex_event u p.place p.word p.key x;
  first = first;
  makes = l.makes;
  kind = refl;
  carries = l.carries;
  moment = moment;
  none = l.none;
}

-- or it's handed back: another caller changed a place since a moment
pub place_lost : (v u w : View) (x : Life) (moment : List Event) (place : ℕ) → IsLayout u.sizes → Readies 0 v u
    → IsHeldFresh u x → Makes u [] w → IsChangedByAnother moment w.front w.number place
    → IsPlaceLost moment (Some x) v w (Some x)
place_lost v u w x moment place z first held makes changed =
    let later = makes_later u w [] makes in
    let t = first.takes in
    let held_w : IsHeldFresh w x = spare_goes u w [] z makes tt (Some x) held in
    record {
      taken = 0;
      first = record {
        own = first.own ++ [];
        are = every_both (λ (e : Event). IsReadying e.kind) first.own [] first.are tt;
        makes = makes_chain v u w first.own [] first.makes makes;
        takes = let s = kinds_both pops first.own [] in omega (arith, s, t);
      };
      spares = omega arith;
      held = held_w;
      other = only_fresh w x later.kept held_w;
      fell = record { least = change_counts moment w.front w.number place changed };
    }

pub link_lost : (v u w : View) (x : Life) (p : PositionValue) → IsLayout u.sizes → Readies 0 v u → IsHeldFresh u x
    → IsLost p u w → IsPlaceLost p.moment (Some x) v w (Some x)
link_lost v u w x p z first held lost = place_lost v u w x p.moment p.place z first held lost.makes lost.changed

-- one stretch that readies behind another
pub readies_chain : (a b : ℕ) (u v w : View) → Readies a u v → Readies b v w → Readies (a + b) u w
readies_chain a b u v w g h =
    let p = kinds_both pops g.own h.own in
    let gt = g.takes in
    let ht = h.takes in
    record {
      own = g.own ++ h.own;
      are = every_both (λ (e : Event). IsReadying e.kind) g.own h.own g.are h.are;
      makes = makes_chain u v w g.own h.own g.makes h.makes;
      takes = omega (arith, p, gt, ht);
    }

pub readies_as : (a b : ℕ) (v w : View) → a ≤ b → Readies a v w → Readies b v w
readies_as a b v w low h = let t = h.takes in record {
  own = h.own;
  are = h.are;
  makes = h.makes;
  takes = omega (arith, t, low);
}

-- the position stays while a node is taken
pub node_gap : (spare : Option Life) (v w : View) (x : Life) (p : PositionValue) → IsLayout v.sizes
    → IsNodeFor spare v w x → IsGap v p → IsGap w p
node_gap spare v w x p z n gap = gap_makes v w n.readied.own p z
    (every_map (λ (e : Event). IsReadying e.kind) StaysInPass ready_stays n.readied.own n.readied.are)
    (every_map (λ (e : Event). e.place ≡ free_at v.sizes) (λ (e : Event). e.place ≢ p.place) apart n.readied.own n.at)
    n.readied.makes gap
  where
    apart : (e : Event) → e.place ≡ free_at v.sizes → e.place ≢ p.place
    apart e at same = ⊎_elim
        (λ (b : (j : ℕ) × (j < v.sizes.buckets) × (p.place ≡ bucket_at v.sizes j)).
        let is = b.2 in absurd (omega (arith, is, at, same)))
        (λ (b : (y : Life) × IsVertexLink v p.place y).
        let is = b.1.place_is in absurd (omega (arith, is, at, same)))
        (position_leads false v p z gap.position)

-- what placing a node came to, told from before the node was taken
pub placed_since : (r : Placing) (spare : Option Life) (v u w : View) (x : Life) (p : PositionValue)
    → IsNodeFor spare v u x → MatchPlacing r (Some x) p u w → MatchPlacing r spare p v w
placed_since (placed.Linked m) spare v u w x p n h = record {
  before = h.before;
  event = h.event;
  first = readies_as (may_take spare + 0) (may_take spare) v h.before (omega arith)
      (readies_chain (may_take spare) 0 v u h.before n.readied h.first);
  makes = h.makes;
  kind = h.kind;
  carries = h.carries;
  moment = h.moment;
  none = h.none;
}
placed_since (placed.Full q) spare v u w x p n h = absurd (let k = h.1.0 in cc)
placed_since (placed.Lost new) spare v u w x p n h =
    let few = h.spares in
    record {
      taken = may_take spare + h.taken;
      first = readies_chain (may_take spare) h.taken v u w n.readied h.first;
      spares = omega (arith, few);
      held = h.held;
      other = h.other;
      fell = h.fell;
    }

-- the free list was changed by another caller: no node was taken
pub take_lost : (spare : Option Life) (v w : View) (p : PositionValue) → v.numbered ≡ true → IsLayout v.sizes
    → spare ≡ None → HoldsNoOther spare v → IsPrefix p.moment v.front → IsTakeLost v w
    → IsPlaceLost p.moment spare v w None
take_lost spare v w p has z bare only before t =
    let grown = prefix_length t.loaded w.front t.found.until in
    let since = prefix_length v.front t.loaded t.found.since in
    let old = prefix_length p.moment v.front before in
    let one = change_counts t.loaded w.front w.number (free_at w.sizes) t.changed in
    let a = adds_up w.front w.number (length p.moment) (length t.loaded) (length w.front) (omega (arith, old, since))
    grown in
    let none : HoldsNoOther None v = subst (λ (o : Option Life). HoldsNoOther o v) bare only in
    let free : may_take spare ≡ 1 = ap may_take bare in
    record {
      taken = 0;
      first = record { own = []; are = tt; makes = t.makes; takes = omega arith };
      spares = omega (arith, free);
      held = tt;
      other = other_goes v w [] z t.makes tt tt None tt none;
      fell = record { least = omega (arith, one, a) };
    }
