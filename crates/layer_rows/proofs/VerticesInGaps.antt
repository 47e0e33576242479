-- A vertex is linked into the gap to which a walk came, behind the stores that filled it.
use Rattle.std.proofs.Common.{◌≡◌, ◌≢◌, ℕ, ◌+◌, false, [], ◌∷◌, ◌∙◌, None, refl, arith}
use Rattle.graph_kinds.specs.History.{Every}
use Rattle.packed_link.specs.Layout.{IsLayout}
use Rattle.packed_link.specs.Link.{nowhere, pack}
use Rattle.packed_link.specs.declared.link.Life.{Life}
use Rattle.core_journal.specs.Event.{pops}
use Rattle.core_journal.specs.declared.event.Event.{Event}
use Rattle.core_counts.specs.Spending.{GetsNone}
use Rattle.core_rule.specs.OwnEvents.{link_vertex_event}
use Rattle.core_rule.specs.declared.view.View.{View}
use Rattle.core_stretches.specs.Holdings.{IsHeldFresh}
use Rattle.core_stretches.specs.Makes.{Makes, StaysInPass}
use Rattle.core_stretches.proofs.MakesTell.{makes_counts}
use Rattle.node_arena.specs.Filling.{vertex_stores}
use Rattle.vertex_list.specs.Changes.{IsLinked}
use Rattle.vertex_list.specs.Positions.{IsGap, PositionValue}
use Rattle.vertex_list.proofs.PositionsGoOn.{gap_makes, place_apart}
use Rattle.layer_rows.specs.Rows.{IsBuilding, IsVertexAdded, taken_by}
use Rattle.layer_rows.proofs.WorkGoesOn.{building_on, gets_none, number_on, pass_on, store_gets, store_stays, there_on}
use Rattle.layer_rows.proofs.WorkGoesOn.{unmoved_on, unspent_on}

pub stores_stay : (v : View) (x : Life) (key next : ℕ) → Every StaysInPass (vertex_stores v x key next)
stores_stay v x key next = (
  store_stays v x 0 key,
  (
    store_stays v x 1 (pack next 0 x.tag),
    (store_stays v x 2 (pack nowhere 0 x.tag), (store_stays v x 3 0, tt)),
  ),
)

stores_get : (v : View) (x : Life) (key next : ℕ) → Every (GetsNone None) (vertex_stores v x key next)
stores_get v x key next = (
  store_gets v x 0 key,
  (
    store_gets v x 1 (pack next 0 x.tag),
    (store_gets v x 2 (pack nowhere 0 x.tag), (store_gets v x 3 0, tt)),
  ),
)

-- the gap stays one
pub gap_filled : (v w : View) (x : Life) (key next : ℕ) (p : PositionValue) → IsLayout v.sizes
    → Makes v (vertex_stores v x key next) w → IsBuilding v x → IsGap v p → IsGap w p
gap_filled v w x key next p z m b g =
    let f : IsHeldFresh v x = record { life = b.holding.held.life; fresh = b.holding.held.fresh } in
    let apart : Every (λ (e : Event). e.place ≢ p.place) (vertex_stores v x key next) = (
      place_apart false v p x 0 z (omega arith) f g.position,
      (
        place_apart false v p x 1 z (omega arith) f g.position,
        (
          place_apart false v p x 2 z (omega arith) f g.position,
          (
            place_apart false v p x 3 z (omega arith) f g.position,
            tt,
          ),
        ),
      ),
    ) in
    gap_makes v w (vertex_stores v x key next) p z (stores_stay v x key next) apart m g

pub building_filled : (v w : View) (x : Life) (key next : ℕ) → IsLayout v.sizes → Makes v (vertex_stores v x key next) w
    → IsHeldFresh w x → IsBuilding v x → IsBuilding w x × (taken_by w ≡ taken_by v)
building_filled v w x key next z m f b =
    let c = makes_counts pops v w (vertex_stores v x key next) m in (
      building_on v w (vertex_stores v x key next) x z (stores_stay v x key next) (stores_get v x key next) refl m
          b.holding.numbered b.holding.there b.holding.pass b.unspent b.unmoved f,
      c ∙ omega arith,
    )

-- a vertex that was linked
pub vertex_added : (v u w : View) (p : PositionValue) (x : Life) → IsLayout u.sizes → IsBuilding u x
    → taken_by u ≡ taken_by v + 1 → IsLinked p x u w → IsVertexAdded p.key v w x
vertex_added v u w p x z b taken l =
    let e = link_vertex_event u p.place p.word p.key x in
    let c = makes_counts pops u w (e ∷ []) l.makes in
    record {
      work = record {
        resting = record {
          numbered = number_on u w (e ∷ []) l.makes b.holding.numbered;
          there = there_on u w (e ∷ []) l.makes b.holding.there;
          pass = pass_on u w (e ∷ []) (((λ y. absurd (cc)), (λ y. absurd (cc))), tt) l.makes b.holding.pass;
          bare = l.none;
        };
        unspent = unspent_on u w (e ∷ []) z (gets_none e refl (λ y. absurd (cc)), tt) l.makes b.unspent;
        unmoved = unmoved_on u w (e ∷ []) refl l.makes b.unmoved;
      };
      taken = omega (arith, c, taken);
      event = e;
      of = refl;
      carries = l.carries;
    }
