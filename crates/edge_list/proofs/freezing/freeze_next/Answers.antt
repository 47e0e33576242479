use Rattle.std.proofs.Common.{ap, ap₂, refl, sym, subst, ◌∙◌, ◌≡◌, ◌<◌, [], true, ℕ}
use Rattle.packed_link.specs.Link.{index_of, nowhere}
use Rattle.packed_link.specs.Layout.{Sizes, link_at}
use Rattle.packed_link.specs.declared.link.Life.{Life}
use Rattle.core_journal.specs.Machine.{word_at}
use Rattle.core_lists.proofs.FrozenWordLeads.{frozen_finished}
use Rattle.core_rule.specs.OwnEvents.{freeze_edge_event}
use Rattle.core_stretches.specs.Makes.{Makes, marking}
use Rattle.core_stretches.proofs.MakesAddUp.{makes_chain, makes_look, makes_self}
use Rattle.core_stretches.proofs.MakesTell.{makes_later}
use Rattle.edge_list.specs.Freezing.{FrozenValue, IsFreezing, IsFrozenWhole, IsHandedTo}
use Rattle.edge_list.proofs.ListUnderFreezing.{next_edge, may_freeze, handed, same_freeze}
use Rattle.edge_list.proofs.freezing.freeze_next.Goals as goal

pub returns-then-index-eq16777215-clause-frozen : goal.returns-then-index-eq16777215-clause-frozen
returns-then-index-eq16777215-clause-frozen c =
    let v = c.args.token.now.view in
    let f : FrozenValue = record
    { from = c.frozen.inside.from; place = c.frozen.inside.place; next = c.frozen.inside.next } in
    let h : IsFreezing v f = subst (λ (q : FrozenValue). IsFreezing v q) (sym c.frozen.view_is) c.requires.frozen in
    let none : index_of (word_at v.sizes v.front f.place) ≡ nowhere = sym h.leads ∙ c.if-index-eq16777215.true in
    let done : IsFrozenWhole f v v f = record {
      same = refl;
      makes = makes_self v c.requires.number c.requires.table.sound;
      leads = none;
      freezing = h;
      whole = frozen_finished v.sizes c.requires.table.layout v.front c.requires.table.sound.kept f.from.index f.place
          h.vertex.list h.word none;
    } in
    subst (λ (q : FrozenValue). IsFrozenWhole q v v q) c.frozen.view_is done

pub link_at-requires : goal.link_at-requires
link_at-requires c =
    let v = c.args.token.now.view in
    let f : FrozenValue = record
    { from = c.frozen.inside.from; place = c.frozen.inside.place; next = c.frozen.inside.next } in
    let h : IsFreezing v f = subst (λ (q : FrozenValue). IsFreezing v q) (sym c.frozen.view_is) c.requires.frozen in
    let n = next_edge v f c.requires.table.layout c.requires.table.sound.kept h c.if-index-eq16777215.false in
    subst (λ (s : Sizes). f.next < s.nodes) (c.requires.table.sizes ∙ sym c.layout-layout.ensures.sizes) n.there

pub freeze_edge-word-requires-clause-may : goal.freeze_edge-word-requires-clause-may
freeze_edge-word-requires-clause-may c =
    let v = c.args.token.now.view in
    let f : FrozenValue = record
    { from = c.frozen.inside.from; place = c.frozen.inside.place; next = c.frozen.inside.next } in
    let h : IsFreezing v f = subst (λ (q : FrozenValue). IsFreezing v q) (sym c.frozen.view_is) c.requires.frozen in
    let u = c.load.new.token.view in
    let at : c.link_at.result ≡ link_at v.sizes f.next = c.link_at.ensures.place ∙
    ap (λ (s : Sizes). link_at s f.next) (c.layout-layout.ensures.sizes ∙ sym c.requires.table.sizes) in
    let q = may_freeze v u f _ c.load.result c.tag.result c.requires.table.layout c.load.ensures.table.layout
    c.requires.number c.requires.table.sound h c.if-index-eq16777215.false c.load.ensures.looked at
    c.tag.ensures.tag in
    (f.from, f.place, q.1)

pub returns-clause-frozen : goal.returns-clause-frozen
returns-clause-frozen c =
    let v = c.args.token.now.view in
    let f : FrozenValue = record
    { from = c.frozen.inside.from; place = c.frozen.inside.place; next = c.frozen.inside.next } in
    let h : IsFreezing v f = subst (λ (q : FrozenValue). IsFreezing v q) (sym c.frozen.view_is) c.requires.frozen in
    let u = c.load.new.token.view in
    let at : c.link_at.result ≡ link_at v.sizes f.next = c.link_at.ensures.place ∙
    ap (λ (s : Sizes). link_at s f.next) (c.layout-layout.ensures.sizes ∙ sym c.requires.table.sizes) in
    let q = may_freeze v u f _ c.load.result c.tag.result c.requires.table.layout c.load.ensures.table.layout
    c.requires.number c.requires.table.sound h c.if-index-eq16777215.false c.load.ensures.looked at
    c.tag.ensures.tag in
    let first = makes_look v u _ _ c.requires.number c.requires.table.sound c.load.ensures.looked in
    let later = makes_later v u [] first in
    let has : u.numbered ≡ true = later.numbered ∙ c.requires.number in
    let w = c.freeze_edge-word.new.token.view in
    let place = link_at c.args.table.now.sizes f.next in
    let at2 : c.link_at-frozen-inside.result ≡ place = c.link_at-frozen-inside.ensures.place ∙ ap
    (λ (s : Sizes). link_at s f.next) c.layout-layout.ensures.sizes in
    let x : Life = record { index = f.next; tag = c.tag.result } in
    let new : FrozenValue = record
    { from = f.from; place = c.link_at-frozen-inside.result; next = c.index-frozen-inside.result } in
    let is : new ≡ record { from = f.from; place = place; next = index_of c.freeze_edge-word.result.0 } = ap₂
    (λ (p m : ℕ). record { from = f.from; place = p; next = m }) at2 c.index-frozen-inside.ensures.index in
    let d = handed u w f new x place c.freeze_edge-word.result.0 c.load.ensures.table.layout
    c.freeze_edge-word.ensures.table.layout has c.load.ensures.table.sound q.0 q.1
    (ap (λ (s : Sizes). link_at s f.next) (sym c.load.ensures.table.sizes)) is c.freeze_edge-word.ensures.marked in
    let here : Makes v (marking (freeze_edge_event v x) d.found) w = makes_chain v u w []
    (marking (freeze_edge_event v x) d.found) first (same_freeze u u v w later.sizes later.number x d.found d.makes)
    in
    let done : IsHandedTo f v w x new = record {
      from = d.from;
      leads = d.leads;
      place = d.place;
      found = d.found;
      makes = here;
      held = d.held;
      edge = d.edge;
      listed = d.listed;
      part = d.part;
      freezing = d.freezing;
    } in
    subst (λ (y : Life). IsHandedTo c.args.frozen.now v w y new) (sym c.freeze_edge-word.ensures.node)
    (subst (λ (g : FrozenValue). IsHandedTo g v w x new) c.frozen.view_is done)
