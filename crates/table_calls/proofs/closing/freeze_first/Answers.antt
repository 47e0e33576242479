use Rattle.std.proofs.Common.{◌≡◌, ◌<◌, true, None, Some, refl, ap, sym, subst, ◌∙◌, ⊎_elim}
use Rattle.packed_link.specs.Link.{index_of}
use Rattle.packed_link.specs.Layout.{Sizes, link_at, second_at}
use Rattle.packed_link.specs.declared.link.Life.{Life}
use Rattle.core_rule.specs.Fronts.{MayFreezeEdge}
use Rattle.core_rule.specs.OwnEvents.{freeze_edge_event}
use Rattle.core_rule.specs.Views.{Steps}
use Rattle.core_rule.proofs.ViewShows.{look_steps}
use Rattle.graph_table.specs.Table.{MatchMark}
use Rattle.table_calls.specs.Closing.{FreezesFirst}
use Rattle.table_calls.specs.Vertices.{word_in}
use Rattle.table_calls.proofs.ClosedWords.{closed_on, may_freeze, next_on}
use Rattle.table_calls.proofs.Linking.{marked_rests, marked_uses}
use Rattle.table_calls.proofs.Loaded.{loaded, loaded_chain, loaded_resting, loaded_uses, marked_steps, word_is}
use Rattle.table_calls.proofs.closing.freeze_first.Goals as goal

pub returns-then-index-eq16777215-clause-resting : goal.returns-then-index-eq16777215-clause-resting
returns-then-index-eq16777215-clause-resting c =
    let v = c.args.token.now.view in
    let n = c.requires.resting in
    let s = c.requires.table.sound in
    let v1 = c.load.new.token.view in
    let x = c.args.from in
    let look1 = c.load.ensures.looked in
    let t1 = look_steps v c.second_at-place.result c.load.result v1 n.numbered s look1 in
    let k1 = loaded v c.second_at-place.result c.load.result v1 look1 in
    let c1 = closed_on v v1 None c.requires.table.layout t1 tt x c.requires.closed in
    let at1 : c.second_at-place.result ≡ second_at v1.sizes x.index = c.second_at-place.ensures.place ∙ ap
    (λ (q : Sizes). second_at q x.index) (c.layout-layout.ensures.sizes ∙ sym c.load.ensures.table.sizes) in
    let seen_is : c.load.result ≡ word_in v1 (second_at v1.sizes x.index) = word_is v c.second_at-place.result
    c.load.result v1 look1 ∙ ap (word_in v1) at1 in
    let led : c.index-index.result ≡ index_of (word_in v1 (second_at v1.sizes x.index)) = c.index-index.ensures.index
    ∙ ap index_of seen_is in
    let r1 = loaded_resting v v1 n.numbered s k1 true n in
    r1

pub returns-then-index-eq16777215-clause-closed : goal.returns-then-index-eq16777215-clause-closed
returns-then-index-eq16777215-clause-closed c =
    let v = c.args.token.now.view in
    let n = c.requires.resting in
    let s = c.requires.table.sound in
    let v1 = c.load.new.token.view in
    let x = c.args.from in
    let look1 = c.load.ensures.looked in
    let t1 = look_steps v c.second_at-place.result c.load.result v1 n.numbered s look1 in
    let k1 = loaded v c.second_at-place.result c.load.result v1 look1 in
    let c1 = closed_on v v1 None c.requires.table.layout t1 tt x c.requires.closed in
    let at1 : c.second_at-place.result ≡ second_at v1.sizes x.index = c.second_at-place.ensures.place ∙ ap
    (λ (q : Sizes). second_at q x.index) (c.layout-layout.ensures.sizes ∙ sym c.load.ensures.table.sizes) in
    let seen_is : c.load.result ≡ word_in v1 (second_at v1.sizes x.index) = word_is v c.second_at-place.result
    c.load.result v1 look1 ∙ ap (word_in v1) at1 in
    let led : c.index-index.result ≡ index_of (word_in v1 (second_at v1.sizes x.index)) = c.index-index.ensures.index
    ∙ ap index_of seen_is in
    let r1 = loaded_resting v v1 n.numbered s k1 true n in
    c1

pub returns-then-index-eq16777215-clause-none : goal.returns-then-index-eq16777215-clause-none
returns-then-index-eq16777215-clause-none c none =
    let v = c.args.token.now.view in
    let n = c.requires.resting in
    let s = c.requires.table.sound in
    let v1 = c.load.new.token.view in
    let x = c.args.from in
    let look1 = c.load.ensures.looked in
    let t1 = look_steps v c.second_at-place.result c.load.result v1 n.numbered s look1 in
    let k1 = loaded v c.second_at-place.result c.load.result v1 look1 in
    let c1 = closed_on v v1 None c.requires.table.layout t1 tt x c.requires.closed in
    let at1 : c.second_at-place.result ≡ second_at v1.sizes x.index = c.second_at-place.ensures.place ∙ ap
    (λ (q : Sizes). second_at q x.index) (c.layout-layout.ensures.sizes ∙ sym c.load.ensures.table.sizes) in
    let seen_is : c.load.result ≡ word_in v1 (second_at v1.sizes x.index) = word_is v c.second_at-place.result
    c.load.result v1 look1 ∙ ap (word_in v1) at1 in
    let led : c.index-index.result ≡ index_of (word_in v1 (second_at v1.sizes x.index)) = c.index-index.ensures.index
    ∙ ap index_of seen_is in
    let r1 = loaded_resting v v1 n.numbered s k1 true n in
    sym led ∙ c.if-index-eq16777215.true

pub returns-then-index-eq16777215-clause-uses : goal.returns-then-index-eq16777215-clause-uses
returns-then-index-eq16777215-clause-uses c =
    let v = c.args.token.now.view in
    let n = c.requires.resting in
    let s = c.requires.table.sound in
    let v1 = c.load.new.token.view in
    let x = c.args.from in
    let look1 = c.load.ensures.looked in
    let t1 = look_steps v c.second_at-place.result c.load.result v1 n.numbered s look1 in
    let k1 = loaded v c.second_at-place.result c.load.result v1 look1 in
    let c1 = closed_on v v1 None c.requires.table.layout t1 tt x c.requires.closed in
    let at1 : c.second_at-place.result ≡ second_at v1.sizes x.index = c.second_at-place.ensures.place ∙ ap
    (λ (q : Sizes). second_at q x.index) (c.layout-layout.ensures.sizes ∙ sym c.load.ensures.table.sizes) in
    let seen_is : c.load.result ≡ word_in v1 (second_at v1.sizes x.index) = word_is v c.second_at-place.result
    c.load.result v1 look1 ∙ ap (word_in v1) at1 in
    let led : c.index-index.result ≡ index_of (word_in v1 (second_at v1.sizes x.index)) = c.index-index.ensures.index
    ∙ ap index_of seen_is in
    let r1 = loaded_resting v v1 n.numbered s k1 true n in
    loaded_uses v v1 n.numbered s k1

pub link_at-requires : goal.link_at-requires
link_at-requires c =
    let v = c.args.token.now.view in
    let n = c.requires.resting in
    let s = c.requires.table.sound in
    let v1 = c.load.new.token.view in
    let x = c.args.from in
    let look1 = c.load.ensures.looked in
    let t1 = look_steps v c.second_at-place.result c.load.result v1 n.numbered s look1 in
    let k1 = loaded v c.second_at-place.result c.load.result v1 look1 in
    let c1 = closed_on v v1 None c.requires.table.layout t1 tt x c.requires.closed in
    let at1 : c.second_at-place.result ≡ second_at v1.sizes x.index = c.second_at-place.ensures.place ∙ ap
    (λ (q : Sizes). second_at q x.index) (c.layout-layout.ensures.sizes ∙ sym c.load.ensures.table.sizes) in
    let seen_is : c.load.result ≡ word_in v1 (second_at v1.sizes x.index) = word_is v c.second_at-place.result
    c.load.result v1 look1 ∙ ap (word_in v1) at1 in
    let led : c.index-index.result ≡ index_of (word_in v1 (second_at v1.sizes x.index)) = c.index-index.ensures.index
    ∙ ap index_of seen_is in
    let r1 = loaded_resting v v1 n.numbered s k1 true n in
    subst (λ (q : Sizes). c.index-index.result < q.nodes) (c.load.ensures.table.sizes
    ∙ sym c.layout-layout.ensures.sizes) (next_on v1 x c.index-index.result c.load.ensures.table.layout
    c.load.ensures.table.sound c1 led c.if-index-eq16777215.false).1

pub freeze_edge-found-requires-clause-may : goal.freeze_edge-found-requires-clause-may
freeze_edge-found-requires-clause-may c =
    let v = c.args.token.now.view in
    let n = c.requires.resting in
    let s = c.requires.table.sound in
    let v1 = c.load.new.token.view in
    let x = c.args.from in
    let look1 = c.load.ensures.looked in
    let t1 = look_steps v c.second_at-place.result c.load.result v1 n.numbered s look1 in
    let k1 = loaded v c.second_at-place.result c.load.result v1 look1 in
    let c1 = closed_on v v1 None c.requires.table.layout t1 tt x c.requires.closed in
    let at1 : c.second_at-place.result ≡ second_at v1.sizes x.index = c.second_at-place.ensures.place ∙ ap
    (λ (q : Sizes). second_at q x.index) (c.layout-layout.ensures.sizes ∙ sym c.load.ensures.table.sizes) in
    let seen_is : c.load.result ≡ word_in v1 (second_at v1.sizes x.index) = word_is v c.second_at-place.result
    c.load.result v1 look1 ∙ ap (word_in v1) at1 in
    let led : c.index-index.result ≡ index_of (word_in v1 (second_at v1.sizes x.index)) = c.index-index.ensures.index
    ∙ ap index_of seen_is in
    let r1 = loaded_resting v v1 n.numbered s k1 true n in
    let v2 = c.load-2.new.token.view in
    let look2 = c.load-2.ensures.looked in
    let s1 = c.load.ensures.table.sound in
    let t2 = look_steps v1 c.link_at.result c.load-2.result v2 r1.numbered s1 look2 in
    let k2 = loaded v1 c.link_at.result c.load-2.result v2 look2 in
    let c2 = closed_on v1 v2 None c.load.ensures.table.layout t2 tt x c1 in
    let r2 = loaded_resting v1 v2 r1.numbered s1 k2 true r1 in
    let l2 = loaded_chain v v1 v2 k1 k2 in
    let y : Life = record { index = c.index-index.result; tag = c.tag-tag.result } in
    let may : MayFreezeEdge v2 x (second_at v2.sizes x.index) y = may_freeze v1 v2 x c.index-index.result
    c.link_at.result c.load-2.result c.tag-tag.result c.load.ensures.table.layout c.load-2.ensures.table.layout
    r1.numbered s1 c1 led c.if-index-eq16777215.false look2
    (c.link_at.ensures.place ∙ ap (λ (q : Sizes). link_at q c.index-index.result)
    (c.layout-layout.ensures.sizes ∙ sym c.load.ensures.table.sizes)) c.tag-tag.ensures.tag in
    (x, second_at v2.sizes x.index, may)

pub returns-clause-resting : goal.returns-clause-resting
returns-clause-resting c =
    let v = c.args.token.now.view in
    let n = c.requires.resting in
    let s = c.requires.table.sound in
    let v1 = c.load.new.token.view in
    let x = c.args.from in
    let look1 = c.load.ensures.looked in
    let t1 = look_steps v c.second_at-place.result c.load.result v1 n.numbered s look1 in
    let k1 = loaded v c.second_at-place.result c.load.result v1 look1 in
    let c1 = closed_on v v1 None c.requires.table.layout t1 tt x c.requires.closed in
    let at1 : c.second_at-place.result ≡ second_at v1.sizes x.index = c.second_at-place.ensures.place ∙ ap
    (λ (q : Sizes). second_at q x.index) (c.layout-layout.ensures.sizes ∙ sym c.load.ensures.table.sizes) in
    let seen_is : c.load.result ≡ word_in v1 (second_at v1.sizes x.index) = word_is v c.second_at-place.result
    c.load.result v1 look1 ∙ ap (word_in v1) at1 in
    let led : c.index-index.result ≡ index_of (word_in v1 (second_at v1.sizes x.index)) = c.index-index.ensures.index
    ∙ ap index_of seen_is in
    let r1 = loaded_resting v v1 n.numbered s k1 true n in
    let v2 = c.load-2.new.token.view in
    let look2 = c.load-2.ensures.looked in
    let s1 = c.load.ensures.table.sound in
    let t2 = look_steps v1 c.link_at.result c.load-2.result v2 r1.numbered s1 look2 in
    let k2 = loaded v1 c.link_at.result c.load-2.result v2 look2 in
    let c2 = closed_on v1 v2 None c.load.ensures.table.layout t2 tt x c1 in
    let r2 = loaded_resting v1 v2 r1.numbered s1 k2 true r1 in
    let l2 = loaded_chain v v1 v2 k1 k2 in
    let y : Life = record { index = c.index-index.result; tag = c.tag-tag.result } in
    let may : MayFreezeEdge v2 x (second_at v2.sizes x.index) y = may_freeze v1 v2 x c.index-index.result
    c.link_at.result c.load-2.result c.tag-tag.result c.load.ensures.table.layout c.load-2.ensures.table.layout
    r1.numbered s1 c1 led c.if-index-eq16777215.false look2
    (c.link_at.ensures.place ∙ ap (λ (q : Sizes). link_at q c.index-index.result)
    (c.layout-layout.ensures.sizes ∙ sym c.load.ensures.table.sizes)) c.tag-tag.ensures.tag in
    let v3 = c.freeze_edge-found.new.token.view in
    let found = c.freeze_edge-found.result.0 in
    let place = link_at c.args.table.now.sizes c.index-index.result in
    let e = freeze_edge_event v2 y found in
    let s2 = c.load-2.ensures.table.sound in
    let m3 = c.freeze_edge-found.ensures.marked in
    marked_rests v2 place found e v3 s2 (λ h. absurd (cc)) ((λ h. absurd (cc)), (λ h. absurd (cc))) m3 r2

pub returns-clause-uses : goal.returns-clause-uses
returns-clause-uses c =
    let v = c.args.token.now.view in
    let n = c.requires.resting in
    let s = c.requires.table.sound in
    let v1 = c.load.new.token.view in
    let x = c.args.from in
    let look1 = c.load.ensures.looked in
    let t1 = look_steps v c.second_at-place.result c.load.result v1 n.numbered s look1 in
    let k1 = loaded v c.second_at-place.result c.load.result v1 look1 in
    let c1 = closed_on v v1 None c.requires.table.layout t1 tt x c.requires.closed in
    let at1 : c.second_at-place.result ≡ second_at v1.sizes x.index = c.second_at-place.ensures.place ∙ ap
    (λ (q : Sizes). second_at q x.index) (c.layout-layout.ensures.sizes ∙ sym c.load.ensures.table.sizes) in
    let seen_is : c.load.result ≡ word_in v1 (second_at v1.sizes x.index) = word_is v c.second_at-place.result
    c.load.result v1 look1 ∙ ap (word_in v1) at1 in
    let led : c.index-index.result ≡ index_of (word_in v1 (second_at v1.sizes x.index)) = c.index-index.ensures.index
    ∙ ap index_of seen_is in
    let r1 = loaded_resting v v1 n.numbered s k1 true n in
    let v2 = c.load-2.new.token.view in
    let look2 = c.load-2.ensures.looked in
    let s1 = c.load.ensures.table.sound in
    let t2 = look_steps v1 c.link_at.result c.load-2.result v2 r1.numbered s1 look2 in
    let k2 = loaded v1 c.link_at.result c.load-2.result v2 look2 in
    let c2 = closed_on v1 v2 None c.load.ensures.table.layout t2 tt x c1 in
    let r2 = loaded_resting v1 v2 r1.numbered s1 k2 true r1 in
    let l2 = loaded_chain v v1 v2 k1 k2 in
    let y : Life = record { index = c.index-index.result; tag = c.tag-tag.result } in
    let may : MayFreezeEdge v2 x (second_at v2.sizes x.index) y = may_freeze v1 v2 x c.index-index.result
    c.link_at.result c.load-2.result c.tag-tag.result c.load.ensures.table.layout c.load-2.ensures.table.layout
    r1.numbered s1 c1 led c.if-index-eq16777215.false look2
    (c.link_at.ensures.place ∙ ap (λ (q : Sizes). link_at q c.index-index.result)
    (c.layout-layout.ensures.sizes ∙ sym c.load.ensures.table.sizes)) c.tag-tag.ensures.tag in
    let v3 = c.freeze_edge-found.new.token.view in
    let found = c.freeze_edge-found.result.0 in
    let place = link_at c.args.table.now.sizes c.index-index.result in
    let e = freeze_edge_event v2 y found in
    let s2 = c.load-2.ensures.table.sound in
    let m3 = c.freeze_edge-found.ensures.marked in
    marked_uses v2 place found e v3 r2.numbered s2 refl refl refl m3 ∙ loaded_uses v v2 n.numbered s l2

pub returns-clause-closed : goal.returns-clause-closed
returns-clause-closed c =
    let v = c.args.token.now.view in
    let n = c.requires.resting in
    let s = c.requires.table.sound in
    let v1 = c.load.new.token.view in
    let x = c.args.from in
    let look1 = c.load.ensures.looked in
    let t1 = look_steps v c.second_at-place.result c.load.result v1 n.numbered s look1 in
    let k1 = loaded v c.second_at-place.result c.load.result v1 look1 in
    let c1 = closed_on v v1 None c.requires.table.layout t1 tt x c.requires.closed in
    let at1 : c.second_at-place.result ≡ second_at v1.sizes x.index = c.second_at-place.ensures.place ∙ ap
    (λ (q : Sizes). second_at q x.index) (c.layout-layout.ensures.sizes ∙ sym c.load.ensures.table.sizes) in
    let seen_is : c.load.result ≡ word_in v1 (second_at v1.sizes x.index) = word_is v c.second_at-place.result
    c.load.result v1 look1 ∙ ap (word_in v1) at1 in
    let led : c.index-index.result ≡ index_of (word_in v1 (second_at v1.sizes x.index)) = c.index-index.ensures.index
    ∙ ap index_of seen_is in
    let r1 = loaded_resting v v1 n.numbered s k1 true n in
    let v2 = c.load-2.new.token.view in
    let look2 = c.load-2.ensures.looked in
    let s1 = c.load.ensures.table.sound in
    let t2 = look_steps v1 c.link_at.result c.load-2.result v2 r1.numbered s1 look2 in
    let k2 = loaded v1 c.link_at.result c.load-2.result v2 look2 in
    let c2 = closed_on v1 v2 None c.load.ensures.table.layout t2 tt x c1 in
    let r2 = loaded_resting v1 v2 r1.numbered s1 k2 true r1 in
    let l2 = loaded_chain v v1 v2 k1 k2 in
    let y : Life = record { index = c.index-index.result; tag = c.tag-tag.result } in
    let may : MayFreezeEdge v2 x (second_at v2.sizes x.index) y = may_freeze v1 v2 x c.index-index.result
    c.link_at.result c.load-2.result c.tag-tag.result c.load.ensures.table.layout c.load-2.ensures.table.layout
    r1.numbered s1 c1 led c.if-index-eq16777215.false look2
    (c.link_at.ensures.place ∙ ap (λ (q : Sizes). link_at q c.index-index.result)
    (c.layout-layout.ensures.sizes ∙ sym c.load.ensures.table.sizes)) c.tag-tag.ensures.tag in
    let v3 = c.freeze_edge-found.new.token.view in
    let found = c.freeze_edge-found.result.0 in
    let place = link_at c.args.table.now.sizes c.index-index.result in
    let e = freeze_edge_event v2 y found in
    let s2 = c.load-2.ensures.table.sound in
    let m3 = c.freeze_edge-found.ensures.marked in
    ⊎_elim
    (λ (t : Steps v2 (Some e) v3). closed_on v2 v3 (Some e) c.load-2.ensures.table.layout t
    ((λ h. absurd (cc)), (λ h. absurd (cc))) x c2)
    (λ (t : Steps v2 None v3). closed_on v2 v3 None c.load-2.ensures.table.layout t tt x c2)
    (marked_steps v2 place found e v3 r2.numbered s2 m3)

pub returns-clause-freezes : goal.returns-clause-freezes
returns-clause-freezes c =
    let v = c.args.token.now.view in
    let n = c.requires.resting in
    let s = c.requires.table.sound in
    let v1 = c.load.new.token.view in
    let x = c.args.from in
    let look1 = c.load.ensures.looked in
    let t1 = look_steps v c.second_at-place.result c.load.result v1 n.numbered s look1 in
    let k1 = loaded v c.second_at-place.result c.load.result v1 look1 in
    let c1 = closed_on v v1 None c.requires.table.layout t1 tt x c.requires.closed in
    let at1 : c.second_at-place.result ≡ second_at v1.sizes x.index = c.second_at-place.ensures.place ∙ ap
    (λ (q : Sizes). second_at q x.index) (c.layout-layout.ensures.sizes ∙ sym c.load.ensures.table.sizes) in
    let seen_is : c.load.result ≡ word_in v1 (second_at v1.sizes x.index) = word_is v c.second_at-place.result
    c.load.result v1 look1 ∙ ap (word_in v1) at1 in
    let led : c.index-index.result ≡ index_of (word_in v1 (second_at v1.sizes x.index)) = c.index-index.ensures.index
    ∙ ap index_of seen_is in
    let r1 = loaded_resting v v1 n.numbered s k1 true n in
    let v2 = c.load-2.new.token.view in
    let look2 = c.load-2.ensures.looked in
    let s1 = c.load.ensures.table.sound in
    let t2 = look_steps v1 c.link_at.result c.load-2.result v2 r1.numbered s1 look2 in
    let k2 = loaded v1 c.link_at.result c.load-2.result v2 look2 in
    let c2 = closed_on v1 v2 None c.load.ensures.table.layout t2 tt x c1 in
    let r2 = loaded_resting v1 v2 r1.numbered s1 k2 true r1 in
    let l2 = loaded_chain v v1 v2 k1 k2 in
    let y : Life = record { index = c.index-index.result; tag = c.tag-tag.result } in
    let may : MayFreezeEdge v2 x (second_at v2.sizes x.index) y = may_freeze v1 v2 x c.index-index.result
    c.link_at.result c.load-2.result c.tag-tag.result c.load.ensures.table.layout c.load-2.ensures.table.layout
    r1.numbered s1 c1 led c.if-index-eq16777215.false look2
    (c.link_at.ensures.place ∙ ap (λ (q : Sizes). link_at q c.index-index.result)
    (c.layout-layout.ensures.sizes ∙ sym c.load.ensures.table.sizes)) c.tag-tag.ensures.tag in
    let v3 = c.freeze_edge-found.new.token.view in
    let found = c.freeze_edge-found.result.0 in
    let place = link_at c.args.table.now.sizes c.index-index.result in
    let e = freeze_edge_event v2 y found in
    let s2 = c.load-2.ensures.table.sound in
    let m3 = c.freeze_edge-found.ensures.marked in
    let told : FreezesFirst v x found y v3 = record {
      then = v2;
      loaded = l2;
      may = may;
      marked = subst (λ (q : Sizes). MatchMark v2 (link_at q y.index) found e v3) (sym c.load-2.ensures.table.sizes) m3;
    } in
    subst (λ (l : Life). FreezesFirst v x found l v3) (sym c.freeze_edge-found.ensures.node) told
