use Rattle.std.proofs.Common.{◌≡◌, [], ap, sym, ◌∙◌, arith}
use Rattle.packed_link.specs.Layout.{Sizes, key_at, second_at}
use Rattle.core_rule.proofs.CallLimits.{life_tag_low}
use Rattle.core_rule.proofs.ViewShows.{vertex_still}
use Rattle.core_stretches.proofs.MakesAddUp.{makes_chain, makes_look}
use Rattle.table_calls.proofs.ListWords.{key_low}
use Rattle.table_calls.proofs.Loaded.{loaded, loaded_goes}
use Rattle.layer_rows.proofs.EdgesInFront.{key_loaded, no_front, ready}
use Rattle.layer_rows.proofs.WorkGoesOn.{building_loads}
use Rattle.layer_rows.proofs.edges.prepend_edge.Goals as goal

pub see_front-requires-clause-source : goal.see_front-requires-clause-source
see_front-requires-clause-source c =
    let v = c.args.token.now.view in
    let m = c.load-key.new.token.view in
    vertex_still v m c.requires.table.layout (loaded_goes v m c.requires.building.holding.numbered
    c.requires.table.sound (loaded v c.key_at.result c.load-key.result m c.load-key.ensures.looked)) c.args.source
    c.requires.source

pub returns-in_default-clause-none : goal.returns-in_default-clause-none
returns-in_default-clause-none c none =
    let v = c.args.token.now.view in
    let m = c.load-key.new.token.view in
    let at : c.key_at.result ≡ key_at v.sizes c.args.target.index = c.key_at.ensures.place ∙ ap
    (λ (q : Sizes). key_at q c.args.target.index) (c.layout-layout.ensures.sizes ∙ sym c.requires.table.sizes) in
    no_front v m c.see_front.new.token.view c.args.source c.args.target c.load-key.result c.key_at.result
    c.requires.table.layout c.requires.building.holding.numbered c.requires.table.sound c.requires.target
    c.load-key.ensures.looked at c.see_front.ensures.makes (c.in_default.ensures.none none)

pub overflow_cast-key : goal.overflow_cast-key
overflow_cast-key c =
    let v = c.args.token.now.view in
    let m = c.load-key.new.token.view in
    let l = c.load-key.ensures.looked in
    let at : c.key_at.result ≡ key_at v.sizes c.args.target.index = c.key_at.ensures.place ∙ ap
    (λ (q : Sizes). key_at q c.args.target.index) (c.layout-layout.ensures.sizes ∙ sym c.requires.table.sizes) in
    let key = key_loaded v m c.args.target.index c.key_at.result c.load-key.result l at in
    let met = vertex_still v m c.requires.table.layout (loaded_goes v m c.requires.building.holding.numbered
    c.requires.table.sound (loaded v c.key_at.result c.load-key.result m l)) c.args.target c.requires.target in
    omega (arith, key, key_low m c.load-key.ensures.table.layout c.load-key.ensures.table.sound c.args.target met)

pub fill_edge-requires-clause-fresh : goal.fill_edge-requires-clause-fresh
fill_edge-requires-clause-fresh c =
    let v = c.args.token.now.view in
    let m = c.load-key.new.token.view in
    let u = c.see_front.new.token.view in
    let all = makes_chain v m u [] [] (makes_look v m c.key_at.result c.load-key.result
    c.requires.building.holding.numbered c.requires.table.sound c.load-key.ensures.looked) c.see_front.ensures.makes
    in
    let b = building_loads v u c.args.fresh c.requires.table.layout all c.requires.building in
    record { life = b.holding.held.life; fresh = b.holding.held.fresh }

pub fill_edge-requires-clause-tag : goal.fill_edge-requires-clause-tag
fill_edge-requires-clause-tag c =
    life_tag_low c.args.token.now.view c.requires.table.layout c.requires.table.sound.kept c.args.target
    c.requires.target.life

pub link_edge_in-requires-clause-holding : goal.link_edge_in-requires-clause-holding
link_edge_in-requires-clause-holding c =
    let v = c.args.token.now.view in
    let m = c.load-key.new.token.view in
    let u = c.see_front.new.token.view in
    let t = c.fill_edge.new.token.view in
    let at : c.key_at.result ≡ key_at v.sizes c.args.target.index = c.key_at.ensures.place ∙ ap
    (λ (q : Sizes). key_at q c.args.target.index) (c.layout-layout.ensures.sizes ∙ sym c.requires.table.sizes) in
    let place : c.second_at-place.result ≡ second_at t.sizes c.args.source.index = c.second_at-place.ensures.place ∙ ap
    (λ (q : Sizes). second_at q c.args.source.index) (c.layout-layout.ensures.sizes
    ∙ sym c.fill_edge.ensures.table.sizes) in
    let r = ready v m u t c.args.fresh c.args.source c.args.target c.load-key.result c.key_at.result
    c.second_at-place.result c.in-Some.seen.0 c.args.weight c.requires.table.layout c.see_front.ensures.table.layout
    c.fill_edge.ensures.table.layout c.requires.table.sound c.requires.building c.requires.source c.requires.target
    c.load-key.ensures.looked at c.see_front.ensures.makes c.in-Some.ensures.unmarked c.in-Some.ensures.behind
    c.fill_edge.ensures.makes c.fill_edge.ensures.filled place in
    r.building.holding

pub link_edge_in-requires-clause-may : goal.link_edge_in-requires-clause-may
link_edge_in-requires-clause-may c =
    let v = c.args.token.now.view in
    let m = c.load-key.new.token.view in
    let u = c.see_front.new.token.view in
    let t = c.fill_edge.new.token.view in
    let at : c.key_at.result ≡ key_at v.sizes c.args.target.index = c.key_at.ensures.place ∙ ap
    (λ (q : Sizes). key_at q c.args.target.index) (c.layout-layout.ensures.sizes ∙ sym c.requires.table.sizes) in
    let place : c.second_at-place.result ≡ second_at t.sizes c.args.source.index = c.second_at-place.ensures.place ∙ ap
    (λ (q : Sizes). second_at q c.args.source.index) (c.layout-layout.ensures.sizes
    ∙ sym c.fill_edge.ensures.table.sizes) in
    let r = ready v m u t c.args.fresh c.args.source c.args.target c.load-key.result c.key_at.result
    c.second_at-place.result c.in-Some.seen.0 c.args.weight c.requires.table.layout c.see_front.ensures.table.layout
    c.fill_edge.ensures.table.layout c.requires.table.sound c.requires.building c.requires.source c.requires.target
    c.load-key.ensures.looked at c.see_front.ensures.makes c.in-Some.ensures.unmarked c.in-Some.ensures.behind
    c.fill_edge.ensures.makes c.fill_edge.ensures.filled place in
    r.may

pub returns-clause-tried : goal.returns-clause-tried
returns-clause-tried c =
    let v = c.args.token.now.view in
    let m = c.load-key.new.token.view in
    let u = c.see_front.new.token.view in
    let t = c.fill_edge.new.token.view in
    let at : c.key_at.result ≡ key_at v.sizes c.args.target.index = c.key_at.ensures.place ∙ ap
    (λ (q : Sizes). key_at q c.args.target.index) (c.layout-layout.ensures.sizes ∙ sym c.requires.table.sizes) in
    let place : c.second_at-place.result ≡ second_at t.sizes c.args.source.index = c.second_at-place.ensures.place ∙ ap
    (λ (q : Sizes). second_at q c.args.source.index) (c.layout-layout.ensures.sizes
    ∙ sym c.fill_edge.ensures.table.sizes) in
    let r = ready v m u t c.args.fresh c.args.source c.args.target c.load-key.result c.key_at.result
    c.second_at-place.result c.in-Some.seen.0 c.args.weight c.requires.table.layout c.see_front.ensures.table.layout
    c.fill_edge.ensures.table.layout c.requires.table.sound c.requires.building c.requires.source c.requires.target
    c.load-key.ensures.looked at c.see_front.ensures.makes c.in-Some.ensures.unmarked c.in-Some.ensures.behind
    c.fill_edge.ensures.makes c.fill_edge.ensures.filled place in
    record {
      then = t;
      sound = c.fill_edge.ensures.table.sound;
      layout = c.fill_edge.ensures.table.layout;
      building = r.building;
      taken = r.taken;
      place = c.second_at-place.result;
      at = place;
      seen = c.in-Some.seen.0;
      may = r.may;
      key = c.load-key.result;
      event_is = r.event_is;
      grows = r.grows;
      tried = c.link_edge_in.ensures.tried;
      held = c.link_edge_in.ensures.held;
    }
