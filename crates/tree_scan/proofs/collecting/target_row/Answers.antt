use Rattle.std.proofs.Common.{rules, arith, inl, inr, refl, sym, subst, ap, ◌∙◌, ◌≡◌}
use Rattle.packed_link.specs.Layout.{Sizes, link_at}
use Rattle.packed_link.specs.Link.{mark_of, tag_of}
use Rattle.core_lists.proofs.LinkTellsPresence.{key_there}
use Rattle.core_scans.specs.Walking.{AreRowsMet}
use Rattle.tree_scan.proofs.EdgesLoaded.{first_loaded, place_is}
use Rattle.tree_scan.proofs.TargetsLoaded.{absent, pushed_met, row_room, rows_now, target_over}
use Rattle.tree_scan.proofs.collecting.target_row.Goals as goal

pub prove-unreachable-requires : goal.prove-unreachable-requires
prove-unreachable-requires c =
    let t = c.args.token.now in
    let there = key_there t.view.sizes t.view.front c.requires.table.sound.kept c.args.target c.args.key
    c.requires.linked in
    omega (
      arith,
      there,
      c.if-prove.true,
      c.nodes.ensures.nodes,
      ap (λ (y : Sizes). y.nodes) c.layout-layout.ensures.sizes,
      ap (λ (y : Sizes). y.nodes) c.requires.table.sizes,
    )

pub returns-then-marked-clause-target : goal.returns-then-marked-clause-target
returns-then-marked-clause-target c =
    let t = c.args.token.now in
    let v = t.view in
    let w = c.load.new.token.view in
    let x = c.args.target in
    let z = c.requires.table.layout in
    let loaded = first_loaded c.args.table.now t c.load.new.token c.link_at.result (link_at v.sizes x.index)
    c.load.result c.requires.table c.requires.number c.load.ensures.looked
    (place_is (λ y i. link_at y i) c.link_at.result c.layout-layout.result c.args.table.now.sizes v.sizes x.index
    x.index c.link_at.ensures.place c.layout-layout.ensures.sizes c.requires.table.sizes refl) in
    record {
      pushed = inl refl;
      is = λ n is. absurd (cc);
      over = λ none. target_over v w z x c.args.key c.load.result loaded c.requires.linked
          (inr (search rules));
    }

pub returns-then-marked-clause-met : goal.returns-then-marked-clause-met
returns-then-marked-clause-met c =
    let t = c.args.token.now in
    let v = t.view in
    let w = c.load.new.token.view in
    let x = c.args.target in
    let z = c.requires.table.layout in
    let loaded = first_loaded c.args.table.now t c.load.new.token c.link_at.result (link_at v.sizes x.index)
    c.load.result c.requires.table c.requires.number c.load.ensures.looked
    (place_is (λ y i. link_at y i) c.link_at.result c.layout-layout.result c.args.table.now.sizes v.sizes x.index
    x.index c.link_at.ensures.place c.layout-layout.ensures.sizes c.requires.table.sizes refl) in
    λ start at steps e. rows_now v w z x c.args.key c.load.result loaded c.requires.linked start c.args.scan.now at
    steps e

pub returns-then-tag-target-clause-target : goal.returns-then-tag-target-clause-target
returns-then-tag-target-clause-target c =
    let t = c.args.token.now in
    let v = t.view in
    let w = c.load.new.token.view in
    let x = c.args.target in
    let z = c.requires.table.layout in
    let loaded = first_loaded c.args.table.now t c.load.new.token c.link_at.result (link_at v.sizes x.index)
    c.load.result c.requires.table c.requires.number c.load.ensures.looked
    (place_is (λ y i. link_at y i) c.link_at.result c.layout-layout.result c.args.table.now.sizes v.sizes x.index
    x.index c.link_at.ensures.place c.layout-layout.ensures.sizes c.requires.table.sizes refl) in
    record {
      pushed = inl refl;
      is = λ n is. absurd (cc);
      over = λ none. target_over v w z x c.args.key c.load.result loaded c.requires.linked
          (inl (λ is. c.if-tag-target.true (c.tag.ensures.tag ∙ is)));
    }

pub returns-then-tag-target-clause-met : goal.returns-then-tag-target-clause-met
returns-then-tag-target-clause-met c =
    let t = c.args.token.now in
    let v = t.view in
    let w = c.load.new.token.view in
    let x = c.args.target in
    let z = c.requires.table.layout in
    let loaded = first_loaded c.args.table.now t c.load.new.token c.link_at.result (link_at v.sizes x.index)
    c.load.result c.requires.table c.requires.number c.load.ensures.looked
    (place_is (λ y i. link_at y i) c.link_at.result c.layout-layout.result c.args.table.now.sizes v.sizes x.index
    x.index c.link_at.ensures.place c.layout-layout.ensures.sizes c.requires.table.sizes refl) in
    λ start at steps e. rows_now v w z x c.args.key c.load.result loaded c.requires.linked start c.args.scan.now at
    steps e

pub prove-unreachable-requires-in-None : goal.prove-unreachable-requires-in-None
prove-unreachable-requires-in-None c =
    let t = c.args.token.now in
    let v = t.view in
    let w = c.load.new.token.view in
    let x = c.args.target in
    let z = c.requires.table.layout in
    let loaded = first_loaded c.args.table.now t c.load.new.token c.link_at.result (link_at v.sizes x.index)
    c.load.result c.requires.table c.requires.number c.load.ensures.looked
    (place_is (λ y i. link_at y i) c.link_at.result c.layout-layout.result c.args.table.now.sizes v.sizes x.index
    x.index c.link_at.ensures.place c.layout-layout.ensures.sizes c.requires.table.sizes refl) in
    let live : mark_of c.load.result ≡ 0 = search rules in
    let tag : tag_of c.load.result ≡ x.tag = sym c.tag.ensures.tag ∙ c.if-tag-target.false in
    let room = row_room v w z x c.args.key c.load.result loaded c.requires.linked c.requires.stands.start
    c.args.scan.now c.requires.stands.at c.requires.stands.steps c.requires.stands.stands tag live
    c.in-None.ensures.none c.vertices-rows.ensures.valid in
    omega (arith, room, c.if-prove-2.true, c.vertices-rows.ensures.count, c.nodes-in-None.ensures.count)

pub push_vertex-requires-clause-absent : goal.push_vertex-requires-clause-absent
push_vertex-requires-clause-absent c =
    let t = c.args.token.now in
    let v = t.view in
    let w = c.load.new.token.view in
    let x = c.args.target in
    let z = c.requires.table.layout in
    let loaded = first_loaded c.args.table.now t c.load.new.token c.link_at.result (link_at v.sizes x.index)
    c.load.result c.requires.table c.requires.number c.load.ensures.looked
    (place_is (λ y i. link_at y i) c.link_at.result c.layout-layout.result c.args.table.now.sizes v.sizes x.index
    x.index c.link_at.ensures.place c.layout-layout.ensures.sizes c.requires.table.sizes refl) in
    let live : mark_of c.load.result ≡ 0 = search rules in
    let tag : tag_of c.load.result ≡ x.tag = sym c.tag.ensures.tag ∙ c.if-tag-target.false in
    absent v w z x c.args.key c.load.result loaded c.requires.linked c.requires.stands.start c.args.scan.now
    c.requires.stands.at c.requires.stands.steps c.requires.stands.stands tag live c.in-None.ensures.none

pub returns-in-Some-clause-met : goal.returns-in-Some-clause-met
returns-in-Some-clause-met c =
    let t = c.args.token.now in
    let v = t.view in
    let w = c.load.new.token.view in
    let x = c.args.target in
    let z = c.requires.table.layout in
    let loaded = first_loaded c.args.table.now t c.load.new.token c.link_at.result (link_at v.sizes x.index)
    c.load.result c.requires.table c.requires.number c.load.ensures.looked
    (place_is (λ y i. link_at y i) c.link_at.result c.layout-layout.result c.args.table.now.sizes v.sizes x.index
    x.index c.link_at.ensures.place c.layout-layout.ensures.sizes c.requires.table.sizes refl) in
    λ start at steps e. rows_now v w z x c.args.key c.load.result loaded c.requires.linked start c.args.scan.now at
    steps e

pub returns-in-None-clause-met : goal.returns-in-None-clause-met
returns-in-None-clause-met c =
    let t = c.args.token.now in
    let v = t.view in
    let w = c.load.new.token.view in
    let x = c.args.target in
    let z = c.requires.table.layout in
    let loaded = first_loaded c.args.table.now t c.load.new.token c.link_at.result (link_at v.sizes x.index)
    c.load.result c.requires.table c.requires.number c.load.ensures.looked
    (place_is (λ y i. link_at y i) c.link_at.result c.layout-layout.result c.args.table.now.sizes v.sizes x.index
    x.index c.link_at.ensures.place c.layout-layout.ensures.sizes c.requires.table.sizes refl) in
    let live : mark_of c.load.result ≡ 0 = search rules in
    let tag : tag_of c.load.result ≡ x.tag = sym c.tag.ensures.tag ∙ c.if-tag-target.false in
    λ start at steps e. subst (AreRowsMet w start) (sym c.push_vertex.ensures.pushed)
    (pushed_met v w z x c.args.key c.load.result loaded c.requires.linked start c.args.scan.now at steps e tag live)
