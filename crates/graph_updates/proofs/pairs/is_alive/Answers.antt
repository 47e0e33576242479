use Rattle.std.proofs.Common.{rules, ◌≡◌, ◌<◌, ◌∙◌, ap, nat_eq, subst, sym}
use Rattle.packed_link.specs.Layout.{Sizes, link_at}
use Rattle.packed_link.specs.Link.{mark_of, tag_of}
use Rattle.core_lists.proofs.LinkTellsPresence.{key_there}
use Rattle.core_stretches.proofs.MakesAddUp.{makes_look}
use Rattle.graph_updates.proofs.EndsTell.{loaded_alive, loaded_over}
use Rattle.graph_updates.proofs.pairs.is_alive.Goals as goal

pub link_at-requires : goal.link_at-requires
link_at-requires c =
    let there = key_there c.args.token.now.view.sizes c.args.token.now.view.front c.requires.table.sound.kept
    c.args.life
    c.requires.linked.0 c.requires.linked.1 in
    subst (λ (s : Sizes). c.args.life.index < s.nodes) (c.requires.table.sizes ∙ sym c.layout-layout.ensures.sizes)
    there

pub returns-then-marked-clause-makes : goal.returns-then-marked-clause-makes
returns-then-marked-clause-makes c = makes_look c.args.token.now.view c.load.new.token.view c.link_at.result
    c.load.result
    c.requires.number c.requires.table.sound c.load.ensures.looked

pub returns-clause-makes : goal.returns-clause-makes
returns-clause-makes c = makes_look c.args.token.now.view c.load.new.token.view c.link_at.result c.load.result
    c.requires.number c.requires.table.sound c.load.ensures.looked

pub returns-then-marked-clause-alive : goal.returns-then-marked-clause-alive
returns-then-marked-clause-alive c =
    let dead : mark_of c.load.result ≡ 1 = search rules in
    loaded_over c.args.table.now c.args.token.now c.load.new.token c.args.life c.requires.linked.0 c.link_at.result
    c.load.result c.requires.table c.load.ensures.table c.load.ensures.looked
    (c.link_at.ensures.place ∙ ap (λ (s : Sizes). link_at s c.args.life.index) c.layout-layout.ensures.sizes)
    c.requires.linked.1 dead

pub returns-clause-alive : goal.returns-clause-alive
returns-clause-alive c =
    let live : mark_of c.load.result ≡ 0 = search rules in
    let h : nat_eq (tag_of c.load.result) c.args.life.tag ≡ _ =
    loaded_alive c.args.table.now c.args.token.now c.load.new.token c.args.life c.requires.linked.0 c.link_at.result
    c.load.result c.requires.table c.load.ensures.table c.load.ensures.looked
    (c.link_at.ensures.place ∙ ap (λ (s : Sizes). link_at s c.args.life.index) c.layout-layout.ensures.sizes)
    c.requires.linked.1 live in
    ap (λ (n : _). nat_eq n c.args.life.tag) c.tag-tag.ensures.tag ∙ h
