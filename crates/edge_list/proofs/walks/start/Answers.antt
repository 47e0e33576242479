use Rattle.std.proofs.Common.{rules, ap, sym, subst, ◌≡◌, ◌∙◌, List}
use Rattle.packed_link.specs.Link.{mark_of}
use Rattle.packed_link.specs.Layout.{Sizes, second_at}
use Rattle.core_journal.specs.declared.event.Event.{Event}
use Rattle.graph_table.specs.Tokens.{TokenValue}
use Rattle.edge_list.specs.EdgeWalks.{IsStarted}
use Rattle.edge_list.proofs.EdgeWalksTell.{started, start_frozen}
use Rattle.edge_list.proofs.walks.start.Goals as goal

pub returns-then-marked-clause-started : goal.returns-then-marked-clause-started
returns-then-marked-clause-started c =
    let w = c.load-word.new.token.view in
    let sizes : c.layout-layout.result ≡ w.sizes = c.layout-layout.ensures.sizes
    ∙ sym c.load-word.ensures.table.sizes in
    let at : c.second_at-place.result ≡ second_at w.sizes c.args.from.index = c.second_at-place.ensures.place
    ∙ ap (λ (s : Sizes). second_at s c.args.from.index) sizes in
    let dead : mark_of c.load-word.result ≡ 1 = search rules in
    start_frozen c.args.token.now.view w c.args.from c.args.key c.second_at-place.result c.load-word.result
    c.load-word.ensures.table.layout c.requires.number c.requires.table.sound c.requires.from
    c.load-word.ensures.looked at dead

pub returns-clause-started : goal.returns-clause-started
returns-clause-started c =
    let w = c.load-word.new.token.view in
    let sizes : c.layout-layout.result ≡ w.sizes = c.layout-layout.ensures.sizes
    ∙ sym c.load-word.ensures.table.sizes in
    let at : c.second_at-place.result ≡ second_at w.sizes c.args.from.index = c.second_at-place.ensures.place
    ∙ ap (λ (s : Sizes). second_at s c.args.from.index) sizes in
    let live : mark_of c.load-word.result ≡ 0 = search rules in
    let here = started c.args.token.now.view w c.args.from c.args.key c.second_at-place.result c.load-word.result
    c.load-word.ensures.table.layout c.requires.number c.requires.table.sound c.requires.from
    c.load-word.ensures.looked at live in
    subst (λ (f : List Event). IsStarted c.args.from c.args.key w (record {
      source = c.args.from;
      key = c.args.key;
      place = c.second_at-place.result;
      word = c.load-word.result;
      link = 0;
      moment = f;
    })) (ap (λ (t : TokenValue). t.view.front) (sym c.of-moment.ensures)) here
