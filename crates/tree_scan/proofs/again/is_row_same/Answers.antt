use Rattle.std.proofs.Common.{rules, ap, ap₂, sym, subst, ◌∙◌, ◌≡◌, [], Bool}
use Rattle.packed_link.specs.Link.{mark_of, tag_of}
use Rattle.packed_link.specs.Layout.{Sizes, link_at, second_at, third_at}
use Rattle.scan_record.specs.Scan.{row_at}
use Rattle.scan_record.specs.declared.rows.VertexRow.{VertexRow}
use Rattle.core_stretches.proofs.MakesAddUp.{makes_chain, makes_self}
use Rattle.core_stretches.proofs.MakesTell.{makes_later}
use Rattle.tree_scan.specs.Verdicts.{MatchLinksAgain}
use Rattle.tree_scan.proofs.RowsAgain.{load_makes, row_found, word_loaded}
use Rattle.tree_scan.proofs.again.is_row_same.Goals as goal

pub returns-then-counter-vertex-clause-makes : goal.returns-then-counter-vertex-clause-makes
returns-then-counter-vertex-clause-makes c =
    let none = makes_self c.args.token.now.view c.requires.number c.requires.table.sound in
    let first = load_makes c.args.table.now c.args.token.now c.args.token.now c.load-head.new.token c.second_at.result
    c.load-head.result c.requires.number none c.requires.table c.load-head.ensures.looked in
    let walked = makes_chain c.args.token.now.view c.load-head.new.token.view c.are_links_same.new.token.view [] []
    first c.are_links_same.ensures.makes in
    let third = load_makes c.args.table.now c.args.token.now c.are_links_same.new.token c.load-counter.new.token
    c.third_at.result c.load-counter.result c.requires.number walked c.are_links_same.ensures.table
    c.load-counter.ensures.looked in
    third

pub returns-then-marked-clause-makes : goal.returns-then-marked-clause-makes
returns-then-marked-clause-makes c =
    let none = makes_self c.args.token.now.view c.requires.number c.requires.table.sound in
    let first = load_makes c.args.table.now c.args.token.now c.args.token.now c.load-head.new.token c.second_at.result
    c.load-head.result c.requires.number none c.requires.table c.load-head.ensures.looked in
    let walked = makes_chain c.args.token.now.view c.load-head.new.token.view c.are_links_same.new.token.view [] []
    first c.are_links_same.ensures.makes in
    let third = load_makes c.args.table.now c.args.token.now c.are_links_same.new.token c.load-counter.new.token
    c.third_at.result c.load-counter.result c.requires.number walked c.are_links_same.ensures.table
    c.load-counter.ensures.looked in
    load_makes c.args.table.now c.args.token.now c.load-counter.new.token c.load.new.token c.link_at.result
    c.load.result c.requires.number third c.load-counter.ensures.table c.load.ensures.looked

pub returns-then-tag-vertex-clause-makes : goal.returns-then-tag-vertex-clause-makes
returns-then-tag-vertex-clause-makes c =
    let none = makes_self c.args.token.now.view c.requires.number c.requires.table.sound in
    let first = load_makes c.args.table.now c.args.token.now c.args.token.now c.load-head.new.token c.second_at.result
    c.load-head.result c.requires.number none c.requires.table c.load-head.ensures.looked in
    let walked = makes_chain c.args.token.now.view c.load-head.new.token.view c.are_links_same.new.token.view [] []
    first c.are_links_same.ensures.makes in
    let third = load_makes c.args.table.now c.args.token.now c.are_links_same.new.token c.load-counter.new.token
    c.third_at.result c.load-counter.result c.requires.number walked c.are_links_same.ensures.table
    c.load-counter.ensures.looked in
    load_makes c.args.table.now c.args.token.now c.load-counter.new.token c.load.new.token c.link_at.result
    c.load.result c.requires.number third c.load-counter.ensures.table c.load.ensures.looked

pub returns-clause-makes : goal.returns-clause-makes
returns-clause-makes c =
    let none = makes_self c.args.token.now.view c.requires.number c.requires.table.sound in
    let first = load_makes c.args.table.now c.args.token.now c.args.token.now c.load-head.new.token c.second_at.result
    c.load-head.result c.requires.number none c.requires.table c.load-head.ensures.looked in
    let walked = makes_chain c.args.token.now.view c.load-head.new.token.view c.are_links_same.new.token.view [] []
    first c.are_links_same.ensures.makes in
    let third = load_makes c.args.table.now c.args.token.now c.are_links_same.new.token c.load-counter.new.token
    c.third_at.result c.load-counter.result c.requires.number walked c.are_links_same.ensures.table
    c.load-counter.ensures.looked in
    load_makes c.args.table.now c.args.token.now c.load-counter.new.token c.load.new.token c.link_at.result
    c.load.result c.requires.number third c.load-counter.ensures.table c.load.ensures.looked

pub returns-clause-again : goal.returns-clause-again
returns-clause-again c =
    let g = c.args.table.now in
    let row : VertexRow = row_at c.args.scan.now c.args.row in
    let head = word_loaded g c.args.token.now c.load-head.new.token c.second_at.result
    (second_at g.sizes row.life.index) c.load-head.result c.requires.table c.load-head.ensures.looked
    (c.second_at.ensures.place
    ∙ ap₂ (λ (z : Sizes) (r : VertexRow). second_at z r.life.index) c.layout-layout.ensures.sizes
    c.vertex-vertex.ensures) in
    let counter = word_loaded g c.are_links_same.new.token c.load-counter.new.token c.third_at.result
    (third_at g.sizes row.life.index) c.load-counter.result c.are_links_same.ensures.table
    c.load-counter.ensures.looked (c.third_at.ensures.place
    ∙ ap₂ (λ (z : Sizes) (r : VertexRow). third_at z r.life.index) c.layout-layout.ensures.sizes
    c.vertex-vertex.ensures) in
    let link = word_loaded g c.load-counter.new.token c.load.new.token c.link_at.result
    (link_at g.sizes row.life.index) c.load.result c.load-counter.ensures.table c.load.ensures.looked
    (c.link_at.ensures.place ∙ ap₂ (λ (z : Sizes) (r : VertexRow). link_at z r.life.index)
    c.layout-layout.ensures.sizes c.vertex-vertex.ensures) in
    let live : mark_of c.load.result ≡ 0 = search rules in
    let links = subst (λ (b : Bool). MatchLinksAgain b g.sizes c.load-head.new.token.view.front
    c.are_links_same.new.token.view.front c.args.scan.now c.args.row) c.if-not-are_links_same.false
    c.are_links_same.ensures.again in
    row_found g.sizes c.args.scan.now c.args.row c.args.token.now.view.front c.load-head.new.token.view.front
    c.are_links_same.new.token.view.front c.load-counter.new.token.view.front c.load.new.token.view.front
    c.load-head.ensures.looked.grows
    (makes_later c.load-head.new.token.view c.are_links_same.new.token.view [] c.are_links_same.ensures.makes).grows
    c.load-counter.ensures.looked.grows c.load.ensures.looked.grows
    (head ∙ (c.if-head-vertex.false ∙ ap (λ (r : VertexRow). r.head) c.vertex-vertex.ensures)) links
    (counter ∙ (c.if-counter-vertex.false ∙ ap (λ (r : VertexRow). r.counter) c.vertex-vertex.ensures))
    (ap tag_of link ∙ (sym c.tag-tag.ensures.tag ∙ (c.if-tag-vertex.false
    ∙ ap (λ (r : VertexRow). r.life.tag) c.vertex-vertex.ensures)))
    (ap mark_of link ∙ live)
