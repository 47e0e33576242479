use Rattle.std.proofs.Common.{◌∙◌, sym, ap, subst, arith}
use Rattle.packed_link.specs.Link.{mark_bit}
use Rattle.core_kept.specs.Nodes.{IsUsed}
use Rattle.core_lists.proofs.FrozenToEndIsList.{edge_on}
use Rattle.core_lists.proofs.ListedWords.{listed_key, listed_linked}
use Rattle.core_lists.proofs.SpentWordsLead.{unclosed}
use Rattle.core_lists.proofs.ListChains.{edge_lists}
use Rattle.core_lists.proofs.LivesOnLists.{edge_of, of_edge}
use Rattle.core_kept.proofs.Contents.{contents}
use Rattle.core_lists.proofs.ListHoldsKept.{listing}
use Rattle.core_kept.proofs.Named.{life_is}
use Rattle.core_lists.proofs.lists.lists_hold_their_edges.Goals as goal

pub returns-clause-lists : goal.returns-clause-lists
returns-clause-lists c = λ sizes z journal kept. edge_lists sizes z journal kept

pub returns-clause-lives : goal.returns-clause-lives
returns-clause-lives c = λ sizes z journal kept x has l. (
  edge_of sizes z journal kept x has l,
  of_edge sizes z journal
      kept x has l,
)

pub returns-clause-linked : goal.returns-clause-linked
returns-clause-linked c = λ sizes z journal kept x there l. record {
  there = there;
  used = subst IsUsed (sym l.linked) tt;
  vertex = l.vertex;
  unfinished = λ f. let open_ = unclosed sizes z journal kept x l.linked in let head = f.head in absurd (cc);
}

pub returns-clause-on : goal.returns-clause-on
returns-clause-on c = λ sizes z journal kept x y on. edge_on sizes z journal kept x y on

pub returns-clause-node : goal.returns-clause-node
returns-clause-node c = λ sizes z journal kept x y on.
    let d = (listing sizes z journal kept).on x y on in
    (d.there, d.edge, life_is _ x _ d.index d.life)

pub returns-clause-one : goal.returns-clause-one
returns-clause-one c = λ sizes z journal kept w x y a b.
    let l = listing sizes z journal kept in
    sym (l.on w y a).index ∙ (l.on x y b).index

pub returns-clause-unclosed : goal.returns-clause-unclosed
returns-clause-unclosed c = λ sizes z journal kept x there used vertex live. record {
  there = there;
  used = used;
  vertex = vertex;
  unfinished = λ f. let m = (((contents sizes z journal kept).each x there).vertex used vertex).second_mark
      ∙ ap mark_bit f.head in absurd (omega (arith, m, live));
}

pub returns-clause-key : goal.returns-clause-key
returns-clause-key c = λ sizes z journal kept x y k on link is. listed_key sizes z journal kept x y k on link is

pub returns-clause-listed_linked : goal.returns-clause-listed_linked
returns-clause-listed_linked c = λ sizes z journal kept x y there l on. listed_linked sizes z journal kept x y there
    l.linked l.vertex on
