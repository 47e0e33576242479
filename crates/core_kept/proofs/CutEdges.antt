-- An edge that an event marks was linked before.
use Rattle.std.proofs.Common.{◌≡◌, List, [], ◌∷◌, ◌++◌, ◌<◌, Some, true, cond, refl, sym, ap, ◌∙◌, subst}
use Rattle.packed_link.specs.Layout.{Sizes, IsLayout}
use Rattle.packed_link.specs.declared.link.Life.{Life}
use Rattle.core_journal.specs.declared.event.Kind.{Kind}
use Rattle.core_journal.specs.declared.event.Kind.TheVariants.{MarkEdge, FreezeEdge, ReplaceEdge}
use Rattle.core_journal.specs.declared.event.Event.{Event}
use Rattle.core_journal.specs.Event.{cuts_edge, cut_life, replaces}
use Rattle.core_journal.specs.Life.{link_of}
use Rattle.core_kept.specs.Kept.{AllowedAs, IsKept}
use Rattle.core_kept.specs.Nodes.{node_in, IsUsed, IsLinkedEdge}
use Rattle.core_kept.proofs.Induction.{past_kept, last_allowed}
use Rattle.core_kept.proofs.Named.{life_is, named}

-- a life was linked as an edge
pub record WasLinked (journal : List Event) (x : Life) : Type 0 where
  pub link : Event
  pub is : link_of journal x ≡ Some link

module _ (sizes : Sizes) (z : IsLayout sizes) (past : List Event) (kept : IsKept sizes past) where
  linked_was : (x : Life) → x.index < sizes.nodes → x.tag ≡ (node_in sizes past x.index).tag
      → IsLinkedEdge sizes past x.index → WasLinked past x
  linked_was x there life l =
      let n = ((named sizes z past kept).each x.index there).edge_link (subst IsUsed (sym l.linked) tt) l.edge in
      record {
        link = n.link;
        is = ap (link_of past) (life_is x x.index (node_in sizes past x.index).tag refl life)
            ∙ n.is;
      }

  cut_by : (k : Kind) (e : Event) → cuts_edge k ≡ true → AllowedAs k sizes past e → WasLinked past
      (cond (replaces k) e.old e.life)
  cut_by MarkEdge e is ok = linked_was e.life ok.there ok.life ok.linked
  cut_by FreezeEdge e is ok = linked_was e.life ok.there ok.life ok.linked
  cut_by ReplaceEdge e is ok = linked_was e.old ok.old_there ok.old_life ok.linked
  cut_by _ e is ok = absurd (cc)

-- an edge that an event marks was linked before
pub cut_was_linked : (sizes : Sizes) → IsLayout sizes → (past : List Event) (e : Event) → IsKept sizes (past ++ e ∷ [])
    → cuts_edge e.kind ≡ true → (link : Event) × (link_of past (cut_life e) ≡ Some link)
cut_was_linked sizes z past e kept is =
    let w = cut_by sizes z past (past_kept sizes past e kept) e.kind e is (last_allowed sizes past e kept).as_kind in
    (w.link, w.is)
