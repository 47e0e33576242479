-- What an open pass has met stays in its life while the pass is open.
use Rattle.std.proofs.Common.{◌≡◌, ◌≢◌, ℕ, ◌<◌, List, true, refl, subst, arith}
use Rattle.packed_link.specs.Layout.{Sizes, IsLayout}
use Rattle.core_journal.specs.declared.event.Kind.{Kind}
use Rattle.core_journal.specs.declared.event.Kind.TheVariants.{PopFree, LinkVertex, MarkVertex, UnlinkVertex, LinkEdge}
use Rattle.core_journal.specs.declared.event.Kind.TheVariants.{MarkEdge, UnlinkEdge, Announce, Withdraw, FreezeHead}
use Rattle.core_journal.specs.declared.event.Kind.TheVariants.{FreezeEdge, StoreFree, PushFree, ReplaceEdge}
use Rattle.core_journal.specs.declared.event.Event.{Event}
use Rattle.core_journal.specs.Prefix.{IsPrefix}
use Rattle.core_journal.specs.State.{Free, Fresh, Spent, Pass, Node, State, put, handed, joined_edge, state_by, state}
use Rattle.core_journal.specs.Reuse.{pass_in}
use Rattle.core_kept.specs.Kept.{AllowedAs, IsKept}
use Rattle.core_kept.specs.Nodes.{node_in}
use Rattle.core_kept.specs.Facts.{HasMet}
use Rattle.core_kept.proofs.Induction.{kept_front}
use Rattle.core_kept.proofs.ByKind.{KeepsByKind, put_case, handed_case, marked_state, closed_state, holds_onward}
use Rattle.core_kept.proofs.Announcements.{announcements}
use Rattle.core_kept.proofs.LinkWords.{taken}
use Rattle.core_kept.proofs.Ripe.{ripe_before}
use Rattle.core_kept.proofs.ReplaceCases.{new_edge_node}
use Rattle.core_journal.proofs.States.{counted_by}

-- a node says what another says of a life: its tag, and what was linked in it
pub record IsSameLinked (n v : Node) : Type 0 where
  pub tag : v.tag ≡ n.tag
  pub vertex : v.vertex ≡ n.vertex
  pub key : v.key ≡ n.key
  pub source : v.source ≡ n.source
  pub target : v.target ≡ n.target
  pub weight : v.weight ≡ n.weight

-- a node is in this life, and linked or spent after a length of the journal
record IsUsedSince (n : Node) (since : ℕ) (v : Node) : Type 0 where
  pub same : IsSameLinked n v
  pub free : v.mode ≢ Free
  pub fresh : v.mode ≢ Fresh
  pub spent : v.mode ≡ Spent → since < v.ended

module _ (n : Node) (since : ℕ) where
  same_marked : (v : Node) → IsSameLinked n v → IsSameLinked n (record v { marked = true })
  same_marked v c = record {
    tag = c.tag;
    vertex = c.vertex;
    key = c.key;
    source = c.source;
    target = c.target;
    weight =
        c.weight;
  }

  same_stored : (v : Node) → IsSameLinked n v → IsSameLinked n (record v { stored = true })
  same_stored v c = record {
    tag = c.tag;
    vertex = c.vertex;
    key = c.key;
    source = c.source;
    target = c.target;
    weight =
        c.weight;
  }

  same_spent : (v : Node) (who ended epoch : ℕ) → IsSameLinked n v → IsSameLinked n
      (record v { mode = Spent; who = who; ended = ended; epoch = epoch })
  same_spent v who ended epoch c = record {
    tag = c.tag;
    vertex = c.vertex;
    key = c.key;
    source = c.source;
    target =
        c.target;
    weight = c.weight;
  }

  here_put : (s : State) (i x : ℕ) (v : Node) → IsUsedSince n since (s.node x) →
      (IsUsedSince n since (s.node i) → IsUsedSince n since v) → IsUsedSince n since (put i v s.node x)
  here_put s i x v c new = put_case (λ (u : Node). IsUsedSince n since u) i v s.node x
      (λ same. new (subst (λ (y : ℕ). IsUsedSince n since (s.node y)) same c)) (λ _. c)

  here_mark : (v : Node) → IsUsedSince n since v → IsUsedSince n since (record v { marked = true })
  here_mark v c = record { same = same_marked v c.same; free = c.free; fresh = c.fresh; spent = c.spent }

  here_handed : (s : State) (v x : ℕ) → since < s.count → IsUsedSince n since (s.node x) → IsUsedSince n since
      ((handed v s).node x)
  here_handed s v x later c = handed_case (λ (u : Node). IsUsedSince n since u) s v x c
      (λ m _ _. record {
        same = same_spent (s.node x) _ _ _ c.same;
        free = λ h. absurd (cc);
        fresh = λ h. absurd
            (cc);
        spent = λ _. later;
      })

  here_by : (k : Kind) (sizes : Sizes) → IsLayout sizes → (past : List Event) (e : Event) → IsKept sizes past
      → AllowedAs k sizes past e → (caller x : ℕ) → (pass_in sizes past caller).is_open ≡ true →
      (pass_in sizes past caller).since ≡ since → since < (state sizes past).count
      → IsUsedSince n since (node_in sizes past x) →
      IsUsedSince n since ((state_by k sizes e (state sizes past)).node x)
  here_by PopFree sizes z past e kept ok caller x o is low c = here_put (state sizes past) e.life.index x _ c
      (λ d. absurd (d.free (taken sizes z past e kept ok).free))
  here_by LinkVertex sizes z past e kept ok caller x o is low c = here_put (state sizes past) e.life.index x _ c
      (λ d. absurd (d.fresh ok.fresh.fresh))
  here_by LinkEdge sizes z past e kept ok caller x o is low c = here_put (state sizes past) e.life.index x _ c
      (λ d. absurd (d.fresh ok.fresh.fresh))
  here_by MarkVertex sizes z past e kept ok caller x o is low c = here_put (state sizes past) e.life.index x _ c
      (here_mark (node_in sizes past e.life.index))
  here_by UnlinkVertex sizes z past e kept ok caller x o is low c = here_put (state sizes past) e.life.index x _ c
      (λ d. record {
        same = same_spent (node_in sizes past e.life.index) _ _ _ d.same;
        free = λ h. absurd
            (cc);
        fresh = λ h. absurd (cc);
        spent = λ _. omega (arith, low);
      })
  here_by UnlinkEdge sizes z past e kept ok caller x o is low c = here_put (state sizes past) e.life.index x _ c
      (λ d. record {
        same = same_spent (node_in sizes past e.life.index) _ _ _ d.same;
        free = λ h. absurd
            (cc);
        fresh = λ h. absurd (cc);
        spent = λ _. omega (arith, low);
      })
  here_by StoreFree sizes z past e kept ok caller x o is low c = here_put (state sizes past) e.life.index x _ c
      (λ d. record {
        same = same_stored (node_in sizes past e.life.index) d.same;
        free = d.free;
        fresh = d.fresh;
        spent
            = d.spent;
      })
  here_by PushFree sizes z past e kept ok caller x o is low c = here_put (state sizes past) e.life.index x _ c
      (λ d. absurd (omega (
        arith,
        d.spent ok.ripe.stamped.spent.spent,
        is,
        ripe_before sizes z past kept e.caller
            e.life.index caller ok.ripe o,
      )))
  here_by ReplaceEdge sizes z past e kept ok caller x o is low c =
      let s : State = state sizes past in
      let j : State = joined_edge sizes e s in
      let cj : IsUsedSince n since (j.node x) = here_put s e.life.index x
      (new_edge_node (s.node e.life.index) e s.count) c
      (λ d. absurd (d.fresh ok.fresh.fresh)) in
      here_handed (marked_state j e.old.index) (j.node e.old.index).source.index x (omega (arith, low))
      (here_put j e.old.index x (record (j.node e.old.index) { marked = true }) cj (here_mark (j.node e.old.index)))
  here_by MarkEdge sizes z past e kept ok caller x o is low c = here_handed
      (marked_state (state sizes past) e.life.index) (node_in sizes past e.life.index).source.index x
      (omega (arith, low)) (here_put (state sizes past) e.life.index x _ c
      (here_mark (node_in sizes past e.life.index)))
  here_by FreezeEdge sizes z past e kept ok caller x o is low c = here_handed
      (marked_state (state sizes past) e.life.index) (node_in sizes past e.life.index).source.index x
      (omega (arith, low)) (here_put (state sizes past) e.life.index x _ c
      (here_mark (node_in sizes past e.life.index)))
  here_by FreezeHead sizes z past e kept ok caller x o is low c = here_handed
      (closed_state (state sizes past) e.life.index) e.life.index x (omega (arith, low)) c
  here_by _ sizes z past e kept ok caller x o is low c = c

-- while the pass that began there is open, the node is in its life
record IsStaying (caller x : ℕ) (n : Node) (since : ℕ) (s : State) : Type 0 where
  pub low : since < s.count
  pub here : (s.pass caller).is_open ≡ true → (s.pass caller).since ≡ since → IsUsedSince n since (s.node x)

staying_step : (sizes : Sizes) → IsLayout sizes → (caller x : ℕ) (n : Node) (since : ℕ) → KeepsByKind sizes
    (λ (s : State) (w : ℕ → ℕ). IsStaying caller x n since s)
staying_step sizes z caller x n since past e kept c Announce by ok w a = record {
  low = omega (arith, c.low);
  here = put_case (λ (q : Pass). q.is_open ≡ true → q.since ≡ since → IsUsedSince n since (node_in sizes past x))
      e.caller _
      (state sizes past).pass caller (λ _ _ h. absurd (omega (arith, c.low, h))) (λ _. c.here);
}
staying_step sizes z caller x n since past e kept c Withdraw by ok w a = record {
  low = omega (arith, c.low);
  here = put_case (λ (q : Pass). q.is_open ≡ true → q.since ≡ since → IsUsedSince n since (node_in sizes past x))
      e.caller _
      (state sizes past).pass caller (λ _ o _. absurd (cc)) (λ _. c.here);
}
staying_step sizes z caller x n since past e kept c k by ok w a = record {
  low = omega (arith, c.low, counted_by k sizes e (state sizes past));
  here = λ o is. here_by n since k sizes z past e kept ok caller x o is c.low (c.here o is);
}

-- what an open pass has met it has met still, in the same life, while it's open
pub met_stays : (sizes : Sizes) → IsLayout sizes → (caller x : ℕ) (front journal : List Event) → IsPrefix front journal
    → IsKept sizes journal → HasMet sizes front caller x
    → (pass_in sizes journal caller).is_open ≡ true → (pass_in sizes journal caller).since ≡
    (pass_in sizes front caller).since → HasMet sizes journal caller x × IsSameLinked (node_in sizes front x)
    (node_in sizes journal x)
met_stays sizes z caller x front journal p kept m o is =
    let n = node_in sizes front x in
    let since = (pass_in sizes front caller).since in
    let began = ((announcements sizes front (kept_front sizes front journal p kept)).inside caller m.pass).began in
    let end : IsStaying caller x n since (state sizes journal) = holds_onward sizes
    (λ (s : State) (w : ℕ → ℕ). IsStaying caller x n since s)
    (staying_step sizes z caller x n since) front journal p kept
    (record {
      low = began;
      here = λ _ _. record {
        same = record
            { tag = refl; vertex = refl; key = refl; source = refl; target = refl; weight = refl };
        free = m.free;
        fresh =
            m.fresh;
        spent = m.spent;
      };
    }) in
    let h = end.here o is in
    (record { pass = o; free = h.free; fresh = h.fresh; spent = λ s. omega (arith, h.spent s, is) }, h.same)
