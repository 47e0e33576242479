-- What the events on vertices do to the chains of the buckets and to the graph.
use Rattle.std.proofs.Common.{◌≡◌, ℕ, ◌%◌, ◌<◌, Bool, true, false, List, [], ◌∷◌, ◌++◌, Some, None, cond, refl, sym, ap}
use Rattle.std.proofs.Common.{◌∙◌, subst}
use Rattle.std.specs.Prelude.{option_map}
use Rattle.packed_link.specs.Layout.{Sizes, IsLayout, key_at, link_at}
use Rattle.packed_link.specs.Link.{mark_of}
use Rattle.graph_kinds.specs.Graph.{has}
use Rattle.graph_kinds.specs.Answer.{alters, change}
use Rattle.graph_kinds.specs.declared.call.Call.{Call}
use Rattle.graph_kinds.specs.declared.call.Call.TheVariants.{AddVertex, RemoveVertex}
use Rattle.graph_kinds.proofs.Calls.{after_change}
use Rattle.core_chain.specs.Steps.{Inserts, Marks, Unlinks, Untouched}
use Rattle.core_chain.proofs.Walks.{none_of_key}
use Rattle.core_journal.specs.declared.event.Kind.{Kind}
use Rattle.core_journal.specs.declared.event.Kind.TheVariants.{LinkVertex, MarkVertex, UnlinkVertex}
use Rattle.core_journal.specs.declared.event.Event.{Event}
use Rattle.core_journal.specs.Changes.{is_idle, IsRemovedVertex}
use Rattle.core_journal.specs.GraphOf.{graph_of, call_by, call_of, present_key, CarriesOut}
use Rattle.core_journal.specs.Life.{key_of, vertex_marked}
use Rattle.core_journal.specs.Machine.{word_at}
use Rattle.core_journal.specs.State.{State, state_by, state}
use Rattle.core_journal.proofs.Calls.{adds_vertex, removes_there}
use Rattle.core_journal.proofs.GraphRows.{idle_graph, new_vertex_graph, removed_vertex_graph}
use Rattle.core_journal.proofs.LivesOf.{life_of_key, key_of_life, present_is}
use Rattle.core_journal.proofs.States.{state-snoc}
use Rattle.core_kept.specs.Kept.{AllowedAs, IsKept}
use Rattle.core_kept.specs.Nodes.{node_in, IsUsed}
use Rattle.core_kept.specs.Vertices.{IsLinkVertex, IsMarkVertex, IsUnlinkVertex}
use Rattle.core_lists.specs.Chains.{bucket_chain, edge_chain, HasList}
use Rattle.core_lists.specs.Effects.{AddsVertex, RemovesVertex, UnlinksVertex}
use Rattle.core_kept.proofs.ByKind.{after_event}
use Rattle.core_lists.proofs.BucketChains.{IsOffBuckets, chain_of, is_in, key_word, buckets, home_low, link_spot}
use Rattle.core_lists.proofs.BucketChains.{link_can, link_inserts, link_others, mark_sets, mark_others, cut_spot}
use Rattle.core_lists.proofs.BucketChains.{cut_unlinks, cut_others, idle_bucket}
use Rattle.core_kept.proofs.EdgeEnds.{new_vertex}
use Rattle.core_kept.proofs.LinkWords.{link_words, mark_isnt}
use Rattle.core_kept.proofs.Named.{life_is, named}
use Rattle.core_lists.proofs.OneVertexOfKey.{present_in, present_live, one_present}

-- an event carries out its call where the graph changes as the call changes it
pub carries : (past : List Event) (e : Event) (c : Call) → call_of past e ≡ Some c → alters (graph_of past) c ≡ true
    → graph_of (past ++ e ∷ []) ≡ change (graph_of past) c → CarriesOut past e
carries past e c is does leads = record {
  call = c;
  is = is;
  alters = does;
  leads = leads ∙ sym
      (after_change (graph_of past) c does);
}

-- the state after an event, by its kind
pub next_state : (sizes : Sizes) (past : List Event) (e : Event) (k : Kind) → e.kind ≡ k → state_by k sizes e
    (state sizes past) ≡ state sizes (past ++ e ∷ [])
next_state sizes past e k is = ap (λ (q : Kind). state_by q sizes e (state sizes past)) (sym is) ∙ sym
    (state-snoc sizes past e)

-- no list of edges changes
abbrev pub ListsStay : Sizes → List Event → Event → Type 0
ListsStay sizes past e = (x : ℕ) → HasList sizes past x → Untouched (edge_chain sizes past x)
    (edge_chain sizes (past ++ e ∷ []) x)

module _ (sizes : Sizes) (z : IsLayout sizes) (past : List Event) (e : Event) (kept : IsKept sizes past) where
  -- a kind that changes no bucket
  pub buckets_stay : (k : Kind) → e.kind ≡ k → IsOffBuckets k → AllowedAs k sizes past e → (j : ℕ) → j < sizes.buckets
      → Untouched (bucket_chain sizes past j) (bucket_chain sizes (past ++ e ∷ []) j)
  buckets_stay k is off ok j low = subst (λ (s : State). Untouched (bucket_chain sizes past j)
      (chain_of sizes s (word_at sizes (past ++ e ∷ [])) j)) (next_state sizes past e k is)
      (idle_bucket sizes z past e kept (word_at sizes (past ++ e ∷ [])) (after_event sizes past e) j low k off ok)

  -- the key of a vertex that is linked next isn't there
  pub new_key : IsLinkVertex sizes past e → has (graph_of past) e.key ≡ false
  new_key ok = by (has (graph_of past) e.key) refl
    where
      by : (b : Bool) → has (graph_of past) e.key ≡ b → has (graph_of past) e.key ≡ false
      by false h = h
      by true h =
          let x = life_of_key past e.key h in
          let j : ℕ = e.key % sizes.buckets in
          let v = present_live sizes z past kept x.0 e.key x.1 in
          let on = (present_in sizes z past kept x.0 e.key x.1).on in
          let s = link_spot sizes z past e kept ok in
          let word = key_word sizes z past kept x.0.index j (is_in sizes (state sizes past) j x.0.index on) in
          absurd (none_of_key (bucket_chain sizes past j) s.at
          (word_at sizes past (key_at sizes e.life.index)) x.0.index
          ((buckets sizes z past kept).each j (home_low sizes z past kept e.key)).chain
          (link_can sizes z past e kept ok s).passes on
          (word ∙ (v.key_is ∙ sym ok.filled.key_word)))

  pub adds : e.kind ≡ LinkVertex → IsLinkVertex sizes past e → ListsStay sizes past e → AddsVertex sizes past e
  adds is ok lists =
      let w = word_at sizes (past ++ e ∷ []) in
      let a = after_event sizes past e in
      let s = link_spot sizes z past e kept ok in
      let j : ℕ = e.key % sizes.buckets in
      let next = next_state sizes past e LinkVertex is in
      let call : call_of past e ≡ Some (AddVertex e.key) = ap (λ (k : Kind). call_by k past e) is in
      record {
        at = s.at;
        place = s.place;
        chain = subst (λ (t : State). Inserts (bucket_chain sizes past j) (chain_of sizes t w j) s.at e.life.index) next
            (link_inserts sizes z past e kept ok w a s);
        others = record {
          buckets = λ i low ne. subst (λ (t : State). Untouched (bucket_chain sizes past i)
              (chain_of sizes t w i)) next (link_others sizes z past e kept ok w a i low ne);
          lists = lists;
        };
        call = call;
        graph = carries past e (AddVertex e.key) call (adds_vertex (graph_of past) e.key (new_key ok))
            (new_vertex_graph past e (new_vertex sizes z past e kept is ok));
      }

  -- a vertex that is marked next is the present one of its key
  pub removed : e.kind ≡ MarkVertex → IsMarkVertex sizes past e → IsRemovedVertex past e
      (node_in sizes past e.life.index).key
  removed is ok =
      let i : ℕ = e.life.index in
      let d = (named sizes z past kept).each i ok.there in
      let used : IsUsed (node_in sizes past i).mode = subst IsUsed (sym ok.linked.linked) tt in
      let me = life_is e.life i (node_in sizes past i).tag refl ok.life in
      let live : mark_of (word_at sizes past (link_at sizes i)) ≡ 0 = ap (λ (p : ℕ). mark_of (word_at sizes past p))
      (sym ok.place) ∙ ok.unmarked in
      let mark = mark_isnt (node_in sizes past i).marked (sym
      (((link_words sizes z past kept).each i ok.there).linked ok.linked.linked).mark ∙ live) in
      let unmarked : vertex_marked past e.life ≡ false = ap (vertex_marked past) me ∙
      (d.vertex_mark used ok.linked.vertex ∙ mark) in
      let key : key_of past e.life ≡ Some (node_in sizes past i).key = ap (key_of past) me
      ∙ d.vertex_key used ok.linked.vertex in
      let there : present_key past e.life ≡ Some (node_in sizes past i).key = ap
      (λ (b : Bool). cond b None (key_of past e.life)) unmarked ∙ key in
      record {
        kind = is;
        there = there;
        only = λ x h. one_present sizes z past kept x e.life
            (node_in sizes past i).key h there;
      }

  pub removes : e.kind ≡ MarkVertex → IsMarkVertex sizes past e → ListsStay sizes past e → RemovesVertex sizes past e
  removes is ok lists =
      let w = word_at sizes (past ++ e ∷ []) in
      let a = after_event sizes past e in
      let key : ℕ = (node_in sizes past e.life.index).key in
      let j : ℕ = key % sizes.buckets in
      let next = next_state sizes past e MarkVertex is in
      let r = removed is ok in
      let call : call_of past e ≡ Some (RemoveVertex key) = ap (λ (k : Kind). call_by k past e) is ∙ ap
      (option_map RemoveVertex) (present_is past e.life key r.there).1 in
      record {
        key = key;
        chain = subst (λ (t : State). Marks (bucket_chain sizes past j) (chain_of sizes t w j) e.life.index) next
            (mark_sets sizes z past e kept ok w a);
        others = record {
          buckets = λ i low ne. subst (λ (t : State). Untouched (bucket_chain sizes past i)
              (chain_of sizes t w i)) next (mark_others sizes z past e kept ok w a i low ne);
          lists = lists;
        };
        call = call;
        graph = carries past e (RemoveVertex key) call (removes_there (graph_of past) key
            (key_of_life past e.life key r.there)) (removed_vertex_graph past e key r);
      }

  pub unlinks_vertex : e.kind ≡ UnlinkVertex → IsUnlinkVertex sizes past e → ListsStay sizes past e
      → UnlinksVertex sizes past e
  unlinks_vertex is ok lists =
      let w = word_at sizes (past ++ e ∷ []) in
      let a = after_event sizes past e in
      let all = buckets sizes z past kept in
      let j : ℕ = (node_in sizes past e.life.index).key % sizes.buckets in
      let s = cut_spot sizes z past e kept ok all in
      let next = next_state sizes past e UnlinkVertex is in
      record {
        bucket = j;
        at = s.at;
        place = s.place;
        chain = subst (λ (t : State). Unlinks (bucket_chain sizes past j) (chain_of sizes t w j) s.at e.life.index) next
            (cut_unlinks sizes z past e kept ok all w a s);
        others = record {
          buckets = λ i low ne. subst (λ (t : State). Untouched (bucket_chain sizes past i)
              (chain_of sizes t w i)) next (cut_others sizes z past e kept ok all w a i low ne);
          lists = lists;
        };
        graph = idle_graph past e (ap is_idle is);
      }
