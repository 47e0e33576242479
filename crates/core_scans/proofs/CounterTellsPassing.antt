-- No edge of a vertex was both linked and unlinked between two readings of its counter that are the same.
use Rattle.std.proofs.Common.{◌≡◌, ◌≢◌, ℕ, ◌<◌, ◌≤◌, Bool, true, false, cond, ◌&&◌, List, [], ◌∷◌, ◌++◌, length, take}
use Rattle.std.proofs.Common.{Option, Some, None, refl, sym, ap, ◌∙◌, subst, arith}
use Rattle.std.specs.Prelude.{slice_get}
use Rattle.std.proofs.lemmas.Bool.{and_parts, and_from}
use Rattle.packed_link.specs.Layout.{Sizes, IsLayout, third_at}
use Rattle.packed_link.specs.declared.link.Life.{Life}
use Rattle.core_journal.specs.declared.event.Event.{Event}
use Rattle.core_journal.specs.Event.{same_life, links_edge, cuts_edge, cut_life}
use Rattle.core_journal.specs.Life.{key_of, link_of, vertex_marked, edge_marked, unlinked}
use Rattle.core_journal.specs.Machine.{word_at}
use Rattle.core_journal.specs.Prefix.{IsPrefix}
use Rattle.core_journal.proofs.Lists.{prefix_take, prefix_trans, prefix_refl, get_back}
use Rattle.core_journal.proofs.Snoc.{same_is, none_found}
use Rattle.core_kept.specs.Kept.{IsKept}
use Rattle.core_kept.proofs.CutEdges.{cut_was_linked}
use Rattle.core_kept.proofs.Induction.{kept_front}
use Rattle.core_kept.proofs.LivesEnd.{any_at}
use Rattle.core_lists.specs.Chains.{IsEdgeOf}
use Rattle.core_lists.proofs.ChangedByAnother.{front_in}
use Rattle.core_lists.proofs.LinksTellReplaced.{front_at}
use Rattle.core_lists.proofs.LivesOnLists.{edge_present}
use Rattle.core_lists.proofs.LowerCounters.{found_at, marked_lower, counter_rises}
use Rattle.core_lists.proofs.OneVertexOfKey.{present_live}
use Rattle.core_scans.proofs.FrontsKeepLives.{some_is, key_on, link_on, unmarked_back, stays_back, every_at, not_below}
use Rattle.core_scans.proofs.SameWordBetween.{IsHere}

-- an edge whose link stands in a journal was linked in it
link_in : (j : List Event) (x : Life) (link : Event) (k : ℕ) → slice_get j k ≡ Some link
    → links_edge link.kind ≡ true → same_life x link.life ≡ true → link_of j x ≢ None
unfolding link_of
link_in j x link k at links same none =
    let f = every_at (λ (d : Event). (links_edge d.kind && same_life x d.life) ≡ false) j k link
    (none_found (λ (d : Event). links_edge d.kind && same_life x d.life) j none) at in
    let t : (links_edge link.kind && same_life x link.life) ≡ true =
    and_from (links_edge link.kind) (same_life x link.life) links same in
    absurd (cc)

-- what an edge's link is
link_is : (j : List Event) (x : Life) (link : Event) → link_of j x ≡ Some link
    → (links_edge link.kind ≡ true) × (same_life x link.life ≡ true)
unfolding link_of
link_is j x link h =
    let r = found_at (λ (d : Event). links_edge d.kind && same_life x d.life) j link h in
    and_parts (links_edge link.kind) (same_life x link.life) r.2

module _ (sizes : Sizes) (z : IsLayout sizes) (v : Life) (key : ℕ) (begin last : List Event) (kept : IsKept sizes last)
    (long : IsPrefix begin last) (linked : key_of begin v ≡ Some key) (live : vertex_marked last v ≡ false) where
  -- the vertex is present at each moment from the first to the last
  pub here_at : (j : List Event) → IsPrefix begin j → IsPrefix j last → IsHere sizes z v key j
  here_at j p q = record {
    kept = kept_front sizes j last q kept;
    present = ap (λ (b : Bool). cond b None (key_of j v)) (unmarked_back j last q v live) ∙
        key_on begin j p v key linked;
  }

  -- and its counter only rises
  pub counter_on : (i j : List Event) → IsPrefix begin i → IsPrefix i j → IsPrefix j last
      → word_at sizes i (third_at sizes v.index) ≤ word_at sizes j (third_at sizes v.index)
  counter_on i j p q r =
      let hi = here_at i p (prefix_trans i j last q r) in
      let hj = here_at j (prefix_trans begin i j p q) r in
      let a = present_live sizes z i hi.kept v key hi.present in
      let b = present_live sizes z j hj.kept v key hj.present in
      counter_rises sizes z v.index i j q hj.kept (λ f. let m = a.linked in absurd (cc)) (sym b.life ∙ a.life)

  module _ (counted m e t : List Event) (p : IsPrefix begin m) (first : IsPrefix m e) (second : IsPrefix e t)
      (third : IsPrefix t counted) (end : IsPrefix counted last)
      (same : word_at sizes counted (third_at sizes v.index) ≡ word_at sizes begin (third_at sizes v.index)) where
    t_last : IsPrefix t last
    t_last = prefix_trans t counted last third end

    kept_t : IsKept sizes t
    kept_t = kept_front sizes t last t_last kept

    -- an edge that was linked after the first moment and unlinked before the last was marked or replaced in
    -- between, at a higher counter
    module _ (l : Life) (f : IsEdgeOf e v l) (not_m : IsEdgeOf m v l → ⊥) where
      link_t : link_of t l ≡ Some f.link
      link_t = link_on e t second l f.link f.is

      no_link : link_of m l ≡ None
      no_link = by (link_of m l) refl
        where
          by : (o : Option Event) → link_of m l ≡ o → link_of m l ≡ None
          by None h = h
          by (Some d) h =
              let one : d ≡ f.link = some_is d f.link (sym (link_on m e first l d h) ∙ f.is) in
              absurd (not_m record {
                link = d;
                is = h;
                from = ap (λ (x : Event). x.source) one ∙ f.from;
                stays = stays_back m e first l f.stays;
              })

      -- the event that cut it
      module _ (n : ℕ) (d : Event) (at : slice_get t n ≡ Some d) (cuts : cuts_edge d.kind ≡ true)
          (this : l ≡ cut_life d) where
        back : IsPrefix (take n t) t
        back = prefix_take t n

        was : (link : Event) × (link_of (take n t) (cut_life d) ≡ Some link)
        was = cut_was_linked sizes z (take n t) d (kept_front sizes (take n t ++ d ∷ []) t (front_at t n d at) kept_t)
            cuts

        one : was.0 ≡ f.link
        one = some_is was.0 f.link (sym (link_on (take n t) t back (cut_life d) was.0 was.1)
            ∙ (ap (link_of t) (sym this) ∙ link_t))

        source : was.0.source ≡ v
        source = ap (λ (x : Event). x.source) one ∙ f.from

        unmarked : vertex_marked (take n t) was.0.source ≡ false
        unmarked = ap (vertex_marked (take n t)) source ∙
            unmarked_back (take n t) last (prefix_trans (take n t) t last back t_last) v live

        cut_higher : ⊥
        cut_higher =
            let low = marked_lower sizes z t kept_t n d was.0 at cuts was.1 unmarked in
            let word : word_at sizes (take low.place t) (third_at sizes v.index) < word_at sizes (take n t)
            (third_at sizes v.index) = subst
            (λ (s : Life). word_at sizes (take low.place t) (third_at sizes s.index) < word_at sizes (take n t)
            (third_at sizes s.index)) source low.word in
            let m_t : IsPrefix m t = prefix_trans m e t first second in
            let k = link_is t l f.link link_t in
            let linked_at : slice_get t low.place ≡ Some f.link = low.at ∙ ap Some one in
            let long_m : length m ≤ low.place = not_below low.place (length m) (λ (h : low.place < length m).
            let here : slice_get m low.place ≡ Some f.link = sym (get_back m m_t.rest low.place h) ∙
            (ap (λ (x : List Event). slice_get x low.place) m_t.whole ∙ linked_at) in
            link_in m l f.link low.place here k.0 k.1 no_link) in
            let a = front_in m t low.place m_t long_m in
            let b = front_in m t n m_t (omega (arith, long_m, low.before)) in
            let a_t : IsPrefix (take low.place t) t = prefix_take t low.place in
            let up = counter_on begin (take low.place t) (prefix_refl begin)
            (prefix_trans begin m (take low.place t) p a) (prefix_trans (take low.place t) t last a_t t_last) in
            let down = counter_on (take n t) counted (prefix_trans begin m (take n t) p b)
            (prefix_trans (take n t) t counted back third) end in
            omega (arith, up, down, word, same)

      clash : edge_marked t l ≡ true → ⊥
      clash marked =
          let r = any_at (λ (d : Event). cuts_edge d.kind && same_life l (cut_life d)) t marked in
          let parts = and_parts (cuts_edge r.event.kind) (same_life l (cut_life r.event)) r.passes in
          cut_higher r.number r.event r.at parts.0 (same_is l (cut_life r.event) parts.1)

      pub none_passed : (IsEdgeOf t v l → ⊥) → ⊥
      none_passed not_t = by_unlinked (unlinked t l) refl
        where
          by_marked : (b : Bool) → edge_marked t l ≡ b → unlinked t l ≡ true → ⊥
          by_marked true h u = clash h
          by_marked false h u = let g = (edge_present sizes z t kept_t l f.link link_t h).stays in absurd (cc)

          by_unlinked : (b : Bool) → unlinked t l ≡ b → ⊥
          by_unlinked true h = by_marked (edge_marked t l) refl h
          by_unlinked false h = not_t record { link = f.link; is = link_t; from = f.from; stays = h }
