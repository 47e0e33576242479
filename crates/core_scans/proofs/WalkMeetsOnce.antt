-- A walk of one row meets each node once, so at most as many as the table has.
use Rattle.std.proofs.Common.{◌≡◌, ◌≢◌, ◌⊎◌, inl, inr, ⊎_elim, ℕ, zero, suc, ◌+◌, ◌<◌, ◌≤◌, false, List, [], ◌∷◌}
use Rattle.std.proofs.Common.{◌++◌, length, map, take, get_or, refl, sym, ap, ◌∙◌, subst, arith}
use Rattle.std.proofs.lemmas.Bool.{cases_order}
use Rattle.std.proofs.lemmas.List.{length-map}
use Rattle.graph_kinds.specs.History.{Every}
use Rattle.packed_link.specs.Link.{index_of, nowhere}
use Rattle.packed_link.specs.Layout.{IsLayout, Sizes, key_at, link_at}
use Rattle.packed_link.specs.declared.link.Life.{Life}
use Rattle.scan_record.specs.Scan.{ScanValue}
use Rattle.core_journal.specs.declared.event.Event.{Event}
use Rattle.core_journal.specs.declared.event.Kind.{Kind}
use Rattle.core_journal.specs.Machine.{word_at}
use Rattle.core_journal.specs.Prefix.{IsPrefix}
use Rattle.core_journal.specs.State.{Linked, Node, state}
use Rattle.core_journal.proofs.Lists.{prefix_refl, prefix_take, prefix_trans, every_map}
use Rattle.core_kept.specs.Edges.{IsReplaceEdge}
use Rattle.core_kept.specs.Facts.{HasMet, IsSamePass}
use Rattle.core_kept.specs.Kept.{AllowedAs, IsKept}
use Rattle.core_kept.specs.Nodes.{node_in}
use Rattle.core_kept.proofs.ByKind.{sinces}
use Rattle.core_kept.proofs.Induction.{allowed_at, kept_front}
use Rattle.core_kept.proofs.MetWords.{key_stays, still_met}
use Rattle.core_kept.proofs.NodesInPlace.{used_there}
use Rattle.core_kept.proofs.ReplaceCases.{new_after}
use Rattle.core_lists.specs.Chains.{life_in}
use Rattle.core_lists.specs.Replacements.{IsInReach, IsReplacedBy}
use Rattle.core_lists.specs.Walks.{IsMetBehind}
use Rattle.core_lists.proofs.LinksTellReplaced.{front_at, same_key_marked, told}
use Rattle.core_lists.proofs.MetWordsLead.{walk_link}
use Rattle.core_rule.specs.Retired.{AreApart}
use Rattle.core_rule.specs.declared.view.View.{View}
use Rattle.core_scans.specs.Seen.{Meeting, Recorded, PassedOver, index_met, link_met, IsMeetingSeen, OnlyLooks}
use Rattle.core_scans.specs.Walking.{IsNextEdge, IsWithin, LeadsUpTo, last_row}
use Rattle.core_scans.proofs.FrontsKeepLives.{every_at, get_at}
use Rattle.core_scans.proofs.LinkNumberStays.{since_stays}
use Rattle.core_scans.proofs.RoomInScan.{injects}
use Rattle.core_scans.proofs.RowIsHeld.{same_pass}

-- an edge that replaced another was linked later
module _ (sizes : Sizes) (z : IsLayout sizes) (journal : List Event) (kept : IsKept sizes journal) (x y : Life)
    (r : IsReplacedBy journal x y) (old_life : x.tag ≡ (node_in sizes journal x.index).tag)
    (new_life : y.tag ≡ (node_in sizes journal y.index).tag) where
  abbrev past : List Event
  past = take r.number journal

  before : IsPrefix (take r.number journal) journal
  before = prefix_take journal r.number

  kept_past : IsKept sizes (take r.number journal)
  kept_past = kept_front sizes (take r.number journal) journal before kept

  then : IsPrefix (take r.number journal ++ r.event ∷ []) journal
  then = front_at journal r.number r.event r.at

  ok : IsReplaceEdge sizes (take r.number journal) r.event
  ok = subst (λ (k : Kind). AllowedAs k sizes (take r.number journal) r.event) r.kind
      (allowed_at sizes journal r.number r.event kept r.at).as_kind

  old_since : (node_in sizes journal r.event.old.index).since ≤ (state sizes (take r.number journal)).count
  old_since =
      let mode : (node_in sizes (take r.number journal) r.event.old.index).mode ≡ Linked = ok.linked.linked in
      let tag : (node_in sizes journal r.event.old.index).tag ≡ (node_in sizes (take r.number journal)
      r.event.old.index).tag = sym (subst (λ (l : Life). l.tag ≡ (node_in sizes journal l.index).tag) (sym r.of_old)
      old_life) ∙ ok.old_life in
      omega (
        arith,
        since_stays sizes z r.event.old.index (take r.number journal) journal before kept (λ f. absurd (cc)) tag,
        (sinces sizes (take r.number journal) kept_past).each r.event.old.index,
      )

  new_since : (node_in sizes journal r.event.life.index).since ≡ (state sizes (take r.number journal)).count + 1
  new_since =
      let front : List Event = take r.number journal ++ r.event ∷ [] in
      let new = new_after sizes z (take r.number journal) r.event kept_past ok r.kind in
      let mode : (node_in sizes (take r.number journal ++ r.event ∷ []) r.event.life.index).mode ≡ Linked =
      ap (λ (n : Node). n.mode) new in
      let tag : (node_in sizes journal r.event.life.index).tag ≡ (node_in sizes
      (take r.number journal ++ r.event ∷ []) r.event.life.index).tag = sym
      (subst (λ (l : Life). l.tag ≡ (node_in sizes journal l.index).tag) (sym r.of_new) new_life)
      ∙ (ok.life ∙ sym (ap (λ (n : Node). n.tag) new)) in
      since_stays sizes z r.event.life.index (take r.number journal ++ r.event ∷ []) journal then kept
      (λ f. absurd (cc)) tag ∙ ap (λ (n : Node). n.since) new

  pub replaced_earlier : (node_in sizes journal x.index).since < (node_in sizes journal y.index).since
  replaced_earlier =
      let old : (node_in sizes journal x.index).since ≤ (state sizes (take r.number journal)).count = subst
      (λ (l : Life). (node_in sizes journal l.index).since ≤ (state sizes (take r.number journal)).count) r.of_old
      old_since in
      let new : (node_in sizes journal y.index).since ≡ (state sizes (take r.number journal)).count + 1 = subst
      (λ (l : Life). (node_in sizes journal l.index).since ≡ (state sizes (take r.number journal)).count + 1) r.of_new
      new_since in
      omega (arith, old, new)

-- numbers that differ and are all below n are at most n
apart_at : (xs : List ℕ) → AreApart xs → (j k : ℕ) → j < k → k < length xs → get_or xs j 0 ≢ get_or xs k 0
apart_at [] a j k less low = absurd (omega (arith, low))
apart_at (x ∷ xs) a zero zero less low = absurd (omega (arith, less))
apart_at (x ∷ xs) a (suc j) zero less low = absurd (omega (arith, less))
apart_at (x ∷ xs) a zero (suc k) less low = λ same.
    every_at (λ (y : ℕ). y ≢ x) xs k (get_or xs k 0) a.0 (get_at xs k 0 (omega arith)) (sym same)
apart_at (x ∷ xs) a (suc j) (suc k) less low = apart_at xs a.1 j k (omega arith) (omega arith)

few_apart : (n : ℕ) (xs : List ℕ) → AreApart xs → Every (λ x. x < n) xs → length xs ≤ n
few_apart n xs a low = injects (length xs) n (λ k. get_or xs k 0)
    (λ k inside. every_at (λ (x : ℕ). x < n) xs k (get_or xs k 0) low (get_at xs k 0 inside)) (apart_at xs a)

module _ (v : View) (z : IsLayout v.sizes) (start : List Event) (s : ScanValue)
    (looks : OnlyLooks v.sizes v.number start v.front) where
  -- a node that a walk met at a moment, with the link that it had
  record IsMetAt (index word : ℕ) : Type 0 where
    pub moment : List Event
    pub after : IsPrefix start moment
    pub before_now : IsPrefix moment v.front
    pub word_is : word_at v.sizes moment (link_at v.sizes index) ≡ word
    pub met : HasMet v.sizes moment v.number index
    pub edge : (node_in v.sizes moment index).vertex ≡ false

  met_then : (begin : List Event) → IsPrefix start begin → (source : Life) (m : Meeting)
      → IsMeetingSeen v.sizes v.number s begin v.front source m → IsMetAt (index_met m) (link_met m)
  met_then begin p source (Recorded e) h = record {
    moment = h.moment;
    after = prefix_trans start begin h.moment p h.after;
    before_now = h.before;
    word_is = h.word_is;
    met = h.met;
    edge = h.edge;
  }
  met_then begin p source (PassedOver index word) h = record {
    moment = h.moment;
    after = prefix_trans start begin h.moment p h.after;
    before_now = h.before;
    word_is = h.word_is;
    met = h.met;
    edge = h.edge;
  }

  -- its key now, and the number of the event that linked it
  abbrev key_now : ℕ → ℕ
  key_now x = word_at v.sizes v.front (key_at v.sizes x)

  abbrev since_now : ℕ → ℕ
  since_now x = (node_in v.sizes v.front x).since

  -- one stands before another in the order of keys and links
  abbrev IsBefore : ℕ → ℕ → Type 0
  IsBefore x y = (key_now x < key_now y) ⊎ ((key_now x ≡ key_now y) × (since_now x < since_now y))

  before_on : (x y w : ℕ) → IsBefore x y → IsBefore y w → IsBefore x w
  before_on x y w a b = grind arith

  not_same : (x y : ℕ) → IsBefore x y → y ≢ x
  not_same x y a same = let k = ap key_now same in let n = ap since_now same in omega (arith, a, k, n)

  module _ (x word : ℕ) (h : IsMetAt x word) where
    kept_then : IsKept v.sizes h.moment
    kept_then = kept_front v.sizes h.moment v.front h.before_now looks.kept

    there_now : x < v.sizes.nodes
    there_now = used_there v.sizes h.moment x kept_then h.met.free

    one_pass : IsSamePass v.sizes h.moment v.front v.number
    one_pass = same_pass v.sizes z v.number start v.front v.front s looks.kept (prefix_refl v.front) looks.quiet
        looks.opened h.moment v.front h.after h.before_now (prefix_refl v.front)

    -- what was met then has its key and its link number still
    key_still_now : (y : ℕ) → y < v.sizes.nodes → HasMet v.sizes h.moment v.number y
        → key_now y ≡ word_at v.sizes h.moment (key_at v.sizes y)
    key_still_now y there m = key_stays v.sizes z h.moment v.front looks.kept v.number y one_pass m there

    since_still_now : (y : ℕ) → HasMet v.sizes h.moment v.number y → since_now y ≡ (node_in v.sizes h.moment y).since
    since_still_now y m = since_stays v.sizes z y h.moment v.front h.before_now looks.kept m.fresh
        (still_met v.sizes z h.moment v.front looks.kept v.number y one_pass m).1.tag

    -- the node to which its link leads stands behind it
    module _ (y : ℕ) (leads : index_of word ≡ y) (some : y ≢ nowhere) where
      led : index_of (word_at v.sizes h.moment (link_at v.sizes x)) ≡ y
      led = ap index_of h.word_is ∙ leads

      behind : IsMetBehind v.sizes h.moment v.number x y
      behind = ⊎_elim
          (λ (none : index_of (word_at v.sizes h.moment (link_at v.sizes x)) ≡ nowhere). absurd (some (sym led ∙ none)))
          (λ (d : IsMetBehind v.sizes h.moment v.number x
          (index_of (word_at v.sizes h.moment (link_at v.sizes x)))).
          subst (IsMetBehind v.sizes h.moment v.number x) led d)
          (walk_link v.sizes z h.moment kept_then v.number x there_now h.met)

      -- where the keys are the same, it replaced the other
      later : word_at v.sizes h.moment (key_at v.sizes y) ≡ word_at v.sizes h.moment (key_at v.sizes x)
          → (node_in v.sizes h.moment x).since < (node_in v.sizes h.moment y).since
      later same =
          let reach : IsInReach v.sizes h.moment x = inr (v.number, h.met) in
          let d = same_key_marked v.sizes z h.moment kept_then x there_now reach (λ none. some (sym led ∙ none))
          (ap (λ (i : ℕ). word_at v.sizes h.moment (key_at v.sizes i)) led ∙ same) in
          let r = told v.sizes z h.moment kept_then (life_in v.sizes h.moment x) there_now refl reach d h.edge in
          let less = replaced_earlier v.sizes z h.moment kept_then (life_in v.sizes h.moment x)
          (life_in v.sizes h.moment
          (index_of (word_at v.sizes h.moment (link_at v.sizes x)))) r refl refl in
          subst (λ (i : ℕ). (node_in v.sizes h.moment x).since < (node_in v.sizes h.moment i).since) led less

      next_behind : IsBefore x y
      next_behind =
          let kx = key_still_now x there_now h.met in
          let ky = key_still_now y behind.there behind.met in
          let nx = since_still_now x h.met in
          let ny = since_still_now y behind.met in
          ⊎_elim
          (λ (same : word_at v.sizes h.moment (key_at v.sizes x) ≡ word_at v.sizes h.moment (key_at v.sizes y)).
          inr (omega (arith, kx, ky, same), omega (arith, nx, ny, later (sym same))))
          (⊎_elim
          (λ (less : word_at v.sizes h.moment (key_at v.sizes x) < word_at v.sizes h.moment (key_at v.sizes y)).
          inl (omega (arith, kx, ky, less)))
          (λ (more : word_at v.sizes h.moment (key_at v.sizes y) < word_at v.sizes h.moment (key_at v.sizes x)).
          absurd (omega (arith, more, behind.rising))))
          (cases_order (word_at v.sizes h.moment (key_at v.sizes x)) (word_at v.sizes h.moment (key_at v.sizes y)))

  module _ (begin : List Event) (p : IsPrefix start begin) (source : Life) (at y : ℕ) (leads_at : index_of at ≡ y)
      (some : y ≢ nowhere) where
    abbrev AreSeen : List Meeting → Type 0
    AreSeen ms = Every (IsMeetingSeen v.sizes v.number s begin v.front source) ms

    -- all that a walk meets from a node on stand behind it, and so does the next one
    all_behind : (x word : ℕ) → IsMetAt x word → (ms : List Meeting) → LeadsUpTo word ms at → AreSeen ms
        → Every (IsBefore x) (map index_met ms) × IsBefore x y
    all_behind x word h [] leads f = (tt, next_behind x word h y (ap index_of leads ∙ leads_at) some)
    all_behind x word h (m ∷ ms) leads f =
        let first = next_behind x word h (index_met m) leads.0 leads.1 in
        let r = all_behind (index_met m) (link_met m) (met_then begin p source m f.0) ms leads.2 f.1 in (
          (
            first,
            every_map (IsBefore (index_met m)) (IsBefore x) (λ w. before_on x (index_met m) w first)
                (map index_met ms) r.0,
          ),
          before_on x (index_met m) y first r.1,
        )

    all_apart : (word : ℕ) (ms : List Meeting) → LeadsUpTo word ms at → AreSeen ms
        → AreApart (map index_met ms) × Every (λ x. x ≢ y) (map index_met ms) × Every (λ x. x < v.sizes.nodes)
        (map index_met ms)
    all_apart word [] leads f = (tt, tt, tt)
    all_apart word (m ∷ ms) leads f =
        let h = met_then begin p source m f.0 in
        let r = all_behind (index_met m) (link_met m) h ms leads.2 f.1 in
        let q = all_apart (link_met m) ms leads.2 f.1 in (
          (
            every_map (IsBefore (index_met m)) (λ x. x ≢ index_met m) (λ x. not_same (index_met m) x)
                (map index_met ms) r.0,
            q.0,
          ),
          ((λ same. not_same (index_met m) y r.1 (sym same)), q.1),
          (there_now (index_met m) (link_met m) h, q.2),
        )

  -- so there's a node for each step of a walk, and one for the next
  pub few_steps : (at steps : ℕ) → IsWithin v start s at steps → index_of at ≢ nowhere → steps < v.sizes.nodes
  few_steps at steps h some =
      let o = h.row in
      let p = prefix_trans start o.found o.begin o.after o.then in
      let a = all_apart o.begin p (last_row s).life at (index_of at) refl some (last_row s).head o.walked o.leads
      o.meetings in
      let there : index_of at < v.sizes.nodes = ⊎_elim
      (λ (none : index_of at ≡ nowhere). absurd (some none))
      (λ (n : IsNextEdge v (last_row s).life _ (index_of at)).
      subst (λ (x : ℕ). x < v.sizes.nodes) n.is n.met.life.there) h.onward in
      let few = few_apart v.sizes.nodes (index_of at ∷ map index_met o.walked) (a.1, a.0) (there, a.2) in
      omega (arith, few, length-map o.walked index_met, o.long)
