-- What a walk meets: where the words of linked and of spent nodes lead.
use Rattle.std.specs.Prelude.{◌≡◌, ◌≢◌, ℕ, ◌%◌, ◌<◌, ◌≤◌, ◌⊎◌, true, false, List, [], ◌∷◌}
use Rattle.graph_kinds.specs.History.{Every}
use Rattle.packed_link.specs.Link.{index_of, mark_of, nowhere}
use Rattle.packed_link.specs.Layout.{Sizes, bucket_at, key_at, link_at, second_at}
use Rattle.core_journal.specs.declared.event.Event.{Event}
use Rattle.core_journal.specs.Machine.{word_at}
use Rattle.core_journal.specs.Prefix.{IsPrefix}
use Rattle.core_journal.specs.Reuse.{pass_in}
use Rattle.core_journal.specs.State.{Linked, Spent}
use Rattle.core_kept.specs.Nodes.{node_in}
use Rattle.core_kept.specs.Facts.{HasMet, IsSamePass}
use Rattle.core_lists.specs.Chains.{life_in}

-- a word leads to none, or to a node of which this holds
abbrev pub LeadsTo : ℕ → (ℕ → Type 0) → Type 0
LeadsTo word P = (index_of word ≡ nowhere) ⊎ P (index_of word)

-- y is linked, or its last end isn't before that of x
pub record IsNoEarlier (sizes : Sizes) (journal : List Event) (x y : ℕ) : Type 0 where
  pub there : y < sizes.nodes
  pub later : ((node_in sizes journal y).mode ≡ Linked)
      ⊎ ((node_in sizes journal x).ended ≤ (node_in sizes journal y).ended)

-- the link of a spent node that isn't stored for the free list leads to none, to a linked node, or to one whose last
-- end isn't before its own, and so does the second word of a spent vertex
pub record SpentLinks (sizes : Sizes) (journal : List Event) : Type 0 where
  pub link : (x : ℕ) → x < sizes.nodes
      → (node_in sizes journal x).mode ≡ Spent → (node_in sizes journal x).stored ≡ false
      → LeadsTo (word_at sizes journal (link_at sizes x)) (IsNoEarlier sizes journal x)
  pub list : (x : ℕ) → x < sizes.nodes
      → (node_in sizes journal x).mode ≡ Spent → (node_in sizes journal x).vertex ≡ true
      → LeadsTo (word_at sizes journal (second_at sizes x)) (IsNoEarlier sizes journal x)

-- the pass of a caller has met y, which is of the kind of x: a vertex of the same bucket, or an edge of the same
-- source. Its key isn't smaller, and it's greater where x is a vertex or its link is unmarked
pub record IsMetBehind (sizes : Sizes) (journal : List Event) (caller x y : ℕ) : Type 0 where
  pub there : y < sizes.nodes
  pub met : HasMet sizes journal caller y
  pub kind : (node_in sizes journal y).vertex ≡ (node_in sizes journal x).vertex
  pub rising : word_at sizes journal (key_at sizes x) ≤ word_at sizes journal (key_at sizes y)
  pub strictly : ((node_in sizes journal x).vertex ≡ true) ⊎ (mark_of (word_at sizes journal (link_at sizes x)) ≡ 0)
      → word_at sizes journal (key_at sizes x) < word_at sizes journal (key_at sizes y)
  pub bucket : (node_in sizes journal x).vertex ≡ true
      → word_at sizes journal (key_at sizes y) % sizes.buckets ≡ word_at sizes journal (key_at sizes x) % sizes.buckets
  pub source : (node_in sizes journal x).vertex ≡ false
      → (node_in sizes journal y).source ≡ (node_in sizes journal x).source

-- the pass of a caller has met y, which is an edge of the vertex x in its life
pub record IsMetIn (sizes : Sizes) (journal : List Event) (caller x y : ℕ) : Type 0 where
  pub there : y < sizes.nodes
  pub met : HasMet sizes journal caller y
  pub edge : (node_in sizes journal y).vertex ≡ false
  pub source : (node_in sizes journal y).source ≡ life_in sizes journal x

-- the pass of a caller has met y, which is a vertex with a key of this bucket
pub record IsMetFirst (sizes : Sizes) (journal : List Event) (caller j y : ℕ) : Type 0 where
  pub there : y < sizes.nodes
  pub met : HasMet sizes journal caller y
  pub vertex : (node_in sizes journal y).vertex ≡ true
  pub bucket : word_at sizes journal (key_at sizes y) % sizes.buckets ≡ j

-- one load of a walk: the journal up to then, and the place of the word
pub record Load : Type 0 where
  pub moment : List Event
  pub place : ℕ

-- the node to which the word leads that was found there
abbrev pub led_to : Sizes → Load → ℕ
led_to sizes l = index_of (word_at sizes l.moment l.place)

-- a walk came to a node: one of its loads led there
abbrev pub CameTo : Sizes → List Load → ℕ → Type 0
CameTo sizes [] x = ⊥
CameTo sizes (l ∷ earlier) x = ((led_to sizes l ≡ x) × (x ≢ nowhere)) ⊎ CameTo sizes earlier x

-- where a load of a walk comes from: the word of a bucket, the link of a node to which the walk came, or the second
-- word of a vertex to which it came. It may also begin at such a word of a node that its pass has met otherwise: as the
-- target of an edge, or by linking it
pub data ComesFrom (sizes : Sizes) (caller : ℕ) (earlier : List Load) (l : Load) : Type 0 where
  from_bucket : (j : ℕ) → j < sizes.buckets → l.place ≡ bucket_at sizes j → ComesFrom sizes caller earlier l
  from_link : (x : ℕ) → CameTo sizes earlier x → l.place ≡ link_at sizes x → ComesFrom sizes caller earlier l
  from_list : (x : ℕ) → CameTo sizes earlier x → (node_in sizes l.moment x).vertex ≡ true
      → l.place ≡ second_at sizes x → ComesFrom sizes caller earlier l
  from_met : (x : ℕ) → x < sizes.nodes → HasMet sizes l.moment caller x → l.place ≡ link_at sizes x
      → ComesFrom sizes caller earlier l
  from_met_list : (x : ℕ) → x < sizes.nodes → HasMet sizes l.moment caller x
      → (node_in sizes l.moment x).vertex ≡ true → l.place ≡ second_at sizes x → ComesFrom sizes caller earlier l

-- a load in the open pass of a caller, behind the walk's earlier loads
pub record IsLoad (sizes : Sizes) (journal : List Event) (caller : ℕ) (earlier : List Load) (l : Load) : Type 0 where
  pub pass : (pass_in sizes l.moment caller).is_open ≡ true
  pub same : IsSamePass sizes l.moment journal caller
  pub later : Every (λ (k : Load). IsPrefix k.moment l.moment) earlier
  pub from : ComesFrom sizes caller earlier l

-- the loads of a walk in the open pass of a caller, the last one first
abbrev pub IsWalk : Sizes → List Event → ℕ → List Load → Type 0
IsWalk sizes journal caller [] = Unit {0}
IsWalk sizes journal caller (l ∷ earlier) = IsLoad sizes journal caller earlier l × IsWalk sizes journal caller earlier

-- the pass of a caller had met a node at a moment, and has met it still, in the same life
pub record StaysMet (sizes : Sizes) (moment journal : List Event) (caller y : ℕ) : Type 0 where
  pub there : y < sizes.nodes
  pub then : HasMet sizes moment caller y
  pub still : HasMet sizes journal caller y
  pub life : (node_in sizes journal y).tag ≡ (node_in sizes moment y).tag
