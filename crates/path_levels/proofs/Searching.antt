-- Levels are expanded key by key, and listed one by one.
use Rattle.std.proofs.Common.{◌≡◌, ◌≢◌, ℕ, ◌+◌, ◌-◌, ◌<◌, ◌≤◌, true, List, [], ◌∷◌, ◌++◌, length, take, drop, get_or}
use Rattle.std.proofs.Common.{filter, not, flat_map, append-nil, refl, sym, ap, ap₂, ◌∙◌, subst, arith, length-append}
use Rattle.std.proofs.Common.{length-drop}
use Rattle.std.specs.List.{concat}
use Rattle.std.proofs.lemmas.List.{get_or-drop, take_more, take_rest, drop_at}
use Rattle.std.proofs.lemmas.List.Folds.{concat-append}
use Rattle.std.proofs.lemmas.Grind.{flat_map-append}
use Rattle.graph_kinds.specs.Graph.{Graph, IsGraph, has, neighbours}
use Rattle.graph_kinds.specs.declared.outcome.Outcome.TheVariants as out
use Rattle.graph_kinds.specs.Answer.{by_levels}
use Rattle.graph_kinds.specs.Levels.{stands_in, firsts_of, levels_from, levels_of, level_ends, level_after}
use Rattle.scan_record.specs.declared.rows.VertexRow.{VertexRow}
use Rattle.scan_record.specs.Asked.{root_of, answer_in_region}
use Rattle.scan_record.specs.Scan.{ScanValue}
use Rattle.scan_record.specs.ScanGraph.{graph_of_scan}
use Rattle.path_levels.specs.Queue.{with_all, IsFront}
use Rattle.path_levels.specs.Search.{KeepsRowsAndCosts, IsQueue}
use Rattle.path_levels.proofs.MetLists.{with_all-append, with_all-firsts}
use Rattle.path_levels.proofs.Listed.{IsListed, first_listed, next_listed, all_listed, concat-push, level_ends-push}
use Rattle.path_levels.proofs.Listed.{length-level_ends}
use Rattle.scan_record.proofs.ScanFacts.{graph_kept}
use Rattle.path_levels.proofs.KeptScans.{all_kept_on, all_kept_same}
use Rattle.path_levels.proofs.Queues.{queue_few}
use Rattle.path_levels.proofs.Expanding.{with_all-front}

grown_long : (queue ys : List ℕ) → length queue ≤ length (with_all queue ys)
grown_long queue ys = omega (
  arith,
  ap (λ (xs : List ℕ). length xs) (with_all-firsts queue ys),
  length-append queue
      (firsts_of (filter (λ y. not (stands_in queue y)) ys)),
)

-- the keys from a place on were expanded up to another place
pub record IsLevelExpanding (old s : ScanValue) (from p : ℕ) : Type 0 where
  pub kept : KeepsRowsAndCosts old s
  pub ends : s.ends ≡ old.ends
  pub queue : IsQueue s p
  pub keys : s.keys ≡ with_all old.keys (flat_map (neighbours (graph_of_scan old))
      (take (p - from) (drop from old.keys)))

pub level_first : (s : ScanValue) (from : ℕ) → IsQueue s from → IsLevelExpanding s s from from
level_first s from q =
    let none : from - from ≡ 0 = omega arith in
    record {
      kept = all_kept_same s;
      ends = refl;
      queue = q;
      keys = ap (λ (n : ℕ). with_all s.keys (flat_map (neighbours (graph_of_scan s)) (take n (drop from s.keys))))
          (sym none);
    }

module _ (old s : ScanValue) (from p : ℕ) (now : IsLevelExpanding old s from p) (low : from ≤ p) where
  pub place_there : p < length old.keys → p < length s.keys
  place_there lt = subst (λ (xs : List ℕ). p < length xs) (sym now.keys)
      (with_all-front old.keys (flat_map (neighbours (graph_of_scan old)) (take (p - from) (drop from old.keys))) p
      lt).0

  pub level_next : p < length old.keys → (new : ScanValue) → new.keys ≡ with_all s.keys
      (neighbours (graph_of_scan s) (get_or s.keys p 0)) → IsQueue new (p + 1) → new.ends ≡ s.ends
      → KeepsRowsAndCosts s new → IsLevelExpanding old new from (p + 1)
  level_next lt new keys queue ends kept =
      let next : p + 1 - from ≡ p - from + 1 = omega arith in
      let back : from + (p - from) ≡ p = omega arith in
      let front = with_all-front old.keys (flat_map f (take (p - from) (drop from old.keys))) p lt in
      let same : get_or s.keys p 0 ≡ get_or old.keys p 0 = ap (λ (xs : List ℕ). get_or xs p 0) now.keys ∙ front.1 in
      let more : take (p - from + 1) (drop from old.keys) ≡ take (p - from)
      (drop from old.keys) ++ get_or old.keys p 0 ∷ [] =
      take_more (drop from old.keys) (p - from) 0 (omega (arith, length-drop from old.keys)) ∙ ap
      (λ (x : ℕ). take (p - from) (drop from old.keys) ++ x ∷ [])
      (get_or-drop from old.keys (p - from) 0 ∙ ap (λ (j : ℕ). get_or old.keys j 0) back) in
      let all : flat_map f (take (p + 1 - from) (drop from old.keys)) ≡ flat_map f
      (take (p - from) (drop from old.keys)) ++ f (get_or old.keys p 0) =
      ap (λ (n : ℕ). flat_map f (take n (drop from old.keys))) next ∙
      (ap (flat_map f) more ∙ (flat_map-append f (take (p - from) (drop from old.keys)) (get_or old.keys p 0 ∷ [])
      ∙ ap (λ (ys : List ℕ). flat_map f (take (p - from) (drop from old.keys)) ++ ys)
      (append-nil (f (get_or old.keys p 0))))) in
      record {
        kept = all_kept_on old s new now.kept kept;
        ends = ends ∙ now.ends;
        queue = queue;
        keys = keys
            ∙ (ap₂ (λ (g : Graph) (x : ℕ). with_all s.keys (neighbours g x)) (graph_kept old s now.kept.rows) same
            ∙ (ap (λ (xs : List ℕ). with_all xs (f (get_or old.keys p 0))) now.keys
            ∙ (sym (with_all-append old.keys (flat_map f (take (p - from) (drop from old.keys)))
            (f (get_or old.keys p 0))) ∙ ap (with_all old.keys) (sym all))));
      }
    where
      f : ℕ → List ℕ
      f = neighbours (graph_of_scan old)

  pub level_all : p ≡ length old.keys → s.keys ≡ with_all old.keys
      (flat_map (neighbours (graph_of_scan old)) (drop from old.keys))
  level_all end = now.keys ∙ ap (λ (ys : List ℕ). with_all old.keys (flat_map (neighbours (graph_of_scan old)) ys))
      (ap (λ (n : ℕ). take (n - from) (drop from old.keys)) end ∙ take_rest old.keys from)

-- the levels up to a place are listed, and the next one stands from there on
pub record IsAtLevel (g : Graph) (a : ℕ) (keys ends : List ℕ) (from : ℕ) : Type 0 where
  pub listed : List (List ℕ)
  pub level : List ℕ
  pub all : keys ≡ concat listed ++ level
  pub ended : ends ≡ level_ends 0 listed
  pub before : from ≡ length (concat listed)
  pub now : IsListed g a listed level

pub at_first : (g : Graph) (a : ℕ) (keys ends : List ℕ) → keys ≡ a ∷ [] → ends ≡ [] → IsAtLevel g a keys ends 0
at_first g a keys ends one none = record {
  listed = [];
  level = a ∷ [];
  all = one;
  ended = none;
  before = refl;
  now =
      first_listed g a;
}

-- the keys behind those of the listed levels are the level
level_is : (g : Graph) (a : ℕ) (keys ends : List ℕ) (from : ℕ) (l : IsAtLevel g a keys ends from)
    → drop from keys ≡ l.level
level_is g a keys ends from l = ap (drop from) l.all ∙ drop_at (concat l.listed) l.level from (sym l.before)

level_filled : (g : Graph) (a : ℕ) (keys ends : List ℕ) (from : ℕ) (l : IsAtLevel g a keys ends from)
    → from < length keys → l.level ≢ []
level_filled g a keys ends from l lt e = absurd (omega (
  arith,
  lt,
  l.before,
  ap
      (λ (xs : List ℕ). length xs) l.all,
  length-append (concat l.listed) l.level,
  ap (λ (xs : List ℕ). length xs) e,
))

-- the keys so far are the first ones of all levels
pub at_front_of_all : (g : Graph) (a : ℕ) → IsGraph g → has g a ≡ true → (keys ends : List ℕ) (from : ℕ)
    → IsAtLevel g a keys ends from → from < length keys
    → IsFront keys (concat (levels_of g a))
at_front_of_all g a is there keys ends from l lt =
    let n = next_listed g a is there l.listed l.level l.now (level_filled g a keys ends from l lt) in
    let rest = levels_from g n.turns (concat (l.listed ++ l.level ∷ []))
    (level_after g (concat l.listed ++ l.level) l.level) in
    record {
      later = concat rest;
      all = ap (λ (xs : List ℕ). xs ++ concat rest) (l.all ∙ sym (concat-push l.listed l.level)) ∙
          (sym (concat-append (l.listed ++ l.level ∷ []) rest) ∙ sym (ap concat n.rest));
    }

pub at_next : (g : Graph) (a : ℕ) → IsGraph g → has g a ≡ true → (keys ends : List ℕ) (from : ℕ)
    → IsAtLevel g a keys ends from → from < length keys
    → (new : List ℕ) → new ≡ with_all keys (flat_map (neighbours g) (drop from keys)) → IsAtLevel g a new
    (ends ++ length keys ∷ []) (length keys)
at_next g a is there keys ends from l lt new grown = record {
  listed = l.listed ++ l.level ∷ [];
  level = level_after g (concat l.listed ++ l.level) l.level;
  all = grown
      ∙ (ap (λ (ys : List ℕ). with_all keys (flat_map (neighbours g) ys)) (level_is g a keys ends from l)
      ∙ (ap (λ (xs : List ℕ). with_all xs (flat_map (neighbours g) l.level)) l.all
      ∙ (with_all-firsts (concat l.listed ++ l.level) (flat_map (neighbours g) l.level)
      ∙ ap (λ (xs : List ℕ). xs ++ level_after g (concat l.listed ++ l.level) l.level)
      (sym (concat-push l.listed l.level)))));
  ended = ap₂ (λ (es : List ℕ) (n : ℕ). es ++ n ∷ []) l.ended long ∙ sym (level_ends-push 0 l.listed l.level);
  before = ap (λ (xs : List ℕ). length xs) (l.all ∙ sym (concat-push l.listed l.level));
  now = next_listed g a is there l.listed l.level l.now (level_filled g a keys ends from l lt);
}
  where
    long : length keys ≡ 0 + length (concat l.listed ++ l.level)
    long = omega (arith, ap (λ (xs : List ℕ). length xs) l.all)

nothing : (xs : List ℕ) → length xs ≡ 0 → xs ≡ []
nothing [] e = refl
nothing (x ∷ xs) e = absurd (omega arith)

pub at_end : (g : Graph) (a : ℕ) (keys ends : List ℕ) (from : ℕ) → IsAtLevel g a keys ends from → length keys ≤ from →
    (keys ≡ concat (levels_of g a)) × (ends ≡ level_ends 0 (levels_of g a))
at_end g a keys ends from l le =
    let none : l.level ≡ [] = nothing l.level (omega (
      arith,
      le,
      l.before,
      ap
          (λ (xs : List ℕ). length xs) l.all,
      length-append (concat l.listed) l.level,
    )) in
    let listed : levels_of g a ≡ l.listed = all_listed g a l.listed (subst (IsListed g a l.listed) none l.now) in (
      l.all ∙ (ap (λ (xs : List ℕ). concat l.listed ++ xs) none ∙
          (append-nil (concat l.listed) ∙ ap concat (sym listed))),
      l.ended ∙ ap (level_ends 0) (sym listed),
    )

-- the state of a search between two levels
pub record IsSearching (old s : ScanValue) (from end : ℕ) : Type 0 where
  pub kept : KeepsRowsAndCosts old s
  pub queue : IsQueue s from
  pub long : end ≡ length s.keys
  pub short : length s.ends ≤ from
  pub behind : from ≤ end
  pub level : IsAtLevel (graph_of_scan old) (root_of old) s.keys s.ends from

ends_queue : (s : ScanValue) (es : List ℕ) (done : ℕ) → IsQueue s done → IsQueue (record s { ends = es }) done
ends_queue s es done q = record {
  once = q.once;
  rows = q.rows;
  keys = q.keys;
  parents = q.parents;
  met = q.met;
  closed
      = q.closed;
}

-- the queue doesn't read the level ends
pub queue_ended : (s mid : ScanValue) (es : List ℕ) (done : ℕ) → mid ≡ record s { ends = es } → IsQueue s done
    → IsQueue mid done
queue_ended s mid es done e q = subst (λ (t : ScanValue). IsQueue t done) (sym e) (ends_queue s es done q)

pub search_first : (old s : ScanValue) (end : ℕ) → KeepsRowsAndCosts old s → IsQueue s 0 → s.keys ≡ root_of old ∷ []
    → s.ends ≡ [] → end ≡ length s.keys → IsSearching old s 0 end
search_first old s end kept q one none e = record {
  kept = kept;
  queue = q;
  long = e;
  short = omega (arith, ap (λ (xs : List ℕ). length xs) none);
  behind = omega arith;
  level = at_first (graph_of_scan old) (root_of old) s.keys s.ends one none;
}

pub search_next : (old s : ScanValue) (from end : ℕ) → IsGraph (graph_of_scan old) → has (graph_of_scan old)
    (root_of old) ≡ true → IsSearching old s from end → from < end
    → (mid new : ScanValue) (count : ℕ) → mid ≡ record s { ends = s.ends ++ end ∷ [] } → new.keys ≡ with_all mid.keys
    (flat_map (neighbours (graph_of_scan mid)) (drop from mid.keys))
    → IsQueue new (length mid.keys) → new.ends ≡ mid.ends → KeepsRowsAndCosts mid new → count ≡ length new.keys
    → IsSearching old new end count
search_next old s from end is there now lt mid new count e keys queue ends kept long = record {
  kept = all_kept_on old s new now.kept (all_kept_on s mid new ended kept);
  queue = subst (IsQueue new) (sym end_is) queue;
  long = long;
  short = omega (
    arith,
    ap (λ (xs : List ℕ). length xs) (ends ∙ ends_mid),
    length-append s.ends
        (end ∷ []),
    now.short,
    lt,
  );
  behind = omega (arith, long, end_is, ap (λ (xs : List ℕ). length xs) keys, longer);
  level = subst (λ (n : ℕ). IsAtLevel g a new.keys new.ends n) (sym now.long)
      (subst (λ (es : List ℕ). IsAtLevel g a new.keys es (length s.keys)) (sym ends_all) next);
}
  where
    g : Graph
    g = graph_of_scan old

    a : ℕ
    a = root_of old

    ended : KeepsRowsAndCosts s mid
    ended = record {
      rows = record {
        nodes = ap (λ (t : ScanValue). t.nodes) e;
        rows = ap (λ (t : ScanValue). t.rows) e;
        started = ap (λ (t : ScanValue). t.started) e;
        next = ap (λ (t : ScanValue). t.next) e;
        edges = ap (λ (t : ScanValue). t.edges) e;
      };
      costs = ap (λ (t : ScanValue). t.costs) e;
    }

    keys_mid : mid.keys ≡ s.keys
    keys_mid = ap (λ (t : ScanValue). t.keys) e

    ends_mid : mid.ends ≡ s.ends ++ end ∷ []
    ends_mid = ap (λ (t : ScanValue). t.ends) e

    end_is : end ≡ length mid.keys
    end_is = now.long ∙ ap (λ (xs : List ℕ). length xs) (sym keys_mid)

    ends_all : new.ends ≡ s.ends ++ length s.keys ∷ []
    ends_all = ends ∙ (ends_mid ∙ ap (λ (n : ℕ). s.ends ++ n ∷ []) now.long)

    longer : length mid.keys ≤ length (with_all mid.keys (flat_map (neighbours (graph_of_scan mid))
        (drop from mid.keys)))
    longer = grown_long mid.keys (flat_map (neighbours (graph_of_scan mid)) (drop from mid.keys))

    grown : new.keys ≡ with_all s.keys (flat_map (neighbours (graph_of_scan old)) (drop from s.keys))
    grown = keys ∙ ap₂ (λ (g : Graph) (xs : List ℕ). with_all xs (flat_map (neighbours g) (drop from xs)))
        (graph_kept s mid ended.rows ∙ graph_kept old s now.kept.rows) keys_mid

    next : IsAtLevel (graph_of_scan old) (root_of old) new.keys (s.ends ++ length s.keys ∷ []) (length s.keys)
    next = at_next (graph_of_scan old) (root_of old) is there s.keys s.ends from now.level
        (omega (arith, lt, now.long)) new.keys grown

pub search_end : (old s : ScanValue) (from end : ℕ) → IsSearching old s from end → end ≤ from
    → (s.keys ≡ concat (levels_of (graph_of_scan old) (root_of old))) ×
    (s.ends ≡ level_ends 0 (levels_of (graph_of_scan old) (root_of old)))
search_end old s from end now le = at_end (graph_of_scan old) (root_of old) s.keys s.ends from now.level
    (omega (arith, le, now.long))

-- where the levels end, all keys were met
pub all_met : (old s : ScanValue) (from end : ℕ) → IsSearching old s from end → end ≤ from → IsFront s.keys
    (concat (levels_of (graph_of_scan old) (root_of old)))
all_met old s from end now le = record { later = []; all = append-nil s.keys ∙ (search_end old s from end now le).0 }

-- there are no more keys than rows, before and after
pub search_few : (old s : ScanValue) (from end : ℕ) → IsSearching old s from end → length s.keys ≤ length old.rows
search_few old s from end now = omega (
  arith,
  queue_few s from now.queue,
  ap
      (λ (rows : List VertexRow). length rows) now.kept.rows.rows,
)

-- the listed levels with their number are the answer
pub levels_answer : (g : Graph) (a : ℕ) (s : ScanValue) → s.keys ≡ concat (levels_of g a) → s.ends ≡ level_ends 0
    (levels_of g a) → (count : ℕ) → count ≡ length s.ends → answer_in_region (out.Levels count) s ≡ by_levels
    (levels_of g a)
levels_answer g a s keys ends count e =
    let long : count ≡ length (levels_of g a) = e ∙ (ap (λ (xs : List ℕ). length xs) ends ∙ length-level_ends 0
    (levels_of g a)) in
    λ i. record { outcome = out.Levels (long i); keys = keys i; ends = ends i }
