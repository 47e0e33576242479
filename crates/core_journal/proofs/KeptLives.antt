-- What was linked, marked or unlinked stays so in a longer journal.
use Rattle.std.proofs.Common.{◌≡◌, ℕ, Bool, true, false, cond, ◌&&◌, ◌||◌, List, [], ◌∷◌, ◌++◌, Option, Some, None}
use Rattle.std.proofs.Common.{find, refl, ap, ◌∙◌}
use Rattle.std.specs.Prelude.{option_map, is_some}
use Rattle.std.specs.List.{list_any}
use Rattle.packed_link.specs.declared.link.Life.{Life}
use Rattle.core_journal.specs.declared.event.Event.{Event}
use Rattle.core_journal.specs.Event.{same_life, links_vertex, marks_vertex, links_edge, cuts_edge, cut_life, unlinks}
use Rattle.core_journal.specs.Event.{freezes_head}
use Rattle.core_journal.specs.Life.{vertex_linked, vertex_marked, edge_linked, edge_marked, unlinked, head_frozen}
use Rattle.core_journal.specs.Life.{key_of, link_of}
use Rattle.core_journal.proofs.Lists.{any_more, find_more}

-- the key of a vertex life stays
pub key_more : (past more : List Event) (x : Life) (key : ℕ) → key_of past x ≡ Some key → key_of
    (past ++ more) x ≡ Some key
unfolding key_of
key_more past more x key h = by (find (λ (e : Event). links_vertex e.kind && same_life x e.life) past) refl h
  where
    by : (o : Option Event) → find (λ (e : Event). links_vertex e.kind && same_life x e.life) past ≡ o → option_map
        (λ (e : Event). e.key) o ≡ Some key → key_of (past ++ more) x ≡ Some key
    by None e h = absurd (cc)
    by (Some d) e h = ap (option_map (λ (e : Event). e.key)) (find_more
        (λ (e : Event). links_vertex e.kind && same_life x e.life) past more d e) ∙ h

-- the link of an edge life stays
pub link_more : (past more : List Event) (x : Life) (link : Event) → link_of past x ≡ Some link → link_of
    (past ++ more) x ≡ Some link
unfolding link_of
link_more past more x link h = find_more (λ (e : Event). links_edge e.kind && same_life x e.life) past more link h

-- what is linked, marked, unlinked or closed stays so
pub vertex_linked_more : (past more : List Event) (x : Life) → vertex_linked past x ≡ true → vertex_linked
    (past ++ more) x ≡ true
vertex_linked_more past more x h = any_more (λ (e : Event). links_vertex e.kind && same_life x e.life) past more h

pub vertex_marked_more : (past more : List Event) (x : Life) → vertex_marked past x ≡ true → vertex_marked
    (past ++ more) x ≡ true
vertex_marked_more past more x h = any_more (λ (e : Event). marks_vertex e.kind && same_life x e.life) past more h

pub edge_linked_more : (past more : List Event) (x : Life) → edge_linked past x ≡ true → edge_linked
    (past ++ more) x ≡ true
edge_linked_more past more x h = any_more (λ (e : Event). links_edge e.kind && same_life x e.life) past more h

pub edge_marked_more : (past more : List Event) (x : Life) → edge_marked past x ≡ true → edge_marked
    (past ++ more) x ≡ true
edge_marked_more past more x h = any_more (λ (e : Event). cuts_edge e.kind && same_life x (cut_life e)) past more h

pub unlinked_more : (past more : List Event) (x : Life) → unlinked past x ≡ true → unlinked (past ++ more) x ≡ true
unlinked_more past more x h = any_more (λ (e : Event). unlinks e.kind && same_life x e.life) past more h

pub head_frozen_more : (past more : List Event) (x : Life) → head_frozen past x ≡ true → head_frozen
    (past ++ more) x ≡ true
head_frozen_more past more x h = any_more (λ (e : Event). freezes_head e.kind && same_life x e.life) past more h

any_found : {A : Type 0} (test : A → Bool) (xs : List A) → list_any test xs ≡ is_some (find test xs)
any_found test [] = refl
any_found test (x ∷ xs) = elim (test x) as (λ b. (b || list_any test xs) ≡ is_some (cond b (Some x) (find test xs)))
    [ true ↦ refl | false ↦ any_found test xs ]

-- a vertex life is linked where it has a key
pub linked-key : (journal : List Event) (x : Life) → vertex_linked journal x ≡ is_some (key_of journal x)
unfolding key_of
linked-key journal x = any_found (λ (e : Event). links_vertex e.kind && same_life x e.life) journal ∙ by
    (find (λ (e : Event). links_vertex e.kind && same_life x e.life) journal)
  where
    by : (o : Option Event) → is_some o ≡ is_some (option_map (λ (e : Event). e.key) o)
    by None = refl
    by (Some e) = refl

-- an edge life is linked where it has a link
pub linked-link : (journal : List Event) (x : Life) → edge_linked journal x ≡ is_some (link_of journal x)
unfolding link_of
linked-link journal x = any_found (λ (e : Event). links_edge e.kind && same_life x e.life) journal
