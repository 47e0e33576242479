-- Where a life is marked that wasn't before, one event is the first to mark it.
use Rattle.std.proofs.Common.{◌≡◌, ℕ, ◌≤◌, Bool, true, false, ◌&&◌, List, [], ◌∷◌, ◌++◌, length, take, Some, refl, sym}
use Rattle.std.proofs.Common.{ap, ◌∙◌, subst, true≢false, arith, append_assoc, append-nil, length-append}
use Rattle.std.specs.Prelude.{slice_get}
use Rattle.std.specs.List.{list_any}
use Rattle.graph_kinds.proofs.Calls.{and_left, and_right}
use Rattle.packed_link.specs.declared.link.Life.{Life}
use Rattle.core_journal.specs.declared.event.Event.{Event}
use Rattle.core_journal.specs.Event.{same_life, marks_vertex, cuts_edge, cut_life}
use Rattle.core_journal.specs.Life.{vertex_marked, edge_marked}
use Rattle.core_journal.specs.Marks.{IsMarkOf, IsCutOf}
use Rattle.core_journal.specs.Prefix.{IsPrefix}
use Rattle.core_journal.proofs.Lists.{get_here, take_here}
use Rattle.core_journal.proofs.Snoc.{any_skip, same_is}

module _ (test : Event → Bool) where
  -- the first event that passes, behind some that don't
  record FirstAny (journal : List Event) (start : ℕ) : Type 0 where
    pub m : ℕ
    pub event : Event
    pub since : start ≤ m
    pub at : slice_get journal m ≡ Some event
    pub passes : test event ≡ true
    pub none : list_any test (take m journal) ≡ false

  first_any : (past rest : List Event) → list_any test past ≡ false → list_any test (past ++ rest) ≡ true → FirstAny
      (past ++ rest) (length past)
  first_any past [] f t = absurd (true≢false (sym t ∙ (ap (list_any test) (append-nil past) ∙ f)))
  first_any past (e ∷ es) f t = by (λ g. first_any (past ++ e ∷ []) es g
      (ap (list_any test) (append_assoc past (e ∷ []) es) ∙ t)) (test e) refl
    where
      later : FirstAny ((past ++ e ∷ []) ++ es) (length (past ++ e ∷ [])) → FirstAny (past ++ e ∷ es) (length past)
      later h = let same = append_assoc past (e ∷ []) es in record {
        m = h.m;
        event = h.event;
        since = omega (arith, h.since, length-append past (e ∷ []));
        at = subst (λ (l : List Event). slice_get l h.m ≡ Some h.event) same h.at;
        passes = h.passes;
        none = subst (λ (l : List Event). list_any test (take h.m l) ≡ false) same h.none;
      }

      by : (list_any test (past ++ e ∷ []) ≡ false → FirstAny ((past ++ e ∷ []) ++ es) (length (past ++ e ∷ []))) →
          (b : Bool) → test e ≡ b → FirstAny (past ++ e ∷ es) (length past)
      by more true h = record {
        m = length past;
        event = e;
        since = omega arith;
        at = get_here past e es;
        passes = h;
        none = ap (list_any test) (take_here past (e ∷ es)) ∙ f;
      }
      by more false h = later (more (any_skip test past e h ∙ f))

  first_between : (front journal : List Event) → IsPrefix front journal → list_any test front ≡ false
      → list_any test journal ≡ true → FirstAny journal (length front)
  first_between front journal p f t = subst (λ (j : List Event). FirstAny j (length front)) p.whole
      (first_any front p.rest f (ap (list_any test) p.whole ∙ t))

pub first_mark_of : (front journal : List Event) → IsPrefix front journal → (x : Life) → vertex_marked front x ≡ false
    → vertex_marked journal x ≡ true → (m : ℕ) × (length front ≤ m) × IsMarkOf journal x m
first_mark_of front journal p x f t =
    let h = first_between (λ (e : Event). marks_vertex e.kind && same_life x e.life) front journal p f t in (
      h.m,
      h.since,
      record {
        event = h.event;
        at = h.at;
        marks = and_left (marks_vertex h.event.kind) (same_life x h.event.life) h.passes;
        life = sym (same_is x h.event.life (and_right (marks_vertex h.event.kind) (same_life x h.event.life) h.passes));
        unmarked = h.none;
      },
    )

pub first_cut_of : (front journal : List Event) → IsPrefix front journal → (x : Life) → edge_marked front x ≡ false
    → edge_marked journal x ≡ true → (m : ℕ) × (length front ≤ m) × IsCutOf journal x m
first_cut_of front journal p x f t =
    let h = first_between (λ (e : Event). cuts_edge e.kind && same_life x (cut_life e)) front journal p f t in (
      h.m,
      h.since,
      record {
        event = h.event;
        at = h.at;
        cuts = and_left (cuts_edge h.event.kind) (same_life x (cut_life h.event)) h.passes;
        life = sym (same_is x (cut_life h.event) (and_right (cuts_edge h.event.kind)
            (same_life x (cut_life h.event)) h.passes));
        uncut = h.none;
      },
    )
