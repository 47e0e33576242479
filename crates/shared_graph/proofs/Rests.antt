-- A load of a reading: what it tells, if the front is still that of the beginning.
use Rattle.std.proofs.Common.{◌≡◌, ℕ, List, [], ◌++◌, true, length, refl, sym, ap, ap₂, ◌∙◌, subst, arith}
use Rattle.std.proofs.Common.{length-append}
use Rattle.std.proofs.lemmas.List.{append-nil, nil_from_length}
use Rattle.packed_link.specs.Layout.{Sizes, IsLayout}
use Rattle.core_journal.specs.declared.event.Event.{Event}
use Rattle.core_journal.specs.Machine.{word_at}
use Rattle.core_journal.specs.Prefix.{IsPrefix}
use Rattle.core_journal.proofs.Lists.{prefix_length}
use Rattle.core_kept.specs.Kept.{IsKept}
use Rattle.core_rule.specs.Plays.{Looked}
use Rattle.core_rule.specs.declared.view.View.{View}
use Rattle.core_stretches.proofs.MakesAddUp.{makes_chain, makes_look, makes_self}
use Rattle.core_stretches.proofs.MakesTell.{makes_later}
use Rattle.graph_table.specs.Tokens.{IsOf, TableValue, TokenValue}
use Rattle.shared_graph.specs.Reading.{IsReading, ToldAtRest}

-- the same of a fact that names the journal itself
abbrev pub AtRest : (begun before now : TokenValue) → Type 0 → Type 0
AtRest begun before now P = ToldAtRest begun before now (λ journal. P)

-- what lies between a list and itself is that list
between_same : {A : Type 0} (xs ys zs : List A) → IsPrefix xs ys → IsPrefix ys zs → zs ≡ xs → ys ≡ xs
between_same xs ys zs p q e =
    let none : p.rest ≡ [] = nil_from_length p.rest (omega (
      arith,
      length-append xs p.rest,
      ap length p.whole,
      prefix_length ys zs q,
      ap length e,
    )) in
    sym p.whole ∙ (ap (λ t. xs ++ t) none ∙ append-nil xs)

pub loaded : (g : TableValue) (begun t u : TokenValue) (place found : ℕ) → IsReading g begun t → IsOf g u
    → Looked t.view place found u.view → IsReading g begun u
loaded g begun t u place found r of l = record {
  of = of;
  numbered = r.numbered;
  makes = makes_chain begun.view t.view u.view [] [] r.makes
      (makes_look t.view u.view place found ((makes_later begun.view t.view [] r.makes).numbered ∙ r.numbered)
      r.of.sound l);
  last = ap (λ (v : View). v.last) l.view ∙ r.last;
}

pub loaded_word : (g : TableValue) (begun t u : TokenValue) (place found : ℕ) → IsReading g begun t
    → Looked t.view place found u.view
    → AtRest begun t u (found ≡ word_at g.sizes begun.view.front place)
loaded_word g begun t u place found r l still = (
  between_same begun.view.front t.view.front u.view.front (makes_later begun.view t.view [] r.makes).grows l.grows
      still,
  l.word ∙ ap₂ (λ (z : Sizes) (f : List Event). word_at z f place) r.of.sizes still,
)

-- the journal that is read is kept, if the front is still that of the beginning
pub read_layout : (g : TableValue) (begun t : TokenValue) → IsReading g begun t → IsLayout g.sizes
read_layout g begun t r = subst IsLayout r.of.sizes r.of.layout

pub read_kept : (g : TableValue) (begun t : TokenValue) → IsReading g begun t → t.view.front ≡ begun.view.front
    → IsKept g.sizes begun.view.front
read_kept g begun t r still = subst (λ (f : List Event). IsKept g.sizes f) still
    (subst (λ (z : Sizes). IsKept z t.view.front) r.of.sizes r.of.sound.kept)

pub reading_begins : (g : TableValue) (t begun : TokenValue) → IsOf g t → t.view.numbered ≡ true → begun ≡ t
    → IsReading g begun t
reading_begins g t begun of has is = subst (λ (b : TokenValue). IsReading g b t) (sym is) record {
  of = of;
  numbered = has;
  makes = makes_self t.view has of.sound;
  last = refl;
}
