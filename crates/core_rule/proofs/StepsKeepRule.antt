-- Each primitive step on the one table keeps its rule.
use Rattle.std.proofs.Common.{◌≡◌, ◌≢◌, ◌⊎◌, ℕ, zero, suc, ◌+◌, ◌%◌, ◌^◌, ◌<◌, ◌≤◌, Bool, true, false, true≢false, cond}
use Rattle.std.proofs.Common.{eqb, List, [], ◌∷◌, ◌++◌, length, set, refl, sym, ap, ap₂, ◌∙◌, subst, arith, length-set}
use Rattle.std.proofs.Common.{inl, inr, ⊎_elim, eq-eqb, ne_eqb}
use Rattle.std.specs.Prelude.{slice_index}
use mathlib.Core.Option.{Option, none, some, some-injective, some-ne-none}
use lib.ListN.{get_elem?}
use Rattle.atomic_table.specs.Table.{step, Act, Valid, carried_after, keeps, stepped as step_to, Allows, Splits, Joins}
use Rattle.atomic_table.proofs.Lists.{at_set}
use Rattle.graph_kinds.specs.History.{Every}
use Rattle.graph_kinds.specs.declared.entry.Entry.{Entry}
use Rattle.packed_link.specs.Layout.{Sizes, IsLayout, number_at}
use Rattle.core_journal.specs.Event.{draws}
use Rattle.core_journal.specs.declared.event.Event.{Event}
use Rattle.core_journal.specs.Machine.{machine, word_at}
use Rattle.core_journal.specs.State.{state}
use Rattle.core_journal.proofs.Lists.{every_map, every_both, every_append, prefix_refl, prefix_trans, prefix_snoc}
use Rattle.core_journal.proofs.Lists.{prefix_length}
use Rattle.core_journal.proofs.MachineWords.{machine-snoc}
use Rattle.core_kept.specs.Kept.{Allowed, AllowedAs}
use Rattle.core_kept.specs.Passes.{IsDrawNumber}
use Rattle.core_rule.specs.Owes.{Owes, OwesStore}
use Rattle.core_rule.specs.Plays.{AtSeat, seen, stepped, numbered, replied, draw_event, looking, turning, storing}
use Rattle.core_rule.specs.Plays.{drawing, replying, meeting, newcomer, stays, both_fronts}
use Rattle.core_rule.specs.Rule.{IsAccount, IsDrawer, Fits, Ruled, reach, spent_view, own_account}
use Rattle.core_rule.specs.declared.view.View.{View}
use Rattle.core_kept.proofs.Induction.{kept_snoc}
use Rattle.core_kept.proofs.FirstWords.{numbers}
use Rattle.core_kept.proofs.Callers.{quiet_end, drawn_other, drawn_draw}
use Rattle.core_rule.proofs.ViewsFit.{Table, account_more, account_far, fits_more, fits_seen, seats_set, same_words}
use Rattle.core_rule.proofs.ViewsFit.{found_word, sound_after, reaches}

-- the word of numbers that a token with the right to draw finds is its count
drawn_word : (v : View) (s : Table) (h : Ruled v.sizes s) (i id : ℕ) → get_elem? s.views id ≡ some v → v.draws ≡ true
    → i ≡ number_at v.sizes → slice_index s.words i ≡ v.drawn
drawn_word v s h i id me draws at =
    found_word v.sizes s h i ∙ (ap (word_at v.sizes h.journal) at ∙
    ((numbers v.sizes h.journal h.kept).numbers ∙ sym (((h.seats id v me).draws draws).drawn)))

-- a load
pub looks : (n id i : ℕ) (v : View) → Allows (Ruled v.sizes) n id (v, []) i (λ x. x)
    (looking (step n i 0 0 none) (v, []))
looks n id i v s h wide me _ =
    let f = h.seats id v me in
    let w = seen v h.journal in
    let after = same_words v.sizes s h i id w (fits_seen v.sizes h.journal h.drawer h.owner id v f) in (
      w,
      keeps,
      tt,
      after,
      (
        record {
          grows = f.front;
          word = found_word v.sizes s h i;
          count = drawn_word v s h i id me;
          sound = sound_after
              v.sizes s i _ id v w me refl after;
          view = refl;
        },
        refl,
      ),
    )

-- an event of a seat that has a number
stepped_to : (sizes : Sizes) (s : Table) (h : Ruled sizes s) (i x id : ℕ) (v : View) (e : Event)
    → get_elem? s.views id ≡ some v → v.numbered ≡ true → e.caller ≡ v.number → e.place ≡ i → e.word ≡ x
    → draws e.kind ≡ false → Allowed sizes h.journal e
    → Ruled sizes (step_to s i x id [] (stepped v (h.journal ++ e ∷ [])) keeps)
stepped_to sizes s h i x id v e me has by place word plain ok =
    let f = h.seats id v me in
    let n = f.numbered has in
    let w = stepped v (h.journal ++ e ∷ []) in record {
      journal = h.journal ++ e ∷ [];
      drawer = h.drawer;
      owner = h.owner;
      words = ap (λ (ws : List ℕ). set ws i x) h.words ∙ (ap₂ (λ (j y : ℕ). set (machine sizes h.journal) j y)
          (sym place) (sym word) ∙ sym (machine-snoc sizes h.journal e));
      kept = kept_snoc sizes h.journal e h.kept ok;
      seats = seats_set sizes (h.journal ++ e ∷ []) h.drawer h.owner s.views id w
          (λ j u apart at. fits_more sizes h.journal h.drawer h.owner h.owner j u e
          (λ a r c. ((λ same. apart (sym c.own ∙ (ap h.owner (sym same ∙ by) ∙ n.own))), refl)) (λ _. plain)
          (h.seats j u at))
          record {
            front = prefix_refl (h.journal ++ e ∷ []);
            met = prefix_trans v.met h.journal (h.journal ++ e ∷ []) f.met (prefix_snoc h.journal e);
            draws = λ is. let d = f.draws is in record {
              one = d.one;
              drawn = omega
                  (arith, drawn_other sizes h.journal e plain, d.drawn);
            };
            numbered = λ _. record {
              own = n.own;
              drawn = omega
                  (arith, drawn_other sizes h.journal e plain, n.drawn);
              old = omega arith;
              quiet = quiet_end
                  (h.journal ++ e ∷ []) v.number;
            };
            others = every_map (λ (a : ℕ × ℕ). (a.0 ≢ v.number) × IsAccount sizes h.journal h.owner id (reach v) a)
                (IsAccount sizes (h.journal ++ e ∷ []) h.owner id (reach w))
                (λ a k. account_more sizes h.journal h.owner h.owner id (reach v) (reach w) e a
                (λ same. k.0 (sym same ∙ by)) refl (omega (
                  arith,
                  prefix_length v.front h.journal f.front,
                  prefix_length h.journal (h.journal ++ e ∷ [])
                      (prefix_snoc h.journal e),
                )) k.1) v.others
                (every_both (λ (a : ℕ × ℕ). a.0 ≢ v.number) (IsAccount sizes h.journal h.owner id (reach v)) v.others
                (f.apart has) f.others);
            apart = f.apart;
          };
    }

abbrev StepIsRuled : Sizes → Table → ℕ → ℕ → ℕ → (ℕ → AtSeat → Type 0) → Type 0
StepIsRuled sizes s i id x then = (w : View) × (a : Act (Unit {0})) × Valid s.homes [] a × Ruled sizes
    (step_to s i x id [] w a) × then (slice_index s.words i) (w, carried_after [] a)

-- an exchange, a mark or an add
pub turns : (n id i a b : ℕ) (said : Option (Unit {0})) (v : View) (f : ℕ → ℕ) (wins : ℕ → Bool) (event : ℕ → Event)
    → v.numbered ≡ true → Owes v i f wins event
    → Allows (Ruled v.sizes) n id (v, []) i f (turning wins event (step n i a b said) (v, []))
turns n id i a b said v f wins event has owes s h wide me _ = by_case (wins (slice_index s.words i)) refl
  where
    by_case : (b' : Bool) → wins (slice_index s.words i) ≡ b' → StepIsRuled v.sizes s i id (f (slice_index s.words i))
        (turning wins event (step n i a b said) (v, []))
    by_case true is =
        let fits = h.seats id v me in
        let e = event (slice_index s.words i) in
        let same = found_word v.sizes s h i in
        let n = fits.numbered has in
        let r = reaches v.sizes s h id v refl me has in
        let won = ap wins (sym same) ∙ is in
        let kept : AllowedAs e.kind v.sizes h.journal e = subst
        (λ (y : ℕ). AllowedAs (event y).kind v.sizes h.journal (event y)) (sym same)
        (owes.allowed h.journal r won) in
        let writes : e.word ≡ f (slice_index s.words i) = subst (λ (y : ℕ). (event y).word ≡ f y) (sym same)
        (owes.writes h.journal r won) in
        let ok : Allowed v.sizes h.journal e = record {
          by = λ _. omega
              (arith, owes.by (slice_index s.words i), n.drawn);
          as_kind = kept;
        } in
        let all = stepped_to v.sizes s h i (f (slice_index s.words i)) id v e me has (owes.by _) (owes.at _) writes
        (owes.no_draw _) ok in (
          stepped v (h.journal ++ e ∷ []),
          keeps,
          tt,
          all,
          (
            (λ _. record {
              grown = h.journal;
              grows = fits.front;
              word = same;
              front = refl;
              quiet = n.quiet;
              sound =
                  sound_after v.sizes s i _ id v (stepped v (h.journal ++ e ∷ [])) me refl all;
              view = refl;
            }),
            (λ lost. absurd (true≢false (sym is ∙ lost))),
            refl,
          ),
        )
    by_case false is =
        let fits = h.seats id v me in
        let after = same_words v.sizes s h i id (seen v h.journal)
        (fits_seen v.sizes h.journal h.drawer h.owner id v fits) in (
          seen v h.journal,
          keeps,
          tt,
          subst (λ (y : ℕ). Ruled v.sizes (step_to s i y id [] (seen v h.journal) keeps)) (sym (owes.lose _ is)) after,
          (
            (λ won. absurd (true≢false (sym won ∙ is))),
            (λ _. record {
              grows = fits.front;
              word = found_word v.sizes s h i;
              count = drawn_word v s h i id me;
              sound
                  = sound_after v.sizes s i _ id v (seen v h.journal) me refl after;
              view = refl;
            }),
            refl,
          ),
        )

-- a store
pub stores : (n id i a b : ℕ) (said : Option (Unit {0})) (v : View) (event : ℕ → Event) → v.numbered ≡ true
    → OwesStore v i a (event a)
    → Allows (Ruled v.sizes) n id (v, []) i (λ _. a) (λ _. storing event (step n i a b said) (v, []) a)
stores n id i a b said v event has owes s h wide me _ =
    let fits = h.seats id v me in
    let e = event a in
    let n = fits.numbered has in
    let ok : Allowed v.sizes h.journal e = record {
      by = λ _. omega
          (arith, owes.by, n.drawn);
      as_kind = owes.allowed h.journal (reaches v.sizes s h id v refl me has);
    } in
    let after = stepped_to v.sizes s h i a id v e me has owes.by owes.at owes.writes owes.no_draw ok in (
      stepped v (h.journal ++ e ∷ []),
      keeps,
      tt,
      after,
      (
        record {
          grown = h.journal;
          grows = fits.front;
          front = refl;
          quiet = n.quiet;
          sound = sound_after v.sizes s i _
              id v (stepped v (h.journal ++ e ∷ [])) me refl after;
          view = refl;
        },
        refl,
      ),
    )

-- a token with the right to draw takes the next number
pub draws_number : (n id a b : ℕ) (said : Option (Unit {0})) (v : View) → IsLayout v.sizes → v.draws ≡ true
    → v.numbered ≡ false → v.drawn < v.sizes.callers
    → Allows (Ruled v.sizes) n id (v, []) 1 (λ x. (x + 1) % 2 ^ 64) (drawing (step n 1 a b said) (v, []))
draws_number n id a b said v z has new room s h wide me small =
    let fits = h.seats id v me in
    let right = fits.draws has in
    let c = numbers v.sizes h.journal h.kept in
    let J : List Event = h.journal in
    let D : ℕ = (state v.sizes h.journal).drawn in
    let same = found_word v.sizes s h 1 in
    let x : ℕ = slice_index s.words 1 in
    let found : slice_index s.words 1 ≡ (state v.sizes h.journal).drawn = same ∙ c.numbers in
    let e = draw_event (slice_index s.words 1) in
    let fit : (slice_index s.words 1 + 1) % 2 ^ 64 ≡ slice_index s.words 1 + 1 = omega
    (arith, found, right.drawn, room, z.few_callers) in
    let now : ℕ → ℕ = λ k. cond (eqb k D) id (h.owner k) in
    let w = numbered v (h.journal ++ e ∷ []) (slice_index s.words 1) in
    let more : (state v.sizes (h.journal ++ e ∷ [])).drawn ≡ D + 1 = drawn_draw v.sizes h.journal e refl in
    let kept_owner : (k : ℕ) → k < D → cond (eqb k D) id (h.owner k) ≡ h.owner k = λ k below. ap
    (λ (c' : Bool). cond c' id (h.owner k)) (ne_eqb k D (λ t. omega (arith, t, below))) in
    let ok : IsDrawNumber v.sizes h.journal e = record {
      life = refl;
      there = omega
          (arith, found, right.drawn, room);
      place = refl;
      word = ap (λ (k : ℕ). k + 1) same;
      caller = found;
    } in
    let kept = kept_snoc v.sizes h.journal e h.kept (record { by = λ t. absurd (true≢false t); as_kind = ok }) in
    let after : Ruled v.sizes (step_to s 1 ((slice_index s.words 1 + 1) % 2 ^ 64) id [] w keeps) = record {
      journal = h.journal ++ e ∷ [];
      drawer = h.drawer;
      owner = now;
      words = ap₂ (λ (ws : List ℕ) (y : ℕ). set ws 1 y) h.words fit ∙ sym (machine-snoc v.sizes h.journal e);
      kept = kept;
      seats = seats_set v.sizes (h.journal ++ e ∷ []) h.drawer now s.views id w
          (λ j u apart at. fits_more v.sizes h.journal h.drawer h.owner now j u e
          (λ a r c'. ((λ same'. omega (arith, found, c'.drawn, same')), kept_owner a.0 c'.drawn))
          (λ is. absurd (apart (((h.seats j u at).draws is).one ∙ sym right.one))) (h.seats j u at))
          record {
            front = prefix_refl (h.journal ++ e ∷ []);
            met = prefix_trans v.met h.journal (h.journal ++ e ∷ []) fits.met (prefix_snoc h.journal e);
            draws = λ _. record { one = right.one; drawn = omega (arith, more, right.drawn) };
            numbered = λ _. record {
              own = ap (λ (c' : Bool). cond c' id (h.owner x)) (eq-eqb x D found);
              drawn = omega
                  (arith, more, found);
              old = omega arith;
              quiet = quiet_end (h.journal ++ e ∷ []) x;
            };
            others = every_map (IsAccount v.sizes J h.owner id (reach v))
                (IsAccount v.sizes (h.journal ++ e ∷ []) now id (reach w))
                (λ a c'. account_more v.sizes h.journal h.owner now id (reach v) (reach w) e a
                (λ same'. omega (arith, found, c'.drawn, same')) (kept_owner a.0 c'.drawn)
                (omega (
                  arith,
                  prefix_length v.front h.journal fits.front,
                  prefix_length h.journal
                      (h.journal ++ e ∷ []) (prefix_snoc h.journal e),
                )) c') v.others fits.others;
            apart = λ _. every_map (IsAccount v.sizes J h.owner id (reach v)) (λ (a : ℕ × ℕ). a.0 ≢ x)
                (λ a c' same'. omega (arith, found, c'.drawn, same')) v.others fits.others;
          };
    } in (
      w,
      keeps,
      tt,
      after,
      (
        record {
          next = found ∙ sym right.drawn;
          grown = h.journal;
          grows = fits.front;
          front = refl;
          sound = sound_after
              v.sizes s 1 _ id v w me refl after;
          view = refl;
        },
        refl,
      ),
    )

-- a load that adds an entry to the book
pub replies : (n id i : ℕ) (v : View) (entry : Entry) → Allows (Ruled v.sizes) n id (v, []) i (λ x. x)
    (replying entry (step n i 0 0 none) (v, []))
replies n id i v entry s h wide me _ =
    let f = h.seats id v me in
    let w = replied v h.journal entry in
    let g = fits_seen v.sizes h.journal h.drawer h.owner id v f in
    let after = same_words v.sizes s h i id w record {
      front = g.front;
      met = g.met;
      draws = λ is. let d = f.draws is in
          record { one = d.one; drawn = d.drawn };
      numbered = g.numbered;
      others = g.others;
      apart = g.apart;
    } in (
      w,
      keeps,
      tt,
      after,
      (record { grows = f.front; sound = sound_after v.sizes s i _ id v w me refl after; view = refl }, refl),
    )

-- a load after a join, which shows that the other's front begins the journal
pub meets : (n id i : ℕ) (v : View) → Allows (Ruled v.sizes) n id (v, []) i (λ x. x)
    (meeting (step n i 0 0 none) (v, []))
meets n id i v s h wide me _ =
    let f = h.seats id v me in
    let w : View = record v { front = h.journal; met = [] } in
    let g = fits_seen v.sizes h.journal h.drawer h.owner id v f in
    let after = same_words v.sizes s h i id w record {
      front = g.front;
      met = record { rest = h.journal; whole = refl };
      draws = λ is. let d = f.draws is in record { one = d.one; drawn = d.drawn };
      numbered = g.numbered;
      others = every_map (IsAccount v.sizes h.journal h.owner id (reach v))
          (IsAccount v.sizes h.journal h.owner id (reach w)) (λ a c. account_far v.sizes h.journal h.owner h.owner id id
          (reach v) (reach w) a (λ x. x) (omega (
            arith,
            prefix_length v.front h.journal f.front,
            prefix_length v.met
                h.journal f.met,
          )) c) v.others f.others;
      apart = g.apart;
    } in (
      w,
      keeps,
      tt,
      after,
      (
        record { grows = f.front; met = f.met; sound = sound_after v.sizes s i _ id v w me refl after; view = refl },
        refl,
      ),
    )

-- another seat has the right to draw, and numbers have other owners
fits_drawer : (sizes : Sizes) (journal : List Event) (d d' : ℕ) (o o' : ℕ → ℕ) (j : ℕ) (u : View) →
    ((k : ℕ) → o k ≡ j → o' k ≡ j) → (u.draws ≡ true → j ≡ d') → Fits sizes journal d o j u
    → Fits sizes journal d' o' j u
fits_drawer sizes journal d d' o o' j u same is f = record {
  front = f.front;
  met = f.met;
  draws = λ t. record { one = is t; drawn = (f.draws t).drawn };
  numbered = λ t. account_far sizes journal o o' j j (length u.front) (length u.front) (u.number, u.last)
      (same u.number) (omega arith) (f.numbered t);
  others = every_map (IsAccount sizes journal o j (reach u)) (IsAccount sizes journal o' j (reach u))
      (λ a c. account_far sizes journal o o' j j (reach u) (reach u) a (same a.0) (omega arith) c) u.others f.others;
  apart = f.apart;
}

at_end : {A : Type 0} (l : List A) (a b : A) (j : ℕ) → get_elem? (l ++ a ∷ []) j ≡ some b → (get_elem? l j ≡ some b) ⊎
    ((j ≡ length l) × (a ≡ b))
at_end [] a b zero e = inr (refl, some-injective a b e)
at_end [] a b (suc j) e = absurd (some-ne-none b (sym e))
at_end (x ∷ xs) a b zero e = inl e
at_end (x ∷ xs) a b (suc j) e = ⊎_elim (λ t. inl t) (λ (t : (j ≡ length xs) × (a ≡ b)). inr (ap suc t.0, t.1))
    (at_end xs a b j e)

seats_snoc : (sizes : Sizes) (journal : List Event) (d : ℕ) (o : ℕ → ℕ) (views : List View) (w : View)
    → ((j : ℕ) (u : View) → get_elem? views j ≡ some u → Fits sizes journal d o j u) → Fits sizes journal d o
    (length views) w
    → (j : ℕ) (u : View) → get_elem? (views ++ w ∷ []) j ≡ some u → Fits sizes journal d o j u
seats_snoc sizes journal d o views w others mine j u at =
    ⊎_elim
    (λ (x : get_elem? views j ≡ some u). others j u x)
    (λ (x : (j ≡ length views) × (w ≡ u)). subst (λ (y : ℕ × View). Fits sizes journal d o y.0 y.1)
    (λ i. (sym x.0 i, x.1 i)) mine)
    (at_end views w u j at)

-- the new seat has the same front and no number, and takes over the right to draw
pub splits : (sizes : Sizes) (id : ℕ) (v : View) → Splits (Ruled sizes) id v (stays v) (newcomer v)
splits sizes id v s h me = by_case v.draws refl
  where
    by_case : (b : Bool) → v.draws ≡ b → Ruled sizes (record {
      words = s.words;
      homes = s.homes;
      views = set s.views id
          (stays v) ++ newcomer v ∷ [];
    })
    by_case b is =
        let f = h.seats id v me in
        let long : length (set s.views id (stays v)) ≡ length s.views = length-set s.views id (stays v) in
        let d : ℕ = cond b (length s.views) h.drawer in record {
          journal = h.journal;
          drawer = d;
          owner = h.owner;
          words = h.words;
          kept = h.kept;
          seats = seats_snoc sizes h.journal d h.owner (set s.views id (stays v)) (newcomer v)
              (seats_set sizes h.journal d h.owner s.views id (stays v)
              (λ j u apart at. fits_drawer sizes h.journal h.drawer d h.owner h.owner j u (λ k e. e)
              (λ t. others b is j u apart at t) (h.seats j u at))
              record {
                front = f.front;
                met = f.met;
                draws = λ t. absurd
                    (true≢false (sym t));
                numbered = f.numbered;
                others = f.others;
                apart = f.apart;
              })
              record {
                front = f.front;
                met = record { rest = h.journal; whole = refl };
                draws = λ t. record {
                  one = long ∙ sym (ap (λ (c : Bool). cond c (length s.views) h.drawer) (sym is ∙ t));
                  drawn =
                      (f.draws t).drawn;
                };
                numbered = λ t. absurd (true≢false (sym t));
                others = tt;
                apart = λ _. tt;
              };
        }
      where
        others : (b : Bool) → v.draws ≡ b → (j : ℕ) (u : View) → j ≢ id → get_elem? s.views j ≡ some u → u.draws ≡ true
            → j ≡ cond b (length s.views) h.drawer
        others true is j u apart at t = absurd (apart (((h.seats j u at).draws t).one ∙ sym
            ((h.seats id v me).draws is).one))
        others false is j u apart at t = ((h.seats j u at).draws t).one

fits_spent : (sizes : Sizes) (journal : List Event) (d : ℕ) (o : ℕ → ℕ) (j : ℕ) → Fits sizes journal d o j spent_view
fits_spent sizes journal d o j = record {
  front = record { rest = journal; whole = refl };
  met = record
      { rest = journal; whole = refl };
  draws = λ t. absurd (true≢false (sym t));
  numbered = λ t. absurd
      (true≢false (sym t));
  others = tt;
  apart = λ _. tt;
}

-- the seat answers for the other's numbers, and takes over the right to draw where the other has it
pub joins : (sizes : Sizes) (id : ℕ) (v : View) (other : ℕ) (w : View) → v.met ≡ [] → w.met ≡ [] → Joins
    (Ruled sizes) id v other w (both_fronts v w) spent_view
joins sizes id v other w bare bare' s h me apart there = by_case w.draws refl
  where
    theirs : Fits sizes h.journal h.drawer h.owner other w
    theirs = ⊎_elim (λ (t : (other ≡ id) × (both_fronts v w ≡ w)). absurd (apart t.0))
        (λ (t : (other ≢ id) × (get_elem? s.views other ≡ some w)). h.seats other w t.1)
        (at_set s.views id other (both_fronts v w) w there)

    taken : (k : ℕ) → h.owner k ≡ other → cond (eqb (h.owner k) other) id (h.owner k) ≡ id
    taken k e = ap (λ (c : Bool). cond c id (h.owner k)) (eq-eqb (h.owner k) other e)

    kept : (k j : ℕ) → j ≢ other → h.owner k ≡ j → cond (eqb (h.owner k) other) id (h.owner k) ≡ j
    kept k j ne e = ap (λ (c : Bool). cond c id (h.owner k)) (ne_eqb (h.owner k) other (λ q. ne (sym e ∙ q))) ∙ e

    by_case : (b : Bool) → w.draws ≡ b → Ruled sizes (record {
      words = s.words;
      homes = s.homes;
      views = set
          (set s.views id (both_fronts v w)) other spent_view;
    })
    by_case b is =
        let f = h.seats id v me in
        let d : ℕ = cond b id h.drawer in
        let o : ℕ → ℕ = λ k. cond (eqb (h.owner k) other) id (h.owner k) in
        let A : ℕ × ℕ → Type 0 = IsAccount sizes h.journal o id (reach (both_fronts v w)) in
        let short : reach v ≤ reach (both_fronts v w) = omega (arith, ap length bare) in
        let short' : reach w ≤ reach (both_fronts v w) = omega (arith, ap length bare') in
        let away_id : id ≢ other = λ e. apart (sym e) in record {
          journal = h.journal;
          drawer = d;
          owner = o;
          words = h.words;
          kept = h.kept;
          seats = seats_set sizes h.journal d o (set s.views id (both_fronts v w)) other spent_view
              (λ j u away at. ⊎_elim
              (λ (x : (j ≡ id) × (both_fronts v w ≡ u)). subst (λ (y : ℕ × View). Fits sizes h.journal d o y.0 y.1)
              (λ i. (sym x.0 i, x.1 i)) record {
                front = f.front;
                met = theirs.front;
                draws = mine b is;
                numbered = λ t. account_far sizes h.journal h.owner o id id (length v.front) (length v.front)
                    (v.number, v.last) (kept v.number id away_id) (omega arith) (f.numbered t);
                others = every_append A v.others (own_account w ++ w.others)
                    (every_map (IsAccount sizes h.journal h.owner id (reach v)) A
                    (λ a c. account_far sizes h.journal h.owner o id id (reach v) (reach (both_fronts v w)) a
                    (kept a.0 id away_id) short c) v.others f.others)
                    (every_append A (own_account w) w.others (owned w.numbered refl short')
                    (every_map (IsAccount sizes h.journal h.owner other (reach w)) A
                    (λ a c. account_far sizes h.journal h.owner o other id (reach w) (reach (both_fronts v w)) a
                    (taken a.0) short' c) w.others theirs.others));
                apart = λ t. let n = f.numbered t in every_append (λ (a : ℕ × ℕ). a.0 ≢ v.number) v.others
                    (own_account w ++ w.others) (f.apart t)
                    (every_append (λ (a : ℕ × ℕ). a.0 ≢ v.number) (own_account w) w.others
                    (strange w.numbered refl n.own)
                    (every_map (IsAccount sizes h.journal h.owner other (reach w)) (λ (a : ℕ × ℕ). a.0 ≢ v.number)
                    (λ a c same. apart (sym c.own ∙ (ap h.owner same ∙ n.own))) w.others theirs.others));
              })
              (λ (x : (j ≢ id) × (get_elem? s.views j ≡ some u)). fits_drawer sizes h.journal h.drawer d h.owner o j u
              (λ k e. kept k j away e) (λ t. rest_of b is j u away x.1 t) (h.seats j u x.1))
              (at_set s.views id j (both_fronts v w) u at))
              (fits_spent sizes h.journal d o other);
        }
      where
        mine : (b : Bool) → w.draws ≡ b → (both_fronts v w).draws ≡ true → IsDrawer sizes h.journal
            (cond b id h.drawer) id (both_fronts v w)
        mine true is t = record {
          one = refl;
          drawn = ap (λ (c : Bool). cond c w.drawn v.drawn) is ∙
              (theirs.draws is).drawn;
        }
        mine false is t = let g = (h.seats id v me).draws (sym (ap (λ (c : Bool). cond c true v.draws) is) ∙ t) in
            record { one = g.one; drawn = ap (λ (c : Bool). cond c w.drawn v.drawn) is ∙ g.drawn }

        rest_of : (b : Bool) → w.draws ≡ b → (j : ℕ) (u : View) → j ≢ other → get_elem? s.views j ≡ some u
            → u.draws ≡ true → j ≡ cond b id h.drawer
        rest_of true is j u away at t = absurd (away (((h.seats j u at).draws t).one ∙ sym (theirs.draws is).one))
        rest_of false is j u away at t = ((h.seats j u at).draws t).one

        owned : (c : Bool) → w.numbered ≡ c → reach w ≤ reach (both_fronts v w) → Every
            (IsAccount sizes h.journal (λ k. cond (eqb (h.owner k) other) id (h.owner k)) id (reach (both_fronts v w)))
            (cond c ((w.number, w.last) ∷ []) [])
        owned true has near = (
          account_far sizes h.journal h.owner
              (λ k. cond (eqb (h.owner k) other) id (h.owner k)) other id (length w.front) (reach (both_fronts v w))
              (w.number, w.last) (taken w.number) (omega (arith, near)) (theirs.numbered has),
          tt,
        )
        owned false has near = tt

        strange : (c : Bool) → w.numbered ≡ c → h.owner v.number ≡ id → Every (λ (a : ℕ × ℕ). a.0 ≢ v.number)
            (cond c ((w.number, w.last) ∷ []) [])
        strange true has own = let n = theirs.numbered has in
            ((λ same. apart (sym n.own ∙ (ap h.owner same ∙ own))), tt)
        strange false has own = tt
