use Rattle.std.proofs.Common.{rules, ◌≡◌, ◌⊎◌, ◌+◌, ◌≤◌, inl, inr, ap, sym, ◌∙◌, arith}
use Rattle.packed_link.specs.Layout.{Sizes, announce_at, epoch_at}
use Rattle.epoch_limbo.proofs.EpochSeen.{checks_more, held_by, may_move, is_moved, advance_lost}
use Rattle.epoch_limbo.proofs.advancing.advance.Goals.{else-word-ne0-via-then-word-ne0+else-word-epoch}
use Rattle.epoch_limbo.proofs.advancing.advance.Goals.{else-word-ne0-via-else-word-ne0}
use Rattle.epoch_limbo.proofs.advancing.advance.Goals as goal

pub returns-then-word-epoch-clause-advanced : goal.returns-then-word-epoch-clause-advanced
returns-then-word-epoch-clause-advanced c =
    let v = c.args.token.now.view in
    let i = c.loop-caller.invariant in
    let sizes : c.layout-layout.result ≡ v.sizes = c.layout-layout.ensures.sizes ∙ sym c.requires.table.sizes in
    let callers : c.callers-callers.result ≡ v.sizes.callers = c.callers-callers.ensures.callers ∙ ap
    (λ (s : Sizes). s.callers) sizes in
    let at : c.announce_at.result ≡ announce_at v.sizes c.loop-caller.caller = c.announce_at.ensures.place ∙ ap
    (λ (s : Sizes). announce_at s c.loop-caller.caller) sizes in
    held_by c.args.table.now v c.load-epoch.result c.of-first.result.value.view.front c.loop-caller.caller
    c.loop-caller.token c.requires.number i.checked c.load-word.new.token c.announce_at.result c.load-word.result
    c.load-word.ensures.table c.load-word.ensures.looked at
    (omega (arith, callers, c.loop-caller-test.true)) (λ none. omega (arith, none, c.if-word-ne0.true))
    c.if-word-epoch.true

pub loop-caller-preserved : goal.loop-caller-preserved
loop-caller-preserved c =
    let v = c.args.token.now.view in
    let i = c.loop-caller.invariant in
    let sizes : c.layout-layout.result ≡ v.sizes = c.layout-layout.ensures.sizes ∙ sym c.requires.table.sizes in
    let at : c.announce_at.result ≡ announce_at v.sizes c.loop-caller.caller = c.announce_at.ensures.place ∙ ap
    (λ (s : Sizes). announce_at s c.loop-caller.caller) sizes in
    let clear : (c.load-word.result ≡ 0) ⊎ (c.load-epoch.result + 1 ≤ c.load-word.result) =
    elim c.else-word-ne0.branch [
      | else-word-ne0-via-then-word-ne0+else-word-epoch w ↦ inr (omega (arith, w.if-word-epoch.false))
      | else-word-ne0-via-else-word-ne0 w ↦ inl (omega (arith, w.if-word-ne0.false))
    ] in
    record {
      checked = checks_more c.args.table.now v c.load-epoch.result c.of-first.result.value.view.front
          c.loop-caller.caller c.loop-caller.token c.requires.number i.checked c.load-word.new.token
          c.announce_at.result c.load-word.result c.load-word.ensures.table c.load-word.ensures.looked at clear;
      low = search rules;
    }

pub move_epoch-requires-clause-may : goal.move_epoch-requires-clause-may
move_epoch-requires-clause-may c =
    let v = c.args.token.now.view in
    let i = c.loop-caller.invariant in
    let callers : c.callers-callers.result ≡ v.sizes.callers = c.callers-callers.ensures.callers ∙ ap
    (λ (s : Sizes). s.callers) (c.layout-layout.ensures.sizes ∙ sym c.requires.table.sizes) in
    may_move c.args.table.now v c.load-epoch.result c.of-first.result.value.view.front c.loop-caller.caller
    c.loop-caller.token c.requires.number i.checked (omega (arith, callers, c.loop-caller-test.false))
    c.requires.there c.requires.closed c.requires.limit

pub returns-in-Won-clause-advanced : goal.returns-in-Won-clause-advanced
returns-in-Won-clause-advanced c =
    let v = c.args.token.now.view in
    let i = c.loop-caller.invariant in
    let callers : c.callers-callers.result ≡ v.sizes.callers = c.callers-callers.ensures.callers ∙ ap
    (λ (s : Sizes). s.callers) (c.layout-layout.ensures.sizes ∙ sym c.requires.table.sizes) in
    is_moved c.args.table.now v c.load-epoch.result c.of-first.result.value.view.front c.loop-caller.caller
    c.loop-caller.token c.requires.number i.checked (omega (arith, callers, c.loop-caller-test.false))
    c.move_epoch.new.token.view _ c.in-Won.ensures.tried

pub returns-clause-advanced : goal.returns-clause-advanced
returns-clause-advanced c =
    let v = c.args.token.now.view in
    let i = c.loop-caller.invariant in
    let callers : c.callers-callers.result ≡ v.sizes.callers = c.callers-callers.ensures.callers ∙ ap
    (λ (s : Sizes). s.callers) (c.layout-layout.ensures.sizes ∙ sym c.requires.table.sizes) in
    advance_lost c.args.table.now v c.load-epoch.result c.of-first.result.value.view.front c.loop-caller.caller
    c.loop-caller.token c.requires.number i.checked (omega (arith, callers, c.loop-caller-test.false))
    c.move_epoch.new.token.view _ _ (ap epoch_at (sym c.requires.table.sizes)) c.in-Lost.ensures.tried
