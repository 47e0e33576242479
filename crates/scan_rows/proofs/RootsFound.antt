-- A vertex that a walk came to may be a root, and a part that is recorded from it may be verified.
use Rattle.std.proofs.Common.{◌≡◌, ℕ, true, [], List, Some, length, sym, ap, ◌∙◌, arith}
use Rattle.packed_link.specs.Layout.{Sizes}
use Rattle.core_journal.specs.declared.event.Event.{Event}
use Rattle.core_journal.specs.GraphOf.{present_key}
use Rattle.core_journal.specs.Prefix.{IsPrefix}
use Rattle.core_journal.specs.State.{Pass}
use Rattle.core_journal.proofs.Lists.{prefix_length, prefix_trans}
use Rattle.core_journal.proofs.LivesOf.{present_is}
use Rattle.core_kept.proofs.OwnFacts.{pass_stays}
use Rattle.core_rule.specs.Fronts.{key_in}
use Rattle.core_rule.specs.Stretches.{HasPass}
use Rattle.core_rule.specs.declared.view.View.{View}
use Rattle.core_rule.proofs.OwnStretch.{goes_opened}
use Rattle.core_rule.proofs.ViewShows.{key_shown}
use Rattle.core_scans.specs.Seen.{OnlyLooks}
use Rattle.core_scans.proofs.FrontsKeepLives.{key_on, some_is}
use Rattle.core_scans.proofs.OnlyLooking.{looks_by_view, looks_until}
use Rattle.core_stretches.specs.Makes.{Makes}
use Rattle.core_stretches.proofs.MakesTell.{makes_goes}
use Rattle.graph_table.specs.Tokens.{TableValue, TokenValue, IsOf}
use Rattle.tree_scan.proofs.EdgesRecorded.{looks_later}
use Rattle.vertex_calls.specs.Causes.{IsWalked}
use Rattle.vertex_list.specs.declared.walks.Found.TheVariants.{Here}
use Rattle.vertex_list.specs.declared.walks.Sighting.{Sighting}
use Rattle.scan_rows.specs.Looks.{IsFoundSince}

-- who only looked since a moment only looked since a later one
pub looks_since : (sizes : Sizes) (caller : ℕ) (a b j : List Event) → OnlyLooks sizes caller a j → IsPrefix a b
    → IsPrefix b j → OnlyLooks sizes caller b j
looks_since sizes caller a b j looks p q =
    let then = looks_until sizes caller a b j looks q in
    let pass = pass_stays sizes caller (length a) a b p then.kept then.quiet (omega arith) in
    record {
      kept = looks.kept;
      opened = ap (λ (x : Pass). x.is_open) pass ∙ looks.opened;
      quiet = record { none = λ k e far at. looks.quiet.none k e (omega (arith, prefix_length a b p, far)) at };
    }

pub root_found : (g : TableValue) (t u : TokenValue) (key : ℕ) (s : Sighting) → IsOf g t → IsOf g u
    → t.view.numbered ≡ true → HasPass t.view → Makes t.view [] u.view → IsWalked key (Here s) t.view u.view
    → IsFoundSince key t.view u.view s.life
root_found g t u key s of of' has opened made h =
    let f = h.found in
    let start = s.moment.value.view.front in
    let since : IsPrefix t.view.front start = prefix_trans t.view.front h.from.moment start h.since f.there.since in
    let present : present_key start s.life ≡ Some key = f.there.holds.there ∙ ap Some h.key_is in
    let looks = looks_later t.view u.view t.view.front made
    (looks_by_view t.view of.sound has t.view.front (of.sound.old has) opened) in
    let linked = key_on start u.view.front f.there.until s.life key (present_is start s.life key present).1 in
    record {
      start = start;
      since = since;
      found = record {
        front = f.there.until;
        present = present;
        met = f.met;
        key_is = some_is (key_in u.view s.life.index) key
            (sym (key_shown u.view of'.layout of'.sound.kept s.life f.met) ∙ linked);
        looks = looks_since u.view.sizes u.view.number t.view.front start u.view.front looks since f.there.until;
      };
    }

-- a token that made no event is in its open pass still
pub pass_on : (v w : View) → Makes v [] w → HasPass v → HasPass w
pass_on v w made opened = goes_opened v w (makes_goes v w [] tt made) opened
