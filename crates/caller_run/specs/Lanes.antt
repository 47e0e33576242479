-- Lanes, and what one call and one turn do to a port.
use Rattle.std.specs.Prelude.{◌≡◌, ◌≢◌, ℕ, ◌+◌, ◌<◌, ◌≤◌, false, List}
use Rattle.graph_kinds.specs.declared.answer.Answer.{Answer}
use Rattle.graph_kinds.specs.declared.call.Call.{Call}
use Rattle.graph_kinds.specs.declared.entry.Entry.{Entry}
use Rattle.graph_kinds.specs.declared.outcome.Outcome.TheVariants.{Worn}
use Rattle.graph_kinds.specs.Answer.{plain}
use Rattle.graph_kinds.specs.Port.{GainsEntry}
use Rattle.caller_run.specs.Asked.{HasAnsweredAll, HasAnsweredSome}
use Rattle.caller_run.specs.declared.lane.Lane.{Lane}

-- the port of a lane
abbrev pub port_of : {P : Type 0} → Lane P → P
port_of lane = lane.port

module _ {X : Type 0} (book : X → List Entry) (left front : X → ℕ) where
  -- a port has given this answer to one call: it had no use left and stays as it was, or has entered the call
  pub record HasAnsweredOne (old new : X) (call : Call) (tries : ℕ) (reply : Answer) : Type 0 where
    pub later : front old ≤ front new
    pub worn : left old ≡ 0 → (reply ≡ plain Worn) × (book new ≡ book old) × (left new ≡ 0)
    pub in_time : 0 < left old → (reply.outcome ≢ Worn) × (left new + 1 ≡ left old)
    pub entered : 0 < left old → GainsEntry (book old) (book new) call tries reply (front old) (front new)

  -- a lane's port has answered the lane's calls, and the lane keeps the answers; or memory ran out, and it is short
  pub record HasTakenTurn (old new : Lane X) (tries : ℕ) : Type 0 where
    pub some : HasAnsweredSome book left front old.port new.port tries old.calls.items
    pub all : new.short ≡ false
        → HasAnsweredAll book left front old.port new.port tries old.calls.items new.kept.items
