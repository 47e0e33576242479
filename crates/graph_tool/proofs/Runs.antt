-- What is written for rows is what their command asks.
use Rattle.std.proofs.Common.{◌≡◌, ℕ, ◌<◌, List, [], ◌∷◌, length, take, get_or, refl, sym, subst, arith}
use Rattle.std.proofs.Math.Seq.{take-length}
use Rattle.std.specs.Prelude.{Option, Some, None, IfSome, IfOk, Ok, Err, Result, zero, suc}
use Rattle.std.specs.Prelude.{All}
use Rattle.graph_kinds.specs.declared.call.Call.{Call}
use Rattle.graph_kinds.specs.declared.call.Row.{Row}
use Rattle.graph_kinds.specs.declared.answer.Answer.{Answer}
use Rattle.graph_kinds.specs.Graph.{Graph, empty_graph}
use Rattle.graph_kinds.specs.Answer.{after, answers, after_all}
use Rattle.graph_kinds.specs.History.{answered, calls_of}
use Rattle.graph_kinds.specs.Stream.{Puts, PutsSome, TakesMore}
use Rattle.graph_kinds.proofs.Calls.{replay_legal, length-answers}
use Rattle.op_text.specs.Text.{IsWritable, text}
use Rattle.op_text.specs.Rows.{rows}
use Rattle.op_text.proofs.Shown.{answer-shown}
use Rattle.std.specs.declared.string.String.{String}
use Rattle.std.proofs.Common.{Global}
use Rattle.op_text.specs.Pieces.{IsFirstPart, behind}
use Rattle.op_text.proofs.TextPieces.{first-part}
use Rattle.graph_tool.specs.Status.{IfWriteFault}
use Rattle.graph_tool.specs.Command.{command_of}
use Rattle.graph_tool.specs.Input.{TakesAtMost, most_bytes}
use Rattle.graph_tool.specs.Run.{Asks, RunsAlone, Writes, replayed, callers}
use Rattle.graph_tool.specs.declared.status.Status.{Status}
use Rattle.graph_tool.specs.declared.status.Status.TheVariants.{Done, Usage, BadRow, ReadFault, WriteFault, Memory}
use Rattle.graph_tool.specs.declared.status.UsageCause.TheVariants.{InputTooLong}
use Rattle.graph_tool.specs.declared.command.Command.{Command}
use Rattle.graph_tool.specs.declared.command.Command.TheVariants.{Run, Replay}
use Rattle.graph_tool.proofs.Inputs.{too_many}

shown_at : (g : Graph) (cs : List Call) (k : ℕ) (d : Answer) → k < length (answers g cs) → IsWritable
    (get_or (answers g cs) k d).outcome (get_or (answers g cs) k d).keys (get_or (answers g cs) k d).ends
shown_at g [] k d h = absurd (omega arith)
shown_at g (c ∷ cs) zero d h = answer-shown g c
shown_at g (c ∷ cs) (suc k) d h = shown_at (after g c) cs k d (omega arith)

-- answers of calls can be written
pub all_shown : (asked : List Row) (replies : List Answer) → replies ≡ answers empty_graph (calls_of asked) → All
    (λ (a : Answer). IsWritable a.outcome a.keys a.ends) replies
all_shown asked replies is = subst (λ (xs : List Answer). All (λ (a : Answer). IsWritable a.outcome a.keys a.ends) xs)
    (sym is) (shown_at empty_graph (calls_of asked))

-- the text of the rows in input order is what either command writes
pub writes : (command : Command) (asked : List Row) → Writes command asked (replayed asked)
writes Run asked = record {
  replies = answers empty_graph (calls_of asked);
  graph = after_all empty_graph (calls_of asked);
  history = answered asked (answers empty_graph (calls_of asked));
  text_is = refl;
  interleaving = record { one_each = length-answers empty_graph asked; in_order = λ caller. refl };
  legal = record { steps = replay_legal empty_graph asked };
}
writes Replay asked = refl

-- the text of the rows in input order is what was written for either command
pub replays : (command : Command) (asked : List Row) (replies : List Answer) (graph : Graph)
    → replies ≡ answers empty_graph (calls_of asked) → graph ≡ after_all empty_graph (calls_of asked)
    → Writes command asked (text replies graph)
replays command asked replies graph replies_are graph_is =
    subst (λ (t : List ℕ). Writes command asked t) (sym (λ i. text (replies_are i) (graph_is i)))
    (writes command asked)

-- what follows from two facts of a result, where it has one
pub if_both : {A E : Type 0} (P Q R : A → Type 0) (r : Result A E) → IfOk r P → IfOk r Q → ((a : A) → P a → Q a → R a)
    → IfOk r R
if_both P Q R (Ok a) p q f = f a p q
if_both P Q R (Err e) p q f = tt

-- what is written for the rows of the bytes is what the words ask
pub asks : (words : List (String Global)) (bytes written : List ℕ) (command : Command) (asked : List Row)
    → command_of words ≡ Ok command → rows callers bytes ≡ Ok asked → Writes command asked written
    → Asks words bytes written
asks words bytes written command asked accepted read written_is = record {
  command = command;
  accepted = accepted;
  asked = asked;
  read = read;
  text_is = written_is;
}

-- where at most the limit was taken, not more was
pub not_too_long : (old new : Option (List ℕ)) (P : Type 0) → TakesAtMost old new most_bytes → IfSome old
    (λ bytes. TakesMore (Some bytes) new most_bytes → P)
not_too_long None new P few = tt
not_too_long (Some old) new P few = λ many. absurd (too_many old new many few)

-- what holds of the bytes that are told, where another fact of them does
pub if_told : (P Q : List ℕ → Type 0) (old : Option (List ℕ)) → IfSome old P → ((bytes : List ℕ) → P bytes → Q bytes)
    → IfSome old Q
if_told P Q None p f = tt
if_told P Q (Some bytes) p f = f bytes p

-- where all was put, a first part was
pub puts_all : (old mid new : Option (List ℕ)) (bytes : List ℕ) → Puts old mid bytes → new ≡ mid
    → PutsSome old new bytes
puts_all old mid new bytes put same = (
  length bytes,
  omega arith,
  subst
      (λ (o : Option (List ℕ)). Puts old o (take (length bytes) bytes)) (sym same)
      (subst (Puts old mid) (sym (take-length bytes)) put),
)

-- what two results are that are one
ok-same : {A E : Type 0} (a b : A) → (r : Result A E) → r ≡ Ok a → r ≡ Ok b → a ≡ b
ok-same a b r is was = cc

-- what was put for rows that are answered in input order
pub puts_alone : (words : List (String Global)) (bytes : List ℕ) (old new : Option (List ℕ)) (command : Command)
    (asked : List Row) (written : List ℕ) → command_of words ≡ Ok command → rows callers bytes ≡ Ok asked
    → (RunsAlone command asked → written ≡ replayed asked) → Puts old new written
    → (command' : Command) (asked' : List Row) → command_of words ≡ Ok command' → rows callers bytes ≡ Ok asked'
    → RunsAlone command' asked' → Puts old new (replayed asked')
puts_alone words bytes old new command asked written accepted read alone put command' asked' accepted' read' alone' =
    let one : command' ≡ command = ok-same command' command (command_of words) accepted' accepted in
    let same : asked' ≡ asked = ok-same asked' asked (rows callers bytes) read' read in
    subst (λ (xs : List Row). Puts old new (replayed xs)) (sym same)
    (subst (Puts old new) (alone (subst (λ (k : Command). RunsAlone k asked) one
    (subst (λ (xs : List Row). RunsAlone command' xs) same alone'))) put)

-- where a longer input can't end Done, it can't end otherwise behind it
pub never_done : (old : Option (List ℕ)) (P : Type 0) (s : Status) (n : ℕ) → IfSome old
    (λ bytes. n < length bytes → P → Done ≡ Usage InputTooLong) → IfSome old
    (λ bytes. n < length bytes → P → s ≡ Usage InputTooLong)
never_done None P s n h = tt
never_done (Some bytes) P s n h = λ longer p. absurd (let e : Done ≡ Usage InputTooLong = h longer p in cc)

-- what the sink behind has after a write fault, by what was given
pub fault_behind : (s : Status) (rest old taken : Option (List ℕ)) (held : List ℕ) (A : List ℕ → List ℕ → Type 0)
    → IfWriteFault s (IfSome rest (λ bytes. (written : List ℕ) × A bytes written × PutsSome old
    (behind taken held) written))
    → IfWriteFault s (IfSome rest (λ bytes. (written : List ℕ) × A bytes written × IsFirstPart old taken written))
fault_behind WriteFault rest old taken held A h =
    if_told (λ bytes. (written : List ℕ) × A bytes written × PutsSome old (behind taken held) written) _ rest h
    (λ bytes d. (d.0, d.1, first-part taken old held d.0 d.2))
fault_behind Done rest old taken held A h = tt
fault_behind (Usage cause) rest old taken held A h = tt
fault_behind (BadRow row cause) rest old taken held A h = tt
fault_behind ReadFault rest old taken held A h = tt
fault_behind Memory rest old taken held A h = tt
