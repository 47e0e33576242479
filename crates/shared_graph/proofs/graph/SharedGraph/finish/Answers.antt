use Rattle.std.proofs.Common.{rules, ◌≡◌, List, [], ◌∷◌, ◌++◌, sym, subst}
use Rattle.graph_kinds.specs.History.{Every}
use Rattle.core_journal.proofs.Lists.{every_append}
use Rattle.graph_table.specs.Tokens.{TokenValue, TableValue, IsOf}
use Rattle.shared_graph.specs.Callers.{CallerValue, IsCallerOf}
use Rattle.shared_graph.specs.Joining.{AreClosedBy, IsJoined}
use Rattle.shared_graph.proofs.Closed.{answers_all, ended, every_last, joined_self, token_of}
use Rattle.shared_graph.proofs.graph.SharedGraph.finish.Goals as goal

pub join_all-requires-clause-table : goal.join_all-requires-clause-table
join_all-requires-clause-table c =
    let g = c.args.self in
    let all : c.args.callers.items ≡ c.pop.new.self.items ++ c.in-Some.last ∷ [] = search rules in
    let home = every_last (IsCallerOf g) c.pop.new.self.items c.in-Some.last
    (subst (λ (cs : List CallerValue). Every (IsCallerOf g) cs) all c.requires.each.home) in
    subst (λ (x : TableValue). IsOf x c.into_token-token.result) (sym c.self.view_is)
    (token_of g c.in-Some.last c.into_token-token.result home c.into_token-token.ensures.between
    c.into_token-token.ensures.token)

pub close-requires-clause-all : goal.close-requires-clause-all
close-requires-clause-all c =
    let g = c.args.self in
    let t = c.join_all.new.token in
    let of : IsOf g t = subst (λ (x : TableValue). IsOf x t) c.self.view_is c.join_all.ensures.table in
    let all : c.args.callers.items ≡ c.pop.new.self.items ++ c.in-Some.last ∷ [] = search rules in
    let one : IsJoined c.into_token-token.result.view c.in-Some.last = subst
    (λ (x : TokenValue). IsJoined x.view c.in-Some.last) (sym c.into_token-token.ensures.token)
    (joined_self c.in-Some.last c.into_token-token.ensures.between) in
    let joined : Every (IsJoined t.view) c.args.callers.items = subst
    (λ (cs : List CallerValue). Every (IsJoined t.view) cs) (sym all)
    (every_append (IsJoined t.view) c.pop.new.self.items (c.in-Some.last ∷ []) c.join_all.ensures.joined
    (c.join_all.ensures.still c.in-Some.last one, tt)) in
    answers_all g t.view c.args.callers.items of.sizes joined c.requires.each

pub returns : goal.returns
returns c =
    let g = c.args.self in
    let t = c.join_all.new.token in
    let of : IsOf g t = subst (λ (x : TableValue). IsOf x t) c.self.view_is c.join_all.ensures.table in
    let all : c.args.callers.items ≡ c.pop.new.self.items ++ c.in-Some.last ∷ [] = search rules in
    let one : IsJoined c.into_token-token.result.view c.in-Some.last = subst
    (λ (x : TokenValue). IsJoined x.view c.in-Some.last) (sym c.into_token-token.ensures.token)
    (joined_self c.in-Some.last c.into_token-token.ensures.between) in
    let joined : Every (IsJoined t.view) c.args.callers.items = subst
    (λ (cs : List CallerValue). Every (IsJoined t.view) cs) (sym all)
    (every_append (IsJoined t.view) c.pop.new.self.items (c.in-Some.last ∷ []) c.join_all.ensures.joined
    (c.join_all.ensures.still c.in-Some.last one, tt)) in
    let z : AreClosedBy g c.args.callers.items t = record {
      of = of;
      whole = c.close.ensures.whole;
      joined = joined;
    } in
    record { ended = (t, (z, ended g c.args.callers.items t c.requires.each z)) }
