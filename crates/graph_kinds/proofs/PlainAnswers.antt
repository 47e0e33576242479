-- What a graph answers is never Overtaken, Full, Again or Worn.
use Rattle.std.proofs.Common.{◌≢◌, subst}
use Rattle.graph_kinds.specs.Graph.{Graph}
use Rattle.graph_kinds.specs.Answer.{answer}
use Rattle.graph_kinds.specs.declared.call.Call.{Call}
use Rattle.graph_kinds.specs.declared.outcome.Outcome.TheVariants.{Overtaken, Full, Again, Worn}
use Rattle.graph_kinds.proofs.Calls.{IsPlain, answer-plain}

module _ (g : Graph) (c : Call) where
  pub not_overtaken : (answer g c).outcome ≢ Overtaken
  not_overtaken is = subst IsPlain is (answer-plain g c)

  pub not_full : (answer g c).outcome ≢ Full
  not_full is = subst IsPlain is (answer-plain g c)

  pub not_again : (answer g c).outcome ≢ Again
  not_again is = subst IsPlain is (answer-plain g c)

  pub not_worn : (answer g c).outcome ≢ Worn
  not_worn is = subst IsPlain is (answer-plain g c)
