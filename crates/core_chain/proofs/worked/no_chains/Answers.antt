-- Each breaks one part of what makes a chain.
use Rattle.std.proofs.Common.{◌≡◌, refl, arith, inl}
use Rattle.std.proofs.lemmas.Bool.{false≢true}
use Rattle.core_chain.specs.Chain.{Head, Next}
use Rattle.core_chain.proofs.worked.no_chains.Goals as goal

pub returns-clause-falling : goal.returns-clause-falling
returns-clause-falling c = λ chain. let rises = (chain.leads (Next 2) refl (λ e. omega arith)).1 in omega arith

pub returns-clause-lost : goal.returns-clause-lost
returns-clause-lost c = λ chain. chain.last Head (Next 7) tt refl (inl (omega arith)) refl

pub returns-clause-astray : goal.returns-clause-astray
returns-clause-astray c = λ chain. false≢true (chain.leads (Next 4) refl (λ e. omega arith)).0

pub returns-clause-doubled : goal.returns-clause-doubled
returns-clause-doubled c = λ chain. let one : Next 7 ≡ Next 4 = chain.alone (Next 7) (Next 4) refl refl refl refl in cc
