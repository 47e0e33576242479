-- The three laws of the places.
use Rattle.packed_link.proofs.Places.{place_of-bound, place_of-injective, place_of-onto}
use Rattle.packed_link.proofs.layout.places_differ.Goals as goal

pub returns-clause-same : goal.returns-clause-same
returns-clause-same c = place_of-injective

pub returns-clause-inside : goal.returns-clause-inside
returns-clause-inside c = place_of-bound

pub returns-clause-onto : goal.returns-clause-onto
returns-clause-onto c = place_of-onto
