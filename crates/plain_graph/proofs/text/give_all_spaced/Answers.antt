use Rattle.std.proofs.Common.{◌∷◌}
use Rattle.std.specs.Fmt.{decimal}
use Rattle.std.specs.BTreeMap.{keys}
use Rattle.op_text.specs.Text.{spaced}
use Rattle.plain_graph.proofs.Texts.{front-more, front-stop}
use Rattle.plain_graph.proofs.text.give_all_spaced.Goals as goal

pub loop-key-preserved : goal.loop-key-preserved
loop-key-preserved g c =
    front-more (32 ∷ decimal c.in-Some.key.now) (spaced c.next.new.self) (spaced (keys c.args.vertices.now))
    (rw c.in-Some.ensures.steps at c.loop-key.invariant) c.in_ok-give_spaced.ensures

pub returns-in_err-give_spaced : goal.returns-in_err-give_spaced
returns-in_err-give_spaced g c =
    front-stop (32 ∷ decimal c.in-Some.key.now) (spaced c.next.new.self) (spaced (keys c.args.vertices.now))
    (rw c.in-Some.ensures.steps at c.loop-key.invariant)
    c.from_residual.ensures.0 c.in_err-give_spaced.ensures
