-- Each part leaves fewer places. Assumes nothing.
use Rattle.talk.proofs.Going.{parts}
use Rattle.talk.proofs.Talk.put_rest.Given as goal

abbrev pub decreases-loop-rest : goal.decreases-loop-rest
decreases-loop-rest g l = parts l.rest
