use Rattle.lines.proofs.text.Text.+push_places.Given as goal

abbrev pub decreases-push_places : goal.decreases-push_places
decreases-push_places g l = l.k
