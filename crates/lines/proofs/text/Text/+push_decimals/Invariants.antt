use Rattle.lines.proofs.text.Text.+push_decimals.Given as goal

abbrev pub decreases-push_decimals : goal.decreases-push_decimals
decreases-push_decimals g l = l.k
