use Rattle.press_order.proofs.+place.Given as goal

abbrev pub decreases-place : goal.decreases-place
decreases-place l = l.n.0
