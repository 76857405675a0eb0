use Rattle.chains.proofs.+ends.Given as goal

abbrev pub decreases-ends : goal.decreases-ends
decreases-ends l = l.left
