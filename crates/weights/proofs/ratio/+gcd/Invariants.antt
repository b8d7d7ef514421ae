use Rattle.weights.proofs.ratio.+gcd.Given as goal

-- each step makes the second number smaller
abbrev pub decreases-gcd : goal.decreases-gcd
decreases-gcd l = l.b
