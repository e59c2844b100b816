-- `net::State::path` meets its contract, by recursion on the degree: half a floor is as low, and a path of n digits is
-- below 4^n. Assumes nothing.
use Rattle.net.proofs.State.+path.Given as goal

abbrev pub decreases-path : goal.decreases-path
decreases-path l = l.n
