-- `shares::walks::in_corner` meets its contract, a case for each corner. Assumes nothing.
use native.Mathlib.Omega.{arith}
use Rattle.shares.specs.Means.Paths.{in_child}
use Rattle.shares.proofs.CornerFloors.{half_there, child_there}
use Rattle.shares.proofs.walks.in_corner.Goals as goal

pub overflow_sub-result : goal.overflow_sub-result
overflow_sub-result c =
    let a = c.args in
    half_there a.h a.k 1 a.f c.in-1.is c.requires.2

pub overflow_sub-result-in-2 : goal.overflow_sub-result-in-2
overflow_sub-result-in-2 c =
    let a = c.args in
    half_there a.h a.k 2 a.f c.in-2.is c.requires.2

pub overflow_sub-result-in_default : goal.overflow_sub-result-in_default
overflow_sub-result-in_default c =
    let a = c.args in
    half_there a.h a.k 3 a.f (omega arith) c.requires.2

pub returns-in-1 : goal.returns-in-1
unfolding in_child
returns-in-1 c G =
    let a = c.args in child_there a.h a.k 1 a.f c.in-1.is G

pub returns-in-2 : goal.returns-in-2
unfolding in_child
returns-in-2 c G =
    let a = c.args in child_there a.h a.k 2 a.f c.in-2.is G

pub returns-in_default : goal.returns-in_default
unfolding in_child
returns-in_default c G = let a = c.args in child_there a.h a.k 3 a.f (omega arith) G
