-- `shares::weaving::path` meets its contract. Assumes nothing.
use lib.Pow.{pow_pos}
use Rattle.shares.proofs.Spreading.{low_small, high_small, first_24, path_24}
use Rattle.shares.proofs.weaving.path.Goals as goal

pub nonzero_div-all : goal.nonzero_div-all
nonzero_div-all c = rw c.power-part.ensures (pow_pos _)

pub nonzero_div-all-2 : goal.nonzero_div-all-2
nonzero_div-all-2 c = rw c.power-part.ensures (pow_pos _)

pub descend-requires : goal.descend-requires
descend-requires c =
    let a = c.args in
    let h = c.requires in
    let b = c.bits_of-all.ensures in
    let low = first_24 a.n h.0 _ (low_small 24 a.f) in
    let high = first_24 a.n h.0 _ (high_small 24 a.f) in
    rw (c.power-part.ensures, b.0, b.1) (h.0, low, high, pow_pos _)

pub returns : goal.returns
returns c =
    let a = c.args in
    let h = c.requires in
    let b = c.bits_of-all.ensures in
    let p = c.power-part.ensures in
    rw (c.descend.ensures, p, b.0, b.1) (path_24 a.n h.0 a.f)
