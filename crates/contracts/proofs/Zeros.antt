-- Each refusal is told with zeros, by computation. Assumes nothing.
use mathlib.Core.Path.{refl}
use Rattle.frame.specs.declared.Refusal.{Refusal}
use Rattle.contracts.specs.Zeros.{Zeros}

pub zeros : (f : Refusal) → Zeros f
zeros f = record {
  code = refl;
  step = refl;
  name = refl;
  count = refl;
  place = refl;
  ticks = refl;
  point = refl;
  sweep = refl;
  mend = refl;
  small = refl;
  small_step = refl;
  edge_mark = refl;
  table = refl;
  sounding = refl;
  mark = refl;
}
