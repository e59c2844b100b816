-- The examples and bounds of specs/Examples.antt, computed. Assumes nothing.
use mathlib.Core.Path.{refl}
use Rattle.octets.specs.Bytes.{bytes, read_each}
use Rattle.table_files.specs.Files.{reading_of, owner_of}
use Rattle.table_files.specs.Examples.{Examples, Bounds}

pub examples : Examples
unfolding bytes read_each reading_of owner_of
examples = record {
  written = refl;
  degree = refl;
  readings = refl;
  owners = refl;
  fresh = refl;
  long = refl;
}

pub bounds : Bounds
unfolding reading_of owner_of
bounds = record {
  reading_0 = refl;
  reading_most = refl;
  reading_above = refl;
  reading_none = refl;
  reading_below = refl;
  reading_32 = refl;
  reading_33 = refl;
  word_none = refl;
  word_most = refl;
  owner_most = refl;
  owner_above = refl;
  owner_8 = refl;
}
