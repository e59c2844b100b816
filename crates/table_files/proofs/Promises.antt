-- The promises of specs/Promises.antt. Assumes nothing.
use Rattle.table_files.specs.Promises.{ThereAndBack, JustThat, Checked}
use Rattle.table_files.proofs.GoodNumbers.{reading_just, owner_just, reading_stays, owner_stays}
use Rattle.table_files.proofs.WholeFiles.{degree_back, readings_back, owners_back, file_long, file_just}
use Rattle.table_files.proofs.Refused.{table_passed, place_least, place_none}

pub there_and_back : ThereAndBack
there_and_back = record {
  degree = degree_back;
  readings = readings_back;
  owners = owners_back;
  long = file_long;
}

pub just_that : JustThat
just_that = record {
  reading = reading_just;
  owner = owner_just;
  bad_reading = reading_stays;
  bad_owner = owner_stays;
  file = file_just;
}

pub checked : Checked
checked = record {
  table = table_passed;
  place = place_least;
  alone = place_none;
}
