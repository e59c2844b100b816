-- What a host has of the two calls, as specs/Promises.antt says. (That each has one answer: OneAnswers.) Assumes
-- nothing.
use Rattle.host_cells.specs.Promises.{AsTheCells}
use Rattle.host_cells.proofs.Hosting.{hosted_check, hosted_mend}

pub as_the_cells : AsTheCells
as_the_cells = record { check = hosted_check; mend = hosted_mend }
