-- What the functions themselves say: the `ensures` of each call is just the promise that the demands speak of, and no
-- call has a `requires`. `Asked` and `Learnt` are what the toolchain reads off a function's contract: what it asks of a
-- caller, and what a caller learns, at the arguments, the result, and the arguments as they are left. Where a call's
-- contract is emptied, or says something else, its row cannot be proved. Assumes nothing.
use Rattle.std.specs.Prelude.{◌≡◌, List, ℕ, Result}
use contract.Lifetimes.{Lfts}
use Rattle.std.specs.Borrow.{Bor, MutBor}
use Rattle.frame.specs.declared.Refusal.{Refusal}
use Rattle.frame.specs.Refusals.{told_number}
use Rattle.frame.specs.Promises.{Says}
use Rattle.words.specs.Refusals.{check_code}
use Rattle.words.specs.Family.{code_told, ParentAnswer, ChildAnswer}
use Rattle.words.specs.declared.TriangleCode.{TriangleCode}
use Rattle.words.specs.declared.CornerName.{CornerName}
use Rattle.words.proofs.TriangleCode.check.Reads as check_call
use Rattle.words.proofs.TriangleCode.parent.Reads as parent_call
use Rattle.words.proofs.TriangleCode.child.Reads as child_call
use Rattle.net.specs.Refusals.{check_name}
use Rattle.filing.specs.declared.Coordinates.{Coordinates}
use Rattle.filing.specs.declared.Direction.{Direction}
use Rattle.filing.specs.declared.Point.{Point}
use Rattle.filing.specs.declared.Ticks.{Ticks}
use Rattle.corners.specs.declared.Step.{Step}
use Rattle.corners.specs.Answers.{step_told, name_told, count_told}
use Rattle.corners.specs.Answers.{CrossAnswer, WeightsAnswer, NameWeightsAnswer, NamingAnswer, BackAnswer, RingAnswer}
use Rattle.corners.proofs.check_name.Reads as check_name_call
use Rattle.corners.proofs.cross.Reads as cross_call
use Rattle.twelves.proofs.weights_of.Reads as weights_of_call
use Rattle.twelves.proofs.weights_of_name.Reads as weights_of_name_call
use Rattle.corners.proofs.name_of.Reads as name_of_call
use Rattle.twelves.proofs.name_back.Reads as name_back_call
use Rattle.corners.proofs.ring.Reads as ring_call
use Rattle.points.specs.Answers.{place_told, ticks_told, point_told}
use Rattle.points.specs.Answers.{PlaceAnswer, NamePlaceAnswer, TickAnswer, NameTickAnswer, DrawAnswer, NameDrawAnswer}
use Rattle.points.proofs.coordinates_of.Reads as coordinates_of_call
use Rattle.points.proofs.coordinates_of_name.Reads as coordinates_of_name_call
use Rattle.points.proofs.ticks_of.Reads as ticks_of_call
use Rattle.points.proofs.ticks_of_name.Reads as ticks_of_name_call
use Rattle.points.proofs.drawn_of.Reads as drawn_of_call
use Rattle.points.proofs.drawn_of_name.Reads as drawn_of_name_call
use Rattle.directions.specs.Answers.{FileAnswer, ListAnswer}
use Rattle.directions.proofs.file.Reads as file_call
use Rattle.directions.proofs.list.Reads as list_call

-- A lent list of numbers, as a call is handed it and leaves it; `now` is what it holds. It is lent to be read, or to be
-- written.
abbrev pub Slice : Type 0
Slice = Bor (List ℕ)

abbrev pub Room : Type 0
Room = MutBor (List ℕ)

-- What a call answers that has nothing to tell but a refusal.
abbrev pub Checked : Type 0
Checked = Result (Unit {0}) Refusal

-- The calls of document 01, in the order of Demand1: at lifetimes κs, for any arguments, any result, and lists left
-- with any contents.
pub record Contracts : Type 0 where
  pub check : (κs : Lfts 0) (t : TriangleCode) (r : Checked)
      → Says (check_call.Asked κs (t, tt)) (check_call.Learnt κs (t, tt) r (t, tt)) (told_number r ≡ check_code t)
  pub check_names : (κs : Lfts 0) (q : CornerName) (r : Checked)
      → Says (check_name_call.Asked κs (q, tt)) (check_name_call.Learnt κs (q, tt) r (q, tt)) (told_number r ≡ check_name q)
  pub parent : (κs : Lfts 0) (t : TriangleCode) (r : Result TriangleCode Refusal)
      → Says (parent_call.Asked κs (t, tt)) (parent_call.Learnt κs (t, tt) r (t, tt)) (ParentAnswer t (code_told r))
  pub child : (κs : Lfts 0) (t : TriangleCode) (d : ℕ) (r : Result TriangleCode Refusal)
      → Says (child_call.Asked κs (t, (d, tt))) (child_call.Learnt κs (t, (d, tt)) r (t, (d, tt))) (ChildAnswer t d (code_told r))
  pub cross : (κs : Lfts 0) (t : TriangleCode) (k : ℕ) (r : Result Step Refusal)
      → Says (cross_call.Asked κs (t, (k, tt))) (cross_call.Learnt κs (t, (k, tt)) r (t, (k, tt))) (CrossAnswer t k (step_told r))
  pub weights : (κs : Lfts 1) (t : TriangleCode) (i : ℕ) (out new : Room) (r : Checked)
      → Says (weights_of_call.Asked κs (t, (i, (out, tt)))) (weights_of_call.Learnt κs (t, (i, (out, tt))) r (t, (i, (new, tt))))
      (WeightsAnswer t i out.now (told_number r) new.now)
  pub name_weights : (κs : Lfts 1) (q : CornerName) (out new : Room) (r : Checked)
      → Says (weights_of_name_call.Asked κs (q, (out, tt))) (weights_of_name_call.Learnt κs (q, (out, tt)) r (q, (new, tt)))
      (NameWeightsAnswer q out.now (told_number r) new.now)
  pub coordinates : (κs : Lfts 0) (t : TriangleCode) (i : ℕ) (r : Result Coordinates Refusal)
      → Says (coordinates_of_call.Asked κs (t, (i, tt))) (coordinates_of_call.Learnt κs (t, (i, tt)) r (t, (i, tt)))
      (PlaceAnswer t i (place_told r))
  pub name_coordinates : (κs : Lfts 0) (q : CornerName) (r : Result Coordinates Refusal)
      → Says (coordinates_of_name_call.Asked κs (q, tt)) (coordinates_of_name_call.Learnt κs (q, tt) r (q, tt))
      (NamePlaceAnswer q (place_told r))
  pub ticks : (κs : Lfts 0) (t : TriangleCode) (i : ℕ) (r : Result Ticks Refusal)
      → Says (ticks_of_call.Asked κs (t, (i, tt))) (ticks_of_call.Learnt κs (t, (i, tt)) r (t, (i, tt))) (TickAnswer t i (ticks_told r))
  pub name_ticks : (κs : Lfts 0) (q : CornerName) (r : Result Ticks Refusal)
      → Says (ticks_of_name_call.Asked κs (q, tt)) (ticks_of_name_call.Learnt κs (q, tt) r (q, tt)) (NameTickAnswer q (ticks_told r))
  pub drawn : (κs : Lfts 0) (t : TriangleCode) (i : ℕ) (r : Result Point Refusal)
      → Says (drawn_of_call.Asked κs (t, (i, tt))) (drawn_of_call.Learnt κs (t, (i, tt)) r (t, (i, tt))) (DrawAnswer t i (point_told r))
  pub name_drawn : (κs : Lfts 0) (q : CornerName) (r : Result Point Refusal)
      → Says (drawn_of_name_call.Asked κs (q, tt)) (drawn_of_name_call.Learnt κs (q, tt) r (q, tt)) (NameDrawAnswer q (point_told r))
  pub naming : (κs : Lfts 0) (t : TriangleCode) (i : ℕ) (r : Result CornerName Refusal)
      → Says (name_of_call.Asked κs (t, (i, tt))) (name_of_call.Learnt κs (t, (i, tt)) r (t, (i, tt))) (NamingAnswer t i (name_told r))
  pub back : (κs : Lfts 1) (n : ℕ) (weights new : Slice) (r : Result CornerName Refusal)
      → Says (name_back_call.Asked κs (n, (weights, tt))) (name_back_call.Learnt κs (n, (weights, tt)) r (n, (new, tt)))
      (BackAnswer n weights.now (name_told r))
  pub ring : (κs : Lfts 1) (q : CornerName) (out new : Room) (r : Result ℕ Refusal)
      → Says (ring_call.Asked κs (q, (out, tt))) (ring_call.Learnt κs (q, (out, tt)) r (q, (new, tt)))
      (RingAnswer q out.now (count_told r) new.now)
  pub file : (κs : Lfts 0) (n : ℕ) (d : Direction) (r : Result TriangleCode Refusal)
      → Says (file_call.Asked κs (n, (d, tt))) (file_call.Learnt κs (n, (d, tt)) r (n, (d, tt))) (FileAnswer n d (code_told r))
  pub list : (κs : Lfts 1) (n : ℕ) (d : Direction) (out new : Room) (r : Result ℕ Refusal)
      → Says (list_call.Asked κs (n, (d, (out, tt)))) (list_call.Learnt κs (n, (d, (out, tt))) r (n, (d, (new, tt))))
      (ListAnswer n d out.now (count_told r) new.now)
