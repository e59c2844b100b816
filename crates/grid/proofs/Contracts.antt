-- What each function asks and ensures is what specs/CallContracts.antt says: the two are the same, by computation. Assumes
-- nothing.
use Prim.Native.Nat.{ℕ}
use contract.Lifetimes.{Lfts}
use Rattle.frame.specs.Promises.{Keeps, Says}
use Rattle.frame.proofs.Answering.{says_itself}
use Rattle.words.specs.declared.TriangleCode.{TriangleCode}
use mathlib.Core.Path.{refl, sym}
use Rattle.std.specs.Prelude.{Err}
use Rattle.frame.specs.Refusals.{order, told_number}
use Rattle.frame.proofs.Told.{refusal_of, first_number, keeps_told}
use Rattle.corners.specs.Refusals.{refuse_numbered}
use Rattle.corners.specs.Answers.{no_step, step_answer}
use Rattle.corners.specs.declared.Step.{Step}
use Rattle.corners.proofs.cross.Reads as cross
use Rattle.grid.specs.CallContracts.{Contracts}
use Rattle.grid.proofs.Demands.{demand_1}

pub contracts : Contracts
contracts = record {
  check = λ κs t r. says_itself;
  check_names = λ κs q r. says_itself;
  parent = λ κs t r. says_itself;
  child = λ κs t d r. says_itself;
  cross = λ κs t k r. says_itself;
  weights = λ κs t i out new r. says_itself;
  name_weights = λ κs q out new r. says_itself;
  coordinates = λ κs t i r. says_itself;
  name_coordinates = λ κs q r. says_itself;
  ticks = λ κs t i r. says_itself;
  name_ticks = λ κs q r. says_itself;
  drawn = λ κs t i r. says_itself;
  name_drawn = λ κs q r. says_itself;
  naming = λ κs t i r. says_itself;
  back = λ κs n weights new r. says_itself;
  ring = λ κs q out new r. says_itself;
  file = λ κs n d r. says_itself;
  list = λ κs n d out new r. says_itself;
}

-- What a call's promise keeps, the function's own contract keeps.
pub as_promised : {A : Type 0} {f : ℕ} {asked : Type 0} {Q P : A → Type 0} {number : A → ℕ} {zeros : ℕ → A}
    → ((r : A) → Says asked (Q r) (P r)) → Keeps f P number zeros → Keeps f Q number zeros
as_promised s k = record {
  one = (
    k.one.0,
    record { meets = (s _).just.1 k.one.1.meets; only = λ r q. k.one.1.only r ((s r).just.0 q) },
  );
  exactly = λ r q. k.exactly r ((s r).just.0 q);
  refused = λ r q n. k.refused r ((s r).just.0 q) n;
}

-- So demand 1 can be said of a function without a word of its promise, as of crossing: its result is one, has the number
-- that document 01 gives, and where that is not 0 is the refusal of that number.
pub cross_keeps : (κs : Lfts 0) (t : TriangleCode) (k : ℕ)
    → Keeps (refuse_numbered t k) (λ r. cross.Learnt κs (t, (k, tt)) r (t, (k, tt))) told_number
    (λ f. Err (refusal_of f))
unfolding refuse_numbered
cross_keeps κs t k = as_promised (λ r. contracts.cross κs t k r)
    (keeps_told (λ (s : Step). step_answer 0 s.code s.edge s.first s.second) no_step (λ a. a.refusal) (λ s. refl)
    (λ f. refl)
    (λ x y e i. record { code = (e i).code; edge = (e i).edge; first = (e i).first; second = (e i).second })
    (λ a p z. let n = (p.answered z).number in (
      record { code = a.code; edge = a.edge; first = a.first; second = a.second },
      λ i. record { refusal = sym n i; code = a.code; edge = a.edge; first = a.first; second = a.second },
    ))
    (first_number order _ tt) (demand_1.cross t k))
