-- Document 02, 2026-13: what the four functions themselves say, as grid/specs/CallContracts.antt has it of document 01's.
-- Assumes nothing.
use Rattle.std.specs.Prelude.{ℕ, Result}
use contract.Lifetimes.{Lfts}
use Rattle.frame.specs.declared.Refusal.{Refusal}
use Rattle.frame.specs.Promises.{Says}
use Rattle.words.specs.declared.TriangleCode.{TriangleCode}
use Rattle.words.specs.declared.CornerName.{CornerName}
use Rattle.words.specs.Family.{code_told}
use Rattle.corners.specs.Answers.{name_told, count_told}
use Rattle.grid.specs.CallContracts.{Slice, Room}
use Rattle.paper.specs.Answers.{FromDomainAnswer, FromVertexAnswer, ToDomainAnswer, ToVertexAnswer}
use Rattle.paper.proofs.from_domain.Reads as from_domain_call
use Rattle.paper.proofs.from_vertex.Reads as from_vertex_call
use Rattle.paper.proofs.to_domain.Reads as to_domain_call
use Rattle.paper.proofs.to_vertex.Reads as to_vertex_call

-- The calls in the order of `OneAnswer`, for any arguments and any result, and a lent list left with any contents.
pub record Contracts : Type 0 where
  pub from_domain : (κs : Lfts 1) (code new : Slice) (r : Result TriangleCode Refusal)
      → Says (from_domain_call.Asked κs (code, tt)) (from_domain_call.Learnt κs (code, tt) r (new, tt))
      (FromDomainAnswer code.now (code_told r))
  pub from_vertex : (κs : Lfts 1) (code new : Slice) (r : Result CornerName Refusal)
      → Says (from_vertex_call.Asked κs (code, tt)) (from_vertex_call.Learnt κs (code, tt) r (new, tt))
      (FromVertexAnswer code.now (name_told r))
  pub to_domain : (κs : Lfts 1) (t : TriangleCode) (out new : Room) (r : Result ℕ Refusal)
      → Says (to_domain_call.Asked κs (t, (out, tt))) (to_domain_call.Learnt κs (t, (out, tt)) r (t, (new, tt)))
      (ToDomainAnswer t out.now (count_told r) new.now)
  pub to_vertex : (κs : Lfts 1) (q : CornerName) (out new : Room) (r : Result ℕ Refusal)
      → Says (to_vertex_call.Asked κs (q, (out, tt))) (to_vertex_call.Learnt κs (q, (out, tt)) r (q, (new, tt)))
      (ToVertexAnswer q out.now (count_told r) new.now)
