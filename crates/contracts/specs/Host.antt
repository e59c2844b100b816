-- Document 02, 2026-01, 2026-04 and 2026-09 to 2026-12: what the exported functions themselves say, as
-- grid/specs/CallContracts.antt has it of document 01's. Assumes nothing.
use Rattle.std.specs.Prelude.{◌≡◌, ℕ, ℤ}
use contract.Lifetimes.{Lfts}
use Rattle.frame.specs.Promises.{Says}
use Rattle.words.specs.Refusals.{check_code}
use Rattle.words.specs.Family.{code_of}
use Rattle.net.specs.Corners.{name_of}
use Rattle.net.specs.Refusals.{check_name}
use Rattle.grid.specs.CallContracts.{Slice, Room}
use Rattle.grid.specs.Writing.{towards}
use Rattle.mending.specs.Answers.{lists}
use Rattle.host_sweeps.specs.Answers.{SweepBytes}
use Rattle.host_cells.specs.Answers.{CheckBytes, MendBytes}
use Rattle.exports.specs.Answers.{CrossBytes, FileBytes, ListBytes}
use Rattle.harbour.specs.Small.{small_code}
use Rattle.harbour.specs.Refusals.{check_small}
use Rattle.host_harbour.specs.Answers.{SmallBytes, LargeBytes, CrossSmallBytes, FileSmallBytes}
use Rattle.host_opposites.specs.Answers.{OppositeBytes, OppositeNameBytes}
use Rattle.host.proofs.grid_check_triangle.Reads as grid_check_triangle_call
use Rattle.host.proofs.grid_check_name.Reads as grid_check_name_call
use Rattle.host.proofs.grid_cross.Reads as grid_cross_call
use Rattle.host.proofs.grid_file.Reads as grid_file_call
use Rattle.host.proofs.grid_list.Reads as grid_list_call
use Rattle.host.proofs.grid_sweep.Reads as grid_sweep_call
use Rattle.host.proofs.grid_check_cells.Reads as grid_check_cells_call
use Rattle.host.proofs.grid_mend_cells.Reads as grid_mend_cells_call
use Rattle.host.proofs.grid_small.Reads as grid_small_call
use Rattle.host.proofs.grid_large.Reads as grid_large_call
use Rattle.host.proofs.grid_check_small.Reads as grid_check_small_call
use Rattle.host.proofs.grid_cross_small.Reads as grid_cross_small_call
use Rattle.host.proofs.grid_file_small.Reads as grid_file_small_call
use Rattle.host.proofs.grid_opposite.Reads as grid_opposite_call
use Rattle.host.proofs.grid_opposite_name.Reads as grid_opposite_name_call

-- The calls in the order of `OneAnswer`, of the crate exports and then of host_sweeps, of host_cells, of host_harbour
-- and of host_opposites: for any plain numbers, any result, and bytes left with any contents.
pub record Contracts : Type 0 where
  pub check_triangle : (κs : Lfts 0) (word : ℕ) (r : ℕ)
      → Says (grid_check_triangle_call.Asked κs (word, tt)) (grid_check_triangle_call.Learnt κs (word, tt) r (word, tt))
      (r ≡ check_code (code_of word))
  pub check_names : (κs : Lfts 0) (word : ℕ) (r : ℕ)
      → Says (grid_check_name_call.Asked κs (word, tt)) (grid_check_name_call.Learnt κs (word, tt) r (word, tt))
      (r ≡ check_name (name_of word))
  pub cross : (κs : Lfts 1) (code edge : ℕ) (out new : Room) (r : ℕ)
      → Says (grid_cross_call.Asked κs (code, (edge, (out, tt))))
      (grid_cross_call.Learnt κs (code, (edge, (out, tt))) r (code, (edge, (new, tt))))
      (CrossBytes (code_of code) edge out.now r new.now)
  pub file : (κs : Lfts 1) (degree : ℕ) (x y z : ℤ) (out new : Room) (r : ℕ)
      → Says (grid_file_call.Asked κs (degree, (x, (y, (z, (out, tt))))))
      (grid_file_call.Learnt κs (degree, (x, (y, (z, (out, tt))))) r (degree, (x, (y, (z, (new, tt))))))
      (FileBytes degree (towards x y z) out.now r new.now)
  pub list : (κs : Lfts 1) (degree : ℕ) (x y z : ℤ) (out new : Room) (r : ℕ)
      → Says (grid_list_call.Asked κs (degree, (x, (y, (z, (out, tt))))))
      (grid_list_call.Learnt κs (degree, (x, (y, (z, (out, tt))))) r (degree, (x, (y, (z, (new, tt))))))
      (ListBytes degree (towards x y z) out.now r new.now)
  pub sweep : (κs : Lfts 3) (degree : ℕ) (dirs dirs' : Slice) (codes new out told : Room) (r : ℕ)
      → Says (grid_sweep_call.Asked κs (degree, (dirs, (codes, (out, tt)))))
      (grid_sweep_call.Learnt κs (degree, (dirs, (codes, (out, tt)))) r (degree, (dirs', (new, (told, tt)))))
      (SweepBytes degree dirs.now codes.now out.now r (new.now, told.now))
  pub check_cells : (κs : Lfts 2) (list list' : Slice) (out new : Room) (r : ℕ)
      → Says (grid_check_cells_call.Asked κs (list, (out, tt)))
      (grid_check_cells_call.Learnt κs (list, (out, tt)) r (list', (new, tt)))
      (CheckBytes list.now out.now r new.now)
  pub mend_cells : (κs : Lfts 5) (list list' : Slice) (mended new words words' reasons reasons' out told : Room) (r : ℕ)
      → Says (grid_mend_cells_call.Asked κs (list, (mended, (words, (reasons, (out, tt))))))
      (grid_mend_cells_call.Learnt κs (list, (mended, (words, (reasons, (out, tt))))) r
      (list', (new, (words', (reasons', (told, tt))))))
      (MendBytes list.now (lists mended.now words.now reasons.now) out.now r
      (lists new.now words'.now reasons'.now, told.now))
  pub small : (κs : Lfts 1) (code : ℕ) (out new : Room) (r : ℕ)
      → Says (grid_small_call.Asked κs (code, (out, tt))) (grid_small_call.Learnt κs (code, (out, tt)) r (code, (new, tt)))
      (SmallBytes (code_of code) out.now r new.now)
  pub large : (κs : Lfts 1) (word : ℕ) (out new : Room) (r : ℕ)
      → Says (grid_large_call.Asked κs (word, (out, tt))) (grid_large_call.Learnt κs (word, (out, tt)) r (word, (new, tt)))
      (LargeBytes (small_code word) out.now r new.now)
  pub check_smalls : (κs : Lfts 0) (word : ℕ) (r : ℕ)
      → Says (grid_check_small_call.Asked κs (word, tt)) (grid_check_small_call.Learnt κs (word, tt) r (word, tt))
      (r ≡ check_small (small_code word))
  pub cross_small : (κs : Lfts 1) (word edge : ℕ) (out new : Room) (r : ℕ)
      → Says (grid_cross_small_call.Asked κs (word, (edge, (out, tt))))
      (grid_cross_small_call.Learnt κs (word, (edge, (out, tt))) r (word, (edge, (new, tt))))
      (CrossSmallBytes (small_code word) edge out.now r new.now)
  pub file_small : (κs : Lfts 1) (degree : ℕ) (x y z : ℤ) (out new : Room) (r : ℕ)
      → Says (grid_file_small_call.Asked κs (degree, (x, (y, (z, (out, tt))))))
      (grid_file_small_call.Learnt κs (degree, (x, (y, (z, (out, tt))))) r (degree, (x, (y, (z, (new, tt))))))
      (FileSmallBytes degree (towards x y z) out.now r new.now)
  pub opposite : (κs : Lfts 1) (code : ℕ) (out new : Room) (r : ℕ)
      → Says (grid_opposite_call.Asked κs (code, (out, tt)))
      (grid_opposite_call.Learnt κs (code, (out, tt)) r (code, (new, tt)))
      (OppositeBytes (code_of code) out.now r new.now)
  pub opposite_name : (κs : Lfts 1) (name : ℕ) (out new : Room) (r : ℕ)
      → Says (grid_opposite_name_call.Asked κs (name, (out, tt)))
      (grid_opposite_name_call.Learnt κs (name, (out, tt)) r (name, (new, tt)))
      (OppositeNameBytes (name_of name) out.now r new.now)
