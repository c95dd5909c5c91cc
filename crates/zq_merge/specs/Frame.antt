-- What stands before the keys of a state.

use Rattle.std.specs.Prelude.{List, ℕ}
use Rattle.zq_model.specs.Rule.{Rule}
use Rattle.zq_fields.specs.declared.heap_no.HeapNo.{HeapNo}

-- which heap the state is of, by which rule its scores are, and which operations it has taken
pub record Frame : Type 0 where
  pub rule : Rule
  pub heap : HeapNo
  pub vector : List ℕ
