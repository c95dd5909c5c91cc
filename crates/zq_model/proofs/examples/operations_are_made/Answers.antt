use Rattle.std.proofs.lemmas.Int.{ints}
use Rattle.std.proofs.Common.{ℕ, List, [], ◌∷◌, ◌≡◌, ◌≤◌, ◌<◌, ◌+◌, refl, arith}
use Rattle.zq_model.specs.Examples.{AreMade, HEAPS, Pair, at_both, far, key_q, made, member_a, member_x, member_y, near, put_a, put_apart, shared, vector_with}
use Rattle.zq_model.specs.Heaps.{fnv1a64, heap_of}
use Rattle.zq_model.specs.Operation.{Act, IsAct, Operation}
use Rattle.zq_model.specs.Sets.{IsMade, LAST, SITES, vector_of}
use Rattle.std.specs.Prelude.{slice_index}
use Rattle.zq_model.proofs.examples.operations_are_made.Goals as goal

is_made : (p : Pair) (heap : ℕ) (member : List ℕ) (site i j : ℕ) (act : Act) (S : List Operation) → IsAct act → site < SITES → heap ≡ heap_of key_q member HEAPS
    → vector_with p i j ≡ vector_of S heap → slice_index (vector_with p i j) site + 1 ≤ LAST → IsMade HEAPS S (made p heap member site i j act)
is_made p heap member site i j act S range below lies seen bounded = record {
  heaps = (omega arith, omega arith);
  act = range;
  site = below;
  heap = lies;
  seen = seen;
  n = refl;
  bounded = bounded;
}

of_near : AreMade near
unfolding SITES LAST heap_of fnv1a64
of_near = record {
  put_first = λ score range. is_made near 1 member_x 0 0 0 _ [] range (omega arith) refl refl (omega arith);
  put_second = λ score range. is_made near 1 member_x 1 0 0 _ [] range (omega arith) refl refl (omega arith);
  first = λ act score range. is_made near 1 member_x 0 1 0 act (shared near score) range (omega arith) refl refl (omega arith);
  second = λ act score range. is_made near 1 member_x 1 1 0 act (shared near score) range (omega arith) refl refl (omega arith);
  after_apart = λ act x y range. is_made near 1 member_x 0 1 1 act (put_apart near x y) range (omega arith) refl refl (omega arith);
  after_both = λ act one other score range. is_made near 1 member_x 0 2 1 act (at_both near one other score) range (omega arith) refl refl (omega arith);
  a_first = is_made near 0 member_a 0 0 0 _ [] (omega (arith, ints), omega (arith, ints)) (omega arith) refl refl (omega arith);
  y_then = is_made near 0 member_y 0 1 0 _ (put_a near ∷ []) (omega (arith, ints), omega (arith, ints)) (omega arith) refl refl (omega arith);
}

of_far : AreMade far
unfolding SITES LAST heap_of fnv1a64
of_far = record {
  put_first = λ score range. is_made far 1 member_x 7 0 0 _ [] range (omega arith) refl refl (omega arith);
  put_second = λ score range. is_made far 1 member_x 63 0 0 _ [] range (omega arith) refl refl (omega arith);
  first = λ act score range. is_made far 1 member_x 7 1 0 act (shared far score) range (omega arith) refl refl (omega arith);
  second = λ act score range. is_made far 1 member_x 63 1 0 act (shared far score) range (omega arith) refl refl (omega arith);
  after_apart = λ act x y range. is_made far 1 member_x 7 1 1 act (put_apart far x y) range (omega arith) refl refl (omega arith);
  after_both = λ act one other score range. is_made far 1 member_x 7 2 1 act (at_both far one other score) range (omega arith) refl refl (omega arith);
  a_first = is_made far 0 member_a 7 0 0 _ [] (omega (arith, ints), omega (arith, ints)) (omega arith) refl refl (omega arith);
  y_then = is_made far 0 member_y 7 1 0 _ (put_a far ∷ []) (omega (arith, ints), omega (arith, ints)) (omega arith) refl refl (omega arith);
}

pub returns : goal.returns
returns c = record { of_near = of_near; of_far = of_far }
