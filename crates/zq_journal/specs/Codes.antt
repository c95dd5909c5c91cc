-- Codes of what a book is seen as.

use Rattle.std.specs.Coded.{Coded, code_by, coded_list, coded_option, coded×, coded⊎, coded_ℕ}
use Rattle.std.specs.Prelude.{List, Option, refl, ℕ, ◌≡◌, ◌⊎◌}
use Rattle.std.proofs.Common.{inl, inr}
use Rattle.zq_model.specs.Books.{Book, Change, Made, Record, Took}
use Rattle.zq_model.specs.Limits.{TailLimits}
use Rattle.zq_model.specs.Codes.{image_code, operation_code}
use Rattle.zq_model.specs.Image.{Image}
use Rattle.zq_model.specs.Operation.{Operation}
use Rattle.zq_model.specs.Rule.{Rule}
use Rattle.zq_queue.specs.Codes.{rule_code}

abbrev sides_of : Change → Operation ⊎ Operation
sides_of (Made o) = inl o
sides_of (Took o) = inr o

abbrev change_from : Operation ⊎ Operation → Change
change_from (inl o) = Made o
change_from (inr o) = Took o

pub change-from_sides : (change : Change) → change_from (sides_of change) ≡ change
change-from_sides (Made o) = refl
change-from_sides (Took o) = refl

abbrev pub change_code : Coded Change
change_code = code_by (Operation ⊎ Operation)
    (coded⊎ operation_code operation_code) sides_of change_from change-from_sides

abbrev pub record_code : Coded Record
record_code = code_by (ℕ × Change) (coded× coded_ℕ change_code) (λ r. (r.stamp, r.change))
    (λ p. record { stamp = p.0; change = p.1 }) (λ _. refl)

abbrev pub limits_code : Coded TailLimits
limits_code = code_by (ℕ × (ℕ × Option ℕ)) (coded× coded_ℕ (coded× coded_ℕ (coded_option coded_ℕ)))
    (λ l. (l.long, (l.kept, l.bytes))) (λ p. record { long = p.0; kept = p.1.0; bytes = p.1.1 })
    (λ _. refl)

abbrev pub book_code : Coded Book
book_code =
    code_by (ℕ × (ℕ × (Rule
    × (Image × (Image × (List Record × (ℕ × (ℕ × (TailLimits × Option ℕ)))))))))
    (coded× coded_ℕ (coded× coded_ℕ
    (coded× rule_code (coded× image_code
    (coded× image_code (coded× (coded_list record_code)
    (coded× coded_ℕ (coded× coded_ℕ (coded× limits_code (coded_option coded_ℕ))))))))))
    (λ b. (
      b.heap,
      (
        b.heaps,
        (b.rule, (b.base, (b.state, (b.tail, (b.stamp, (b.count, (b.limits, b.handed))))))),
      ),
    ))
    (λ p. record {
      heap = p.0;
      heaps = p.1.0;
      rule = p.1.1.0;
      base = p.1.1.1.0;
      state = p.1.1.1.1.0;
      tail = p.1.1.1.1.1.0;
      stamp = p.1.1.1.1.1.1.0;
      count = p.1.1.1.1.1.1.1.0;
      limits = p.1.1.1.1.1.1.1.1.0;
      handed = p.1.1.1.1.1.1.1.1.1;
    })
    (λ _. refl)
