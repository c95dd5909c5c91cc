-- Codes of operations and images, for types of the code that are seen as these.

use Rattle.std.specs.Coded.{Coded, code_by, coded_list, coded_option, coded×, coded⊎, coded_ℕ, coded_ℤ}
use Rattle.std.specs.FinMap as map
use Rattle.std.specs.Prelude.{List, None, Option, Some, refl, ℕ, ℤ, ◌≡◌, ◌⊎◌}
use Rattle.std.proofs.Common.{inl, inr}
use Rattle.zq_model.specs.Entry.{Addition}
use Rattle.zq_model.specs.Image.{Entry, Image, Members}
use Rattle.zq_model.specs.Operation.{Act, Bump, Drop, Operation, Put}

abbrev pub bytes_code : Coded (List ℕ)
bytes_code = coded_list coded_ℕ

-- ---- operations

abbrev scores_of : Act → ℤ ⊎ Option ℤ
scores_of (Put score) = inl score
scores_of (Bump increment) = inr (Some increment)
scores_of Drop = inr None

abbrev act_from : ℤ ⊎ Option ℤ → Act
act_from (inl score) = Put score
act_from (inr (Some increment)) = Bump increment
act_from (inr None) = Drop

pub act-from_scores : (act : Act) → act_from (scores_of act) ≡ act
act-from_scores (Put score) = refl
act-from_scores (Bump increment) = refl
act-from_scores Drop = refl

abbrev pub act_code : Coded Act
act_code = code_by (ℤ ⊎ Option ℤ) (coded⊎ coded_ℤ (coded_option coded_ℤ)) scores_of act_from
    act-from_scores

abbrev pub operation_code : Coded Operation
operation_code =
    code_by (ℕ × (ℕ × (ℕ × (List ℕ × (List ℕ × (List ℕ × Act))))))
    (coded× coded_ℕ (coded× coded_ℕ
    (coded× coded_ℕ (coded× bytes_code (coded× bytes_code (coded× bytes_code act_code))))))
    (λ o. (o.heap, (o.site, (o.n, (o.seen, (o.key, (o.member, o.act)))))))
    (λ p. record { heap = p.0; site = p.1.0; n = p.1.1.0; seen = p.1.1.1.0; key = p.1.1.1.1.0; member = p.1.1.1.1.1.0; act = p.1.1.1.1.1.1 }) (λ _. refl)

-- ---- images

abbrev pub addition_code : Coded Addition
addition_code =
    code_by (ℕ × (ℤ × List ℤ)) (coded× coded_ℕ (coded× coded_ℤ (coded_list coded_ℤ)))
    (λ a. (a.n, (a.score, a.sums))) (λ p. record { n = p.0; score = p.1.0; sums = p.1.1 })
    (λ _. refl)

abbrev pub entry_code : Coded Entry
entry_code = coded_list (coded_option addition_code)

abbrev pub members_code : Coded Members
members_code = map.code (coded× bytes_code bytes_code) entry_code

abbrev pub image_code : Coded Image
image_code = code_by (List ℕ × Members) (coded× bytes_code members_code)
    (λ a. (a.vector, a.members)) (λ p. record { vector = p.0; members = p.1 }) (λ _. refl)
