-- What a drill ends with.
use Rattle.std.proofs.Common.{subst, ◌∙◌}
use Rattle.std.specs.Prelude.{Bool, Err, IfOk, IsTrue, List, Ok, Result, [], length, ◌++◌, ◌↔◌, ◌∷◌, ◌≡◌}
use Rattle.zq_drill.proofs.AllListed.{listed_number, listed_sorted, places_number}
use Rattle.zq_drill.specs.Listed.{AreListed}
use Rattle.zq_drill.specs.Meetings.{AreMeetings, round}
use Rattle.zq_drill.specs.SiteHandles.{numbers_of, places_of}
use Rattle.zq_drill.specs.Report.{AreAlike, IsOutcome}
use Rattle.zq_drill.specs.declared.fault.DrillFault.{DrillFault}
use Rattle.zq_drill.specs.declared.site_handle.SiteHandle.{SiteHandle}
use Rattle.zq_model.specs.Meaning.{Scored}

-- the sites were opened, met, and then listed
pub outcome : (result : Result Bool DrillFault) (opened met shown : List SiteHandle) (Writes : List (List Scored) → Bool → Type 0) → numbers_of (places_of opened) ≡ 0 ∷ 1 ∷ 2 ∷ [] → length met ≡ 3 →
    AreMeetings (round ++ round) (places_of opened) (places_of met) → shown ≡ met →
    IfOk result (λ equal. (lists : List (List Scored)) × AreListed (places_of shown) lists × (IsTrue equal ↔ AreAlike lists) × Writes lists equal) →
    IfOk result (λ equal. (lists : List (List Scored)) × IsOutcome lists equal × Writes lists equal)
outcome (Ok equal) opened met shown Writes numbers three exchanged same is =
    let lists = is.0 in
    let listed : AreListed (places_of met) lists = subst (λ handles. AreListed (places_of handles) lists) same is.1 in (
      lists,
      record {
        number = listed_number (places_of met) lists listed ∙ (places_number met ∙ three);
        sorted = listed_sorted (places_of met) lists listed;
        equal_is = is.2;
        sites = record { opened = places_of opened; met = places_of met; numbers = numbers; exchanged = exchanged; listed = listed };
      },
      is.3,
    )
outcome (Err fault) opened met shown Writes numbers three exchanged same is = tt

-- a fact for the value, from two others for it
pub if_ok_both : {X E : Type 0} {P Q S : X → Type 0} (r : Result X E) → IfOk r P → IfOk r Q → ((x : X) → P x → Q x → S x) → IfOk r S
if_ok_both (Ok x) p q f = f x p q
if_ok_both (Err e) p q f = tt {0}
