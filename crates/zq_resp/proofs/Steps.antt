-- One step after the other.
use Rattle.std.proofs.Common.{◌≡◌, ℕ, ◌+◌, List, ◌++◌, take, drop, sym, ap, subst, ◌∙◌, append_assoc}
use Rattle.std.proofs.lemmas.List.{take-append-drop}
use Rattle.std.proofs.Math.Seq.{take-add}
use Rattle.zq_resp.specs.declared.fault.FeedFault.{FeedFault}
use Rattle.zq_resp.specs.Front.{Front, Got}
use Rattle.zq_resp.specs.Suspended.{Fails, Goes}

module _ {P X : Type 0} (text : P → List ℕ) (resume : P → List ℕ → Front X) (old new : P) (at : ℕ) (bytes : List ℕ) (goes : Goes text resume old new (take at bytes)) where
  -- more than a step took
  pub past : (more : List ℕ) → resume old (bytes ++ more) ≡ resume new (drop at bytes ++ more)
  past more =
      ap (λ front. resume old (front ++ more)) (sym (take-append-drop at bytes))
      ∙ (ap (resume old) (append_assoc (take at bytes) (drop at bytes) more) ∙ goes.resumes (drop at bytes ++ more))

  pub then_fails : (why : FeedFault) → ((more : List ℕ) → Fails why (resume new (drop at bytes ++ more))) → (more : List ℕ) → Fails why (resume old (bytes ++ more))
  then_fails why failed more = subst (λ read. Fails why read) (sym (past more)) (failed more)

  later : (taken : ℕ) (more : List ℕ) → resume old (take (at + taken) bytes ++ more) ≡ resume new (take taken (drop at bytes) ++ more)
  later taken more =
      ap (λ front. resume old (front ++ more)) (take-add at taken bytes)
      ∙ (ap (resume old) (append_assoc (take at bytes) (take taken (drop at bytes)) more) ∙ goes.resumes (take taken (drop at bytes) ++ more))

  pub then_goes : (last : P) (taken : ℕ) → Goes text resume new last (take taken (drop at bytes)) → Goes text resume old last (take (at + taken) bytes)
  then_goes last taken goes_on =
      record {
        text_grows =
            goes_on.text_grows
            ∙ (ap (λ front. front ++ take taken (drop at bytes)) goes.text_grows
            ∙ (append_assoc (text old) (take at bytes) (take taken (drop at bytes))
            ∙ ap (λ part. text old ++ part) (sym (take-add at taken bytes))));
        resumes = λ more. later taken more ∙ goes_on.resumes more;
      }

  pub then_finds : (taken : ℕ) (found : List ℕ → X) → ((more : List ℕ) → resume new (take taken (drop at bytes) ++ more) ≡ Got (found more)) → (more : List ℕ) → resume old (take (at + taken) bytes ++ more) ≡ Got (found more)
  then_finds taken found finds more = later taken more ∙ finds more
