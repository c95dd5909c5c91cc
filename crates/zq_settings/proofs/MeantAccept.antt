-- Whom a site accepts is what its word says, and what is wrong where it is refused.
use Rattle.std.proofs.Common.{◌≡◌, ◌∙◌, ap, codes, inl, inr, List, None, Ok, Err, Option, refl, Some, ℕ}
use Rattle.std.proofs.lemmas.Bool.{cases_Bool}
use Rattle.std.proofs.lemmas.Slice.Eq.{bytes_eq-Decides}
use Rattle.std.specs.Option.{ok_or}
use Rattle.std.specs.Str.{bytes_eq}
use Rattle.toml.specs.Data.{Data, Members, as_str, string}
use Rattle.zq_settings.proofs.Faults.{HasFault}
use Rattle.zq_settings.proofs.Steps.{both_err, both_ok, none_since, some_since, text_since}
use Rattle.zq_settings.specs.Accepting.{accept_named, accept_word}
use Rattle.zq_settings.specs.Site.{accept_of}
use Rattle.zq_settings.specs.SiteRules.{IsAccept}
use Rattle.zq_settings.specs.Tables.{value_at}
use Rattle.zq_settings.specs.declared.accept.Accept.{Accept}
use Rattle.zq_settings.specs.declared.accept.Accept.TheVariants.{Any, Listed}
use Rattle.zq_settings.specs.declared.key.Key.TheVariants as key
use Rattle.zq_settings.specs.declared.why.Why.{Why}
use Rattle.zq_settings.specs.declared.why.Why.TheVariants.{Kind, Range}

-- the words
accept_word_since : (word : List ℕ) (accept : Accept) → accept_named word ≡ Some accept → word ≡ accept_word accept
accept_word_since word accept h =
    elim (cases_Bool (bytes_eq word (codes "any"))) [
      | inl any ↦
          let same : Any ≡ accept = let there : Some Any ≡ Some accept = rw any at h in cc in
          (bytes_eq-Decides word (codes "any")).0 any ∙ ap accept_word same
      | inr not_any ↦
          elim (cases_Bool (bytes_eq word (codes "listed"))) [
            | inl listed ↦
                let same : Listed ≡ accept = let there : Some Listed ≡ Some accept = rw (not_any, listed) at h in cc in
                (bytes_eq-Decides word (codes "listed")).0 listed ∙ ap accept_word same
            | inr not_listed ↦ let none : None ≡ Some accept = rw (not_any, not_listed) at h in cc
          ]
    ]

accept_word_from : (accept : Accept) → accept_named (accept_word accept) ≡ Some accept
accept_word_from Any = refl
accept_word_from Listed = refl

pub accept_since : (accept : Accept) (value : Option Data) → accept_of value ≡ Ok accept → IsAccept value accept
accept_since accept None h = let same : accept ≡ Any = cc in inl (refl, same)
accept_since accept (Some d) h =
    let (word, text, named) = both_ok (ok_or (as_str d) _) _ accept h in
    inr (ap Some (text_since d word (some_since _ _ word text) ∙ ap string (accept_word_since word accept (some_since _ _ accept named))))

pub accept_from : (accept : Accept) (value : Option Data) → IsAccept value accept → accept_of value ≡ Ok accept
accept_from accept value (inl (none, same)) = rw (none, same)
accept_from accept value (inr some) = rw (some, accept_word_from accept)

pub accept_fault : (table : Members) (why : Why) (value : Option Data) → value_at key.Accept table ≡ value → accept_of value ≡ Err why → HasFault key.Accept table why
accept_fault table why None seen h = cc
accept_fault table why (Some d) seen h =
    elim (both_err (ok_or (as_str d) (Kind key.Accept)) (λ word. ok_or (accept_named word) (Range key.Accept)) why h) [
      | inl other ↦
          let (none, same) = none_since (as_str d) (Kind key.Accept) why other in
          inl (same, (d, seen, none))
      | inr text ↦
          let (word, is, unnamed) = text in
          let (none, same) = none_since (accept_named word) (Range key.Accept) why unnamed in
          inr (same, (d, seen, (word, text_since d word (some_since _ _ word is), none)))
    ]
