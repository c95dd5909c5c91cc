-- How much the log says is what its word says, and what is wrong where it is refused.
use Rattle.std.proofs.Common.{◌≡◌, ◌∙◌, ap, codes, inl, inr, List, None, Ok, Err, Option, refl, Some, ℕ}
use Rattle.std.proofs.lemmas.Bool.{cases_Bool}
use Rattle.std.proofs.lemmas.Slice.Eq.{bytes_eq-Decides}
use Rattle.std.specs.Option.{ok_or}
use Rattle.std.specs.Str.{bytes_eq}
use Rattle.toml.specs.Data.{Data, Members, as_str, string}
use Rattle.zq_settings.proofs.Faults.{HasFault}
use Rattle.zq_settings.proofs.Steps.{both_err, both_ok, none_since, some_since, text_since}
use Rattle.zq_settings.specs.LogLevels.{log_level_named, log_level_word}
use Rattle.zq_settings.specs.Rules.{IsLogLevel}
use Rattle.zq_settings.specs.Settings.{log_level_of}
use Rattle.zq_settings.specs.Tables.{value_at}
use Rattle.zq_settings.specs.declared.key.Key.TheVariants as key
use Rattle.zq_settings.specs.declared.log_level.LogLevel.{LogLevel}
use Rattle.zq_settings.specs.declared.log_level.LogLevel.TheVariants.{Debug, Info, Warn}
use Rattle.zq_settings.specs.declared.why.Why.{Why}
use Rattle.zq_settings.specs.declared.why.Why.TheVariants.{Kind, Range}

-- the words
word_since : (word : List ℕ) (level : LogLevel) → log_level_named word ≡ Some level → word ≡ log_level_word level
word_since word level h =
    elim (cases_Bool (bytes_eq word (codes "warn"))) [
      | inl warn ↦
          let same : Warn ≡ level = let there : Some Warn ≡ Some level = rw warn at h in cc in
          (bytes_eq-Decides word (codes "warn")).0 warn ∙ ap log_level_word same
      | inr not_warn ↦
          elim (cases_Bool (bytes_eq word (codes "info"))) [
            | inl info ↦
                let same : Info ≡ level = let there : Some Info ≡ Some level = rw (not_warn, info) at h in cc in
                (bytes_eq-Decides word (codes "info")).0 info ∙ ap log_level_word same
            | inr not_info ↦
                elim (cases_Bool (bytes_eq word (codes "debug"))) [
                  | inl debug ↦
                      let same : Debug ≡ level = let there : Some Debug ≡ Some level = rw (not_warn, not_info, debug) at h in cc in
                      (bytes_eq-Decides word (codes "debug")).0 debug ∙ ap log_level_word same
                  | inr not_debug ↦ let none : None ≡ Some level = rw (not_warn, not_info, not_debug) at h in cc
                ]
          ]
    ]

word_from : (level : LogLevel) → log_level_named (log_level_word level) ≡ Some level
word_from Warn = refl
word_from Info = refl
word_from Debug = refl

pub log_level_since : (level : LogLevel) (value : Option Data) → log_level_of value ≡ Ok level → IsLogLevel value level
log_level_since level None h = let same : level ≡ Info = cc in inl (refl, same)
log_level_since level (Some d) h =
    let (word, text, named) = both_ok (ok_or (as_str d) _) _ level h in
    inr (ap Some (text_since d word (some_since _ _ word text) ∙ ap string (word_since word level (some_since _ _ level named))))

pub log_level_from : (level : LogLevel) (value : Option Data) → IsLogLevel value level → log_level_of value ≡ Ok level
log_level_from level value (inl (none, same)) = rw (none, same)
log_level_from level value (inr some) = rw (some, word_from level)

pub log_level_fault : (table : Members) (why : Why) (value : Option Data) → value_at key.LogLevel table ≡ value → log_level_of value ≡ Err why → HasFault key.LogLevel table why
log_level_fault table why None seen h = cc
log_level_fault table why (Some d) seen h =
    elim (both_err (ok_or (as_str d) (Kind key.LogLevel)) (λ word. ok_or (log_level_named word) (Range key.LogLevel)) why h) [
      | inl other ↦
          let (none, same) = none_since (as_str d) (Kind key.LogLevel) why other in
          inl (same, (d, seen, none))
      | inr text ↦
          let (word, is, unnamed) = text in
          let (none, same) = none_since (log_level_named word) (Range key.LogLevel) why unnamed in
          inr (same, (d, seen, (word, text_since d word (some_since _ _ word is), none)))
    ]
