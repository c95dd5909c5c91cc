-- The values of keys that take a number or a text.
use Rattle.zq_settings.proofs.Steps.{both_ok, some_since, integer_since, text_since, within_since, within_from}
use Rattle.std.proofs.Common.{◌≡◌, ◌≤◌, ℕ, pos, List, Option, Some, None, Ok, codes, refl, ap, ◌∙◌, inl, inr}
use Rattle.std.proofs.lemmas.Bool.{cases_Bool}
use Rattle.std.proofs.lemmas.Slice.Eq.{bytes_eq-Decides}
use Rattle.std.specs.Str.{bytes_eq}
use Rattle.std.specs.Option.{ok_or}
use Rattle.toml.specs.Data.{Data, string, integer, as_integer, as_str}
use Rattle.zq_dots.specs.declared.rule.Rule.{Rule}
use Rattle.zq_dots.specs.declared.rule.Rule.TheVariants.{High, Low}
use Rattle.zq_settings.specs.Rules.{IsNumber, IsLimit, IsRule, word_of}
use Rattle.zq_settings.specs.Settings.{whole_of, number_of, required_of, limit_of, connections_of, rule_of, rule_named}
use Rattle.zq_settings.specs.SiteRules.{IsRequired}
use Rattle.zq_settings.specs.declared.key.Key.{Key}

-- a number
pub whole_since : (key : Key) (least most n : ℕ) (d : Data) → whole_of key least most d ≡ Ok n → (d ≡ integer (pos n)) × (least ≤ n) × (n ≤ most)
whole_since key least most n d h =
    let (z, whole, fits) = both_ok (ok_or (as_integer d) _) _ n h in
    let (same, low, high) = within_since least most n z (some_since _ _ n fits) in
    (integer_since d z (some_since _ _ z whole) ∙ ap integer same, low, high)

pub number_since : (key : Key) (least most default n : ℕ) (value : Option Data) → number_of key least most default value ≡ Ok n → IsNumber least most default value n
number_since key least most default n None h = inl (refl, cc)
number_since key least most default n (Some d) h =
    let (same, low, high) = whole_since key least most n d h in
    inr (ap Some same, low, high)

pub number_from : (key : Key) (least most default n : ℕ) (value : Option Data) → IsNumber least most default value n → number_of key least most default value ≡ Ok n
number_from key least most default n value (inl (none, same)) = rw (none, same)
number_from key least most default n value (inr (some, low, high)) = rw (some, within_from least most n low high)

-- a number that has to be there
pub required_since : (key : Key) (least most n : ℕ) (value : Option Data) → required_of key least most value ≡ Ok n → IsRequired least most value n
required_since key least most n None h = cc
required_since key least most n (Some d) h =
    let (same, low, high) = whole_since key least most n d h in
    (ap Some same, low, high)

pub required_from : (key : Key) (least most n : ℕ) (value : Option Data) → IsRequired least most value n → required_of key least most value ≡ Ok n
required_from key least most n value (some, low, high) = rw (some, within_from least most n low high)

pub limit_since : (limit : Option ℕ) (value : Option Data) → connections_of value ≡ Ok limit → IsLimit value limit
limit_since limit value h =
    let (n, number, same) = both_ok (number_of _ 0 1000000 0 value) _ limit h in
    let is_limit : limit ≡ limit_of n = cc in
    (n, number_since _ 0 1000000 0 n value number, is_limit)

pub limit_from : (limit : Option ℕ) (value : Option Data) → IsLimit value limit → connections_of value ≡ Ok limit
limit_from limit value (n, number, same) = rw (number_from _ 0 1000000 0 n value number, same)

-- the words of rules
pub word_since : (word : List ℕ) (rule : Rule) → rule_named word ≡ Some rule → word ≡ word_of rule
word_since word rule h =
    elim (cases_Bool (bytes_eq word (codes "HIGH"))) [
      | inl high ↦
          let same : High ≡ rule = let there : Some High ≡ Some rule = rw high at h in cc in
          (bytes_eq-Decides word (codes "HIGH")).0 high ∙ ap word_of same
      | inr not_high ↦
          elim (cases_Bool (bytes_eq word (codes "LOW"))) [
            | inl low ↦
                let same : Low ≡ rule = let there : Some Low ≡ Some rule = rw (not_high, low) at h in cc in
                (bytes_eq-Decides word (codes "LOW")).0 low ∙ ap word_of same
            | inr not_low ↦ let none : None ≡ Some rule = rw (not_high, not_low) at h in cc
          ]
    ]

pub word_from : (rule : Rule) → rule_named (word_of rule) ≡ Some rule
word_from High = refl
word_from Low = refl

pub rule_since : (rule : Rule) (value : Option Data) → rule_of value ≡ Ok rule → IsRule value rule
rule_since rule None h = let same : rule ≡ High = cc in inl (refl, same)
rule_since rule (Some d) h =
    let (word, text, named) = both_ok (ok_or (as_str d) _) _ rule h in
    inr (ap Some (text_since d word (some_since _ _ word text) ∙ ap string (word_since word rule (some_since _ _ rule named))))

pub rule_from : (rule : Rule) (value : Option Data) → IsRule value rule → rule_of value ≡ Ok rule
rule_from rule value (inl (none, same)) = rw (none, same)
rule_from rule value (inr some) = rw (some, word_from rule)
