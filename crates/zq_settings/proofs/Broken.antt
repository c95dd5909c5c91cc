-- A table is refused for a rule that it breaks.
use Rattle.std.proofs.Common.{◌≡◌, ◌<◌, ◌⊎◌, ℕ, true, eqb, ltb, ◌||◌, List, [], ◌∷◌, ◌++◌, length, map, Option, Some, None, Ok, Err, refl, sym, ap, ◌∙◌, inl, inr}
use Rattle.std.proofs.lemmas.Bool.{cases_Bool, or_cases, ltb-true, eqb-true}
use Rattle.std.specs.List.{list_any}
use Rattle.std.specs.Option.{ok_or}
use Rattle.toml.specs.Data.{Data, Members, array, Items, no_items, item, as_integer, as_array}
use Rattle.toml.specs.View.{items_of}
use Rattle.zq_settings.proofs.Faults.{HasFault, by_steps, common_fault, count_listed, listed, rule_fault, seed_fault, unknown_fault, whole_fault}
use Rattle.zq_settings.proofs.MeantLogLevel.{log_level_fault}
use Rattle.zq_settings.proofs.MeantPorts.{port_since, each_since}
use Rattle.zq_settings.proofs.Steps.{both_err, some_since, none_since, array_since}
use Rattle.zq_settings.specs.Breaks.{IsOutside, HasEntry, Breaks, EachRefusalIsOfABrokenRule}
use Rattle.zq_settings.specs.Ports.{first_twice}
use Rattle.zq_settings.specs.Rules.{entry_of}
use Rattle.zq_settings.specs.Settings.{◌>>=◌, common_of, count_of, each, port_of, unless_twice, distinct, log_level_of, ports_in, ports_of, known_keys, seed_of, rule_of}
use Rattle.zq_settings.specs.Tables.{value_at}
use Rattle.zq_settings.specs.declared.form.Form.TheVariants as form
use Rattle.zq_settings.specs.declared.key.Key.{Key}
use Rattle.zq_settings.specs.declared.key.Key.TheVariants as key
use Rattle.zq_settings.specs.declared.why.Why.{Why}
use Rattle.zq_settings.specs.declared.why.Why.TheVariants.{Missing, Count, Kind, Range, Twice}

entry_first : (P : Data → Type 0) (entry : Data) (entries : Items) → P entry → HasEntry P (array (item entry entries))
entry_first P entry entries bad = let (list, same) = listed entries in ([], entry, list, ap (λ es. array (item entry es)) same, bad)

entry_later : (P : Data → Type 0) (entry : Data) (entries : Items) (port : ℕ) → entry ≡ entry_of port → HasEntry P (array entries) → HasEntry P (array (item entry entries))
entry_later P entry entries port is (before, bad, others, split, holds) =
    let rest : entries ≡ items_of (map entry_of before ++ bad ∷ others) = cc in
    let whole : array (item entry entries) ≡ array (item (entry_of port) (items_of (map entry_of before ++ bad ∷ others))) = cc in
    (port ∷ before, bad, others, whole, holds)

abbrev IsBadEntry : Why → Items → Type 0
IsBadEntry why entries = ((why ≡ Kind key.Ports) × HasEntry (λ entry. as_integer entry ≡ None) (array entries)) ⊎ ((why ≡ Range key.Ports) × HasEntry (IsOutside 1 65535) (array entries))

each_broken : (entries : Items) (why : Why) → each port_of entries ≡ Err why → IsBadEntry why entries
each_broken no_items why h = cc
each_broken (item entry entries) why h =
    elim (both_err (port_of entry) (λ port. each port_of entries >>= (λ ports. Ok (port ∷ ports))) why h) [
      | inl here ↦
          elim (whole_fault key.Ports 1 65535 entry why here) [
            | inl other ↦ let (same, none) = other in inl (same, entry_first (λ e. as_integer e ≡ None) entry entries none)
            | inr outside ↦ let (same, out) = outside in inr (same, entry_first (IsOutside 1 65535) entry entries out)
          ]
      | inr is_port ↦
          let (port, read, rest) = is_port in
          let is : entry ≡ entry_of port = (port_since entry port read).0 in
          elim (both_err (each port_of entries) (λ ports. Ok (port ∷ ports)) why rest) [
            | inl later ↦
                elim (each_broken entries why later) [
                  | inl other ↦ let (same, bad) = other in inl (same, entry_later (λ e. as_integer e ≡ None) entry entries port is bad)
                  | inr outside ↦ let (same, bad) = outside in inr (same, entry_later (IsOutside 1 65535) entry entries port is bad)
                ]
            | inr none ↦ let (ports, read_too, wrong) = none in let never : Ok (port ∷ ports) ≡ Err why = wrong in cc
          ]
    ]

-- where a port stands among others
among : (port : ℕ) (ports : List ℕ) → list_any (λ other. eqb other port) ports ≡ true → (before : List ℕ) × (others : List ℕ) × (ports ≡ before ++ port ∷ others)
among port [] h = cc
among port (first ∷ ports) h =
    elim (cases_Bool (eqb first port)) [
      | inl same ↦ ([], ports, ap (λ p. p ∷ ports) (eqb-true first port same))
      | inr other ↦
          let (before, others, split) = among port ports (rw other at h) in
          (first ∷ before, others, ap (λ ps. first ∷ ps) split)
    ]

pub repeated : (ports : List ℕ) (port : ℕ) → first_twice ports ≡ Some port → (before : List ℕ) × (between : List ℕ) × (others : List ℕ) × (ports ≡ before ++ port ∷ (between ++ port ∷ others))
repeated [] port h = cc
repeated (first ∷ ports) port h =
    elim (cases_Bool (list_any (λ other. eqb other first) ports)) [
      | inl again ↦
          let same : first ≡ port = let there : Some first ≡ Some port = rw again at h in cc in
          let (between, others, split) = among first ports again in
          rw (← same) ([], between, others, ap (λ ps. first ∷ ps) split)
      | inr apart ↦
          let (before, between, others, split) = repeated ports port (rw apart at h) in
          (first ∷ before, between, others, ap (λ ps. first ∷ ps) split)
    ]

twice_since : (twice : Option ℕ) (ports : List ℕ) (why : Why) → unless_twice twice ports ≡ Err why → (port : ℕ) × (twice ≡ Some port) × (why ≡ Twice port)
twice_since None ports why h = cc
twice_since (Some port) ports why h = let same : why ≡ Twice port = cc in (port, refl, same)

entries_broken : (table : Members) (why : Why) (d : Data) (entries : Items) → value_at key.Ports table ≡ Some d → d ≡ array entries → ports_in entries ≡ Err why → Breaks table why
entries_broken table why d entries seen is h =
    elim (cases_Bool (eqb (count_of entries) 0 || ltb 64 (count_of entries))) [
      | inl wrong ↦
          let same : why ≡ Count key.Ports (count_of entries) = let there : Err (Count key.Ports (count_of entries)) ≡ Err why = rw wrong at h in cc in
          let (list, as_list) = listed entries in
          let counted : length list ≡ count_of entries = sym (ap count_of as_list ∙ count_listed list) in
          let bounds : (count_of entries ≡ 0) ⊎ (64 < count_of entries) =
          elim (or_cases (eqb (count_of entries) 0) (ltb 64 (count_of entries)) wrong) [
            | inl none ↦ inl (eqb-true (count_of entries) 0 none)
            | inr many ↦ inr (ltb-true 64 (count_of entries) many)
          ] in
          rw same (list, seen ∙ ap Some (is ∙ ap array as_list), counted, bounds)
      | inr right ↦
          elim (both_err (each port_of entries) distinct why (rw right at h)) [
            | inl bad ↦
                elim (each_broken entries why bad) [
                  | inl other ↦ let (same, has) = other in rw same (d, seen, inr (rw is has))
                  | inr outside ↦ let (same, has) = outside in rw same (d, seen, rw is has)
                ]
            | inr read ↦
                let (ports, ports_read, again) = read in
                let (port, twice, same) = twice_since (first_twice ports) ports why again in
                let (before, between, others, split) = repeated ports port twice in
                let whole : entries ≡ items_of (map entry_of (before ++ port ∷ (between ++ port ∷ others))) = (each_since entries ports ports_read).0 ∙ ap (λ ps. items_of (map entry_of ps)) split in
                rw same (before, between, others, seen ∙ ap Some (is ∙ ap array whole))
          ]
    ]

ports_broken : (table : Members) (why : Why) (value : Option Data) → value_at key.Ports table ≡ value → ports_of value ≡ Err why → Breaks table why
ports_broken table why None seen h = let same : why ≡ Missing key.Ports = cc in rw same seen
ports_broken table why (Some d) seen h =
    elim (both_err (ok_or (as_array d) (Kind key.Ports)) ports_in why h) [
      | inl other ↦
          let (none, same) = none_since (as_array d) (Kind key.Ports) why other in
          rw same (d, seen, inl none)
      | inr an_array ↦
          let (entries, is, bad) = an_array in
          entries_broken table why d entries seen (array_since d entries (some_since _ _ entries is)) bad
    ]

-- a value that is not as its key wants it
fault_breaks : (key : Key) (table : Members) (why : Why) → HasFault key table why → Breaks table why
fault_breaks key table why (inl (same, has)) = rw same has
fault_breaks key table why (inr (same, has)) = rw same has

pub each_refusal_is_of_a_broken_rule : EachRefusalIsOfABrokenRule
each_refusal_is_of_a_broken_rule table why =
    let P : Type 0 = Breaks table why in
    by_steps (known_keys form.Sites table) _ why P (λ h. let (name, same, has) = unknown_fault form.Sites table why h in rw same has) (λ known _.
    by_steps (ports_of (value_at key.Ports table)) _ why P (ports_broken table why _ refl) (λ ports _.
    by_steps (common_of table) _ why P
    (common_fault table why P (fault_breaks key.Heaps table why) (fault_breaks key.Workers table why) (fault_breaks key.Connections table why) (fault_breaks key.Clients table why) (fault_breaks key.Timeout table why)
    (fault_breaks key.WriteTimeout table why) (fault_breaks key.Output table why)) (λ common _.
    by_steps (log_level_of (value_at key.LogLevel table)) _ why P (λ h. fault_breaks key.LogLevel table why (log_level_fault table why _ refl h)) (λ log_level _.
    by_steps (seed_of (value_at key.Seed table)) _ why P (λ h. fault_breaks key.Seed table why (seed_fault table why h)) (λ seed _.
    by_steps (rule_of (value_at key.Rule table)) _ why P (λ h. fault_breaks key.Rule table why (rule_fault table why _ refl h)) (λ rule _ wrong. cc))))))
