-- The ports of an array.
use Rattle.zq_settings.proofs.MeantNumbers.{whole_since}
use Rattle.zq_settings.proofs.Steps.{both_ok, some_since, array_since, within_from}
use Rattle.std.proofs.Common.{◌≡◌, ◌≤◌, ℕ, suc, false, eqb, ltb, ◌||◌, List, [], ◌∷◌, length, map, Option, Some, None, Ok, Err, refl, ap, ◌∙◌, inl, inr, arith}
use Rattle.std.proofs.lemmas.Bool.{cases_Bool, or_parts, or_from, le-ltb, ltb-false, eqb-false, ne_eqb}
use Rattle.std.proofs.lemmas.List.Elements.{All-nil, All-cons, All-head, All-tail}
use Rattle.std.specs.List.{All}
use Rattle.std.specs.Option.{ok_or}
use Rattle.toml.specs.Data.{Data, array, Items, no_items, item, as_array}
use Rattle.toml.specs.View.{items_of}
use Rattle.zq_settings.proofs.Apart.{distinct_since, none_twice}
use Rattle.zq_settings.specs.Ports.{first_twice}
use Rattle.zq_settings.specs.Rules.{AreEntries, entry_of}
use Rattle.zq_settings.specs.Settings.{count_of, each, port_of, unless_twice, distinct, ports_in, ports_of}
use Rattle.zq_settings.specs.declared.key.Key.TheVariants as key

-- the bounds of a port
abbrev pub IsPort : ℕ → Type 0
IsPort port = (1 ≤ port) × (port ≤ 65535)

pub port_since : (entry : Data) (port : ℕ) → port_of entry ≡ Ok port → (entry ≡ entry_of port) × IsPort port
port_since entry port h =
    let (same, low, high) = whole_since key.Ports 1 65535 port entry h in
    (same, (low, high))

pub port_from : (port : ℕ) → IsPort port → port_of (entry_of port) ≡ Ok port
port_from port (low, high) = rw (within_from 1 65535 port low high)

pub each_since : (entries : Items) (ports : List ℕ) → each port_of entries ≡ Ok ports → (entries ≡ items_of (map entry_of ports)) × All IsPort ports
each_since no_items ports h = let none : [] ≡ ports = cc in rw (← none) (refl, All-nil IsPort)
each_since (item entry entries) ports h =
    let (first, read, rest) = both_ok (port_of entry) _ ports h in
    let (others, others_read, joined) = both_ok (each port_of entries) _ ports rest in
    let whole : first ∷ others ≡ ports = cc in
    let (same, in_range) = port_since entry first read in
    let (all_same, all_in_range) = each_since entries others others_read in
    let entries_same : item entry entries ≡ item (entry_of first) (items_of (map entry_of others)) = cc in
    rw (← whole) (entries_same, All-cons IsPort first others in_range all_in_range)

pub each_from : (ports : List ℕ) → All IsPort ports → each port_of (items_of (map entry_of ports)) ≡ Ok ports
each_from [] all = refl
each_from (port ∷ ports) all = rw (port_from port (All-head IsPort port ports all), each_from ports (All-tail IsPort port ports all))

pub count_same : (ports : List ℕ) → count_of (items_of (map entry_of ports)) ≡ length ports
count_same [] = refl
count_same (port ∷ ports) = ap suc (count_same ports)

pub once_since : (twice : Option ℕ) (read ports : List ℕ) → unless_twice twice read ≡ Ok ports → (twice ≡ None) × (read ≡ ports)
once_since None read ports h = (refl, cc)
once_since (Some port) read ports h = cc

pub ports_since : (ports : List ℕ) (value : Option Data) → ports_of value ≡ Ok ports → AreEntries value ports
ports_since ports None h = cc
ports_since ports (Some d) h =
    let (entries, an_array, read) = both_ok (ok_or (as_array d) _) ports_in ports h in
    let count : ℕ = count_of entries in
    elim (cases_Bool (eqb (count_of entries) 0 || ltb 64 (count_of entries))) [
      | inl wrong ↦ let none : Err _ ≡ Ok ports = rw wrong at read in cc
      | inr right ↦
          let (each, each_read, apart) = both_ok (each port_of entries) distinct ports (rw right at read) in
          let (once, same) = once_since (first_twice each) each ports apart in
          let (entries_same, in_range) = each_since entries each each_read in
          let seen : d ≡ array entries = array_since d entries (some_since _ _ entries an_array) in
          let counted : count_of entries ≡ length each = ap count_of entries_same ∙ count_same each in
          let parts = or_parts (eqb (count_of entries) 0) (ltb 64 (count_of entries)) right in
          let some : count_of entries ≡ 0 → ⊥ = eqb-false (count_of entries) 0 parts.0 in
          let few : count_of entries ≤ 64 = ltb-false 64 (count_of entries) parts.1 in
          let lowest : 1 ≤ length each = omega (arith, counted, some) in
          let highest : length each ≤ 64 = omega (arith, counted, few) in
          rw (← same) (ap Some (seen ∙ ap array entries_same), in_range, (lowest, highest, distinct_since each once))
    ]

pub ports_from : (ports : List ℕ) (value : Option Data) → AreEntries value ports → ports_of value ≡ Ok ports
ports_from ports value (some, in_range, (lowest, highest, apart)) =
    let counted : count_of (items_of (map entry_of ports)) ≡ length ports = count_same ports in
    let right : (eqb (length ports) 0 || ltb 64 (length ports)) ≡ false = or_from _ _ (ne_eqb (length ports) 0 (λ none. omega (arith, none, lowest))) (le-ltb 64 (length ports) highest) in
    rw (some, counted, right, each_from ports in_range, none_twice ports apart)
