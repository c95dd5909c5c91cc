-- What is wrong where an address with a port is refused.
use Rattle.zq_settings.proofs.Faults.{HasFault, by_steps}
use Rattle.zq_settings.proofs.Spelled.{address_since, loopback_from, no_address}
use Rattle.zq_settings.proofs.Steps.{none_since, some_since, text_since}
use Rattle.std.proofs.Common.{◌≡◌, ◌⊎◌, ◌∙◌, ℕ, Bool, true, false, List, Option, Some, None, Ok, Err, refl, sym, inl, inr}
use Rattle.std.proofs.lemmas.Bool.{cases_Bool}
use Rattle.std.specs.Net.Grammar.{IsSocketText}
use Rattle.std.specs.Option.{ok_or}
use Rattle.std.specs.declared.net.socket_addr.SocketAddr.{SocketAddr}
use Rattle.toml.specs.Data.{Data, Members, as_str, string}
use Rattle.zq_settings.specs.Addresses.{IsLoopback, IsNoAddress, address_of, is_local}
use Rattle.zq_settings.specs.Breaks.{IsOfOtherKind, IsOutOfRange, IsText}
use Rattle.zq_settings.specs.Site.{address_at, unless_exposed}
use Rattle.zq_settings.specs.SiteBreaks.{IsExposed}
use Rattle.zq_settings.specs.Tables.{value_at}
use Rattle.zq_settings.specs.declared.key.Key.{Key}
use Rattle.zq_settings.specs.declared.why.Why.{Why}
use Rattle.zq_settings.specs.declared.why.Why.TheVariants.{Missing, Kind, Range, Exposed}

-- an address that is not taken
exposed_since : (secured : Bool) (key : Key) (a : SocketAddr) (why : Why) → unless_exposed secured key a ≡ Err why → (why ≡ Exposed key) × (secured ≡ false) × (is_local a ≡ false)
exposed_since true key a why h = cc
exposed_since false key a why h =
    elim (cases_Bool (is_local a)) [
      | inl local ↦ let never : Ok a ≡ Err why = rw local at h in cc
      | inr other ↦ let same : why ≡ Exposed key = let there : Err (Exposed key) ≡ Err why = rw other at h in cc in (same, refl, other)
    ]

abbrev HasExposed : Key → Members → Type 0
HasExposed key t = (value : Data) × (value_at key t ≡ Some value) × IsExposed key value

-- there is no address, or none that the key takes, or one that is open to others
abbrev pub AddressFault : Bool → Key → Members → Why → Type 0
AddressFault secured key t why = (((why ≡ Missing key) × (value_at key t ≡ None)) ⊎ HasFault key t why) ⊎ ((why ≡ Exposed key) × (secured ≡ false) × HasExposed key t)

-- a text that writes an address that is no loopback address
abbrev pub WritesFar : Data → Type 0
WritesFar value = (text : List ℕ) × (address : SocketAddr) × (value ≡ string text) × IsSocketText text address × ¬ IsLoopback address

pub address_fault : (secured : Bool) (key : Key) (t : Members) (kind : (d : Data) → as_str d ≡ None → IsOfOtherKind key d) (range : (d : Data) → IsText IsNoAddress d → IsOutOfRange key d)
    (far : (d : Data) → WritesFar d → IsExposed key d) (why : Why) (value : Option Data) → value_at key t ≡ value → address_at secured key value ≡ Err why → AddressFault secured key t why
address_fault secured key t kind range far why None seen h = let same : why ≡ Missing key = cc in inl (inl (same, seen))
address_fault secured key t kind range far why (Some d) seen last =
    by_steps (ok_or (as_str d) (Kind key)) _ why (AddressFault secured key t why) (λ h.
    let (none, same) = none_since (as_str d) (Kind key) why h in
    inl (inr (inl (same, (d, seen, kind d none))))) (λ text is_text.
    let writes : d ≡ string text = text_since d text (some_since _ _ text is_text) in
    by_steps (ok_or (address_of text) (Range key)) (unless_exposed secured key) why (AddressFault secured key t why) (λ h.
    let (none, same) = none_since (address_of text) (Range key) why h in
    inl (inr (inr (same, (d, seen, range d (text, writes, no_address text none)))))) (λ a written h.
    let (same, bare, other) = exposed_since secured key a why h in
    let spells = (address_since text a (some_since _ _ a written)).0 in
    let abroad : ¬ IsLoopback a = λ loop. let never : true ≡ false = sym (loopback_from a loop) ∙ other in cc in
    inr (same, bare, (d, seen, far d (text, a, writes, spells, abroad))))) last
