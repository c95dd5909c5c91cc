-- A refusal of a step in the settings of one site is of a broken rule.
use Rattle.zq_settings.proofs.AddressFaults.{AddressFault}
use Rattle.zq_settings.proofs.Faults.{HasFault}
use Rattle.std.proofs.Common.{◌≡◌, ◌⊎◌, Bool, false, None, inl, inr}
use Rattle.toml.specs.Data.{Members}
use Rattle.zq_settings.specs.SiteBreaks.{HasKey, HasValue, IsExposed, SiteBreaks}
use Rattle.zq_settings.specs.Tables.{value_at}
use Rattle.zq_settings.specs.declared.key.Key.{Key}
use Rattle.zq_settings.specs.declared.why.Why.{Why}
use Rattle.zq_settings.specs.declared.why.Why.TheVariants.{Missing, Exposed}

-- a value that is not as its key wants it, in the table that the key is of
pub fault_breaks : (table t : Members) (key : Key) (lift : (P : Members → Type 0) → P t → HasKey key P table) (why : Why) → HasFault key t why → SiteBreaks table why
fault_breaks table t key lift why (inl (same, has)) = rw same (lift _ has)
fault_breaks table t key lift why (inr (same, has)) = rw same (lift _ has)

pub missing_breaks : (table t : Members) (key : Key) (lift : (P : Members → Type 0) → P t → HasKey key P table) (why : Why) → ((why ≡ Missing key) × (value_at key t ≡ None)) ⊎ HasFault key t why → SiteBreaks table why
missing_breaks table t key lift why (inl (same, none)) = rw same (lift _ none)
missing_breaks table t key lift why (inr fault) = fault_breaks table t key lift why fault

pub address_breaks : (table t : Members) (at : Key) (lift : (P : Members → Type 0) → P t → HasKey at P table) (secured : Bool) → (secured ≡ false → HasValue at (IsExposed at) table → SiteBreaks table (Exposed at))
    → (why : Why) → AddressFault secured at t why → SiteBreaks table why
address_breaks table t at lift secured breaks why (inl fault) = missing_breaks table t at lift why fault
address_breaks table t at lift secured breaks why (inr (same, none, has)) = rw same (breaks none (lift _ has))
