-- What a site keeps is what the table says, and what is wrong where it is refused.
use Rattle.std.proofs.Common.{◌≡◌, ◌∙◌, Bool, ap, codes, false, inl, inr, List, None, Ok, Err, Option, refl, Some, true, ℕ}
use Rattle.std.proofs.lemmas.Bool.{cases_Bool}
use Rattle.std.proofs.lemmas.Slice.Eq.{bytes_eq-Decides}
use Rattle.std.specs.Option.{ok_or}
use Rattle.std.specs.Str.{bytes_eq}
use Rattle.toml.specs.Data.{Data, Members, as_str, string}
use Rattle.zq_settings.proofs.Faults.{HasFault, by_steps}
use Rattle.zq_settings.proofs.SiteFaults.{fault_breaks}
use Rattle.zq_settings.proofs.Steps.{both_err, both_ok, none_since, some_since, text_since}
use Rattle.zq_settings.specs.DataKeys.{data_keys_of, data_of, sync_named, sync_of, sync_word, unless_no_path}
use Rattle.zq_settings.specs.Folders.{is_folder}
use Rattle.zq_settings.specs.SiteBreaks.{SiteBreaks}
use Rattle.zq_settings.specs.SiteRules.{AreDataKeys, IsData, IsSync}
use Rattle.zq_settings.specs.Tables.{value_at}
use Rattle.zq_settings.specs.declared.key.Key.TheVariants as key
use Rattle.zq_settings.specs.declared.sync_mode.SyncMode.{SyncMode}
use Rattle.zq_settings.specs.declared.sync_mode.SyncMode.TheVariants.{Always, Soon}
use Rattle.zq_settings.specs.declared.values.DiskSettings.{DiskSettings}
use Rattle.zq_settings.specs.declared.why.Why.{Why}
use Rattle.zq_settings.specs.declared.why.Why.TheVariants.{Kind, Range}

-- a text is a path, or it is refused for that
abbrev PathCases : List ℕ → Type 0
PathCases text = ((path : Option (List ℕ)) → unless_no_path text ≡ Ok path → (is_folder text ≡ true) × (path ≡ Some text))
    × ((why : Why) → unless_no_path text ≡ Err why → (is_folder text ≡ false) × (why ≡ Range key.Data))

path_cases : (text : List ℕ) → PathCases text
path_cases text =
    elim (cases_Bool (is_folder text)) [
      | inl is ↦ (
        λ path h. let there : Ok (Some text) ≡ Ok path = rw is at h in let same : path ≡ Some text = cc in (is, same),
        λ why h. let never : Ok (Some text) ≡ Err why = rw is at h in cc,
      )
      | inr other ↦ (
        λ path h. let never : Err (Range key.Data) ≡ Ok path = rw other at h in cc,
        λ why h. let there : Err (Range key.Data) ≡ Err why = rw other at h in let same : why ≡ Range key.Data = cc in (other, same),
      )
    ]

data_since : (path : Option (List ℕ)) (value : Option Data) → data_of value ≡ Ok path → IsData value path
data_since path None h = let none : path ≡ None = cc in inl (refl, none)
data_since path (Some d) h =
    let (text, is_text, read) = both_ok (ok_or (as_str d) _) unless_no_path path h in
    let (is, same) = (path_cases text).0 path read in
    inr (text, ap Some (text_since d text (some_since _ _ text is_text)), is, same)

data_from : (path : Option (List ℕ)) (value : Option Data) → IsData value path → data_of value ≡ Ok path
data_from path value (inl (none, same)) = rw (none, same)
data_from path value (inr (text, some, is, same)) = rw (some, is, same)

data_fault : (table : Members) (why : Why) (value : Option Data) → value_at key.Data table ≡ value → data_of value ≡ Err why → HasFault key.Data table why
data_fault table why None seen h = cc
data_fault table why (Some d) seen last =
    by_steps (ok_or (as_str d) (Kind key.Data)) unless_no_path why (HasFault key.Data table why) (λ h.
    let (none, same) = none_since (as_str d) (Kind key.Data) why h in
    inl (same, (d, seen, none))) (λ text is_text h.
    let (other, same) = (path_cases text).1 why h in
    inr (same, (d, seen, (text, text_since d text (some_since _ _ text is_text), other)))) last

-- the words of what waits
sync_word_since : (word : List ℕ) (sync : SyncMode) → sync_named word ≡ Some sync → word ≡ sync_word sync
sync_word_since word sync h =
    elim (cases_Bool (bytes_eq word (codes "always"))) [
      | inl always ↦
          let same : Always ≡ sync = let there : Some Always ≡ Some sync = rw always at h in cc in
          (bytes_eq-Decides word (codes "always")).0 always ∙ ap sync_word same
      | inr not_always ↦
          elim (cases_Bool (bytes_eq word (codes "soon"))) [
            | inl soon ↦
                let same : Soon ≡ sync = let there : Some Soon ≡ Some sync = rw (not_always, soon) at h in cc in
                (bytes_eq-Decides word (codes "soon")).0 soon ∙ ap sync_word same
            | inr not_soon ↦ let none : None ≡ Some sync = rw (not_always, not_soon) at h in cc
          ]
    ]

sync_word_from : (sync : SyncMode) → sync_named (sync_word sync) ≡ Some sync
sync_word_from Always = refl
sync_word_from Soon = refl

sync_since : (sync : SyncMode) (value : Option Data) → sync_of value ≡ Ok sync → IsSync value sync
sync_since sync None h = let same : sync ≡ Always = cc in inl (refl, same)
sync_since sync (Some d) h =
    let (word, text, named) = both_ok (ok_or (as_str d) _) _ sync h in
    inr (ap Some (text_since d word (some_since _ _ word text) ∙ ap string (sync_word_since word sync (some_since _ _ sync named))))

sync_from : (sync : SyncMode) (value : Option Data) → IsSync value sync → sync_of value ≡ Ok sync
sync_from sync value (inl (none, same)) = rw (none, same)
sync_from sync value (inr some) = rw (some, sync_word_from sync)

sync_fault : (table : Members) (why : Why) (value : Option Data) → value_at key.Sync table ≡ value → sync_of value ≡ Err why → HasFault key.Sync table why
sync_fault table why None seen h = cc
sync_fault table why (Some d) seen h =
    elim (both_err (ok_or (as_str d) (Kind key.Sync)) (λ word. ok_or (sync_named word) (Range key.Sync)) why h) [
      | inl other ↦
          let (none, same) = none_since (as_str d) (Kind key.Sync) why other in
          inl (same, (d, seen, none))
      | inr text ↦
          let (word, is, unnamed) = text in
          let (none, same) = none_since (sync_named word) (Range key.Sync) why unnamed in
          inr (same, (d, seen, (word, text_since d word (some_since _ _ word is), none)))
    ]

-- all keys of what a site keeps
pub data_keys_since : (table : Members) (disk : DiskSettings) → data_keys_of table ≡ Ok disk → AreDataKeys table disk
data_keys_since table disk h =
    let (path, path_read, h1) = both_ok (data_of (value_at key.Data table)) _ disk h in
    let (sync, sync_read, h2) = both_ok (sync_of (value_at key.Sync table)) _ disk h1 in
    let whole : record { path = path; sync = sync } ≡ disk = cc in
    rw (← whole) (record {
      path = data_since path _ path_read;
      sync = sync_since sync _ sync_read;
    })

pub data_keys_from : (table : Members) (disk : DiskSettings) → AreDataKeys table disk → data_keys_of table ≡ Ok disk
data_keys_from table disk are =
    rw (
      data_from disk.path _ are.path,
      sync_from disk.sync _ are.sync,
    )

pub data_keys_break : (table : Members) (why : Why) → data_keys_of table ≡ Err why → SiteBreaks table why
data_keys_break table why =
    let P : Type 0 = SiteBreaks table why in
    by_steps (data_of (value_at key.Data table)) _ why P (λ h. fault_breaks table table key.Data (λ Q q. q) why (data_fault table why _ refl h)) (λ path _.
    by_steps (sync_of (value_at key.Sync table)) _ why P (λ h. fault_breaks table table key.Sync (λ Q q. q) why (sync_fault table why _ refl h)) (λ sync _ wrong. cc))
