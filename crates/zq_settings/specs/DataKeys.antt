-- What a site keeps on disk, and what waits for the disk.
use Rattle.std.specs.Prelude.{ℕ, List, codes, Option, Some, None, Result, Ok, Err, if◌then◌else◌}
use Rattle.std.specs.Option.{ok_or}
use Rattle.std.specs.Str.{bytes_eq}
use Rattle.toml.specs.Data.{Data, Members, as_str}
use Rattle.zq_settings.specs.Folders.{is_folder}
use Rattle.zq_settings.specs.Settings.{◌>>=◌}
use Rattle.zq_settings.specs.Tables.{value_at}
use Rattle.zq_settings.specs.declared.key.Key.TheVariants as key
use Rattle.zq_settings.specs.declared.sync_mode.SyncMode.{SyncMode}
use Rattle.zq_settings.specs.declared.sync_mode.SyncMode.TheVariants.{Always, Soon}
use Rattle.zq_settings.specs.declared.values.DiskSettings.{DiskSettings}
use Rattle.zq_settings.specs.declared.why.Why.{Why}
use Rattle.zq_settings.specs.declared.why.Why.TheVariants.{Kind, Range}

abbrev pub unless_no_path : List ℕ → Result (Option (List ℕ)) Why
unless_no_path text = if is_folder text then Ok (Some text) else Err (Range key.Data)

-- a folder, where there is one
abbrev pub data_of : Option Data → Result (Option (List ℕ)) Why
data_of None = Ok None
data_of (Some value) = ok_or (as_str value) (Kind key.Data) >>= unless_no_path

-- what waits that has this word, in small letters
abbrev pub sync_named : List ℕ → Option SyncMode
sync_named word = if bytes_eq word (codes "always") then Some Always else if bytes_eq word
    (codes "soon") then Some Soon else None

-- and how it is written
abbrev pub sync_word : SyncMode → List ℕ
sync_word Always = codes "always"
sync_word Soon = codes "soon"

-- what waits by its word, and always where there is no value
abbrev pub sync_of : Option Data → Result SyncMode Why
sync_of None = Ok Always
sync_of (Some value) = ok_or (as_str value) (Kind key.Sync) >>=
    (λ word. ok_or (sync_named word) (Range key.Sync))

-- the keys of what a site keeps
abbrev pub data_keys_of : Members → Result DiskSettings Why
data_keys_of table =
    data_of (value_at key.Data table) >>= (λ path.
    sync_of (value_at key.Sync table) >>= (λ sync.
    Ok (record { path = path; sync = sync })))
