-- What a site is asked in memory is what the words ask.
use Rattle.std.specs.Option.{option_map}
use Rattle.std.specs.Prelude.{Err, Ok, Option, Result, ◌≡◌}
use Rattle.zq_dialect.specs.Further.{Asking, Finding}
use Rattle.zq_words.specs.Calls.{call_shown}
use Rattle.zq_words.specs.declared.refused.Refused.{Refused}
use Rattle.zq_words.specs.declared.site_call.SiteCall.{SiteCall}

abbrev pub Asks : Result SiteCall Refused → Asking → Type 0
Asks (Ok call) asking = asking ≡ Ok (call_shown call)
Asks (Err why) asking = asking ≡ Err why

abbrev pub Finds : Result (Option SiteCall) Refused → Finding → Type 0
Finds (Ok found) finding = finding ≡ Ok (option_map call_shown found)
Finds (Err why) finding = finding ≡ Err why
