-- What options in memory are, apart from where their words lie.

use Rattle.std.specs.Borrow.{Bor}
use Rattle.std.specs.Option.{option_map}
use Rattle.std.specs.Prelude.{List, ℕ}
use Rattle.zq_client.specs.Options.{Asks}
use Rattle.zq_client.specs.declared.options.Options.{Options}
use Rattle.zq_words.specs.Words.{Word}

abbrev pub entry_shown : Bor (List ℕ) × Bor (List ℕ) → Word × Word
entry_shown entry = (entry.0.now, entry.1.now)

abbrev pub name_shown : Bor (List ℕ) → Word
name_shown name = name.now

abbrev pub shown : Options → Asks
shown options = record {
  entry = option_map entry_shown options.entry;
  name = option_map name_shown options.name;
}
