-- The lines of what a log holds.

use Rattle.std.specs.Prelude.{List, None, Option, Some, [], codes, decimal, flat_map, if◌then◌else◌, length, map, slice_index, ℕ, ◌++◌}
use Rattle.zq_dots.specs.declared.rule.Rule.{Rule}
use Rattle.zq_dots.specs.declared.rule.Rule.TheVariants.{High, Low}
use Rattle.zq_entries.specs.declared.start.Start.{Start}
use Rattle.zq_inspect.specs.Keys.{keys_from}
use Rattle.zq_inspect.specs.Lines.{hex_pair, number_line, word_line}
use Rattle.zq_inspect.specs.Words.{fault_text}
use Rattle.zq_inspect.specs.declared.inspection.Inspection.{Inspection}
use Rattle.zq_inspect.specs.declared.state.State.{State}
use Rattle.zq_inspect.specs.declared.state.State.TheVariants.{Damaged, Empty, Refused, Torn, Whole}
use Rattle.zq_keeper.specs.declared.reader.Reader.{Reader}
use Rattle.zq_model.specs.Rows.{Row, rows_of}
use Rattle.zq_stage.specs.Piece.{Staged}

abbrev pub state_word : State → List ℕ
state_word Whole = codes "whole"
state_word Torn = codes "torn"
state_word Empty = codes "empty"
state_word Damaged = codes "damaged"
state_word (Refused refusal) = codes "refused"

-- where it is not whole, at which byte and why
abbrev pub fault_lines : Option (List ℕ) → ℕ → List ℕ
fault_lines None place = []
fault_lines (Some words) place =
    number_line (codes "at") place ++ word_line (codes "why") words

abbrev pub state_lines : Inspection → List ℕ
state_lines x = word_line (codes "state") (state_word x.state)
    ++ fault_lines (fault_text x.state) x.place

abbrev pub rule_word : Rule → List ℕ
rule_word High = codes "HIGH"
rule_word Low = codes "LOW"

abbrev pub size_lines : Inspection → List ℕ
size_lines x = number_line (codes "records") x.records ++ number_line (codes "bytes") x.bytes
    ++ number_line (codes "torn") x.torn ++ number_line (codes "ahead") x.ahead

abbrev pub start_lines : Start → List ℕ
start_lines s = number_line (codes "site") s.site ++ number_line (codes "heaps") s.heaps
    ++ word_line (codes "rule") (rule_word s.rule)
    ++ word_line (codes "run") (flat_map hex_pair s.folder)
    ++ number_line (codes "start") s.number

-- how many keys the rows of a heap are of
abbrev pub key_count : Staged → ℕ
key_count t = keys_from None (map (λ (row : Row). row.key) (rows_of t.held.image))

abbrev pub end_of : Staged → List ℕ
end_of t = if t.whole then codes "\n" else codes " pieces missing\n"

-- the number of a heap, how many keys and members it has, and the counter of the site's last
-- operation in it
abbrev pub heap_line : ℕ → Staged → List ℕ
heap_line site t = codes "heap " ++ decimal t.held.heap ++ codes " keys " ++ decimal (key_count t)
    ++ codes " members " ++ decimal (length (rows_of t.held.image)) ++ codes " own "
    ++ decimal (slice_index t.held.image.vector site) ++ end_of t

abbrev pub heap_lines : ℕ → List Staged → List ℕ
heap_lines site stages = flat_map (heap_line site) stages

-- those of a site, once there is a start of it
abbrev pub site_lines_from : Option Start → Reader → List ℕ
site_lines_from None reader = []
site_lines_from (Some start) reader = start_lines start
    ++ heap_lines reader.recovery.identity.site reader.recovery.stages.items

abbrev pub site_lines : Reader → List ℕ
site_lines reader = site_lines_from reader.recovery.start reader

abbrev pub reader_lines : Option Reader → List ℕ
reader_lines None = []
reader_lines (Some reader) = site_lines reader

abbrev pub report_lines : Inspection → List ℕ
report_lines x = state_lines x ++ size_lines x ++ reader_lines x.reader
