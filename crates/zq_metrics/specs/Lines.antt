-- The lines of the text format of Prometheus.

use Rattle.std.specs.Prelude.{List, codes, decimal, ℕ, ◌++◌}
use Rattle.zq_metrics.specs.Metrics.{help_of, name_of, sort_of, sort_word}
use Rattle.zq_metrics.specs.declared.metric.Metric.{Metric}

-- the end of a line: a blank, a value and a newline
abbrev pub valued : ℕ → List ℕ
valued value = codes " " ++ decimal value ++ codes "\n"

-- a label with its value, in brackets
abbrev pub labelled : List ℕ → List ℕ → List ℕ
labelled label value = codes "{" ++ label ++ codes "=\"" ++ value ++ codes "\"}"

-- what a metric says, and what it is
unfoldable pub head : Metric → List ℕ
head metric =
    codes "# HELP " ++ name_of metric ++ codes " " ++ help_of metric ++ codes "\n# TYPE "
    ++ name_of metric ++ codes " " ++ sort_word (sort_of metric) ++ codes "\n"

unfoldable pub plain : Metric → ℕ → List ℕ
plain metric value = name_of metric ++ valued value

-- a line with one label, whose value is a word
unfoldable pub by_word : Metric → List ℕ → List ℕ → ℕ → List ℕ
by_word metric label word value = name_of metric ++ labelled label word ++ valued value

unfoldable pub by_heap : Metric → ℕ → ℕ → List ℕ
by_heap metric heap value =
    name_of metric ++ labelled (codes "heap") (decimal heap) ++ valued value

unfoldable pub by_peer : Metric → ℕ → ℕ → List ℕ
by_peer metric peer value =
    name_of metric ++ labelled (codes "peer") (decimal peer) ++ valued value

-- what came from a peer, or went to it
unfoldable pub one_way : Metric → ℕ → List ℕ → ℕ → List ℕ
one_way metric peer way value =
    name_of metric ++ codes "{peer=\"" ++ decimal peer ++ codes "\"," ++ codes "direction=\"" ++ way
    ++ codes "\"}" ++ valued value

unfoldable pub both_ways : Metric → ℕ → ℕ → ℕ → List ℕ
both_ways metric peer came went =
    one_way metric peer (codes "in") came ++ one_way metric peer (codes "out") went

-- how many took no longer than a bound
unfoldable pub bucket : Metric → List ℕ → ℕ → List ℕ
bucket metric bound value =
    name_of metric ++ codes "_bucket" ++ labelled (codes "le") bound ++ valued value

-- how long all took together, in seconds, and how many there are
unfoldable pub sum_and_count : Metric → ℕ → ℕ → List ℕ
sum_and_count metric nanoseconds count =
    name_of metric ++ codes "_sum " ++ decimal nanoseconds ++ codes "e-9\n"
    ++ name_of metric ++ codes "_count" ++ valued count
